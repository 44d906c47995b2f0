-- How a message under way is kept.
use Rattle.std.specs.Prelude.{◌≡◌, true}
use Rattle.tp_wire.specs.Sizes.{is_size_of}
use Rattle.std.proofs.Common.{refl}
use Rattle.pgn_ids.specs.Address.{is_one}
use Rattle.seg_cut.specs.Packets.{packet_count}
use Rattle.originator.specs.Link.{Link}
use Rattle.originator.specs.declared.link.Link.TheInside.{Inside}

-- what the fields say
abbrev pub view_link : Inside → Link
view_link a = record { kind = a.kind; from = a.from.0; to = a.to.0; pgn = a.pgn; len = a.len }

-- both are addresses of one node; the number of packets is kept, so that it isn't divided again
pub record IsLink (a : Inside) : Type 0 where
  pub from_one : is_one a.from.0 ≡ true
  pub to_one : is_one a.to.0 ≡ true
  pub in_range : is_size_of a.kind a.len ≡ true
  pub kept : a.packets ≡ packet_count a.len

-- the fields that a link is kept in
abbrev pub link_fields : Link → Inside
link_fields l = record {
  kind = l.kind;
  from = record { 0 = l.from };
  to = record { 0 = l.to };
  pgn = l.pgn;
  len = l.len;
  packets = packet_count l.len;
}

-- nothing of the fields is lost
pub link_fields_back : (a : Inside) → IsLink a → link_fields (view_link a) ≡ a
link_fields_back a h = rw (← h.kept) refl
