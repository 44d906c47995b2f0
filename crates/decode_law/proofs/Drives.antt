-- The front message of a lane is one that its station may send, so what a drive puts of it is heard.
use Rattle.std.proofs.Common.{◌≡◌, ℕ, ◌^◌, ◌%◌, ◌==◌, ◌||◌, ◌&&◌, not, Bool, true, false, cond, List, [], ◌∷◌, length, get_or, nat_lt, Option, Some, None, refl, sym, ap, ◌∙◌, subst}
use Rattle.std.specs.Prelude.{All, slice_get, is_some, unwrap_or}
use Rattle.std.specs.FinMap as finmap
use Rattle.std.proofs.lemmas.List.Elements.{All-head}
use Rattle.std.proofs.lemmas.List.Quantifiers.{position-Some}
use Rattle.std.proofs.lemmas.Option.{slice_get-get_or, same_Some}
use Rattle.std.proofs.lemmas.Bool.{eqb-true, ltb-true, and_parts}
use Rattle.pgn_ids.specs.Address.{is_one}
use Rattle.pgn_ids.specs.Pgn.{is_pdu1}
use Rattle.pgn_ids.specs.declared.address.Address.{Address}
use Rattle.tp_wire.specs.Rows.{one_or_all}
use Rattle.lane_core.specs.Lane.{Lane, new_lane, kind_for}
use Rattle.lane_core.specs.declared.message.Pending.{Pending}
use Rattle.port_table.specs.Ports.{is_any_paused}
use Rattle.station_lanes.specs.LaneCalls.{lane_to}
use Rattle.station_core.specs.Station.{Station, new_station}
use Rattle.session_table.specs.Key.{session_for}
use Rattle.segment_law.specs.Segment.{Segment, place_of, has_station, station_at}
use Rattle.segment_law.specs.Record.{Record, StandsAt}
use Rattle.segment_law.specs.Reached.{IsFitMessage, IsFitStation, IsReached}
use Rattle.segment_law.specs.Quiet.{is_to_all, may_broadcast, may_receive, has_place, takers, IsQuiet, IsQuietExchange}
use Rattle.segment_law.proofs.Booleans.{both_pass}
use Rattle.segment_law.proofs.Records.{stands_reached}
use Rattle.decode_law.specs.Hearing.{IsSendable, IsHeard, AreHeardAs, DrivesAreHeard}

-- a station with an address is one that calls lead to
record At (seg : Segment) (a : Address) : Type 0 where
  st : Station
  is : station_at seg a ≡ st
  address : st.address ≡ a
  fits : IsFitStation st

found_at : (seg : Segment) → IsReached seg → (a : Address) → has_station seg a ≡ true → At seg a
found_at seg r a = by (place_of seg a) refl
  where
    by : (o : Option ℕ) → place_of seg a ≡ o → is_some o ≡ true → At seg a
    by None e h = absurd cc
    by (Some i) e h =
        let default : Station = new_station a in
        let f = position-Some (λ (st : Station). st.address.0 == a.0) seg.stations i default e in
        let st : Station = get_or seg.stations i default in
        let here : slice_get seg.stations i ≡ Some st = slice_get-get_or seg.stations i default f.0 in
        record {
          st = st;
          is = ap (λ (o : Option ℕ). unwrap_or (elim o as (λ (_ : Option ℕ). Option Station) [ None ↦ None | Some j ↦ slice_get seg.stations j ]) default) e ∙ ap (λ (o : Option Station). unwrap_or o default) here;
          address = (λ k. record { 0 = eqb-true st.address.0 a.0 f.1 k });
          fits = r.stations i default f.0;
        }

-- the first message of its lane to a destination can be carried there
fits_front : (st : Station) → IsFitStation st → (to : ℕ) (m : Pending) → slice_get (lane_to st.address st.lanes to).pending 0 ≡ Some m → IsFitMessage to m
fits_front st fits to m = by (finmap.get st.lanes to) refl
  where
    front_of : (ps : List Pending) → All (IsFitMessage to) ps → slice_get ps 0 ≡ Some m → IsFitMessage to m
    front_of [] all e = absurd cc
    front_of (p ∷ ps) all e = subst (IsFitMessage to) (same_Some p m e) (All-head (IsFitMessage to) p ps all)

    by : (o : Option Lane) → finmap.get st.lanes to ≡ o → slice_get (elim o as (λ (_ : Option Lane). Lane) [ None ↦ new_lane st.address.0 to | Some l ↦ l ]).pending 0 ≡ Some m → IsFitMessage to m
    by None e h = absurd cc
    by (Some l) e h = front_of l.pending (fits.lanes to l e).pending h

sendable : (addresses : List Address) (steps : Record) (seg : Segment) (s d : Address) (m : Pending) → StandsAt addresses steps seg → IsQuiet seg s d m → IsSendable m s d
sendable addresses steps seg s d m stands q =
    let r : IsReached seg = stands_reached addresses steps seg stands in
    let x : At seg s = found_at seg r s q.sender in
    let msg : IsFitMessage d.0 m = fits_front x.st x.fits d.0 m (ap (λ (st : Station). slice_get (lane_to st.address st.lanes d.0).pending 0) (sym x.is) ∙ q.front) in
    record {
      pgn = ltb-true m.pgn (2 ^ 18) (and_parts (nat_lt m.pgn (2 ^ 18)) (not (is_pdu1 m.pgn) || m.pgn % 2 ^ 8 == 0) msg.pgn).0;
      least = msg.least;
      most = msg.most;
      source = ap (λ (a : Address). is_one a.0) (sym x.address) ∙ x.fits.own;
      destination = goes r (is_to_all d) refl;
    }
  where
    either : (a b : Bool) → b ≡ true → (a || b) ≡ true
    either true b e = refl
    either false b e = e

    first : (a b : Bool) → a ≡ true → (a || b) ≡ true
    first true b e = refl
    first false b e = absurd cc

    goes : IsReached seg → (b : Bool) → is_to_all d ≡ b → one_or_all d.0 ≡ true
    goes r true e = either (is_one d.0) (is_to_all d) e
    goes r false e =
        let receives : may_receive seg m s d ≡ true = ap (λ (b : Bool). cond b (may_broadcast seg m) (may_receive seg m s d)) (sym e) ∙ q.receiver in
        let st : Station = station_at seg d in
        let a = both_pass (has_station seg d && has_place st m s (session_for (kind_for (length m.bytes)))) (not (is_any_paused st.ports (takers st m))) receives in
        let has : has_station seg d ≡ true = (both_pass (has_station seg d) (has_place st m s (session_for (kind_for (length m.bytes)))) a.0).0 in
        let y : At seg d = found_at seg r d has in
        first (is_one d.0) (is_to_all d) (ap (λ (a : Address). is_one a.0) (sym y.address) ∙ y.fits.own)

pub drives_heard : ((d : Address) → IsQuietExchange d) → ((m : Pending) (s d : Address) → IsSendable m s d → IsHeard m s d) → DrivesAreHeard
drives_heard undisturbed heard addresses steps seg s d m stands q =
    subst (λ fs. AreHeardAs fs m s d) (sym (undisturbed d addresses steps seg s m stands q).frames) (heard m s d (sendable addresses steps seg s d m stands q))
