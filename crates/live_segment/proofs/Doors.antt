-- What was given at the doors, and which of their ports are known.
use Rattle.std.proofs.Common.{◌≡◌, false, List, ◌∷◌, ◌++◌, refl, sym, ◌∙◌, ap, subst, []}
use Rattle.port_table.specs.declared.port.PortId.{PortId}
use Rattle.message_events.specs.declared.event.Event.{Event}
use Rattle.message_events.specs.declared.event.Event.TheVariants as event
use Rattle.segment_law.specs.Segment.{Segment}
use Rattle.segment_law.specs.Told.{same_port}
use Rattle.live_record.specs.Replies.{IsKnown, EachKnown, EventKnown}
use Rattle.segment_rings.specs.Views.{DoorView}
use Rattle.live_record.specs.Record.{delivery_at, given}
use Rattle.live_ends.specs.Ends.{NoneAt, PortsApart, give_all, SameDoors}
use Rattle.live_segment.specs.Facts.{PushesGiven, DoorsKnown}
use Rattle.live_record.proofs.Trails.{given-append}

pub pushes-same : (xs : List Event) (ds es : List DoorView) → SameDoors ds es → PushesGiven xs ds → PushesGiven xs es
pushes-same xs [] [] s n = tt
pushes-same xs [] (e ∷ es) s n = absurd s
pushes-same xs (d ∷ ds) [] s n = tt
pushes-same xs (d ∷ ds) (e ∷ es) s n = (s.0.pushed ∙ n.0 ∙ sym (ap (λ (p : PortId). given p xs) s.0.port), pushes-same xs ds es s.1 n.1)

pub pushes-give_all : (xs ys : List Event) (ds : List DoorView) → PushesGiven xs ds → PushesGiven (xs ++ ys) (give_all ys ds)
pushes-give_all xs ys [] h = tt
pushes-give_all xs ys (d ∷ ds) h = (ap (λ l. l ++ given d.port ys) h.0 ∙ sym (given-append d.port xs ys), pushes-give_all xs ys ds h.1)

-- what is known of ports

pub known-same : (seg : Segment) (ds es : List DoorView) → SameDoors ds es → DoorsKnown seg ds → DoorsKnown seg es
known-same seg [] [] s n = tt
known-same seg [] (e ∷ es) s n = absurd s
known-same seg (d ∷ ds) [] s n = tt
known-same seg (d ∷ ds) (e ∷ es) s n = (subst (λ (p : PortId). IsKnown p seg) (sym s.0.port) n.0, known-same seg ds es s.1 n.1)

pub known-give_all : (seg : Segment) (ys : List Event) (ds : List DoorView) → DoorsKnown seg ds → DoorsKnown seg (give_all ys ds)
known-give_all seg ys [] h = tt
known-give_all seg ys (d ∷ ds) h = (h.0, known-give_all seg ys ds h.1)

module _ (seg next : Segment) (stays : (p : PortId) → IsKnown p seg → IsKnown p next) where
  pub known-more : (ds : List DoorView) → DoorsKnown seg ds → DoorsKnown next ds
  known-more [] h = tt
  known-more (d ∷ ds) h = (stays d.port h.0, known-more ds h.1)

  event-more : (e : Event) → EventKnown seg e → EventKnown next e
  event-more (event.Given p f t g b) h = stays p h
  event-more (event.Outcome f t n o) h = tt

  pub each-more : (es : List Event) → EachKnown seg es → EachKnown next es
  each-more [] h = tt
  each-more (e ∷ es) h = (event-more e h.0, each-more es h.1)

pub known-push : (seg : Segment) (ds : List DoorView) (d : DoorView) → DoorsKnown seg ds → IsKnown d.port seg → DoorsKnown seg (ds ++ d ∷ [])
known-push seg [] d h l = (l, tt)
known-push seg (x ∷ ds) d h l = (h.0, known-push seg ds d h.1 l)

pub each-append : (seg : Segment) (xs ys : List Event) → EachKnown seg xs → EachKnown seg ys → EachKnown seg (xs ++ ys)
each-append seg [] ys h i = i
each-append seg (x ∷ xs) ys h i = (h.0, each-append seg xs ys h.1 i)

-- a port that is none of those before

module _ (seg : Segment) (p : PortId) (new : (q : PortId) → IsKnown q seg → same_port q p ≡ false) where
  delivery_unknown : (e : Event) → EventKnown seg e → delivery_at p e ≡ []
  delivery_unknown (event.Given q f t g b) h = rw (new q h) refl
  delivery_unknown (event.Outcome f t n o) h = refl

  pub given_unknown : (es : List Event) → EachKnown seg es → given p es ≡ []
  given_unknown [] h = refl
  given_unknown (e ∷ es) h = rw (delivery_unknown e h.0) (given_unknown es h.1)

  none-push : (q : PortId) (ds : List DoorView) (d : DoorView) → NoneAt q ds → same_port q d.port ≡ false → NoneAt q (ds ++ d ∷ [])
  none-push q [] d h e = (e, tt)
  none-push q (x ∷ ds) d h e = (h.0, none-push q ds d h.1 e)

  pub apart-push : (ds : List DoorView) (d : DoorView) → d.port ≡ p → DoorsKnown seg ds → PortsApart ds → PortsApart (ds ++ d ∷ [])
  apart-push [] d e n h = (tt, tt)
  apart-push (x ∷ ds) d e n h = (none-push x.port ds d h.0 (ap (same_port x.port) e ∙ new x.port n.0), apart-push ds d e n.1 h.1)

pub pushes-push : (xs : List Event) (ds : List DoorView) (d : DoorView) → PushesGiven xs ds → d.pushed ≡ given d.port xs → PushesGiven xs (ds ++ d ∷ [])
pushes-push xs [] d h e = (e, tt)
pushes-push xs (x ∷ ds) d h e = (h.0, pushes-push xs ds d h.1 e)
