-- Calls; most of them are kept in a short form.
use Rattle.std.specs.Prelude.{◌≡◌, ℕ, ◌<◌, Bool, true, false, List, [], ◌∷◌, None, slice_index_or}
use Rattle.segment_law.specs.declared.call.Call.{Call}
use Rattle.segment_law.specs.declared.call.Call.TheVariants as call
use Rattle.stored_calls.specs.declared.stored.Stored.{Stored}
use Rattle.stored_calls.specs.declared.short.Short.{Short}
use Rattle.stored_calls.specs.declared.short.Short.TheVariants.{Pump, Transmit, Take, TakeAgain, Tick, Fire, Whole}

-- all calls, in order; spare: room for calls
pub record CallsView : Type 0 where
  pub items : List Stored
  pub spare : ℕ

-- a call without an owner
abbrev pub nobodys : Call → Stored
nobodys c = record { by = None; call = c }

-- the call of a short form, looked up among the calls that are kept whole
abbrev pub made_of : List Stored → Short → Stored
made_of ws (Pump station to) = nobodys (call.Pump station to)
made_of ws (Transmit station) = nobodys (call.Transmit station)
made_of ws (Take station room) = nobodys (call.Take station room)
made_of ws (TakeAgain station room) = nobodys (call.TakeAgain station room)
made_of ws (Tick n) = nobodys (call.Tick n)
made_of ws (Fire station) = nobodys (call.Fire station)
made_of ws (Whole at) = slice_index_or ws at (nobodys (call.Tick 0))

-- a call that neither opens nor closes a port, nor sends
abbrev pub is_brief : Call → Bool
is_brief (call.Pump station to) = true
is_brief (call.Transmit station) = true
is_brief (call.Take station room) = true
is_brief (call.TakeAgain station room) = true
is_brief (call.Tick n) = true
is_brief (call.Fire station) = true
is_brief _ = false

-- such a call without an owner
pub record IsOfNobody (s : Stored) : Type 0 where
  pub by : s.by ≡ None
  pub brief : is_brief s.call ≡ true

-- the place of a call that is kept whole
abbrev pub IsPlace : ℕ → Short → Type 0
IsPlace at (Whole place) = at ≡ place
IsPlace at _ = ⊥

-- each call that is kept whole is among the first n
abbrev pub IsWithin : ℕ → Short → Type 0
IsWithin n (Whole place) = place < n
IsWithin n _ = Unit {0}

abbrev pub PlacesWithin : ℕ → List Short → Type 0
PlacesWithin n [] = Unit {0}
PlacesWithin n (s ∷ ss) = IsWithin n s × PlacesWithin n ss
