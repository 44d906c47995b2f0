-- A frame that was taken, counted and printed.
use Rattle.std.proofs.Common.{◌≡◌, ℕ, List, [], ◌++◌, Result, Ok, Err, OnOk, Option, sym, ◌∙◌, ap, append_assoc, nat_lt, subst}
use Rattle.std.specs.declared.alloc.AllocError.{AllocError}
use Rattle.bus_frame.specs.Frames.{CanFrame}
use Rattle.log_fields.specs.declared.iface.Iface.{Iface}
use Rattle.log_decode.specs.View.{State, bus_at}
use Rattle.log_decode.specs.Decoder.{taken}
use Rattle.log_decode.specs.Stray.{stray_seen}
use Rattle.log_reports.specs.declared.stray.Stray.{Stray}
use Rattle.log_reports.specs.declared.told.Told.{Told}
use Rattle.log_courses.specs.Awaited.{Awaited, awaiting_each}
use Rattle.log_courses.specs.Strays.{stray_left}
use Rattle.log_reports.specs.declared.marks.Place.{Place}
use Rattle.bus_decode.specs.Followed.{heard_followed}
use Rattle.bus_decode.specs.Telling.{told_text}
use Rattle.bus_decode.specs.declared.followed.Followed.{Followed}
use Rattle.bus_decode.specs.Listening.{Hearing, Seen, single, frame_told, frame_counts, frame_seen}
use Rattle.bus_decode.specs.declared.counts.Counts.{Counts}
use Rattle.bus_decode.specs.declared.listener.Listener.{Listener}
use Rattle.bus_decode.specs.declared.options.Options.{Options}

abbrev place_of : State → Counts → Place
place_of d counts = record { number = counts.frames; time = d.time }

abbrev listener : State → Followed → Awaited → Listener
listener d followed awaited = record { decoder = d; followed = followed; awaited = awaited }

-- a frame that was counted
told_all : (options : Options) (iface : Iface) (frame : CanFrame) (d : State) (told : List Told) (counts : Counts) (old new : Followed) (w x : Awaited) (a b c : List ℕ)
    → x ≡ awaiting_each told w → b ≡ a ++ told_text (place_of d counts) options told old → new ≡ heard_followed options iface frame (place_of d counts) told old → c ≡ b ++ single d.time iface options frame
    → Seen (listener d new x, counts) a c (frame_told options iface frame old w (d, told) counts)
told_all options iface frame d told counts old new w x a b c waits lines left last =
    let others : List ℕ = single d.time iface options frame in
    (ap (λ y. (listener d y (awaiting_each told w), counts)) (sym left) ∙ ap (λ y. (listener d new y, counts)) (sym waits), last ∙ ap (λ v. v ++ others) lines ∙ append_assoc a (told_text (place_of d counts) options told old) others)

-- by what it was of no message, and what it told
abbrev counted : Options → Hearing → (time : ℕ) → Iface → CanFrame → Awaited × Option Stray → List Told → Counts
counted options s time iface frame left told = frame_counts options frame (nat_lt time (bus_at iface s.0.decoder.buses).time) left.1 told s.1

seen_all : (options : Options) (s : Hearing) (time : ℕ) (iface : Iface) (frame : CanFrame) (d : State) (told : List Told) (w x : Awaited) (stray : Option Stray) (counts : Counts) (new : Followed) (a b c : List ℕ)
    → (d, told) ≡ taken s.0.decoder time iface frame [] → (w, stray) ≡ stray_left (stray_seen s.0.decoder time iface frame) iface frame s.0.awaited → counts ≡ counted options s time iface frame (w, stray) told
    → x ≡ awaiting_each told w → b ≡ a ++ told_text (place_of d counts) options told s.0.followed → new ≡ heard_followed options iface frame (place_of d counts) told s.0.followed → c ≡ b ++ single d.time iface options frame
    → Seen (listener d new x, counts) a c (frame_seen options s time iface frame)
unfolding frame_seen
seen_all options s time iface frame d told w x stray counts new a b c took strayed reckoned waits lines left last =
    let all : Hearing = (listener d new x, counts) in
    subst (λ v. Seen all a c (frame_told options iface frame s.0.followed v.0 (taken s.0.decoder time iface frame []) (counted options s time iface frame v (taken s.0.decoder time iface frame []).1))) strayed
    (subst (λ t. Seen all a c (frame_told options iface frame s.0.followed w t (counted options s time iface frame (w, stray) t.1))) took
    (subst (λ k. Seen all a c (frame_told options iface frame s.0.followed w (d, told) k)) reckoned
    (told_all options iface frame d told counts s.0.followed new w x a b c waits lines left last)))

-- where the last line was printed too
pub frame_done : (result : Result (Unit {0}) AllocError) (options : Options) (s : Hearing) (time : ℕ) (iface : Iface) (frame : CanFrame) (d : State) (told : List Told) (w x : Awaited) (stray : Option Stray) (counts : Counts) (new : Followed) (a b c : List ℕ)
    → (d, told) ≡ taken s.0.decoder time iface frame [] → (w, stray) ≡ stray_left (stray_seen s.0.decoder time iface frame) iface frame s.0.awaited → counts ≡ counted options s time iface frame (w, stray) told
    → x ≡ awaiting_each told w → b ≡ a ++ told_text (place_of d counts) options told s.0.followed → new ≡ heard_followed options iface frame (place_of d counts) told s.0.followed → OnOk result (c ≡ b ++ single d.time iface options frame)
    → OnOk result (Seen (listener d new x, counts) a c (frame_seen options s time iface frame))
frame_done (Ok done) options s time iface frame d told w x stray counts new a b c took strayed reckoned waits lines left last = seen_all options s time iface frame d told w x stray counts new a b c took strayed reckoned waits lines left last
frame_done (Err error) options s time iface frame d told w x stray counts new a b c took strayed reckoned waits lines left last = tt
