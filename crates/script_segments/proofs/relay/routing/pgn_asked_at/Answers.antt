use Rattle.std.proofs.Common.{◌≡◌, None, true, refl, sym, get_or}
use Rattle.segment_law.specs.declared.call.Call.{Call}
use Rattle.segment_law.specs.declared.call.Call.TheVariants.{Open, Close, Send, Pump, Transmit, Take, TakeAgain, Overrun, Tick, Fire, Cancel, Inject, Pause, Resume}
use Rattle.stored_calls.specs.Lists.{is_brief}
use Rattle.script_segments.specs.Gateway.{pgn_asked}
use Rattle.script_segments.proofs.relay.routing.pgn_asked_at.Goals as goal

brief_asks : (c : Call) → is_brief c ≡ true → pgn_asked c ≡ None
brief_asks (Open station pgn max_len) h = absurd cc
brief_asks (Close port) h = refl
brief_asks (Send from to pgn bytes) h = refl
brief_asks (Pump station to) h = refl
brief_asks (Transmit station) h = refl
brief_asks (Take station room) h = refl
brief_asks (TakeAgain station room) h = refl
brief_asks (Overrun station n) h = refl
brief_asks (Tick n) h = refl
brief_asks (Fire station) h = refl
brief_asks (Cancel from to number) h = refl
brief_asks (Inject frame) h = refl
brief_asks (Pause port) h = refl
brief_asks (Resume port) h = refl

pub returns-in_default : goal.returns-in_default
returns-in_default c = λ x. sym (brief_asks (get_or c.args.calls.now.items c.args.at x).call (c.in_default.ensures.brief x).brief)
