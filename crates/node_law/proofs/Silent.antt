-- How far the clock of a node advances, and when its messages are sent.
use Rattle.std.proofs.Common.{◌≡◌, ℕ, ◌+◌, ◌<◌, ◌≤◌, ◌^◌, Bool, false, cond, not, List, [], ◌∷◌, ◌++◌, Option, Some, None, Ok, Err, IsOk, refl, sym, ap, ◌∙◌, subst, arith}
use Rattle.std.proofs.lemmas.Bool.{lt-ltb}
use Rattle.bus_frame.specs.Frames.{CanFrame}
use Rattle.pgn_ids.specs.declared.address.Address.{Address}
use Rattle.segment_law.specs.Segment.{Segment, new_segment}
use Rattle.segment_law.specs.Calls.{Answer, called, replied, applied, done}
use Rattle.segment_law.specs.Readers.{front_at, next_pump}
use Rattle.segment_law.specs.declared.call.Call.{Call}
use Rattle.segment_law.specs.declared.call.Call.TheVariants.{Open, Close, Send, Pump, Transmit, Take, TakeAgain, Overrun, Tick, Fire, Cancel, Inject, Pause, Resume}
use Rattle.segment_law.specs.declared.refusal.Refusal.TheVariants as refusal
use Rattle.segment_law.specs.declared.reply.Reply.{Reply}
use Rattle.record_law.proofs.EachCall.{Holds, Accepted, each_called}
use Rattle.one_station.specs.Node.{Node, Did, quiet_node, again_node, silence_end, makes, makes_all}
use Rattle.one_station.specs.Answers.{EndsFirst, DidAndLooked, caught_up, overruns, looks, looks_roomless, pump_for_front}
use Rattle.one_station.specs.declared.error.Fed.{Fed}
use Rattle.one_station.specs.declared.error.Fed.TheVariants.{Taken, WithoutRoom, PassedBy}
use Rattle.node_law.specs.Life.{Deed, IsDone, Lives}
use Rattle.node_law.specs.Life.Deed.{Opens, Closes, Makes, Sends, Asks, Feeds, Puts, Misses, Owes, CatchesUp, Takes}
use Rattle.node_law.specs.Silence.{ticks_by, ticks_of, ticks_in, SendsAfterSilence, RestartsAreNew}
use Rattle.node_law.proofs.Doing.{did_all}

-- One call

abbrev Passes : Segment → Call → Segment × Reply → Type 0
Passes seg (Tick n) step = step.0.now ≡ seg.now + n
Passes seg call step = step.0.now ≡ seg.now

each_passes : (seg : Segment) → Accepted seg (Passes seg)
each_passes seg = record {
  station = λ i st at. record {
    opens = λ a pgn max_len here. refl;
    closes = λ port here there. refl;
    sends = λ from to pgn bytes here other long short. refl;
    pumps = λ a to here. refl;
    transmits = λ a f here first free. refl;
    takes = λ a room f here next free. refl;
    repeats = λ a room f here last free. refl;
    overruns = λ a n here few. refl;
    fires = λ a here. refl;
    cancels = λ from to number here pending. refl;
    pauses = λ port here. refl;
    resumes = λ port here. refl;
  };
  ticks = λ n. refl;
  injects = λ f foreign free. refl;
}

-- the clock advances by the call's ticks at most: not at all, if it is refused
passes : (seg : Segment) (call : Call) → (applied seg call).0.now ≤ seg.now + ticks_by call
passes seg call = by (called seg call) (each_called seg (Passes seg) (each_passes seg) call)
  where
    of_call : (c : Call) (step : Segment × Reply) → Passes seg c step → step.0.now ≤ seg.now + ticks_by c
    of_call (Tick n) step h = omega (arith, h)
    of_call (Open a pgn max_len) step h = omega (arith, h)
    of_call (Close port) step h = omega (arith, h)
    of_call (Send from to pgn bytes) step h = omega (arith, h)
    of_call (Pump a to) step h = omega (arith, h)
    of_call (Transmit a) step h = omega (arith, h)
    of_call (Take a room) step h = omega (arith, h)
    of_call (TakeAgain a room) step h = omega (arith, h)
    of_call (Overrun a n) step h = omega (arith, h)
    of_call (Fire a) step h = omega (arith, h)
    of_call (Cancel from to number) step h = omega (arith, h)
    of_call (Inject f) step h = omega (arith, h)
    of_call (Pause port) step h = omega (arith, h)
    of_call (Resume port) step h = omega (arith, h)

    by : (x : Answer) → Holds seg (Passes seg) call x → (replied seg x).0.now ≤ seg.now + ticks_by call
    by (Err cause) h = omega arith
    by (Ok step) h = of_call call step h

-- Calls

abbrev ticks_by_all : List Call → ℕ
ticks_by_all [] = 0
ticks_by_all (call ∷ calls) = ticks_by call + ticks_by_all calls

all_pass : (node : Node) (calls : List Call) → (makes_all node calls).segment.now ≤ node.segment.now + ticks_by_all calls
all_pass node [] = omega arith
all_pass node (call ∷ calls) =
    let first : (applied node.segment call).0.now ≤ node.segment.now + ticks_by call = passes node.segment call in
    let rest : (makes_all (makes node call) calls).segment.now ≤ (makes node call).segment.now + ticks_by_all calls = all_pass (makes node call) calls in
    omega (arith, first, rest)

keeps_quiet : (node : Node) (calls : List Call) → (makes_all node calls).quiet_until ≡ node.quiet_until
keeps_quiet node [] = refl
keeps_quiet node (call ∷ calls) = keeps_quiet (makes node call) calls

-- A deed

record Goes (node next : Node) (n : ℕ) : Type 0 where
  now : next.segment.now ≤ node.segment.now + n
  quiet : next.quiet_until ≡ node.quiet_until

by_calls : (node next : Node) (calls : List Call) → Did node calls next → Goes node next (ticks_by_all calls)
by_calls node next calls did = record {
  now = subst (λ (n : Node). n.segment.now ≤ node.segment.now + ticks_by_all calls) (sym did.node) (all_pass node calls);
  quiet = ap (λ (n : Node). n.quiet_until) did.node ∙ keeps_quiet node calls;
}

-- so many ticks of one kind or the other
so_many : (node next : Node) (n m : ℕ) → n ≡ m → Goes node next n → Goes node next m
so_many node next n m same g = subst (Goes node next) same g

stays : (node next : Node) → next.segment ≡ node.segment → next.quiet_until ≡ node.quiet_until → Goes node next 0
stays node next same quiet = record {
  now = subst (λ (s : Segment). s.now ≤ node.segment.now + 0) (sym same) (omega arith);
  quiet = quiet;
}

at_once : (node ready : Node) → node.has_missed ≡ false → EndsFirst node.has_missed node ready → ready ≡ node
at_once node ready level first = subst (λ (b : Bool). EndsFirst b node ready) level first

looked : (node ready next : Node) (f : CanFrame) (fed : Fed) → ready ≡ node → DidAndLooked ready (Inject f) next fed → Goes node next 0
looked node ready next f Taken same did = subst (λ (n : Node). Goes n next 0) same (by_calls ready next (Inject f ∷ looks ready ∷ []) did)
looked node ready next f WithoutRoom same did = subst (λ (n : Node). Goes n next 0) same (by_calls ready next (Inject f ∷ looks_roomless ready ∷ []) did)
looked node ready next f PassedBy same never = absurd never

asked : (node next : Node) (f : Option CanFrame) (to : Option Address) → Did node (pump_for_front node f to) next → Goes node next 0
asked node next (Some f) to did = by_calls node next [] did
asked node next None None did = by_calls node next [] did
asked node next None (Some to) did = by_calls node next (Pump node.address to ∷ []) did

made : (call : Call) (node next : Node) → IsDone (Makes call) node next → Goes node next (ticks_by call)
made (Tick n) node next (aside, (ok, did)) = so_many node next (ticks_by_all (Tick n ∷ [])) n (omega arith) (by_calls node next (Tick n ∷ []) did)
made (Cancel from to number) node next (aside, (ok, did)) = by_calls node next (Cancel from to number ∷ []) did
made (Pause port) node next (aside, (ok, did)) = by_calls node next (Pause port ∷ []) did
made (Resume port) node next (aside, (ok, did)) = by_calls node next (Resume port ∷ []) did
made (Fire a) node next (aside, (ok, did)) = by_calls node next (Fire a ∷ []) did
made (Open a pgn max_len) node next (aside, (ok, did)) = absurd (cc)
made (Close port) node next (aside, (ok, did)) = absurd (cc)
made (Send from to pgn bytes) node next (aside, (ok, did)) = absurd (cc)
made (Pump a to) node next (aside, (ok, did)) = absurd (cc)
made (Transmit a) node next (aside, (ok, did)) = absurd (cc)
made (Take a room) node next (aside, (ok, did)) = absurd (cc)
made (TakeAgain a room) node next (aside, (ok, did)) = absurd (cc)
made (Overrun a n) node next (aside, (ok, did)) = absurd (cc)
made (Inject f) node next (aside, (ok, did)) = absurd (cc)

goes : (deed : Deed) (node next : Node) → IsDone deed node next → Goes node next (ticks_of deed)
goes (Opens pgn max_len port) node next ((ok, did), says) = by_calls node next (Open node.address pgn max_len ∷ []) did
goes (Closes port) node next (ok, did) = by_calls node next (Close port ∷ []) did
goes (Makes call) node next so = made call node next so
goes (Sends from to pgn bytes number) node next (mine, late, (ok, did), says) = by_calls node next (Send from to pgn bytes ∷ []) did
goes Asks node next did = asked node next (front_at node.segment node.address) (next_pump node.segment node.address) did
goes (Feeds f Taken) node next (level, (ready, (first, none), (free, did))) = looked node ready next f Taken (at_once node ready level first) did
goes (Feeds f WithoutRoom) node next (level, (ready, (first, none), (free, did))) = looked node ready next f WithoutRoom (at_once node ready level first) did
goes (Feeds f PassedBy) node next (level, (missed, ok, same)) = stays node next (ap (λ (n : Node). n.segment) same) (ap (λ (n : Node). n.quiet_until) same)
goes (Puts f) node next (front, level, (ready, (first, none), (free, did))) =
    subst (λ (n : Node). Goes n next 0) (at_once node ready level first) (by_calls ready next (Transmit ready.address ∷ looks ready ∷ []) did)
goes Misses node next (none, did) = let g : Goes (caught_up node) next 0 = by_calls (caught_up node) next (overruns node ∷ []) did in record { now = g.now; quiet = g.quiet }
goes Owes node next same = stays node next (ap (λ (n : Node). n.segment) same) (ap (λ (n : Node). n.quiet_until) same)
goes CatchesUp node next (missed, (none, did)) = let g : Goes (caught_up node) next 0 = by_calls (caught_up node) next (overruns node ∷ []) did in record { now = g.now; quiet = g.quiet }
goes (Takes event) node next (first, same) = stays node next (ap (λ (n : Node). n.segment) same) (ap (λ (n : Node). n.quiet_until) same)

-- A life

sent_late : (from to : Address) (pgn number : ℕ) (bytes : List ℕ) (before after : List Deed) (node last : Node) → Lives node (before ++ Sends from to pgn bytes number ∷ after) last → node.quiet_until ≤ node.segment.now + ticks_in before
sent_late from to pgn number bytes [] after node last (next, (mine, late, answered, says), lives) = omega (arith, late)
sent_late from to pgn number bytes (deed ∷ deeds) after node last (next, so, lives) =
    let g : Goes node next (ticks_of deed) = goes deed node next so in
    let now = g.now in
    let quiet = g.quiet in
    let l : next.quiet_until ≤ next.segment.now + ticks_in deeds = sent_late from to pgn number bytes deeds after next last lives in
    omega (arith, now, quiet, l)

pub late : SendsAfterSilence
late a from to tick pgn number bytes before after last few lives =
    let l : (again_node a tick).quiet_until ≤ (again_node a tick).segment.now + ticks_in before = sent_late from to pgn number bytes before after (again_node a tick) last lives in
    let is : (again_node a tick).quiet_until ≡ silence_end tick = refl in
    let p : (again_node a tick).segment.now ≤ 0 + tick = passes (new_segment (a ∷ [])) (Tick tick) in
    omega (arith, l, is, p, few)

abbrev ticked : (a : Address) (tick : ℕ) → Bool → Answer
ticked a tick b = cond {A = Answer} (not b) (Err refusal.ClockEnd) (done (record (new_segment (a ∷ [])) { now = 0 + tick }))

ticks : (a : Address) (tick : ℕ) → tick < 2 ^ 64 → IsOk (called (new_segment (a ∷ [])) (Tick tick))
unfolding called
ticks a tick few = subst (λ (b : Bool). IsOk (ticked a tick b)) (sym (lt-ltb (0 + tick) (2 ^ 64) (omega (arith, few)))) refl

pub new : RestartsAreNew
new a tick deeds last few lives = (again_node a tick, (refl, (ticks a tick few, did_all (quiet_node a (silence_end tick)) (Tick tick ∷ []) refl)), lives)
