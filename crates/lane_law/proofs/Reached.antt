-- What events lead to, of any machine.
use Rattle.std.proofs.Common.{◌≡◌, List, [], ◌∷◌, ◌++◌, refl, ◌∙◌, ap, subst, sym}
use Rattle.lane_law.specs.Runs.{MayRun, run, Leads}

-- no event leads from a state to itself
pub leads_nowhere : {Event State : Type 0} (may : Event → State → Type 0) (after : Event → State → State) (first : State) → Leads may after first first
leads_nowhere may after first = ([], tt, refl)

run_more : {Event State : Type 0} (after : Event → State → State) (es : List Event) (e : Event) (s : State) → run after (es ++ e ∷ []) s ≡ after e (run after es s)
run_more after [] e s = refl
run_more after (d ∷ es) e s = run_more after es e (after d s)

may_run_more : {Event State : Type 0} (may : Event → State → Type 0) (after : Event → State → State) (es : List Event) (e : Event) (s : State) → MayRun may after es s → may e (run after es s) → MayRun may after (es ++ e ∷ []) s
may_run_more may after [] e s r h = (h, tt)
may_run_more may after (d ∷ es) e s r h = (r.0, may_run_more may after es e (after d s) r.1 h)

-- one event more leads further
pub leads_on : {Event State : Type 0} (may : Event → State → Type 0) (after : Event → State → State) (first last : State) (e : Event) → Leads may after first last → may e last → Leads may after first (after e last)
leads_on may after first last e h m = (
  h.0 ++ e ∷ [],
  may_run_more may after h.0 e first h.1 (subst (λ s. may e s) (sym h.2) m),
  run_more after h.0 e first ∙ ap (λ s. after e s) h.2,
)

-- what each event keeps holds of all that events lead to
keeps_all : {Event State : Type 0} (may : Event → State → Type 0) (after : Event → State → State) (P : State → Type 0) → ((e : Event) (s : State) → may e s → P s → P (after e s)) → (es : List Event) (s : State) → MayRun may after es s → P s → P (run after es s)
keeps_all may after P keeps [] s r p = p
keeps_all may after P keeps (e ∷ es) s r p = keeps_all may after P keeps es (after e s) r.1 (keeps e s r.0 p)

pub keeps_on : {Event State : Type 0} (may : Event → State → Type 0) (after : Event → State → State) (P : State → Type 0) → ((e : Event) (s : State) → may e s → P s → P (after e s)) → (first last : State) → P first → Leads may after first last → P last
keeps_on may after P keeps first last p h = subst P h.2 (keeps_all may after P keeps h.0 first h.1 p)
