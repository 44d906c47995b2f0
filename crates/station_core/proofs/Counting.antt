-- The sources whose sessions a port was taken out of, one more.
use Rattle.std.proofs.Common.{◌≡◌, ℕ, zero, suc, ◌+◌, ◌-◌, ◌≤◌, None, refl, sym, ap, ◌∙◌, subst, arith, add-one}
use Rattle.pgn_ids.specs.declared.address.Address.{Address}
use Rattle.session_table.specs.declared.key.SessionKind.{SessionKind}
use Rattle.session_table.specs.declared.key.SessionKind.TheVariants as session
use Rattle.session_table.specs.Sessions.{state_at}
use Rattle.station_sessions.specs.Receiving.{Reception, unbound_by}
use Rattle.station_sessions.specs.Opening.{key_of}
use Rattle.station_sessions.specs.Sources.{HasNoneOf, HasNoneBetween}
use Rattle.station_core.specs.Station.{Station}
use Rattle.station_core.specs.Closing.{if_free, unbound_session, unbound_source, closed_below}

-- the port is taken out of the sets of one source more
pub closed_next : (st : Station) (number source : ℕ) → closed_below st number (source + 1) ≡ unbound_source (closed_below st number source) (record { 0 = source }) number
unfolding closed_below
closed_next st number source = rw add-one refl

pub closed_from : (st : Station) (number : ℕ) → closed_below st number 0 ≡ st
unfolding closed_below
closed_from st number = refl

-- where nothing stands at a key, nothing is taken out
unbound_nothing : (st : Station) (source : Address) (kind : SessionKind) (number : ℕ) → state_at st.sessions (key_of source kind) ≡ None → unbound_session st source kind number ≡ st
unbound_nothing st source kind number e = ap (λ o. let r : Reception = unbound_by o (key_of source kind) number st.sessions in (let left : Station = record st { queue = if_free st.queue r.frame; sessions = r.sessions } in left)) e

unbound_none : (st : Station) (source : Address) (number : ℕ) → HasNoneOf st.sessions source.0 → unbound_source st source number ≡ st
unbound_none st source number none =
    ap (λ (x : Station). unbound_session x source session.Etp number)
    (ap (λ (x : Station). unbound_session x source session.Tp number) (unbound_nothing st source session.Broadcast number (none session.Broadcast)) ∙ unbound_nothing st source session.Tp number (none session.Tp))
    ∙ unbound_nothing st source session.Etp number (none session.Etp)

-- sources without a session are passed over
passed : (st : Station) (number n gap : ℕ) → HasNoneBetween (closed_below st number n).sessions n (n + gap) → closed_below st number (n + gap) ≡ closed_below st number n
passed st number n zero none =
    let same : n + 0 ≡ n = omega arith in
    ap (closed_below st number) same
passed st number n (suc gap) none =
    let more : n + suc gap ≡ (n + gap) + 1 = omega arith in
    ap (closed_below st number) more ∙ closed_next st number (n + gap)
    ∙ ap (λ (x : Station). unbound_source x (record { 0 = n + gap }) number) (passed st number n gap (λ s from below. none s from (omega (arith, below))))
    ∙ unbound_none (closed_below st number n) (record { 0 = n + gap }) number (none (n + gap) (omega arith) (omega arith))

pub passed_to : (st left : Station) (number n to : ℕ) → left ≡ closed_below st number n → n ≤ to → HasNoneBetween left.sessions n to → left ≡ closed_below st number to
passed_to st left number n to is le none =
    let there : n + (to - n) ≡ to = omega (arith, le) in
    let own : HasNoneBetween (closed_below st number n).sessions n (n + (to - n)) = subst (λ (x : Station). HasNoneBetween x.sessions n (n + (to - n))) is (λ s from below. none s from (omega (arith, below, there))) in
    is ∙ sym (passed st number n (to - n) own) ∙ ap (closed_below st number) there

-- one source more
pub passed_one : (st left : Station) (number n : ℕ) (source : Address) → left ≡ closed_below st number n → n ≤ source.0 → HasNoneBetween left.sessions n source.0 → unbound_source left source number ≡ closed_below st number (source.0 + 1)
passed_one st left number n source is le none =
    ap (λ (x : Station). unbound_source x source number) (passed_to st left number n source.0 is le none) ∙ sym (closed_next st number source.0)
