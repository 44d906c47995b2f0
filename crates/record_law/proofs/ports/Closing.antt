-- A port that closes is in the set of no session of its station.
use Rattle.std.proofs.Common.{◌≡◌, ◌⊎◌, inl, inr, ℕ, zero, suc, ◌<◌, ◌≤◌, refl, arith, ⊎_elim}
use Rattle.std.proofs.lemmas.Bool.{cases_lt}
use Rattle.pgn_ids.specs.declared.address.Address.{Address}
use Rattle.port_table.specs.Ports.{Ports, without_port}
use Rattle.session_table.specs.declared.key.Key.{Key}
use Rattle.session_table.specs.declared.key.SessionKind.{SessionKind}
use Rattle.session_table.specs.declared.key.SessionKind.TheVariants as session
use Rattle.station_core.specs.Station.{Station}
use Rattle.station_sessions.specs.Opening.{key_of}
use Rattle.station_core.specs.Closing.{unbound_session, unbound_source, closed_below, closed}
use Rattle.record_law.proofs.Maps.{OfEach}
use Rattle.record_law.proofs.ports.Ports.{Lacks, receive_less}
use Rattle.record_law.proofs.ports.Receptions.{IsBound, AreBound, bound_unbound, lack_unbound}

-- a station with its sessions changed, whose sets lack the port at some keys
pub record Unbound (before : Ports) (number : ℕ) (Done : Key → Type 0) (st new : Station) : Type 0 where
  pub address : new.address ≡ st.address
  pub ports : new.ports ≡ st.ports
  pub sessions : AreBound before new.sessions
  pub lack : OfEach (λ q v. Done q → Lacks number v.0) new.sessions

module _ (before : Ports) (number : ℕ) (st : Station) where
  unbound_one : (x : Station) (source : Address) (kind : SessionKind) (Done Next : Key → Type 0) → ((q : Key) → Next q → Done q ⊎ (q ≡ key_of source kind)) → Unbound before number Done st x → Unbound before number Next st (unbound_session x source kind number)
  unbound_one x source kind Done Next cases h = record {
    address = h.address;
    ports = h.ports;
    sessions = bound_unbound (key_of source kind) x.sessions number before h.sessions;
    lack = lack_unbound (key_of source kind) x.sessions number Done Next cases h.lack;
  }

  -- the keys of sources below n
  abbrev Below : ℕ → Key → Type 0
  Below n q = q.source.0 < n

  abbrev One : ℕ → Key → Type 0
  One n q = Below n q ⊎ (q ≡ key_of (record { 0 = n }) session.Broadcast)

  abbrev Two : ℕ → Key → Type 0
  Two n q = One n q ⊎ (q ≡ key_of (record { 0 = n }) session.Tp)

  same_key : (n : ℕ) (kind : SessionKind) (q : Key) → q.source.0 ≡ n → q.kind ≡ kind → q ≡ key_of (record { 0 = n }) kind
  same_key n kind q e k = λ i. record { source = record { 0 = e i }; kind = k i }

  of_source : (n : ℕ) (q : Key) → q.source.0 ≡ n → (k : SessionKind) → q.kind ≡ k → Two n q ⊎ (q ≡ key_of (record { 0 = n }) session.Etp)
  of_source n q e session.Broadcast k = inl (inl (inr (same_key n session.Broadcast q e k)))
  of_source n q e session.Tp k = inl (inr (same_key n session.Tp q e k))
  of_source n q e session.Etp k = inr (same_key n session.Etp q e k)

  three : (n : ℕ) (q : Key) → Below (suc n) q → Two n q ⊎ (q ≡ key_of (record { 0 = n }) session.Etp)
  three n q l = ⊎_elim
      (λ (lt : q.source.0 < n). inl (inl (inl lt)))
      (λ (le : n ≤ q.source.0). of_source n q (omega (arith, le, l)) q.kind refl)
      (cases_lt q.source.0 n)

  unbound_all : (x : Station) (n : ℕ) → Unbound before number (Below n) st x → Unbound before number (Below (suc n)) st (unbound_source x (record { 0 = n }) number)
  unbound_all x n h =
      let source : Address = record { 0 = n } in
      let y : Station = unbound_session x source session.Broadcast number in
      let z : Station = unbound_session y source session.Tp number in
      let one : Unbound before number (One n) st y = unbound_one x source session.Broadcast (Below n) (One n) (λ q t. t) h in
      let two : Unbound before number (Two n) st z = unbound_one y source session.Tp (One n) (Two n) (λ q t. t) one in
      unbound_one z source session.Etp (Two n) (Below (suc n)) (three n) two

  unbound_below : AreBound before st.sessions → (n : ℕ) → Unbound before number (Below n) st (closed_below st number n)
  unfolding closed_below
  unbound_below h zero = record { address = refl; ports = refl; sessions = h; lack = λ q v e l. absurd (omega (arith, l)) }
  unbound_below h (suc n) = unbound_all (closed_below st number n) n (unbound_below h n)

-- what is promised of the call
pub record Closes (number : ℕ) (st new : Station) : Type 0 where
  pub address : new.address ≡ st.address
  pub ports : new.ports ≡ without_port st.ports number
  pub sessions : AreBound (without_port st.ports number) new.sessions

pub closes : (st : Station) (number : ℕ) → AreBound st.ports st.sessions → Closes number st (closed st number)
closes st number each =
    let x : Station = record st { ports = without_port st.ports number } in
    let h : Unbound st.ports number (Below st.ports number x 254) x (closed_below x number 254) = unbound_below st.ports number x each 254 in
    record {
      address = h.address;
      ports = h.ports;
      sessions = λ q v e.
          let b : IsBound st.ports q v = h.sessions q v e in
          record { source = b.source; pgn = b.pgn; size = b.size; state = b.state; set = receive_less number st.ports.open_ports _ b.size v.0 (h.lack q v e b.source) b.set };
    }
