-- What a call's checks answer (document 01: its questions), and how they are put in order.
use Rattle.std.specs.Prelude.{ℕ, zero, suc, ◌≤◌, ◌<◌, ◌≡◌, Bool, true, false, eqb}

-- Accepted, or refused with the number of the question and the record at fault.
pub data Outcome : Type 0 where
  accepted : Outcome
  refused : (number at : ℕ) → Outcome

-- One question: on yes the rest is asked, on no it is refused by its number and record.
unfoldable pub ask : Bool → ℕ → ℕ → Outcome → Outcome
ask true number at rest = rest
ask false number at rest = refused number at

-- The first of k records, counted from i, that fails a test; i + k where all pass.
unfoldable pub first_fault_from : (ℕ → Bool) → ℕ → ℕ → ℕ
first_fault_from ok i zero = i
first_fault_from ok i (suc k) = elim (ok i) [ false ↦ i | true ↦ first_fault_from ok (suc i) k ]

-- The first of k records that fails a test, or k.
unfoldable pub first_fault : (ℕ → Bool) → ℕ → ℕ
first_fault ok k = first_fault_from ok 0 k

-- What "first" means: record i is at most n, every record before it passes, and it fails itself unless it is n.
pub record First (ok : ℕ → Bool) (n i : ℕ) : Type 0 where
  pub within : i ≤ n
  pub passed : (k : ℕ) → k < i → ok k ≡ true
  pub fails : i < n → ok i ≡ false

-- One question to each of k records: refused at the first that fails.
unfoldable pub ask_each : (ℕ → Bool) → ℕ → ℕ → Outcome → Outcome
ask_each ok k number rest = ask (eqb (first_fault ok k) k) number (first_fault ok k) rest

-- What follows an outcome: the rest where it is accepted, and itself where it is refused.
unfoldable pub followed : Outcome → Outcome → Outcome
followed accepted rest = rest
followed (refused number at) rest = refused number at
