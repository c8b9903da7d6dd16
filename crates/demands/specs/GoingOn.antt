-- Going on with what was written: a user may keep the catalogue that write gives with the store, and call with it from then on, as the command does after
-- each change. The lists of calls, with any number of catalogues written between them, are as one list.
use Rattle.std.specs.Prelude.{ℕ, ◌≤◌, ◌≡◌, Bool, ◌↔◌}
use mathlib.Core.List.{List, ◌∷◌, map, Memᴰ}
use Rattle.rules.specs.Axioms.{Axioms, InRange}
use Rattle.store.specs.Fresh.{Fresh}
use Rattle.store.specs.Written.{axiom_count, written}
use Rattle.demands.specs.Sequences.{change, Call, Turn, Ran, AcceptedWith, Sequence, calls_of, after_calls, in_force_after, AllCorrect, ClassifiedAfresh}

-- Calls that go on from a store under catalogue b.
pub record GoesOn (b store : List ℕ) (ts : List Turn) (last : List ℕ) : Type 0 where
  pub ran : Ran store ts last
  pub one_catalogue : AcceptedWith b ts

-- The catalogue that a user has, the axioms in force, and the store: after a list as in demand 3; after calls that go on from there; and with the catalogue
-- that write gives of them (demand 2, `writes`) in place of the one so far.
pub data Reached : List ℕ → Axioms → List ℕ → Type 0 where
  listed : {b store last : List ℕ} {t : Turn} {ts : List Turn} → Sequence b store t ts last → Reached b (in_force_after b (t ∷ ts)) last
  further : {b store last : List ℕ} {F : Axioms} {ts : List Turn} → Reached b F store → GoesOn b store ts last → Reached b (after_calls b F (calls_of ts)) last
  rewritten : {b store : List ℕ} {F : Axioms} → Reached b F store → Reached (written b F) F store

-- A call with another catalogue in its place.
abbrev pub under : List ℕ → Call → Call
under b c = record { request = c.request; catalogue = b; lent = c.lent; from = c.from }

-- A change, and no classify, which starts over from its own catalogue's axioms.
abbrev pub IsChange : Call → Type 0
IsChange c = (withdrawn : List ℕ) × (added : List ℕ) × (c.request ≡ change withdrawn added)

-- What demand 3 says of a list holds of all that is reached.
pub record AsOneList (b : List ℕ) (F : ℕ → ℕ → Bool) (store : List ℕ) : Type 0 where
  pub afresh : ClassifiedAfresh b F store
  pub correct : (ts : List Turn) (last : List ℕ) → GoesOn b store ts last → AllCorrect b F store ts
  -- Under the catalogue that is written, changes put the same axioms in force, and a store classified afresh has the same bytes.
  pub same_axioms : (cs : List Call) → ((c : Call) → Memᴰ c cs → IsChange c)
      → after_calls (written b F) F (map (under (written b F)) cs) ≡ after_calls b F (map (under b) cs)
  pub same_store : (G : ℕ → ℕ → Bool) (other : List ℕ) → InRange b G → axiom_count b G ≤ 4096 → Fresh (written b F) G other ↔ Fresh b G other

abbrev pub GoingOn : Type 0
GoingOn = (b : List ℕ) (F : Axioms) (store : List ℕ) → Reached b F store → AsOneList b F store
