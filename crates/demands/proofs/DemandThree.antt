-- Demand 3: for every list of classify and change calls that begins with an accepted classify, the calls refuse where their arguments alone say, and the
-- store is classified afresh from the axioms then in force.
use Prim.Native.Nat.{ℕ}
use native.Mathlib.Decide.{ℕ_discrete}
use native.Mathlib.Omega.{arith}
use mathlib.Core.Path.{◌≡◌, refl, sym, ap, subst, subst₂, ◌∙◌}
use mathlib.Core.List.Memᴰ
use mathlib.Core.List.{List, ◌∷◌, List-discrete}
use lib.ListN.{take, drop}
use Rattle.catalogue.specs.Outcome.{Outcome, accepted, refused}
use Rattle.rules.specs.Axioms.{Axioms, none}
use Rattle.store.specs.Fresh.{Fresh}
use Rattle.store.specs.Written.{written}
use Rattle.store.proofs.Fresh.{fresh_unique}
use Rattle.layout.specs.Parts.{used}
use Rattle.demands.specs.Afresh.{ClassifiesAfresh}
use Rattle.demands.specs.Sequences.{classify, Call, outcome_of, Turn, Ran, nothing, first, Sequence, questions, puts, Expected, asked, other_catalogue, expected_by, expected, after_by, after_call}
use Rattle.demands.specs.Sequences.{AcceptedWith, after_calls, calls_of, in_force_after, Agrees, same, refuses, Correct, AllCorrect, ClassifiedAfresh, DemandThree}
use Rattle.demands.proofs.FreshStores.{FreshStore}
use Rattle.demands.proofs.Afresh.{fresh_by_classify}
use Rattle.demands.proofs.Turns.{Known, classify_turn_lem, any_turn}

-- ---- the axioms in force by arguments alone

by_yes : {A : Type 0} (d : Dec A) (o : Outcome) → A → expected_by d o ≡ asked o
unfolding expected_by
by_yes (yes s) o a = refl
by_yes (no n) o a = absurd (n a)

by_no : {A : Type 0} (d : Dec A) (o : Outcome) → ¬ A → expected_by d o ≡ other_catalogue
unfolding expected_by
by_no (yes s) o n = absurd (n s)
by_no (no m) o n = refl

module _ (b : List ℕ) (F : Axioms) (c : Call) where
  pub expected_same : c.catalogue ≡ b → expected b F c ≡ asked (questions c.request b c.lent F)
  unfolding expected
  expected_same e = by_yes (List-discrete ℕ_discrete c.catalogue b) (questions c.request b c.lent F) e

  expected_other : ¬ (c.catalogue ≡ b) → expected b F c ≡ other_catalogue
  unfolding expected
  expected_other n = by_no (List-discrete ℕ_discrete c.catalogue b) (questions c.request b c.lent F) n

  pub after_accepted : expected b F c ≡ asked accepted → after_call b F c ≡ puts c.request b F
  unfolding after_call after_by
  after_accepted e = ap (λ (x : Expected). after_by x F (puts c.request b F)) e

  after_refused : {number at : ℕ} → expected b F c ≡ asked (refused number at) → after_call b F c ≡ F
  unfolding after_call after_by
  after_refused e = ap (λ (x : Expected). after_by x F (puts c.request b F)) e

  after_other : expected b F c ≡ other_catalogue → after_call b F c ≡ F
  unfolding after_call after_by
  after_other e = ap (λ (x : Expected). after_by x F (puts c.request b F)) e

-- ---- a turn

-- It is correct, and the store after it is fresh for the axioms then in force.
module _ (b : List ℕ) (F : Axioms) (store : List ℕ) (t : Turn) (known : Known b F store t) (only : outcome_of t.answer ≡ accepted → t.call.catalogue ≡ b) where
  accepted_turn : outcome_of t.answer ≡ accepted → Correct b F store t × FreshStore b (after_call b F t.call) t.store_after
  accepted_turn o =
      let e : t.call.catalogue ≡ b = only o in
      let x : expected b F t.call ≡ asked accepted = expected_same b F t.call e ∙ ap asked (sym (known.answers e) ∙ o) in
      let left : FreshStore b (after_call b F t.call) t.store_after =
      subst (λ (G : Axioms). FreshStore b G t.store_after) (sym (after_accepted b F t.call x)) (known.leaves e o)
      in (
        record {
          agrees = subst₂ Agrees (sym x) (sym o) same;
          keeps = known.keeps;
          rest = known.rest e o;
          fresh = left.fresh;
          changes = λ withdrawn added q p. known.changes e o withdrawn added q;
        },
        left,
      )

  refused_turn : (number at : ℕ) → outcome_of t.answer ≡ refused number at → FreshStore b F store
      → Correct b F store t × FreshStore b (after_call b F t.call) t.store_after
  refused_turn number at o u = go (List-discrete ℕ_discrete t.call.catalogue b)
    where
      build : Agrees (expected b F t.call) (outcome_of t.answer) → after_call b F t.call ≡ F
          → Correct b F store t × FreshStore b (after_call b F t.call) t.store_after
      build g f =
          let kept : t.store_after ≡ store = known.keeps number at o in
          let left : FreshStore b (after_call b F t.call) t.store_after = subst₂ (FreshStore b) (sym f) (sym kept) u in (
            record {
              agrees = g;
              keeps = known.keeps;
              rest = ap (drop (used b)) kept;
              fresh = left.fresh;
              changes = λ withdrawn added q p. let z : ◌≡◌ {A = ℕ} 0 1 = cc in absurd (omega arith);
            },
            left,
          )

      go : Dec (t.call.catalogue ≡ b) → Correct b F store t × FreshStore b (after_call b F t.call) t.store_after
      go (yes e) =
          let x : expected b F t.call ≡ asked (refused number at) = expected_same b F t.call e ∙ ap asked (sym (known.answers e) ∙ o) in
          build (subst₂ Agrees (sym x) (sym o) same) (after_refused b F t.call x)
      go (no n) =
          let x : expected b F t.call ≡ other_catalogue = expected_other b F t.call n in
          build (subst₂ Agrees (sym x) (sym o) refuses) (after_other b F t.call x)

  turn_correct : FreshStore b F store → Correct b F store t × FreshStore b (after_call b F t.call) t.store_after
  turn_correct u = go (outcome_of t.answer) refl
    where
      go : (o : Outcome) → outcome_of t.answer ≡ o → Correct b F store t × FreshStore b (after_call b F t.call) t.store_after
      go accepted e = accepted_turn e
      go (refused number at) e = refused_turn number at e u

-- ---- the list

-- From a fresh store each turn is correct, and the last store is fresh.
pub turns_correct : (b : List ℕ) (F : Axioms) (store : List ℕ) (ts : List Turn) (last : List ℕ) → FreshStore b F store → Ran store ts last → AcceptedWith b ts
    → AllCorrect b F store ts × FreshStore b (after_calls b F (calls_of ts)) last
unfolding after_calls
turns_correct b F store ts last u nothing only = (AllCorrect.nothing, u)
turns_correct b F store ts last u (first {t = t} {ts = more} x run) only =
    let (correct, kept) = turn_correct b F store t (any_turn b F store u t x) (only t (Memᴰ.head refl)) u in
    let (others, ended) = turns_correct b (after_call b F t.call) t.store_after more last kept run (λ s m. only s (Memᴰ.tail m)) in
    (AllCorrect.first correct others, ended)

-- The first is accepted, and so the others begin from a fresh store.
run_correct : (b store : List ℕ) (t : Turn) (ts : List Turn) (last : List ℕ) → Ran store (t ∷ ts) last → AcceptedWith b (t ∷ ts)
    → t.call.request ≡ classify → outcome_of t.answer ≡ accepted → AllCorrect b none store (t ∷ ts) × FreshStore b (in_force_after b (t ∷ ts)) last
unfolding after_calls in_force_after
run_correct b store t ts last (first x run) only begins ok =
    let (correct, kept) = accepted_turn b none store t (classify_turn_lem b none store t x begins) (only t (Memᴰ.head refl)) ok in
    let (others, ended) = turns_correct b (after_call b none t.call) t.store_after ts last kept run (λ s m. only s (Memᴰ.tail m)) in
    (AllCorrect.first correct others, ended)

pub sequence_correct : (b store : List ℕ) (t : Turn) (ts : List Turn) (last : List ℕ) → Sequence b store t ts last
    → AllCorrect b none store (t ∷ ts) × FreshStore b (in_force_after b (t ∷ ts)) last
sequence_correct b store t ts last s = run_correct b store t ts last s.ran s.one_catalogue s.begins s.begins_accepted

-- A store that is classified afresh is so to the byte.
pub classified_afresh : (b : List ℕ) (F : Axioms) (store : List ℕ) → FreshStore b F store → ClassifiedAfresh b F store
classified_afresh b F store u =
    let afresh : ClassifiesAfresh b F (written b F) = fresh_by_classify b F u.catalogue u.range u.few in
    let bytes : (other : List ℕ) → Fresh b F other → take (used b) store ≡ take (used b) other =
    λ other p. fresh_unique b F F store other u.well_formed (λ c d. refl) u.fresh p
    in
    record {
      fresh = u.fresh;
      bytes = bytes;
      classifies = afresh;
      alike = λ s w a s' w' ls lw call. sym (bytes s' (afresh.leaves s w a s' w' ls lw call));
    }

pub demand_three : DemandThree
demand_three b store t ts last s =
    let (turns, ended) = sequence_correct b store t ts last s in
    (turns, classified_afresh b (in_force_after b (t ∷ ts)) last ended)
