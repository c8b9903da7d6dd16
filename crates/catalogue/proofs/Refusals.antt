-- How large the numbers of a refusal are: that of the question, and the record at fault; and that a catalogue is refused by one of its questions.
use Prim.Native.Nat.{ℕ, ◌≤◌}
use native.Mathlib.Omega.{arith}
use mathlib.Core.Path.{◌≡◌, refl, sym, subst}
use mathlib.Core.Logic.{⊎_elim}
use mathlib.Core.Bool.{Bool, true, false, ◌&&◌, and-eq-true_iff}
use mathlib.Core.List.Memᴰ
use mathlib.Core.List.{List, [], ◌∷◌, map, Memᴰ}
use lib.Dec.{leb}
use borrow.Author.Tests.{leb-true}
use Rattle.catalogue.specs.Outcome.{Outcome, accepted, refused, ask}
use Rattle.catalogue.specs.Questions.{in_concepts, in_inclusions, in_compositions, in_axioms, count_of, Question, once, each, number_of, ask_all}
use Rattle.catalogue.specs.Checks.{counts_in_limits, header_questions, concept_questions, role_questions, axiom_questions, record_questions, catalogue_questions, catalogue_numbers, catalogue_checks, checked}
use Rattle.catalogue.proofs.Outcomes.{never_both}
use Rattle.catalogue.proofs.Asked.{Yes, FaultAt, Each, none, also, RefusedBy, asked_refused, asked-append}
use Rattle.catalogue.proofs.Tests.{limits}

-- If it is a refusal, the number is from 1 to 99, and the record at most 4,096.
pub record Small (o : Outcome) : Type 0 where
  pub small : (number at : ℕ) → o ≡ refused number at → (1 ≤ number) × (number ≤ 99) × (at ≤ 4096)

pub small_accepted : Small accepted
small_accepted = record { small = λ number at e. absurd (never_both accepted refl e) }

pub small_ask : (t : Bool) (number at : ℕ) (rest : Outcome) → 1 ≤ number → number ≤ 99 → at ≤ 4096 → (t ≡ true → Small rest) → Small (ask t number at rest)
unfolding ask
small_ask true number at rest l1 ln la then = then refl
small_ask false number at rest l1 ln la then =
    record {
      small = λ n a e.
          let same : number ≡ n = cc in
          let same' : at ≡ a = cc in
          (omega arith, omega arith, omega arith);
    }

-- A question asked once has record 0, and one asked of each record that of a section.
abbrev Limited : List ℕ → Question → Type 0
Limited b (once number right) = Unit {0}
Limited b (each number section right) = count_of section b ≤ 4096

fault_limited : (b : List ℕ) (q : Question) {at : ℕ} → Limited b q → FaultAt b q at → at ≤ 4096
fault_limited b (once number right) l (no', zero) = omega arith
fault_limited b (each number section right) l (first, below) = omega arith

-- A section of a catalogue whose counts are in their limits has at most 4,096 records.
limited : (b : List ℕ) → counts_in_limits b ≡ true → (q : Question) → Limited b q
limited b e (once number right) = tt
limited b e (each number in_concepts right) = omega (arith, (limits b e).1)
limited b e (each number in_inclusions right) = omega (arith, (limits b e).3)
limited b e (each number in_compositions right) = omega (arith, (limits b e).4)
limited b e (each number in_axioms right) = (limits b e).5

-- Numbers from 1 to 99.
small_numbers : List ℕ → Bool
small_numbers [] = true
small_numbers (n ∷ ns) = leb 1 n && (leb n 99 && small_numbers ns)

numbers_small : (ns : List ℕ) → small_numbers ns ≡ true → {n : ℕ} → Memᴰ n ns → (1 ≤ n) × (n ≤ 99)
unfolding small_numbers
numbers_small [] e m = absurd (Memᴰ.not-nil m)
numbers_small (n ∷ ns) e m =
    let p = (and-eq-true_iff _ _).0 e in
    let q = (and-eq-true_iff _ _).0 p.1 in
    let low : 1 ≤ n = leb-true _ _ p.0 in
    let high : n ≤ 99 = leb-true _ _ q.0 in
    ⊎_elim (λ s. (omega arith, omega arith)) (numbers_small ns q.1) (Memᴰ.cases_cons m)

small_asked : (qs : List Question) (b : List ℕ) (rest : Outcome) → small_numbers (map number_of qs) ≡ true → Each (Limited b) qs → (Each (Yes b) qs → Small rest)
    → Small (ask_all qs b rest)
small_asked qs b rest numbers limit then = record { small = λ number at e. ⊎_elim by_one (λ (all, e'). (then all).small number at e') (asked_refused qs b rest e) }
  where
    by_one : {number at : ℕ} → RefusedBy b qs number at → (1 ≤ number) × (number ≤ 99) × (at ≤ 4096)
    by_one r =
        let n = numbers_small (map number_of qs) numbers (Memᴰ.map number_of r.is_asked) in
        let l = fault_limited b r.question (limit r.question r.is_asked) r.fault in
        (omega (arith, r.number_is), omega (arith, r.number_is), l)

pub small_catalogue : (b : List ℕ) (rest : Outcome) → Small rest → Small (catalogue_checks b rest)
unfolding catalogue_checks catalogue_questions header_questions record_questions concept_questions role_questions axiom_questions number_of small_numbers
small_catalogue b rest then =
    subst Small (sym (asked-append header_questions record_questions b rest))
    (small_asked header_questions b _ refl (also _ tt (also _ tt (also _ tt (also _ tt (none _)))))
    (λ all.
    small_asked record_questions b rest refl (λ q m. limited b (all (once 3 counts_in_limits) (search (Memᴰ.head, Memᴰ.tail))) q) (λ _. then)))

pub small_checked : (b : List ℕ) → Small (checked b)
unfolding checked
small_checked b = small_catalogue b accepted small_accepted

-- A catalogue is refused by one of its questions.
pub refused_number : (b : List ℕ) {number at : ℕ} → checked b ≡ refused number at → Memᴰ number catalogue_numbers
unfolding checked catalogue_checks catalogue_numbers
refused_number b e =
    ⊎_elim (λ r. subst (λ (n : ℕ). Memᴰ n catalogue_numbers) r.number_is (Memᴰ.map number_of r.is_asked))
    (λ (all, e'). absurd (never_both accepted refl e')) (asked_refused catalogue_questions b accepted e)
