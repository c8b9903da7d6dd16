-- A catalogue of n atomic concepts and nothing else is accepted for n from 1 to 512, and refused by 3 for more.
use Prim.Native.Nat.{ℕ, ◌+◌, ◌*◌, ◌≤◌, ◌<◌}
use native.Mathlib.Nat.{not-suc-le-zero}
use native.Mathlib.Omega.{arith}
use mathlib.Core.Path.{◌≡◌, refl, sym, ap, ap₂, ◌∙◌}
use lib.ListN.{length, replicate, length-append, length-replicate, get_or-replicate}
use borrow.Author.Tests.{le-leb, lt-leb, eq-eqb}
use Rattle.catalogue.specs.Words.{word, bytes_of}
use Rattle.catalogue.specs.Header.{total, concepts, roles, inclusions, compositions, axioms, concepts_at, inclusions_at, compositions_at, axioms_at}
use Rattle.catalogue.specs.Records.{kind, first, second}
use Rattle.catalogue.specs.Outcome.{accepted, refused}
use Rattle.catalogue.specs.Questions.{ask_all}
use Rattle.catalogue.specs.Checks.{header_fits, total_right, counts_in_limits, header_questions, catalogue_questions, catalogue_checks, checked}
use Rattle.catalogue.specs.WellFormed.{WellFormed}
use Rattle.catalogue.proofs.Outcomes.{ask_yes, ask_no}
use Rattle.catalogue.proofs.Accepted.{well_formed_accepted}
use Rattle.store.specs.Examples.{atomic_header, atomic_concepts}
use Rattle.store.proofs.Records.{word-second}

header_long : (n : ℕ) → length (atomic_header n) ≡ 20
unfolding atomic_header bytes_of
header_long n = refl

zeros : (k i : ℕ) → i + 1 < k → word (replicate k 0) i ≡ 0
unfolding word
zeros k i l = ap₂ (λ (x y : ℕ). x + 256 * y) (get_or-replicate k i 0 0 (omega arith)) (get_or-replicate k (i + 1) 0 0 l)

module _ (n : ℕ) where
  pub atomic_count : concepts (atomic_concepts n) ≡ n
  unfolding atomic_concepts atomic_header concepts word bytes_of
  atomic_count = omega arith

  long : length (atomic_concepts n) ≡ 20 + 6 * n
  unfolding atomic_concepts
  long = length-append (atomic_header n) (replicate (6 * n) 0) ∙ ap₂ ◌+◌ (header_long n) (length-replicate (6 * n) 0)

  total_right_lem : total (atomic_concepts n) ≡ length (atomic_concepts n)
  unfolding atomic_concepts atomic_header total word bytes_of
  total_right_lem = let own : total (atomic_concepts n) ≡ 20 + 6 * n = omega arith in own ∙ sym long

  -- Every number past the header is zero.
  zero_word : (i j : ℕ) → j ≡ 20 + i → i + 1 < 6 * n → word (atomic_concepts n) j ≡ 0
  unfolding atomic_concepts
  zero_word i j e l = ap (word (atomic_concepts n)) e ∙ word-second (atomic_header n) (replicate (6 * n) 0) 20 i (header_long n) ∙ zeros (6 * n) i l

  pub zero_record : (i : ℕ) → i < concepts (atomic_concepts n) → (kind (atomic_concepts n) i ≡ 0) × (first (atomic_concepts n) i ≡ 0) × (second (atomic_concepts n) i ≡ 0)
  unfolding kind first second
  zero_record i l =
      let h : i < n = omega (arith, atomic_count) in
      (zero_word (6 * i) _ refl (omega arith), zero_word (6 * i + 2) _ (omega arith) (omega arith), zero_word (6 * i + 4) _ (omega arith) (omega arith))

  pub atomic_well_formed : 1 ≤ n → n ≤ 512 → WellFormed (atomic_concepts n)
  unfolding atomic_concepts atomic_header roles inclusions compositions axioms concepts_at inclusions_at compositions_at axioms_at word bytes_of
  atomic_well_formed some few =
      record {
        some_concept = omega (arith, atomic_count);
        concepts_limit = omega (arith, atomic_count);
        roles_limit = omega arith;
        inclusions_limit = omega arith;
        compositions_limit = omega arith;
        axioms_limit = omega arith;
        concepts_start = refl;
        inclusions_start = omega (arith, atomic_count);
        compositions_start = omega arith;
        axioms_start = omega arith;
        whole = omega (arith, long);
        kinds = λ i l. let z = (zero_record i l).0 in omega arith;
        atomic = λ i l k. let z = zero_record i l in (z.1, z.2);
        conjuncts = λ i l k. let z = (zero_record i l).0 in absurd (let never : ⊥ = omega arith in never);
        existential = λ i l k. let z = (zero_record i l).0 in absurd (let never : ⊥ = omega arith in never);
        inclusion = λ k l. absurd (not-suc-le-zero l);
        composition = λ k l. absurd (not-suc-le-zero l);
        sides = λ k l. absurd (not-suc-le-zero l);
        rising = λ k l. absurd (not-suc-le-zero l);
      }

  pub atomic_accepted : 1 ≤ n → n ≤ 512 → checked (atomic_concepts n) ≡ accepted
  atomic_accepted some few = well_formed_accepted (atomic_well_formed some few) total_right_lem

  pub atomic_too_many : 512 < n → checked (atomic_concepts n) ≡ refused 3 0
  unfolding ask_all checked catalogue_checks catalogue_questions header_questions header_fits total_right counts_in_limits
  atomic_too_many many =
      ask_yes 1 0 _ (le-leb 20 (length (atomic_concepts n)) (omega (arith, long)))
      ∙ ask_yes 2 0 _ (eq-eqb _ _ total_right_lem)
      ∙ ask_no 3 0 _ (rw (le-leb 1 (concepts (atomic_concepts n)) (omega (arith, atomic_count)), lt-leb (concepts (atomic_concepts n)) 512 (omega (arith, atomic_count))))
