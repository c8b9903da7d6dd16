-- A catalogue that questions 1 to 9 accept is well-formed, and a well-formed one with its length as total is accepted.
use Prim.Native.Nat.{ℕ, zero, suc, ◌+◌, ◌*◌, ◌≤◌, ◌<◌}
use native.Mathlib.Omega.{arith}
use mathlib.Core.Path.{◌≡◌, refl, sym, ◌∙◌}
use mathlib.Core.Logic.{◌⊎◌, inl, inr}
use mathlib.Core.Bool.{Bool, true, false, ◌&&◌, ◌||◌, and-eq-true_iff}
use mathlib.Core.List.Memᴰ
use mathlib.Core.List.{List}
use lib.Dec.{ltb, eqb}
use lib.ListN.{length}
use borrow.Author.Tests.{ltb-true, leb-true, eqb-true, lt-ltb, le-leb, eq-eqb}
use Rattle.catalogue.specs.Header.{total, concepts, roles, inclusions, compositions, axioms, concepts_at, inclusions_at, axioms_at}
use Rattle.catalogue.specs.Records.{kind, first, second, within, around, role1, role2, result, left, right}
use Rattle.catalogue.specs.Outcome.{accepted}
use Rattle.catalogue.specs.Questions.{in_concepts, in_inclusions, in_compositions, in_axioms, once, each}
use Rattle.catalogue.specs.Checks.{header_fits, total_right, counts_in_limits, offsets_right, kind_right, fields_right, inclusion_right, composition_right, sides_right, above, rising_right, fields_as_kind, header_questions, concept_questions, role_questions, axiom_questions, record_questions, catalogue_questions, checked}
use Rattle.catalogue.specs.Sections.{Sections}
use Rattle.catalogue.specs.WellFormed.{WellFormed}
use Rattle.catalogue.proofs.Bounds.{header_within}
use Rattle.catalogue.proofs.Tests.{limits, sections, fields_simple, fields_conjunction, fields_existential, rising-first, rising_after}
use Rattle.catalogue.proofs.Asked.{Yes, Each, none, also}
use Rattle.catalogue.proofs.Passed.{accepted_passed, passed_accepted}

-- Both of two tests.
both : (s t : Bool) → s && t ≡ true → (s ≡ true) × (t ≡ true)
both s t = (and-eq-true_iff s t).0

and : {s t : Bool} → s ≡ true → t ≡ true → (s && t) ≡ true
and {s} {t} p q = (and-eq-true_iff s t).1 (p, q)

-- Two numbers below their bounds, and both zero.
below : (x m y n : ℕ) → (ltb x m && ltb y n) ≡ true → (x < m) × (y < n)
below x m y n e = let p = both _ _ e in (ltb-true x m p.0, ltb-true y n p.1)

are_below : {x m y n : ℕ} → (x < m) × (y < n) → (ltb x m && ltb y n) ≡ true
are_below p = and (lt-ltb _ _ p.0) (lt-ltb _ _ p.1)

zeros : (x y : ℕ) → (eqb x 0 && eqb y 0) ≡ true → (x ≡ 0) × (y ≡ 0)
zeros x y e = let p = both _ _ e in (eqb-true x 0 p.0, eqb-true y 0 p.1)

are_zeros : {x y : ℕ} → (x ≡ 0) × (y ≡ 0) → (eqb x 0 && eqb y 0) ≡ true
are_zeros p = and (eq-eqb _ _ p.0) (eq-eqb _ _ p.1)

-- The order of axioms as a fact.
above-rising : (l r x y : ℕ) → above l r x y ≡ true → (l < x) ⊎ ((l ≡ x) × (r < y))
unfolding above
above-rising l r x y e = go (ltb l x) refl e
  where
    go : (t : Bool) → ltb l x ≡ t → (t || (eqb l x && ltb r y)) ≡ true → (l < x) ⊎ ((l ≡ x) × (r < y))
    go true p q = inl (ltb-true l x p)
    go false p q = let s = both _ _ q in inr (eqb-true l x s.0, ltb-true r y s.1)

rising-above : (l r x y : ℕ) → (l < x) ⊎ ((l ≡ x) × (r < y)) → above l r x y ≡ true
unfolding above
rising-above l r x y (inl p) = rw (lt-ltb l x p)
rising-above l r x y (inr p) = go (ltb l x)
  where
    go : (t : Bool) → (t || (eqb l x && ltb r y)) ≡ true
    go true = refl
    go false = and (eq-eqb _ _ p.0) (lt-ltb _ _ p.1)

-- A number at most three.
up_to_three : (k : ℕ) → k ≤ 3 → (k ≤ 1) ⊎ ((k ≡ 2) ⊎ (k ≡ 3))
up_to_three zero l = inl (omega arith)
up_to_three (suc zero) l = inl (omega arith)
up_to_three (suc (suc zero)) l = inr (inl refl)
up_to_three (suc (suc (suc k))) l = inr (inr (omega arith))

-- The list of questions written out, and the places in it.
lists : Unit {0}
unfolding header_questions concept_questions role_questions axiom_questions record_questions catalogue_questions
lists = tt

ruleset places = (Memᴰ.head, Memᴰ.tail)

-- What a yes to each of a catalogue's questions says.
module _ (b : List ℕ) (p : Each (Yes b) catalogue_questions) where
  -- Each question, wherever it stands in the list.
  asked-total-right : total_right b ≡ true
  unfolding lists
  asked-total-right = p (once 2 total_right) (search places depth 12)

  asked_counts_in_limits : counts_in_limits b ≡ true
  unfolding lists
  asked_counts_in_limits = p (once 3 counts_in_limits) (search places depth 12)

  asked_offsets_right : offsets_right b ≡ true
  unfolding lists
  asked_offsets_right = p (once 4 offsets_right) (search places depth 12)

  asked-kind-right : (i : ℕ) → i < concepts b → kind_right b i ≡ true
  unfolding lists
  asked-kind-right = p (each 5 in_concepts kind_right) (search places depth 12)

  asked_fields_right : (i : ℕ) → i < concepts b → fields_right b i ≡ true
  unfolding lists
  asked_fields_right = p (each 6 in_concepts fields_right) (search places depth 12)

  asked_inclusion_right : (k : ℕ) → k < inclusions b → inclusion_right b k ≡ true
  unfolding lists
  asked_inclusion_right = p (each 7 in_inclusions inclusion_right) (search places depth 12)

  asked_composition_right : (k : ℕ) → k < compositions b → composition_right b k ≡ true
  unfolding lists
  asked_composition_right = p (each 7 in_compositions composition_right) (search places depth 12)

  asked_sides_right : (k : ℕ) → k < axioms b → sides_right b k ≡ true
  unfolding lists
  asked_sides_right = p (each 8 in_axioms sides_right) (search places depth 12)

  asked-rising-right : (k : ℕ) → k < axioms b → rising_right b k ≡ true
  unfolding lists
  asked-rising-right = p (each 9 in_axioms rising_right) (search places depth 12)

  kind_most : (i : ℕ) → i < concepts b → kind b i ≤ 3
  unfolding kind_right
  kind_most i l = leb-true _ _ (asked-kind-right i l)

  simple : (i : ℕ) → i < concepts b → kind b i ≤ 1 → (first b i ≡ 0) × (second b i ≡ 0)
  unfolding fields_right
  simple i l k = zeros _ _ (sym (fields_simple b i (kind b i) k) ∙ asked_fields_right i l)

  conjunction : (i : ℕ) → i < concepts b → kind b i ≡ 2 → (first b i < i) × (second b i < i)
  unfolding fields_right
  conjunction i l k = below _ _ _ _ (sym (fields_conjunction b i (kind b i) k) ∙ asked_fields_right i l)

  restriction : (i : ℕ) → i < concepts b → kind b i ≡ 3 → (first b i < roles b) × (second b i < i)
  unfolding fields_right
  restriction i l k = below _ _ _ _ (sym (fields_existential b i (kind b i) k) ∙ asked_fields_right i l)

  inclusion_roles : (k : ℕ) → k < inclusions b → (within b k < roles b) × (around b k < roles b)
  unfolding inclusion_right
  inclusion_roles k l = below _ _ _ _ (asked_inclusion_right k l)

  composition_roles : (k : ℕ) → k < compositions b → (role1 b k < roles b) × (role2 b k < roles b) × (result b k < roles b)
  unfolding composition_right
  composition_roles k l =
      let r = both _ _ (asked_composition_right k l) in
      let s = below _ _ _ _ r.1 in
      (ltb-true _ _ r.0, s.0, s.1)

  axiom_sides : (k : ℕ) → k < axioms b → (left b k < concepts b) × (right b k < concepts b)
  unfolding sides_right
  axiom_sides k l = below _ _ _ _ (asked_sides_right k l)

  axioms_rise : (k : ℕ) → suc k < axioms b → (left b k < left b (suc k)) ⊎ ((left b k ≡ left b (suc k)) × (right b k < right b (suc k)))
  axioms_rise k l = above-rising _ _ _ _ (sym (rising_after b k (suc k) refl) ∙ asked-rising-right (suc k) l)

  passed_well_formed : WellFormed b
  passed_well_formed =
      let s : Sections b = sections b asked-total-right asked_offsets_right in
      let counts = limits b asked_counts_in_limits in
      record {
        some_concept = counts.0;
        concepts_limit = counts.1;
        roles_limit = counts.2;
        inclusions_limit = counts.3;
        compositions_limit = counts.4;
        axioms_limit = counts.5;
        concepts_start = s.concepts_start;
        inclusions_start = s.inclusions_start;
        compositions_start = s.compositions_start;
        axioms_start = s.axioms_start;
        whole = s.whole;
        kinds = kind_most;
        atomic = simple;
        conjuncts = conjunction;
        existential = restriction;
        inclusion = inclusion_roles;
        composition = composition_roles;
        sides = axiom_sides;
        rising = axioms_rise;
      }

-- And the other way: what is well-formed passes each question.
module _ (b : List ℕ) (f : WellFormed b) (t : total b ≡ length b) where
  counts_pass : counts_in_limits b ≡ true
  unfolding counts_in_limits
  counts_pass =
      and (le-leb _ _ f.some_concept)
      (and (le-leb _ _ f.concepts_limit)
      (and (le-leb _ _ f.roles_limit)
      (and (le-leb _ _ f.inclusions_limit) (and (le-leb _ _ f.compositions_limit) (le-leb _ _ f.axioms_limit)))))

  offsets_pass : offsets_right b ≡ true
  unfolding offsets_right
  offsets_pass =
      let inclusions_start : inclusions_at b ≡ concepts_at b + 6 * concepts b = omega arith in
      let end : total b ≡ axioms_at b + 4 * axioms b = t ∙ f.whole in
      and (eq-eqb _ _ f.concepts_start)
      (and (eq-eqb _ _ inclusions_start)
      (and (eq-eqb _ _ f.compositions_start) (and (eq-eqb _ _ f.axioms_start) (eq-eqb _ _ end))))

  fields_pass : (i : ℕ) → i < concepts b → fields_right b i ≡ true
  unfolding fields_right
  fields_pass i l = go (up_to_three _ (f.kinds i l))
    where
      go : (kind b i ≤ 1) ⊎ ((kind b i ≡ 2) ⊎ (kind b i ≡ 3)) → fields_as_kind b i (kind b i) ≡ true
      go (inl k) = fields_simple b i _ k ∙ are_zeros (f.atomic i l k)
      go (inr (inl k)) = fields_conjunction b i _ k ∙ are_below (f.conjuncts i l k)
      go (inr (inr k)) = fields_existential b i _ k ∙ are_below (f.existential i l k)

  composition_pass : (k : ℕ) → k < compositions b → composition_right b k ≡ true
  unfolding composition_right
  composition_pass k l = let c = f.composition k l in and (lt-ltb _ _ c.0) (are_below (c.1, c.2))

  rising_pass : (k : ℕ) → k < axioms b → rising_right b k ≡ true
  rising_pass zero l = rising-first b 0 refl
  rising_pass (suc k) l = rising_after b k (suc k) refl ∙ rising-above _ _ _ _ (f.rising k l)

  well_formed_passed : Each (Yes b) catalogue_questions
  unfolding lists header_fits total_right kind_right inclusion_right sides_right
  well_formed_passed =
      also (Yes b) (le-leb 20 (length b) (header_within f))
      (also (Yes b) (eq-eqb _ _ t)
      (also (Yes b) counts_pass
      (also (Yes b) offsets_pass
      (also (Yes b) (λ i l. le-leb _ _ (f.kinds i l))
      (also (Yes b) fields_pass
      (also (Yes b) (λ k l. are_below (f.inclusion k l))
      (also (Yes b) composition_pass
      (also (Yes b) (λ k l. are_below (f.sides k l))
      (also (Yes b) rising_pass
      (none (Yes b)))))))))))

pub accepted_well_formed : {b : List ℕ} → checked b ≡ accepted → WellFormed b
accepted_well_formed {b} e = passed_well_formed b (accepted_passed b e)

pub well_formed_accepted : {b : List ℕ} → WellFormed b → total b ≡ length b → checked b ≡ accepted
well_formed_accepted {b} f t = passed_accepted b (well_formed_passed b f t)

-- The total field of an accepted catalogue is its length.
pub accepted_total : (b : List ℕ) → checked b ≡ accepted → total b ≡ length b
unfolding total_right
accepted_total b e = eqb-true _ _ (asked-total-right b (accepted_passed b e))
