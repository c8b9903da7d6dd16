-- Catalogues with the same records but for their axioms have the same rules: what occurs, the least set, and the stores classified afresh.
use Prim.Native.Nat.{ℕ, zero, suc, ◌+◌, ◌*◌, ◌/◌, ◌≤◌, ◌<◌}
use native.Mathlib.Omega.{arith}
use mathlib.Core.Path.{◌≡◌, refl, sym, ap, ap₂, subst, ◌∙◌}
use mathlib.Core.Logic.{◌↔◌}
use mathlib.Core.Bool.{Bool, not}
use mathlib.Core.List.{List}
use lib.ListN.{length, take, drop}
use Rattle.catalogue.specs.Header.{concepts}
use Rattle.catalogue.specs.WellFormed.{WellFormed}
use Rattle.rows.specs.Bits.{some_below}
use Rattle.derivation.specs.Systems.{by}
use Rattle.structure.specs.Parts.{Part, first_conjunct, second_conjunct, filler}
use Rattle.structure.specs.Reach.{Reach, here, up}
use Rattle.rules.specs.Axioms.{Axioms, InRange}
use Rattle.rules.specs.Occurrence.{Marking, Occurs, atomic, left_side, right_side, part, occurs}
use Rattle.rules.specs.Rules.{Expression, pair, link, Inference, rule1, rule2, rule3, rule4_first, rule4_second, rule5, rule6, rule7, rule8, premise, conclusion, Allows, Derived, Closure}
use Rattle.rules.proofs.Occurrence.{occurs_below, exact_unique, occurs_exact}
use Rattle.rules.proofs.Rules.{Kind, allows_rule1, allows_rule2, allows_rule3, allows_rule4_first, allows_rule4_second, allows_rule5, allows_rule6, allows_rule7, allows_rule8}
use Rattle.layout.specs.declared.Shape.{Shape}
use Rattle.layout.specs.Layout.{shape_of, table, marks, table_length, block_length}
use Rattle.layout.specs.Parts.{width, used, axiom_rows, set_rows, in_force, held, row_count, set_from, spare_clear}
use Rattle.store.specs.Fresh.{Marked, Fresh}
use Rattle.store.specs.Written.{axiom_count, written, SameRecords}
use Rattle.store.proofs.Written.{written_same, written_well_formed}

pub same_sym : (b b' : List ℕ) → SameRecords b b' → SameRecords b' b
same_sym b b' m =
    let n = m.concepts_same in
    let h = m.inclusions_same in
    let k = m.compositions_same in
    record {
      concepts_same = sym n;
      roles_same = sym m.roles_same;
      inclusions_same = sym h;
      compositions_same = sym k;
      kind_same = λ i l. sym (m.kind_same i (omega arith));
      first_same = λ i l. sym (m.first_same i (omega arith));
      second_same = λ i l. sym (m.second_same i (omega arith));
      within_same = λ i l. sym (m.within_same i (omega arith));
      around_same = λ i l. sym (m.around_same i (omega arith));
      role1_same = λ i l. sym (m.role1_same i (omega arith));
      role2_same = λ i l. sym (m.role2_same i (omega arith));
      result_same = λ i l. sym (m.result_same i (omega arith));
    }

-- ---- what the rules read

module _ (b b' : List ℕ) (m : SameRecords b b') where
  reach_same : {r s : ℕ} → Reach b r s → Reach b' r s
  reach_same here = here
  reach_same (up {s} k l h) =
      subst (λ r. Reach b' r s) (m.within_same k l)
      (up k (subst (λ n. k < n) (sym m.inclusions_same) l) (subst (λ r. Reach b' r s) (sym (m.around_same k l)) (reach_same h)))

  part_same : {i j : ℕ} → i < concepts b → Part b i j → Part b' i j
  part_same {i} l (first_conjunct e) = subst (Part b' i) (m.first_same i l) (first_conjunct (m.kind_same i l ∙ e))
  part_same {i} l (second_conjunct e) = subst (Part b' i) (m.second_same i l) (second_conjunct (m.kind_same i l ∙ e))
  part_same {i} l (filler e) = subst (Part b' i) (m.second_same i l) (filler (m.kind_same i l ∙ e))

  kind_there : (k x : ℕ) → Kind b k x → Kind b' k x
  kind_there k x h = (subst (λ n. x < n) (sym m.concepts_same) h.0, m.kind_same x h.0 ∙ h.1)

  occurs_there : (F : Axioms) → WellFormed b → InRange b F → {c : ℕ} → Occurs b F c → Occurs b' F c
  occurs_there F wf range (atomic {c} a) = atomic (kind_there 0 c a)
  occurs_there F wf range (left_side f) = left_side f
  occurs_there F wf range (right_side f) = right_side f
  occurs_there F wf range (part {i} o p) = part (occurs_there F wf range o) (part_same (occurs_below b F wf range i o) p)

  pub range_same : (F : Axioms) → InRange b F → InRange b' F
  range_same F range c d f = let r = range c d f in (subst (λ n. c < n) (sym m.concepts_same) r.0, subst (λ n. d < n) (sym m.concepts_same) r.1)

-- What occurs.
pub occurs_same : (b b' : List ℕ) (F : Axioms) → SameRecords b b' → WellFormed b → WellFormed b' → InRange b F → occurs b F ≡ occurs b' F
occurs_same b b' F m wf wf' range =
    let exact = occurs_exact b F wf range in
    let range' = range_same b b' m F range in
    let exact' = occurs_exact b' F wf' range' in
    exact_unique b F (occurs b F) (occurs b' F) exact
    (λ c. (λ e. occurs_there b' b (same_sym b b' m) F wf' range' ((exact' c).0 e), λ o. (exact' c).1 (occurs_there b b' m F wf range o)))

-- ---- the least set

-- An inference that is allowed by one is allowed by the other, with the same conclusion and premises.
record Same (b b' : List ℕ) (F : ℕ → ℕ → Bool) (O : ℕ → Bool) (i : Inference) : Type 0 where
  allows : Allows b' F O i
  concludes : conclusion b' i ≡ conclusion b i
  premises : (p : ℕ) → premise b' i p ≡ premise b i p

-- The first premise, and the others.
each : (f g : ℕ → Expression) → f 0 ≡ g 0 → ((p : ℕ) → f (suc p) ≡ g (suc p)) → (p : ℕ) → f p ≡ g p
each f g a h zero = a
each f g a h (suc p) = h p

module _ (b b' : List ℕ) (F : Axioms) (O : Marking) (m : SameRecords b b') where
  same_inference : (i : Inference) → Allows b F O i → Same b b' F O i
  unfolding conclusion premise
  same_inference (rule1 c) a = record { allows = (allows_rule1 b' F O c).1 ((allows_rule1 b F O c).0 a); concludes = refl; premises = λ p. refl }
  same_inference (rule2 c t) a =
      let h = (allows_rule2 b F O c t).0 a in
      record { allows = (allows_rule2 b' F O c t).1 (kind_there b b' m 1 t h.0, h.1, h.2); concludes = refl; premises = λ p. refl }
  same_inference (rule3 c d e) a = record { allows = (allows_rule3 b' F O c d e).1 ((allows_rule3 b F O c d e).0 a); concludes = refl; premises = λ p. refl }
  same_inference (rule4_first c x) a =
      let k = (allows_rule4_first b F O c x).0 a in
      record { allows = (allows_rule4_first b' F O c x).1 (kind_there b b' m 2 x k); concludes = ap (pair c) (m.first_same x k.0); premises = λ p. refl }
  same_inference (rule4_second c x) a =
      let k = (allows_rule4_second b F O c x).0 a in
      record { allows = (allows_rule4_second b' F O c x).1 (kind_there b b' m 2 x k); concludes = ap (pair c) (m.second_same x k.0); premises = λ p. refl }
  same_inference (rule5 c x) a =
      let h = (allows_rule5 b F O c x).0 a in
      let l = h.0.0 in
      record {
        allows = (allows_rule5 b' F O c x).1 (kind_there b b' m 2 x h.0, h.1);
        concludes = refl;
        premises = each (premise b' (rule5 c x)) (premise b (rule5 c x)) (ap (pair c) (m.first_same x l)) (λ p. ap (pair c) (m.second_same x l));
      }
  same_inference (rule6 e x) a =
      let k = (allows_rule6 b F O e x).0 a in
      record { allows = (allows_rule6 b' F O e x).1 (kind_there b b' m 3 x k); concludes = ap₂ (link e) (m.first_same x k.0) (m.second_same x k.0); premises = λ p. refl }
  same_inference (rule7 e r c x) a =
      let h = (allows_rule7 b F O e r c x).0 a in
      let l = h.0.0 in
      record {
        allows = (allows_rule7 b' F O e r c x).1 (kind_there b b' m 3 x h.0, h.1, subst (Reach b' r) (sym (m.first_same x l)) (reach_same b b' m h.2));
        concludes = refl;
        premises = each (premise b' (rule7 e r c x)) (premise b (rule7 e r c x)) refl (λ p. ap (pair c) (m.second_same x l));
      }
  same_inference (rule8 e r1 c r2 d k) a =
      let h = (allows_rule8 b F O e r1 c r2 d k).0 a in
      let l = h.0 in
      record {
        allows = (allows_rule8 b' F O e r1 c r2 d k).1 (
          subst (λ n. k < n) (sym m.compositions_same) l,
          subst (Reach b' r1) (sym (m.role1_same k l)) (reach_same b b' m h.1),
          subst (Reach b' r2) (sym (m.role2_same k l)) (reach_same b b' m h.2),
        );
        concludes = ap (λ r. link e r d) (m.result_same k l);
        premises = each (premise b' (rule8 e r1 c r2 d k)) (premise b (rule8 e r1 c r2 d k)) refl (λ p. refl);
      }

  derived_there : {e : Expression} → Derived b F O e → Derived b' F O e
  derived_there (by i a ps) =
      let s = same_inference i a in
      subst (Derived b' F O) s.concludes (by i s.allows (λ p. subst (Derived b' F O) (sym (s.premises p.0)) (derived_there (ps p))))

pub closure_same : (b b' : List ℕ) (F : Axioms) → SameRecords b b' → WellFormed b → WellFormed b' → InRange b F → (e : Expression) → Closure b F e ↔ Closure b' F e
closure_same b b' F m wf wf' range e =
    let o = occurs_same b b' F m wf wf' range in (
      λ d. subst (λ (O : Marking). Derived b' F O e) o (derived_there b b' F (occurs b F) m d),
      λ d. subst (λ (O : Marking). Derived b F O e) (sym o) (derived_there b' b F (occurs b' F) (same_sym b b' m) d),
    )

-- ---- stores

module _ (b b' : List ℕ) (m : SameRecords b b') where
  pub shape_same : shape_of b' ≡ shape_of b
  unfolding shape_of
  shape_same = λ i. record { concepts = m.concepts_same i; roles = m.roles_same i; width = (m.concepts_same i + 7) / 8 }

  pub used_same : used b' ≡ used b
  unfolding used width
  used_same = ap₂ (λ (n r : ℕ). n * ((n + 7) / 8) * (r + 2)) m.concepts_same m.roles_same

  in_force_same : (store : List ℕ) → in_force b' store ≡ in_force b store
  unfolding in_force axiom_rows
  in_force_same store = ap (λ (s : Shape). table s (take (table_length s) store)) shape_same

  held_same : (store : List ℕ) → held b' store ≡ held b store
  unfolding held set_rows
  held_same store = ap (λ (s : Shape). marks s (take (block_length s) (drop (table_length s) store))) shape_same

  spare_same : (store : List ℕ) → spare_clear b' store ≡ spare_clear b store
  unfolding spare_clear row_count width
  spare_same store = ap₂ (λ (n r : ℕ). not (some_below (set_from ((n + 7) / 8) n store) (n * (r + 2)))) m.concepts_same m.roles_same

pub marked_same : (b b' : List ℕ) (F : Axioms) (S T : Expression → Type 0) (store : List ℕ) → SameRecords b b' → ((e : Expression) → S e ↔ T e) → Marked b F S store → Marked b' F T store
marked_same b b' F S T store m st p =
    let u = used_same b b' m in
    record {
      long = subst (λ n. n ≤ length store) (sym u) p.long;
      axioms = λ c d. ap (λ (G : Axioms). G c d) (in_force_same b b' m store) ∙ p.axioms c d;
      set = λ e.
          let h = ap (λ (t : Expression → Bool). t e) (held_same b b' m store) in
          (λ x. (st e).0 ((p.set e).0 (sym h ∙ x)), λ t. h ∙ (p.set e).1 ((st e).1 t));
      spare = spare_same b b' m store ∙ p.spare;
      bytes = λ i l. p.bytes i (subst (λ n. i < n) u l);
    }

-- Classified afresh from F with one of them or with the other: it is the same.
pub fresh_same : (b b' : List ℕ) (F : Axioms) (store : List ℕ) → SameRecords b b' → WellFormed b → WellFormed b' → InRange b F → Fresh b F store ↔ Fresh b' F store
fresh_same b b' F store m wf wf' range =
    let c = closure_same b b' F m wf wf' range in (
      marked_same b b' F (Closure b F) (Closure b' F) store m c,
      marked_same b' b F (Closure b' F) (Closure b F) store (same_sym b b' m) (λ e. ((c e).1, (c e).0)),
    )

-- So with the catalogue that has F as its axioms.
pub fresh_written : (b : List ℕ) (F : Axioms) (store : List ℕ) → WellFormed b → InRange b F → axiom_count b F ≤ 4096 → Fresh b F store ↔ Fresh (written b F) F store
fresh_written b F store wf range few =
    fresh_same b (written b F) F store (written_same b F wf) wf (written_well_formed b F wf few) range
