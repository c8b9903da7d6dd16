-- Classify leaves one outcome: two exits at equal entries are equal, the answer and every lent byte.
use Prim.Native.Nat.{ℕ}
use native.Mathlib.Omega.{arith}
use mathlib.Core.Path.{◌≡◌, refl, sym, ap₂, ◌∙◌}
use mathlib.Core.List.{List, ◌++◌}
use lib.ListN.{length, take-append-drop}
use Rattle.std.proofs.Common.{Result, Ok, Err}
use Rattle.catalogue.specs.declared.checks.Refusal.{Refusal}
use Rattle.catalogue.specs.Outcome.{Outcome, accepted, refused}
use Rattle.catalogue.specs.Verdicts.{refusal}
use Rattle.rules.specs.Axioms.{catalogue_axioms}
use Rattle.rules.specs.Rules.{Closure}
use Rattle.rules.specs.Counts.{Pairs, Links}
use Rattle.rules.proofs.Counts.{size_unique}
use Rattle.layout.specs.Parts.{used}
use Rattle.store.proofs.Fresh.{fresh_unique}
use Rattle.classification.specs.declared.Classified.{Classified}
use Rattle.classification.specs.Classified.{classify_checks, outcome_of, pairs_of, links_of, Classifies, classified}
use Rattle.classification.proofs.Checks.{accepted_fits}

-- An answer is decided by its outcome and its two counts.
pub refused_answer : (a : Result Classified Refusal) {number at : ℕ} → outcome_of a ≡ refused number at → a ≡ Err (refusal number at)
refused_answer (Ok c) e = let z : ◌≡◌ {A = ℕ} 0 1 = cc in absurd (omega arith)
refused_answer (Err r) {number} {at} e =
    let n : r.number ≡ number = cc in
    let k : r.at ≡ at = cc in
    ap₂ (λ (x y : ℕ). Err (refusal x y)) n k

pub accepted_answer : (a : Result Classified Refusal) {pairs links : ℕ} → outcome_of a ≡ accepted → pairs_of a ≡ pairs → links_of a ≡ links → a ≡ Ok (classified pairs links)
accepted_answer (Ok c) e p q = simp (← p, ← q)
accepted_answer (Err r) e p q = let z : ◌≡◌ {A = ℕ} 0 1 = cc in absurd (omega arith)

module _ (b store work : List ℕ) (a a' : Result Classified Refusal) (s s' w w' : List ℕ) (p : Classifies b store work a s w) (q : Classifies b store work a' s' w') where
  unique_by : (o : Outcome) → classify_checks b (length store) (length work) ≡ o → (a ≡ a') × (s ≡ s') × (w ≡ w')
  unique_by (refused number at) e =
      let r = p.refuses number at e in
      let t = q.refuses number at e in (
        refused_answer a r.answers ∙ sym (refused_answer a' t.answers),
        r.store_kept ∙ sym t.store_kept,
        r.work_kept ∙ sym t.work_kept,
      )
  unique_by accepted e =
      let r = p.accepts e in
      let t = q.accepts e in
      let F = catalogue_axioms b in
      let pairs = size_unique b (Pairs (Closure b F)) (pairs_of a) (pairs_of a') r.pairs_counted t.pairs_counted in
      let links = size_unique b (Links (Closure b F)) (links_of a) (links_of a') r.links_counted t.links_counted in
      let front = fresh_unique b F F s s' (accepted_fits b (length store) (length work) e).well_formed (λ c d. refl) r.fresh t.fresh in (
        accepted_answer a r.answers pairs links ∙ sym (accepted_answer a' t.answers refl refl),
        sym (take-append-drop (used b) s) ∙ ap₂ ◌++◌ front (r.store_rest ∙ sym t.store_rest) ∙ take-append-drop (used b) s',
        r.work_zero ∙ sym t.work_zero,
      )

  pub classifies_unique : (a ≡ a') × (s ≡ s') × (w ≡ w')
  classifies_unique = unique_by (classify_checks b (length store) (length work)) refl
