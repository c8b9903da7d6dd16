-- Classify of the catalogue with F as its axioms leaves a store that is classified afresh from F.
use Prim.Native.Nat.{ℕ, ◌+◌, ◌*◌, ◌/◌, ◌≤◌}
use native.Mathlib.Omega.{arith}
use mathlib.Core.Path.{◌≡◌, ap₂, subst, fun_ext}
use mathlib.Core.List.{List}
use lib.ListN.{length}
use borrow.Author.Tests.{le-leb}
use Rattle.catalogue.specs.Outcome.{accepted}
use Rattle.catalogue.specs.WellFormed.{WellFormed}
use Rattle.catalogue.proofs.Accepted.{accepted_well_formed}
use Rattle.rules.specs.Axioms.{Axioms, catalogue_axioms}
use Rattle.layout.specs.Parts.{width, used, work_used}
use Rattle.store.specs.Fresh.{Fresh}
use Rattle.store.specs.Checks.{store_fits, work_fits}
use Rattle.store.specs.Written.{written, SameRecords}
use Rattle.store.proofs.SameRules.{used_same, fresh_written}
use Rattle.store.proofs.Written.{written_same, written_accepted, written-axioms}
use Rattle.classification.specs.Classified.{classify_checks}
use Rattle.classification.proofs.Checks.{all_accepted}
use Rattle.demands.specs.Afresh.{FreshByClassify}

pub work_same : (b w : List ℕ) → SameRecords b w → work_used w ≡ work_used b
unfolding work_used width
work_same b w m = ap₂ (λ (n r : ℕ). n * ((n + 7) / 8) * (r + 1)) m.concepts_same m.roles_same

-- The catalogue with F as its axioms.
pub fresh_by_classify : FreshByClassify
unfolding store_fits work_fits
fresh_by_classify b F catalogue range few =
    let wf : WellFormed b = accepted_well_formed catalogue in
    let m = written_same b F wf in
    let us = used_same b (written b F) m in
    let ws = work_same b (written b F) m in
    let own : catalogue_axioms (written b F) ≡ F = fun_ext (λ c. fun_ext (λ d. written-axioms b F wf range c d)) in
    let ok : (s k : ℕ) → used b ≤ s → work_used b ≤ k → classify_checks (written b F) s k ≡ accepted =
    λ s k ls lk.
    all_accepted (written b F) s k (written_accepted b F wf few)
    (le-leb (used (written b F)) s (omega (arith, us)))
    (le-leb (work_used (written b F)) k (omega (arith, ws)))
    in
    record {
      same_used = us;
      same_work = ws;
      accepts = ok;
      leaves = λ store work answer store' work' ls lk call.
          (fresh_written b F store' wf range few).1
          (subst (λ (G : Axioms). Fresh (written b F) G store') own (call.accepts (ok (length store) (length work) ls lk)).fresh);
    }
