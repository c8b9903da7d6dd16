-- What classify answers and leaves: from a fresh store and the numbers of pairs and links, and where the catalogue is refused.
use Prim.Native.Nat.{ℕ}
use mathlib.Core.Path.{◌≡◌, refl, ◌∙◌}
use mathlib.Core.List.{List}
use native.Mathlib.Omega.{arith}
use lib.ListN.{length}
use lib.Seq.{take_all}
use borrow.Author.Tests.{le-leb}
use Rattle.catalogue.specs.Outcome.{accepted, refused}
use Rattle.catalogue.specs.Checks.{checked}
use Rattle.catalogue.proofs.Accepted.{accepted_well_formed}
use Rattle.rules.specs.Axioms.{catalogue_axioms}
use Rattle.rules.specs.Rules.{Closure}
use Rattle.rules.specs.Counts.{Size, Pairs, Links}
use Rattle.rules.proofs.Counts.{size_unique}
use Rattle.layout.specs.Parts.{used, work_used}
use Rattle.store.specs.Fresh.{Fresh}
use Rattle.store.specs.Checks.{store_fits, work_fits}
use Rattle.store.proofs.Work.{work_stays}
use Rattle.store.proofs.Fresh.{fresh_unique}
use Rattle.classification.specs.Classified.{pairs_of, links_of}
use Rattle.classification.proofs.Checks.{refused_catalogue, all_accepted}
use Rattle.classification.proofs.Unique.{refused_answer, accepted_answer}
use Rattle.examples_common.specs.Calls.{ClassifyGives, ClassifyRefuses}

pub classify_gives : (b : List ℕ) (pairs links : ℕ) (part : List ℕ) → checked b ≡ accepted → length part ≡ used b → Fresh b (catalogue_axioms b) part
    → Size b (Pairs (Closure b (catalogue_axioms b))) pairs → Size b (Links (Closure b (catalogue_axioms b))) links
    → ClassifyGives b (used b) (work_used b) pairs links part
unfolding store_fits work_fits
classify_gives b pairs links part catalogue long fresh p l store work answer store' work' c store_long work_long =
    let F = catalogue_axioms b in
    let a = c.accepts (all_accepted b (length store) (length work) catalogue (le-leb _ _ store_long) (le-leb _ _ work_long)) in (
      accepted_answer answer a.answers (size_unique b (Pairs (Closure b F)) (pairs_of answer) pairs a.pairs_counted p) (size_unique b (Links (Closure b F)) (links_of answer) links a.links_counted l),
      fresh_unique b F F store' part (accepted_well_formed catalogue) (λ c d. refl) a.fresh fresh ∙ take_all (used b) part (omega (arith, long)),
    )

pub classify_refuses : (b : List ℕ) (number at : ℕ) → checked b ≡ refused number at → ClassifyRefuses b number at
classify_refuses b number at e store work answer store' work' c =
    let r = c.refuses number at (refused_catalogue b (length store) (length work) e) in
    (refused_answer answer r.answers, r.store_kept, r.work_kept ∙ work_stays (work_used b) number work)
