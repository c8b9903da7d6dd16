-- The two ways that classify ends: refused with every buffer as it was, and accepted with the used parts filled.
use Prim.Native.Nat.{ℕ}
use mathlib.Core.Path.{◌≡◌, refl, sym, ap, ◌∙◌}
use mathlib.Core.List.{List, ◌++◌}
use lib.ListN.{length, drop, replicate}
use lib.Seq.{drop_at}
use Rattle.std.proofs.Common.{Ok, Err}
use Rattle.catalogue.specs.Outcome.{accepted, refused}
use Rattle.catalogue.specs.Verdicts.{refusal}
use Rattle.catalogue.proofs.Outcomes.{never_both}
use Rattle.rules.specs.Axioms.{catalogue_axioms}
use Rattle.rules.specs.Rules.{Closure}
use Rattle.layout.specs.Parts.{used, work_used}
use Rattle.store.specs.Work.{zeroed}
use Rattle.store.proofs.Stored.{marked_append}
use Rattle.store.proofs.Work.{work_stays}
use Rattle.classification.specs.declared.Classified.{Classified}
use Rattle.classification.specs.Classified.{classify_checks, Classifying, Classifies}

pub ends_refused : (b store work : List ℕ) (number at : ℕ) → classify_checks b (length store) (length work) ≡ refused number at → Classifies b store work (Err (refusal number at)) store work
ends_refused b store work number at e =
    record {
      refuses = λ n a q. record { answers = sym e ∙ q; store_kept = refl; work_kept = sym (work_stays (work_used b) n work) };
      accepts = λ q. absurd (never_both (classify_checks b (length store) (length work)) q e);
    }

pub ends_accepted : (b store work : List ℕ) (counts : Classified) (xs ys : List ℕ) (k j : ℕ) → classify_checks b (length store) (length work) ≡ accepted
    → k ≡ used b → j ≡ work_used b → length xs ≡ used b → Classifying b counts xs ys → Classifies b store work (Ok counts) (xs ++ drop k store) (ys ++ drop j work)
unfolding zeroed
ends_accepted b store work counts xs ys k j e ek ej long c =
    record {
      refuses = λ n a q. absurd (never_both (classify_checks b (length store) (length work)) e q);
      accepts = λ q.
          record {
            answers = refl;
            pairs_counted = c.pairs_counted;
            links_counted = c.links_counted;
            fresh = marked_append b (catalogue_axioms b) (Closure b (catalogue_axioms b)) xs (drop k store) c.fresh;
            store_rest = drop_at xs (drop k store) (used b) long ∙ ap (λ (n : ℕ). drop n store) ek;
            work_zero = ap (λ (l : List ℕ). l ++ drop j work) c.work_zero ∙ ap (λ (n : ℕ). replicate (work_used b) 0 ++ drop n work) ej;
          };
    }
