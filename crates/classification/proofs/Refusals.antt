-- How large the numbers of a refused classify are.
use Prim.Native.Nat.{ℕ}
use mathlib.Core.List.{List}
use lib.Dec.{lit≤}
use Rattle.catalogue.specs.Outcome.{accepted}
use Rattle.catalogue.proofs.Refusals.{Small, small_accepted, small_ask, small_catalogue}
use Rattle.store.specs.Checks.{store_fits, work_fits, ask_store, ask_work}
use Rattle.classification.specs.Classified.{classify_checks}

pub small_classify : (b : List ℕ) (store_length work_length : ℕ) → Small (classify_checks b store_length work_length)
unfolding classify_checks ask_store ask_work
small_classify b store_length work_length =
    small_catalogue b _
    (small_ask (store_fits b store_length) 10 0 _ (lit≤ tt) (lit≤ tt) (lit≤ tt) (λ h. small_ask (work_fits b work_length) 11 0 accepted (lit≤ tt) (lit≤ tt) (lit≤ tt) (λ g. small_accepted)))
