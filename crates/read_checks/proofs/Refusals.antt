-- How large the numbers of a refusal are, of the calls that read.
use Prim.Native.Nat.{ℕ}
use mathlib.Core.List.{List}
use lib.Dec.{lit≤}
use lib.ListN.{length}
use Rattle.catalogue.specs.Outcome.{Outcome, accepted}
use Rattle.catalogue.proofs.Refusals.{Small, small_accepted, small_ask, small_catalogue}
use Rattle.store.specs.Checks.{ask_store, ask_list, ask_spare, ask_limit, ask_numbers}
use Rattle.read_checks.specs.Checks.{ask_occurs, open_checks, content_checks, read_checks, list_checks}

small_content : (b names store : List ℕ) → Small (content_checks b names store)
unfolding content_checks ask_spare ask_limit ask_numbers ask_occurs
small_content b names store =
    small_ask _ 13 0 _ (lit≤ tt) (lit≤ tt) (lit≤ tt)
    (λ h1.
    small_ask _ 14 0 _ (lit≤ tt) (lit≤ tt) (lit≤ tt)
    (λ h2.
    small_ask _ 15 0 _ (lit≤ tt) (lit≤ tt) (lit≤ tt)
    (λ h3. small_ask _ 19 0 accepted (lit≤ tt) (lit≤ tt) (lit≤ tt) (λ h4. small_accepted))))

small_open : (b : List ℕ) (long : ℕ) (rest : Outcome) → Small rest → Small (open_checks b long rest)
unfolding open_checks ask_store
small_open b long rest then = small_catalogue b _ (small_ask _ 10 0 rest (lit≤ tt) (lit≤ tt) (lit≤ tt) (λ h. then))

pub small_read : (b names store : List ℕ) → Small (read_checks b names store)
unfolding read_checks
small_read b names store = small_open b (length store) _ (small_content b names store)

pub small_list : (b names store : List ℕ) (long : ℕ) → Small (list_checks b names store long)
unfolding list_checks ask_list
small_list b names store long = small_open b (length store) _ (small_ask _ 12 0 _ (lit≤ tt) (lit≤ tt) (lit≤ tt) (λ h. small_content b names store))
