-- How large the numbers of a refused write are.
use Prim.Native.Nat.{ℕ}
use mathlib.Core.List.{List}
use lib.Dec.{lit≤}
use Rattle.catalogue.specs.Outcome.{accepted}
use Rattle.catalogue.proofs.Refusals.{Small, small_accepted, small_ask, small_catalogue}
use Rattle.store.specs.Checks.{ask_store, ask_spare, ask_limit}
use Rattle.writing.specs.Write.{store_checks, write_checks}

pub small_write : (b store : List ℕ) (long : ℕ) → Small (write_checks b store long)
unfolding write_checks store_checks ask_store ask_spare ask_limit
small_write b store long =
    small_catalogue b _
    (small_ask _ 10 0 _ (lit≤ tt) (lit≤ tt) (lit≤ tt)
    (λ h1.
    small_ask _ 13 0 _ (lit≤ tt) (lit≤ tt) (lit≤ tt)
    (λ h2.
    small_ask _ 14 0 _ (lit≤ tt) (lit≤ tt) (lit≤ tt)
    (λ h3. small_ask _ 20 0 accepted (lit≤ tt) (lit≤ tt) (lit≤ tt) (λ h4. small_accepted)))))
