-- How large the numbers of a refused change are.
use Prim.Native.Nat.{ℕ}
use mathlib.Core.List.{List}
use lib.Dec.{lit≤}
use Rattle.catalogue.specs.Outcome.{accepted}
use Rattle.catalogue.proofs.Refusals.{Small, small_accepted, small_ask, small_catalogue}
use Rattle.store.specs.Checks.{ask_store, ask_work, ask_list, ask_spare, ask_limit, ask_numbers}
use Rattle.change_contract.specs.Questions.{ask_whole, ask_twice, ask_in_force, ask_new, ask_room, length_checks, axiom_checks, content_checks, change_checks}
use Rattle.change_contract.specs.Edits.{Lent, asked}

pub small_edit : (b withdrawn added : List ℕ) (u : Lent) → Small (asked b withdrawn added u)
unfolding asked change_checks length_checks content_checks axiom_checks ask_store ask_work ask_list ask_whole ask_twice ask_spare ask_limit ask_numbers ask_in_force ask_new ask_room
small_edit b withdrawn added u =
    small_catalogue b _
    (small_ask _ 10 0 _ (lit≤ tt) (lit≤ tt) (lit≤ tt)
    (λ h1.
    small_ask _ 11 0 _ (lit≤ tt) (lit≤ tt) (lit≤ tt)
    (λ h2.
    small_ask _ 12 0 _ (lit≤ tt) (lit≤ tt) (lit≤ tt)
    (λ h3.
    small_ask _ 22 0 _ (lit≤ tt) (lit≤ tt) (lit≤ tt)
    (λ h4.
    small_ask _ 23 0 _ (lit≤ tt) (lit≤ tt) (lit≤ tt)
    (λ h5.
    small_ask _ 13 0 _ (lit≤ tt) (lit≤ tt) (lit≤ tt)
    (λ h6.
    small_ask _ 14 0 _ (lit≤ tt) (lit≤ tt) (lit≤ tt)
    (λ h7.
    small_ask _ 15 0 _ (lit≤ tt) (lit≤ tt) (lit≤ tt)
    (λ h8.
    small_ask _ 18 0 _ (lit≤ tt) (lit≤ tt) (lit≤ tt)
    (λ h9. small_ask _ 16 0 _ (lit≤ tt) (lit≤ tt) (lit≤ tt) (λ h10. small_ask _ 17 0 accepted (lit≤ tt) (lit≤ tt) (lit≤ tt) (λ h11. small_accepted))))))))))))
