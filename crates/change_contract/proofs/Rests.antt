-- What follows a question matters only where it is answered yes.
use Prim.Native.Nat.{ℕ}
use mathlib.Core.Path.{◌≡◌, refl, ap}
use mathlib.Core.Bool.{Bool, true, false, ◌&&◌}
use mathlib.Core.List.{List}
use Rattle.booleans.proofs.Booleans.{and_left, and_right}
use Rattle.catalogue.specs.Outcome.{Outcome, ask}
use Rattle.store.specs.Checks.{ask_store, ask_work, ask_list}
use Rattle.change_contract.specs.Questions.{Lengths, is_whole, ask_whole, length_checks}

pub ask_rest : (t : Bool) (number at : ℕ) {one other : Outcome} → (t ≡ true → one ≡ other) → ask t number at one ≡ ask t number at other
unfolding ask
ask_rest true number at same = same refl
ask_rest false number at same = refl

-- What follows 22, where both lists are whole.
pub lengths_rest : (b : List ℕ) (withdrawn added : ℕ) (lent : Lengths) {one other : Outcome} → (is_whole withdrawn ≡ true → is_whole added ≡ true → one ≡ other)
    → length_checks b withdrawn added lent one ≡ length_checks b withdrawn added lent other
unfolding length_checks ask_whole
lengths_rest b withdrawn added lent same =
    ap (λ (o : Outcome). ask_store b lent.store (ask_work b lent.work (ask_list b lent.list o)))
    (ask_rest (is_whole withdrawn && is_whole added) 22 0 (λ w. same (and_left (is_whole withdrawn) (is_whole added) w) (and_right (is_whole withdrawn) (is_whole added) w)))
