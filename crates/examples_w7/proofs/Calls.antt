-- W7's changes by the call: what it answers, from any store classified afresh.
use Prim.Native.Nat.{ℕ, ◌*◌, ◌≤◌}
use native.Mathlib.Omega.{arith}
use mathlib.Core.Path.{◌≡◌, refl, subst}
use mathlib.Core.List.{List, [], ◌∷◌}
use lib.ListN.{length}
use Rattle.catalogue.specs.Words.{word, bytes_of}
use Rattle.catalogue.specs.Header.{concepts}
use Rattle.catalogue.specs.Outcome.{accepted}
use Rattle.rules.specs.Axioms.{Axioms}
use Rattle.layout.specs.Parts.{work_used}
use Rattle.store.specs.Written.{numbered, axiom_count}
use Rattle.change_contract.specs.Lists.{edited}
use Rattle.change_contract.specs.Answers.{changed}
use Rattle.examples_w7.specs.Catalogues.{w7}
use Rattle.examples_common.specs.Calls.{ChangeGives}
use Rattle.examples_common.specs.Entries.{Changed}
use Rattle.examples_common.specs.Computed.{closure_of}
use Rattle.examples_w7.specs.Table.{axioms7, axioms7', moved7}
use Rattle.examples_w7.proofs.W7.{w7_accepted, w7_lengths, w7_asks, w7_change}
use Rattle.examples_common.proofs.Editing.{lists_asked, change_gives}
use Rattle.examples_w7.proofs.Move.{move7_asks, move7_change}

three : concepts w7 ≡ 3
unfolding word concepts w7
three = refl

w7_axiom_count : axiom_count w7 axioms7 ≡ 3
unfolding closure_of w7 numbered axiom_count
w7_axiom_count = refl

w7_few : axiom_count w7 axioms7 ≤ 4096
w7_few = omega (arith, w7_axiom_count)

w7-gives : (withdrawn added : List ℕ) (F : Axioms) → lists_asked w7 withdrawn added F ≡ accepted → axiom_count w7 F ≤ 4096
    → (x y z : ℕ) (broken gaining touched : List ℕ) → Changed w7 F (edited F withdrawn added) x y z broken gaining touched
    → ChangeGives w7 withdrawn added F (edited F withdrawn added) 3 6 (changed x y z (length touched)) (bytes_of touched)
w7-gives withdrawn added F asks few x y z broken gaining touched c =
    subst (λ (k : ℕ). ChangeGives w7 withdrawn added F (edited F withdrawn added) k 6 (changed x y z (length touched)) (bytes_of touched)) w7_lengths.1
    (subst (λ (n : ℕ). ChangeGives w7 withdrawn added F (edited F withdrawn added) (work_used w7) (2 * n) (changed x y z (length touched)) (bytes_of touched)) three
    (change_gives w7 withdrawn added F asks w7_accepted few x y z broken gaining touched c))

pub w7_withdraw : ChangeGives w7 (0 ∷ 0 ∷ 1 ∷ 0 ∷ []) [] axioms7 axioms7' 3 6 (changed 2 0 0 1) (0 ∷ 0 ∷ [])
unfolding bytes_of
w7_withdraw = w7-gives (0 ∷ 0 ∷ 1 ∷ 0 ∷ []) [] axioms7 w7_asks w7_few 2 0 0 (0 ∷ []) [] (0 ∷ []) w7_change

pub move7_call : ChangeGives w7 (0 ∷ 0 ∷ 1 ∷ 0 ∷ []) (0 ∷ 0 ∷ 2 ∷ 0 ∷ []) axioms7 moved7 3 6 (changed 2 2 0 1) (0 ∷ 0 ∷ [])
unfolding bytes_of
move7_call = w7-gives (0 ∷ 0 ∷ 1 ∷ 0 ∷ []) (0 ∷ 0 ∷ 2 ∷ 0 ∷ []) axioms7 move7_asks w7_few 2 2 0 (0 ∷ []) [] (0 ∷ []) move7_change
