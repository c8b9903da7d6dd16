-- The changes of W3, W5 and W6 by the call: what it answers, from any store classified afresh.
use Prim.Native.Nat.{ℕ, ◌*◌, ◌≤◌}
use native.Mathlib.Omega.{arith}
use mathlib.Core.Path.{◌≡◌, refl, subst}
use mathlib.Core.Bool.{true}
use mathlib.Core.List.{List, [], ◌∷◌}
use lib.ListN.{length}
use Rattle.catalogue.specs.Words.{bytes_of}
use Rattle.catalogue.specs.Outcome.{accepted}
use Rattle.catalogue.specs.Examples.{w1}
use Rattle.catalogue.proofs.Examples.{w1_accepted}
use Rattle.rules.specs.Axioms.{Axioms}
use Rattle.layout.specs.Parts.{work_used}
use Rattle.store.specs.Written.{numbered, axiom_count}
use Rattle.store.proofs.Examples.{w1_lengths, w1_axiom_count}
use Rattle.change_contract.specs.Lists.{edited}
use Rattle.change_contract.specs.Questions.{all_in_force}
use Rattle.change_contract.specs.Answers.{changed}
use Rattle.examples_common.specs.Calls.{ChangeGives}
use Rattle.examples_common.specs.Entries.{Changed}
use Rattle.examples_common.specs.Computed.{closure_of}
use Rattle.examples_w1_w6.specs.Table.{axioms1, axioms3, axioms5, axioms6, axioms6'}
use Rattle.examples_common.proofs.Editing.{lists_asked, change_gives, put_back}
use Rattle.examples_w1_w6.proofs.Reading.{seven, w3_axiom_count}
use Rattle.examples_w1_w6.proofs.W3.{w3_asks, w3_change, w5_asks, w5_change}
use Rattle.examples_w1_w6.proofs.W6.{w6_asks, w6_change}

-- How many axioms there are.
pub w1_few : axiom_count w1 axioms1 ≤ 4096
w1_few = omega (arith, w1_axiom_count)

w6_axiom_count : axiom_count w1 axioms6 ≡ 4
unfolding closure_of w1 numbered axiom_count
w6_axiom_count = refl

-- (1,5) is in force in W1; withdrawn and added back, the axioms are W1's.
in_force15 : all_in_force axioms1 (1 ∷ 0 ∷ 5 ∷ 0 ∷ []) ≡ true
unfolding lists_asked w1
in_force15 = refl

pub w5_axioms : axioms5 ≡ axioms1
w5_axioms = put_back axioms1 (1 ∷ 0 ∷ 5 ∷ 0 ∷ []) in_force15

-- W1's catalogue, and W7's.
pub w1-gives : (withdrawn added : List ℕ) (F : Axioms) → lists_asked w1 withdrawn added F ≡ accepted → axiom_count w1 F ≤ 4096
    → (x y z : ℕ) (broken gaining touched : List ℕ) → Changed w1 F (edited F withdrawn added) x y z broken gaining touched
    → ChangeGives w1 withdrawn added F (edited F withdrawn added) 28 14 (changed x y z (length touched)) (bytes_of touched)
w1-gives withdrawn added F asks few x y z broken gaining touched c =
    subst (λ (k : ℕ). ChangeGives w1 withdrawn added F (edited F withdrawn added) k 14 (changed x y z (length touched)) (bytes_of touched)) w1_lengths.1
    (subst (λ (n : ℕ). ChangeGives w1 withdrawn added F (edited F withdrawn added) (work_used w1) (2 * n) (changed x y z (length touched)) (bytes_of touched)) seven
    (change_gives w1 withdrawn added F asks w1_accepted few x y z broken gaining touched c))

pub w3_withdraw : ChangeGives w1 (1 ∷ 0 ∷ 5 ∷ 0 ∷ []) [] axioms1 axioms3 28 14 (changed 10 0 0 4) (0 ∷ 0 ∷ 1 ∷ 0 ∷ 4 ∷ 0 ∷ 5 ∷ 0 ∷ [])
unfolding bytes_of
w3_withdraw = w1-gives (1 ∷ 0 ∷ 5 ∷ 0 ∷ []) [] axioms1 w3_asks w1_few 10 0 0 (0 ∷ 1 ∷ 4 ∷ 5 ∷ []) [] (0 ∷ 1 ∷ 4 ∷ 5 ∷ []) w3_change

pub w5_add : ChangeGives w1 [] (1 ∷ 0 ∷ 5 ∷ 0 ∷ []) axioms3 axioms1 28 14 (changed 0 0 10 4) (0 ∷ 0 ∷ 1 ∷ 0 ∷ 4 ∷ 0 ∷ 5 ∷ 0 ∷ [])
unfolding bytes_of
w5_add =
    subst (λ (G : Axioms). ChangeGives w1 [] (1 ∷ 0 ∷ 5 ∷ 0 ∷ []) axioms3 G 28 14 (changed 0 0 10 4) (0 ∷ 0 ∷ 1 ∷ 0 ∷ 4 ∷ 0 ∷ 5 ∷ 0 ∷ [])) w5_axioms
    (w1-gives [] (1 ∷ 0 ∷ 5 ∷ 0 ∷ []) axioms3 w5_asks (omega (arith, w3_axiom_count)) 0 0 10 [] (0 ∷ 1 ∷ 4 ∷ 5 ∷ []) (0 ∷ 1 ∷ 4 ∷ 5 ∷ []) w5_change)

pub w6_withdraw : ChangeGives w1 (1 ∷ 0 ∷ 5 ∷ 0 ∷ []) [] axioms6 axioms6' 28 14 (changed 10 1 0 4) (0 ∷ 0 ∷ 1 ∷ 0 ∷ 4 ∷ 0 ∷ 5 ∷ 0 ∷ [])
unfolding bytes_of
w6_withdraw = w1-gives (1 ∷ 0 ∷ 5 ∷ 0 ∷ []) [] axioms6 w6_asks (omega (arith, w6_axiom_count)) 10 1 0 (0 ∷ 1 ∷ 4 ∷ 5 ∷ []) [] (0 ∷ 1 ∷ 4 ∷ 5 ∷ []) w6_change
