-- The moves by the call: what it answers, from any store classified afresh; and what is asked of the lists.
use Prim.Native.Nat.{ℕ}
use native.Mathlib.Omega.{arith}
use mathlib.Core.Path.{◌≡◌, refl, subst}
use mathlib.Core.Bool.{true}
use mathlib.Core.List.{List, [], ◌∷◌}
use Rattle.catalogue.specs.Words.{bytes_of}
use Rattle.catalogue.specs.Outcome.{Outcome, refused}
use Rattle.catalogue.specs.Examples.{w1}
use Rattle.catalogue.proofs.Examples.{w1_accepted}
use Rattle.rules.specs.Axioms.{Axioms}
use Rattle.store.proofs.Examples.{w1_lengths}
use Rattle.change_contract.specs.Questions.{lent, change_checks}
use Rattle.change_contract.specs.Answers.{changed}
use Rattle.examples_common.specs.Calls.{ChangeGives}
use Rattle.examples_w1_w6.specs.Table.{axioms1}
use Rattle.examples_w1_moves.specs.Table.{moved1, moved2, moved3, moved4, unmoved}
use Rattle.change_contract.proofs.Empty.{none_edited}
use Rattle.examples_common.proofs.Editing.{lists_asked, asked_of_lists}
use Rattle.examples_w1_w6.proofs.Reading.{seven}
use Rattle.examples_w1_moves.proofs.Moves.{move1_asks, move1_change, move2_asks, move2_change, move3_asks, move3_change, move4_asks, move4_change, empty_asks, empty_change}
use Rattle.examples_w1_w6.proofs.Calls.{w1_few, w1-gives}

pub move1_call : ChangeGives w1 (1 ∷ 0 ∷ 5 ∷ 0 ∷ []) (0 ∷ 0 ∷ 6 ∷ 0 ∷ []) axioms1 moved1 28 14 (changed 10 3 0 4) (0 ∷ 0 ∷ 1 ∷ 0 ∷ 4 ∷ 0 ∷ 5 ∷ 0 ∷ [])
unfolding bytes_of
move1_call = w1-gives (1 ∷ 0 ∷ 5 ∷ 0 ∷ []) (0 ∷ 0 ∷ 6 ∷ 0 ∷ []) axioms1 move1_asks w1_few 10 3 0 (0 ∷ 1 ∷ 4 ∷ 5 ∷ []) [] (0 ∷ 1 ∷ 4 ∷ 5 ∷ []) move1_change

pub move2_call : ChangeGives w1 (0 ∷ 0 ∷ 4 ∷ 0 ∷ []) (2 ∷ 0 ∷ 4 ∷ 0 ∷ []) axioms1 moved2 28 14 (changed 5 0 5 2) (0 ∷ 0 ∷ 2 ∷ 0 ∷ [])
unfolding bytes_of
move2_call = w1-gives (0 ∷ 0 ∷ 4 ∷ 0 ∷ []) (2 ∷ 0 ∷ 4 ∷ 0 ∷ []) axioms1 move2_asks w1_few 5 0 5 (0 ∷ []) (2 ∷ []) (0 ∷ 2 ∷ []) move2_change

pub move3_call : ChangeGives w1 (1 ∷ 0 ∷ 5 ∷ 0 ∷ []) (0 ∷ 0 ∷ 5 ∷ 0 ∷ []) axioms1 moved3 28 14 (changed 8 0 2 3) (0 ∷ 0 ∷ 1 ∷ 0 ∷ 4 ∷ 0 ∷ [])
unfolding bytes_of
move3_call = w1-gives (1 ∷ 0 ∷ 5 ∷ 0 ∷ []) (0 ∷ 0 ∷ 5 ∷ 0 ∷ []) axioms1 move3_asks w1_few 8 0 2 (0 ∷ 1 ∷ 4 ∷ []) (0 ∷ []) (0 ∷ 1 ∷ 4 ∷ []) move3_change

pub move4_call : ChangeGives w1 (0 ∷ 0 ∷ 4 ∷ 0 ∷ 1 ∷ 0 ∷ 5 ∷ 0 ∷ []) (0 ∷ 0 ∷ 6 ∷ 0 ∷ 2 ∷ 0 ∷ 4 ∷ 0 ∷ []) axioms1 moved4 28 14 (changed 12 3 2 5) (0 ∷ 0 ∷ 1 ∷ 0 ∷ 2 ∷ 0 ∷ 4 ∷ 0 ∷ 5 ∷ 0 ∷ [])
unfolding bytes_of
move4_call = w1-gives (0 ∷ 0 ∷ 4 ∷ 0 ∷ 1 ∷ 0 ∷ 5 ∷ 0 ∷ []) (0 ∷ 0 ∷ 6 ∷ 0 ∷ 2 ∷ 0 ∷ 4 ∷ 0 ∷ []) axioms1 move4_asks w1_few 12 3 2 (0 ∷ 1 ∷ 4 ∷ 5 ∷ []) (2 ∷ []) (0 ∷ 1 ∷ 2 ∷ 4 ∷ 5 ∷ []) move4_change

pub empty_axioms : unmoved ≡ axioms1
empty_axioms = none_edited axioms1

pub empty_call : ChangeGives w1 [] [] axioms1 axioms1 28 14 (changed 0 0 0 0) []
unfolding bytes_of
empty_call =
    subst (λ (G : Axioms). ChangeGives w1 [] [] axioms1 G 28 14 (changed 0 0 0 0) []) empty_axioms
    (w1-gives [] [] axioms1 empty_asks w1_few 0 0 0 [] [] [] empty_change)

-- ---- refused by what is asked of the lists

w1-asked : (withdrawn added : List ℕ) (o : Outcome) → lists_asked w1 withdrawn added axioms1 ≡ o → change_checks w1 withdrawn added (lent 35 28 14) true true axioms1 ≡ o
w1-asked withdrawn added o asks =
    asked_of_lists w1 withdrawn added axioms1 (lent 35 28 14) o asks w1_accepted (omega (arith, w1_lengths.0)) (omega (arith, w1_lengths.1)) (omega (arith, seven))

asks22 : lists_asked w1 (9 ∷ 0 ∷ 9 ∷ 0 ∷ []) (9 ∷ 0 ∷ 9 ∷ 0 ∷ 9 ∷ 0 ∷ 9 ∷ []) axioms1 ≡ refused 22 0
unfolding lists_asked w1
asks22 = refl

pub asked22 : change_checks w1 (9 ∷ 0 ∷ 9 ∷ 0 ∷ []) (9 ∷ 0 ∷ 9 ∷ 0 ∷ 9 ∷ 0 ∷ 9 ∷ []) (lent 35 28 14) true true axioms1 ≡ refused 22 0
asked22 = w1-asked (9 ∷ 0 ∷ 9 ∷ 0 ∷ []) (9 ∷ 0 ∷ 9 ∷ 0 ∷ 9 ∷ 0 ∷ 9 ∷ []) (refused 22 0) asks22

asks23 : lists_asked w1 (9 ∷ 0 ∷ 9 ∷ 0 ∷ []) (9 ∷ 0 ∷ 9 ∷ 0 ∷ []) axioms1 ≡ refused 23 0
unfolding lists_asked w1
asks23 = refl

pub asked23 : change_checks w1 (9 ∷ 0 ∷ 9 ∷ 0 ∷ []) (9 ∷ 0 ∷ 9 ∷ 0 ∷ []) (lent 35 28 14) true true axioms1 ≡ refused 23 0
asked23 = w1-asked (9 ∷ 0 ∷ 9 ∷ 0 ∷ []) (9 ∷ 0 ∷ 9 ∷ 0 ∷ []) (refused 23 0) asks23

asks15 : lists_asked w1 (1 ∷ 0 ∷ 3 ∷ 0 ∷ []) (9 ∷ 0 ∷ 9 ∷ 0 ∷ []) axioms1 ≡ refused 15 0
unfolding lists_asked w1
asks15 = refl

pub asked15 : change_checks w1 (1 ∷ 0 ∷ 3 ∷ 0 ∷ []) (9 ∷ 0 ∷ 9 ∷ 0 ∷ []) (lent 35 28 14) true true axioms1 ≡ refused 15 0
asked15 = w1-asked (1 ∷ 0 ∷ 3 ∷ 0 ∷ []) (9 ∷ 0 ∷ 9 ∷ 0 ∷ []) (refused 15 0) asks15

asks18 : lists_asked w1 (1 ∷ 0 ∷ 3 ∷ 0 ∷ []) (0 ∷ 0 ∷ 4 ∷ 0 ∷ []) axioms1 ≡ refused 18 0
unfolding lists_asked w1
asks18 = refl

pub asked18 : change_checks w1 (1 ∷ 0 ∷ 3 ∷ 0 ∷ []) (0 ∷ 0 ∷ 4 ∷ 0 ∷ []) (lent 35 28 14) true true axioms1 ≡ refused 18 0
asked18 = w1-asked (1 ∷ 0 ∷ 3 ∷ 0 ∷ []) (0 ∷ 0 ∷ 4 ∷ 0 ∷ []) (refused 18 0) asks18

asks16 : lists_asked w1 (1 ∷ 0 ∷ 5 ∷ 0 ∷ []) (0 ∷ 0 ∷ 4 ∷ 0 ∷ []) axioms1 ≡ refused 16 0
unfolding lists_asked w1
asks16 = refl

pub asked16 : change_checks w1 (1 ∷ 0 ∷ 5 ∷ 0 ∷ []) (0 ∷ 0 ∷ 4 ∷ 0 ∷ []) (lent 35 28 14) true true axioms1 ≡ refused 16 0
asked16 = w1-asked (1 ∷ 0 ∷ 5 ∷ 0 ∷ []) (0 ∷ 0 ∷ 4 ∷ 0 ∷ []) (refused 16 0) asks16
