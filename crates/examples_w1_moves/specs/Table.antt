-- Moves of W1 (document 02, Four), one change with both lists: a part of the worked table. What a call answers is said of every exit that its contract allows.
-- Lists of axioms are written byte by byte, four to an axiom.
use Rattle.std.specs.Prelude.{true, ◌≡◌, [], ◌∷◌, Result}
use Rattle.catalogue.specs.declared.checks.Refusal.{Refusal}
use Rattle.catalogue.specs.Outcome.{refused}
use Rattle.catalogue.specs.Examples.{w1}
use Rattle.rules.specs.Axioms.{Axioms}
use Rattle.store.specs.Fresh.{Fresh}
use Rattle.change_contract.specs.Lists.{edited}
use Rattle.change_contract.specs.Edits.{Lent, Edits}
use Rattle.change_contract.specs.Questions.{lent, change_checks}
use Rattle.change_contract.specs.declared.Changed as edit
use Rattle.change_contract.specs.Answers.{changed}
use Rattle.examples_common.specs.Calls.{ChangeGives}
use Rattle.examples_common.specs.Entries.{Classified, Changed}
use Rattle.examples_w1_w6.specs.Table.{axioms1}

-- W1's axioms with (0,6) in place of (1,5); with (2,4) in place of (0,4); with (0,5) in place of (1,5); and by two empty lists.
abbrev pub moved1 : Axioms
moved1 = edited axioms1 (1 ∷ 0 ∷ 5 ∷ 0 ∷ []) (0 ∷ 0 ∷ 6 ∷ 0 ∷ [])

abbrev pub moved2 : Axioms
moved2 = edited axioms1 (0 ∷ 0 ∷ 4 ∷ 0 ∷ []) (2 ∷ 0 ∷ 4 ∷ 0 ∷ [])

abbrev pub moved3 : Axioms
moved3 = edited axioms1 (1 ∷ 0 ∷ 5 ∷ 0 ∷ []) (0 ∷ 0 ∷ 5 ∷ 0 ∷ [])

abbrev pub moved4 : Axioms
moved4 = edited axioms1 (0 ∷ 0 ∷ 4 ∷ 0 ∷ 1 ∷ 0 ∷ 5 ∷ 0 ∷ []) (0 ∷ 0 ∷ 6 ∷ 0 ∷ 2 ∷ 0 ∷ 4 ∷ 0 ∷ [])

abbrev pub unmoved : Axioms
unmoved = edited axioms1 [] []

pub record Table : Type 0 where
  -- W1, (1,5) out and (0,6) in: removed 10, returned 3, gained 0; touched 0, 1, 4, 5; 10 pairs, 4 links.
  pub W1_move1 : Changed w1 axioms1 moved1 10 3 0 (0 ∷ 1 ∷ 4 ∷ 5 ∷ []) [] (0 ∷ 1 ∷ 4 ∷ 5 ∷ [])
  pub W1_move1_call : ChangeGives w1 (1 ∷ 0 ∷ 5 ∷ 0 ∷ []) (0 ∷ 0 ∷ 6 ∷ 0 ∷ []) axioms1 moved1 28 14 (changed 10 3 0 4) (0 ∷ 0 ∷ 1 ∷ 0 ∷ 4 ∷ 0 ∷ 5 ∷ 0 ∷ [])
  pub W1_move1_left : Classified w1 moved1 10 4 (89 ∷ 2 ∷ 4 ∷ 8 ∷ 16 ∷ 0 ∷ 72 ∷ [])
  -- (0,4) out and (2,4) in: removed 5, returned 0, gained 5; touched 0, which is broken, and 2, which gained; 14 pairs, 7 links.
  pub W1_move2 : Changed w1 axioms1 moved2 5 0 5 (0 ∷ []) (2 ∷ []) (0 ∷ 2 ∷ [])
  pub W1_move2_call : ChangeGives w1 (0 ∷ 0 ∷ 4 ∷ 0 ∷ []) (2 ∷ 0 ∷ 4 ∷ 0 ∷ []) axioms1 moved2 28 14 (changed 5 0 5 2) (0 ∷ 0 ∷ 2 ∷ 0 ∷ [])
  pub W1_move2_left : Classified w1 moved2 14 7 (1 ∷ 34 ∷ 92 ∷ 8 ∷ 88 ∷ 32 ∷ 72 ∷ [])
  -- (1,5) out and (0,5) in: removed 8, returned 0, gained 2; touched 0, 1, 4; 10 pairs, 5 links.
  pub W1_move3 : Changed w1 axioms1 moved3 8 0 2 (0 ∷ 1 ∷ 4 ∷ []) (0 ∷ []) (0 ∷ 1 ∷ 4 ∷ [])
  pub W1_move3_call : ChangeGives w1 (1 ∷ 0 ∷ 5 ∷ 0 ∷ []) (0 ∷ 0 ∷ 5 ∷ 0 ∷ []) axioms1 moved3 28 14 (changed 8 0 2 3) (0 ∷ 0 ∷ 1 ∷ 0 ∷ 4 ∷ 0 ∷ [])
  pub W1_move3_left : Classified w1 moved3 10 5 (49 ∷ 2 ∷ 4 ∷ 8 ∷ 16 ∷ 32 ∷ 72 ∷ [])
  -- Two out and two in, (0,4), (1,5) and (0,6), (2,4): removed 12, returned 3, gained 2; touched 0, 1, 2, 4, 5; 10 pairs, 4 links.
  pub W1_move4 : Changed w1 axioms1 moved4 12 3 2 (0 ∷ 1 ∷ 4 ∷ 5 ∷ []) (2 ∷ []) (0 ∷ 1 ∷ 2 ∷ 4 ∷ 5 ∷ [])
  pub W1_move4_call : ChangeGives w1 (0 ∷ 0 ∷ 4 ∷ 0 ∷ 1 ∷ 0 ∷ 5 ∷ 0 ∷ []) (0 ∷ 0 ∷ 6 ∷ 0 ∷ 2 ∷ 0 ∷ 4 ∷ 0 ∷ []) axioms1 moved4 28 14 (changed 12 3 2 5) (0 ∷ 0 ∷ 1 ∷ 0 ∷ 2 ∷ 0 ∷ 4 ∷ 0 ∷ 5 ∷ 0 ∷ [])
  pub W1_move4_left : Classified w1 moved4 10 4 (73 ∷ 2 ∷ 20 ∷ 8 ∷ 16 ∷ 0 ∷ 72 ∷ [])
  -- Asked of the lists, each before the next: seven bytes in the second list, 22; (9,9) in both, 23; (9,9) in one, 15; (1,3) out, which is not in force, and
  -- (0,4) in, which is, 18; (1,5) out and (0,4) in, 16.
  pub W1_asked22 : change_checks w1 (9 ∷ 0 ∷ 9 ∷ 0 ∷ []) (9 ∷ 0 ∷ 9 ∷ 0 ∷ 9 ∷ 0 ∷ 9 ∷ []) (lent 35 28 14) true true axioms1 ≡ refused 22 0
  pub W1_asked23 : change_checks w1 (9 ∷ 0 ∷ 9 ∷ 0 ∷ []) (9 ∷ 0 ∷ 9 ∷ 0 ∷ []) (lent 35 28 14) true true axioms1 ≡ refused 23 0
  pub W1_asked15 : change_checks w1 (1 ∷ 0 ∷ 3 ∷ 0 ∷ []) (9 ∷ 0 ∷ 9 ∷ 0 ∷ []) (lent 35 28 14) true true axioms1 ≡ refused 15 0
  pub W1_asked18 : change_checks w1 (1 ∷ 0 ∷ 3 ∷ 0 ∷ []) (0 ∷ 0 ∷ 4 ∷ 0 ∷ []) (lent 35 28 14) true true axioms1 ≡ refused 18 0
  pub W1_asked16 : change_checks w1 (1 ∷ 0 ∷ 5 ∷ 0 ∷ []) (0 ∷ 0 ∷ 4 ∷ 0 ∷ []) (lent 35 28 14) true true axioms1 ≡ refused 16 0
  -- W1, two empty lists: 0, 0, 0, none touched, and the store stays, byte by byte.
  pub W1_empty : Changed w1 axioms1 unmoved 0 0 0 [] [] []
  pub W1_empty_axioms : unmoved ≡ axioms1
  pub W1_empty_call : ChangeGives w1 [] [] axioms1 axioms1 28 14 (changed 0 0 0 0) []
  pub W1_empty_store : (u : Lent) (answer : Result edit.Changed Refusal) (v : Lent) → Edits w1 [] [] u answer v → Fresh w1 axioms1 u.store → v.store ≡ u.store
