-- W7 (document 01, Examples), and a move of it: a part of the worked table. What a call answers is said of every exit that its contract allows.
-- Lists of axioms are written byte by byte, four to an axiom.
use Rattle.std.specs.Prelude.{◌≡◌, [], ◌∷◌, take, drop}
use Rattle.rules.specs.Axioms.{Axioms, catalogue_axioms}
use Rattle.store.specs.Fresh.{Fresh}
use Rattle.change_contract.specs.Lists.{edited}
use Rattle.change_contract.specs.Answers.{changed}
use Rattle.examples_w7.specs.Catalogues.{w7}
use Rattle.examples_w7.specs.Stores.{w7_store}
use Rattle.examples_common.specs.Calls.{ClassifyGives, ChangeGives}
use Rattle.examples_common.specs.Entries.{Classified, Changed}

-- W7's axioms; without (0,1); and with (0,2) in its place.
abbrev pub axioms7 : Axioms
axioms7 = catalogue_axioms w7

abbrev pub axioms7' : Axioms
axioms7' = edited axioms7 (0 ∷ 0 ∷ 1 ∷ 0 ∷ []) []

abbrev pub moved7 : Axioms
moved7 = edited axioms7 (0 ∷ 0 ∷ 1 ∷ 0 ∷ []) (0 ∷ 0 ∷ 2 ∷ 0 ∷ [])

pub record Table : Type 0 where
  -- W7: 7 pairs; withdraw (0,1): removed 2, returned 0, touched 0, 5 pairs left: 0 keeps its own.
  pub W7 : Classified w7 axioms7 7 0 (7 ∷ 6 ∷ 6 ∷ [])
  pub W7_change : Changed w7 axioms7 axioms7' 2 0 0 (0 ∷ []) [] (0 ∷ [])
  pub W7_withdraw : ChangeGives w7 (0 ∷ 0 ∷ 1 ∷ 0 ∷ []) [] axioms7 axioms7' 3 6 (changed 2 0 0 1) (0 ∷ 0 ∷ [])
  pub W7_left : Classified w7 axioms7' 5 0 (1 ∷ 6 ∷ 6 ∷ [])
  -- Classify answers 7 pairs and no link, and leaves W7's store of 6 bytes: rows of axioms, and then the pair rows 7, 6, 6.
  pub W7_classify : ClassifyGives w7 6 3 7 0 w7_store
  pub W7_rows : take 3 (drop 3 w7_store) ≡ 7 ∷ 6 ∷ 6 ∷ []
  pub W7_fresh : Fresh w7 axioms7 w7_store
  -- W7, (0,1) out and (0,2) in: removed 2, returned 2, gained 0; touched 0; all 7 pairs are left.
  pub W7_move : Changed w7 axioms7 moved7 2 2 0 (0 ∷ []) [] (0 ∷ [])
  pub W7_move_call : ChangeGives w7 (0 ∷ 0 ∷ 1 ∷ 0 ∷ []) (0 ∷ 0 ∷ 2 ∷ 0 ∷ []) axioms7 moved7 3 6 (changed 2 2 0 1) (0 ∷ 0 ∷ [])
  pub W7_move_left : Classified w7 moved7 7 0 (7 ∷ 6 ∷ 6 ∷ [])
