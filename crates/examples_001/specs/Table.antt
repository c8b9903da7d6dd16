-- Document 001, Examples 1, 3 and 4: a part of the worked table.
use Rattle.std.specs.Prelude.{[], ◌∷◌}
use Rattle.rules.specs.Axioms.{Axioms, catalogue_axioms, withdrawn}
use Rattle.rules.specs.Rules.{Closure}
use Rattle.rules.specs.Changes.{OverDeleted}
use Rattle.examples_001.specs.Catalogues.{example1, example4}
use Rattle.examples_common.specs.Entries.{Rows, Classified, Changed}

-- Example 1, and Example 3's deletion of ∃S.C⊑C.
abbrev pub example1_axioms : Axioms
example1_axioms = catalogue_axioms example1

abbrev pub example3_axioms : Axioms
example3_axioms = withdrawn example1_axioms 6 2

-- Example 4, and its deletion of B⊑C and C⊑B.
abbrev pub example4_axioms : Axioms
example4_axioms = catalogue_axioms example4

abbrev pub example4_axioms' : Axioms
example4_axioms' = withdrawn (withdrawn example4_axioms 1 2) 2 1

pub record Table : Type 0 where
  -- Example 1: the nineteen subsumptions, and with the links that rule 6 splits off.
  pub example1_closure : Classified example1 example1_axioms 19 10 (29 ∷ 102 ∷ 4 ∷ 28 ∷ 20 ∷ 100 ∷ 68 ∷ [])
  -- Example 3: (7), (12) and (16) to (19) are deleted, with three links; broken are B, ∃S.A and ∃S.C; left are (1) to (6), (8) to (11) and (13) to (15).
  pub example3_change : Changed example1 example1_axioms example3_axioms 9 0 0 (1 ∷ 5 ∷ 6 ∷ []) [] (1 ∷ 5 ∷ 6 ∷ [])
  pub example3_deleted : Rows (OverDeleted example1 example1_axioms example3_axioms (Closure example1 example1_axioms)) (0 ∷ 68 ∷ 0 ∷ 0 ∷ 0 ∷ 68 ∷ 68 ∷ [])
  pub example3_left : Classified example1 example3_axioms 13 7 (29 ∷ 34 ∷ 4 ∷ 28 ∷ 20 ∷ 32 ∷ 0 ∷ [])
  -- Example 4: ∃R.B⊑∃R.C and A⊑∃R.C, (28) and (30), are deleted and do not come back.
  pub example4_closure : Classified example4 example4_axioms 11 6 (25 ∷ 6 ∷ 6 ∷ 24 ∷ 24 ∷ [])
  pub example4_change : Changed example4 example4_axioms example4_axioms' 16 8 0 (0 ∷ 1 ∷ 2 ∷ 3 ∷ 4 ∷ []) [] (0 ∷ 1 ∷ 2 ∷ 3 ∷ 4 ∷ [])
  pub example4_deleted : Rows (OverDeleted example4 example4_axioms example4_axioms' (Closure example4 example4_axioms)) (24 ∷ 6 ∷ 6 ∷ 24 ∷ 24 ∷ [])
  pub example4-left : Classified example4 example4_axioms' 6 3 (9 ∷ 2 ∷ 4 ∷ 8 ∷ 16 ∷ [])
