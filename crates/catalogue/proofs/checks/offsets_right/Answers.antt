-- `offsets_right` is question 4: numbers of sixteen bits, so that no sum wraps.
use native.Mathlib.Omega.{arith}
use Rattle.catalogue.specs.Header.{concepts, inclusions, compositions, axioms, concepts_at, inclusions_at, compositions_at, axioms_at}
use Rattle.catalogue.specs.Checks.{offsets_right}
use Rattle.catalogue.proofs.Words.{word_below}
use Rattle.catalogue.proofs.checks.offsets_right.Goals as goal

pub overflow_mul-result : goal.overflow_mul-result
unfolding concepts
overflow_mul-result c =
    omega (arith, word_below c.args.b.now c.type_inv.b 2)

pub overflow_add-result : goal.overflow_add-result
unfolding concepts concepts_at
overflow_add-result c =
    omega (arith, word_below c.args.b.now c.type_inv.b 2, word_below c.args.b.now c.type_inv.b 12)

pub overflow_mul-result-2 : goal.overflow_mul-result-2
unfolding inclusions
overflow_mul-result-2 c =
    omega (arith, word_below c.args.b.now c.type_inv.b 6)

pub overflow_add-result-2 : goal.overflow_add-result-2
unfolding inclusions inclusions_at
overflow_add-result-2 c =
    omega (arith, word_below c.args.b.now c.type_inv.b 6, word_below c.args.b.now c.type_inv.b 14)

pub overflow_mul-result-3 : goal.overflow_mul-result-3
unfolding compositions
overflow_mul-result-3 c =
    omega (arith, word_below c.args.b.now c.type_inv.b 8)

pub overflow_add-result-3 : goal.overflow_add-result-3
unfolding compositions compositions_at
overflow_add-result-3 c =
    omega (arith, word_below c.args.b.now c.type_inv.b 8, word_below c.args.b.now c.type_inv.b 16)

pub overflow_mul-result-4 : goal.overflow_mul-result-4
unfolding axioms
overflow_mul-result-4 c =
    omega (arith, word_below c.args.b.now c.type_inv.b 10)

pub overflow_add-result-4 : goal.overflow_add-result-4
unfolding axioms axioms_at
overflow_add-result-4 c =
    omega (arith, word_below c.args.b.now c.type_inv.b 10, word_below c.args.b.now c.type_inv.b 18)

pub returns : goal.returns
unfolding offsets_right
returns c =
    simp (
      c.concepts_at-c.ensures,
      c.inclusions_at-i.ensures,
      c.compositions_at-p.ensures,
      c.axioms_at-a.ensures,
      c.concepts.ensures,
      c.inclusions.ensures,
      c.compositions.ensures,
      c.total.ensures,
      c.axioms.ensures,
    )
