-- `parts::mark_contained` and `parts::mark_parts`, which call each other, meet their contracts. What each step adds (Marking) is together what the
-- concept contains.
use Prim.Native.Nat.{ℕ}
use native.Mathlib.Omega.{arith}
use mathlib.Core.Path.{refl, sym, subst, ◌∙◌}
use Rattle.catalogue.proofs.Bounds.{concept_within}
use Rattle.structure.specs.Parts.{Contains}
use Rattle.structure.specs.Marks.{MarksMore}
use Rattle.structure.proofs.Marking.{adds_put, closed_adds, closed_put, conjunction_parts, existential_parts, no_parts, contained, contained_already, markable_below}
use Rattle.structure.proofs.parts.+mark_contained_mark_parts.Goals as goal

-- ---- mark_contained

pub mark_contained-returns-then-has : goal.mark_contained-returns-then-has
mark_contained-returns-then-has t c =
    contained_already c.args.row.now c.requires (sym c.has.ensures ∙ c.if-has.true)

pub mark_contained-put-requires : goal.mark_contained-put-requires
mark_contained-put-requires t c = let p = c.requires in omega (arith, p.within, p.room)

pub mark_contained-mark_parts-requires : goal.mark_contained-mark_parts-requires
mark_contained-mark_parts-requires t c =
    let p = c.requires in
    let put = c.put in
    let row = c.args.row.now in
    let a = adds_put row put.new.row c.args.i (omega (arith, p.within, p.room)) put.ensures in
    let closed = closed_put row put.new.row (omega arith) p.closed a in
    (omega arith, (markable_below put.new.row p (omega arith) (omega arith) closed put.auto.row, omega (arith, p.within)))

pub mark_contained-returns : goal.mark_contained-returns
mark_contained-returns t c =
    let put = c.put in
    let parts = c.mark_parts in
    let row = c.args.row.now in
    let a = adds_put row put.new.row c.args.i (omega (arith, c.requires.within, c.requires.room)) put.ensures in
    contained row put.new.row parts.new.row a parts.ensures

-- ---- mark_parts

pub mark_parts-at-concept-requires : goal.mark_parts-at-concept-requires
mark_parts-at-concept-requires t c = concept_within c.requires.0.catalogue c.requires.1

pub mark_parts-mark_contained-requires : goal.mark_parts-mark_contained-requires
mark_parts-mark_contained-requires t c =
    let m = c.requires.0 in
    let d = c.at-concept.ensures in
    let l = m.catalogue.conjuncts c.args.i c.requires.1 (sym d.kind_is ∙ c.if-kind-eq-CONJUNCTION.true) in
    (omega (arith, l, d), markable_below c.args.row.now m (omega (arith, l, d)) (omega (arith, l, d)) m.closed refl)

pub mark_parts-mark_contained-requires-then-kind-eq-CONJUNCTION : goal.mark_parts-mark_contained-requires-then-kind-eq-CONJUNCTION
mark_parts-mark_contained-requires-then-kind-eq-CONJUNCTION t c =
    let m = c.requires.0 in
    let d = c.at-concept.ensures in
    let l = m.catalogue.conjuncts c.args.i c.requires.1 (sym d.kind_is ∙ c.if-kind-eq-CONJUNCTION.true) in
    let w = c.mark_contained in
    (omega (arith, l, d), markable_below w.new.row m (omega (arith, l, d)) (omega (arith, l, d)) (closed_adds c.args.row.now w.new.row m.closed w.ensures) w.auto.row)

pub mark_parts-mark_contained-requires-then-kind-eq-EXISTENTIAL : goal.mark_parts-mark_contained-requires-then-kind-eq-EXISTENTIAL
mark_parts-mark_contained-requires-then-kind-eq-EXISTENTIAL t c =
    let m = c.requires.0 in
    let d = c.at-concept.ensures in
    let l = m.catalogue.existential c.args.i c.requires.1 (sym d.kind_is ∙ c.if-kind-eq-EXISTENTIAL.true) in
    (omega (arith, l, d), markable_below c.args.row.now m (omega (arith, l, d)) (omega (arith, l, d)) m.closed refl)

pub mark_parts-returns-then-kind-eq-CONJUNCTION : goal.mark_parts-returns-then-kind-eq-CONJUNCTION
mark_parts-returns-then-kind-eq-CONJUNCTION t c =
    let b = c.args.b.now in
    let row = c.args.row.now in
    let d = c.at-concept.ensures in
    let w = c.mark_contained in
    let w' = c.mark_contained-then-kind-eq-CONJUNCTION in
    conjunction_parts row w.new.row w'.new.row (sym d.kind_is ∙ c.if-kind-eq-CONJUNCTION.true)
    (subst (λ (x : ℕ). MarksMore (Contains b x) row w.new.row) d.first_is w.ensures)
    (subst (λ (x : ℕ). MarksMore (Contains b x) w.new.row w'.new.row) d.second_is w'.ensures)

pub mark_parts-returns-then-kind-eq-EXISTENTIAL : goal.mark_parts-returns-then-kind-eq-EXISTENTIAL
mark_parts-returns-then-kind-eq-EXISTENTIAL t c =
    let d = c.at-concept.ensures in
    let w = c.mark_contained-then-kind-eq-EXISTENTIAL in
    existential_parts c.args.row.now w.new.row (sym d.kind_is ∙ c.if-kind-eq-EXISTENTIAL.true)
    (subst (λ (x : ℕ). MarksMore (Contains c.args.b.now x) c.args.row.now w.new.row) d.second_is w.ensures)

pub mark_parts-returns-else-kind-eq-EXISTENTIAL : goal.mark_parts-returns-else-kind-eq-EXISTENTIAL
mark_parts-returns-else-kind-eq-EXISTENTIAL t c =
    let d = c.at-concept.ensures in
    no_parts c.args.row.now (λ e. c.if-kind-eq-CONJUNCTION.false (d.kind_is ∙ e)) (λ e. c.if-kind-eq-EXISTENTIAL.false (d.kind_is ∙ e))
