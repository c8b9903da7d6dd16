-- `faults::in_force` reads the axiom's bit where it stands; a side that has no place there has none.
use Prim.Native.Nat.{ℕ, ◌+◌, ◌*◌, ◌<◌}
use native.Mathlib.Omega.{arith}
use mathlib.Core.Path.{◌≡◌, refl, sym, ap, ◌∙◌}
use mathlib.Core.Bool.{Bool, true, false, ◌&&◌, true≢false}
use lib.Dec.{ltb}
use borrow.Author.Tests.{ltb-true}
use Rattle.booleans.proofs.Booleans.{and_left, and_right}
use Rattle.rows.specs.Bits.{bit, place}
use Rattle.rows.proofs.Places.{row_within}
use Rattle.layout.specs.declared.Shape.{Shape}
use Rattle.layout.specs.Layout.{table}
use Rattle.layout.specs.Parts.{in_force, axiom_rows}
use Rattle.layout.proofs.Sizes.{sizes}
use Rattle.layout.proofs.StoreRows.{in_force_bit}
use Rattle.change_checks.proofs.faults.in_force.Goals as goal

-- A table has no axiom outside.
outside : (x y z : Bool) → (x && y) ≡ false → (x && (y && z)) ≡ false
outside true true z e = absurd (true≢false e)
outside true false z e = refl
outside false y z e = refl

-- Both sides have a place in it.
inside : (l n r m : ℕ) → (ltb l n && ltb r m) ≡ true → (l < n) × (r < m)
inside l n r m e = (ltb-true l n (and_left (ltb l n) (ltb r m) e), ltb-true r m (and_right (ltb l n) (ltb r m) e))

pub overflow_mul-w : goal.overflow_mul-w
overflow_mul-w c = omega (arith, (sizes c.requires).width_limit)

pub returns-then-not-l-s : goal.returns-then-not-l-s
unfolding in_force table
returns-then-not-l-s c =
    let b = c.args.b.now in
    let store = c.args.store.now in
    let k = sizes c.requires in
    sym
    (ap (λ (s : Shape). table s (axiom_rows b store) c.args.l c.args.r) (sym c.requires.is)
    ∙ outside (ltb c.args.l c.args.s.concepts) (ltb c.args.r (8 * c.args.s.width)) _ c.if-not-l-s.true)

pub overflow_mul-l : goal.overflow_mul-l
overflow_mul-l c =
    let k = sizes c.requires in
    let (ll, lr) = inside c.args.l c.args.s.concepts c.args.r (8 * c.args.s.width) c.if-not-l-s.false in
    omega (arith, k.table_limit, row_within c.args.s.width c.args.l c.args.s.concepts ll)

pub overflow_mul-l-2 : goal.overflow_mul-l-2
overflow_mul-l-2 c =
    let k = sizes c.requires in
    let (ll, lr) = inside c.args.l c.args.s.concepts c.args.r (8 * c.args.s.width) c.if-not-l-s.false in
    omega (arith, k.table_limit, row_within c.args.s.width c.args.l c.args.s.concepts ll)

pub overflow_add-l : goal.overflow_add-l
overflow_add-l c =
    let k = sizes c.requires in
    let (ll, lr) = inside c.args.l c.args.s.concepts c.args.r (8 * c.args.s.width) c.if-not-l-s.false in
    omega (arith, k.table_limit, k.width_limit, lr, row_within c.args.s.width c.args.l c.args.s.concepts ll)

pub returns : goal.returns
unfolding place
returns c =
    let b = c.args.b.now in
    let store = c.args.store.now in
    let l = c.args.l in
    let r = c.args.r in
    let k = sizes c.requires in
    let (ll, lr) = inside l c.args.s.concepts r (8 * c.args.s.width) c.if-not-l-s.false in
    c.has.ensures
    ∙ ap (λ (w : ℕ). bit store (8 * (l * w) + r)) k.width_is
    ∙ sym (in_force_bit b store l r (omega (arith, ll, k.concepts_is)) (omega (arith, lr, k.width_is)))
