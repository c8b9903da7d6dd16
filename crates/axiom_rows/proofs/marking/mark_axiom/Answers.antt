-- `marking::mark_axiom` meets its contract.
use Prim.Native.Nat.{ℕ, ◌+◌, ◌*◌, ◌≤◌, ◌<◌}
use native.Mathlib.Omega.{arith}
use mathlib.Core.Path.{sym, subst}
use mathlib.Core.List.{List}
use lib.ListN.{length}
use Rattle.rows.proofs.Places.{row_within}
use Rattle.derivation.specs.declared.Mode.{Mode}
use Rattle.derivation.specs.declared.Mode.TheVariants.{Add, Delete}
use Rattle.layout.specs.declared.Shape.{Shape}
use Rattle.layout.specs.Layout.{table_length}
use Rattle.axiom_rows.specs.Marking.{InTable, MarksOne}
use Rattle.axiom_rows.proofs.Marks.{marks-added, marks-withdrawn}
use Rattle.axiom_rows.proofs.marking.mark_axiom.Goals as goal

-- The rows of both sides lie in the table, and the bits of both in a row.
pub record Fits (s : Shape) (l r : ℕ) (rows : List ℕ) : Type 0 where
  pub left_row : l * s.width + s.width ≤ length rows
  pub right_row : r * s.width + s.width ≤ length rows
  pub left-bit : l < 8 * s.width
  pub right-bit : r < 8 * s.width

fits : (s : Shape) (l r : ℕ) (rows : List ℕ) → InTable s l r rows → Fits s l r rows
unfolding table_length
fits s l r rows p =
    record {
      left_row = omega (arith, p.long, row_within s.width l s.concepts p.left);
      right_row = omega (arith, p.long, row_within s.width r s.concepts p.right);
      left-bit = omega (arith, p.left, p.room);
      right-bit = omega (arith, p.right, p.room);
    }

pub put_in_row-requires : goal.put_in_row-requires
put_in_row-requires c =
    let f = fits c.args.s c.args.l c.args.r c.args.rows.now c.requires in
    (omega (arith, f.left_row, f.right_row), omega (arith, f.left-bit, f.right-bit))

pub clear_in_row-requires : goal.clear_in_row-requires
clear_in_row-requires c =
    let f = fits c.args.s c.args.l c.args.r c.args.rows.now c.requires in
    (omega (arith, f.left_row, f.right_row), omega (arith, f.left-bit, f.right-bit))

pub returns-in-Add : goal.returns-in-Add
returns-in-Add c =
    let s = c.args.s in
    let rows = c.args.rows.now in
    subst (λ (m : Mode). MarksOne m s c.args.l c.args.r rows c.put_in_row.new.rows) (sym c.in-Add.is)
    (subst (MarksOne Add s c.args.l c.args.r rows) (sym c.put_in_row.ensures)
    (marks-added s rows c.args.l c.args.r c.requires.long c.requires.left (omega (arith, c.requires.right, c.requires.room))))

pub returns-in-Delete : goal.returns-in-Delete
returns-in-Delete c =
    let s = c.args.s in
    let rows = c.args.rows.now in
    subst (λ (m : Mode). MarksOne m s c.args.l c.args.r rows c.clear_in_row.new.rows) (sym c.in-Delete.is)
    (subst (MarksOne Delete s c.args.l c.args.r rows) (sym c.clear_in_row.ensures)
    (marks-withdrawn s rows c.args.l c.args.r c.requires.long c.requires.left (omega (arith, c.requires.right, c.requires.room))))
