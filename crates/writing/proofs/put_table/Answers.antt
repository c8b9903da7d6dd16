-- `writing::put_table` meets its contract: before each turn the records of the left sides passed are written.
use native.Mathlib.Omega.{arith}
use Rattle.writing.proofs.Tabling.{table_begins, row_fits, table_goes_on, table_ends}
use Rattle.writing.proofs.put_table.Goals as goal

pub loop-left-init : goal.loop-left-init
loop-left-init c =
    let a = c.args in
    table_begins a.rows.now a.n a.w a.out.now a.start

pub put_row-at-requires : goal.put_row-at-requires
put_row-at-requires c =
    let a = c.args in
    row_fits a.rows.now a.n a.w a.out.now a.start c.requires c.loop-left.out c.loop-left.at c.loop-left.left c.loop-left.invariant c.loop-left-test.true

pub loop-left-preserved : goal.loop-left-preserved
loop-left-preserved c =
    let a = c.args in
    table_goes_on a.rows.now a.n a.w a.out.now a.start c.requires c.loop-left.out c.loop-left.at c.loop-left.left c.loop-left.invariant c.loop-left-test.true
    c.put_row-at.new.out c.put_row-at.result c.put_row-at.ensures

pub returns : goal.returns
returns c =
    let a = c.args in
    table_ends a.rows.now a.n a.w a.out.now a.start c.requires c.loop-left.out c.loop-left.at c.loop-left.left c.loop-left.invariant (omega arith)
