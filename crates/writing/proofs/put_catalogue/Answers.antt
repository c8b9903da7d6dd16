-- `writing::put_catalogue` meets its contract: the records before the axioms, the two counts, and the axioms of the rows.
use mathlib.Core.Path.{◌≡◌}
use mathlib.Core.List.{◌++◌}
use lib.ListN.{length, take, drop}
use Rattle.catalogue.specs.Header.{axioms_at}
use Rattle.layout.specs.Layout.{shape_of}
use Rattle.store.specs.Written.{set_word}
use Rattle.writing.proofs.Whole.{counted, front_is, table_fits, whole}
use borrow.Author.Rules.{rules}
use Rattle.writing.proofs.put_catalogue.Goals as goal

pub put_table-requires : goal.put_table-requires
unfolding shape_of
put_table-requires c =
    let a = c.args in
    let ready = c.put_number-2.new.dst in
    let long : length ready ≡ length a.out.now = search rules in
    rw (c.of-s.ensures, c.axioms_at-start.ensures)
    (table_fits a.b.now a.store.now a.count a.out.now c.requires ready long)

pub returns : goal.returns
unfolding set_word shape_of
returns c =
    let a = c.args in
    let ready : c.put_number-2.new.dst ≡ counted a.b.now a.count (take (axioms_at a.b.now) a.b.now) ++ drop (axioms_at a.b.now) a.out.now =
    rw (c.put_number-2.ensures, c.put_number.ensures, c.copy_numbers.ensures, c.axioms_at-start.ensures)
    (front_is a.b.now a.store.now a.count a.out.now c.requires)
    in
    whole a.b.now a.store.now a.count a.out.now c.requires c.put_number-2.new.dst ready c.put_table.new.out
    (rw (c.of-s.ensures, c.axioms_at-start.ensures) at c.put_table.ensures)
