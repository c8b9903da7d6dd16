-- Document 001's examples, one theorem.
use Rattle.examples_001.proofs.Examples.{example1_classified, example3_changed, example3_over, example3_classified, example4_classified, example4_changed, example4-over, example4_left_classified}
use Rattle.examples_001.specs.Table.{Table}

pub table : Table
table = record {
  example1_closure = example1_classified;
  example3_change = example3_changed;
  example3_deleted = example3_over;
  example3_left = example3_classified;
  example4_closure = example4_classified;
  example4_change = example4_changed;
  example4_deleted = example4-over;
  example4-left = example4_left_classified;
}
