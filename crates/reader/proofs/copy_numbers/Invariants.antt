-- `reader::copy_numbers` meets its contract. The loop's invariant: the first k numbers are copied.
use Prim.Native.Nat.{◌*◌}
use mathlib.Core.Path.{◌≡◌}
use Rattle.reader.specs.Copied.{copied}
use Rattle.reader.proofs.copy_numbers.Given as goal

abbrev pub invariant-loop-k : goal.invariant-loop-k
invariant-loop-k l = l.dst ≡ copied l.src l.at l.initial.dst l.to (2 * l.k)
