-- `rows::word` meets its contract: each turn joins one byte on.
use mathlib.Core.Path.{◌≡◌}
use Prim.Native.Nat.{◌-◌, ◌≤◌}
use Rattle.rows.specs.Words.{number_at}
use Rattle.rows.proofs.word.Given as goal

abbrev pub invariant-loop-k : goal.invariant-loop-k
invariant-loop-k l = (l.k ≤ 8) × (l.number ≡ number_at l.row l.at l.k)
