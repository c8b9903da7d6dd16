-- `store::work_fits` meets its contract.
use mathlib.Core.Path.{ap}
use Prim.Native.Nat.{ℕ}
use lib.Dec.{leb}
use Rattle.store.specs.Checks.{work_fits}
use Rattle.store.proofs.work_fits.Goals as goal

pub returns : goal.returns
unfolding work_fits
returns c = ap (λ (n : ℕ). leb n c.args.long) c.work_used.ensures
