-- `store::store_fits` meets its contract.
use mathlib.Core.Path.{ap}
use Prim.Native.Nat.{ℕ}
use lib.Dec.{leb}
use Rattle.store.specs.Checks.{store_fits}
use Rattle.store.proofs.store_fits.Goals as goal

pub returns : goal.returns
unfolding store_fits
returns c = ap (λ (n : ℕ). leb n c.args.long) c.used.ensures
