-- `store::list_fits` meets its contract.
use Prim.Native.Nat.{ℕ, ◌*◌}
use mathlib.Core.Path.{ap}
use lib.Dec.{leb}
use Rattle.store.specs.Checks.{list_fits}
use Rattle.store.proofs.list_fits.Goals as goal

pub returns : goal.returns
unfolding list_fits
returns c = ap (λ (n : ℕ). leb (2 * n) c.args.long) c.concepts.ensures
