-- `main` meets its contract: each array is as long as its type says.
use Rattle.std.proofs.Common.{ℕ, sym}
use lib.ListN.{length-replicate}
use Rattle.gate_edits.proofs.main.Goals as goal

pub slice_bounds-run_all-end-2 : goal.slice_bounds-run_all-end-2
slice_bounds-run_all-end-2 c = sym (length-replicate {A = ℕ} 262160 165)

pub slice_bounds-run_all-end-3 : goal.slice_bounds-run_all-end-3
slice_bounds-run_all-end-3 c = sym (length-replicate {A = ℕ} 229392 0)
