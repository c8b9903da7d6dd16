-- `main` meets its contract: each array is as long as its type says.
use Rattle.std.proofs.Common.{ℕ, sym}
use lib.ListN.{length-replicate}
use Rattle.gate_classification.proofs.main.Goals as goal

pub slice_bounds-run_cases-end-2 : goal.slice_bounds-run_cases-end-2
slice_bounds-run_cases-end-2 c = sym (length-replicate {A = ℕ} 589824 165)

pub slice_bounds-run_cases-end-3 : goal.slice_bounds-run_cases-end-3
slice_bounds-run_cases-end-3 c = sym (length-replicate {A = ℕ} 557056 0)
