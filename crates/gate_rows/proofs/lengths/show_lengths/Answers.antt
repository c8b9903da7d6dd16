-- `lengths::show_lengths` meets its contract: the array is as long as the longest row.
use Rattle.std.proofs.Common.{ℕ, sym}
use lib.ListN.{length-replicate}
use Rattle.gate_rows.proofs.lengths.show_lengths.Goals as goal

pub slice_bounds-show_rows-end : goal.slice_bounds-show_rows-end
slice_bounds-show_rows-end g c = sym (length-replicate {A = ℕ} 1048576 255)

pub show_rows-requires : goal.show_rows-requires
show_rows-requires g c = length-replicate {A = ℕ} 1048576 255
