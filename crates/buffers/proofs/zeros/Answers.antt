-- `buffers::zeros` meets its contract: no bit of a list of zeros is set.
use lib.ListN.{length-replicate}
use Rattle.rows.proofs.Bits.{bit_zeros}
use Rattle.buffers.proofs.zeros.Goals as goal

pub returns : goal.returns
returns g c = record { long = length-replicate g.row.N 0; clear = bit_zeros g.row.N }
