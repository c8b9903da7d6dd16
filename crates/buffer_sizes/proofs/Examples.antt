-- The sizes on document 01's examples: W1's, with what they say of it, and those of a catalogue of 19 bytes.
use Prim.Native.Nat.{ℕ}
use mathlib.Core.Path.{◌≡◌, refl}
use mathlib.Core.List.{List}
use lib.ListN.{length}
use Rattle.std.proofs.Common.{Ok, Err}
use Rattle.catalogue.specs.Words.{word}
use Rattle.catalogue.specs.Header.{concepts, roles, axioms_at}
use Rattle.catalogue.specs.Verdicts.{refusal}
use Rattle.catalogue.specs.Examples.{w1}
use Rattle.catalogue.proofs.Examples.{w1_accepted, nineteen_bytes}
use Rattle.layout.specs.Parts.{width, used, work_used}
use Rattle.buffer_sizes.specs.Sizes.{most_axioms, most_written, needed, Measures}
use Rattle.buffer_sizes.specs.Meaning.{Enough}
use Rattle.buffer_sizes.proofs.Answered.{sizes_accepted, sizes_refused}
use Rattle.buffer_sizes.proofs.Meaning.{sizes_mean}

-- W1: 35, 28, 14, and 68 + 4 · 49.
pub w1_sizes : Measures w1 (Ok (needed 35 28 14 264))
unfolding w1 word concepts roles axioms_at width used work_used most_axioms most_written
w1_sizes = sizes_accepted w1 {n = 7} w1_accepted refl refl refl refl

pub w1_enough : Enough w1 35 28 14 264
w1_enough = sizes_mean.enough w1 35 28 14 264 w1_sizes

-- 19 bytes: 1.
pub nineteen_sizes : (b : List ℕ) → length b ≡ 19 → Measures b (Err (refusal 1 0))
nineteen_sizes b e = sizes_refused b (nineteen_bytes b e)
