-- W9: 13 where a spare bit is set.
use Prim.Native.Nat.{ℕ, ◌+◌, ◌*◌}
use mathlib.Core.Path.{◌≡◌, refl}
use mathlib.Core.Bool.{true}
use mathlib.Core.List.{map}
use lib.ListN.{replicate}
use Rattle.std.proofs.Common.{Err}
use Rattle.catalogue.proofs.Examples.{checks_compute}
use Rattle.catalogue.specs.Examples.{w1}
use Rattle.catalogue.specs.Verdicts.{refusal}
use Rattle.rows.specs.Bits.{byte_bit, bit, set_bit, some_below, place}
use Rattle.layout.specs.Parts.{width, used, row_count, set_from, spare_clear}
use Rattle.store.specs.Written.{rising}
use Rattle.store.specs.Says.{says}
use Rattle.store.specs.Checks.{store_fits, ask_store, ask_spare}
use Rattle.read_checks.specs.Checks.{open_checks, content_checks, read_checks}
use Rattle.lookups.specs.Answers.{looked_up}
use Rattle.examples_w1_w6.specs.Stores.{w1_store}

pub w9_lookup : map (λ (r : ℕ). looked_up w1 0 3 (set_bit w1_store (8 * r + 7))) (rising (λ (r : ℕ). true) 35) ≡ replicate 35 (Err (refusal 13 0))
unfolding checks_compute w1 byte_bit bit set_bit some_below rising place width used row_count set_from spare_clear store_fits ask_store ask_spare open_checks content_checks read_checks w1_store says looked_up
w9_lookup = refl
