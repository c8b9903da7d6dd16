-- The checksum FNV-1a of Fowler, Noll and Vo, with 32 bits.
use Rattle.std.specs.Prelude.{ℕ, ◌*◌, ◌%◌, ◌^◌}
use mathlib.Core.List.{List, foldl}
use Rattle.std.specs.Int.Bits.{bit_xor}

-- A byte is put in by exclusive or; then the number is multiplied by the prime, modulo 2 ^ 32.
unfoldable pub step : ℕ → ℕ → ℕ
step hash byte = bit_xor hash byte * 16777619 % 2 ^ 32

-- The bytes in order, from the offset basis.
unfoldable pub hash : List ℕ → ℕ
hash bytes = foldl step 2166136261 bytes
