-- The last byte of a row decides whether a bit from a given one on is set in the row.
use Prim.Native.Nat.{ℕ, ◌+◌, ◌-◌, ◌*◌, ◌/◌, ◌%◌, ◌^◌, ◌≤◌, ◌<◌}
use native.Mathlib.Nat.{div-le_self}
use native.Mathlib.Decide.{dec_lt}
use native.Mathlib.Omega.{arith}
use mathlib.Core.Path.{◌≡◌, sym, ap, ◌∙◌}
use mathlib.Core.Bool.{true, false}
use mathlib.Core.List.{List}
use lib.Dec.{lit<}
use lib.ListN.{get_or}
use Rattle.rows.specs.Bits.{byte_bit, bit, place}
use Rattle.rows.proofs.Bits.{bit_at}
use Rattle.rows.proofs.ByteBits.{byte_bit-zero, byte_bit_ext, byte_bit_shift, byte_bit_past}
use Rattle.rows.proofs.Counting.{some_none, none_below}
use Rattle.rows.proofs.Lowest.{rest_clear}
use Rattle.booleans.proofs.Booleans.{by_bool}
use Rattle.layout.specs.Parts.{set_from}

-- A byte without bits from s on is 0 after a shift by s.
shifted_zero : (x s : ℕ) → x < 256 → ((k : ℕ) → s ≤ k → k < 8 → byte_bit x k ≡ false) → x / 2 ^ s ≡ 0
shifted_zero x s h clear =
    byte_bit_ext 8 (x / 2 ^ s) 0 (omega (arith, div-le_self x (2 ^ s))) (lit< tt)
    (λ k l.
    byte_bit_shift x s k
    ∙ elim (dec_lt (s + k) 8) [ yes g ↦ clear (s + k) (omega arith) g | no g ↦ byte_bit_past 8 x (s + k) h (omega arith) ]
    ∙ sym (byte_bit-zero k))

module _ (w r i : ℕ) (rows : List ℕ) (below : i < 8 * w) (last : 8 * w ≤ i + 8) where
  pub last_clear : get_or rows (r * w + i / 8) 0 / 2 ^ (i % 8) ≡ 0 → set_from w i rows r ≡ false
  unfolding set_from place
  last_clear e =
      some_none (λ k. bit rows (8 * (r * w) + (i + k))) (8 * w - i)
      (λ k l. rest_clear rows (r * w + i / 8) (i % 8) (omega arith) e (8 * (r * w) + (i + k)) (omega arith) (omega arith))

  pub last_set : get_or rows (r * w + i / 8) 0 < 256 → (get_or rows (r * w + i / 8) 0 / 2 ^ (i % 8) ≡ 0 → ⊥) → set_from w i rows r ≡ true
  unfolding set_from place
  last_set byte some =
      by_bool (set_from w i rows r) (λ e. e)
      (λ e.
      absurd
      (some
      (shifted_zero (get_or rows (r * w + i / 8) 0) (i % 8) byte
      (λ k low high.
      let j = (8 * (i / 8) + k) - i in
      sym (bit_at rows (r * w + i / 8) k high)
      ∙ ap (bit rows) (let z : 8 * (r * w + i / 8) + k ≡ 8 * (r * w) + (i + j) = omega arith in z)
      ∙ none_below (λ k. bit rows (8 * (r * w) + (i + k))) (8 * w - i) j e (omega arith)))))
