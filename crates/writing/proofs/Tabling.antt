-- The loop over the rows of a table: the records of the left sides passed are written.
use mathlib.Core.Path.{◌≡◌, refl, sym, ap, ap₂, ◌∙◌, subst}
use mathlib.Core.Bool.{Bool}
use mathlib.Core.List.{List}
use Prim.Native.Nat.{ℕ, ◌+◌, ◌-◌, ◌*◌, ◌≤◌, ◌<◌}
use native.Mathlib.Nat.{zero-mul, add-mul, one-mul, add-zero}
use native.Mathlib.Omega.{arith}
use lib.ListN.{length, drop, length-take}
use borrow.Rule.Slice.PartMut.{mid_of}
use Rattle.rows.specs.Bits.{bit, count_below, place}
use Rattle.rows.proofs.Counting.{count_add, count_ext, count_up}
use Rattle.rows.proofs.Places.{row_within}
use Rattle.rows.proofs.RowParts.{span, row_read}
use Rattle.store.specs.Written.{rising}
use Rattle.store.proofs.Rising.{length-rising}
use Rattle.store.proofs.Written.{number-left, number-right}
use Rattle.writing.specs.Records.{Recorded, RowFits, WritesRow, in_rows, TableFits, WritesTable}

-- The rows' bits as the numbers of axioms.
in_rows_lem : (rows : List ℕ) (n w c d : ℕ) → d < n → in_rows rows n w (c * n + d) ≡ bit rows (place w c d)
in_rows_lem rows n w c d l = ap₂ (λ (x y : ℕ). bit rows (place w x y)) (number-left n c d l) (number-right n c d l)

next_row : (n left : ℕ) → (left + 1) * n ≡ left * n + n
next_row n left = add-mul left 1 n ∙ ap (λ (k : ℕ). left * n + k) (one-mul n)

pub record TableState (rows : List ℕ) (n w : ℕ) (out₀ : List ℕ) (start : ℕ) (out : List ℕ) (at left : ℕ) : Type 0 where
  pub long : length out ≡ length out₀
  pub ends : at ≡ start + 4 * count_below (in_rows rows n w) (left * n)
  pub recorded : (test : ℕ → Bool) (head : List ℕ) → ((c d : ℕ) → c < n → d < n → test (c * n + d) ≡ bit rows (place w c d)) → Recorded n test 0 head out₀ start → Recorded n test (left * n) head out at

pub table_begins : (rows : List ℕ) (n w : ℕ) (out : List ℕ) (start : ℕ) → TableState rows n w out start out start 0
unfolding count_below
table_begins rows n w out start =
    record {
      long = refl;
      ends = sym (ap (λ (k : ℕ). start + 4 * count_below (in_rows rows n w) k) (zero-mul n) ∙ add-zero start);
      recorded = λ test head agree r. subst (λ (k : ℕ). Recorded n test k head out start) (sym (zero-mul n)) r;
    }

module _ (rows : List ℕ) (n w : ℕ) (out₀ : List ℕ) (start : ℕ) (fits : TableFits rows n w out₀ start) where
  row : ℕ → List ℕ
  row left = mid_of (left * w) ((left * w + w) - left * w) rows

  row_bit_lem : (left d : ℕ) → d < n → bit (row left) d ≡ bit rows (place w left d)
  unfolding row
  row_bit_lem left d l = row_read rows w left (left * w) (left * w + w) d (span w left) (omega (arith, fits.width_fits))

  -- The count of one row more.
  row_count : (left : ℕ) → count_below (in_rows rows n w) (left * n + n) ≡ count_below (in_rows rows n w) (left * n) + count_below (bit (row left)) n
  row_count left =
      count_add (in_rows rows n w) (left * n) n
      ∙ ap (λ (k : ℕ). count_below (in_rows rows n w) (left * n) + k)
      (count_ext (λ (j : ℕ). in_rows rows n w (left * n + j)) (bit (row left)) n (λ d l. in_rows_lem rows n w left d l ∙ sym (row_bit_lem left d l)))

  module _ (out : List ℕ) (at left : ℕ) (s : TableState rows n w out₀ start out at left) (l : left < n) where
    room : at + 4 * count_below (bit (row left)) n ≤ length out
    room =
        let up : count_below (in_rows rows n w) (left * n + n) ≤ count_below (in_rows rows n w) (n * n) =
        count_up (in_rows rows n w) (left * n + n) (n * n) (row_within n left n l)
        in
        omega (arith, s.ends, s.long, fits.room, row_count left, up)

    pub row_fits : RowFits (mid_of (left * w) ((left * w + w) - left * w) rows) n left out at
    unfolding row
    row_fits =
        record {
          row_short = omega (arith, length-take ((left * w + w) - left * w) (drop (left * w) rows), fits.width_small);
          number_fits = omega (arith, fits.small);
          left_below = l;
          room = room;
        }

    pub table_goes_on : (out' : List ℕ) (at' : ℕ) → WritesRow (mid_of (left * w) ((left * w + w) - left * w) rows) n left out at out' at' → TableState rows n w out₀ start out' at' (left + 1)
    unfolding row
    table_goes_on out' at' f =
        record {
          long = f.long ∙ s.long;
          ends =
              let counted : count_below (in_rows rows n w) ((left + 1) * n) ≡ count_below (in_rows rows n w) (left * n) + count_below (bit (row left)) n =
              ap (count_below (in_rows rows n w)) (next_row n left) ∙ row_count left
              in
              omega (arith, f.ends, s.ends, counted);
          recorded = λ test head agree r.
              subst (λ (k : ℕ). Recorded n test k head out' at') (sym (next_row n left))
              (f.recorded test head (λ d h. agree left d l h ∙ sym (row_bit_lem left d h)) (s.recorded test head agree r));
        }

  pub table_ends : (out : List ℕ) (at left : ℕ) → TableState rows n w out₀ start out at left → left ≡ n → WritesTable rows n w out₀ start out
  unfolding rising
  table_ends out at left s same =
      record {
        long = s.long;
        recorded = λ test head agree r.
            let e : Recorded n test (n * n) head out at = subst (λ (k : ℕ). Recorded n test (k * n) head out at) same (s.recorded test head agree r) in
            let ends : at ≡ start + 4 * count_below test (n * n) = omega (arith, e.ends, r.ends, length-rising test (n * n)) in
            subst (λ (k : ℕ). Recorded n test (n * n) head out k) ends e;
      }
