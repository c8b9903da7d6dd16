-- Laws of the lines of pairs: how long they are, and one concept more.
use Prim.Native.Nat.{ℕ, zero, suc, ◌+◌, ◌*◌, ◌≤◌, ◌<◌}
use native.Mathlib.Decide.{dec_lt}
use native.Mathlib.Numerals.{add-one}
use native.Mathlib.Omega.{arith}
use borrow.Author.Tests.{eq-eqb}
use mathlib.Core.Path.{◌≡◌, refl, sym, ap, subst, ◌∙◌}
use mathlib.Core.Bool.{Bool, true, false, cond, not, ◌&&◌, and-false}
use mathlib.Core.List.{List, []}
use lib.Dec.{eqb}
use lib.ListN.{length, length-append}
use Rattle.catalogue.specs.Header.{concepts}
use Rattle.catalogue.specs.Records.{kind}
use Rattle.rules.specs.Rules.{Expression, pair}
use Rattle.text.specs.Text.{pair_line, Appended}
use Rattle.text.specs.Lines.{named, lines_below, row_lines, rows_below}
use Rattle.text.proofs.Appending.{appended_nothing, appended_more}
use Rattle.text.proofs.Decimals.{length-decimal, length-pair_line}

-- A line of two concepts has at most 8 bytes.
pub pair_line_most : (c d : ℕ) → c < 512 → d < 512 → length (pair_line c d) ≤ 8
pair_line_most c d hc hd =
    let c' : c < 1000 = omega arith in
    let d' : d < 1000 = omega arith in
    omega (arith, length-pair_line c d, length-decimal c 2 c', length-decimal d 2 d')

named_most : (t : Bool) (line : List ℕ) → length line ≤ 8 → length (cond t line []) ≤ 8
named_most true line h = h
named_most false line h = omega arith

module _ (b : List ℕ) (test : Expression → Bool) where
  -- No concept is named under itself.
  named_itself : (c : ℕ) → named b test c c ≡ false
  unfolding named
  named_itself c =
      ap (λ (t : Bool). eqb (kind b c) 0 && (eqb (kind b c) 0 && (not t && test (pair c c)))) (eq-eqb c c refl)
      ∙ ap (λ (t : Bool). eqb (kind b c) 0 && t) (and-false (eqb (kind b c) 0))
      ∙ and-false (eqb (kind b c) 0)

  pub lines_below_most : (c k : ℕ) → c < 512 → k ≤ 512 → length (lines_below b test c k) ≤ 8 * k
  unfolding lines_below
  lines_below_most c zero hc hk = omega arith
  lines_below_most c (suc d) hc hk =
      let line : List ℕ = cond (named b test c d) (pair_line c d) [] in
      let before : length (lines_below b test c d) ≤ 8 * d = lines_below_most c d hc (omega arith) in
      let more : length line ≤ 8 = named_most (named b test c d) (pair_line c d) (pair_line_most c d hc (omega arith)) in
      omega (arith, length-append (lines_below b test c d) line)

  -- Past the concept itself there is a line less.
  lines_below_past : (c k : ℕ) → c < 512 → k ≤ 512 → c < k → length (lines_below b test c k) + 8 ≤ 8 * k
  unfolding lines_below
  lines_below_past c zero hc hk h = absurd (omega arith)
  lines_below_past c (suc d) hc hk h =
      let line : List ℕ = cond (named b test c d) (pair_line c d) [] in
      let whole = length-append (lines_below b test c d) line in
      elim (dec_lt c d) [
        | yes l ↦
            let before : length (lines_below b test c d) + 8 ≤ 8 * d = lines_below_past c d hc (omega arith) l in
            let more : length line ≤ 8 = named_most (named b test c d) (pair_line c d) (pair_line_most c d hc (omega arith)) in
            omega (arith, whole)
        | no g ↦
            let same : c ≡ d = omega arith in
            let before : length (lines_below b test c d) ≤ 8 * d = lines_below_most c d hc (omega arith) in
            let none : length line ≡ 0 = subst (λ (e : ℕ). length (cond (named b test c e) (pair_line c e) []) ≡ 0) same (ap (λ (t : Bool). length (cond t (pair_line c c) [])) (named_itself c)) in
            omega (arith, whole)
      ]

  -- The lines of a concept have 511 times 8 bytes at most, and those of the concepts below k so many times k.
  row_lines_most : (c : ℕ) → concepts b ≤ 512 → c < concepts b → length (row_lines b test c) ≤ 4088
  unfolding row_lines
  row_lines_most c hn hc = omega (arith, lines_below_past c (concepts b) (omega arith) hn hc)

  pub rows_below_most : (k : ℕ) → concepts b ≤ 512 → k ≤ concepts b → length (rows_below b test k) ≤ 4088 * k
  unfolding rows_below
  rows_below_most zero hn hk = omega arith
  rows_below_most (suc c) hn hk =
      omega (arith, length-append (rows_below b test c) (row_lines b test c), rows_below_most c hn (omega arith), row_lines_most c hn (omega arith))

  -- No lines, and those of one concept more: D in a row, C of the rows.
  module _ (out : List ℕ) (at : ℕ) (within : at ≤ length out) where
    pub lines_none : (c : ℕ) → Appended (lines_below b test c 0) out at at out
    unfolding lines_below
    lines_none c = appended_nothing out at within

    pub lines_step : (c d : ℕ) (middle after : List ℕ) (place end : ℕ) → Appended (lines_below b test c d) out at place middle → Appended (cond (named b test c d) (pair_line c d) []) middle place end after → Appended (lines_below b test c (d + 1)) out at end after
    unfolding lines_below
    lines_step c d middle after place end p q =
        subst (λ (k : ℕ). Appended (lines_below b test c k) out at end after) (sym (add-one d))
        (appended_more (lines_below b test c d) (cond (named b test c d) (pair_line c d) []) out at place end middle after within p q)

    pub rows_none : Appended (rows_below b test 0) out at at out
    unfolding rows_below
    rows_none = appended_nothing out at within

    pub rows_step : (c : ℕ) (middle after : List ℕ) (place end : ℕ) → Appended (rows_below b test c) out at place middle → Appended (row_lines b test c) middle place end after → Appended (rows_below b test (c + 1)) out at end after
    unfolding rows_below
    rows_step c middle after place end p q =
        subst (λ (k : ℕ). Appended (rows_below b test k) out at end after) (sym (add-one c))
        (appended_more (rows_below b test c) (row_lines b test c) out at place end middle after within p q)
