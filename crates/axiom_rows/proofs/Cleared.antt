-- The catalogue's axioms put into the first rows of a store: the rows are cleared, marked, and copied.
use Prim.Native.Nat.{ℕ, ◌*◌}
use mathlib.Core.Path.{◌≡◌, refl, sym, ap, ap₂, ◌∙◌}
use mathlib.Core.Bool.{Bool, true, false, ◌&&◌, ◌||◌, and-false}
use mathlib.Core.List.{List, ◌++◌}
use lib.Dec.{ltb}
use lib.ListN.{length, take, drop, replicate}
use lib.Seq.{take_at, drop_at}
use Rattle.rows.specs.Bits.{place}
use Rattle.rows.proofs.Bits.{bit_zeros}
use Rattle.rules.specs.Axioms.{catalogue_axioms}
use Rattle.layout.specs.declared.Shape.{Shape}
use Rattle.layout.specs.Layout.{table, table_length}
use Rattle.row_steps.proofs.Copies.{copied_all}
use Rattle.axiom_rows.specs.Putting.{MarksAxioms, PutsAxioms}

-- A table of zeros holds no axiom.
pub clear_table : (s : Shape) (k c d : ℕ) → table s (replicate k 0) c d ≡ false
unfolding table
clear_table s k c d =
    ap (λ (x : Bool). ltb c s.concepts && (ltb d (8 * s.width) && x)) (bit_zeros k (place s.width c d)) ∙ nothing (ltb c s.concepts) (ltb d (8 * s.width))
  where
    nothing : (p q : Bool) → (p && (q && false)) ≡ false
    nothing true q = and-false q
    nothing false q = refl

-- The first k bytes of the store were cleared, then marked as `rows`, and then copied over a table of k bytes.
pub record Put (b : List ℕ) (s : Shape) (k n : ℕ) (store zeros rows copied : List ℕ) : Type 0 where
  pub table_long : k ≡ table_length s
  pub zeros_are : zeros ≡ replicate n 0
  pub zeros_long : length zeros ≡ k
  pub rows_long : length rows ≡ k
  pub marks : MarksAxioms b s (take k (zeros ++ drop k store)) rows
  pub copied_is : copied ≡ rows

pub puts-axioms : {b : List ℕ} {s : Shape} {k n : ℕ} {store zeros rows copied : List ℕ} → Put b s k n store zeros rows copied → PutsAxioms b s store (rows ++ drop k (zeros ++ drop k store)) copied
puts-axioms {b} {s} {k} {n} {store} {zeros} {rows} {copied} p =
    record {
      axioms = λ c d.
          ap (λ (l : List ℕ). table s l c d) p.copied_is
          ∙ p.marks c d
          ∙ ap (λ (x : Bool). x || catalogue_axioms b c d)
          (ap (λ (l : List ℕ). table s l c d) (take_at zeros (drop k store) k p.zeros_long ∙ p.zeros_are) ∙ clear_table s n c d);
      rows_long = ap length p.copied_is ∙ p.rows_long ∙ p.table_long;
      store_is =
          ap₂ (λ (x y : List ℕ). x ++ y) (sym p.copied_is)
          (drop_at zeros (drop k store) k p.zeros_long ∙ ap (λ (m : ℕ). drop m store) p.table_long);
    }

-- What is copied from the first k bytes over a table of k bytes.
pub copied_rows : (k n : ℕ) (rows rest table copied : List ℕ) → length rows ≡ k → length table ≡ k → n ≡ length (take k (rows ++ rest))
    → copied ≡ take n (take k (rows ++ rest)) ++ drop n table → copied ≡ rows
copied_rows k n rows rest table copied lr lt e is =
    let front : take k (rows ++ rest) ≡ rows = take_at rows rest k lr in
    copied_all n (take k (rows ++ rest)) table copied (lt ∙ sym (ap length front ∙ lr)) e is ∙ front
