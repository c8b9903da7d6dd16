-- Laws of squares of marks: the blank square, and squares that mark the same relation.
use Prim.Native.Nat.{ℕ, ◌+◌, ◌<◌}
use borrow.Author.Count.{below_more}
use native.Mathlib.Omega.{arith}
use mathlib.Core.Path.{◌≡◌, refl, sym, ap, subst⁻¹, ◌∙◌}
use mathlib.Core.Logic.{◌↔◌}
use mathlib.Core.Bool.{Bool, false, false≢true}
use mathlib.Core.List.{List, []}
use lib.ListN.{length, get_or, set, replicate, get_or-replicate}
use lib.Seq.{get_or-set_same, get_or-set_other}
use Rattle.structure.specs.Square.{Square, mark, Sized, MarksExactly}

abbrev pub blank : Square
blank = replicate 16 (replicate 16 false)

pub blank_sized : Sized blank
blank_sized = record { rows = refl; row = λ r h. ap length (get_or-replicate 16 r (replicate 16 false) [] h) }

pub blank_exact : (P : ℕ → ℕ → Type 0) → ((r s : ℕ) → P r s → ⊥) → MarksExactly P blank
blank_exact P f = record { exact = λ r s h k. (λ m. absurd (false≢true (sym (clear r s h k) ∙ m)), λ p. absurd (f r s p)) }
  where
    clear : (r s : ℕ) → r < 16 → s < 16 → mark blank r s ≡ false
    clear r s h k = ap (λ (l : List Bool). get_or l s false) (get_or-replicate 16 r (replicate 16 false) [] h) ∙ get_or-replicate 16 s false false k

-- Relations that agree are marked alike.
pub exactly_same : (P Q : ℕ → ℕ → Type 0) (q : Square) → ((r s : ℕ) → r < 16 → s < 16 → P r s ↔ Q r s) → MarksExactly P q → MarksExactly Q q
exactly_same P Q q e m = record { exact = λ r s h k. (λ o. (e r s h k).0 ((m.exact r s h k).0 o), λ p. (m.exact r s h k).1 ((e r s h k).1 p)) }

-- What holds of the elements below i, and of the one stored at i, holds of those below i + 1.
pub stored_more : {X : Type 0} (P : ℕ → X → Type 0) (l : List X) (d : X) (i : ℕ) (a : X) → i < length l → ((x : ℕ) → x < i → P x (get_or l x d)) → P i a → (x : ℕ) → x < i + 1 → P x (get_or (set l i a) x d)
stored_more P l d i a h below p = below_more (λ x. P x (get_or (set l i a) x d)) i
    (λ x k. let n : x ≡ i → ⊥ = λ e. omega arith in subst⁻¹ (P x) (get_or-set_other l i x a d n) (below x k)) (subst⁻¹ (P i) (get_or-set_same l i a d h) p)
