-- A loop that writes a list from the front, one element a turn: what it has written, what it has left, and that in the end it is the new list.
use mathlib.Core.Path.{◌≡◌, refl, sym, ap, ◌∙◌}
use mathlib.Core.List.{List}
use Prim.Native.Nat.{ℕ, ◌+◌, ◌≤◌, ◌<◌}
use native.Mathlib.Omega.{arith}
use native.Mathlib.Decide.{ℕ_discrete}
use lib.ListN.{length, get_or, set, length-set}
use lib.Seq.{get_or-set_same, get_or-set_other, ext_get_or}

-- The list has the new elements below i, and the old ones from i on.
pub record Front (new old now : List ℕ) (i : ℕ) : Type 0 where
  pub long : length now ≡ length old
  pub below : (k : ℕ) → k < i → get_or now k 0 ≡ get_or new k 0
  pub above : (k : ℕ) → i ≤ k → get_or now k 0 ≡ get_or old k 0

pub front_none : (new old : List ℕ) → Front new old old 0
front_none new old = record { long = refl; below = λ k l. absurd (let z : ⊥ = omega arith in z); above = λ k l. refl }

pub front_more : (new old now : List ℕ) (i v : ℕ) → Front new old now i → i < length old → v ≡ get_or new i 0 → Front new old (set now i v) (i + 1)
front_more new old now i v f l e =
    record {
      long = length-set now i v ∙ f.long;
      below = λ k h.
          elim (ℕ_discrete k i) [
            | yes s ↦ ap (λ (j : ℕ). get_or (set now i v) j 0) s ∙ get_or-set_same now i v 0 (omega (arith, f.long)) ∙ e ∙ ap (λ (j : ℕ). get_or new j 0) (sym s)
            | no d ↦ get_or-set_other now i k v 0 d ∙ f.below k (omega arith)
          ];
      above = λ k h. get_or-set_other now i k v 0 (λ s. omega arith) ∙ f.above k (omega arith);
    }

pub front_all : (new old now : List ℕ) → length new ≡ length old → Front new old now (length old) → now ≡ new
front_all new old now e f = ext_get_or 0 now new (f.long ∙ sym e) (λ k l. f.below k (omega (arith, f.long)))
