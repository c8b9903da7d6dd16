-- The contract of a listing leaves one outcome: two exits at equal entries are equal, and a refused call has written nothing.
use Prim.Native.Nat.{ℕ}
use native.Mathlib.Omega.{arith}
use mathlib.Core.Path.{◌≡◌, sym, ◌∙◌}
use mathlib.Core.List.{List, [], ◌∷◌}
use lib.ListN.{length}
use Rattle.std.proofs.Common.{Result, Err}
use Rattle.catalogue.specs.Outcome.{Outcome, accepted, refused}
use Rattle.read_checks.specs.Checks.{list_checks}
use Rattle.lookups.specs.Listings.{kinds_under, listed, list_after, Lists}
use Rattle.catalogue.specs.Verdicts.{refusal}
use Rattle.catalogue.specs.declared.checks.Refusal.{Refusal}

pub lists_unique : (b : List ℕ) (d : ℕ) (store list : List ℕ) (r r' : Result ℕ Refusal) (after after' : List ℕ) → Lists b d store list r after → Lists b d store list r' after' → (r ≡ r') × (after ≡ after')
lists_unique b d store list r r' after after' p q = (p.answer ∙ sym q.answer, p.entries ∙ sym q.entries)

pub refused_keeps : (b : List ℕ) (d : ℕ) (store list : List ℕ) (r : Result ℕ Refusal) (after : List ℕ) (number at : ℕ) → Lists b d store list r after → r ≡ Err (refusal number at) → after ≡ list
refused_keeps b d store list r after number at p e = go (list_checks b (d ∷ []) store (length list)) (sym e ∙ p.answer) p.entries
  where
    go : (o : Outcome) → Err (refusal number at) ≡ listed o (kinds_under b d store) → after ≡ list_after o (kinds_under b d store) list → after ≡ list
    go accepted f a = let z : ◌≡◌ {A = ℕ} 0 1 = cc in absurd (let n : ⊥ = omega arith in n)
    go (refused n r) f a = a
