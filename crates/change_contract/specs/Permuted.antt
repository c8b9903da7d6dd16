-- The same axioms in another order (document 02, request Four): "order inside a list without effect".
use Rattle.std.specs.Prelude.{ℕ, ◌<◌, ◌≡◌, List, length, Result}
use Rattle.catalogue.specs.declared.checks.Refusal.{Refusal}
use Rattle.change_contract.specs.declared.Changed.{Changed}
use Rattle.change_contract.specs.Lists.{axioms_in, left_in, right_in}
use Rattle.change_contract.specs.Edits.{Lent, asked, Edits}

-- An order of the numbers below n: k goes to place `to k`, and `from` leads back.
pub record Order (n : ℕ) : Type 0 where
  pub to : ℕ → ℕ
  pub from : ℕ → ℕ
  pub to_below : (k : ℕ) → k < n → to k < n
  pub from_below : (k : ℕ) → k < n → from k < n
  pub from_to : (k : ℕ) → k < n → from (to k) ≡ k
  pub to_from : (k : ℕ) → k < n → to (from k) ≡ k

-- The same axioms in another order: as many bytes, and axiom k of the one is, by its two numbers, the axiom of the other at the place that k goes to.
pub record Permuted (xs ys : List ℕ) : Type 0 where
  pub length_same : length ys ≡ length xs
  pub order : Order (axioms_in xs)
  pub left_same : (k : ℕ) → k < axioms_in xs → left_in ys (order.to k) ≡ left_in xs k
  pub right_same : (k : ℕ) → k < axioms_in xs → right_in ys (order.to k) ≡ right_in xs k

-- Lists in another order are asked the same, do the same, and end alike: one answer, and every lent byte the same.
pub record NoEffect (b withdrawn added withdrawn' added' : List ℕ) (u : Lent) : Type 0 where
  pub asked_same : asked b withdrawn' added' u ≡ asked b withdrawn added u
  pub edits_same : (a : Result Changed Refusal) (v : Lent) → Edits b withdrawn added u a v → Edits b withdrawn' added' u a v
  pub ends_same : (a a' : Result Changed Refusal) (v v' : Lent) → Edits b withdrawn added u a v → Edits b withdrawn' added' u a' v' → (a' ≡ a) × (v' ≡ v)
