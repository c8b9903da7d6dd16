-- What a store marks, as a property of its bytes, and what a store classified afresh is (document 01, Edits in a row).
use Rattle.std.specs.Prelude.{ℕ, ◌≤◌, ◌<◌, ◌≡◌, Bool, true, ◌↔◌, List, length, get_or}
use Rattle.rules.specs.Axioms.{Axioms}
use Rattle.rules.specs.Rules.{Expression, Closure}
use Rattle.layout.specs.Parts.{used, in_force, held, spare_clear}

-- The axiom rows mark F, the pair and link rows mark the set S, and nothing else in the used part is marked.
pub record Marked (b : List ℕ) (F : ℕ → ℕ → Bool) (S : Expression → Type 0) (store : List ℕ) : Type 0 where
  pub long : used b ≤ length store
  pub axioms : (c d : ℕ) → in_force b store c d ≡ F c d
  pub set : (e : Expression) → (held b store e ≡ true) ↔ S e
  pub spare : spare_clear b store ≡ true
  pub bytes : (i : ℕ) → i < used b → get_or store i 0 < 256

-- Classified afresh from F: it marks F and the least set that the rules give from F.
abbrev pub Fresh : List ℕ → Axioms → List ℕ → Type 0
Fresh b F store = Marked b F (Closure b F) store
