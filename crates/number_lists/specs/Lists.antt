-- Numbers entered in a list, two bytes each, low byte first; entries past them stay (document 01, Changes).
use Rattle.std.specs.Prelude.{ℕ, ◌+◌, ◌*◌, ◌≡◌, Bool, true, false, List, ◌++◌, length, drop}
use Rattle.catalogue.specs.Words.{bytes_of}
use Rattle.store.specs.Written.{set_word}

-- A list with numbers in front, two bytes each, low byte first; entries past them stay.
unfoldable pub with_front : (names list : List ℕ) → List ℕ
with_front names list = bytes_of names ++ drop (2 * length names) list

-- How the list is filled: so many names stand in front.
pub record Filled (names list : List ℕ) (count : ℕ) (after : List ℕ) : Type 0 where
  pub counted : count ≡ length names
  pub entries : after ≡ with_front names list

-- One step: number c is entered after `count` others where it passes, and nothing is written where it does not.
pub record Entered (pass : Bool) (c count : ℕ) (list : List ℕ) (r : ℕ) (after : List ℕ) : Type 0 where
  pub enters : pass ≡ true → (r ≡ count + 1) × (after ≡ set_word list (2 * count) c)
  pub skips : pass ≡ false → (r ≡ count) × (after ≡ list)
