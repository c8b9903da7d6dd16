-- What copying bytes from one list to another gives.
use Rattle.std.specs.Prelude.{ℕ, ◌+◌, List, ◌++◌, take, drop}

-- The list dst with its `size` bytes from `to` on replaced by those of src from `at` on.
abbrev pub copied : List ℕ → ℕ → List ℕ → ℕ → ℕ → List ℕ
copied src at dst to size = take to dst ++ take size (drop at src) ++ drop (to + size) dst
