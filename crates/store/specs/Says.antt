-- What a lookup says of two concepts, by a store. Today it is the pair's bit.
use Rattle.std.specs.Prelude.{ℕ, Bool, List}
use Rattle.rules.specs.Rules.{pair}
use Rattle.layout.specs.Parts.{held}

-- The store holds C⊑D.
unfoldable pub says : (b store : List ℕ) (c d : ℕ) → Bool
says b store c d = held b store (pair c d)
