-- A catalogue of n atomic concepts and nothing else: in the rows of eight no bit is spare, and 512 are the most.
use Rattle.std.specs.Prelude.{ℕ, ◌+◌, ◌*◌, List, [], ◌∷◌, ◌++◌, replicate}
use Rattle.catalogue.specs.Words.{bytes_of}

-- Its header: the records end where the other sections would start.
unfoldable pub atomic_header : ℕ → List ℕ
atomic_header n = let end : ℕ = 20 + 6 * n in bytes_of (end ∷ n ∷ 0 ∷ 0 ∷ 0 ∷ 0 ∷ 20 ∷ end ∷ end ∷ end ∷ [])

unfoldable pub atomic_concepts : ℕ → List ℕ
atomic_concepts n = atomic_header n ++ replicate (6 * n) 0
