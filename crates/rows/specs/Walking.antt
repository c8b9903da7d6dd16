-- A walk over the marked numbers of a row: what each step gives.
use Rattle.std.specs.Prelude.{ℕ, ◌+◌, ◌<◌, ◌≡◌, MatchOption, Option}
use Rattle.rows.specs.Next.{NextBelow}
use Rattle.rows.specs.declared.walking.MarkedNumbers.{MarkedNumbers}

-- A step gives the next marked number below the end and goes on past it, or gives none where there is none.
pub record StepsOver (s : MarkedNumbers) (given : Option ℕ) (t : MarkedNumbers) : Type 0 where
  pub same_row : t.row ≡ s.row
  pub same_end : t.end ≡ s.end
  pub gives : MatchOption given (NextBelow s.row.now s.end s.from s.end) (λ c. NextBelow s.row.now s.end s.from c × (c < s.end) × (t.from ≡ c + 1))
