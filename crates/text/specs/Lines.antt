-- The lines of pairs, and the text of an accepted catalogue (document 01, Examples). A test says which pairs a set has.
use Rattle.std.specs.Prelude.{ℕ, zero, suc, Bool, cond, not, ◌&&◌, List, [], ◌++◌, eqb}
use Rattle.catalogue.specs.Header.{concepts, axioms}
use Rattle.catalogue.specs.Records.{kind}
use Rattle.rules.specs.Rules.{Expression, pair}
use Rattle.text.specs.Text.{summary, pair_line}

-- C and D are different atomic concepts, and the set has C⊑D.
unfoldable pub named : (b : List ℕ) (test : Expression → Bool) (c d : ℕ) → Bool
named b test c d = eqb (kind b c) 0 && (eqb (kind b d) 0 && (not (eqb c d) && test (pair c d)))

-- The lines of the pairs of C with a D below k, rising.
unfoldable pub lines_below : (b : List ℕ) (test : Expression → Bool) (c k : ℕ) → List ℕ
lines_below b test c zero = []
lines_below b test c (suc d) = lines_below b test c d ++ cond (named b test c d) (pair_line c d) []

-- The lines of the pairs of C.
unfoldable pub row_lines : (b : List ℕ) (test : Expression → Bool) (c : ℕ) → List ℕ
row_lines b test c = lines_below b test c (concepts b)

-- The lines of the pairs of each C below k, rising.
unfoldable pub rows_below : (b : List ℕ) (test : Expression → Bool) (k : ℕ) → List ℕ
rows_below b test zero = []
rows_below b test (suc c) = rows_below b test c ++ row_lines b test c

-- The lines of all pairs.
unfoldable pub pair_lines : (b : List ℕ) (test : Expression → Bool) → List ℕ
pair_lines b test = rows_below b test (concepts b)

-- The line of counts, and then the lines of all pairs.
unfoldable pub listing : (b : List ℕ) (test : Expression → Bool) (pairs links : ℕ) → List ℕ
listing b test pairs links = summary (concepts b) (axioms b) pairs links ++ pair_lines b test
