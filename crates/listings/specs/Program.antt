-- What the listing program writes, as a function of the bytes that it reads (document 01, Examples).
use Rattle.std.specs.Prelude.{ℕ, ◌<◌, ◌≤◌, ◌≡◌, ⊤, Bool, not, ◌&&◌, List, length, Option, Some, None}
use Rattle.catalogue.specs.Outcome.{Outcome, accepted, refused}
use Rattle.rules.specs.Axioms.{catalogue_axioms}
use Rattle.rules.specs.Rules.{Expression}
use Rattle.rules.specs.Counts.{count_over, is_pair}
use Rattle.rules.specs.Presentation.{in_closure}
use Rattle.classification.specs.Classified.{classify_checks}
use Rattle.text.specs.Text.{refusal}
use Rattle.text.specs.Lines.{listing}
use Rattle.listings.specs.declared.Shortfall.{Shortfall}
use Rattle.listings.specs.declared.Shortfall.TheVariants as short
use Rattle.std.specs.Io.KnownBytes.{Appends, Consumes, IsAtEnd}

-- The text of the set that a test gives: its counts of pairs and of links, and then its pairs of different atomic concepts, rising.
unfoldable pub listing_of : List ℕ → (Expression → Bool) → List ℕ
listing_of b test = listing b test (count_over b (λ e. test e && is_pair e)) (count_over b (λ e. test e && not (is_pair e)))

-- A text where a call's checks accept, and else the line of the refusal.
unfoldable pub unless_refused : Outcome → List ℕ → List ℕ
unless_refused accepted text = text
unless_refused (refused number at) text = refusal number

-- The program's text: questions 1 to 11 with 65,536 bytes of store and as many of work space, and the least set that the rules give from the catalogue's
-- axioms. (proofs/Program: whatever test decides that set; and that it is the text of the first 65,536 bytes, which are all that the program reads.)
unfoldable pub program_text : List ℕ → List ℕ
program_text input = unless_refused (classify_checks input 65536 65536) (listing_of input (in_closure input (catalogue_axioms input)))

-- What a run can promise of its answer alone: an answer with the length of the text of some input of at most 65,536 bytes.
pub data Ran : Option ℕ → Type 0 where
  listed : (input : List ℕ) → length input ≤ 65536 → {r : Option ℕ} → r ≡ Some (length (program_text input)) → Ran r
  unread : {r : Option ℕ} → r ≡ None → Ran r

-- What a run does at a reader and a writer of which it is known what they have left and hold: it takes bytes off the input, 65,536 or all that there are,
-- and appends their text to the output. Its answer is the length of the text.
pub record Lists (before after held written : Option (List ℕ)) (count : ℕ) : Type 0 where
  pub input : List ℕ
  pub within : length input ≤ 65536
  pub taken : Consumes before after input
  pub whole : length input < 65536 → IsAtEnd after
  pub put : Appends held written (program_text input)
  pub counted : count ≡ length (program_text input)

-- The length of the text of some input.
pub record OfSomeInput (count : ℕ) : Type 0 where
  pub input : List ℕ
  pub within : length input ≤ 65536
  pub counted : count ≡ length (program_text input)

-- What is known where a run falls short.
abbrev pub FallsShort : Shortfall → Type 0
FallsShort short.Unread = ⊤
FallsShort (short.Unwritten count) = OfSomeInput count
