-- The questions of a catalogue: accepted is a yes to each of them, and what a call asks after them waits for it.
use Prim.Native.Nat.{ℕ}
use mathlib.Core.Path.{◌≡◌}
use mathlib.Core.List.{List}
use Rattle.catalogue.specs.Outcome.{Outcome, accepted, refused, followed}
use Rattle.catalogue.specs.Checks.{catalogue_questions, catalogue_checks, checked}
use Rattle.catalogue.proofs.Asked.{Yes, Each, asked_yes, asked_accepted, asked-followed, after_yes, after_no}

pub accepted_passed : (b : List ℕ) → checked b ≡ accepted → Each (Yes b) catalogue_questions
unfolding checked catalogue_checks
accepted_passed b e = (asked_accepted catalogue_questions b accepted e).0

pub passed_accepted : (b : List ℕ) → Each (Yes b) catalogue_questions → checked b ≡ accepted
unfolding checked catalogue_checks
passed_accepted b p = asked_yes catalogue_questions b accepted p

-- The questions and the rest: the rest where they accept, and their refusal where they refuse.
pub checks_followed : (b : List ℕ) (rest : Outcome) → followed (checked b) rest ≡ catalogue_checks b rest
unfolding checked catalogue_checks followed
checks_followed b rest = asked-followed catalogue_questions b accepted rest

pub after_accepted : (b : List ℕ) (rest : Outcome) → checked b ≡ accepted → catalogue_checks b rest ≡ rest
unfolding checked catalogue_checks
after_accepted b rest e = after_yes catalogue_questions b rest e

pub after_refused : (b : List ℕ) {number at : ℕ} (rest : Outcome) → checked b ≡ refused number at → catalogue_checks b rest ≡ refused number at
unfolding checked catalogue_checks
after_refused b rest e = after_no catalogue_questions b rest e
