-- What girvotal_check answers, by measure's own definitions.
use Rattle.std.specs.Prelude.{ℕ, List, Result, Ok, Err}
use Rattle.catalogue.specs.declared.checks.Refusal.{Refusal}
use Rattle.buffer_sizes.specs.declared.Sizes.{Sizes}
use Rattle.buffer_sizes.specs.Sizes.{Measures}
use Rattle.replies.specs.Answers.{Reply, four, Exported}

-- Bytes of a store, of a work space and of a list, and the most that write gives.
abbrev pub check_reply : Result Sizes Refusal → Reply
check_reply (Ok s) = Ok (four s.store s.work s.list s.output)
check_reply (Err e) = Err e

-- No buffer but the answer is lent to be written.
abbrev pub CheckExported : (b answer : List ℕ) (r : ℕ) (answer' : List ℕ) → Type 0
CheckExported b answer r answer' = Exported (λ (call : Result Sizes Refusal) (none : Unit {0}). Measures b call) check_reply tt answer r tt answer'
