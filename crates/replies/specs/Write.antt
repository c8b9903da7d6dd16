-- What girvotal_write answers and leaves, by write's own definitions.
use Rattle.std.specs.Prelude.{ℕ, List, Result, Ok, Err}
use Rattle.catalogue.specs.declared.checks.Refusal.{Refusal}
use Rattle.writing.specs.Write.{Writes}
use Rattle.replies.specs.Answers.{Reply, four, Exported}

-- The length, 0, 0, 0.
abbrev pub write_reply : Result ℕ Refusal → Reply
write_reply (Ok long) = Ok (four long 0 0 0)
write_reply (Err e) = Err e

-- The buffer lent is the output.
abbrev pub WriteExported : (b store output answer : List ℕ) (r : ℕ) (output' answer' : List ℕ) → Type 0
WriteExported b store output answer r output' answer' = Exported (Writes b store output) write_reply output answer r output' answer'
