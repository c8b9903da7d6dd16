-- What girvotal_change answers and leaves, by change's own definitions.
use Rattle.std.specs.Prelude.{ℕ, List, Result, Ok, Err}
use Rattle.catalogue.specs.declared.checks.Refusal.{Refusal}
use Rattle.change_contract.specs.declared.Changed.{Changed}
use Rattle.change_contract.specs.Edits.{lend, Edits}
use Rattle.replies.specs.Answers.{Reply, four, Exported}

-- Removed, returned, gained, and the count of concepts listed as touched.
abbrev pub change_reply : Result Changed Refusal → Reply
change_reply (Ok c) = Ok (four c.removed c.returned c.gained c.touched)
change_reply (Err e) = Err e

-- The buffers lent to be written are the store, the work space and the list.
abbrev pub ChangeExported : (b withdrawn added store work list answer : List ℕ) (r : ℕ) (store' work' list' answer' : List ℕ) → Type 0
ChangeExported b withdrawn added store work list answer r store' work' list' answer' =
    Exported (Edits b withdrawn added (lend store work list)) change_reply (lend store work list) answer r (lend store' work' list') answer'
