-- Write after a list of classify and change calls as in demand 3, said of the contracts; and classify of what write gave.
use Rattle.std.specs.Prelude.{ℕ, ◌≤◌, ◌<◌, ◌≡◌, List, ◌++◌, length, take, drop, Result, Ok, Err}
use Rattle.rows.specs.Bits.{Bytes}
use Rattle.catalogue.specs.declared.checks.Refusal.{Refusal}
use Rattle.catalogue.specs.Verdicts.{refusal}
use Rattle.rules.specs.Axioms.{Axioms, catalogue_axioms}
use Rattle.layout.specs.Parts.{in_force}
use Rattle.store.specs.Fresh.{Fresh}
use Rattle.writing.specs.Write.{Writes}
use Rattle.demands.specs.Afresh.{ClassifiesAfresh, ClassifiesAlike}
use Rattle.demands.specs.Sequences.{AfterCalls}

-- ---- write

-- Write gives w: no question but 20 is answered no, and 20 exactly where the output is shorter than w. Written, w stands in front, byte for byte, and
-- the bytes beyond it stay.
pub record WritesOut (w output : List ℕ) (answer : Result ℕ Refusal) (output' : List ℕ) : Type 0 where
  pub fits : length w ≤ length output → (answer ≡ Ok (length w)) × (output' ≡ w ++ drop (length w) output)
  pub short : length output < length w → (answer ≡ Err (refusal 20 0)) × (output' ≡ output)

-- Where the axioms in force are the catalogue's own, as after a classify, it gives back the catalogue itself, which as a lent slice is made of bytes.
abbrev pub WritesBack : List ℕ → Axioms → List ℕ → Type 0
WritesBack b F store =
    Bytes b → F ≡ catalogue_axioms b → (output : List ℕ) (answer : Result ℕ Refusal) (output' : List ℕ) → Writes b store output answer output'
    → WritesOut b output answer output'

abbrev pub CallsThenWriteBack : Type 0
CallsThenWriteBack = AfterCalls WritesBack

-- ---- classify of what was written

-- What write gave from a fresh store, classified, gives the same used part: from any store that is fresh for the axioms in force in it, and so from
-- one that a list of calls left.
abbrev pub WriteThenClassify : Type 0
WriteThenClassify =
    (b store output : List ℕ) (k : ℕ) (output' : List ℕ) → Fresh b (in_force b store) store → Writes b store output (Ok k) output'
    → ClassifiesAfresh b (in_force b store) (take k output') × ClassifiesAlike b store (take k output')

abbrev pub WrittenClassifies : List ℕ → Axioms → List ℕ → Type 0
WrittenClassifies b F store =
    (output : List ℕ) (k : ℕ) (output' : List ℕ) → Writes b store output (Ok k) output'
    → ClassifiesAfresh b F (take k output') × ClassifiesAlike b store (take k output')

abbrev pub CallsWriteClassify : Type 0
CallsWriteClassify = AfterCalls WrittenClassifies
