-- Stores of W8 and W10 (document 01, Examples): rows of axioms, of pairs, and of links by first concept and role.
use Rattle.std.specs.Prelude.{ℕ, zero, suc, ◌*◌, List, [], ◌∷◌, ◌++◌, eqb, replicate}
use Rattle.catalogue.specs.Header.{concepts}
use Rattle.catalogue.specs.Records.{kind}
use Rattle.rows.specs.Bits.{set_if, place}
use Rattle.layout.specs.Parts.{width, work_used}
use Rattle.change_contract.specs.Edits.{Lent, lend}

-- A block in which bit c of pair row c is set for each atomic record c below a number, and no other bit.
unfoldable pub atomic_block : List ℕ → ℕ → List ℕ
atomic_block b zero = replicate (work_used b) 0
atomic_block b (suc c) = set_if (eqb (kind b c) 0) (atomic_block b c) (place (width b) c c)

-- The store of a catalogue without axioms: clear rows of axioms, and that block for all records.
unfoldable pub atomic_store : List ℕ → List ℕ
atomic_store b = replicate (concepts b * width b) 0 ++ atomic_block b (concepts b)

-- W8's store.
unfoldable pub w8_store : List ℕ
w8_store =
    0 ∷ 0 ∷ 0 ∷ 0 ∷ 0 ∷ 0 ∷ 0 ∷
    1 ∷ 2 ∷ 4 ∷ 8 ∷ 0 ∷ 0 ∷ 0 ∷
    0 ∷ 0 ∷ 0 ∷ 0 ∷ 0 ∷ 0 ∷ 0 ∷ 0 ∷ 0 ∷ 0 ∷ 0 ∷ 0 ∷ 0 ∷ 0 ∷ 0 ∷ 0 ∷ 0 ∷ 0 ∷ 0 ∷ 0 ∷ 0 ∷ []

-- W10's store, for 512 concepts and no roles: the first 8 rows of axioms, of 64 bytes each, are full, and so 8 · 512 axioms are in force; every other row is
-- clear.
unfoldable pub full_store : List ℕ
full_store = replicate 512 255 ++ replicate 65024 0

-- The buffers that a change is lent with it.
abbrev pub full_lent : Lent
full_lent = lend full_store (replicate 32768 0) (replicate 1024 0)
