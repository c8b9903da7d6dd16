-- The store on document 01's examples, by computation: the lengths of W1, W9, and W1 written with its own axioms.
use Prim.Native.Nat.{ℕ, ◌+◌, ◌*◌, ◌%◌}
use mathlib.Core.Path.{◌≡◌, refl, ap}
use mathlib.Core.Bool.{Bool, true}
use mathlib.Core.List.{List, map}
use lib.ListN.{replicate}
use Rattle.catalogue.specs.Words.{word, bytes_of}
use Rattle.catalogue.specs.Header.{concepts, roles, axioms, axioms_at}
use Rattle.catalogue.specs.Records.{left, right}
use Rattle.catalogue.specs.Outcome.{accepted, refused, ask}
use Rattle.catalogue.specs.Examples.{w1}
use Rattle.rows.specs.Bits.{byte_bit, bit, set_bit, count_below, some_below, place}
use Rattle.rules.specs.Axioms.{catalogue_axioms}
use Rattle.layout.specs.Parts.{width, used, work_used, row_count, set_from, spare_clear}
use Rattle.store.specs.Written.{rising, numbered, axiom_count, sides_of, axiom_records, set_word, written}
use Rattle.store.specs.Checks.{store_fits, work_fits, list_fits, ask_store, ask_work, ask_list, ask_spare}
use Rattle.store.specs.Examples.{atomic_concepts}
use Rattle.layout.proofs.StoreRows.{no_spare}
use Rattle.store.proofs.AtomicConcepts.{atomic_count}

-- W1: the store has 35 bytes, the work space 28, the list 14; one byte less is refused.
pub w1_lengths : (used w1 ≡ 35) × (work_used w1 ≡ 28)
unfolding w1 word concepts roles width used work_used
w1_lengths = (refl, refl)

pub w1_lengths_asked : (ask_store w1 35 accepted ≡ accepted) × (ask_store w1 34 accepted ≡ refused 10 0) × (ask_work w1 28 accepted ≡ accepted) × (ask_work w1 27 accepted ≡ refused 11 0) × (ask_list w1 14 accepted ≡ accepted) × (ask_list w1 13 accepted ≡ refused 12 0)
unfolding w1 word concepts roles width used work_used ask store_fits work_fits list_fits ask_store ask_work ask_list
w1_lengths_asked = (refl, refl, refl, refl, refl, refl)

-- W9: n = 7, and bit 7 of any one of the 35 rows is set: 13. With no bit set, and with bit 6 of every row set, it passes.
pub w9_set : map (λ (r : ℕ). ask_spare (spare_clear w1 (set_bit (replicate 35 0) (8 * r + 7))) accepted) (rising (λ (r : ℕ). true) 35) ≡ replicate 35 (refused 13 0)
unfolding w1 word concepts roles width byte_bit bit set_bit some_below place row_count set_from spare_clear ask ask_spare rising
w9_set = refl

pub w9_clear : (ask_spare (spare_clear w1 (replicate 35 0)) accepted ≡ accepted) × (ask_spare (spare_clear w1 (replicate 35 127)) accepted ≡ accepted)
unfolding w1 word concepts roles width byte_bit bit some_below place row_count set_from spare_clear ask ask_spare
w9_clear = (refl, refl)

-- W9: n = 8, and no bit is spare, whatever the store holds.
pub w9_none : (store : List ℕ) → ask_spare (spare_clear (atomic_concepts 8) store) accepted ≡ accepted
unfolding ask ask_spare
w9_none store = ap (λ (t : Bool). ask t 13 0 accepted) (no_spare (atomic_concepts 8) store (ap (λ (n : ℕ). n % 8) (atomic_count 8)))

-- W1 has three axioms, and written with them it is W1 again.
pub w1_axiom_count : axiom_count w1 (catalogue_axioms w1) ≡ 3
unfolding w1 word concepts axioms axioms_at left right some_below catalogue_axioms count_below numbered axiom_count
w1_axiom_count = refl

pub w1-written : written w1 (catalogue_axioms w1) ≡ w1
unfolding w1 word bytes_of concepts axioms axioms_at left right some_below catalogue_axioms count_below numbered axiom_count rising sides_of axiom_records set_word written
w1-written = refl
