-- W8 to W10 and the limits (document 01, Examples): a part of the worked table. What a call answers is said of every exit that its contract allows.
-- What is read of W8 is said of every store with the used part of one without axioms; of W9, of W1's store with a spare bit set.
-- Lists of axioms are written byte by byte, four to an axiom.
use Rattle.std.specs.Prelude.{ℕ, ◌+◌, ◌*◌, ◌<◌, true, false, ◌≡◌, ◌↔◌, List, [], ◌∷◌, map, length, take, replicate, Ok, Err}
use Rattle.rows.specs.Bits.{set_bit, count_below}
use Rattle.catalogue.specs.WellFormed.{WellFormed}
use Rattle.catalogue.specs.Header.{concepts, axioms}
use Rattle.catalogue.specs.Outcome.{accepted, refused}
use Rattle.catalogue.specs.Checks.{checked}
use Rattle.catalogue.specs.Examples.{w1, header_alone}
use Rattle.catalogue.specs.Verdicts.{refusal}
use Rattle.rules.specs.Axioms.{Axioms, none}
use Rattle.rules.specs.Occurrence.{Atomic, Occurs, has_kind}
use Rattle.rules.specs.Rules.{Expression, Closure, AtomicPair}
use Rattle.layout.specs.Parts.{used, work_used, spare_clear}
use Rattle.store.specs.Fresh.{Fresh}
use Rattle.store.specs.Checks.{ask_spare}
use Rattle.store.specs.Written.{rising, written}
use Rattle.store.specs.Examples.{atomic_concepts}
use Rattle.change_contract.specs.Lists.{edited}
use Rattle.change_contract.specs.Answers.{changed}
use Rattle.lookups.specs.Answers.{looked_up}
use Rattle.examples_w8_w10.specs.Catalogues.{w8}
use Rattle.examples_w1_w6.specs.Stores.{w1_store}
use Rattle.examples_w8_w10.specs.Stores.{w8_store, atomic_store, full_lent}
use Rattle.examples_common.specs.Calls.{ClassifyGives, ClassifyRefuses, ChangeGives}
use Rattle.examples_w8_w10.specs.Full.{FullRefuses, FullMoves, MeetsFull, MeetsMove}
use Rattle.examples_common.specs.Entries.{Changed}

-- W8 with (0,4) added.
abbrev pub axioms8 : Axioms
axioms8 = edited none [] (0 ∷ 0 ∷ 4 ∷ 0 ∷ [])

pub record Table : Type 0 where
  -- ---- W8
  -- W8: no axioms: the atomic records occur and no others, and each lies under itself alone.
  pub W8 : (b : List ℕ) → WellFormed b → (e : Expression) → Closure b none e ↔ AtomicPair b e
  pub W8_occur : (b : List ℕ) (c : ℕ) → Occurs b none c ↔ Atomic b c
  -- Classify of an accepted catalogue without axioms answers a pair for each atomic record and no link, and leaves these bytes in the used
  -- part, which are classified afresh.
  pub W8_classify : (b : List ℕ) → checked b ≡ accepted → axioms b ≡ 0
      → ClassifyGives b (used b) (work_used b) (count_below (has_kind b 0) (concepts b)) 0 (atomic_store b)
  pub W8_fresh : (b : List ℕ) → WellFormed b → Fresh b none (atomic_store b)
  -- Lookups in such a store: of atomic records yes on themselves and no otherwise; 19 where a top or a composite is named.
  pub W8_itself : (b store : List ℕ) → checked b ≡ accepted → take (used b) store ≡ atomic_store b → (c : ℕ) → Atomic b c → looked_up b c c store ≡ Ok true
  pub W8_others : (b store : List ℕ) → checked b ≡ accepted → take (used b) store ≡ atomic_store b
      → (c d : ℕ) → Atomic b c → Atomic b d → ¬ (c ≡ d) → looked_up b c d store ≡ Ok false
  pub W8_absent : (b store : List ℕ) → checked b ≡ accepted → take (used b) store ≡ atomic_store b
      → (c d : ℕ) → c < concepts b → d < concepts b → ¬ (Atomic b c × Atomic b d) → looked_up b c d store ≡ Err (refusal 19 0)
  -- W1's catalogue without its axioms gives 4 pairs; adding (0,4) gains 4, touched 0 and 4.
  pub W8_bytes : written w1 none ≡ w8
  pub W8_W1 : ClassifyGives w8 35 28 4 0 w8_store
  pub W8_change : Changed w8 none axioms8 0 0 4 [] (0 ∷ 4 ∷ []) (0 ∷ 4 ∷ [])
  pub W8_add : ChangeGives w8 [] (0 ∷ 0 ∷ 4 ∷ 0 ∷ []) none axioms8 28 14 (changed 0 0 4 2) (0 ∷ 0 ∷ 4 ∷ 0 ∷ [])
  -- ---- W9, W10, and the limits
  -- W9: n = 7 with bit 7 of any row set: 13; n = 8: no spare bit, whatever the store.
  pub W9 : map (λ (r : ℕ). ask_spare (spare_clear w1 (set_bit (replicate 35 0) (8 * r + 7))) accepted) (rising (λ (r : ℕ). true) 35) ≡ replicate 35 (refused 13 0)
  pub W9_lookup : map (λ (r : ℕ). looked_up w1 0 3 (set_bit w1_store (8 * r + 7))) (rising (λ (r : ℕ). true) 35) ≡ replicate 35 (Err (refusal 13 0))
  pub W9_none : (store : List ℕ) → ask_spare (spare_clear (atomic_concepts 8) store) accepted ≡ accepted
  -- W10: adding an axiom in force at 4,096: 16; a new one: 17; one out and a new one in: accepted.
  pub W10_in_force : FullRefuses true 16
  pub W10_new : FullRefuses false 17
  pub W10_move : FullMoves
  -- All are met, with 512 atomic concepts and the first 8 rows of axioms full: (0,0) is in force, and (8,0) is new.
  pub W10_met_in_force : MeetsFull (atomic_concepts 512) 0 0 full_lent true 16
  pub W10_met_new : MeetsFull (atomic_concepts 512) 8 0 full_lent false 17
  pub W10_met_move : MeetsMove (atomic_concepts 512) 0 0 8 0 full_lent
  -- 19 bytes: 1. n 512 passes: a catalogue of 512 atomic concepts is accepted, whole, and classify of it, which has no axioms, answers 512 pairs and no
  -- link; 513: 3. At every limit a header alone passes 3 too, and is refused by 4.
  pub bytes_19 : (b : List ℕ) → length b ≡ 19 → checked b ≡ refused 1 0
  pub bytes_19_classify : (b : List ℕ) → length b ≡ 19 → ClassifyRefuses b 1 0
  pub n_512 : checked (atomic_concepts 512) ≡ accepted
  pub n_512_classify : ClassifyGives (atomic_concepts 512) 65536 32768 512 0 (atomic_store (atomic_concepts 512))
  pub n_513 : checked (atomic_concepts 513) ≡ refused 3 0
  pub n_513_classify : ClassifyRefuses (atomic_concepts 513) 3 0
  pub limits : checked (header_alone 512 16 64 64 4096) ≡ refused 4 0
