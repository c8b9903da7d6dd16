-- W10: a store of 512 atomic concepts with 4,096 axioms in force, to which one of them is not added (16), nor a new one (17); one out and a new one in is accepted.
use Prim.Native.Nat.{ℕ, zero, suc, ◌+◌, ◌-◌, ◌*◌, ◌/◌, ◌%◌, ◌≤◌, ◌<◌}
use native.Mathlib.Omega.{arith}
use mathlib.Core.Path.{◌≡◌, refl, sym, ap, ap₂, ◌∙◌}
use mathlib.Core.Bool.{true, false}
use mathlib.Core.List.{List, [], ◌++◌}
use lib.Dec.{lit<, lit≤}
use lib.ListN.{length, get_or, replicate, length-append, length-replicate, get_or-replicate, get_or-append}
use lib.Seq.{get_or-append-add}
use lib.Count.{ones}
use Rattle.rows.specs.Bits.{byte_bit, bit, count_below, count_bits, some_below, place}
use Rattle.rows.proofs.ByteBits.{byte_bit-zero}
use Rattle.rows.proofs.Counting.{count_ext, count_skip, count_byte}
use Rattle.catalogue.specs.Words.{word, bytes_of}
use Rattle.catalogue.specs.Header.{concepts}
use Rattle.layout.specs.Parts.{width, used, axiom_rows, in_force, spare_clear}
use Rattle.layout.proofs.StoreRows.{rows_long, bit_axiom_rows, in_force_bit, no_spare}
use Rattle.store.specs.Written.{axiom_count}
use Rattle.store.specs.Checks.{every, numbers_below}
use Rattle.store.specs.Examples.{atomic_header, atomic_concepts}
use Rattle.store.proofs.AtomicConcepts.{atomic_count}
use Rattle.store.proofs.Counts.{axiom_count_lem}
use Rattle.change_contract.specs.Lists.{axioms_in, left_in, right_in, among, sides_below, sides_in}
use Rattle.change_contract.specs.Questions.{is_whole, repeats, none_twice}
use Rattle.examples_w8_w10.specs.Stores.{full_store, full_lent}
use Rattle.change_contract.specs.Single.{one}
use Rattle.examples_w8_w10.specs.Full.{Full, MeetsFull, MeetsMove}
use Rattle.examples_w8_w10.proofs.Full.{w10_in_force, w10_new, w10_move}
use Rattle.examples_w8_w10.proofs.Limits.{most_accepted, most_used, most_work}

-- ---- the store's bytes and bits

store_long : length full_store ≡ 65536
unfolding full_store
store_long = length-append {A = ℕ} (replicate 512 255) (replicate 65024 0) ∙ ap₂ ◌+◌ (length-replicate {A = ℕ} 512 255) (length-replicate {A = ℕ} 65024 0)

full_byte : (i : ℕ) → i < 512 → get_or full_store i 0 ≡ 255
unfolding full_store
full_byte i l =
    get_or-append (replicate 512 255) (replicate 65024 0) 0 i (omega (arith, length-replicate {A = ℕ} 512 255))
    ∙ get_or-replicate 512 i 255 0 l

clear_byte : (i : ℕ) → i < 65024 → get_or full_store (512 + i) 0 ≡ 0
unfolding full_store
clear_byte i l =
    ap (λ (k : ℕ). get_or full_store (k + i) 0) (sym (length-replicate {A = ℕ} 512 255))
    ∙ get_or-append-add (replicate 512 255) (replicate 65024 0) i 0
    ∙ get_or-replicate 65024 i 0 0 l

clear_bit_lem : (j : ℕ) → 4096 ≤ j → j < 8 * 65536 → bit full_store j ≡ false
unfolding bit
clear_bit_lem j low high =
    ap (λ (i : ℕ). byte_bit (get_or full_store i 0) (j % 8)) (let z : j / 8 ≡ 512 + (j / 8 - 512) = omega arith in z)
    ∙ ap (λ (x : ℕ). byte_bit x (j % 8)) (clear_byte (j / 8 - 512) (omega arith))
    ∙ byte_bit-zero (j % 8)

-- ---- its axioms

ones_full : ones 255 ≡ 8
unfolding ones
ones_full = refl

-- Eight to a full byte.
full_count : (i : ℕ) → i ≤ 512 → count_below (bit full_store) (8 * i) ≡ 8 * i
unfolding count_below
full_count zero l = refl
full_count (suc i) l =
    let own : get_or full_store i 0 ≡ 255 = full_byte i l in
    ap (λ (k : ℕ). count_below (bit full_store) (8 * k)) (let z : suc i ≡ i + 1 = omega arith in z)
    ∙ count_byte full_store i (omega (arith, own))
    ∙ ap₂ ◌+◌ (full_count i (omega arith)) (ap ones own ∙ ones_full)
    ∙ (let z : 8 * i + 8 ≡ 8 * suc i = omega arith in z)

most_width : width (atomic_concepts 512) ≡ 64
unfolding atomic_concepts atomic_header bytes_of word concepts width
most_width = refl

long : used (atomic_concepts 512) ≤ length full_store
long = omega (arith, most_used, store_long)

clear : spare_clear (atomic_concepts 512) full_store ≡ true
clear = no_spare (atomic_concepts 512) full_store (ap (λ (n : ℕ). n % 8) (atomic_count 512))

rows_end : concepts (atomic_concepts 512) * width (atomic_concepts 512) ≡ 32768
rows_end = ap₂ ◌*◌ (atomic_count 512) most_width

count : axiom_count (atomic_concepts 512) (in_force (atomic_concepts 512) full_store) ≡ 4096
unfolding count_bits
count =
    let b = atomic_concepts 512 in
    sym (axiom_count_lem b full_store long clear)
    ∙ ap (λ (k : ℕ). count_below (bit (axiom_rows b full_store)) (8 * k)) (rows_long b full_store long ∙ rows_end)
    ∙ count_ext (bit (axiom_rows b full_store)) (bit full_store) (8 * 32768) (λ j l. bit_axiom_rows b full_store j (omega (arith, rows_end)))
    ∙ count_skip (bit full_store) 4096 (8 * 32768) (lit≤ tt) (λ j low high. clear_bit_lem j low (omega arith))
    ∙ full_count 512 (lit≤ tt)

-- Axiom (c, 0) is the first bit of row c.
first_in_row : (c : ℕ) → c < 512 → in_force (atomic_concepts 512) full_store c 0 ≡ bit full_store (place 64 c 0)
first_in_row c l =
    let b = atomic_concepts 512 in
    in_force_bit b full_store c 0 (omega (arith, atomic_count 512)) (omega (arith, most_width))
    ∙ ap (λ (w : ℕ). bit full_store (place w c 0)) most_width

there : in_force (atomic_concepts 512) full_store 0 0 ≡ true
unfolding bit byte_bit place
there = first_in_row 0 (lit< tt) ∙ ap (λ (x : ℕ). byte_bit x 0) (full_byte 0 (lit< tt))

not_there : in_force (atomic_concepts 512) full_store 8 0 ≡ false
unfolding place
not_there = first_in_row 8 (lit< tt) ∙ clear_bit_lem 4096 (lit≤ tt) (lit< tt)

-- ---- the calls

full : (withdrawn added : List ℕ) → is_whole (length withdrawn) ≡ true → is_whole (length added) ≡ true → none_twice (withdrawn ++ added) ≡ true
    → numbers_below (atomic_concepts 512) (sides_in (withdrawn ++ added)) ≡ true → Full (atomic_concepts 512) withdrawn added full_lent
full withdrawn added p q once numbers =
    record {
      catalogue = most_accepted;
      store_long = long;
      work_long = omega (arith, most_work, length-replicate {A = ℕ} 32768 0);
      list_long = omega (arith, atomic_count 512, length-replicate {A = ℕ} 1024 0);
      withdrawn_whole = p;
      added_whole = q;
      once = once;
      clear = clear;
      full = count;
      numbers = numbers;
    }

-- What the three changes ask of their lists.
first_full : Full (atomic_concepts 512) [] (one 0 0) full_lent
unfolding atomic_concepts atomic_header bytes_of word concepts some_below every axioms_in left_in right_in among sides_below sides_in is_whole repeats none_twice
first_full = full [] (one 0 0) refl refl refl refl

new_full : Full (atomic_concepts 512) [] (one 8 0) full_lent
unfolding first_full
new_full = full [] (one 8 0) refl refl refl refl

move_full : Full (atomic_concepts 512) (one 0 0) (one 8 0) full_lent
unfolding first_full
move_full = full (one 0 0) (one 8 0) refl refl refl refl

pub w10_met_in_force : MeetsFull (atomic_concepts 512) 0 0 full_lent true 16
w10_met_in_force = record { full = first_full; there_is = there; refuses = w10_in_force (atomic_concepts 512) 0 0 full_lent first_full there }

pub w10_met_new : MeetsFull (atomic_concepts 512) 8 0 full_lent false 17
w10_met_new = record { full = new_full; there_is = not_there; refuses = w10_new (atomic_concepts 512) 8 0 full_lent new_full not_there }

pub w10_met_move : MeetsMove (atomic_concepts 512) 0 0 8 0 full_lent
w10_met_move =
    record { full = move_full; there = there; not_there = not_there; keeps = w10_move (atomic_concepts 512) 0 0 8 0 full_lent move_full there not_there }
