-- One record more, and numbers that are passed over, in a list of axiom records.
use mathlib.Core.Path.{◌≡◌, refl, sym, ap, ap₂, ◌∙◌, subst}
use mathlib.Core.Bool.{Bool, true, false}
use mathlib.Core.List.{List, [], ◌∷◌, ◌++◌, append_assoc}
use denote.Ref.{Bor}
use Rattle.std.proofs.Common.{Option, Some, None}
use Prim.Native.Nat.{ℕ, suc, ◌+◌, ◌-◌, ◌*◌, ◌/◌, ◌%◌, ◌≤◌, ◌<◌}
use native.Mathlib.Omega.{arith}
use native.Mathlib.Numerals.{add-one}
use lib.ListN.{length, take, set, length-set, length-append}
use lib.Seq.{take-suc-set}
use Rattle.catalogue.specs.Words.{bytes_of}
use Rattle.store.specs.Written.{rising, sides_of, set_word}
use Rattle.store.proofs.Rising.{rising_pass, rising_skip}
use Rattle.store.proofs.Written.{number-left, number-right}
use Rattle.rows.specs.Bits.{bit, count_below}
use Rattle.rows.specs.Walking.{StepsOver}
use Rattle.rows.specs.declared.walking.MarkedNumbers.{MarkedNumbers}
use Rattle.rows.proofs.Counting.{count_pass, count_skip, count_up}
use Rattle.rows.proofs.Walks.{OnWalk, Turn, on_walk_first, on_walk_next, on_walk_last}
use Rattle.writing.specs.Records.{Recorded, WritesRow}

bytes_append : (xs ys : List ℕ) → bytes_of (xs ++ ys) ≡ bytes_of xs ++ bytes_of ys
unfolding bytes_of
bytes_append [] ys = refl
bytes_append (x ∷ xs) ys = ap (λ (l : List ℕ). x % 256 ∷ x / 256 ∷ l) (bytes_append xs ys)

sides_append : (n : ℕ) (ps qs : List ℕ) → sides_of n (ps ++ qs) ≡ sides_of n ps ++ sides_of n qs
unfolding sides_of
sides_append n [] qs = refl
sides_append n (p ∷ ps) qs = ap (λ (l : List ℕ). p / n ∷ p % n ∷ l) (sides_append n ps qs)

-- Four elements written one after the other.
take_four : (l : List ℕ) (i x y z v : ℕ) → suc (suc (suc i)) < length l → take (suc (suc (suc (suc i)))) (set (set (set (set l i x) (suc i) y) (suc (suc i)) z) (suc (suc (suc i))) v) ≡ take i l ++ (x ∷ y ∷ z ∷ v ∷ [])
take_four l i x y z v h =
    take-suc-set (set (set (set l i x) (suc i) y) (suc (suc i)) z) (suc (suc (suc i))) v (simp length-set (omega arith))
    ∙ ap (λ (t : List ℕ). t ++ (v ∷ [])) (take-suc-set (set (set l i x) (suc i) y) (suc (suc i)) z (simp length-set (omega arith)))
    ∙ ap (λ (t : List ℕ). (t ++ (z ∷ [])) ++ (v ∷ [])) (take-suc-set (set l i x) (suc i) y (simp length-set (omega arith)))
    ∙ ap (λ (t : List ℕ). ((t ++ (y ∷ [])) ++ (z ∷ [])) ++ (v ∷ [])) (take-suc-set l i x (omega arith))
    ∙ simp append_assoc

record_bytes : (out : List ℕ) (at c d : ℕ) → at + 3 < length out → take (at + 4) (set_word (set_word out at c) (at + 2) d) ≡ take at out ++ (c % 256 ∷ c / 256 ∷ d % 256 ∷ d / 256 ∷ [])
unfolding set_word
record_bytes out at c d h =
    let one : at + 1 ≡ suc at = omega arith in
    let two : at + 2 ≡ suc (suc at) = omega arith in
    let three : at + 2 + 1 ≡ suc (suc (suc at)) = omega arith in
    let four : at + 4 ≡ suc (suc (suc (suc at))) = omega arith in
    ap₂ (λ (k j : ℕ). take k (set (set (set (set out at (c % 256)) (at + 1) (c / 256)) (at + 2) (d % 256)) j (d / 256))) four three
    ∙ ap₂ (λ (k j : ℕ). take (suc (suc (suc (suc at)))) (set (set (set (set out at (c % 256)) k (c / 256)) j (d % 256)) (suc (suc (suc at))) (d / 256))) one two
    ∙ take_four out at (c % 256) (c / 256) (d % 256) (d / 256) (omega arith)

length_words : (out : List ℕ) (at c d : ℕ) → length (set_word (set_word out at c) (at + 2) d) ≡ length out
unfolding set_word
length_words out at c d = simp length-set

-- One record more.
pub recorded_more : (n : ℕ) (test : ℕ → Bool) (c d : ℕ) (head out : List ℕ) (at : ℕ) → d < n → test (c * n + d) ≡ true → at + 3 < length out → Recorded n test (c * n + d) head out at → Recorded n test (c * n + (d + 1)) head (set_word (set_word out at c) (at + 2) d) (at + 4)
unfolding bytes_of sides_of
recorded_more n test c d head out at l t h r =
    let p = c * n + d in
    let next : c * n + (d + 1) ≡ suc p = omega arith in
    let list : rising test (c * n + (d + 1)) ≡ rising test p ++ (p ∷ []) = ap (rising test) next ∙ rising_pass test p t in
    let longer : length (rising test (c * n + (d + 1))) ≡ length (rising test p) + 1 = ap length list ∙ length-append (rising test p) (p ∷ []) in
    let sides : bytes_of (sides_of n (p ∷ [])) ≡ (c % 256 ∷ c / 256 ∷ d % 256 ∷ d / 256 ∷ []) =
    ap₂ (λ (x y : ℕ). x % 256 ∷ x / 256 ∷ y % 256 ∷ y / 256 ∷ []) (number-left n c d l) (number-right n c d l)
    in
    record {
      ends = omega (arith, r.ends, longer);
      bytes =
          record_bytes out at c d h
          ∙ ap (λ (t : List ℕ). t ++ (c % 256 ∷ c / 256 ∷ d % 256 ∷ d / 256 ∷ [])) r.bytes
          ∙ append_assoc head (bytes_of (sides_of n (rising test p))) (c % 256 ∷ c / 256 ∷ d % 256 ∷ d / 256 ∷ [])
          ∙ ap (λ (t : List ℕ). head ++ t)
          (ap (λ (t : List ℕ). bytes_of (sides_of n (rising test p)) ++ t) (sym sides)
          ∙ sym (bytes_append (sides_of n (rising test p)) (sides_of n (p ∷ [])))
          ∙ ap bytes_of (sym (sides_append n (rising test p) (p ∷ [])))
          ∙ ap (λ (ps : List ℕ). bytes_of (sides_of n ps)) (sym list));
    }

-- Numbers that fail the test are passed over.
pub recorded_skip : (n : ℕ) (test : ℕ → Bool) (p q : ℕ) (head out : List ℕ) (at : ℕ) → p ≤ q → ((i : ℕ) → p ≤ i → i < q → test i ≡ false) → Recorded n test p head out at → Recorded n test q head out at
recorded_skip n test p q head out at l none r =
    let same : rising test q ≡ rising test p = rising_skip test p q l none in
    record {
      ends = subst (λ (ps : List ℕ). at ≡ length head + 4 * length ps) (sym same) r.ends;
      bytes = subst (λ (ps : List ℕ). take at out ≡ head ++ bytes_of (sides_of n ps)) (sym same) r.bytes;
    }

-- ---- the loop over one row

-- The records of the right sides that are passed are written.
pub record RowState (row : List ℕ) (n left : ℕ) (out₀ : List ℕ) (start : ℕ) (out : List ℕ) (at : ℕ) (i : MarkedNumbers) : Type 0 where
  pub on_walk : OnWalk row n i
  pub long : length out ≡ length out₀
  pub ends : at ≡ start + 4 * count_below (bit row) i.from
  pub recorded : (test : ℕ → Bool) (head : List ℕ) → ((d : ℕ) → d < n → test (left * n + d) ≡ bit row d) → Recorded n test (left * n) head out₀ start → Recorded n test (left * n + i.from) head out at

-- Numbers that are not marked are passed over.
shifted : (row : List ℕ) (n left : ℕ) (test : ℕ → Bool) → ((d : ℕ) → d < n → test (left * n + d) ≡ bit row d) → (a b : ℕ) → b ≤ n → ((i : ℕ) → a ≤ i → i < b → bit row i ≡ false) → (i : ℕ) → left * n + a ≤ i → i < left * n + b → test i ≡ false
shifted row n left test agree a b l none i p q =
    let d = i - left * n in
    let there : left * n + d ≡ i = omega arith in
    ap test (sym there) ∙ agree d (omega arith) ∙ none d (omega arith) (omega arith)

pub row_begins : {row : Bor (List ℕ)} {n : ℕ} {i m : MarkedNumbers} (left : ℕ) (out : List ℕ) (start : ℕ) → i ≡ m → (m.row ≡ row) × (m.end ≡ n) × (m.from ≡ 0) → RowState row.now n left out start out start i
unfolding count_below
row_begins {row} {n} {i} left out start e f =
    let first = on_walk_first e f in
    record {
      on_walk = first.0;
      long = refl;
      ends = let none : count_below (bit row.now) i.from ≡ 0 = ap (count_below (bit row.now)) first.1 in omega (arith, none);
      recorded = λ test head agree r. subst (λ (k : ℕ). Recorded n test k head out start) (let z : left * n ≡ left * n + i.from = omega (arith, first.1) in z) r;
    }

-- The number at hand is counted after those passed.
counted : {row : List ℕ} {n from right : ℕ} {t : MarkedNumbers} → Turn row n from right t → count_below (bit row) (right + 1) ≡ suc (count_below (bit row) from)
counted {row} {from = from} {right = right} turn =
    ap (count_below (bit row)) (add-one right)
    ∙ count_pass (bit row) right turn.is_set
    ∙ ap suc (count_skip (bit row) from right turn.on turn.none_between)

-- There is room for its record.
pub row_room : {row out₀ out : List ℕ} {n left start at right : ℕ} {i t : MarkedNumbers} {r : Option ℕ} → RowState row n left out₀ start out at i → StepsOver i r t → r ≡ Some right → start + 4 * count_below (bit row) n ≤ length out₀ → (at + 3 < length out) × (right < n)
row_room {row} {n = n} {right = right} s step e room =
    let turn = on_walk_next s.on_walk step e in
    (omega (arith, s.ends, s.long, room, counted turn, count_up (bit row) (right + 1) n (omega (arith, turn.below))), turn.below)

pub row_goes_on : {row out₀ out out' : List ℕ} {n left start at right : ℕ} {i t : MarkedNumbers} {r : Option ℕ} → RowState row n left out₀ start out at i → StepsOver i r t → r ≡ Some right → start + 4 * count_below (bit row) n ≤ length out₀ → out' ≡ set_word (set_word out at left) (at + 2) right
    → RowState row n left out₀ start out' (at + 4) t
row_goes_on {row} {out = out} {out' = out'} {n = n} {left = left} {at = at} {right = right} {i = i} s step e room put =
    let turn = on_walk_next s.on_walk step e in
    record {
      on_walk = turn.on_walk;
      long = ap length put ∙ length_words out at left right ∙ s.long;
      ends = omega (arith, s.ends, counted turn, ap (count_below (bit row)) turn.past);
      recorded = λ test head agree r.
          let passed = recorded_skip n test (left * n + i.from) (left * n + right) head out at (omega (arith, turn.on)) (shifted row n left test agree i.from right (omega (arith, turn.below)) turn.none_between) (s.recorded test head agree r) in
          let one = recorded_more n test left right head out at turn.below (agree right turn.below ∙ turn.is_set) (row_room s step e room).0 passed in
          rw (put, turn.past) one;
    }

pub row_ends : {row out₀ out : List ℕ} {n left start at : ℕ} {i t : MarkedNumbers} {r : Option ℕ} → RowState row n left out₀ start out at i → StepsOver i r t → r ≡ None → WritesRow row n left out₀ start out at
row_ends {row} {out = out} {n = n} {left = left} {at = at} {i = i} s step e =
    let none = on_walk_last s.on_walk step e in
    record {
      long = s.long;
      ends = omega (arith, s.ends, count_skip (bit row) i.from n s.on_walk.within none);
      recorded = λ test head agree r. recorded_skip n test (left * n + i.from) (left * n + n) head out at (omega (arith, s.on_walk.within)) (shifted row n left test agree i.from n (omega arith) none) (s.recorded test head agree r);
    }
