-- Laws of a list filled from the front: one number more, two bytes after the others; in the end all that pass a test, rising; and its entries.
use Prim.Native.Nat.{ℕ, zero, suc, ◌+◌, ◌*◌, ◌/◌, ◌%◌, ◌≤◌, ◌<◌}
use native.Mathlib.Nat.{not-suc-le-zero, le_of_suc-le-suc}
use native.Mathlib.Numerals.{add-one}
use native.Mathlib.Omega.{arith}
use mathlib.Core.Path.{◌≡◌, refl, sym, ap, ap₂, subst, ◌∙◌}
use mathlib.Core.Bool.{Bool, true}
use mathlib.Core.List.{List, [], ◌∷◌, ◌++◌}
use denote.Ref.{Bor}
use Rattle.std.proofs.Common.{Option, Some, None}
use lib.ListN.{length, get_or, set, drop, length-append}
use lib.Seq.{drop-cons}
use Rattle.booleans.proofs.Booleans.{by_bool}
use Rattle.rows.specs.Bits.{bit}
use Rattle.rows.specs.Walking.{StepsOver}
use Rattle.rows.specs.declared.walking.MarkedNumbers.{MarkedNumbers}
use Rattle.rows.proofs.Counting.{count_le}
use Rattle.rows.proofs.Walks.{OnWalk, on_walk_first, on_walk_next, on_walk_last}
use Rattle.catalogue.specs.Words.{word, bytes_of}
use Rattle.store.specs.Written.{rising, set_word}
use Rattle.store.proofs.Rising.{rising_pass, rising_fail, rising_skip, length-rising}
use Rattle.store.proofs.Records.{word_later}
use Rattle.number_lists.specs.Lists.{with_front, Filled, Entered}

-- A number written past the first two bytes.
set_word_next : (u v : ℕ) (l : List ℕ) (i j x : ℕ) → i ≡ suc (suc j) → set_word (u ∷ v ∷ l) i x ≡ u ∷ v ∷ set_word l j x
unfolding set_word
set_word_next u v l i j x e =
    let next : i + 1 ≡ suc (suc (j + 1)) = omega arith in
    ap₂ (λ (p q : ℕ). set (set (u ∷ v ∷ l) p (x % 256)) q (x / 256)) e next

-- A number written after others, in the place of two bytes.
set_word_after : (names : List ℕ) (u v : ℕ) (rest : List ℕ) (x : ℕ) → set_word (bytes_of names ++ (u ∷ v ∷ rest)) (2 * length names) x ≡ bytes_of (names ++ (x ∷ [])) ++ rest
unfolding bytes_of set_word
set_word_after [] u v rest x = refl
set_word_after (n ∷ names) u v rest x =
    set_word_next (n % 256) (n / 256) (bytes_of names ++ (u ∷ v ∷ rest)) (2 * suc (length names)) (2 * length names) x (omega arith)
    ∙ ap (λ (l : List ℕ). n % 256 ∷ n / 256 ∷ l) (set_word_after names u v rest x)

-- One name more in front.
front_more : (names list : List ℕ) (x : ℕ) → 2 * length names + 1 < length list → set_word (with_front names list) (2 * length names) x ≡ with_front (names ++ (x ∷ [])) list
unfolding with_front
front_more names list x l =
    let k = 2 * length names in
    let two : drop k list ≡ get_or list k 0 ∷ get_or list (suc k) 0 ∷ drop (suc (suc k)) list =
    drop-cons list k 0 (omega arith) ∙ ap (λ (r : List ℕ). get_or list k 0 ∷ r) (drop-cons list (suc k) 0 (omega arith))
    in
    let long : suc (suc k) ≡ 2 * length (names ++ (x ∷ [])) = omega (arith, length-append names (x ∷ [])) in
    ap (λ (r : List ℕ). set_word (bytes_of names ++ r) k x) two
    ∙ set_word_after names (get_or list k 0) (get_or list (suc k) 0) (drop (suc (suc k)) list) x
    ∙ ap (λ (j : ℕ). bytes_of (names ++ (x ∷ [])) ++ drop j list) long

-- ---- the loop

pub filled_none : (test : ℕ → Bool) (list : List ℕ) → Filled (rising test 0) list 0 list
unfolding rising with_front bytes_of
filled_none test list = record { counted = refl; entries = refl }

pub filled_most : (test : ℕ → Bool) (k : ℕ) {list after : List ℕ} {count : ℕ} → Filled (rising test k) list count after → count ≤ k
filled_most test k f = omega (arith, f.counted, length-rising test k, count_le test k)

pub filled_step : (test : ℕ → Bool) (k : ℕ) (list now after : List ℕ) (count r : ℕ) {on : Bool} → 2 * count + 1 < length list → Filled (rising test k) list count now → on ≡ test k → Entered on k count now r after → Filled (rising test (k + 1)) list r after
filled_step test k list now after count r room f is e =
    subst (λ (j : ℕ). Filled (rising test j) list r after) (sym (add-one k))
    (by_bool (test k)
    (λ t.
    let (counted, written) = e.enters (is ∙ t) in
    subst (λ (names : List ℕ). Filled names list r after) (sym (rising_pass test k t))
    (record {
      counted = counted ∙ ap (λ (n : ℕ). n + 1) f.counted ∙ sym (length-append (rising test k) (k ∷ []));
      entries = written
          ∙ ap₂ (λ (l : List ℕ) (n : ℕ). set_word l (2 * n) k) f.entries f.counted
          ∙ front_more (rising test k) list k (omega (arith, f.counted));
    }))
    (λ t.
    let (counted, kept) = e.skips (is ∙ t) in
    subst (λ (names : List ℕ). Filled names list r after) (sym (rising_fail test k t))
    (record { counted = counted ∙ f.counted; entries = kept ∙ f.entries })))

-- A loop over the marked numbers of a row: those that are passed stand in front.
pub record Walked (row : List ℕ) (n : ℕ) (list : List ℕ) (i : MarkedNumbers) (count : ℕ) (now : List ℕ) : Type 0 where
  pub on_walk : OnWalk row n i
  pub filled : Filled (rising (bit row) i.from) list count now

-- Nothing is entered before the first of them.
pub walked_none : {row : Bor (List ℕ)} {n : ℕ} {i m : MarkedNumbers} (list : List ℕ) → i ≡ m → (m.row ≡ row) × (m.end ≡ n) × (m.from ≡ 0) → Walked row.now n list i 0 list
walked_none {row} list e f =
    let first = on_walk_first e f in
    record { on_walk = first.0; filled = subst (λ (k : ℕ). Filled (rising (bit row.now) k) list 0 list) (sym first.1) (filled_none (bit row.now) list) }

-- There is room for the number at hand, and it is entered.
pub walked_room : {row list now : List ℕ} {n c count : ℕ} {i t : MarkedNumbers} {r : Option ℕ} → 2 * n ≤ length list → Walked row n list i count now → StepsOver i r t → r ≡ Some c → (2 * count + 1 < length list) × (c < n)
walked_room {row} {i = i} room w step e =
    let turn = on_walk_next w.on_walk step e in
    (omega (arith, filled_most (bit row) i.from w.filled, turn.on, turn.below), turn.below)

pub walked_more : {row list now after : List ℕ} {n c count k : ℕ} {i t : MarkedNumbers} {r : Option ℕ} → 2 * n ≤ length list → Walked row n list i count now → StepsOver i r t → r ≡ Some c → Entered true c count now k after → Walked row n list t k after
walked_more {row} {list} {now} {after} {n} {c} {count} {k} {i} room w step e put =
    let turn = on_walk_next w.on_walk step e in
    let passed : Filled (rising (bit row) c) list count now = subst (λ (names : List ℕ). Filled names list count now) (sym (rising_skip (bit row) i.from c turn.on turn.none_between)) w.filled in
    record {
      on_walk = turn.on_walk;
      filled = subst (λ (j : ℕ). Filled (rising (bit row) j) list k after) (sym turn.past)
          (filled_step (bit row) c list now after count k (walked_room room w step e).0 passed (sym turn.is_set) put);
    }

-- At the end all of them are.
pub walked_all : {row list now : List ℕ} {n count : ℕ} {i t : MarkedNumbers} {r : Option ℕ} → Walked row n list i count now → StepsOver i r t → r ≡ None → Filled (rising (bit row) n) list count now
walked_all {row} {list} {now} {n} {count} {i} w step e =
    subst (λ (names : List ℕ). Filled names list count now) (sym (rising_skip (bit row) i.from n w.on_walk.within (on_walk_last w.on_walk step e))) w.filled

-- ---- what the list says afterwards

front_word : (names rest : List ℕ) (i : ℕ) → i < length names → word (bytes_of names ++ rest) (2 * i) ≡ get_or names i 0
unfolding word bytes_of
front_word [] rest i l = absurd (not-suc-le-zero l)
front_word (n ∷ names) rest zero l = omega arith
front_word (n ∷ names) rest (suc i) l =
    word_later (n % 256) (n / 256) (bytes_of names ++ rest) (2 * suc i) (2 * i) (omega arith) ∙ front_word names rest i (le_of_suc-le-suc l)

-- Number i of those that stand in front.
pub front_entry : (names list : List ℕ) (i : ℕ) → i < length names → word (with_front names list) (2 * i) ≡ get_or names i 0
unfolding with_front
front_entry names list i l = front_word names (drop (2 * length names) list) i l

pub filled_entry : {names list after : List ℕ} {count : ℕ} → Filled names list count after → (i : ℕ) → i < count → word after (2 * i) ≡ get_or names i 0
filled_entry {names} {list} f i l = ap (λ (xs : List ℕ). word xs (2 * i)) f.entries ∙ front_entry names list i (subst (λ (k : ℕ). i < k) f.counted l)

-- Tests that agree below k list the same numbers.
pub rising_ext : (f g : ℕ → Bool) (k : ℕ) → ((j : ℕ) → j < k → f j ≡ g j) → rising f k ≡ rising g k
unfolding rising
rising_ext f g zero e = refl
rising_ext f g (suc k) e =
    let before = rising_ext f g k (λ j l. e j (omega arith)) in
    let last = e k (omega arith) in
    by_bool (f k)
    (λ t. rising_pass f k t ∙ ap (λ (ps : List ℕ). ps ++ (k ∷ [])) before ∙ sym (rising_pass g k (sym last ∙ t)))
    (λ t. rising_fail f k t ∙ before ∙ sym (rising_fail g k (sym last ∙ t)))
