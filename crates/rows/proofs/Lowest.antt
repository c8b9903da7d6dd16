-- What the lowest set bit is: the laws that the search closes by, and those that its callers use.
use mathlib.Core.Path.{◌≡◌, refl, sym, ap, ◌∙◌, subst}
use mathlib.Core.Bool.{Bool, true, false, false≢true}
use mathlib.Core.List.{List}
use Prim.Native.Nat.{ℕ, zero, suc, ◌+◌, ◌-◌, ◌*◌, ◌/◌, ◌%◌, ◌^◌, ◌≤◌, ◌<◌}
use native.Mathlib.Nat.{lt_of_le_of_lt, div-one}
use native.Mathlib.Omega.{arith}
use native.Mathlib.Decide.{dec_lt, ℕ_discrete}
use lib.ListN.{length, get_or}
use lib.Dec.{lit<}
use lib.Count.{count_trailing_zeros, trailing_le}
use lib.Pow.{shr_le}
use Rattle.rows.specs.Bits.{bit, byte_bit, any_bit}
use Rattle.rows.specs.Next.{lowest, next_bit}
use Rattle.rows.specs.Words.{number_at}
use Rattle.std.proofs.Common.{Option, Some, None}
use Rattle.rows.proofs.ByteBits.{byte_bit-zero, byte_bit_shift, byte_bit_past, trailing_low, trailing_at, trailing_lt}
use Rattle.rows.proofs.Bits.{bit_past, bit_at}
use Rattle.rows.proofs.Counting.{any_set, any_clear}
use Rattle.rows.proofs.Words.{BytesFrom, number_lt, number_bit}

-- ---- one step of the search

lowest_here : (test : ℕ → Bool) (i k : ℕ) → test i ≡ true → lowest test i (suc k) ≡ Some i
unfolding lowest
lowest_here test i k h = rw (h, lowest)

lowest_on : (test : ℕ → Bool) (i k : ℕ) → test i ≡ false → lowest test i (suc k) ≡ lowest test (suc i) k
unfolding lowest
lowest_on test i k h = rw (h, lowest)

-- ---- what is found

found : (test : ℕ → Bool) (k i j : ℕ) → i ≤ j → j < i + k → test j ≡ true → ((a : ℕ) → i ≤ a → a < j → test a ≡ false) → lowest test i k ≡ Some j
found test zero i j l h t below = let z : ⊥ = omega arith in absurd z
found test (suc k) i j l h t below =
    elim (ℕ_discrete i j) [
      | yes e ↦ lowest_here test i k (ap test e ∙ t) ∙ ap Some e
      | no d ↦ lowest_on test i k (below i (omega arith) (omega arith)) ∙ found test k (suc i) j (omega arith) (omega arith) t (λ a p q. below a (omega arith) q)
    ]

missed : (test : ℕ → Bool) (k i : ℕ) → ((a : ℕ) → i ≤ a → a < i + k → test a ≡ false) → lowest test i k ≡ None
unfolding lowest
missed test zero i none = refl
missed test (suc k) i none =
    lowest_on test i k (none i (omega arith) (omega arith))
    ∙ missed test k (suc i) (λ a p q. none a (omega arith) (omega arith))

pub next_at : (row : List ℕ) (i j : ℕ) → i ≤ j → j < 8 * length row → bit row j ≡ true → ((a : ℕ) → i ≤ a → a < j → bit row a ≡ false) → next_bit row i ≡ Some j
unfolding next_bit
next_at row i j l h t below = found (bit row) (8 * length row - i) i j l (omega arith) t below

pub next_none : (row : List ℕ) (i : ℕ) → ((a : ℕ) → i ≤ a → bit row a ≡ false) → next_bit row i ≡ None
unfolding next_bit
next_none row i none = missed (bit row) (8 * length row - i) i (λ a p q. none a p)

-- ---- what callers learn

record LowestAt (test : ℕ → Bool) (i k j : ℕ) : Type 0 where
  from : i ≤ j
  inside : j < i + k
  is_set : test j ≡ true
  none_before : (a : ℕ) → i ≤ a → a < j → test a ≡ false

at_inj : (a b : ℕ) → Some a ≡ Some b → a ≡ b
at_inj a b e = cc

nothing_at : (j : ℕ) → None ≡ Some j → ⊥
nothing_at j e = let z : ◌≡◌ {A = ℕ} 0 1 = cc in omega arith

step_at : (test : ℕ → Bool) (k i j : ℕ) → lowest test i (suc k) ≡ Some j → (lowest test (suc i) k ≡ Some j → LowestAt test (suc i) k j) → (b : Bool) → test i ≡ b → LowestAt test i (suc k) j
step_at test k i j e ih true t =
    let s : i ≡ j = at_inj i j (sym (lowest_here test i k t) ∙ e) in
    record { from = omega arith; inside = omega arith; is_set = ap test (sym s) ∙ t; none_before = λ a p q. absurd (let z : ⊥ = omega arith in z) }
step_at test k i j e ih false t =
    let r : LowestAt test (suc i) k j = ih (sym (lowest_on test i k t) ∙ e) in
    record {
      from = omega (arith, r.from);
      inside = omega (arith, r.inside);
      is_set = r.is_set;
      none_before = λ a p q.
          elim (ℕ_discrete i a) [
            | yes s ↦ ap test (sym s) ∙ t
            | no d ↦ r.none_before a (omega arith) q
          ];
    }

found_at : (test : ℕ → Bool) (k i j : ℕ) → lowest test i k ≡ Some j → LowestAt test i k j
unfolding lowest
found_at test zero i j e = absurd (nothing_at j e)
found_at test (suc k) i j e = step_at test k i j e (λ h. found_at test k (suc i) j h) (test i) refl

step_none : (test : ℕ → Bool) (k i : ℕ) → lowest test i (suc k) ≡ None → (lowest test (suc i) k ≡ None → (a : ℕ) → suc i ≤ a → a < suc i + k → test a ≡ false) → (b : Bool) → test i ≡ b → (a : ℕ) → i ≤ a → a < i + suc k → test a ≡ false
step_none test k i e ih true t a p q = absurd (nothing_at i (sym e ∙ lowest_here test i k t))
step_none test k i e ih false t a p q =
    elim (ℕ_discrete i a) [
      | yes s ↦ ap test (sym s) ∙ t
      | no d ↦ ih (sym (lowest_on test i k t) ∙ e) a (omega arith) (omega arith)
    ]

found_none : (test : ℕ → Bool) (k i : ℕ) → lowest test i k ≡ None → (a : ℕ) → i ≤ a → a < i + k → test a ≡ false
found_none test zero i e a p q = let z : ⊥ = omega arith in absurd z
found_none test (suc k) i e a p q = step_none test k i e (λ h. found_none test k (suc i) h) (test i) refl a p q

-- The bit found is set, lies from i on and within the row, and none between is set.
pub record NextAt (row : List ℕ) (i j : ℕ) : Type 0 where
  pub from : i ≤ j
  pub inside : j < 8 * length row
  pub is_set : bit row j ≡ true
  pub none_before : (a : ℕ) → i ≤ a → a < j → bit row a ≡ false

pub at_next : (row : List ℕ) (i j : ℕ) → next_bit row i ≡ Some j → NextAt row i j
unfolding next_bit
at_next row i j e =
    let r : LowestAt (bit row) i (8 * length row - i) j = found_at (bit row) (8 * length row - i) i j e in
    record { from = r.from; inside = omega (arith, r.from, r.inside); is_set = r.is_set; none_before = r.none_before }

-- Where nothing is found, no bit from i on is set.
pub none_next : (row : List ℕ) (i : ℕ) → next_bit row i ≡ None → (a : ℕ) → i ≤ a → bit row a ≡ false
unfolding next_bit
none_next row i e a p =
    elim (dec_lt a (8 * length row)) [
      | yes l ↦ found_none (bit row) (8 * length row - i) i e a p (omega arith)
      | no g ↦ bit_past row a (omega arith)
    ]

-- ---- past what is clear, and the lowest bit of a byte or of several

-- A search passes over clear bits.
pub next_skip : (row : List ℕ) (i j : ℕ) → i ≤ j → ((a : ℕ) → i ≤ a → a < j → bit row a ≡ false) → next_bit row i ≡ next_bit row j
next_skip row i j l clear = go (next_bit row j) refl
  where
    here : (a : ℕ) → i ≤ a → ((b : ℕ) → j ≤ b → b ≡ a → bit row b ≡ false) → bit row a ≡ false
    here a p later = elim (dec_lt a j) [ yes h ↦ clear a p h | no g ↦ later a (omega arith) refl ]

    go : (r : Option ℕ) → next_bit row j ≡ r → next_bit row i ≡ r
    go (Some k) e =
        let n : NextAt row j k = at_next row j k e in
        next_at row i k (omega (arith, n.from)) n.inside n.is_set
        (λ a p q. here a p (λ b g s. n.none_before b g (omega arith)))
    go None e = next_none row i (λ a p. here a p (λ b g s. none_next row j e b g))

-- A byte that is 0 has no set bit.
pub zero_byte : (row : List ℕ) (q : ℕ) → get_or row q 0 ≡ 0 → (a : ℕ) → a / 8 ≡ q → bit row a ≡ false
unfolding bit
zero_byte row q z a e = ap (λ (x : ℕ). byte_bit x (a % 8)) (ap (λ (k : ℕ). get_or row k 0) e ∙ z) ∙ byte_bit-zero (a % 8)

-- A number whose w digits are the bits of a row from place p on.
module _ (row : List ℕ) (p w n : ℕ) (same : (j : ℕ) → j < w → byte_bit n j ≡ bit row (p + j)) where
  -- What is left of it from digit s on is 0: none of these bits is set.
  digits_clear : (s : ℕ) → n / 2 ^ s ≡ 0 → (a : ℕ) → p + s ≤ a → a < p + w → bit row a ≡ false
  digits_clear s e a l r =
      let j = a - (p + s) in
      let there : a ≡ p + (s + j) = omega arith in
      ap (bit row) there
      ∙ sym (same (s + j) (omega arith))
      ∙ sym (byte_bit_shift n s j)
      ∙ ap (λ (y : ℕ). byte_bit y j) e
      ∙ byte_bit-zero j

  -- A search that starts at digit s finds the lowest set digit of what is left.
  next_in_digits : n < 2 ^ w → p + w ≤ 8 * length row → (s x : ℕ) → x ≡ n / 2 ^ s → (x ≡ 0 → ⊥) → next_bit row (p + s) ≡ Some (p + s + count_trailing_zeros w x)
  next_in_digits small h s x e nz =
      let t = count_trailing_zeros w x in
      let t_lt : t < w = trailing_lt w x (omega arith) (subst (λ (y : ℕ). y < 2 ^ w) (sym e) (lt_of_le_of_lt (shr_le n s) small)) in
      let shifted : (j : ℕ) → byte_bit x j ≡ byte_bit n (s + j) =
      λ j. ap (λ (y : ℕ). byte_bit y j) e ∙ byte_bit_shift n s j
      in
      let lit : byte_bit n (s + t) ≡ true = sym (shifted t) ∙ trailing_at w x t_lt in
      let within : s + t < w =
      elim (dec_lt (s + t) w) [
        | yes y ↦ y
        | no g ↦ absurd (false≢true (sym (byte_bit_past w n (s + t) small (omega arith)) ∙ lit))
      ]
      in
      let place : p + s + t ≡ p + (s + t) = omega arith in
      next_at row (p + s) (p + s + t) (omega arith) (omega arith)
      (ap (bit row) place ∙ sym (same (s + t) within) ∙ lit)
      (λ a l r.
      let j = a - (p + s) in
      let there : a ≡ p + (s + j) = omega arith in
      ap (bit row) there ∙ sym (same (s + j) (omega arith)) ∙ sym (shifted j) ∙ trailing_low w x j (omega arith))

-- The two laws of digits, for byte q.
pub next_in_byte : (row : List ℕ) (q s x : ℕ) → q < length row → s < 8 → x ≡ get_or row q 0 / 2 ^ s → get_or row q 0 < 256 → (x ≡ 0 → ⊥) → next_bit row (8 * q + s) ≡ Some (8 * q + s + count_trailing_zeros 8 x)
next_in_byte row q s x h l e byte nz =
    next_in_digits row (8 * q) 8 (get_or row q 0) (λ j g. sym (bit_at row q j g)) byte (omega arith) s x e nz

pub rest_clear : (row : List ℕ) (q s : ℕ) → s < 8 → get_or row q 0 / 2 ^ s ≡ 0 → (a : ℕ) → 8 * q + s ≤ a → a < 8 * q + 8 → bit row a ≡ false
rest_clear row q s l e a p r = digits_clear row (8 * q) 8 (get_or row q 0) (λ j g. sym (bit_at row q j g)) s e a p r

-- And for the number of the k bytes from q on.
pub next_in_number : (row : List ℕ) (q k s x : ℕ) → BytesFrom row q k → q + k ≤ length row → x ≡ number_at row q k / 2 ^ s → (x ≡ 0 → ⊥) → next_bit row (8 * q + s) ≡ Some (8 * q + s + count_trailing_zeros (8 * k) x)
next_in_number row q k s x bs h e nz =
    next_in_digits row (8 * q) (8 * k) (number_at row q k) (λ j g. number_bit row q k j bs g) (number_lt row q k bs) (omega arith) s x e nz

pub number_clear : (row : List ℕ) (q k s : ℕ) → BytesFrom row q k → number_at row q k / 2 ^ s ≡ 0 → (a : ℕ) → 8 * q + s ≤ a → a < 8 * q + 8 * k → bit row a ≡ false
number_clear row q k s bs e a p r = digits_clear row (8 * q) (8 * k) (number_at row q k) (λ j g. number_bit row q k j bs g) s e a p r

-- A place and the zeros below a lowest set digit fit in 64 bits.
pub place_fits : (w i x : ℕ) → i + w < 2 ^ 64 → i + count_trailing_zeros w x < 2 ^ 64
place_fits w i x h = omega (arith, trailing_le w x)

pub zeros_fit : (w x : ℕ) → w < 2 ^ 64 → count_trailing_zeros w x < 2 ^ 64
zeros_fit w x h = lt_of_le_of_lt (trailing_le w x) h

-- A row with a byte that is not 0 has a set bit, and one whose bytes are all 0 has none.
pub any_nonzero : (row : List ℕ) (q : ℕ) → q < length row → get_or row q 0 < 256 → (get_or row q 0 ≡ 0 → ⊥) → any_bit row ≡ true
any_nonzero row q h byte nz =
    let n : NextAt row (8 * q + 0) (8 * q + 0 + count_trailing_zeros 8 (get_or row q 0)) =
    at_next row (8 * q + 0) (8 * q + 0 + count_trailing_zeros 8 (get_or row q 0))
    (next_in_byte row q 0 (get_or row q 0) h (lit< tt) (sym (div-one (get_or row q 0))) byte nz)
    in
    any_set row (8 * q + 0 + count_trailing_zeros 8 (get_or row q 0)) n.is_set

pub any_zero : (row : List ℕ) → ((q : ℕ) → q < length row → get_or row q 0 ≡ 0) → any_bit row ≡ false
any_zero row z =
    any_clear row
    (λ i.
    elim (dec_lt i (8 * length row)) [
      | yes l ↦ zero_byte row (i / 8) (z (i / 8) (omega arith)) i refl
      | no g ↦ bit_past row i (omega arith)
    ])
