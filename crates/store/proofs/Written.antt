-- The catalogue with other axioms: it has the same records but for the axioms, it is accepted by questions 1 to 9, and its axioms are the given ones.
use Prim.Native.Nat.{ℕ, suc, ◌+◌, ◌*◌, ◌/◌, ◌%◌, ◌≤◌, ◌<◌}
use native.Mathlib.Nat.{div-lt_iff_lt-mul, mod-lt, div-add-mod', mul-add-div_right, mul-add-mod_self_right, div-eq_of_lt, mod-eq_of_lt, mul-le-mul_right, suc-mul, add-zero}
use native.Mathlib.Decide.{dec_lt}
use native.Mathlib.Omega.{arith}
use mathlib.Core.Path.{◌≡◌, sym, ap, ap₂, subst, ◌∙◌}
use mathlib.Core.Logic.{◌⊎◌, inl, inr}
use mathlib.Core.Bool.{true}
use mathlib.Core.List.{List}
use lib.ListN.{length, get_or, take, length-append}
use lib.Seq.{length-take-le, get_or-take}
use Rattle.catalogue.specs.Words.{word, bytes_of}
use Rattle.catalogue.specs.Header.{total, concepts, roles, inclusions, compositions, axioms, concepts_at, inclusions_at, compositions_at, axioms_at}
use Rattle.catalogue.specs.Records.{kind, first, second, within, around, role1, role2, result, left, right}
use Rattle.catalogue.specs.Outcome.{accepted}
use Rattle.catalogue.specs.Checks.{checked}
use Rattle.catalogue.specs.WellFormed.{WellFormed}
use Rattle.catalogue.proofs.Accepted.{well_formed_accepted}
use Rattle.derivation.proofs.Counts.{decides_agree}
use Rattle.rules.specs.Axioms.{Axioms, InRange, catalogue_axioms}
use Rattle.rules.proofs.Axioms.{catalogue_axioms_exact}
use Rattle.store.specs.Written.{rising, numbered, axiom_count, sides_of, axiom_records, set_word, written, SameRecords}
use Rattle.store.proofs.Rising.{Lists, rising_lists, length-rising}
use Rattle.store.proofs.Records.{length-set_word, word_set_here, word_set_other, word_first, word-second, length_records, left_record, right_record}

-- ---- axioms by number

-- A larger number is a larger left side, or the same with a larger right side.
number_rises : (n p q : ℕ) → 0 < n → p < q → (p / n < q / n) ⊎ ((p / n ≡ q / n) × (p % n < q % n))
number_rises n p q h l =
    let ep = div-add-mod' p n in
    let eq = div-add-mod' q n in
    let rp : p % n < n = mod-lt p h in
    let rq : q % n < n = mod-lt q h in
    elim (dec_lt (p / n) (q / n)) [
      | yes s ↦ inl s
      | no g ↦ elim (dec_lt (q / n) (p / n)) [
        | yes s ↦ let z : ⊥ = omega (arith, mul-le-mul_right n s, suc-mul (q / n) n) in absurd z
        | no g' ↦ let same : p / n ≡ q / n = omega arith in inr (same, omega (arith, ap (λ x. x * n) same))
      ]
    ]

pub number-left : (n c d : ℕ) → d < n → (c * n + d) / n ≡ c
number-left n c d h = mul-add-div_right (omega arith) c d ∙ ap (λ x. c + x) (div-eq_of_lt h) ∙ add-zero c

pub number-right : (n c d : ℕ) → d < n → (c * n + d) % n ≡ d
number-right n c d h = mul-add-mod_self_right c n d ∙ mod-eq_of_lt h

pub number_below : (n c d : ℕ) → c < n → d < n → c * n + d < n * n
number_below n c d h l = omega (arith, mul-le-mul_right n h, suc-mul c n)

module _ (b : List ℕ) (F : Axioms) (wf : WellFormed b) where
  head : List ℕ
  head = set_word (set_word (take (axioms_at b) b) 0 (axioms_at b + 4 * axiom_count b F)) 10 (axiom_count b F)

  numbers : List ℕ
  numbers = rising (numbered (concepts b) F) (concepts b * concepts b)

  length_front : length (take (axioms_at b) b) ≡ axioms_at b
  length_front = length-take-le (axioms_at b) b (omega (arith, wf.whole))

  length_head : length head ≡ axioms_at b
  unfolding head
  length_head = length-set_word _ 10 _ ∙ length-set_word _ 0 _ ∙ length_front

  length_numbers : length numbers ≡ axiom_count b F
  unfolding numbers axiom_count
  length_numbers = length-rising _ _

  -- ---- its numbers

  starts : 26 ≤ axioms_at b
  starts = omega arith

  pub word_kept : (i : ℕ) → 2 ≤ i → (i + 1 < 10) ⊎ (11 < i) → i + 1 < axioms_at b → word (written b F) i ≡ word b i
  unfolding written head word
  word_kept i low other high =
      word_first head (axiom_records b F) i (omega (arith, length_head))
      ∙ word_set_other (set_word (take (axioms_at b) b) 0 (axioms_at b + 4 * axiom_count b F)) 10 (axiom_count b F) i other
      ∙ word_set_other (take (axioms_at b) b) 0 (axioms_at b + 4 * axiom_count b F) i (inr (omega arith))
      ∙ ap₂ (λ (l h : ℕ). l + 256 * h) (get_or-take (axioms_at b) b i 0 (omega arith)) (get_or-take (axioms_at b) b (i + 1) 0 high)

  pub written-total : total (written b F) ≡ axioms_at b + 4 * axiom_count b F
  unfolding written total head
  written-total =
      word_first head (axiom_records b F) 0 (omega (arith, length_head, starts))
      ∙ word_set_other (set_word (take (axioms_at b) b) 0 (axioms_at b + 4 * axiom_count b F)) 10 (axiom_count b F) 0 (inl (omega arith))
      ∙ word_set_here (take (axioms_at b) b) 0 (axioms_at b + 4 * axiom_count b F) (omega (arith, length_front, starts))

  pub written_count : axioms (written b F) ≡ axiom_count b F
  unfolding written axioms head
  written_count =
      word_first head (axiom_records b F) 10 (omega (arith, length_head, starts))
      ∙ word_set_here (set_word (take (axioms_at b) b) 0 (axioms_at b + 4 * axiom_count b F)) 10 (axiom_count b F) (omega (arith, length-set_word (take (axioms_at b) b) 0 (axioms_at b + 4 * axiom_count b F), length_front, starts))

  pub length-written : length (written b F) ≡ axioms_at b + 4 * axiom_count b F
  unfolding written head axiom_records numbers
  length-written =
      length-append head (axiom_records b F)
      ∙ omega (arith, length_head, length_records (concepts b) numbers, length_numbers)

  word_axiom : (i : ℕ) → word (written b F) (axioms_at b + i) ≡ word (bytes_of (sides_of (concepts b) numbers)) i
  unfolding written head axiom_records numbers
  word_axiom i = word-second head (axiom_records b F) (axioms_at b) i length_head

  -- ---- its records

  concepts_kept : concepts (written b F) ≡ concepts b
  unfolding concepts
  concepts_kept = word_kept 2 (omega arith) (inl (omega arith)) (omega (arith, starts))

  roles_kept : roles (written b F) ≡ roles b
  unfolding roles
  roles_kept = word_kept 4 (omega arith) (inl (omega arith)) (omega (arith, starts))

  inclusions_kept : inclusions (written b F) ≡ inclusions b
  unfolding inclusions
  inclusions_kept = word_kept 6 (omega arith) (inl (omega arith)) (omega (arith, starts))

  compositions_kept : compositions (written b F) ≡ compositions b
  unfolding compositions
  compositions_kept = word_kept 8 (omega arith) (inl (omega arith)) (omega (arith, starts))

  concepts_at_kept : concepts_at (written b F) ≡ concepts_at b
  unfolding concepts_at
  concepts_at_kept = word_kept 12 (omega arith) (inr (omega arith)) (omega (arith, starts))

  inclusions_at_kept : inclusions_at (written b F) ≡ inclusions_at b
  unfolding inclusions_at
  inclusions_at_kept = word_kept 14 (omega arith) (inr (omega arith)) (omega (arith, starts))

  compositions_at_kept : compositions_at (written b F) ≡ compositions_at b
  unfolding compositions_at
  compositions_at_kept = word_kept 16 (omega arith) (inr (omega arith)) (omega (arith, starts))

  axioms_at_kept : axioms_at (written b F) ≡ axioms_at b
  unfolding axioms_at
  axioms_at_kept = word_kept 18 (omega arith) (inr (omega arith)) (omega (arith, starts))

  -- A number of a record before the axioms.
  field_kept : (i : ℕ) → 20 ≤ i → i + 1 < axioms_at b → word (written b F) i ≡ word b i
  field_kept i low high = word_kept i (omega arith) (inr (omega arith)) high

  moved : (i j : ℕ) → i ≡ j → 20 ≤ j → j + 1 < axioms_at b → word (written b F) i ≡ word b j
  moved i j e low high = ap (word (written b F)) e ∙ field_kept j low high

  pub written_same : SameRecords b (written b F)
  unfolding kind first second within around role1 role2 result
  written_same =
      record {
        concepts_same = concepts_kept;
        roles_same = roles_kept;
        inclusions_same = inclusions_kept;
        compositions_same = compositions_kept;
        kind_same = λ i l. field_kept (20 + 6 * i) (omega arith) (omega arith);
        first_same = λ i l. field_kept (20 + 6 * i + 2) (omega arith) (omega arith);
        second_same = λ i l. field_kept (20 + 6 * i + 4) (omega arith) (omega arith);
        within_same = λ k l. moved (inclusions_at (written b F) + 4 * k) (inclusions_at b + 4 * k) (omega (arith, inclusions_at_kept)) (omega arith) (omega arith);
        around_same = λ k l. moved (inclusions_at (written b F) + 4 * k + 2) (inclusions_at b + 4 * k + 2) (omega (arith, inclusions_at_kept)) (omega arith) (omega arith);
        role1_same = λ k l. moved (compositions_at (written b F) + 6 * k) (compositions_at b + 6 * k) (omega (arith, compositions_at_kept)) (omega arith) (omega arith);
        role2_same = λ k l. moved (compositions_at (written b F) + 6 * k + 2) (compositions_at b + 6 * k + 2) (omega (arith, compositions_at_kept)) (omega arith) (omega arith);
        result_same = λ k l. moved (compositions_at (written b F) + 6 * k + 4) (compositions_at b + 6 * k + 4) (omega (arith, compositions_at_kept)) (omega arith) (omega arith);
      }

  -- ---- its axioms

  listed : Lists (numbered (concepts b) F) (concepts b * concepts b) numbers
  unfolding numbers
  listed = rising_lists _ _

  left_is : (k : ℕ) → k < axiom_count b F → left (written b F) k ≡ get_or numbers k 0 / concepts b
  unfolding left
  left_is k l =
      ap (λ x. word (written b F) (x + 4 * k)) axioms_at_kept
      ∙ word_axiom (4 * k)
      ∙ left_record (concepts b) numbers k (omega (arith, length_numbers))

  right_is : (k : ℕ) → k < axiom_count b F → right (written b F) k ≡ get_or numbers k 0 % concepts b
  unfolding right
  right_is k l =
      ap (word (written b F)) (let e : axioms_at (written b F) + 4 * k + 2 ≡ axioms_at b + (4 * k + 2) = omega (arith, axioms_at_kept) in e)
      ∙ word_axiom (4 * k + 2)
      ∙ right_record (concepts b) numbers k (omega (arith, length_numbers))

  sides_below_lem : (k : ℕ) → k < axiom_count b F → (left (written b F) k < concepts b) × (right (written b F) k < concepts b)
  sides_below_lem k l =
      let p = listed.below k (omega (arith, length_numbers)) in (
        subst (λ x. x < concepts b) (sym (left_is k l)) ((div-lt_iff_lt-mul wf.some_concept).1 p),
        subst (λ x. x < concepts b) (sym (right_is k l)) (mod-lt (get_or numbers k 0) wf.some_concept),
      )

  sides_rise : (k : ℕ) → suc k < axiom_count b F → (left (written b F) k < left (written b F) (suc k)) ⊎ ((left (written b F) k ≡ left (written b F) (suc k)) × (right (written b F) k < right (written b F) (suc k)))
  sides_rise k l =
      let h : k < axiom_count b F = omega arith in
      rw (left_is k h, left_is (suc k) l, right_is k h, right_is (suc k) l)
      (number_rises (concepts b) (get_or numbers k 0) (get_or numbers (suc k) 0) wf.some_concept (listed.rises k (omega (arith, length_numbers))))

  pub written_well_formed : axiom_count b F ≤ 4096 → WellFormed (written b F)
  written_well_formed few =
      let same = written_same in
      let n = concepts_kept in
      record {
        some_concept = omega (arith, wf.some_concept);
        concepts_limit = omega (arith, wf.concepts_limit);
        roles_limit = omega (arith, roles_kept, wf.roles_limit);
        inclusions_limit = omega (arith, inclusions_kept, wf.inclusions_limit);
        compositions_limit = omega (arith, compositions_kept, wf.compositions_limit);
        axioms_limit = omega (arith, written_count);
        concepts_start = concepts_at_kept ∙ wf.concepts_start;
        inclusions_start = omega (arith, inclusions_at_kept, wf.inclusions_start);
        compositions_start = omega (arith, compositions_at_kept, inclusions_at_kept, inclusions_kept, wf.compositions_start);
        axioms_start = omega (arith, axioms_at_kept, compositions_at_kept, compositions_kept, wf.axioms_start);
        whole = omega (arith, length-written, axioms_at_kept, written_count);
        kinds = λ i l. omega (arith, same.kind_same i (omega arith), wf.kinds i (omega arith));
        atomic = λ i l k.
            let h : i < concepts b = omega arith in
            let s = wf.atomic i h (omega (arith, same.kind_same i h)) in
            (same.first_same i h ∙ s.0, same.second_same i h ∙ s.1);
        conjuncts = λ i l k.
            let h : i < concepts b = omega arith in
            let s = wf.conjuncts i h (sym (same.kind_same i h) ∙ k) in
            omega (arith, same.first_same i h, same.second_same i h);
        existential = λ i l k.
            let h : i < concepts b = omega arith in
            let s = wf.existential i h (sym (same.kind_same i h) ∙ k) in
            omega (arith, same.first_same i h, same.second_same i h, roles_kept);
        inclusion = λ k l.
            let h : k < inclusions b = omega (arith, inclusions_kept) in
            let s = wf.inclusion k h in
            omega (arith, same.within_same k h, same.around_same k h, roles_kept);
        composition = λ k l.
            let h : k < compositions b = omega (arith, compositions_kept) in
            let s = wf.composition k h in
            omega (arith, same.role1_same k h, same.role2_same k h, same.result_same k h, roles_kept);
        sides = λ k l. rw n (sides_below_lem k (omega (arith, written_count)));
        rising = λ k l. sides_rise k (omega (arith, written_count));
      }

  -- Questions 1 to 9 accept it, if F has at most 4,096 axioms. The total then fits its two bytes.
  pub written_accepted : axiom_count b F ≤ 4096 → checked (written b F) ≡ accepted
  written_accepted few = well_formed_accepted (written_well_formed few) (written-total ∙ sym length-written)

  pub written_fits : axiom_count b F ≤ 4096 → total (written b F) < 65536
  written_fits few = omega (arith, written-total)

  -- Its axioms are those of F.
  axiom_numbered : (c d p : ℕ) → p / concepts b ≡ c → p % concepts b ≡ d → numbered (concepts b) F p ≡ F c d
  unfolding numbered
  axiom_numbered c d p e f = ap₂ F e f

  pub written-axioms : InRange b F → (c d : ℕ) → catalogue_axioms (written b F) c d ≡ F c d
  written-axioms range c d = decides_agree (catalogue_axioms (written b F) c) (F c) (λ d. F c d ≡ true) (λ d. (only d, all d)) (λ d. (λ e. e, λ e. e)) d
    where
      only : (d : ℕ) → catalogue_axioms (written b F) c d ≡ true → F c d ≡ true
      only d e =
          let f = (catalogue_axioms_exact (written b F) c d).0 e in
          let k = f.0 in
          let l : k < axiom_count b F = omega (arith, f.1, written_count) in
          sym (axiom_numbered c d (get_or numbers k 0) (sym (left_is k l) ∙ f.2) (sym (right_is k l) ∙ f.3)) ∙ listed.passes k (omega (arith, length_numbers))

      all : (d : ℕ) → F c d ≡ true → catalogue_axioms (written b F) c d ≡ true
      all d e =
          let r = range c d e in
          let n = concepts b in
          let t = axiom_numbered c d (c * n + d) (number-left n c d r.1) (number-right n c d r.1) in
          let f = listed.all (c * n + d) (number_below n c d r.0 r.1) (t ∙ e) in
          let l : f.0 < axiom_count b F = omega (arith, f.1, length_numbers) in
          (catalogue_axioms_exact (written b F) c d).1 (
            f.0,
            omega (arith, written_count),
            left_is f.0 l ∙ ap (λ p. p / n) f.2 ∙ number-left n c d r.1,
            right_is f.0 l ∙ ap (λ p. p % n) f.2 ∙ number-right n c d r.1,
          )
