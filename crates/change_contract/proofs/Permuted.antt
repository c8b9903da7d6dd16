-- The order inside the two lists is without effect: questions, axioms, outcome.
use Prim.Native.Nat.{ℕ, zero, suc, ◌+◌, ◌-◌, ◌/◌, ◌%◌, ◌≤◌, ◌<◌}
use native.Mathlib.Decide.{dec_lt}
use native.Mathlib.Omega.{arith}
use mathlib.Core.Path.{◌≡◌, refl, sym, ap, ap₂, subst, fun_ext, ◌∙◌}
use mathlib.Core.Bool.{Bool, true, cond, not, ◌&&◌, ◌||◌}
use mathlib.Core.List.{List, [], ◌∷◌, ◌++◌}
use lib.Dec.{eqb, ltb}
use lib.ListN.{length, get_or, length-append}
use borrow.Author.Tests.{lt-ltb, le-ltb}
use Rattle.std.proofs.Common.{Result}
use Rattle.booleans.proofs.Booleans.{agree}
use Rattle.rows.specs.Bits.{some_below}
use Rattle.rows.proofs.Counting.{some_at, some_which}
use Rattle.catalogue.specs.declared.checks.Refusal.{Refusal}
use Rattle.catalogue.specs.Words.{word, bytes_of}
use Rattle.catalogue.specs.Header.{concepts}
use Rattle.catalogue.specs.Outcome.{Outcome, accepted, ask}
use Rattle.catalogue.specs.Checks.{catalogue_checks}
use Rattle.derivation.specs.Decided.{Marked as Holding}
use Rattle.rules.specs.Axioms.{Axioms}
use Rattle.rules.specs.Changes.{NewSet}
use Rattle.layout.specs.Parts.{in_force, held}
use Rattle.store.specs.Fresh.{Marked}
use Rattle.store.specs.Checks.{numbers_below, ask_spare, ask_limit, ask_numbers}
use Rattle.change_contract.specs.declared.Changed.{Changed}
use Rattle.change_contract.specs.Lists.{axioms_in, left_in, right_in, among, listed, sides_in, edited}
use Rattle.change_contract.specs.Questions.{Lengths, repeats, none_twice, all_in_force, none_in_force, ask_twice, ask_in_force, ask_new, ask_room, length_checks, axiom_checks, content_checks, change_checks}
use Rattle.change_contract.specs.Edits.{Effects, Lent, asked, Accepts, Edits}
use Rattle.change_contract.specs.Permuted.{Order, Permuted, NoEffect}
use Rattle.change_contract.proofs.Lists.{sides_some, among_exact, whole_long, axioms_together, left-first, right-first, left-second, right-second}
use Rattle.change_contract.proofs.Rests.{lengths_rest}
use Rattle.change_contract.proofs.Unique.{edit_unique}

-- ---- orders

-- Back again.
order_back : (n m : ℕ) → m ≡ n → Order n → Order m
order_back n m e o =
    record {
      to = o.from;
      from = o.to;
      to_below = λ k l. omega (arith, o.from_below k (omega arith));
      from_below = λ k l. omega (arith, o.to_below k (omega arith));
      from_to = λ k l. o.to_from k (omega arith);
      to_from = λ k l. o.from_to k (omega arith);
    }

-- One order below n, and one of the q numbers from n on.
joined : ℕ → (f g : ℕ → ℕ) → ℕ → ℕ
joined n f g k = cond (ltb k n) (f k) (n + g (k - n))

joined-first : (n : ℕ) (f g : ℕ → ℕ) (k : ℕ) → k < n → joined n f g k ≡ f k
unfolding joined
joined-first n f g k l = rw (lt-ltb k n l)

joined-second : (n : ℕ) (f g : ℕ → ℕ) (k : ℕ) → joined n f g (n + k) ≡ n + g k
unfolding joined
joined-second n f g k = rw (le-ltb (n + k) n (let z : n ≤ n + k = omega arith in z)) (ap (λ (i : ℕ). n + g i) (let z : n + k - n ≡ k = omega arith in z))

-- Every number below n + q is below n, or from n on.
in_turn : (n q : ℕ) (C : ℕ → Type 0) → ((k : ℕ) → k < n → C k) → ((k : ℕ) → k < q → C (n + k)) → (k : ℕ) → k < n + q → C k
in_turn n q C one other k l =
    elim (dec_lt k n) [
      | yes h ↦ one k h
      | no h ↦ subst C (let z : n + (k - n) ≡ k = omega arith in z) (other (k - n) (omega arith))
    ]

joined_below : (n q : ℕ) (f g : ℕ → ℕ) → ((k : ℕ) → k < n → f k < n) → ((k : ℕ) → k < q → g k < q) → (k : ℕ) → k < n + q → joined n f g k < n + q
joined_below n q f g below below' =
    in_turn n q (λ k. joined n f g k < n + q)
    (λ k l. omega (arith, joined-first n f g k l, below k l))
    (λ k l. omega (arith, joined-second n f g k, below' k l))

joined_back : (n q : ℕ) (f g f' g' : ℕ → ℕ) → ((k : ℕ) → k < n → f k < n) → ((k : ℕ) → k < n → f' (f k) ≡ k) → ((k : ℕ) → k < q → g' (g k) ≡ k)
    → (k : ℕ) → k < n + q → joined n f' g' (joined n f g k) ≡ k
joined_back n q f g f' g' below back back' =
    in_turn n q (λ k. joined n f' g' (joined n f g k) ≡ k)
    (λ k l. ap (joined n f' g') (joined-first n f g k l) ∙ joined-first n f' g' (f k) (below k l) ∙ back k l)
    (λ k l. ap (joined n f' g') (joined-second n f g k) ∙ joined-second n f' g' (g k) ∙ ap (λ (i : ℕ). n + i) (back' k l))

order_both : (n q m : ℕ) → m ≡ n + q → Order n → Order q → Order m
order_both n q m e o o' =
    let below : (k : ℕ) → k < m → k < n + q = λ k l. omega arith in
    record {
      to = joined n o.to o'.to;
      from = joined n o.from o'.from;
      to_below = λ k l. omega (arith, joined_below n q o.to o'.to o.to_below o'.to_below k (below k l));
      from_below = λ k l. omega (arith, joined_below n q o.from o'.from o.from_below o'.from_below k (below k l));
      from_to = λ k l. joined_back n q o.to o'.to o.from o'.from o.to_below o.from_to o'.from_to k (below k l);
      to_from = λ k l. joined_back n q o.from o'.from o.to o'.to o.from_below o.to_from o'.to_from k (below k l);
    }

-- ---- permuted lists

count_same : (xs ys : List ℕ) → Permuted xs ys → axioms_in ys ≡ axioms_in xs
unfolding axioms_in
count_same xs ys p = ap (λ (n : ℕ). n / 4) p.length_same

pub permuted_back : (xs ys : List ℕ) → Permuted xs ys → Permuted ys xs
unfolding order_back
permuted_back xs ys p =
    let o = p.order in
    let below : (k : ℕ) → k < axioms_in ys → k < axioms_in xs = λ k l. omega (arith, count_same xs ys p) in
    record {
      length_same = sym p.length_same;
      order = order_back (axioms_in xs) (axioms_in ys) (count_same xs ys p) o;
      left_same = λ k l. sym (p.left_same (o.from k) (o.from_below k (below k l))) ∙ ap (left_in ys) (o.to_from k (below k l));
      right_same = λ k l. sym (p.right_same (o.from k) (o.from_below k (below k l))) ∙ ap (right_in ys) (o.to_from k (below k l));
    }

-- Two lists together, each permuted in itself.
module _ (withdrawn added withdrawn' added' : List ℕ) (whole : length withdrawn % 4 ≡ 0) (p : Permuted withdrawn withdrawn') (q : Permuted added added') where
  whole' : length withdrawn' % 4 ≡ 0
  whole' = ap (λ (n : ℕ). n % 4) p.length_same ∙ whole

  abbrev places : ℕ → ℕ
  places = joined (axioms_in withdrawn) p.order.to q.order.to

  -- One side of an axiom, left or right.
  side_both : (side : List ℕ → ℕ → ℕ)
      → ((xs ys : List ℕ) → length xs % 4 ≡ 0 → (k : ℕ) → k < axioms_in xs → side (xs ++ ys) k ≡ side xs k)
      → ((xs ys : List ℕ) → length xs % 4 ≡ 0 → (k : ℕ) → side (xs ++ ys) (axioms_in xs + k) ≡ side ys k)
      → ((k : ℕ) → k < axioms_in withdrawn → side withdrawn' (p.order.to k) ≡ side withdrawn k)
      → ((k : ℕ) → k < axioms_in added → side added' (q.order.to k) ≡ side added k)
      → (k : ℕ) → k < axioms_in (withdrawn ++ added) → side (withdrawn' ++ added') (places k) ≡ side (withdrawn ++ added) k
  side_both side first second one other k l =
      let n = axioms_in withdrawn in
      let e : axioms_in withdrawn' ≡ n = count_same withdrawn withdrawn' p in
      in_turn n (axioms_in added) (λ k. side (withdrawn' ++ added') (places k) ≡ side (withdrawn ++ added) k)
      (λ k l.
      ap (side (withdrawn' ++ added')) (joined-first n p.order.to q.order.to k l)
      ∙ first withdrawn' added' whole' (p.order.to k) (omega (arith, e, p.order.to_below k l))
      ∙ one k l
      ∙ sym (first withdrawn added whole k l))
      (λ k l.
      ap (side (withdrawn' ++ added')) (joined-second n p.order.to q.order.to k ∙ ap (λ (i : ℕ). i + q.order.to k) (sym e))
      ∙ second withdrawn' added' whole' (q.order.to k)
      ∙ other k l
      ∙ sym (second withdrawn added whole k))
      k (omega (arith, axioms_together withdrawn added whole))

  pub permuted_both : Permuted (withdrawn ++ added) (withdrawn' ++ added')
  unfolding order_both
  permuted_both =
      record {
        length_same = omega (arith, length-append withdrawn added, length-append withdrawn' added', p.length_same, q.length_same);
        order = order_both (axioms_in withdrawn) (axioms_in added) (axioms_in (withdrawn ++ added)) (axioms_together withdrawn added whole) p.order q.order;
        left_same = side_both left_in left-first left-second p.left_same q.left_same;
        right_same = side_both right_in right-first right-second p.right_same q.right_same;
      }

-- ---- what the same axioms have alike

-- A test by the two numbers passes for some axiom of both lists or of neither.
some_same : (T : ℕ → ℕ → Bool) (xs ys : List ℕ) → Permuted xs ys → some_below (λ k. T (left_in xs k) (right_in xs k)) (axioms_in xs) ≡ true
    → some_below (λ k. T (left_in ys k) (right_in ys k)) (axioms_in ys) ≡ true
some_same T xs ys p e =
    let (k, l, t) = some_which (λ k. T (left_in xs k) (right_in xs k)) (axioms_in xs) e in
    some_at (λ k. T (left_in ys k) (right_in ys k)) (axioms_in ys) (p.order.to k) (omega (arith, count_same xs ys p, p.order.to_below k l))
    (ap₂ T (p.left_same k l) (p.right_same k l) ∙ t)

some_alike : (T : ℕ → ℕ → Bool) (xs ys : List ℕ) → Permuted xs ys
    → some_below (λ k. T (left_in ys k) (right_in ys k)) (axioms_in ys) ≡ some_below (λ k. T (left_in xs k) (right_in xs k)) (axioms_in xs)
some_alike T xs ys p = agree _ _ (some_same T ys xs (permuted_back xs ys p)) (some_same T xs ys p)

listed_alike : (xs ys : List ℕ) → Permuted xs ys → listed ys ≡ listed xs
unfolding listed among
listed_alike xs ys p = fun_ext (λ c. fun_ext (λ d. some_alike (λ l r. eqb l c && eqb r d) xs ys p))

-- The axioms in force after a change.
pub edited_alike : (F : Axioms) (withdrawn added withdrawn' added' : List ℕ) → Permuted withdrawn withdrawn' → Permuted added added' → edited F withdrawn' added' ≡ edited F withdrawn added
unfolding edited
edited_alike F withdrawn added withdrawn' added' p q =
    ap₂ {C = Axioms} (λ out more c d. (F c d && not (out c d)) || more c d) (listed_alike withdrawn withdrawn' p) (listed_alike added added' q)

-- 18 and 16.
all_alike : (F : Axioms) (xs ys : List ℕ) → Permuted xs ys → all_in_force F ys ≡ all_in_force F xs
unfolding all_in_force
all_alike F xs ys p = ap not (some_alike (λ l r. not (F l r)) xs ys p)

none_alike : (F : Axioms) (xs ys : List ℕ) → Permuted xs ys → none_in_force F ys ≡ none_in_force F xs
unfolding none_in_force
none_alike F xs ys p = ap not (some_alike F xs ys p)

-- 15: a number that is not below n is a side of some axiom.
numbers_alike : (b xs ys : List ℕ) → Permuted xs ys → numbers_below b (sides_in ys) ≡ numbers_below b (sides_in xs)
unfolding sides_in
numbers_alike b xs ys p =
    let test : ℕ → Bool = λ c. ltb c (concepts b) in
    sides_some test ys (axioms_in ys) ∙ ap not (some_alike (λ l r. not (test l && test r)) xs ys p) ∙ sym (sides_some test xs (axioms_in xs))

-- 23: two places with one axiom go to two places with that axiom, and one of these comes first.
repeats_same : (xs ys : List ℕ) → Permuted xs ys → some_below (repeats xs) (axioms_in xs) ≡ true → some_below (repeats ys) (axioms_in ys) ≡ true
unfolding repeats
repeats_same xs ys p e =
    let (k, l, t) = some_which (repeats xs) (axioms_in xs) e in
    let (j, lj, x, y) = (among_exact xs k (left_in xs k) (right_in xs k)).0 t in
    let lj' : j < axioms_in xs = omega arith in
    let o = p.order in
    let n = count_same xs ys p in
    let left : left_in ys (o.to j) ≡ left_in ys (o.to k) = p.left_same j lj' ∙ x ∙ sym (p.left_same k l) in
    let right : right_in ys (o.to j) ≡ right_in ys (o.to k) = p.right_same j lj' ∙ y ∙ sym (p.right_same k l) in
    let apart : ¬ (o.to j ≡ o.to k) = λ s. let z : j ≡ k = sym (o.from_to j lj') ∙ ap o.from s ∙ o.from_to k l in absurd (omega arith) in
    let found : (i i' : ℕ) → i < i' → i' < axioms_in xs → left_in ys i ≡ left_in ys i' → right_in ys i ≡ right_in ys i' → some_below (repeats ys) (axioms_in ys) ≡ true =
    λ i i' before below q r. some_at (repeats ys) (axioms_in ys) i' (omega arith) ((among_exact ys i' (left_in ys i') (right_in ys i')).1 (i, before, q, r))
    in
    elim (dec_lt (o.to j) (o.to k)) [
      | yes h ↦ found (o.to j) (o.to k) h (o.to_below k l) left right
      | no h ↦ found (o.to k) (o.to j) (omega arith) (o.to_below j lj') (sym left) (sym right)
    ]

once_alike : (xs ys : List ℕ) → Permuted xs ys → none_twice ys ≡ none_twice xs
unfolding none_twice
once_alike xs ys p = ap not (agree _ _ (repeats_same ys xs (permuted_back xs ys p)) (repeats_same xs ys p))

-- ---- questions and outcome

module _ (b withdrawn added withdrawn' added' : List ℕ) (p : Permuted withdrawn withdrawn') (q : Permuted added added') where
  axiom_checks_alike : (F : Axioms) → axiom_checks b withdrawn' added' F ≡ axiom_checks b withdrawn added F
  unfolding axiom_checks ask_in_force ask_new ask_room
  axiom_checks_alike F =
      ap₂ (λ (t : Bool) (o : Outcome). ask t 18 0 o) (all_alike F withdrawn withdrawn' p)
      (ap₂ (λ (t : Bool) (G : Axioms). ask t 16 0 (ask_room b G accepted)) (none_alike F added added' q) (edited_alike F withdrawn added withdrawn' added' p q))

  content_checks_alike : (clear few : Bool) (F : Axioms) → length withdrawn % 4 ≡ 0 → content_checks b withdrawn' added' clear few F ≡ content_checks b withdrawn added clear few F
  unfolding content_checks ask_twice ask_numbers
  content_checks_alike clear few F whole =
      let both = permuted_both withdrawn added withdrawn' added' whole p q in
      ap₂ (λ (t : Bool) (o : Outcome). ask t 23 0 (ask_spare clear (ask_limit few o))) (once_alike (withdrawn ++ added) (withdrawn' ++ added') both)
      (ap₂ (λ (t : Bool) (o : Outcome). ask t 15 0 o) (numbers_alike b (withdrawn ++ added) (withdrawn' ++ added') both) (axiom_checks_alike F))

  -- Lists that are not whole are refused by 22, both of them.
  pub checks_alike : (lent : Lengths) (clear few : Bool) (F : Axioms) → change_checks b withdrawn' added' lent clear few F ≡ change_checks b withdrawn added lent clear few F
  unfolding change_checks
  checks_alike lent clear few F =
      ap (catalogue_checks b)
      (ap₂ (λ (g n : ℕ). length_checks b g n lent (content_checks b withdrawn' added' clear few F)) p.length_same q.length_same
      ∙ lengths_rest b (length withdrawn) (length added) lent (λ w w'. content_checks_alike clear few F (whole_long (length withdrawn) w).1))

  module _ (u : Lent) where
    asked_alike : asked b withdrawn' added' u ≡ asked b withdrawn added u
    unfolding asked
    asked_alike = checks_alike _ _ _ _

    accepts_alike : (a : Result Changed Refusal) (v : Lent) → Accepts b withdrawn added u a v → Accepts b withdrawn' added' u a v
    accepts_alike a v x =
        let F = in_force b u.store in
        let H = Holding (held b u.store) in
        let same : edited F withdrawn added ≡ edited F withdrawn' added' = sym (edited_alike F withdrawn added withdrawn' added' p q) in
        record {
          answers = x.answers;
          names = x.names;
          effects = subst (λ (G : Axioms). Effects b F G H x.names a) same x.effects;
          marked = subst (λ (G : Axioms). Marked b G (NewSet b F G H) v.store) same x.marked;
          store_rest = x.store_rest;
          work_zero = x.work_zero;
          list_is = x.list_is;
        }

    edits_alike : (a : Result Changed Refusal) (v : Lent) → Edits b withdrawn added u a v → Edits b withdrawn' added' u a v
    edits_alike a v x =
        record { refuses = λ number at e. x.refuses number at (sym asked_alike ∙ e); accepts = λ e. accepts_alike a v (x.accepts (sym asked_alike ∙ e)) }

    -- Order inside a list is without effect.
    pub permuted_no_effect : NoEffect b withdrawn added withdrawn' added' u
    permuted_no_effect =
        record {
          asked_same = asked_alike;
          edits_same = edits_alike;
          ends_same = λ a a' v v' x y. edit_unique b withdrawn' added' u a' a v' v y (edits_alike a v x);
        }

-- ---- examples

-- Two axioms, exchanged.
exchanged : Order 2
exchanged =
    record {
      to = λ k. 1 - k;
      from = λ k. 1 - k;
      to_below = λ k l. omega arith;
      from_below = λ k l. omega arith;
      from_to = λ k l. omega arith;
      to_from = λ k l. omega arith;
    }

both_below : (C : ℕ → Type 0) → C 0 → C 1 → (k : ℕ) → k < 2 → C k
both_below C zeroth first zero l = zeroth
both_below C zeroth first (suc zero) l = first
both_below C zeroth first (suc (suc k)) l = absurd (omega arith)

pub two_exchanged : (l r l' r' : ℕ) → Permuted (bytes_of (l ∷ r ∷ l' ∷ r' ∷ [])) (bytes_of (l' ∷ r' ∷ l ∷ r ∷ []))
unfolding bytes_of axioms_in left_in right_in word exchanged
two_exchanged l r l' r' =
    let xs = bytes_of (l ∷ r ∷ l' ∷ r' ∷ []) in
    let ys = bytes_of (l' ∷ r' ∷ l ∷ r ∷ []) in
    record {
      length_same = refl;
      order = exchanged;
      left_same = both_below (λ k. left_in ys (1 - k) ≡ left_in xs k) refl refl;
      right_same = both_below (λ k. right_in ys (1 - k) ≡ right_in xs k) refl refl;
    }

-- (1, 5) and (0, 4): other bytes, the same axioms.
pub exchanged_differ : ¬ (bytes_of (1 ∷ 5 ∷ 0 ∷ 4 ∷ []) ≡ bytes_of (0 ∷ 4 ∷ 1 ∷ 5 ∷ []))
unfolding bytes_of
exchanged_differ e = let z : ◌≡◌ {A = ℕ} 1 0 = ap (λ (xs : List ℕ). get_or xs 0 0) e in absurd (omega arith)
