-- What is asked of each axiom says what is asked of a list; and whole lists, alone and together.
use Prim.Native.Nat.{ℕ, ◌+◌, ◌%◌}
use native.Mathlib.Omega.{arith}
use mathlib.Core.Path.{◌≡◌, refl, sym, ap, ◌∙◌}
use mathlib.Core.Bool.{Bool, true, not}
use mathlib.Core.List.{List, [], ◌++◌, append-nil}
use lib.Dec.{ltb, leb, lit≤}
use lib.ListN.{length}
use borrow.Author.Tests.{le-leb, leb-true}
use Rattle.booleans.proofs.Booleans.{agree}
use Rattle.rows.specs.Bits.{some_below}
use Rattle.catalogue.specs.Header.{concepts}
use Rattle.catalogue.specs.Outcome.{Outcome, accepted, refused, followed}
use Rattle.rules.specs.Axioms.{Axioms}
use Rattle.store.specs.Written.{axiom_count}
use Rattle.store.specs.Checks.{axioms_in_limit, numbers_below}
use Rattle.change_contract.specs.Lists.{axioms_in, sides_in, edited}
use Rattle.change_contract.specs.Questions.{is_whole, none_twice, all_in_force, none_in_force, repeats, Lengths, length_checks}
use Rattle.change_contract.proofs.Lists.{whole_long, sides_some, edited_count}
use Rattle.change_contract.proofs.Asking.{lengths_followed}
use Rattle.change_checks.specs.Reading.{Whole, is_beyond, is_absent, is_present}

pub is_whole_lem : (list : List ℕ) → is_whole (length list) ≡ true → Whole list
is_whole_lem list e = let (few, whole) = whole_long (length list) e in record { few = few; whole = whole }

pub empty_whole : Whole []
empty_whole = record { few = lit≤ tt; whole = refl }

-- ---- 23, 15, 18 and 16

abbrev some_axiom : (List ℕ → ℕ → Bool) → List ℕ → Bool
some_axiom test list = some_below (test list) (axioms_in list)

module _ (b : List ℕ) (F : Axioms) (list : List ℕ) where
  pub twice_asked : none_twice list ≡ not (some_axiom repeats list)
  unfolding none_twice
  twice_asked = refl

  pub beyond_asked : numbers_below b (sides_in list) ≡ not (some_axiom (is_beyond (concepts b)) list)
  unfolding sides_in is_beyond
  beyond_asked = sides_some (λ c. ltb c (concepts b)) list (axioms_in list)

  -- Of one list alone.
  pub absent_asked : all_in_force F list ≡ not (some_axiom (is_absent F) (list ++ []))
  unfolding all_in_force is_absent
  absent_asked = ap (λ (l : List ℕ). all_in_force F l) (sym (append-nil list))

  pub present_asked : none_in_force F list ≡ not (some_axiom (is_present F) (list ++ []))
  unfolding none_in_force is_present
  present_asked = ap (λ (l : List ℕ). none_in_force F l) (sym (append-nil list))

-- ---- 10 to 12 and 22, and then the rest

module _ (b : List ℕ) (withdrawn added : ℕ) (lent : Lengths) (rest : Outcome) where
  pub lengths_accepted : length_checks b withdrawn added lent accepted ≡ accepted → length_checks b withdrawn added lent rest ≡ rest
  unfolding followed
  lengths_accepted e = sym (lengths_followed b withdrawn added lent rest) ∙ ap (λ (o : Outcome). followed o rest) e

  pub lengths_refused : {number at : ℕ} → length_checks b withdrawn added lent accepted ≡ refused number at → length_checks b withdrawn added lent rest ≡ refused number at
  unfolding followed
  lengths_refused e = sym (lengths_followed b withdrawn added lent rest) ∙ ap (λ (o : Outcome). followed o rest) e

-- ---- 17

module _ (b : List ℕ) (F : Axioms) (withdrawn added : List ℕ) (whole : length withdrawn % 4 ≡ 0) (once : none_twice (withdrawn ++ added) ≡ true)
    (numbers : numbers_below b (sides_in (withdrawn ++ added)) ≡ true) (there : all_in_force F withdrawn ≡ true) (out : none_in_force F added ≡ true) where
  pub room_asked : {t : Bool} → leb (axiom_count b F + axioms_in added) (4096 + axioms_in withdrawn) ≡ t → axioms_in_limit b (edited F withdrawn added) ≡ t
  unfolding axioms_in_limit
  room_asked e = same ∙ e
    where
      same : leb (axiom_count b (edited F withdrawn added)) 4096 ≡ leb (axiom_count b F + axioms_in added) (4096 + axioms_in withdrawn)
      same =
          agree (leb (axiom_count b (edited F withdrawn added)) 4096) (leb (axiom_count b F + axioms_in added) (4096 + axioms_in withdrawn))
          (λ e.
          le-leb (axiom_count b F + axioms_in added) (4096 + axioms_in withdrawn)
          (omega (arith, leb-true (axiom_count b (edited F withdrawn added)) 4096 e, edited_count b F withdrawn added whole once numbers there out)))
          (λ e.
          le-leb (axiom_count b (edited F withdrawn added)) 4096
          (omega (arith, leb-true (axiom_count b F + axioms_in added) (4096 + axioms_in withdrawn) e, edited_count b F withdrawn added whole once numbers there out)))
