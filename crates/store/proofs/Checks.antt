-- What a yes to each of questions 10 to 15 says, and a no; and what a store that marks F passes.
use Prim.Native.Nat.{ℕ, ◌*◌, ◌≤◌, ◌<◌}
use mathlib.Core.Path.{◌≡◌, sym, ap, fun_ext, ◌∙◌}
use mathlib.Core.Bool.{Bool, true, false, ◌&&◌, and-true}
use mathlib.Core.List.{List, [], ◌∷◌}
use lib.Dec.{ltb}
use lib.ListN.{length}
use borrow.Author.Tests.{leb-true, leb-false, le-leb, ltb-true}
use Rattle.catalogue.specs.Header.{concepts}
use Rattle.booleans.proofs.Booleans.{both}
use Rattle.rules.specs.Axioms.{Axioms}
use Rattle.rules.specs.Rules.{Expression}
use Rattle.layout.specs.Parts.{used, work_used, in_force}
use Rattle.store.specs.Written.{axiom_count}
use Rattle.store.specs.Fresh.{Marked}
use Rattle.store.specs.Checks.{every, store_fits, work_fits, list_fits, axioms_in_limit, numbers_below}

pub store_long : (b : List ℕ) (long : ℕ) → store_fits b long ≡ true → used b ≤ long
unfolding store_fits
store_long b long e = leb-true _ _ e

pub store_short : (b : List ℕ) (long : ℕ) → store_fits b long ≡ false → long < used b
unfolding store_fits
store_short b long e = leb-false _ _ e

pub work_long : (b : List ℕ) (long : ℕ) → work_fits b long ≡ true → work_used b ≤ long
unfolding work_fits
work_long b long e = leb-true _ _ e

pub list_long : (b : List ℕ) (long : ℕ) → list_fits b long ≡ true → 2 * concepts b ≤ long
unfolding list_fits
list_long b long e = leb-true _ _ e

pub axioms_few : (b : List ℕ) (F : Axioms) → axioms_in_limit b F ≡ true → axiom_count b F ≤ 4096
unfolding axioms_in_limit
axioms_few b F e = leb-true _ _ e

pub few_axioms : (b : List ℕ) (F : Axioms) → axiom_count b F ≤ 4096 → axioms_in_limit b F ≡ true
unfolding axioms_in_limit
few_axioms b F l = le-leb _ _ l

-- ---- concepts named

pub every_one : (test : ℕ → Bool) (c : ℕ) → every test (c ∷ []) ≡ test c
unfolding every
every_one test c = and-true (test c)

pub every_two : (test : ℕ → Bool) (c d : ℕ) → every test (c ∷ d ∷ []) ≡ (test c && test d)
unfolding every
every_two test c d = ap (λ t. test c && t) (every_one test d)

-- Two numbers below the count of concepts, as the code tests them.
pub numbers_below_lem : (b : List ℕ) (n c d : ℕ) {t : Bool} → n ≡ concepts b → (ltb c n && ltb d n) ≡ t → numbers_below b (c ∷ d ∷ []) ≡ t
numbers_below_lem b n c d e h = every_two (λ x. ltb x (concepts b)) c d ∙ ap (λ k. ltb c k && ltb d k) (sym e) ∙ h

pub two_numbers : (b : List ℕ) (c d : ℕ) → numbers_below b (c ∷ d ∷ []) ≡ true → (c < concepts b) × (d < concepts b)
two_numbers b c d e =
    let p = (both (ltb c (concepts b)) (ltb d (concepts b))).0 (sym (every_two (λ x. ltb x (concepts b)) c d) ∙ e) in
    (ltb-true c (concepts b) p.0, ltb-true d (concepts b) p.1)

-- ---- a store that marks F, whatever set it marks beside it

module _ {S : Expression → Type 0} (b : List ℕ) (F : Axioms) (store : List ℕ) (marked : Marked b F S store) where
  pub marked-axioms : in_force b store ≡ F
  marked-axioms = fun_ext (λ c. fun_ext (λ d. marked.axioms c d))

  pub marked_fits : store_fits b (length store) ≡ true
  unfolding store_fits
  marked_fits = le-leb _ _ marked.long

  pub marked_limit : axiom_count b F ≤ 4096 → axioms_in_limit b (in_force b store) ≡ true
  marked_limit few = ap (axioms_in_limit b) marked-axioms ∙ few_axioms b F few
