-- Questions 10 to 15, each under its own name, as a call puts them in its order (document 01, Questions). What is asked of a buffer's length takes
-- the length; 13 and 14 take their answer, so that a call can read it off its store.
use Rattle.std.specs.Prelude.{ℕ, ◌*◌, Bool, List, ltb, leb}
use Rattle.catalogue.specs.Header.{concepts}
use Rattle.catalogue.specs.Outcome.{Outcome, ask}
use Rattle.rules.specs.Axioms.{Axioms}
use Rattle.layout.specs.Parts.{used, work_used}
use Rattle.store.specs.Written.{axiom_count}
-- Every concept that a call names passes a test.
unfoldable pub use Rattle.derivation.specs.Finite.{each as every}

-- 10: store long enough?
unfoldable pub store_fits : List ℕ → ℕ → Bool
store_fits b long = leb (used b) long

-- 11: work space long enough?
unfoldable pub work_fits : List ℕ → ℕ → Bool
work_fits b long = leb (work_used b) long

-- 12: list at least 2·n bytes?
unfoldable pub list_fits : List ℕ → ℕ → Bool
list_fits b long = leb (2 * concepts b) long

-- 14: at most 4,096 axioms? (13 is `spare_clear` of layout's Parts.)
unfoldable pub axioms_in_limit : List ℕ → Axioms → Bool
axioms_in_limit b F = leb (axiom_count b F) 4096

-- 15: concept numbers below n?
abbrev pub numbers_below : List ℕ → List ℕ → Bool
numbers_below b names = every (λ c. ltb c (concepts b)) names

-- Each question, and then the rest.
unfoldable pub ask_store : List ℕ → ℕ → Outcome → Outcome
ask_store b long rest = ask (store_fits b long) 10 0 rest

unfoldable pub ask_work : List ℕ → ℕ → Outcome → Outcome
ask_work b long rest = ask (work_fits b long) 11 0 rest

unfoldable pub ask_list : List ℕ → ℕ → Outcome → Outcome
ask_list b long rest = ask (list_fits b long) 12 0 rest

unfoldable pub ask_spare : Bool → Outcome → Outcome
ask_spare clear rest = ask clear 13 0 rest

unfoldable pub ask_limit : Bool → Outcome → Outcome
ask_limit within rest = ask within 14 0 rest

unfoldable pub ask_numbers : List ℕ → List ℕ → Outcome → Outcome
ask_numbers b names rest = ask (numbers_below b names) 15 0 rest
