-- The checks of the calls that read a store (document 01: their questions), each composed of the named questions in their order.
use Rattle.std.specs.Prelude.{ℕ, ◌≡◌, true, List, length}
use Rattle.catalogue.specs.Outcome.{Outcome, accepted, ask}
use Rattle.catalogue.specs.Checks.{catalogue_checks}
use Rattle.rules.specs.Occurrence.{Marking, occurs}
use Rattle.layout.specs.Parts.{Clear, in_force, spare_clear}
use Rattle.store.specs.Checks.{every, numbers_below, axioms_in_limit, ask_store, ask_list, ask_spare, ask_limit, ask_numbers}

-- 19: all concepts named occur?
unfoldable pub ask_occurs : Marking → List ℕ → Outcome → Outcome
ask_occurs O names rest = ask (every O names) 19 0 rest

-- 1 to 10, and then the rest.
unfoldable pub open_checks : List ℕ → ℕ → Outcome → Outcome
open_checks b long rest = catalogue_checks b (ask_store b long rest)

-- 13, 14, 15 and 19, in this order: what the rows hold is read off the store as lent, right or not.
unfoldable pub content_checks : (b names store : List ℕ) → Outcome
content_checks b names store =
    ask_spare (spare_clear b store)
    (ask_limit (axioms_in_limit b (in_force b store))
    (ask_numbers b names
    (ask_occurs (occurs b (in_force b store)) names
    accepted)))

-- Lookup and row: 1 to 10, 13 to 15, 19.
unfoldable pub read_checks : (b names store : List ℕ) → Outcome
read_checks b names store = open_checks b (length store) (content_checks b names store)

-- Listing, with a list of so many bytes: 1 to 10, 12, 13 to 15, 19.
unfoldable pub list_checks : (b names store : List ℕ) → ℕ → Outcome
list_checks b names store long = open_checks b (length store) (ask_list b long (content_checks b names store))

-- What acceptance by all of them gives besides: the concepts named are the catalogue's and occur.
pub record Named (b names store : List ℕ) : Type 0 where
  pub clear : Clear b store
  pub few : axioms_in_limit b (in_force b store) ≡ true
  pub below : numbers_below b names ≡ true
  pub occur : every (occurs b (in_force b store)) names ≡ true
