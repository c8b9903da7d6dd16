-- The questions of a change, each under its own name, in their order (document 02, request Four): 1 to 12, 22, 23, 13, 14, 15, 18, 16, 17. They take the
-- lengths lent, the answers to 13 and 14, and the axioms in force F. The call reads answers and F off its store; the axioms in force by arguments alone
-- (document 01: the book) have yes, yes and F.
use Rattle.std.specs.Prelude.{ℕ, ◌%◌, Bool, not, ◌&&◌, List, ◌++◌, leb, eqb, length}
use Rattle.rows.specs.Bits.{some_below}
use Rattle.catalogue.specs.Outcome.{Outcome, accepted, ask}
use Rattle.catalogue.specs.Checks.{catalogue_checks}
use Rattle.rules.specs.Axioms.{Axioms}
use Rattle.store.specs.Checks.{axioms_in_limit, ask_store, ask_work, ask_list, ask_spare, ask_limit, ask_numbers}
use Rattle.change_contract.specs.Lists.{axioms_in, left_in, right_in, among, sides_in, edited}

-- The lengths of the buffers lent.
pub record Lengths : Type 0 where
  pub store : ℕ
  pub work : ℕ
  pub list : ℕ

abbrev pub lent : (store work list : ℕ) → Lengths
lent store work list = record { store = store; work = work; list = list }

-- 22: a list of at most 64 axioms, and of whole ones?
unfoldable pub is_whole : ℕ → Bool
is_whole long = leb long 256 && eqb (long % 4) 0

-- 23: no axiom twice? Axiom k repeats one before it.
unfoldable pub repeats : List ℕ → ℕ → Bool
repeats list k = among list k (left_in list k) (right_in list k)

unfoldable pub none_twice : List ℕ → Bool
none_twice list = not (some_below (repeats list) (axioms_in list))

-- 18: is every axiom of a list in force? 16: is none?
unfoldable pub all_in_force : Axioms → List ℕ → Bool
all_in_force F list = not (some_below (λ k. not (F (left_in list k) (right_in list k))) (axioms_in list))

unfoldable pub none_in_force : Axioms → List ℕ → Bool
none_in_force F list = not (some_below (λ k. F (left_in list k) (right_in list k)) (axioms_in list))

-- Each question, and then the rest.
unfoldable pub ask_whole : (withdrawn added : ℕ) → Outcome → Outcome
ask_whole withdrawn added rest = ask (is_whole withdrawn && is_whole added) 22 0 rest

unfoldable pub ask_twice : List ℕ → Outcome → Outcome
ask_twice list rest = ask (none_twice list) 23 0 rest

unfoldable pub ask_in_force : Axioms → List ℕ → Outcome → Outcome
ask_in_force F withdrawn rest = ask (all_in_force F withdrawn) 18 0 rest

unfoldable pub ask_new : Axioms → List ℕ → Outcome → Outcome
ask_new F added rest = ask (none_in_force F added) 16 0 rest

-- 17: at most 4,096 afterwards, G being in force then?
unfoldable pub ask_room : List ℕ → Axioms → Outcome → Outcome
ask_room b G rest = ask (axioms_in_limit b G) 17 0 rest

-- 10 to 12 and 22.
unfoldable pub length_checks : (b : List ℕ) (withdrawn added : ℕ) → Lengths → Outcome → Outcome
length_checks b withdrawn added lent rest =
    ask_store b lent.store
    (ask_work b lent.work
    (ask_list b lent.list
    (ask_whole withdrawn added
    rest)))

-- 18, 16 and 17.
unfoldable pub axiom_checks : (b withdrawn added : List ℕ) → Axioms → Outcome
axiom_checks b withdrawn added F =
    ask_in_force F withdrawn
    (ask_new F added
    (ask_room b (edited F withdrawn added)
    accepted))

-- 23, and what is asked of the store's content.
unfoldable pub content_checks : (b withdrawn added : List ℕ) → (clear few : Bool) → Axioms → Outcome
content_checks b withdrawn added clear few F =
    ask_twice (withdrawn ++ added)
    (ask_spare clear
    (ask_limit few
    (ask_numbers b (sides_in (withdrawn ++ added))
    (axiom_checks b withdrawn added F))))

-- All of them, for a change that withdraws the axioms of `withdrawn` and adds those of `added`.
unfoldable pub change_checks : (b withdrawn added : List ℕ) → Lengths → (clear few : Bool) → Axioms → Outcome
change_checks b withdrawn added lent clear few F =
    catalogue_checks b (length_checks b (length withdrawn) (length added) lent (content_checks b withdrawn added clear few F))
