-- The checks of a change: what acceptance says of the catalogue, of the buffers and of the axioms before and after it; and what they are of a store that
-- marks F.
use Prim.Native.Nat.{ℕ, ◌*◌, ◌≤◌}
use mathlib.Core.Path.{◌≡◌}
use mathlib.Core.Bool.{true}
use mathlib.Core.List.{List, ◌++◌}
use lib.ListN.{length}
use Rattle.catalogue.specs.Header.{concepts}
use Rattle.catalogue.specs.Outcome.{accepted}
use Rattle.catalogue.specs.WellFormed.{WellFormed}
use Rattle.catalogue.proofs.Accepted.{accepted_well_formed}
use Rattle.rules.specs.Axioms.{Axioms, InRange}
use Rattle.rules.specs.Rules.{Expression}
use Rattle.layout.specs.Parts.{used, work_used, in_force, spare_clear}
use Rattle.layout.proofs.StoreRows.{in_force_range}
use Rattle.store.specs.Written.{axiom_count}
use Rattle.store.specs.Fresh.{Marked}
use Rattle.store.specs.Checks.{axioms_in_limit, numbers_below}
use Rattle.store.proofs.Checks.{store_long, work_long, list_long, axioms_few}
use Rattle.change_contract.specs.Lists.{sides_in, edited}
use Rattle.change_contract.specs.Questions.{is_whole, none_twice, all_in_force, none_in_force, change_checks}
use Rattle.change_contract.specs.Edits.{Lent, lengths, asked}
use Rattle.change_contract.proofs.Lists.{whole_long, edited_in_range}
use Rattle.change_contract.proofs.Asking.{rest_passed, pass_axioms, changes_by_axioms}

-- ---- accepted

-- What an accepted change is lent, whatever the store holds.
pub record Accepted (b withdrawn added : List ℕ) (u : Lent) : Type 0 where
  pub well_formed : WellFormed b
  pub store_fits : used b ≤ length u.store
  pub work_fits : work_used b ≤ length u.work
  pub list_fits_lem : 2 * concepts b ≤ length u.list
  pub withdrawn_whole : is_whole (length withdrawn) ≡ true
  pub added_whole : is_whole (length added) ≡ true
  pub once : none_twice (withdrawn ++ added) ≡ true
  pub clear : spare_clear b u.store ≡ true
  pub few : axiom_count b (in_force b u.store) ≤ 4096
  pub numbers : numbers_below b (sides_in (withdrawn ++ added)) ≡ true
  pub all_there : all_in_force (in_force b u.store) withdrawn ≡ true
  pub all_new : none_in_force (in_force b u.store) added ≡ true
  pub after_few : axiom_count b (edited (in_force b u.store) withdrawn added) ≤ 4096
  pub range : InRange b (in_force b u.store)
  pub after_range : InRange b (edited (in_force b u.store) withdrawn added)

pub edit_accepted : (b withdrawn added : List ℕ) (u : Lent) → asked b withdrawn added u ≡ accepted → Accepted b withdrawn added u
unfolding asked
edit_accepted b withdrawn added u e =
    let F = in_force b u.store in
    let (p, rest) = rest_passed b withdrawn added (lengths u) (spare_clear b u.store) (axioms_in_limit b F) F e in
    let (there, out, room) = pass_axioms b withdrawn added F rest in
    let range = in_force_range b u.store p.spare_clear in
    record {
      well_formed = accepted_well_formed p.catalogue;
      store_fits = store_long b _ p.fit.store_fits;
      work_fits = work_long b _ p.fit.work_fits;
      list_fits_lem = list_long b _ p.fit.list_fits_lem;
      withdrawn_whole = p.fit.withdrawn_whole;
      added_whole = p.fit.added_whole;
      once = p.once;
      clear = p.spare_clear;
      few = axioms_few b F p.limit_kept;
      numbers = p.numbers;
      all_there = there;
      all_new = out;
      after_few = axioms_few b (edited F withdrawn added) room;
      range = range;
      after_range = edited_in_range b withdrawn added (whole_long (length withdrawn) p.fit.withdrawn_whole).1 p.numbers F range;
    }

-- ---- read off a store

-- Of a store that marks F, at most 4,096 axioms, they are those of lengths, lists and F.
pub asked_by_axioms : {S : Expression → Type 0} (b : List ℕ) (F : Axioms) (withdrawn added : List ℕ) (u : Lent) → Marked b F S u.store → axiom_count b F ≤ 4096
    → asked b withdrawn added u ≡ change_checks b withdrawn added (lengths u) true true F
unfolding asked
asked_by_axioms b F withdrawn added u marked few = changes_by_axioms b F u.store marked few withdrawn added (lengths u)
