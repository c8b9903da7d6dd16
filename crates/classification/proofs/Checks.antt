-- Questions 1 to 11: what acceptance says, and each way to a refusal.
use Prim.Native.Nat.{ℕ, ◌≤◌}
use mathlib.Core.Path.{◌≡◌, ◌∙◌}
use mathlib.Core.Bool.{true, false}
use mathlib.Core.List.{List}
use borrow.Author.Tests.{leb-true}
use Rattle.catalogue.specs.Outcome.{accepted, refused}
use Rattle.catalogue.specs.Checks.{checked}
use Rattle.catalogue.specs.WellFormed.{WellFormed}
use Rattle.catalogue.proofs.Outcomes.{ask_yes, ask_no, ask_accepted, followed-both}
use Rattle.catalogue.proofs.Passed.{checks_followed, after_accepted, after_refused}
use Rattle.catalogue.proofs.Accepted.{accepted_well_formed}
use Rattle.layout.specs.Parts.{used, work_used}
use Rattle.store.specs.Checks.{store_fits, work_fits, ask_store, ask_work}
use Rattle.classification.specs.Classified.{classify_checks}

-- What is accepted: a well-formed catalogue, and buffers that are long enough.
pub record Fits (b : List ℕ) (store_length work_length : ℕ) : Type 0 where
  pub well_formed : WellFormed b
  pub store_long : used b ≤ store_length
  pub work_long : work_used b ≤ work_length

pub accepted_fits : (b : List ℕ) (store_length work_length : ℕ) → classify_checks b store_length work_length ≡ accepted → Fits b store_length work_length
unfolding classify_checks ask_store ask_work store_fits work_fits
accepted_fits b store_length work_length e =
    let one = followed-both (checked b) (ask_store b store_length (ask_work b work_length accepted)) (checks_followed b _ ∙ e) in
    let ten = ask_accepted (store_fits b store_length) 10 0 (ask_work b work_length accepted) one.1 in
    let eleven = ask_accepted (work_fits b work_length) 11 0 accepted ten.1 in
    record {
      well_formed = accepted_well_formed one.0;
      store_long = leb-true _ _ ten.0;
      work_long = leb-true _ _ eleven.0;
    }

-- Refused by 1 to 9, by 10, by 11, or accepted.
module _ (b : List ℕ) (store_length work_length : ℕ) where
  pub refused_catalogue : {number at : ℕ} → checked b ≡ refused number at → classify_checks b store_length work_length ≡ refused number at
  unfolding classify_checks
  refused_catalogue e = after_refused b _ e

  pub refused_store : checked b ≡ accepted → store_fits b store_length ≡ false → classify_checks b store_length work_length ≡ refused 10 0
  unfolding classify_checks ask_store
  refused_store e s = after_accepted b _ e ∙ ask_no 10 0 _ s

  pub refused_work : checked b ≡ accepted → store_fits b store_length ≡ true → work_fits b work_length ≡ false → classify_checks b store_length work_length ≡ refused 11 0
  unfolding classify_checks ask_store ask_work
  refused_work e s w = after_accepted b _ e ∙ ask_yes 10 0 _ s ∙ ask_no 11 0 _ w

  pub all_accepted : checked b ≡ accepted → store_fits b store_length ≡ true → work_fits b work_length ≡ true → classify_checks b store_length work_length ≡ accepted
  unfolding classify_checks ask_store ask_work
  all_accepted e s w = after_accepted b _ e ∙ ask_yes 10 0 _ s ∙ ask_yes 11 0 _ w
