-- `check` puts questions 1 to 4 in order, and then 5 to 9: at each return the ones before it are answered yes.
use borrow.Author.Tests.{le-leb, lt-leb}
use mathlib.Core.Path.{◌≡◌, sym, ◌∙◌}
use mathlib.Core.Bool.{true}
use Rattle.catalogue.specs.Questions.{ask_all}
use Rattle.catalogue.specs.Checks.{header_fits, total_right, counts_in_limits, offsets_right, header_questions, catalogue_questions, catalogue_checks, checked}
use Rattle.catalogue.proofs.Outcomes.{ask_yes, ask_no}
use Rattle.catalogue.proofs.Tests.{sections}
use Rattle.catalogue.proofs.checks.check.Goals as goal
use Rattle.catalogue.proofs.checks.check.Goals.{Else-b-lt-SIZE, Else-not-counts_in_limits, Else-not-offsets_right, Else-not-total_right}

-- Each question where it is answered yes.
header_fits_lem : (c : Else-b-lt-SIZE) → header_fits c.args.b.now ≡ true
unfolding header_fits
header_fits_lem c = le-leb 20 _ c.if-b-lt-SIZE.false

total_right_lem : (c : Else-not-total_right) → total_right c.args.b.now ≡ true
total_right_lem c = sym c.total_right.ensures ∙ c.if-not-total_right.false

counts_in_limits_lem : (c : Else-not-counts_in_limits) → counts_in_limits c.args.b.now ≡ true
counts_in_limits_lem c = sym c.counts_in_limits.ensures ∙ c.if-not-counts_in_limits.false

offsets_right_lem : (c : Else-not-offsets_right) → offsets_right c.args.b.now ≡ true
offsets_right_lem c = sym c.offsets_right.ensures ∙ c.if-not-offsets_right.false

pub returns-then-b-lt-SIZE : goal.returns-then-b-lt-SIZE
unfolding ask_all checked catalogue_checks catalogue_questions header_questions header_fits
returns-then-b-lt-SIZE c = sym (ask_no 1 0 _ (lt-leb 20 _ c.if-b-lt-SIZE.true))

pub returns-then-not-total_right : goal.returns-then-not-total_right
unfolding ask_all checked catalogue_checks catalogue_questions header_questions
returns-then-not-total_right c = sym (ask_yes 1 0 _ (header_fits_lem (goal.at.returns-then-not-total_right c).Else-b-lt-SIZE) ∙ ask_no 2 0 _ (sym c.total_right.ensures ∙ c.if-not-total_right.true))

pub returns-then-not-counts_in_limits : goal.returns-then-not-counts_in_limits
unfolding ask_all checked catalogue_checks catalogue_questions header_questions
returns-then-not-counts_in_limits c = sym (ask_yes 1 0 _ (header_fits_lem (goal.at.returns-then-not-counts_in_limits c).Else-b-lt-SIZE) ∙ ask_yes 2 0 _ (total_right_lem (goal.at.returns-then-not-counts_in_limits c).Else-not-total_right) ∙ ask_no 3 0 _ (sym c.counts_in_limits.ensures ∙ c.if-not-counts_in_limits.true))

pub returns-then-not-offsets_right : goal.returns-then-not-offsets_right
unfolding ask_all checked catalogue_checks catalogue_questions header_questions
returns-then-not-offsets_right c = sym (ask_yes 1 0 _ (header_fits_lem (goal.at.returns-then-not-offsets_right c).Else-b-lt-SIZE) ∙ ask_yes 2 0 _ (total_right_lem (goal.at.returns-then-not-offsets_right c).Else-not-total_right) ∙ ask_yes 3 0 _ (counts_in_limits_lem (goal.at.returns-then-not-offsets_right c).Else-not-counts_in_limits) ∙ ask_no 4 0 _ (sym c.offsets_right.ensures ∙ c.if-not-offsets_right.true))

pub check_records-requires : goal.check_records-requires
check_records-requires c = sections _ (total_right_lem (goal.at.check_records-requires c).Else-not-total_right) (offsets_right_lem c)

pub returns : goal.returns
unfolding ask_all checked catalogue_checks catalogue_questions header_questions
returns c = c.check_records.ensures ∙ sym (ask_yes 1 0 _ (header_fits_lem (goal.at.returns c).Else-b-lt-SIZE) ∙ ask_yes 2 0 _ (total_right_lem (goal.at.returns c).Else-not-total_right) ∙ ask_yes 3 0 _ (counts_in_limits_lem (goal.at.returns c).Else-not-counts_in_limits) ∙ ask_yes 4 0 _ (offsets_right_lem (goal.at.returns c).Else-not-offsets_right))
