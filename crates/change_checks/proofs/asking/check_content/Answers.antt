-- `asking::check_content` puts 23, 13 to 15, and then the rest.
use Prim.Native.Nat.{ℕ, ◌≤◌}
use mathlib.Core.Path.{◌≡◌, sym, ap, ◌∙◌}
use mathlib.Core.Bool.{not}
use mathlib.Core.List.{List, ◌++◌}
use lib.Dec.{leb}
use borrow.Author.Tests.{le-leb, lt-leb}
use Rattle.catalogue.proofs.Outcomes.{ask_yes, ask_no}
use Rattle.catalogue.specs.Header.{concepts}
use Rattle.catalogue.specs.WellFormed.{WellFormed}
use Rattle.layout.specs.declared.Shape.{Shape}
use Rattle.layout.specs.Layout.{shape_of, Shaped}
use Rattle.layout.proofs.Sizes.{sizes}
use Rattle.layout.specs.Parts.{in_force}
use Rattle.store.specs.Checks.{axioms_in_limit, ask_spare, ask_limit, ask_numbers}
use Rattle.change_contract.specs.Questions.{ask_twice, content_checks}
use Rattle.change_checks.proofs.Asked.{twice_asked, beyond_asked}
use Rattle.change_checks.proofs.asking.check_content.Goals as goal

-- The shape counts the catalogue's concepts.
all_concepts : {b : List ℕ} {s : Shape} → WellFormed b → s ≡ shape_of b → s.concepts ≡ concepts b
all_concepts {b} {s} w e = let z : Shaped b s = record { well_formed = w; is = e } in (sizes z).concepts_is

pub returns-then-twice : goal.returns-then-twice
unfolding content_checks ask_twice
returns-then-twice c =
    let b = c.args.b.now in
    let F = in_force b c.args.store.now in
    let list = c.args.withdrawn.now ++ c.args.added.now in
    sym (ask_no 23 0 _ (twice_asked b F list ∙ ap not (sym c.any_repeated-twice.ensures ∙ c.if-twice.true)))

pub returns-then-not-spare_clear : goal.returns-then-not-spare_clear
unfolding content_checks ask_twice ask_spare
returns-then-not-spare_clear c =
    let b = c.args.b.now in
    let F = in_force b c.args.store.now in
    let list = c.args.withdrawn.now ++ c.args.added.now in
    sym
    (ask_yes 23 0 _ (twice_asked b F list ∙ ap not (sym c.any_repeated-twice.ensures ∙ c.if-twice.false))
    ∙ ask_no 13 0 _ (sym c.spare_clear.ensures ∙ c.if-not-spare_clear.true))

pub returns-then-not-count : goal.returns-then-not-count
unfolding content_checks ask_twice ask_spare ask_limit axioms_in_limit
returns-then-not-count c =
    let b = c.args.b.now in
    let F = in_force b c.args.store.now in
    let list = c.args.withdrawn.now ++ c.args.added.now in
    sym
    (ask_yes 23 0 _ (twice_asked b F list ∙ ap not (sym c.any_repeated-twice.ensures ∙ c.if-twice.false))
    ∙ ask_yes 13 0 _ (sym c.spare_clear.ensures ∙ c.if-not-spare_clear.false)
    ∙ ask_no 14 0 _ (ap (λ (n : ℕ). leb n 4096) (sym c.axiom_count-count.ensures) ∙ lt-leb _ _ c.if-not-count.true))

pub returns-then-beyond : goal.returns-then-beyond
unfolding content_checks ask_twice ask_spare ask_limit ask_numbers axioms_in_limit
returns-then-beyond c =
    let b = c.args.b.now in
    let F = in_force b c.args.store.now in
    let list = c.args.withdrawn.now ++ c.args.added.now in
    sym
    (ask_yes 23 0 _ (twice_asked b F list ∙ ap not (sym c.any_repeated-twice.ensures ∙ c.if-twice.false))
    ∙ ask_yes 13 0 _ (sym c.spare_clear.ensures ∙ c.if-not-spare_clear.false)
    ∙ ask_yes 14 0 _ (ap (λ (n : ℕ). leb n 4096) (sym c.axiom_count-count.ensures) ∙ le-leb _ _ c.if-not-count.false)
    ∙ ask_no 15 0 _ (beyond_asked b F list ∙ ap not (sym (rw (all_concepts c.requires.0.well_formed c.of-s.ensures) at c.any_beyond-beyond.ensures) ∙ c.if-beyond.true)))

pub check_axioms-requires : goal.check_axioms-requires
check_axioms-requires c =
    let b = c.args.b.now in
    let F = in_force b c.args.store.now in
    let list = c.args.withdrawn.now ++ c.args.added.now in
    let p = c.requires in
    let few : c.axiom_count-count.result ≤ 4096 = c.if-not-count.false in (
      record { well_formed = p.0.well_formed; is = c.of-s.ensures },
      p.1,
      p.2,
      few,
      c.axiom_count-count.ensures,
      twice_asked b F list ∙ ap not (sym c.any_repeated-twice.ensures ∙ c.if-twice.false),
      beyond_asked b F list ∙ ap not (sym (rw (all_concepts c.requires.0.well_formed c.of-s.ensures) at c.any_beyond-beyond.ensures) ∙ c.if-beyond.false),
    )

pub returns : goal.returns
unfolding content_checks ask_twice ask_spare ask_limit ask_numbers axioms_in_limit
returns c =
    let b = c.args.b.now in
    let F = in_force b c.args.store.now in
    let list = c.args.withdrawn.now ++ c.args.added.now in
    c.check_axioms.ensures
    ∙ sym
    (ask_yes 23 0 _ (twice_asked b F list ∙ ap not (sym c.any_repeated-twice.ensures ∙ c.if-twice.false))
    ∙ ask_yes 13 0 _ (sym c.spare_clear.ensures ∙ c.if-not-spare_clear.false)
    ∙ ask_yes 14 0 _ (ap (λ (n : ℕ). leb n 4096) (sym c.axiom_count-count.ensures) ∙ le-leb _ _ c.if-not-count.false)
    ∙ ask_yes 15 0 _ (beyond_asked b F list ∙ ap not (sym (rw (all_concepts c.requires.0.well_formed c.of-s.ensures) at c.any_beyond-beyond.ensures) ∙ c.if-beyond.false)))
