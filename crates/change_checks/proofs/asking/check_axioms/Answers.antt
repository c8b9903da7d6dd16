-- `asking::check_axioms` puts 18, 16 and 17; each list is asked about alone, beside an empty one.
use Prim.Native.Nat.{ℕ, ◌+◌}
use mathlib.Core.Path.{sym, ap, ◌∙◌}
use mathlib.Core.Bool.{not}
use lib.Dec.{leb}
use borrow.Author.Tests.{le-leb, lt-leb}
use Rattle.layout.specs.Parts.{in_force}
use Rattle.change_contract.specs.Lists.{axioms_in}
use Rattle.change_contract.proofs.Asking.{axioms_pass, refused_absent, refused_in_force, refused_full}
use Rattle.change_checks.proofs.Asked.{absent_asked, present_asked, room_asked}
use Rattle.change_checks.proofs.asking.check_axioms.Goals as goal

pub returns-then-absent : goal.returns-then-absent
returns-then-absent c =
    let b = c.args.b.now in
    let F = in_force b c.args.store.now in
    let withdrawn = c.args.withdrawn.now in
    let added = c.args.added.now in
    sym (refused_absent b withdrawn added F (absent_asked b F withdrawn ∙ ap not (sym c.any_absent-absent.ensures ∙ c.if-absent.true)))

pub returns-then-present : goal.returns-then-present
returns-then-present c =
    let b = c.args.b.now in
    let F = in_force b c.args.store.now in
    let withdrawn = c.args.withdrawn.now in
    let added = c.args.added.now in
    sym
    (refused_in_force b withdrawn added F (absent_asked b F withdrawn ∙ ap not (sym c.any_absent-absent.ensures ∙ c.if-absent.false))
    (present_asked b F added ∙ ap not (sym c.any_present-present.ensures ∙ c.if-present.true)))

pub returns-then-not-count-more : goal.returns-then-not-count-more
unfolding axioms_in
returns-then-not-count-more c =
    let b = c.args.b.now in
    let F = in_force b c.args.store.now in
    let withdrawn = c.args.withdrawn.now in
    let added = c.args.added.now in
    let there = absent_asked b F withdrawn ∙ ap not (sym c.any_absent-absent.ensures ∙ c.if-absent.false) in
    let out = present_asked b F added ∙ ap not (sym c.any_present-present.ensures ∙ c.if-present.false) in
    sym
    (refused_full b withdrawn added F there out
    (room_asked b F withdrawn added c.requires.1.whole c.requires.5 c.requires.6 there out
    (ap (λ (n : ℕ). leb (n + axioms_in added) (4096 + axioms_in withdrawn)) (sym c.requires.4) ∙ lt-leb _ _ c.if-not-count-more.true)))

pub returns : goal.returns
unfolding axioms_in
returns c =
    let b = c.args.b.now in
    let F = in_force b c.args.store.now in
    let withdrawn = c.args.withdrawn.now in
    let added = c.args.added.now in
    let there = absent_asked b F withdrawn ∙ ap not (sym c.any_absent-absent.ensures ∙ c.if-absent.false) in
    let out = present_asked b F added ∙ ap not (sym c.any_present-present.ensures ∙ c.if-present.false) in
    sym
    (axioms_pass b withdrawn added F there out
    (room_asked b F withdrawn added c.requires.1.whole c.requires.5 c.requires.6 there out
    (ap (λ (n : ℕ). leb (n + axioms_in added) (4096 + axioms_in withdrawn)) (sym c.requires.4) ∙ le-leb _ _ c.if-not-count-more.false)))
