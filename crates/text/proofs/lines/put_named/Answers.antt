-- `put_named` meets its contract.
use native.Mathlib.Omega.{arith}
use mathlib.Core.Path.{sym, subst, ◌∙◌}
use mathlib.Core.Bool.{Bool, cond}
use mathlib.Core.List.{[]}
use Rattle.text.specs.Text.{pair_line, Appended}
use Rattle.text.proofs.Appending.{appended_nothing}
use Rattle.text.proofs.Listing.{pair_line_most}
use Rattle.text.proofs.lines.put_named.Goals as goal

pub put_pair-requires : goal.put_pair-requires
put_pair-requires c =
    let (sized, lower, upper, room) = c.requires in
    let limit = sized.well_formed.concepts_limit in
    omega (arith, pair_line_most c.args.c c.args.d (omega (arith, lower, limit)) (omega (arith, upper, limit)), room)

pub returns-then-is_named : goal.returns-then-is_named
returns-then-is_named c =
    let a = c.args in
    let p = c.put_pair in
    subst (λ (t : Bool). Appended (cond t (pair_line a.c a.d) []) a.out.now a.at p.result p.new.out)
    (sym c.if-is_named.true ∙ c.is_named.ensures)
    p.ensures

pub returns : goal.returns
returns c =
    let a = c.args in
    subst (λ (t : Bool). Appended (cond t (pair_line a.c a.d) []) a.out.now a.at a.at a.out.now)
    (sym c.if-is_named.false ∙ c.is_named.ensures)
    (appended_nothing a.out.now a.at (omega (arith, c.requires.3)))
