-- `parts::contains` meets its contract: beside a clear row, exactly what concept i contains is marked.
use native.Mathlib.Omega.{arith}
use mathlib.Core.Path.{sym, ◌∙◌}
use mathlib.Core.Logic.{inr, ⊎_elim}
use lib.ListN.{length}
use Rattle.structure.proofs.Marking.{none_marked}
use Rattle.structure.proofs.parts.contains.Goals as goal

pub mark_contained-requires : goal.mark_contained-requires
mark_contained-requires c =
    let clear = c.clear in
    record {
      catalogue = c.requires.0;
      within = omega (arith, c.requires);
      room = omega (arith, c.requires, clear.auto.row);
      closed = λ i j l p h. absurd (none_marked clear.new.row (length c.args.row.now) i clear.ensures h);
    }

pub returns : goal.returns
returns c =
    let clear = c.clear in
    let a = c.mark_contained.ensures c.args.j in (
      λ h. ⊎_elim (λ o. absurd (none_marked clear.new.row (length c.args.row.now) c.args.j clear.ensures o)) (λ d. d) (a.0 (sym c.has.ensures ∙ h)),
      λ d. c.has.ensures ∙ a.1 (inr d),
    )
