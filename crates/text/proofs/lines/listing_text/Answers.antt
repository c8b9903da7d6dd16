-- `listing_text` meets its contract.
use Prim.Native.Nat.{ℕ}
use native.Mathlib.Omega.{arith}
use mathlib.Core.Path.{ap₂, subst}
use mathlib.Core.List.{List, ◌++◌}
use Rattle.layout.specs.Parts.{held}
use Rattle.text.specs.Text.{Appended, summary}
use Rattle.text.specs.Lines.{pair_lines, listing}
use Rattle.text.proofs.Appending.{appended_more}
use Rattle.text.proofs.Decimals.{summary_most}
use borrow.Author.Rules.{rules}
use Rattle.text.proofs.lines.listing_text.Goals as goal

pub put_rows-requires : goal.put_rows-requires
put_rows-requires c =
    let n = c.concepts.result in
    let a = c.axioms.result in
    let summed = c.summary_text-end in
    let short = summary_most n a c.args.pairs c.args.links (search rules) (search rules) (omega (arith, c.well_formed)) (omega (arith, c.well_formed)) in
    (c.requires.0, omega (arith, c.requires.1, summed.ensures.ends, summed.auto.out, short))

pub returns : goal.returns
unfolding listing
returns c =
    let n = c.concepts in
    let a = c.axioms in
    let summed = c.summary_text-end in
    let lines = c.put_rows in
    subst (λ (t : List ℕ). Appended (t ++ pair_lines c.args.b.now (held c.args.b.now c.args.store.now)) c.args.out.now 0 lines.result lines.new.out)
    (ap₂ (λ (j k : ℕ). summary j k c.args.pairs c.args.links) n.ensures a.ensures)
    (appended_more _ _ _ _ _ _ _ _ (omega arith) summed.ensures lines.ensures)
