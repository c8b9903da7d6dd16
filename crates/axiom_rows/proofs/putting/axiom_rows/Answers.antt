-- `putting::axiom_rows` meets its contract: the last section is marked as a list.
use Rattle.catalogue.proofs.Bounds.{header_within}
use Rattle.axiom_rows.proofs.OwnAxioms.{own_in_table, own-marked}
use Rattle.axiom_rows.proofs.putting.axiom_rows.Goals as goal

pub axioms_at-from-requires : goal.axioms_at-from-requires
axioms_at-from-requires c = header_within c.requires.0.well_formed

pub mark_axioms-requires : goal.mark_axioms-requires
mark_axioms-requires c =
    own_in_table c.requires.0.well_formed c.args.s c.axioms_at-from.result c.args.table.now c.requires.0.is c.axioms_at-from.ensures c.requires.1

pub returns : goal.returns
returns c =
    let at = c.axioms_at-from in
    own-marked c.requires.0.well_formed c.args.s at.result c.args.table.now _ at.ensures c.mark_axioms.ensures
