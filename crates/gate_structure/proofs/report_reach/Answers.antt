-- `report_reach` meets its contract: an accepted catalogue is well-formed.
use Rattle.catalogue.proofs.Bounds.{header_within}
use Rattle.structure.proofs.Acceptance.{verdict_well_formed}
use Rattle.gate_structure.proofs.report_reach.Goals as goal

pub close_roles-square-requires : goal.close_roles-square-requires
close_roles-square-requires g c = verdict_well_formed c.check.result c.check.ensures c.in-Ok.is

pub roles-requires : goal.roles-requires
roles-requires g c = header_within (verdict_well_formed c.check.result c.check.ensures c.in-Ok.is)

pub report_square-requires : goal.report_square-requires
report_square-requires g c = rw c.roles.ensures (verdict_well_formed c.check.result c.check.ensures c.in-Ok.is).roles_limit
