-- `report_lengths` meets its contract: a store that fits is as long as its parts.
use Rattle.std.proofs.Common.{sym, ◌∙◌}
use Rattle.store.proofs.Checks.{store_long}
use Rattle.gate_store.proofs.report_lengths.Goals as goal

pub report_store-requires : goal.report_store-requires
report_store-requires g c =
    record { well_formed = c.requires; long = store_long c.args.b.now _ (sym c.store_fits.ensures ∙ c.if-not-store_fits.false) }
