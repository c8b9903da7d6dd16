-- `exports::girvotal_list` meets its contract.
use Rattle.replies.proofs.Refusals.{list_fits_lem}
use Rattle.exports.proofs.girvotal_list.Goals as goal

pub give-requires : goal.give-requires
give-requires c =
    let called = c.listing-listed in
    (c.is_short.ensures.long c.if-is_short.false, rw c.list_reply.ensures (list_fits_lem called.result called.ensures))
