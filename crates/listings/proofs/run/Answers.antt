-- `run` meets its contract: an answer with a length is the length of the text of some input.
use Rattle.std.proofs.Common.{Some, ap, refl}
use Rattle.listings.specs.Program.{listed, unread, OfSomeInput}
use Rattle.listings.proofs.run.Goals as goal

pub returns-in-Ok : goal.returns-in-Ok
returns-in-Ok g c = let done = c.in-Ok.ensures in listed done.input done.within (ap Some done.counted)

pub returns-in-Err-Unwritten : goal.returns-in-Err-Unwritten
returns-in-Err-Unwritten g c = let made : OfSomeInput c.in-Err-Unwritten.end = rw c.in-Err-Unwritten.field-0-is at c.in-Err-Unwritten.ensures in listed made.input made.within (ap Some made.counted)

pub returns-in-Err-Unread : goal.returns-in-Err-Unread
returns-in-Err-Unread g c = unread refl
