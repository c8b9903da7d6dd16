-- `list` meets its contract: what is written is the start of the buffer, where the text was put.
use Rattle.std.proofs.Common.{ℕ, List, subst}
use Rattle.std.specs.Io.KnownBytes.{Appends}
use Rattle.listings.proofs.Buffers.{appended_front}
use Rattle.listings.proofs.list.Goals as goal

pub returns-in-Ok-clause-written : goal.returns-in-Ok-clause-written
returns-in-Ok-clause-written g c =
    subst (λ (bytes : List ℕ). Appends (g.W.Write.contents c.args.out.now) (g.W.Write.contents c.write_all.new.self) bytes)
    (appended_front _ _ _ _ c.program_text-end.ensures)
    c.in-Ok.ensures.bytes
