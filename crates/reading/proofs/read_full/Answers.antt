-- `read_full` meets its contract: what one read takes follows what was taken before.
use Rattle.std.proofs.Common.{ℕ, ◌≤◌, List, length, rules, sym, subst}
use Rattle.std.specs.Io.KnownBytes.{Consumes}
use Rattle.std.proofs.KnownBytes.{Consumes-trans}
use Rattle.reading.proofs.Buffers.{taken_more}
use Rattle.reading.proofs.read_full.Goals as goal

pub loop-done-preserved : goal.loop-done-preserved
loop-done-preserved g c =
    let l = c.loop-done in
    let inside : l.done ≤ length l.buffer = l.invariant.within in
    record {
      within = search rules;
      taken = subst (λ (xs : List ℕ). Consumes (g.R.Read.remaining c.args.input.now) (g.R.Read.remaining c.read.new.self) xs)
          (sym (taken_more l.done _ c.in_ok-n.n l.buffer c.read.new.buf inside c.in_ok-n.ensures.bound.0))
          (Consumes-trans _ _ _ _ _ l.invariant.taken c.in_ok-n.ensures.bytes.0);
    }
