-- `program_text` meets its contract.
use Rattle.std.proofs.Common.{List, ℕ, arith, sym, subst}
use Rattle.text.specs.Text.{Appended}
use Rattle.listings.proofs.Program.{refused_text, done_fits, done_text}
use Rattle.listings.proofs.program_text.Goals as goal

pub listing_text-requires : goal.listing_text-requires
listing_text-requires c =
    let s = c.args in
    let called = c.classify in
    (done_fits s.input.now s.store.now s.work.now called.result called.new.store called.new.work c.requires.0 c.requires.1 called.ensures c.in-Ok.counts c.in-Ok.is called.new.store (omega (arith, c.requires.0, called.auto.store)), c.requires.2)

pub returns-in-Err : goal.returns-in-Err
returns-in-Err c =
    let s = c.args in
    let called = c.classify in
    subst (λ (t : List ℕ). Appended t s.out.now 0 c.refusal_text.result c.refusal_text.new.out)
    (sym (refused_text s.input.now s.store.now s.work.now called.result called.new.store called.new.work c.requires.0 c.requires.1 called.ensures c.in-Err.e c.in-Err.is))
    c.refusal_text.ensures

pub returns-in-Ok : goal.returns-in-Ok
returns-in-Ok c =
    let s = c.args in
    let called = c.classify in
    subst (λ (t : List ℕ). Appended t s.out.now 0 c.listing_text.result c.listing_text.new.out)
    (sym (done_text s.input.now s.store.now s.work.now called.result called.new.store called.new.work c.requires.0 c.requires.1 called.ensures c.in-Ok.counts c.in-Ok.is))
    c.listing_text.ensures
