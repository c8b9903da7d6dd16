-- `requests::call_right` meets its contract.
use Prim.Native.Nat.{ℕ, ◌+◌, ◌*◌}
use native.Mathlib.Omega.{arith}
use mathlib.Core.Path.{sym, ap, ap₂, ◌∙◌}
use mathlib.Core.Bool.{Bool, ◌&&◌}
use lib.ListN.{get_or}
use lib.Dec.{leb}
use borrow.Author.Tests.{le-leb, lt-leb}
use Rattle.catalogue.specs.Words.{word}
use Rattle.call_lists.specs.Requests.{last_kind, call_right}
use Rattle.call_lists.proofs.requests.call_right.Goals as goal

pub returns-then-not-at-calls : goal.returns-then-not-at-calls
unfolding call_right
returns-then-not-at-calls c =
    let calls = c.args.calls.now in
    let k = c.args.k in
    sym
    (ap
    (λ (t : Bool). t && ((leb (get_or calls (525 * k) 0) (last_kind k) && leb (word calls (525 * k + 1)) 260) && leb (word calls (525 * k + 3)) 260))
    (lt-leb _ _ c.if-not-at-calls.true))

pub word-requires : goal.word-requires
word-requires c = omega (arith, c.if-not-at-calls.false)

pub word-requires-2 : goal.word-requires-2
word-requires-2 c = omega (arith, c.if-not-at-calls.false)

pub returns : goal.returns
unfolding call_right
returns c =
    let calls = c.args.calls.now in
    let k = c.args.k in
    ap₂ (λ (x y : ℕ). (leb (get_or calls (525 * k) 0) c.last_kind-last.result && leb x 260) && leb y 260) c.word.ensures c.word-2.ensures
    ∙ ap (λ (last : ℕ). (leb (get_or calls (525 * k) 0) last && leb (word calls (525 * k + 1)) 260) && leb (word calls (525 * k + 3)) 260) c.last_kind-last.ensures
    ∙ sym
    (ap
    (λ (t : Bool). t && ((leb (get_or calls (525 * k) 0) (last_kind k) && leb (word calls (525 * k + 1)) 260) && leb (word calls (525 * k + 3)) 260))
    (le-leb _ _ c.if-not-at-calls.false))
