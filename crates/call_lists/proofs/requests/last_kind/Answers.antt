-- `requests::last_kind` meets its contract.
use mathlib.Core.Path.{sym, ap}
use borrow.Author.Tests.{eq-eqb, ne_eqb}
use Rattle.call_lists.specs.Requests.{last_kind_by, last_kind}
use Rattle.call_lists.proofs.requests.last_kind.Goals as goal

pub returns-then-k-eq0 : goal.returns-then-k-eq0
unfolding last_kind last_kind_by
returns-then-k-eq0 c = sym (ap last_kind_by (eq-eqb _ 0 c.if-k-eq0.true))

pub returns : goal.returns
unfolding last_kind last_kind_by
returns c = sym (ap last_kind_by (ne_eqb _ 0 c.if-k-eq0.false))
