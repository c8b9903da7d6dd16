-- `rows::next_below` meets its contract: what the search finds is below n, or nothing is.
use native.Mathlib.Omega.{arith}
use mathlib.Core.Path.{sym, ◌∙◌}
use Rattle.rows.proofs.Lowest.{NextAt, at_next, none_next}
use Rattle.rows.proofs.next_below.Goals as goal

pub returns-then-i-n : goal.returns-then-i-n
returns-then-i-n c =
    let a = c.args in
    let found : NextAt a.row.now a.from c.in-Some.i =
    at_next a.row.now a.from c.in-Some.i
    (sym c.next.ensures ∙ c.in-Some.is)
    in
    record { within = omega arith; on = λ l. found.from; is_set = λ l. found.is_set; none_between = found.none_before }

pub returns-else-i-n : goal.returns-else-i-n
returns-else-i-n c =
    let a = c.args in
    let found : NextAt a.row.now a.from c.in-Some.i =
    at_next a.row.now a.from c.in-Some.i
    (sym c.next.ensures ∙ c.in-Some.is)
    in
    record {
      within = omega arith;
      on = λ l. l;
      is_set = λ l. absurd (let z : ⊥ = omega arith in z);
      none_between = λ k p q. found.none_before k p (omega arith);
    }

pub returns-in-None : goal.returns-in-None
returns-in-None c =
    let a = c.args in
    record {
      within = omega arith;
      on = λ l. l;
      is_set = λ l. absurd (let z : ⊥ = omega arith in z);
      none_between = λ k p q. none_next a.row.now a.from (sym c.next.ensures ∙ c.in-None.is) k p;
    }
