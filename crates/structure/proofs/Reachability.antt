-- Laws of role reach: transitive, and closed by Warshall's steps: one role more may stand between.
use Prim.Native.Nat.{ℕ, suc, ◌+◌, ◌<◌}
use native.Mathlib.Decide.{ℕ_discrete}
use native.Mathlib.Nat.{lt-suc_self}
use native.Mathlib.Numerals.{add-one}
use native.Mathlib.Omega.{arith}
use mathlib.Core.Path.{◌≡◌, refl, sym, subst, subst⁻¹, ◌∙◌}
use mathlib.Core.Logic.{◌⊎◌, inl, inr, ◌↔◌, ⊎_elim, ⊎_map}
use mathlib.Core.Bool.{Bool, true, false, false≢true, ◌&&◌, ◌||◌, or-true}
use mathlib.Core.List.{List}
use Rattle.catalogue.specs.Header.{inclusions}
use Rattle.catalogue.specs.Records.{within, around}
use Rattle.catalogue.specs.WellFormed.{WellFormed}
use Rattle.structure.specs.Reach.{Reach, here, up}
use Rattle.structure.specs.Square.{Square, mark, Included, MarksExactly, Through, Closed}

pub transitive : {b : List ℕ} {r t s : ℕ} → Reach b r t → Reach b t s → Reach b r s
transitive here q = q
transitive (up k l p) q = up k l (transitive p q)

pub of_inclusion : {b : List ℕ} (k : ℕ) → k < inclusions b → Reach b (within b k) (around b k)
of_inclusion k l = up k l here

-- Via b k r s: role r reaches role s with only roles below k between them.
pub data Via (b : List ℕ) (k : ℕ) : ℕ → ℕ → Type 0 where
  same : {r : ℕ} → Via b k r r
  one : (j : ℕ) → j < inclusions b → Via b k (within b j) (around b j)
  join : {r t s : ℕ} → t < k → Via b k r t → Via b k t s → Via b k r s

pub via_reach : {b : List ℕ} {k r s : ℕ} → Via b k r s → Reach b r s
via_reach same = here
via_reach (one j l) = of_inclusion j l
via_reach (join l p q) = transitive (via_reach p) (via_reach q)

-- In a well-formed catalogue only roles below 16 stand between.
pub reach_via : {b : List ℕ} {r s : ℕ} → WellFormed b → Reach b r s → Via b 16 r s
reach_via w here = same
reach_via {b} w (up k l p) =
    let h : around b k < 16 = omega (arith, (w.inclusion k l).1, w.roles_limit) in
    join h (one k l) (reach_via w p)

-- With no role between, a role reaches itself and what it lies within.
pub via_none : {b : List ℕ} {r s : ℕ} → Included b (inclusions b) r s ↔ Via b 0 r s
via_none {b} {r} {s} = (to, from)
  where
    to : Included b (inclusions b) r s → Via b 0 r s
    to (inl e) = subst (Via b 0 r) e same
    to (inr (j, l, e, f)) = subst (λ (x : ℕ). Via b 0 x s) e (subst (Via b 0 (within b j)) f (one j l))

    from : {x y : ℕ} → Via b 0 x y → Included b (inclusions b) x y
    from same = inl refl
    from (one j l) = inr (j, l, refl, refl)
    from (join l p q) = absurd (let z : ⊥ = omega arith in z)

via_wider : {b : List ℕ} {k r s : ℕ} → Via b k r s → Via b (suc k) r s
via_wider same = same
via_wider (one j l) = one j l
via_wider {k = k} (join {t = t} l p q) = let h : t < suc k = omega arith in join h (via_wider p) (via_wider q)

-- A way with roles below suc k between is one with roles below k, or two that meet in k.
abbrev Meet : List ℕ → ℕ → ℕ → ℕ → Type 0
Meet b k r s = Via b k r s ⊎ (Via b k r k × Via b k k s)

pub via_through : (b : List ℕ) (k r s : ℕ) → Via b (k + 1) r s ↔ Meet b k r s
via_through b k r s = subst⁻¹ (λ (n : ℕ). Via b n r s ↔ Meet b k r s) (add-one k) (split, ⊎_elim via_wider (λ p. join (lt-suc_self k) (via_wider p.0) (via_wider p.1)))
  where
    reached : {x : ℕ} → Meet b k x k → Via b k x k
    reached (inl p) = p
    reached (inr p) = p.0

    left : {x : ℕ} → Meet b k k x → Via b k k x
    left (inl p) = p
    left (inr p) = p.1

    below : {x t y : ℕ} → t < k → Meet b k x t → Meet b k t y → Meet b k x y
    below l (inl p) (inl q) = inl (join l p q)
    below l (inl p) (inr q) = inr (join l p q.0, q.1)
    below l (inr p) (inl q) = inr (p.0, join l p.1 q)
    below l (inr p) (inr q) = inr (p.0, q.1)

    at : {x t y : ℕ} → t < suc k → Meet b k x t → Meet b k t y → Meet b k x y
    at {x} {t} {y} l p q = elim (ℕ_discrete t k) [
      | yes e ↦ inr (reached (rw e at p), left (rw e at q))
      | no n ↦ below (omega arith) p q
    ]

    split : {x y : ℕ} → Via b (suc k) x y → Meet b k x y
    split same = inl same
    split (one j l) = inl (one j l)
    split (join l p q) = at l (split p) (split q)

-- A disjunction with a conjunction, read as a test.
either : (x y z : Bool) → (x || (y && z)) ≡ true → (x ≡ true) ⊎ ((y ≡ true) × (z ≡ true))
either true y z e = inl refl
either false true true e = inr (refl, refl)
either false true false e = absurd (false≢true e)
either false false z e = absurd (false≢true e)

joined : (x y z : Bool) → (x ≡ true) ⊎ ((y ≡ true) × (z ≡ true)) → (x || (y && z)) ≡ true
joined x y z (inl e) = rw e
joined x y z (inr (e, f)) = rw (e, f) (or-true x)

-- A Warshall step: one role more between.
pub through_exact : (b : List ℕ) (k : ℕ) (square next : Square) → k < 16 → MarksExactly (Via b k) square → Through k square next → MarksExactly (Via b (k + 1)) next
through_exact b k square next l m t = record { exact = λ r s h h'. (to r s h h', from r s h h') }
  where
    to : (r s : ℕ) → r < 16 → s < 16 → mark next r s ≡ true → Via b (k + 1) r s
    to r s h h' e = (via_through b k r s).1
        (⊎_map (m.exact r s h h').0 (λ p. ((m.exact r k h l).0 p.0, (m.exact k s l h').0 p.1))
        (either (mark square r s) (mark square r k) (mark square k s) (sym (t r s h h') ∙ e)))

    from : (r s : ℕ) → r < 16 → s < 16 → Via b (k + 1) r s → mark next r s ≡ true
    from r s h h' v = t r s h h' ∙ joined (mark square r s) (mark square r k) (mark square k s)
        (⊎_map (m.exact r s h h').1 (λ p. ((m.exact r k h l).1 p.0, (m.exact k s l h').1 p.1)) ((via_through b k r s).0 v))

-- With all sixteen roles between, the square is closed.
pub via_closed : {b : List ℕ} {square : Square} → WellFormed b → MarksExactly (Via b 16) square → Closed b square
via_closed w m = record { exact = λ r s h h'. (λ e. via_reach ((m.exact r s h h').0 e), λ p. (m.exact r s h h').1 (reach_via w p)) }
