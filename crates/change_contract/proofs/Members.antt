-- The names of a set's members, rising: there is one such list, and a name is on it exactly where it is a member. A test of who is on a list.
use Prim.Native.Nat.{ℕ, zero, suc, ◌<◌}
use native.Mathlib.Nat.{not-suc-le-zero}
use native.Mathlib.Omega.{arith}
use mathlib.Core.Path.{◌≡◌, refl, sym, ap, subst, fun_ext, ◌∙◌}
use mathlib.Core.Logic.Iff
use mathlib.Core.Logic.{◌↔◌, ⊎_elim}
use mathlib.Core.Bool.{Bool, true, false≢true}
use mathlib.Core.List.{List, [], ◌∷◌, Memᴰ}
use lib.Dec.{eqb}
use borrow.Author.Tests.{eq-eqb, eqb-true}
use Rattle.booleans.proofs.Booleans.{by_bool, either}
use Rattle.rows.proofs.ByteBits.{split_last}
use Rattle.derivation.specs.Finite.{some}
use Rattle.derivation.proofs.Finite.{true_some}
use Rattle.derivation.proofs.Counts.{decides_agree}
use Rattle.store.specs.Written.{rising}
use Rattle.store.proofs.Rising.{rising_pass, rising_fail}
use Rattle.change_contract.specs.Edits.{Members}

-- Sets with the same members have the same names.
pub members_same : (n : ℕ) (T U : ℕ → Type 0) (names : List ℕ) → ((c : ℕ) → T c ↔ U c) → Members n T names → Members n U names
members_same n T U names same p =
    record {
      test = p.test;
      decides = λ c. Iff.trans (p.decides c) (same c);
      within = λ c u. p.within c ((same c).1 u);
      are = p.are;
    }

pub members_unique : (n : ℕ) (T : ℕ → Type 0) (xs ys : List ℕ) → Members n T xs → Members n T ys → xs ≡ ys
members_unique n T xs ys p q =
    p.are
    ∙ ap (λ (t : ℕ → Bool). rising t n) (fun_ext (decides_agree p.test q.test T p.decides q.decides))
    ∙ sym q.are

-- ---- who is on the list

rising_member : (test : ℕ → Bool) (k c : ℕ) → c < k → test c ≡ true → Memᴰ c (rising test k)
rising_member test zero c l t = absurd (not-suc-le-zero l)
rising_member test (suc k) c l t =
    ⊎_elim
    (λ e.
    subst (Memᴰ c) (sym (rising_pass test k (subst (λ (x : ℕ). test x ≡ true) e t)))
    (mathlib.Core.List.Memᴰ.append_right (rising test k) (mathlib.Core.List.Memᴰ.head e)))
    (λ h.
    let m = rising_member test k c h t in
    by_bool (test k)
    (λ e. subst (Memᴰ c) (sym (rising_pass test k e)) (mathlib.Core.List.Memᴰ.append_left (k ∷ []) m))
    (λ e. subst (Memᴰ c) (sym (rising_fail test k e)) m))
    (split_last c k l)

member_rising : (test : ℕ → Bool) (k c : ℕ) → Memᴰ c (rising test k) → (c < k) × (test c ≡ true)
unfolding rising
member_rising test zero c m = absurd (mathlib.Core.List.Memᴰ.not-nil m)
member_rising test (suc k) c m =
    let earlier : Memᴰ c (rising test k) → (c < suc k) × (test c ≡ true) = λ n. let (l, t) = member_rising test k c n in (omega arith, t) in
    by_bool (test k)
    (λ e.
    ⊎_elim earlier (λ h. let s = mathlib.Core.List.Memᴰ.eq_of_singleton h in (omega arith, subst (λ (x : ℕ). test x ≡ true) (sym s) e))
    (mathlib.Core.List.Memᴰ.append_cases (rising test k) (subst (Memᴰ c) (rising_pass test k e) m)))
    (λ e. earlier (subst (Memᴰ c) (rising_fail test k e) m))

pub member_exact : (n : ℕ) (T : ℕ → Type 0) (names : List ℕ) → Members n T names → (c : ℕ) → Memᴰ c names ↔ T c
member_exact n T names p c = (
  λ m. (p.decides c).0 (member_rising p.test n c (subst (Memᴰ c) p.are m)).1,
  λ t. subst (Memᴰ c) (sym p.are) (rising_member p.test n c (p.within c t) ((p.decides c).1 t)),
)

-- ---- who is on any list

unfoldable pub on_list : List ℕ → ℕ → Bool
on_list names c = some (λ x. eqb x c) names

on_list_lem : (names : List ℕ) (c : ℕ) → on_list names c ≡ true → Memᴰ c names
unfolding on_list some
on_list_lem [] c e = absurd (false≢true e)
on_list_lem (x ∷ names) c e =
    ⊎_elim (λ h. mathlib.Core.List.Memᴰ.head (sym (eqb-true x c h))) (λ h. mathlib.Core.List.Memᴰ.tail (on_list_lem names c h)) ((either (eqb x c) (some (λ x. eqb x c) names)).0 e)

pub on_list_exact : (names : List ℕ) (c : ℕ) → (on_list names c ≡ true) ↔ Memᴰ c names
unfolding on_list
on_list_exact names c = (on_list_lem names c, λ m. true_some (λ x. eqb x c) names c m (eq-eqb c c refl))
