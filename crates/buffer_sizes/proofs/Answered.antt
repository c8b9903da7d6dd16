-- What is answered where questions 1 to 9 accept or refuse, and what an answer says of them.
use Prim.Native.Nat.{ℕ, ◌*◌}
use native.Mathlib.Omega.{arith}
use mathlib.Core.Path.{◌≡◌, refl, sym, ap, ◌∙◌}
use mathlib.Core.List.{List}
use Rattle.std.proofs.Common.{Result, Ok, Err}
use Rattle.catalogue.specs.Header.{concepts}
use Rattle.catalogue.specs.Outcome.{Outcome, accepted, refused}
use Rattle.catalogue.specs.Checks.{checked}
use Rattle.catalogue.specs.Verdicts.{refusal}
use Rattle.catalogue.specs.declared.checks.Refusal.{Refusal}
use Rattle.layout.specs.Parts.{used, work_used}
use Rattle.buffer_sizes.specs.Sizes.{most_written, needed, outcome_of, sizes_of, Measures}
use Rattle.buffer_sizes.specs.declared.Sizes.{Sizes}

-- The four numbers, as the code computes them.
pub sizes_accepted : (b : List ℕ) {store work n output : ℕ} → checked b ≡ accepted → store ≡ used b → work ≡ work_used b → n ≡ concepts b → output ≡ most_written b
    → Measures b (Ok (needed store work (2 * n) output))
sizes_accepted b e es ew en eo = rw (es, ew, en, eo) (sym (ap (sizes_of b) e))

pub sizes_refused : (b : List ℕ) {number at : ℕ} → checked b ≡ refused number at → Measures b (Err (refusal number at))
sizes_refused b e = sym (ap (sizes_of b) e)

-- The answer's outcome is that of questions 1 to 9.
sizes_outcome : (b : List ℕ) (o : Outcome) → outcome_of (sizes_of b o) ≡ o
sizes_outcome b accepted = refl
sizes_outcome b (refused number at) = refl

pub answer_outcome : (b : List ℕ) (a : Result Sizes Refusal) → Measures b a → outcome_of a ≡ checked b
answer_outcome b a e = ap outcome_of e ∙ sizes_outcome b (checked b)

-- What the four numbers are.
pub record Answered (b : List ℕ) (store work list output : ℕ) : Type 0 where
  pub catalogue : checked b ≡ accepted
  pub store_is : store ≡ used b
  pub work_is : work ≡ work_used b
  pub list_is : list ≡ 2 * concepts b
  pub output_is : output ≡ most_written b

pub needed_answered : (b : List ℕ) (store work list output : ℕ) → Measures b (Ok (needed store work list output)) → Answered b store work list output
needed_answered b store work list output e = go (checked b) refl e
  where
    go : (o : Outcome) → checked b ≡ o → Ok (needed store work list output) ≡ sizes_of b o → Answered b store work list output
    go accepted f g =
        let h : needed store work list output ≡ needed (used b) (work_used b) (2 * concepts b) (most_written b) = cc in
        record {
          catalogue = f;
          store_is = ap (λ (s : Sizes). s.store) h;
          work_is = ap (λ (s : Sizes). s.work) h;
          list_is = ap (λ (s : Sizes). s.list) h;
          output_is = ap (λ (s : Sizes). s.output) h;
        }
    go (refused number at) f g = let z : ◌≡◌ {A = ℕ} 0 1 = cc in absurd (let n : ⊥ = omega arith in n)
