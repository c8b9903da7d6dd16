-- Laws of questions in order: what a yes and a no answer, what acceptance says of each, and that what follows waits for acceptance.
use Prim.Native.Nat.{ℕ, ◌≤◌, ◌<◌}
use native.Mathlib.Decide.{dec_lt}
use native.Mathlib.Omega.{arith}
use mathlib.Core.Path.{◌≡◌, refl, sym, ap, subst, ◌∙◌}
use mathlib.Core.Logic.{◌⊎◌, inl, inr}
use mathlib.Core.Bool.{Bool, true, false}
use lib.Dec.{eqb}
use borrow.Author.Tests.{eqb-true, eq-eqb, ne_eqb}
use Rattle.catalogue.specs.Outcome.{Outcome, accepted, refused, ask, ask_each, followed, First, first_fault}
use Rattle.catalogue.proofs.FirstFault.{first_fault_lem, first_is}

-- One question.
pub ask_yes : {t : Bool} (number at : ℕ) (rest : Outcome) → t ≡ true → ask t number at rest ≡ rest
unfolding ask
ask_yes number at rest e = rw e

pub ask_no : {t : Bool} (number at : ℕ) (rest : Outcome) → t ≡ false → ask t number at rest ≡ refused number at
unfolding ask
ask_no number at rest e = rw e

-- A question to each of n records: all pass, or record i is the first that fails. n and m are one number under two names.
pub each_all : {ok : ℕ → Bool} {n : ℕ} (number : ℕ) (rest : Outcome) → ((k : ℕ) → k < n → ok k ≡ true) → ask_each ok n number rest ≡ rest
unfolding ask_each
each_all {ok} {n} number rest all =
    let f : First ok n n = record { within = omega arith; passed = all; fails = λ l. absurd (omega arith) } in
    ask_yes number _ rest (eq-eqb _ n (sym (first_is f)))

pub each_yes : (ok : ℕ → Bool) {n m i : ℕ} (number : ℕ) (rest : Outcome) → n ≡ m → i ≡ first_fault ok n → n ≤ i → ask_each ok m number rest ≡ rest
each_yes ok {n} {m} {i} number rest c e l = each_all number rest (λ k p. (first_fault_lem ok n).passed k (omega arith))

pub each_no : (ok : ℕ → Bool) {n m i : ℕ} (number : ℕ) (rest : Outcome) → n ≡ m → i ≡ first_fault ok n → i < n → ask_each ok m number rest ≡ refused number i
unfolding ask_each
each_no ok {n} {m} {i} number rest c e l =
    let f : i ≡ first_fault ok m = e ∙ ap (first_fault ok) c in
    ask_no number _ rest (ne_eqb _ m (λ q. absurd (omega arith))) ∙ ap (refused number) (sym f)

-- An outcome is one of the two.
pub never_both : {number at : ℕ} (o : Outcome) → o ≡ accepted → o ≡ refused number at → ⊥
never_both o p q = let z : ◌≡◌ {A = ℕ} 0 1 = cc in omega arith

-- What acceptance says: the answer was yes, and the rest is accepted.
pub ask_accepted : (t : Bool) (number at : ℕ) (rest : Outcome) → ask t number at rest ≡ accepted → (t ≡ true) × (rest ≡ accepted)
unfolding ask
ask_accepted true number at rest e = (refl, e)
ask_accepted false number at rest e = absurd (never_both (refused number at) e refl)

pub each_accepted : (ok : ℕ → Bool) (n number : ℕ) (rest : Outcome) → ask_each ok n number rest ≡ accepted → ((k : ℕ) → k < n → ok k ≡ true) × (rest ≡ accepted)
unfolding ask_each
each_accepted ok n number rest e =
    let a : (eqb (first_fault ok n) n ≡ true) × (rest ≡ accepted) = ask_accepted _ number _ rest e in
    let all : first_fault ok n ≡ n = eqb-true _ n a.0 in
    (λ k l. (first_fault_lem ok n).passed k (omega arith), a.1)

-- What a refusal says: the answer was no, or the rest refuses so.
pub ask_refused : (t : Bool) (number at : ℕ) (rest : Outcome) {n i : ℕ} → ask t number at rest ≡ refused n i
    → ((number ≡ n) × ((t ≡ false) × (i ≡ at))) ⊎ ((t ≡ true) × (rest ≡ refused n i))
unfolding ask
ask_refused true number at rest e = inr (refl, e)
ask_refused false number at rest {n} {i} e = inl (let same : number ≡ n = cc in same, (refl, let same : i ≡ at = cc in same))

pub each_refused : (ok : ℕ → Bool) (k number : ℕ) (rest : Outcome) {n i : ℕ} → ask_each ok k number rest ≡ refused n i
    → ((number ≡ n) × (First ok k i × (i < k))) ⊎ (((j : ℕ) → j < k → ok j ≡ true) × (rest ≡ refused n i))
unfolding ask_each
each_refused ok k number rest {n} {i} e = go (dec_lt (first_fault ok k) k)
  where
    f : First ok k (first_fault ok k)
    f = first_fault_lem ok k

    go : Dec (first_fault ok k < k) → ((number ≡ n) × (First ok k i × (i < k))) ⊎ (((j : ℕ) → j < k → ok j ≡ true) × (rest ≡ refused n i))
    go (yes l) =
        let o : refused number (first_fault ok k) ≡ refused n i = sym (ask_no number _ rest (ne_eqb _ k (λ q. absurd (omega arith)))) ∙ e in
        let here : first_fault ok k ≡ i = cc in
        inl (let same : number ≡ n = cc in same, (subst (First ok k) here f, omega arith))
    go (no g) =
        let all : first_fault ok k ≡ k = omega (arith, f.within) in
        inr (λ j l. f.passed j (omega arith), sym (ask_yes number _ rest (eq-eqb _ k all)) ∙ e)

-- A refusal by another number: the answer was yes, and the rest refuses so.
pub ask_past : (t : Bool) (number at : ℕ) (rest : Outcome) {n i : ℕ} → ¬ (number ≡ n) → ask t number at rest ≡ refused n i → (t ≡ true) × (rest ≡ refused n i)
unfolding ask
ask_past true number at rest other e = (refl, e)
ask_past false number at rest {n} other e = absurd (other (let same : number ≡ n = cc in same))

-- What follows questions follows the last of them.
pub followed-ask : (t : Bool) (number at : ℕ) (one rest : Outcome) → followed (ask t number at one) rest ≡ ask t number at (followed one rest)
unfolding ask followed
followed-ask true number at one rest = refl
followed-ask false number at one rest = refl

pub followed-each : (ok : ℕ → Bool) (n number : ℕ) (one rest : Outcome) → followed (ask_each ok n number one) rest ≡ ask_each ok n number (followed one rest)
unfolding ask_each
followed-each ok n number one rest = followed-ask _ number _ one rest

-- Both accept where one with what follows it does.
pub followed-both : (one rest : Outcome) → followed one rest ≡ accepted → (one ≡ accepted) × (rest ≡ accepted)
unfolding followed
followed-both accepted rest e = (refl, e)
followed-both (refused number at) rest e = absurd (never_both (refused number at) e refl)
