-- Laws of questions asked in order, by induction over their list: accepted exactly if each is answered yes, refused by one of them with the first record at
-- fault, and asked part by part.
use Prim.Native.Nat.{ℕ, ◌<◌}
use mathlib.Core.Path.{◌≡◌, refl, sym, ap, subst, ◌∙◌}
use mathlib.Core.Logic.{◌⊎◌, inl, inr, ⊎_elim}
use mathlib.Core.Bool.{true, false}
use mathlib.Core.List.Memᴰ
use mathlib.Core.List.{List, [], ◌∷◌, ◌++◌, Memᴰ}
use Rattle.catalogue.specs.Outcome.{Outcome, accepted, refused, ask, ask_each, followed, First}
use Rattle.catalogue.specs.Questions.{count_of, Question, once, each, number_of, ask_all}
use Rattle.catalogue.proofs.Outcomes.{ask_yes, each_all, ask_accepted, each_accepted, ask_refused, each_refused, followed-ask, followed-each}

-- A question answered yes: of the whole catalogue, or of every record of its section.
abbrev pub Yes : List ℕ → Question → Type 0
Yes b (once number right) = right b ≡ true
Yes b (each number section right) = (k : ℕ) → k < count_of section b → right b k ≡ true

-- A question answered no, with the record at fault: 0, or the first that fails.
abbrev pub FaultAt : List ℕ → Question → ℕ → Type 0
FaultAt b (once number right) i = (right b ≡ false) × (i ≡ 0)
FaultAt b (each number section right) i = First (right b) (count_of section b) i × (i < count_of section b)

-- What holds of each question of a list.
abbrev pub Each : (Question → Type 0) → List Question → Type 0
Each P qs = (q : Question) → Memᴰ q qs → P q

pub none : (P : Question → Type 0) → Each P []
none P q m = absurd (Memᴰ.not-nil m)

pub also : (P : Question → Type 0) {q : Question} {qs : List Question} → P q → Each P qs → Each P (q ∷ qs)
also P here later p m = ⊎_elim (λ e. subst P (sym e) here) (later p) (Memᴰ.cases_cons m)

-- Accepted exactly if each question is answered yes and the rest accepts.
pub asked_yes : (qs : List Question) (b : List ℕ) (rest : Outcome) → Each (Yes b) qs → ask_all qs b rest ≡ rest
unfolding ask_all
asked_yes [] b rest all = refl
asked_yes (once number right ∷ qs) b rest all =
    ask_yes number 0 _ (all (once number right) (Memᴰ.head refl)) ∙ asked_yes qs b rest (λ q m. all q (Memᴰ.tail m))
asked_yes (each number section right ∷ qs) b rest all =
    each_all number _ (all (each number section right) (Memᴰ.head refl)) ∙ asked_yes qs b rest (λ q m. all q (Memᴰ.tail m))

pub asked_accepted : (qs : List Question) (b : List ℕ) (rest : Outcome) → ask_all qs b rest ≡ accepted → Each (Yes b) qs × (rest ≡ accepted)
unfolding ask_all
asked_accepted [] b rest e = (none (Yes b), e)
asked_accepted (once number right ∷ qs) b rest e =
    let (here, e') = ask_accepted (right b) number 0 (ask_all qs b rest) e in
    let (later, end) = asked_accepted qs b rest e' in
    (also (Yes b) here later, end)
asked_accepted (each number section right ∷ qs) b rest e =
    let (here, e') = each_accepted (right b) (count_of section b) number (ask_all qs b rest) e in
    let (later, end) = asked_accepted qs b rest e' in
    (also (Yes b) here later, end)

-- Refused by a question of the list, with the record at fault; or each is answered yes, and the rest refuses.
pub record RefusedBy (b : List ℕ) (qs : List Question) (number at : ℕ) : Type 0 where
  pub question : Question
  pub is_asked : Memᴰ question qs
  pub number_is : number_of question ≡ number
  pub fault : FaultAt b question at

refused_here : (b : List ℕ) (q : Question) (qs : List Question) {number at : ℕ} → number_of q ≡ number → FaultAt b q at → RefusedBy b (q ∷ qs) number at
refused_here b q qs n f = record { question = q; is_asked = Memᴰ.head refl; number_is = n; fault = f }

refused_later : {b : List ℕ} (q : Question) {qs : List Question} {number at : ℕ} → RefusedBy b qs number at → RefusedBy b (q ∷ qs) number at
refused_later q r = record { question = r.question; is_asked = Memᴰ.tail r.is_asked; number_is = r.number_is; fault = r.fault }

pub asked_refused : (qs : List Question) (b : List ℕ) (rest : Outcome) {number at : ℕ} → ask_all qs b rest ≡ refused number at
    → RefusedBy b qs number at ⊎ (Each (Yes b) qs × (rest ≡ refused number at))
unfolding ask_all number_of
asked_refused [] b rest e = inr (none (Yes b), e)
asked_refused (once number right ∷ qs) b rest e =
    let q = once number right in
    ⊎_elim (λ (n, i). inl (refused_here b q qs n i))
    (λ (here, e'). ⊎_elim (λ r. inl (refused_later q r)) (λ (later, end). inr (also (Yes b) here later, end)) (asked_refused qs b rest e'))
    (ask_refused (right b) number 0 (ask_all qs b rest) e)
asked_refused (each number section right ∷ qs) b rest e =
    let q = each number section right in
    ⊎_elim (λ (n, f). inl (refused_here b q qs n f))
    (λ (here, e'). ⊎_elim (λ r. inl (refused_later q r)) (λ (later, end). inr (also (Yes b) here later, end)) (asked_refused qs b rest e'))
    (each_refused (right b) (count_of section b) number (ask_all qs b rest) e)

-- One list after another.
pub asked-append : (ps qs : List Question) (b : List ℕ) (rest : Outcome) → ask_all (ps ++ qs) b rest ≡ ask_all ps b (ask_all qs b rest)
unfolding ask_all
asked-append [] qs b rest = refl
asked-append (once number right ∷ ps) qs b rest = ap (ask (right b) number 0) (asked-append ps qs b rest)
asked-append (each number section right ∷ ps) qs b rest = ap (ask_each (right b) (count_of section b) number) (asked-append ps qs b rest)

-- What follows the questions follows the last of them: the rest where they accept, and their refusal where they refuse.
pub asked-followed : (qs : List Question) (b : List ℕ) (one rest : Outcome) → followed (ask_all qs b one) rest ≡ ask_all qs b (followed one rest)
unfolding ask_all
asked-followed [] b one rest = refl
asked-followed (once number right ∷ qs) b one rest =
    followed-ask (right b) number 0 (ask_all qs b one) rest ∙ ap (ask (right b) number 0) (asked-followed qs b one rest)
asked-followed (each number section right ∷ qs) b one rest =
    followed-each (right b) (count_of section b) number (ask_all qs b one) rest
    ∙ ap (ask_each (right b) (count_of section b) number) (asked-followed qs b one rest)

pub after_yes : (qs : List Question) (b : List ℕ) (rest : Outcome) → ask_all qs b accepted ≡ accepted → ask_all qs b rest ≡ rest
unfolding followed
after_yes qs b rest e = sym (asked-followed qs b accepted rest) ∙ ap (λ (o : Outcome). followed o rest) e

pub after_no : (qs : List Question) (b : List ℕ) {number at : ℕ} (rest : Outcome) → ask_all qs b accepted ≡ refused number at
    → ask_all qs b rest ≡ refused number at
unfolding followed
after_no qs b rest e = sym (asked-followed qs b accepted rest) ∙ ap (λ (o : Outcome). followed o rest) e

-- The first part of a list, and then the others.
pub part_yes : (ps qs : List Question) (b : List ℕ) (rest : Outcome) → ask_all ps b accepted ≡ accepted → ask_all (ps ++ qs) b rest ≡ ask_all qs b rest
part_yes ps qs b rest e = asked-append ps qs b rest ∙ after_yes ps b (ask_all qs b rest) e

pub part_no : (ps qs : List Question) (b : List ℕ) {number at : ℕ} (rest : Outcome) → ask_all ps b accepted ≡ refused number at
    → ask_all (ps ++ qs) b rest ≡ refused number at
part_no ps qs b rest e = asked-append ps qs b rest ∙ after_no ps b (ask_all qs b rest) e
