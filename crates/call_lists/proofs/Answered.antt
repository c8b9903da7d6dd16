-- One call: a classify, a change, and either with its own parts of the lists and of the answers.
use Prim.Native.Nat.{ℕ, ◌+◌, ◌*◌}
use native.Mathlib.Omega.{arith}
use mathlib.Core.Path.{◌≡◌, refl, sym, ap, subst, ◌∙◌}
use mathlib.Core.List.{List, ◌++◌}
use lib.ListN.{get_or, take, drop}
use lib.Seq.{drop-drop}
use borrow.Rule.Slice.PartMut.{mid_of, put_mid}
use Rattle.std.proofs.Common.{Result}
use Rattle.catalogue.specs.declared.checks.Refusal.{Refusal}
use Rattle.classification.specs.Classified.{Classifies}
use Rattle.classification.specs.declared.Classified.{Classified}
use Rattle.change_contract.specs.Edits.{Lent, lend, Edits}
use Rattle.change_contract.specs.declared.Changed.{Changed}
use Rattle.demands.specs.Sequences.{Request, classify, change, classified, changed, Meets, classifies, changes}
use Rattle.call_lists.specs.Requests.{request_by, gone_at, new_at, request_at}
use Rattle.call_lists.specs.Running.{Space, space, entries_of, Answers, AnswersAt}

-- ---- by its kind

pub answers_classify : (q : Request) (b store work list : List ℕ) (a : Result Classified Refusal) (store' work' entries : List ℕ) → q ≡ classify
    → Classifies b store work a store' work' → entries ≡ entries_of (classified a) → Answers b q (lend store work list) (lend store' work' list) entries
answers_classify q b store work list a store' work' entries e call f =
    record {
      answer = classified a;
      meets = subst (λ (p : Request). Meets b (lend store work list) (lend store' work' list) p (classified a)) (sym e) (classifies call);
      entered = f;
      list_kept = λ z. refl;
    }

pub answers_change : (q : Request) (b withdrawn added : List ℕ) (u : Lent) (a : Result Changed Refusal) (v : Lent) (entries : List ℕ) → q ≡ change withdrawn added → Edits b withdrawn added u a v
    → entries ≡ entries_of (changed a) → Answers b q u v entries
answers_change q b withdrawn added u a v entries e call f =
    record {
      answer = changed a;
      meets = subst (λ (p : Request). Meets b u v p (changed a)) (sym e) (changes call);
      entered = f;
      list_kept = λ z. let y : ◌≡◌ {A = ℕ} 0 1 = cc in absurd (omega arith);
    }

-- ---- with its own parts

-- A part that was lent comes back in its place.
put_back : (a w d : ℕ) (xs ys : List ℕ) → d ≡ w → put_mid a d xs ys ≡ take a xs ++ (ys ++ drop (a + w) xs)
put_back a w d xs ys e = ap (λ (l : List ℕ). take a xs ++ (ys ++ l)) (drop-drop d a xs ∙ ap (λ (n : ℕ). drop (a + n) xs) e)

module _ (b calls : List ℕ) (k d e : ℕ) (withdrawn added : List ℕ) (u : Space) (store' work' list entries : List ℕ)
    (gone_is : withdrawn ≡ gone_at calls k) (New_is : added ≡ new_at calls k) (list_size : d ≡ 1024) (answer_size : e ≡ 6)
    (x : Answers b (request_by (get_or calls (525 * k) 0) withdrawn added) (lend u.store u.work (mid_of (1024 * k) d u.lists)) (lend store' work' list) entries) where
  request_is : request_by (get_or calls (525 * k) 0) withdrawn added ≡ request_at calls k
  unfolding request_at
  request_is = cc

  pub answers_at : AnswersAt b calls k u (space store' work' (put_mid (1024 * k) d u.lists list) (put_mid (6 * k) e u.answers entries))
  answers_at =
      record {
        list = list;
        entries = entries;
        answers =
            subst (λ (w : ℕ). Answers b (request_at calls k) (lend u.store u.work (take w (drop (1024 * k) u.lists))) (lend store' work' list) entries) list_size
            (subst (λ (q : Request). Answers b q (lend u.store u.work (mid_of (1024 * k) d u.lists)) (lend store' work' list) entries) request_is x);
        lists_are = put_back (1024 * k) 1024 d u.lists list list_size;
        answers_are = put_back (6 * k) 6 e u.answers entries answer_size;
      }
