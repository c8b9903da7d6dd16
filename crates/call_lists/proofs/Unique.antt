-- What carrying out a list of calls leaves is determined: the contract leaves one outcome for the answer and each buffer.
use Prim.Native.Nat.{ℕ, ◌*◌}
use native.Mathlib.Omega.{arith}
use mathlib.Core.Path.{◌≡◌, refl, sym, ap, ap₂, subst, ◌∙◌}
use mathlib.Core.List.{List, [], ◌∷◌, ◌++◌, map, flat_map, nil≢cons, head-eq_of_cons-eq, tail-eq_of_cons-eq}
use lib.ListN.{length, take, drop}
use lib.Seq.{take_at, drop_at}
use Rattle.std.proofs.Common.{Result, Ok, Err}
use Rattle.change_contract.specs.Questions.{Lengths}
use Rattle.classification.proofs.Unique.{classifies_unique}
use Rattle.change_contract.specs.Edits.{Lent, lend}
use Rattle.change_contract.proofs.Unique.{same_buffers, edit_unique}
use Rattle.demands.specs.Sequences.{Request, classify, change, Call, Answer, classified, changed, Turn, Meets, classifies, changes, RunsOn, Ran, nothing, first}
use Rattle.call_lists.specs.declared.Fault.{Fault}
use Rattle.call_lists.specs.Running.{Space, space, entries_of, PassedOn, Runs, CarriesOut}

-- ---- one call

meets_unique : (b : List ℕ) (u v v' : Lent) (q : Request) (a a' : Answer) → Meets b u v q a → Meets b u v' q a' → (q ≡ classify → v.list ≡ u.list)
    → (q ≡ classify → v'.list ≡ u.list) → (a ≡ a') × (v ≡ v')
meets_unique b u v v' classify (classified a) (classified a') (classifies c) (classifies c') k k' =
    let (same, store, work) = classifies_unique b u.store u.work a a' v.store v'.store v.work v'.work c c' in
    (ap classified same, same_buffers store work (k refl ∙ sym (k' refl)))
meets_unique b u v v' (change withdrawn added) (changed a) (changed a') (changes c) (changes c') k k' =
    let (same, left) = edit_unique b withdrawn added u a a' v v' c c' in
    (ap changed same, left)
meets_unique b u v v' classify (classified a) (changed a') _ m k k' = elim m [ ]
meets_unique b u v v' classify (changed a) _ m _ k k' = elim m [ ]
meets_unique b u v v' (change withdrawn added) (classified a) _ m _ k k' = elim m [ ]
meets_unique b u v v' (change withdrawn added) (changed a) (classified a') _ m k k' = elim m [ ]

-- Two turns of one call, with the same buffers before.
record SameAfter (t t' : Turn) : Type 0 where
  answer : t.answer ≡ t'.answer
  store : t.store_after ≡ t'.store_after
  work : t.work_after ≡ t'.work_after
  list : t.list_after ≡ t'.list_after

turn_unique : (store : List ℕ) (t t' : Turn) → RunsOn store t → RunsOn store t' → t.call ≡ t'.call → t.work ≡ t'.work → t.list ≡ t'.list
    → (t.call.request ≡ classify → t.list_after ≡ t.list) → (t'.call.request ≡ classify → t'.list_after ≡ t'.list) → SameAfter t t'
turn_unique store t t' x x' call work list k k' =
    let left = lend x.part_after t.work_after t.list_after in
    let left' = lend x'.part_after t'.work_after t'.list_after in
    let met : Meets t.call.catalogue (lend (take t.call.lent.store (drop t.call.from store)) t.work t.list) left' t.call.request t'.answer =
    subst (λ (c : Call). Meets c.catalogue (lend (take c.lent.store (drop c.from store)) t.work t.list) left' c.request t'.answer) (sym call)
    (subst (λ (w : List ℕ). Meets t'.call.catalogue (lend (take t'.call.lent.store (drop t'.call.from store)) w t.list) left' t'.call.request t'.answer) (sym work)
    (subst (λ (l : List ℕ). Meets t'.call.catalogue (lend (take t'.call.lent.store (drop t'.call.from store)) t'.work l) left' t'.call.request t'.answer) (sym list)
    x'.contract))
    in
    let kept : t.call.request ≡ classify → t'.list_after ≡ t.list = λ e. k' (sym (ap (λ (c : Call). c.request) call) ∙ e) ∙ sym list in
    let (answer, after) = meets_unique _ _ left left' t.call.request t.answer t'.answer x.contract met k kept in
    record {
      answer = answer;
      store =
          x.store_is
          ∙ ap₂ (λ (part : List ℕ) (c : Call). take c.from store ++ (part ++ drop c.lent.store (drop c.from store))) (ap (λ (l : Lent). l.store) after) call
          ∙ sym x'.store_is;
      work = ap (λ (l : Lent). l.work) after;
      list = ap (λ (l : Lent). l.list) after;
    }

-- ---- the calls in a row

-- Two lists with fronts of one length are the same where front and rest are.
fronts_same : (xs ys xs' ys' : List ℕ) → length xs ≡ length xs' → xs ++ ys ≡ xs' ++ ys' → (xs ≡ xs') × (ys ≡ ys')
fronts_same xs ys xs' ys' l e = (
  sym (take_at xs ys (length xs) refl) ∙ ap (take (length xs)) e ∙ take_at xs' ys' (length xs) (sym l),
  sym (drop_at xs ys (length xs) refl) ∙ ap (drop (length xs)) e ∙ drop_at xs' ys' (length xs) (sym l),
)

record SameLeft (ts ts' : List Turn) (last last' left left' : List ℕ) : Type 0 where
  store : last ≡ last'
  work : left ≡ left'
  lists : flat_map (λ (t : Turn). t.list_after) ts ≡ flat_map (λ (t : Turn). t.list_after) ts'
  answers : flat_map (λ (t : Turn). entries_of t.answer) ts ≡ flat_map (λ (t : Turn). entries_of t.answer) ts'

turns_unique : (ts ts' : List Turn) (store work last last' left left' : List ℕ) → map (λ (t : Turn). t.call) ts ≡ map (λ (t : Turn). t.call) ts'
    → Ran store ts last → Ran store ts' last' → PassedOn work ts left → PassedOn work ts' left'
    → flat_map (λ (t : Turn). t.list) ts ≡ flat_map (λ (t : Turn). t.list) ts' → SameLeft ts ts' last last' left left'
unfolding flat_map
turns_unique [] [] store work last last' left left' e nothing nothing PassedOn.nothing PassedOn.nothing f =
    record { store = refl; work = refl; lists = refl; answers = refl }
turns_unique [] (t' ∷ ts') store work last last' left left' e r r' p p' f = absurd (nil≢cons e)
turns_unique (t ∷ ts) [] store work last last' left left' e r r' p p' f = absurd (nil≢cons (sym e))
turns_unique (t ∷ ts) (t' ∷ ts') store work last last' left left' e (first x r) (first x' r') (PassedOn.first w k p) (PassedOn.first w' k' p') f =
    let call : t.call ≡ t'.call = head-eq_of_cons-eq e in
    let long : length t.list ≡ length t'.list =
    ap (λ (l : Lengths). l.list) x.lent_is ∙ ap (λ (c : Call). c.lent.list) call ∙ sym (ap (λ (l : Lengths). l.list) x'.lent_is) in
    let (list, lists) = fronts_same t.list (flat_map (λ (s : Turn). s.list) ts) t'.list (flat_map (λ (s : Turn). s.list) ts') long f in
    let same : SameAfter t t' = turn_unique store t t' x x' call (w ∙ sym w') list k k' in
    let others : SameLeft ts ts' last last' left left' =
    turns_unique ts ts' t.store_after t.work_after last last' left left' (tail-eq_of_cons-eq e) r
    (subst (λ (s : List ℕ). Ran s ts' last') (sym same.store) r') p (subst (λ (s : List ℕ). PassedOn s ts' left') (sym same.work) p') lists
    in
    record {
      store = others.store;
      work = others.work;
      lists = ap₂ ◌++◌ same.list others.lists;
      answers = ap₂ ◌++◌ (ap entries_of same.answer) others.answers;
    }

same_space : {u v : Space} → u.store ≡ v.store → u.work ≡ v.work → u.lists ≡ v.lists → u.answers ≡ v.answers → u ≡ v
same_space {u} {v} s w l a =
    ap₂ (λ (x y : List ℕ). space x y u.lists u.answers) s w ∙ ap₂ (λ (x y : List ℕ). space v.store v.work x y) l a

runs_unique : (b calls : List ℕ) (n : ℕ) (u v v' : Space) → Runs b calls n u v → Runs b calls n u v' → v ≡ v'
runs_unique b calls n u v v' r r' =
    let same = turns_unique r.turns r'.turns u.store u.work v.store v'.store v.work v'.work (r.calls_are ∙ sym r'.calls_are)
    r.ran r'.ran r.passed_on r'.passed_on (sym r.lists_lent ∙ r'.lists_lent)
    in
    same_space same.store same.work
    (r.lists_are ∙ ap (λ (l : List ℕ). l ++ drop (1024 * n) u.lists) same.lists ∙ sym r'.lists_are)
    (r.answers_are ∙ ap (λ (l : List ℕ). l ++ drop (6 * n) u.answers) same.answers ∙ sym r'.answers_are)

-- ---- the list

pub carries_out_unique : (b calls : List ℕ) (u : Space) (a a' : Result ℕ Fault) (v v' : Space) → CarriesOut b calls u a v → CarriesOut b calls u a' v'
    → (a ≡ a') × (v ≡ v')
carries_out_unique b calls u a a' v v' p q =
    let same : a ≡ a' = p.answers ∙ sym q.answers in
    (same, go a refl same)
  where
    refused : ((n : ℕ) → ¬ (a ≡ Ok n)) → a ≡ a' → v ≡ v'
    refused other e = p.refuses other ∙ sym (q.refuses (λ n f. other n (e ∙ f)))

    go : (o : Result ℕ Fault) → a ≡ o → a ≡ a' → v ≡ v'
    go (Ok n) e f = runs_unique b calls n u v v' (p.carries n e).runs (q.carries n (sym f ∙ e)).runs
    go (Err x) e f = refused (λ n g. let z : ◌≡◌ {A = ℕ} 0 1 = cc in omega arith) f
