-- The calls in a row: none, and one more; and demand 3 of them.
use Prim.Native.Nat.{ℕ, zero, suc, ◌+◌, ◌*◌, ◌≤◌, ◌<◌}
use native.Mathlib.Omega.{arith}
use mathlib.Core.Path.{◌≡◌, refl, sym, ap, ap₂, subst, ◌∙◌}
use mathlib.Core.Bool.{true}
use mathlib.Core.Logic.{inl, ⊎_elim}
use mathlib.Core.List.{List, [], ◌∷◌, ◌++◌, map, map-append, append-nil, flat_map, nil≢cons, head-eq_of_cons-eq, tail-eq_of_cons-eq}
use mathlib.Core.List.Memᴰ
use mathlib.Core.List.{Memᴰ}
use lib.ListN.{length, take, drop, length-drop}
use lib.Seq.{take_all, take-add, length-take-le}
use Rattle.std.proofs.Common.{Result, Ok}
use Rattle.catalogue.specs.Outcome.{accepted}
use Rattle.rules.specs.Axioms.{none}
use Rattle.change_contract.specs.Questions.{Lengths}
use Rattle.classification.specs.Classified.{classify_checks}
use Rattle.change_contract.specs.Edits.{lend}
use Rattle.demands.specs.Sequences.{Request, classify, Call, outcome_of, Turn, Meets, RunsOn, Ran, nothing, first, Sequence, questions, after_calls, in_force_after, ClassifiedAfresh}
use Rattle.demands.proofs.Turns.{classify_turn_lem}
use Rattle.demands.proofs.DemandThree.{demand_three}
use Rattle.call_lists.specs.declared.Fault.{Fault}
use Rattle.call_lists.specs.Requests.{request_at, requests, part_of, call_right, carried}
use Rattle.call_lists.specs.Running.{Space, entries_of, AnswersAt, call_of, PassedOn, Runs, Runnable, Concludes, Carries, CarriesOut}
use Rattle.call_lists.proofs.Parts.{nothing_left, part_kept, part_written, flat_more}
use Rattle.call_lists.proofs.Listed.{requests_more, requests-first, first_classify, done_runnable}

-- ---- one turn more

ran_more : {store mid : List ℕ} {ts : List Turn} (t : Turn) → Ran store ts mid → RunsOn mid t → Ran store (ts ++ (t ∷ [])) t.store_after
ran_more t nothing x = first x nothing
ran_more t (first y run) x = first y (ran_more t run x)

passed_on_more : {work mid : List ℕ} {ts : List Turn} (t : Turn) → PassedOn work ts mid → t.work ≡ mid
    → (t.call.request ≡ classify → t.list_after ≡ t.list) → PassedOn work (ts ++ (t ∷ [])) t.work_after
passed_on_more t PassedOn.nothing e k = PassedOn.first e k PassedOn.nothing
passed_on_more t (PassedOn.first f l h) e k = PassedOn.first f l (passed_on_more t h e k)

-- The whole of a store is lent.
whole_lent : (store : List ℕ) (n : ℕ) → length store ≡ n → take n store ≡ store
whole_lent store n e = take_all n store (omega arith)

lengths_are : {s s' w w' l l' : ℕ} → s ≡ s' → w ≡ w' → l ≡ l'
    → ◌≡◌ {A = Lengths} (record { store = s; work = w; list = l }) (record { store = s'; work = w'; list = l' })
lengths_are {s} {s'} {w} {w'} {l} {l'} e f g =
    ap (λ (x : ℕ). record { store = x; work = w; list = l }) e
    ∙ ap (λ (x : ℕ). record { store = s'; work = x; list = l }) f
    ∙ ap (λ (x : ℕ). record { store = s'; work = w'; list = x }) g

-- ---- call k

-- The lengths of the buffers stay.
pub record Kept (u v : Space) : Type 0 where
  pub store_long : length v.store ≡ length u.store
  pub work_long : length v.work ≡ length u.work
  pub lists_long : length v.lists ≡ length u.lists
  pub answers_long : length v.answers ≡ length u.answers

module _ (b calls : List ℕ) (k : ℕ) (u v w : Space) (kept : Kept u v) (x : AnswersAt b calls k v w)
    (lists_room : 1024 * k + 1024 ≤ length u.lists) (answers_room : 6 * k + 6 ≤ length u.answers) where
  abbrev turn : Turn
  turn =
      record {
        call = call_of b u (request_at calls k);
        work = v.work;
        list = part_of (1024 * k) 1024 v.lists;
        answer = x.answers.answer;
        work_after = w.work;
        list_after = x.list;
        store_after = w.store;
      }

  part_long : length (part_of (1024 * k) 1024 v.lists) ≡ 1024
  part_long = length-take-le 1024 (drop (1024 * k) v.lists) (omega (arith, length-drop (1024 * k) v.lists, kept.lists_long, lists_room))

  runs_on : RunsOn v.store turn
  runs_on =
      let whole : take (length u.store) v.store ≡ v.store = whole_lent v.store (length u.store) kept.store_long in
      record {
        lent_is = lengths_are (ap length whole ∙ kept.store_long) kept.work_long part_long;
        part = inl refl;
        part_after = w.store;
        contract =
            subst (λ (s : List ℕ). Meets b (lend s v.work turn.list) (lend w.store w.work x.list) (request_at calls k) turn.answer) (sym whole)
            x.answers.meets;
        store_is = sym (ap (λ (l : List ℕ). w.store ++ l) (nothing_left v.store (length u.store) kept.store_long) ∙ append-nil w.store);
      }

  pub runs_more : Runs b calls k u v → Runs b calls (k + 1) u w
  runs_more r =
      let ts = r.turns in
      let lists = flat_map (λ (t : Turn). t.list_after) ts in
      let entries = flat_map (λ (t : Turn). entries_of t.answer) ts in
      let lists_next : 1024 * (k + 1) ≡ 1024 * k + 1024 = omega arith in
      let answers_next : 6 * (k + 1) ≡ 6 * k + 6 = omega arith in
      let lists_within : 1024 * k ≤ length u.lists = omega (arith, lists_room) in
      let answers_within : 6 * k ≤ length u.answers = omega (arith, answers_room) in
      record {
        turns = ts ++ (turn ∷ []);
        calls_are =
            map-append (λ (t : Turn). t.call) ts (turn ∷ [])
            ∙ ap (λ (l : List Call). l ++ (turn.call ∷ [])) r.calls_are
            ∙ sym (map-append (call_of b u) (requests calls k) (request_at calls k ∷ []))
            ∙ ap (map (call_of b u)) (sym (requests_more calls k));
        ran = ran_more turn r.ran runs_on;
        passed_on = passed_on_more turn r.passed_on refl x.answers.list_kept;
        lists_lent =
            ap (λ (n : ℕ). take n u.lists) lists_next
            ∙ take-add (1024 * k) 1024 u.lists
            ∙ ap₂ (λ (y z : List ℕ). y ++ z) r.lists_lent
            (sym (part_kept (1024 * k) u.lists v.lists lists lists_within kept.lists_long r.lists_are 1024))
            ∙ sym (flat_more (λ (t : Turn). t.list) ts turn);
        lists_are =
            part_written (1024 * k) u.lists v.lists lists lists_within kept.lists_long r.lists_are 1024 x.list w.lists x.lists_are
            ∙ ap₂ (λ (l : List ℕ) (n : ℕ). l ++ drop n u.lists) (sym (flat_more (λ (t : Turn). t.list_after) ts turn)) (sym lists_next);
        answers_are =
            part_written (6 * k) u.answers v.answers entries answers_within kept.answers_long r.answers_are 6
            (entries_of x.answers.answer) w.answers (x.answers_are ∙ ap (λ (l : List ℕ). take (6 * k) v.answers ++ (l ++ drop (6 * k + 6) v.answers)) x.answers.entered)
            ∙ ap₂ (λ (l : List ℕ) (n : ℕ). l ++ drop n u.answers) (sym (flat_more (λ (t : Turn). entries_of t.answer) ts turn)) (sym answers_next);
      }

pub runs_none : (b calls : List ℕ) (u : Space) → Runs b calls 0 u u
unfolding requests flat_map
runs_none b calls u =
    record { turns = []; calls_are = refl; ran = nothing; passed_on = PassedOn.nothing; lists_lent = refl; lists_are = refl; answers_are = refl }

-- ---- demand 3

module _ (b : List ℕ) (u : Space) where
  -- Every call gets catalogue b.
  with_catalogue : (ts : List Turn) (qs : List Request) → map (λ (t : Turn). t.call) ts ≡ map (call_of b u) qs → (t : Turn) → Memᴰ t ts
      → t.call.catalogue ≡ b
  with_catalogue [] qs e t m = absurd (Memᴰ.not-nil m)
  with_catalogue (s ∷ ts) [] e t m = absurd (nil≢cons (sym e))
  with_catalogue (s ∷ ts) (q ∷ qs) e t m =
      ⊎_elim
      (λ same. ap (λ (x : Turn). x.call.catalogue) same ∙ ap (λ (c : Call). c.catalogue) (head-eq_of_cons-eq e))
      (λ later. with_catalogue ts qs (tail-eq_of_cons-eq e) t later)
      (Memᴰ.cases_cons m)

  turns_conclude : (ts : List Turn) (qs : List Request) (last : List ℕ) → map (λ (t : Turn). t.call) ts ≡ map (call_of b u) (classify ∷ qs)
      → Ran u.store ts last → classify_checks b (length u.store) (length u.work) ≡ accepted
      → Concludes b (map (call_of b u) (classify ∷ qs)) ts u.store last
  unfolding questions in_force_after
  turns_conclude [] qs last e nothing ok = absurd (nil≢cons e)
  turns_conclude (t ∷ ts) qs last e (first x run) ok =
      let call : t.call ≡ call_of b u classify = head-eq_of_cons-eq e in
      let begins : t.call.request ≡ classify = ap (λ (c : Call). c.request) call in
      let answers : outcome_of t.answer ≡ accepted =
      (classify_turn_lem b none u.store t x begins).answers (ap (λ (c : Call). c.catalogue) call)
      ∙ ap (λ (c : Call). questions c.request b c.lent none) call
      ∙ ok
      in
      let all : Sequence b u.store t ts last =
      record { ran = first x run; begins = begins; begins_accepted = answers; one_catalogue = λ s m o. with_catalogue (t ∷ ts) (classify ∷ qs) e s m } in
      let (correct, ended) = demand_three b u.store t ts last all in
      record {
        head = t;
        rest = ts;
        turns_are = refl;
        sequence = all;
        correct = correct;
        afresh = subst (λ (cs : List Call). ClassifiedAfresh b (after_calls b none cs) last) e ended;
      }

pub carries : (b calls : List ℕ) (n : ℕ) (u v : Space) → (0 < n → call_right calls 0 ≡ true) → Runs b calls n u v → Carries b calls n u v
carries b calls zero u v begins r = record { runs = r; concludes = λ some ok. absurd (omega arith) }
carries b calls (suc n) u v begins r =
    record {
      runs = r;
      concludes = λ some ok.
          let (rest, e) = requests-first calls n in
          let all : requests calls (suc n) ≡ classify ∷ rest = e ∙ ap (λ (q : Request). q ∷ rest) (first_classify calls (begins some)) in
          subst (λ (qs : List Request). Concludes b (map (call_of b u) qs) r.turns u.store v.store) (sym all)
          (turns_conclude b u r.turns rest v.store (r.calls_are ∙ ap (map (call_of b u)) all) r.ran ok);
    }

-- ---- the answer

module _ (b calls : List ℕ) (u : Space) (answer : Result ℕ Fault) (asked : answer ≡ carried calls (length u.lists) (length u.answers)) where
  -- Refused, with every buffer kept.
  pub refuses_all : ((n : ℕ) → ¬ (answer ≡ Ok n)) → CarriesOut b calls u answer u
  refuses_all other = record { answers = asked; carries = λ n e. absurd (other n e); refuses = λ o. refl }

  -- Carried out.
  pub carries_all : (n : ℕ) (v : Space) → answer ≡ Ok n → Runs b calls n u v → CarriesOut b calls u answer v
  carries_all n v done r =
      let all : Runnable calls n u = done_runnable calls u n (sym asked ∙ done) in
      record {
        answers = asked;
        carries = λ m e.
            let same : n ≡ m = cc in
            subst (λ (k : ℕ). Carries b calls k u v) same (carries b calls n u v (λ some. all.right 0 some) r);
        refuses = λ other. absurd (other n done);
      }
