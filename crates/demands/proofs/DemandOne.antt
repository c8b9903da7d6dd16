-- Demand 1 of every public call.
use Prim.Native.Nat.{ℕ}
use native.Mathlib.Omega.{arith}
use mathlib.Core.Path.{◌≡◌, refl, sym, ap, subst, ◌∙◌}
use mathlib.Core.List.Memᴰ
use mathlib.Core.List.{List, [], ◌∷◌, ◌++◌, Memᴰ}
use Rattle.catalogue.specs.Outcome.{Outcome, accepted, refused}
use Rattle.catalogue.specs.Checks.{catalogue_numbers, checked}
use Rattle.catalogue.proofs.Refusals.{refused_number}
use Rattle.catalogue.proofs.Accepted.{accepted_well_formed, accepted_total}
use Rattle.store.proofs.Work.{work_stays}
use Rattle.classification.proofs.Outcomes.{answer_outcome}
use Rattle.change_contract.proofs.Outcomes.{answer_outcome as change-answer}
use Rattle.writing.proofs.Outcomes.{answer_outcome as write-answer, refused_keeps}
use Rattle.lookups.specs.Listings.{kinds_under, list_after}
use Rattle.row_parts.specs.Rows.{row_answer}
use Rattle.lookups.proofs.Outcomes.{lookup_outcome_lem, list_outcome_lem}
use Rattle.row_parts.proofs.Outcomes.{row_outcome_lem}
use Rattle.meaning.proofs.DemandEntries.{listing_finds}
use Rattle.buffer_sizes.proofs.Answered.{answer_outcome as check-answer}
use Rattle.demands.specs.PublicCalls.{PublicCall, check, classify, change, lookup, listing, row, write, Buffers, lent_of, takes, share}
use Rattle.demands.specs.PublicCalls.{Returns, measures, classifies, changes, looks_up, lists, hands_out, writes}
use Rattle.demands.specs.DemandOne.{Fault, damaged_catalogue, Wrong, refusal, faults, ByFirst, none, here, later, Kept, RefusedFirst, DemandOne, EmptyTold}
use Rattle.demands.proofs.AfterCalls.{after_calls_lem}
use Rattle.demands.proofs.Questions.{check_asked, classify_asked, change_asked, read_asked, listing-asked, write_asked}

-- Every call asks about the catalogue first.
after_catalogue : (c : PublicCall) → (fs : List Fault) × (faults c ≡ damaged_catalogue ∷ fs)
after_catalogue check = (_, refl)
after_catalogue classify = (_, refl)
after_catalogue (change withdrawn added) = (_, refl)
after_catalogue (lookup c d) = (_, refl)
after_catalogue (listing d) = (_, refl)
after_catalogue (row c) = (_, refl)
after_catalogue write = (_, refl)

-- ---- what follows from the first fault

module _ (b : List ℕ) (u : Buffers) where
  none_accepted : {fs : List Fault} {o : Outcome} → ByFirst b u fs o → ((f : Fault) → Memᴰ f fs → ¬ (Wrong b u f)) → o ≡ accepted
  none_accepted none clean = refl
  none_accepted (here {f = f} w e) clean = absurd (clean f (Memᴰ.head refl) w)
  none_accepted (later n x) clean = none_accepted x (λ f m. clean f (Memᴰ.tail m))

  first_refuses : (before after : List Fault) (f : Fault) {fs : List Fault} {o : Outcome} → ByFirst b u fs o → fs ≡ before ++ (f ∷ after)
      → ((g : Fault) → Memᴰ g before → ¬ (Wrong b u g)) → Wrong b u f → o ≡ refusal b f
  first_refuses [] after f none e clean w = let z : ◌≡◌ {A = ℕ} 0 1 = cc in absurd (omega arith)
  first_refuses [] after f (here {f = g} x y) e clean w = let q : g ≡ f = cc in y ∙ ap (refusal b) q
  first_refuses [] after f (later {f = g} n x) e clean w = let q : g ≡ f = cc in absurd (n (subst (Wrong b u) (sym q) w))
  first_refuses (h ∷ before) after f none e clean w = let z : ◌≡◌ {A = ℕ} 0 1 = cc in absurd (omega arith)
  first_refuses (h ∷ before) after f (here {f = g} x y) e clean w = let q : g ≡ h = cc in absurd (clean h (Memᴰ.head refl) (subst (Wrong b u) q x))
  first_refuses (h ∷ before) after f (later {fs = gs} n x) e clean w =
      let q : gs ≡ before ++ (f ∷ after) = cc in
      first_refuses before after f x q (λ g m. clean g (Memᴰ.tail m)) w

  by_catalogue : (c : PublicCall) (o : Outcome) → ByFirst b u (faults c) o → Wrong b u damaged_catalogue
      → (number : ℕ) × (at : ℕ) × (o ≡ refused number at) × Memᴰ number catalogue_numbers
  by_catalogue c o first damaged = go (checked b) refl
    where
      same : o ≡ checked b
      same = let (fs, e) = after_catalogue c in first_refuses [] fs damaged_catalogue first e (λ g m. absurd (Memᴰ.not-nil m)) damaged

      go : (x : Outcome) → checked b ≡ x → (number : ℕ) × (at : ℕ) × (o ≡ refused number at) × Memᴰ number catalogue_numbers
      go accepted e = absurd (damaged (accepted_well_formed e, accepted_total b e))
      go (refused number at) e = (number, at, same ∙ e, refused_number b e)

  refused_first : (c : PublicCall) (o : Outcome) (v : Buffers) → ByFirst b u (faults c) o → ((number at : ℕ) → o ≡ refused number at → Kept (share b c) number u v)
      → RefusedFirst b u c o v
  refused_first c o v first keeps =
      record {
        by_first = first;
        each = λ before after f e clean w. first_refuses before after f first e clean w;
        damaged = by_catalogue c o first;
        keeps = keeps;
        all_else = none_accepted first;
      }

  -- A call that is lent nothing to write to.
  read_only : (c : PublicCall) (number : ℕ) → Kept (share b c) number u u
  read_only c number = record { store = refl; work = sym (work_stays (takes b c) number u.work); list = refl; output = refl }

-- ---- each call

calls : (b : List ℕ) (u : Buffers) (c : PublicCall) (o : Outcome) (v : Buffers) → Returns b u c o v → RefusedFirst b u c o v
calls b u c o v (measures {a = a} e) =
    let answer = check-answer b a e in
    refused_first b u c o v (subst (ByFirst b u (faults c)) (sym answer) (check_asked b u)) (λ number at _. read_only b u c number)
calls b u c o v (classifies {a = a} {store = store} {work = work} call) =
    let answer = answer_outcome b u.store u.work a store work call in
    refused_first b u c o v (subst (ByFirst b u (faults c)) (sym answer) (classify_asked b u))
    (λ number at e.
    let r = call.refuses number at (sym answer ∙ e) in
    record { store = r.store_kept; work = r.work_kept; list = refl; output = refl })
calls b u c o v (changes {withdrawn = withdrawn} {added = added} {a = a} {v = left} call) =
    let answer = change-answer b withdrawn added (lent_of u) a left call in
    refused_first b u c o v (subst (ByFirst b u (faults c)) (sym answer) (change_asked b u withdrawn added))
    (λ number at e.
    let k = call.refuses number at (sym answer ∙ e) in
    record { store = k.store_kept; work = k.work_kept; list = k.list_kept; output = refl })
calls b u c o v (looks_up {c = x} {d = y} {a = a} e) =
    let answer = lookup_outcome_lem b x y u.store a e in
    refused_first b u c o v (subst (ByFirst b u (faults c)) (sym answer) (read_asked b u (x ∷ y ∷ []))) (λ number at _. read_only b u c number)
calls b u c o v (lists {d = d} {a = a} {list = list} f) =
    let answer = list_outcome_lem a f in
    refused_first b u c o v (subst (ByFirst b u (faults c)) (sym answer) (listing-asked b u d))
    (λ number at e.
    record {
      store = refl;
      work = sym (work_stays 0 number u.work);
      list = f.entries ∙ ap (λ (x : Outcome). list_after x (kinds_under b d u.store) u.list) (sym answer ∙ e);
      output = refl;
    })
calls b u c o v (hands_out {c = x} {a = a} store part same h e) =
    let answer = row_outcome_lem b x u.store a (e ∙ ap (row_answer b x) same) in
    refused_first b u c o v (subst (ByFirst b u (faults c)) (sym answer) (read_asked b u (x ∷ []))) (λ number at _. read_only b u c number)
calls b u c o v (writes {a = a} {output = output} w) =
    let answer = write-answer a w in
    refused_first b u c o v (subst (ByFirst b u (faults c)) (sym answer) (write_asked b u))
    (λ number at e.
    record { store = refl; work = sym (work_stays 0 number u.work); list = refl; output = refused_keeps a w e })

pub demand_one : DemandOne
demand_one =
    record {
      calls = calls;
      empty_list = after_calls_lem EmptyTold
          (λ b F store u d list after f. ((listing_finds b F store u.catalogue u.range u.few u.fresh d list _ after f).means.empty.0 refl).2);
    }
