-- Classify of what was written.
use Prim.Native.Nat.{ℕ, ◌≤◌}
use native.Mathlib.Omega.{arith}
use mathlib.Core.Path.{◌≡◌, refl, sym, ap, subst, ◌∙◌}
use mathlib.Core.Bool.{true}
use mathlib.Core.List.{List, ◌++◌}
use lib.ListN.{length, take, drop}
use lib.Seq.{take_at}
use Rattle.std.proofs.Common.{Result, Ok}
use Rattle.catalogue.specs.declared.checks.Refusal.{Refusal}
use Rattle.catalogue.specs.Outcome.{Outcome, accepted}
use Rattle.catalogue.specs.Checks.{checked}
use Rattle.catalogue.specs.WellFormed.{WellFormed}
use Rattle.catalogue.proofs.Outcomes.{ask_accepted, followed-both}
use Rattle.catalogue.proofs.Passed.{checks_followed}
use Rattle.catalogue.proofs.Accepted.{accepted_well_formed}
use Rattle.rules.specs.Axioms.{Axioms}
use Rattle.layout.specs.Parts.{in_force, spare_clear}
use Rattle.store.specs.Fresh.{Fresh}
use Rattle.store.specs.Checks.{store_fits, axioms_in_limit, ask_store, ask_spare, ask_limit}
use Rattle.store.specs.Written.{axiom_count, written}
use Rattle.store.proofs.Checks.{axioms_few, marked-axioms}
use Rattle.store.proofs.Fresh.{fresh_unique}
use Rattle.layout.proofs.StoreRows.{in_force_range}
use Rattle.writing.specs.Write.{store_checks, write_checks, ByOutcome, wrote, stays}
use Rattle.demands.specs.Afresh.{ClassifiesAfresh}
use Rattle.demands.specs.WriteBack.{WriteThenClassify, WrittenClassifies, CallsWriteClassify}
use Rattle.demands.proofs.Afresh.{fresh_by_classify}
use Rattle.demands.proofs.AfterCalls.{after_calls_lem}

-- ---- what an accepted write says

by_length : (b store output : List ℕ) (o : Outcome) (answer : Result ℕ Refusal) (k : ℕ) (output' : List ℕ) → ByOutcome b store output o answer output' → answer ≡ Ok k
    → (o ≡ accepted)
    × (k ≡ length (written b (in_force b store)))
    × (output' ≡ written b (in_force b store) ++ drop (length (written b (in_force b store))) output)
by_length b store output o answer k output' (wrote e) q = (refl, cc, e)
by_length b store output o answer k output' stays q = let z : ◌≡◌ {A = ℕ} 0 1 = cc in absurd (let n : ⊥ = omega arith in n)

-- Accepted by 1 to 9, 13 and 14.
record Written (b store : List ℕ) : Type 0 where
  catalogue : checked b ≡ accepted
  spare : spare_clear b store ≡ true
  few : axiom_count b (in_force b store) ≤ 4096

asked : (b store : List ℕ) (long : ℕ) → write_checks b store long ≡ accepted → Written b store
unfolding write_checks store_checks ask_store ask_spare ask_limit
asked b store long e =
    let nine = followed-both (checked b) _ (checks_followed b _ ∙ e) in
    let ten = ask_accepted (store_fits b (length store)) 10 0 _ nine.1 in
    let thirteen = ask_accepted (spare_clear b store) 13 0 _ ten.1 in
    let fourteen = ask_accepted (axioms_in_limit b (in_force b store)) 14 0 _ thirteen.1 in
    record { catalogue = nine.0; spare = thirteen.0; few = axioms_few b (in_force b store) fourteen.0 }

pub written_classifies_alike : WriteThenClassify
written_classifies_alike b store output k output' fresh w =
    let (o, l, e) = by_length b store output (write_checks b store (length output)) (Ok k) k output' w refl in
    let p = asked b store (length output) o in
    let wf : WellFormed b = accepted_well_formed p.catalogue in
    let front : written b (in_force b store) ≡ take k output' = sym (ap (take k) e ∙ take_at _ _ k (sym l)) in
    let afresh : ClassifiesAfresh b (in_force b store) (take k output') =
    subst (ClassifiesAfresh b (in_force b store)) front (fresh_by_classify b (in_force b store) p.catalogue (in_force_range b store p.spare) p.few)
    in (
      afresh,
      λ store2 work answer store2' work' ls lk call.
          fresh_unique b (in_force b store) (in_force b store) store2' store wf (λ c d. refl) (afresh.leaves store2 work answer store2' work' ls lk call) fresh,
    )

pub calls_write_classify : CallsWriteClassify
calls_write_classify =
    after_calls_lem WrittenClassifies
    (λ b F store u output k output' w.
    let own = sym (marked-axioms b F store u.fresh) in
    let (afresh, alike) = written_classifies_alike b store output k output' (subst (λ (G : Axioms). Fresh b G store) own u.fresh) w in
    (subst (λ (G : Axioms). ClassifiesAfresh b G (take k output')) (sym own) afresh, alike))
