-- Demand 2: of every store that is classified afresh, and so after an accepted classify and after every list of calls. Then write, where the axioms in force
-- are the catalogue's own.
use Prim.Native.Nat.{ℕ}
use mathlib.Core.Path.{sym, ap, subst, ◌∙◌}
use mathlib.Core.List.{List}
use lib.ListN.{take}
use Rattle.std.proofs.Common.{Result}
use Rattle.catalogue.specs.declared.checks.Refusal.{Refusal}
use Rattle.rules.specs.Axioms.{Axioms}
use Rattle.store.specs.Written.{written}
use Rattle.store.proofs.WrittenBack.{written_back}
use Rattle.classification.proofs.Outcomes.{answer_outcome}
use Rattle.writing.specs.Write.{Writes}
use Rattle.writing.proofs.FreshWritten.{writes_long, writes_short}
use Rattle.lookups.specs.Answers.{looked_up}
use Rattle.meaning.specs.Meaning.{LookupMeans}
use Rattle.meaning.proofs.DemandLookup.{lookup_means, occurring_answered}
use Rattle.meaning.proofs.DemandEntries.{listing_finds}
use Rattle.meaning.proofs.DemandRow.{row_means}
use Rattle.meaning.proofs.DemandAtomic.{atomic_means}
use Rattle.demands.specs.WriteBack.{WritesOut, WritesBack, CallsThenWriteBack}
use Rattle.demands.specs.DemandTwo.{Meant, DemandTwo}
use Rattle.demands.proofs.FreshStores.{FreshStore, classify_leaves, fresh_front}
use Rattle.demands.proofs.AfterCalls.{after_calls_lem}

module _ (b : List ℕ) (F : Axioms) (store : List ℕ) (u : FreshStore b F store) where
  means : (c d : ℕ) → LookupMeans b F c d (looked_up b c d store)
  means c d = lookup_means b F store u.catalogue u.range u.few u.fresh c d

  writes_out : (output : List ℕ) (answer : Result ℕ Refusal) (output' : List ℕ) → Writes b store output answer output' → WritesOut (written b F) output answer output'
  writes_out output answer output' w =
      record {
        fits = writes_long b F store u.catalogue u.few u.fresh output answer output' w;
        short = writes_short b F store u.catalogue u.few u.fresh output answer output' w;
      }

  meant : Meant b F store
  meant =
      record {
        axioms = u.fresh.axioms;
        holds = u.fresh.set;
        yes_means = λ c d o p. (λ e. ((means c d).yes_means.0 e).2, λ n. (means c d).yes_means.1 (o, p, n));
        no_means = λ c d o p. (λ e. ((means c d).no_means.0 e).2, λ n. (means c d).no_means.1 (o, p, n));
        answers = λ c d. occurring_answered b F store u.catalogue u.range u.few u.fresh c d;
        lookups = λ c d r e. rw e (means c d);
        listings = λ d list r after f. listing_finds b F store u.catalogue u.range u.few u.fresh d list r after f;
        rows = λ c lent part r e h a.
            let v = subst (FreshStore b F) (sym e) u in
            row_means b F lent v.catalogue v.range v.few v.fresh c part r h a;
        writes = writes_out;
        atomics = atomic_means b F store u.catalogue u.range u.few u.fresh;
      }

pub demand_two : DemandTwo
demand_two =
    record {
      classified = λ b store work a store' work' call ok k long.
          meant b _ (take k store') (fresh_front b _ store' k long (classify_leaves b store work a store' work' call (sym (answer_outcome b store work a store' work' call) ∙ ok)));
      edited = after_calls_lem Meant meant;
    }

pub calls_then_write_back : CallsThenWriteBack
calls_then_write_back =
    after_calls_lem WritesBack
    (λ b F store u bytes own output answer output' w.
    subst (λ (c : List ℕ). WritesOut c output answer output') (ap (written b) own ∙ written_back b u.catalogue bytes)
    (writes_out b F store u output answer output' w))
