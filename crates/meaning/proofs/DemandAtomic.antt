-- What the answers say of atomic kinds, and where 19 is left: from a store classified afresh (document 02, Two).
use Prim.Native.Nat.{ℕ, ◌≤◌, ◌<◌}
use mathlib.Core.Path.{◌≡◌}
use mathlib.Core.Logic.{◌↔◌, ◌⊎◌, inl, inr, ⊎_elim}
use mathlib.Core.List.{List, [], ◌∷◌}
use lib.ListN.{length}
use Rattle.std.proofs.Common.{Ok, Err}
use Rattle.catalogue.specs.Verdicts.{refusal}
use Rattle.catalogue.specs.Header.{concepts}
use Rattle.catalogue.specs.Outcome.{accepted}
use Rattle.catalogue.specs.Checks.{checked}
use Rattle.catalogue.specs.WellFormed.{WellFormed}
use Rattle.catalogue.proofs.Accepted.{accepted_well_formed}
use Rattle.booleans.proofs.Booleans.{by_bool, not-both}
use Rattle.rules.specs.Axioms.{Axioms, InRange}
use Rattle.rules.specs.Occurrence.{Occurs, atomic, occurs}
use Rattle.rules.proofs.Occurrence.{occurs_exact}
use Rattle.store.specs.Written.{axiom_count}
use Rattle.store.specs.Fresh.{Fresh}
use Rattle.read_checks.specs.Checks.{read_checks}
use Rattle.row_parts.specs.Rows.{row_answer}
use Rattle.lookups.specs.Listings.{kinds_under}
use Rattle.meaning.specs.Meaning.{LookupMeans}
use Rattle.lookups.specs.Answers.{looked_up}
use Rattle.meaning.specs.Atomic.{Absent, AtomicMeans}
use Rattle.row_parts.proofs.Answered.{row_accepted, row_refused}
use Rattle.meaning.proofs.DemandLookup.{lookup_means, occurring_answered}
use Rattle.meaning.proofs.DemandEntries.{listing_finds}
use Rattle.meaning.proofs.DemandRow.{row_not_refused, one_number, NamedOne, occurring, missing, outside, one_named}

module _ (b : List ℕ) (F : Axioms) (store : List ℕ) (catalogue : checked b ≡ accepted) (range : InRange b F) (few : axiom_count b F ≤ 4096) (fresh : Fresh b F store) where
  wf : WellFormed b
  wf = accepted_well_formed catalogue

  means : (c d : ℕ) → LookupMeans b F c d (looked_up b c d store)
  means = lookup_means b F store catalogue range few fresh

  -- What does not occur is no atomic kind.
  absent : (c : ℕ) → c < concepts b → ¬ (Occurs b F c) → Absent b F c
  absent c l out = (l, λ k. out (atomic (l, k)), out)

  row_absent : (c : ℕ) → (row_answer b c store ≡ Err (refusal 19 0)) ↔ Absent b F c
  row_absent c = go (one_named b F store catalogue range few fresh c)
    where
      go : NamedOne b F c (read_checks b (c ∷ []) store) → (row_answer b c store ≡ Err (refusal 19 0)) ↔ Absent b F c
      go (occurring e o) = (λ q. absurd (row_not_refused (row_accepted b c store e) q), λ a. absurd (a.2 o))
      go (missing e l n) = (λ _. absent c l n, λ _. row_refused b c store e)
      go (outside e m) = (λ q. absurd (one_number q (row_refused b c store e)), λ a. absurd (m a.0))

  pub atomic_means : AtomicMeans b F store
  atomic_means =
      record {
        yes_means = λ c d x y. (λ e. ((means c d).yes_means.0 e).2, λ n. (means c d).yes_means.1 (atomic x, atomic y, n));
        no_means = λ c d x y. (λ e. ((means c d).no_means.0 e).2, λ n. (means c d).no_means.1 (atomic x, atomic y, n));
        answers = λ c d x y. occurring_answered b F store catalogue range few fresh c d (atomic x) (atomic y);
        lists_itself = λ d x list r after f long.
            let finds = listing_finds b F store catalogue range few fresh d list r after f in
            let o : Occurs b F d = atomic x in
            let k = length (kinds_under b d store) in
            let counted : r ≡ Ok k = finds.means.counts long o in
            let (i, l, e) = (finds.entries k counted d).1 (x.1, o, λ m s y p h. h) in
            (k, counted, i, l, e);
        lookup_absent = λ c d. (
          λ e.
              let (lc, ld, out) = (means c d).absent.0 e in
              let which : Absent b F c ⊎ Absent b F d =
              by_bool (occurs b F c)
              (λ o. inr (absent d ld (λ p. out ((occurs_exact b F wf range c).0 o, p))))
              (λ n. inl (absent c lc (λ o. not-both ((occurs_exact b F wf range c).1 o) n)))
              in
              (lc, ld, which),
          λ (lc, ld, a). (means c d).absent.1 (lc, ld, λ (o, p). ⊎_elim (λ x. x.2 o) (λ y. y.2 p) a),
        );
        listing_absent = λ d list r after f.
            let m = (listing_finds b F store catalogue range few fresh d list r after f).means in
            (λ e. let q = m.absent.0 e in (q.0, absent d q.1 q.2), λ (long, a). m.absent.1 (long, a.0, a.2));
        row_absent = row_absent;
      }
