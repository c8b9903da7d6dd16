-- The computed counts and lists of a change are those of the defined change.
use Prim.Native.Nat.{ℕ, ◌<◌, zero-le}
use native.Mathlib.Nat.{zero-add}
use mathlib.Core.Path.{◌≡◌, sym, ◌∙◌, ap, subst}
use mathlib.Core.Logic.Iff
use mathlib.Core.Logic.{◌↔◌, inl, inr, ⊎_elim}
use mathlib.Core.Bool.{Bool, true, ◌&&◌, not}
use mathlib.Core.List.Memᴰ
use mathlib.Core.List.{List, ◌++◌, Memᴰ}
use Rattle.catalogue.specs.Header.{concepts}
use Rattle.catalogue.specs.WellFormed.{WellFormed}
use Rattle.derivation.specs.Decided.{Marked, Decides}
use Rattle.derivation.specs.Tables.{has, image}
use Rattle.derivation.specs.Finite.{Finite, Numbered, Covers, marked}
use Rattle.derivation.specs.Rounds.{over_table, after_table, Counts}
use Rattle.derivation.proofs.Tables.{image_has, image-only}
use Rattle.booleans.proofs.Booleans.{both, negated, or_left, or_right}
use Rattle.derivation.proofs.Finite.{marked-expression}
use Rattle.derivation.proofs.Change.{over-held}
use Rattle.derivation.proofs.Computed.{over_computed, broken_computed, after_computed}
use Rattle.derivation.proofs.Counts.{removed_counts, returned_counts, gained_counts}
use Rattle.rules.specs.Axioms.{Axioms, InRange}
use Rattle.rules.specs.Occurrence.{occurs}
use Rattle.rules.specs.Rules.{Expression, Inference, partition, EL, allowed, Permits, Closure}
use Rattle.rules.specs.Changes.{OverDeleted, BrokenPartition, NewSet, ReturnedSet, GainedSet, GainingPartition, TouchedPartition}
use Rattle.rules.specs.Counts.{Size}
use Rattle.rules.specs.Presentation.{size, number, expression, presentation}
use Rattle.rules.proofs.Presentation.{presentation_numbered, numbered_exact}
use Rattle.rules.proofs.Changes.{over_same, broken_same, after_same, permits_covered, closure_computed, change_closure}
use Rattle.rules.proofs.Bounds.{partition_below, closure_bounded}
use Rattle.rules.proofs.Counts.{numbered_count}
use Rattle.store.specs.Written.{rising}
use Rattle.change_contract.specs.Edits.{Members}
use Rattle.change_contract.proofs.Members.{on_list, on_list_exact}
use Rattle.examples_common.specs.Entries.{Rows, Changed}
use Rattle.examples_common.specs.Computed.{passing, union, closure_of, removed_of, over_rows_of, returned_of, gained_of, broken_in, broken_of, gaining_in, gaining_of}
use Rattle.examples_common.proofs.Lists.{passing_exact}
use Rattle.examples_common.proofs.Classified.{rows_exact}

-- Numbers and lists that agree with the computed ones; the touched are the broken and the gaining, rising.
abbrev pub Computes : (b : List ℕ) (F G : Axioms) (removed returned gained : ℕ) (broken gaining touched : List ℕ) → Type 0
Computes b F G removed returned gained broken gaining touched =
    (removed_of b F G ≡ removed)
    × (returned_of b F G ≡ returned)
    × (gained_of b F G ≡ gained)
    × (broken_of b F G ≡ broken)
    × (gaining_of b F G ≡ gaining)
    × (touched ≡ rising (on_list (broken ++ gaining)) (concepts b))

-- One count for equal sets, whatever the listed inferences.
counts_same : (b : List ℕ) (G : Axioms) (S P : Expression → Type 0) (k : ℕ) → ((e : Expression) → S e ↔ P e) → Counts (EL b) (presentation b G) S k → Size b P k
counts_same b G S P k same c = record {
  test = c.test;
  decides = λ e. Iff.trans (c.decides e) (same e);
  within = λ e p. (numbered_exact b e).0 (c.within e ((same e).1 p));
  counted = c.counted ∙ numbered_count b c.test G;
}

module _ (b : List ℕ) (F G : Axioms) (wf : WellFormed b) (range_f : InRange b F) (range_g : InRange b G) where
  abbrev f : Finite (EL b)
  f = presentation b (union F G)

  abbrev old : Inference → Bool
  old = allowed b F (occurs b F)

  abbrev new : Inference → Bool
  new = allowed b G (occurs b G)

  abbrev h : ℕ
  h = closure_of b (union F G) F

  -- The least set of F, as the rounds hold it.
  abbrev Held : Expression → Type 0
  Held = Marked (marked (EL b) f h)

  laws : Numbered (EL b) f
  laws = presentation_numbered b (union F G) wf.some_concept

  covers_old : Covers (EL b) f old
  unfolding union
  covers_old = permits_covered b F (union F G) wf range_f (λ c d e. or_left (F c d) (G c d) e)

  covers_new : Covers (EL b) f new
  unfolding union
  covers_new = permits_covered b G (union F G) wf range_g (λ c d e. or_right (F c d) (G c d) e)

  right : (e : Expression) → Held e ↔ Closure b F e
  unfolding closure_of union
  right = closure_computed b F (union F G) wf range_f (λ c d e. or_left (F c d) (G c d) e)

  back : (e : Expression) → Closure b F e ↔ Held e
  back e = ((right e).1, (right e).0)

  over_iff : (e : Expression) → OverDeleted b F G Held e ↔ OverDeleted b F G (Closure b F) e
  over_iff e = (over_same (EL b) (Permits b F) (Permits b G) Held (Closure b F) right, over_same (EL b) (Permits b F) (Permits b G) (Closure b F) Held back)

  after_iff : (e : Expression) → NewSet b F G Held e ↔ NewSet b F G (Closure b F) e
  after_iff e = (after_same (EL b) (Permits b F) (Permits b G) Held (Closure b F) right, after_same (EL b) (Permits b F) (Permits b G) (Closure b F) Held back)

  -- The three counts.
  removed_counted : Size b (OverDeleted b F G (Closure b F)) (removed_of b F G)
  unfolding removed_of
  removed_counted = counts_same b (union F G) (OverDeleted b F G Held) (OverDeleted b F G (Closure b F)) (removed_of b F G) over_iff
      (removed_counts (EL b) f laws old new covers_old covers_new h)

  returned_counted : Size b (ReturnedSet b F G (Closure b F)) (returned_of b F G)
  unfolding returned_of
  returned_counted = counts_same b (union F G) (ReturnedSet b F G Held) (ReturnedSet b F G (Closure b F)) (returned_of b F G)
      (λ e. (λ r. ((over_iff e).0 r.0, (after_iff e).0 r.1), λ r. ((over_iff e).1 r.0, (after_iff e).1 r.1)))
      (returned_counts (EL b) f laws old new covers_old covers_new h)

  gained_iff : (e : Expression) → GainedSet b F G Held e ↔ GainedSet b F G (Closure b F) e
  gained_iff e = (λ g. ((after_iff e).0 g.0, λ l. g.1 ((right e).1 l)), λ g. ((after_iff e).1 g.0, λ l. g.1 ((right e).0 l)))

  gained_counted : Size b (GainedSet b F G (Closure b F)) (gained_of b F G)
  unfolding gained_of
  gained_counted = counts_same b (union F G) (GainedSet b F G Held) (GainedSet b F G (Closure b F)) (gained_of b F G) gained_iff
      (gained_counts (EL b) f laws old new covers_old covers_new h)

  -- A list of the partitions below n that pass a test decides what the test decides, where that has no others.
  listed : (P : ℕ → Type 0) (test : ℕ → Bool) → Decides test P → ((c : ℕ) → P c → c < concepts b) → (c : ℕ) → Memᴰ c (passing test 0 (concepts b)) ↔ P c
  listed P test exact below c = (
    λ m. (exact c).0 ((passing_exact test 0 (concepts b) c).0 m).2,
    λ p. (passing_exact test 0 (concepts b) c).1 (zero-le, subst (λ x. c < x) (sym (zero-add (concepts b))) (below c p), (exact c).1 p),
  )

  broken_exact : Decides (has (broken_in b F G)) (BrokenPartition b F G (Closure b F))
  unfolding broken_in
  broken_exact c = Iff.trans (broken_computed (EL b) f laws old new covers_old h c)
      (broken_same (EL b) (Permits b F) (Permits b G) Held (Closure b F) right, broken_same (EL b) (Permits b F) (Permits b G) (Closure b F) Held back)

  broken_below : (c : ℕ) → BrokenPartition b F G (Closure b F) c → c < concepts b
  broken_below c (e, o, p) = subst (λ x. x < concepts b) p (partition_below b e (closure_bounded b F wf range_f e (over-held (EL b) (Permits b F) (Permits b G) (Closure b F) o)))

  broken_listed : (c : ℕ) → Memᴰ c (broken_of b F G) ↔ BrokenPartition b F G (Closure b F) c
  unfolding broken_of
  broken_listed = listed (BrokenPartition b F G (Closure b F)) (has (broken_in b F G)) broken_exact broken_below

  -- The number of an expression is gained where the expression is.
  abbrev is_gained : ℕ → Bool
  is_gained k = has (after_table (EL b) f old new h) k && not (has h k)

  gained-number : (k : ℕ) → k < size b → (is_gained k ≡ true) ↔ GainedSet b F G (Closure b F) (expression b k)
  gained-number k l = (
    λ g. let r = (both (has after k) (not (has h k))).0 g in
        (after_number.0 r.0, λ m. (negated (has h k)).0 r.1 (held_number.1 m)),
    λ g. (both (has after k) (not (has h k))).1 (after_number.1 g.0, (negated (has h k)).1 (λ m. g.1 (held_number.0 m))),
  )
    where
      after : ℕ
      after = after_table (EL b) f old new h

      after_number : (has after k ≡ true) ↔ NewSet b F G (Closure b F) (expression b k)
      after_number = Iff.trans (Iff.symm (marked-expression (EL b) f laws after k l))
          (Iff.trans (after_computed (EL b) f laws old new covers_old covers_new h (expression b k)) (after_iff (expression b k)))

      held_number : (has h k ≡ true) ↔ Closure b F (expression b k)
      held_number = Iff.trans (Iff.symm (marked-expression (EL b) f laws h k l)) (right (expression b k))

  gaining_exact : Decides (has (gaining_in b F G)) (GainingPartition b F G (Closure b F))
  unfolding gaining_in
  gaining_exact c = (
    λ m. let r = image-only is_gained partition_of (size b) c m in (expression b r.0, (gained-number r.0 r.1).0 r.2, r.3),
    λ g. let e = g.0 in
        let l = (numbered_exact b e).1 (closure_bounded b G wf range_g e ((change_closure b F G wf range_f range_g e).0 g.1.0)) in
        let q = laws.back e l in
        subst (λ x. has (image is_gained partition_of (size b)) x ≡ true) (ap partition q ∙ g.2)
        (image_has is_gained partition_of (size b) (number b e) l
        ((gained-number (number b e) l).1 (subst (GainedSet b F G (Closure b F)) (sym q) g.1))),
  )
    where
      partition_of : ℕ → ℕ
      partition_of k = partition (expression b k)

  gaining_below : (c : ℕ) → GainingPartition b F G (Closure b F) c → c < concepts b
  gaining_below c (e, g, p) = subst (λ x. x < concepts b) p (partition_below b e (closure_bounded b G wf range_g e ((change_closure b F G wf range_f range_g e).0 g.0)))

  gaining_listed : (c : ℕ) → Memᴰ c (gaining_of b F G) ↔ GainingPartition b F G (Closure b F) c
  unfolding gaining_of
  gaining_listed = listed (GainingPartition b F G (Closure b F)) (has (gaining_in b F G)) gaining_exact gaining_below

  -- The pair rows of what is over-deleted.
  pub over_rows : (rows : List ℕ) → over_rows_of b F G ≡ rows → Rows (OverDeleted b F G (Closure b F)) rows
  unfolding over_rows_of
  over_rows rows r =
      subst (Rows (OverDeleted b F G (Closure b F))) r
      (rows_exact b (OverDeleted b F G (Closure b F)) (marked (EL b) f (over_table (EL b) f old new h))
      (λ e. Iff.trans (over_computed (EL b) f laws old new covers_old h e) (over_iff e))
      (λ e o. closure_bounded b F wf range_f e (over-held (EL b) (Permits b F) (Permits b G) (Closure b F) o)))

  -- Touched is broken or gaining.
  touched_members : (broken gaining touched : List ℕ) → ((c : ℕ) → Memᴰ c broken ↔ BrokenPartition b F G (Closure b F) c)
      → ((c : ℕ) → Memᴰ c gaining ↔ GainingPartition b F G (Closure b F) c) → touched ≡ rising (on_list (broken ++ gaining)) (concepts b)
      → Members (concepts b) (TouchedPartition b F G (Closure b F)) touched
  touched_members broken gaining touched p q are =
      record {
        test = on_list (broken ++ gaining);
        decides =
            λ c. (
              λ e. ⊎_elim (λ m. inl ((p c).0 m)) (λ m. inr ((q c).0 m)) (Memᴰ.append_cases broken ((on_list_exact (broken ++ gaining) c).0 e)),
              λ t. (on_list_exact (broken ++ gaining) c).1 (⊎_elim (λ x. Memᴰ.append_left gaining ((p c).1 x)) (λ x. Memᴰ.append_right broken ((q c).1 x)) t),
            );
        within = λ c t. ⊎_elim (broken_below c) (gaining_below c) t;
        are = are;
      }

  -- Numbers and lists that agree with the computed ones are right.
  pub changed : (x y z : ℕ) (broken gaining touched : List ℕ) → Computes b F G x y z broken gaining touched → Changed b F G x y z broken gaining touched
  changed x y z broken gaining touched (p, q, r, s, t, are) =
      let broken_right : (c : ℕ) → Memᴰ c broken ↔ BrokenPartition b F G (Closure b F) c = λ c. subst (λ l. Memᴰ c l ↔ BrokenPartition b F G (Closure b F) c) s (broken_listed c) in
      let gaining_right : (c : ℕ) → Memᴰ c gaining ↔ GainingPartition b F G (Closure b F) c = λ c. subst (λ l. Memᴰ c l ↔ GainingPartition b F G (Closure b F) c) t (gaining_listed c) in
      record {
        removed-right = subst (Size b (OverDeleted b F G (Closure b F))) p removed_counted;
        returned-right = subst (Size b (ReturnedSet b F G (Closure b F))) q returned_counted;
        gained-right = subst (Size b (GainedSet b F G (Closure b F))) r gained_counted;
        broken_right = broken_right;
        gaining_right = gaining_right;
        touched_right = touched_members broken gaining touched broken_right gaining_right are;
        after = change_closure b F G wf range_f range_g;
      }
