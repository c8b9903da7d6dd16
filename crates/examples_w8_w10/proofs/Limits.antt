-- The most concepts: 512 atomic ones, accepted and classified, and one more.
use Prim.Native.Nat.{ℕ}
use mathlib.Core.Path.{◌≡◌, refl, subst, ◌∙◌}
use lib.Dec.{lit≤}
use Rattle.catalogue.specs.Words.{word, bytes_of}
use Rattle.catalogue.specs.Header.{concepts, roles, axioms}
use Rattle.catalogue.specs.Outcome.{accepted, refused}
use Rattle.catalogue.specs.Checks.{checked}
use Rattle.rows.specs.Bits.{count_below}
use Rattle.rows.proofs.Counting.{count_all}
use Rattle.rules.specs.Occurrence.{has_kind}
use Rattle.rules.proofs.Rules.{kind_exact}
use Rattle.layout.specs.Parts.{width, used, work_used}
use Rattle.store.specs.Examples.{atomic_header, atomic_concepts}
use Rattle.store.proofs.AtomicConcepts.{atomic_count, zero_record, atomic_accepted, atomic_too_many}
use Rattle.examples_w8_w10.specs.Stores.{atomic_store}
use Rattle.examples_common.specs.Calls.{ClassifyGives}
use Rattle.examples_w8_w10.proofs.W8.{w8_classify}

pub most_accepted : checked (atomic_concepts 512) ≡ accepted
most_accepted = atomic_accepted 512 (lit≤ tt) (lit≤ tt)

pub too_many_refused : checked (atomic_concepts 513) ≡ refused 3 0
too_many_refused = atomic_too_many 513 (lit≤ tt)

pub most_used : used (atomic_concepts 512) ≡ 65536
unfolding atomic_concepts atomic_header bytes_of word concepts roles width used
most_used = refl

pub most_work : work_used (atomic_concepts 512) ≡ 32768
unfolding atomic_concepts atomic_header bytes_of word concepts roles width work_used
most_work = refl

no_axioms_lem : axioms (atomic_concepts 512) ≡ 0
unfolding atomic_concepts atomic_header bytes_of word axioms
no_axioms_lem = refl

abbrev atoms : ℕ
atoms = count_below (has_kind (atomic_concepts 512) 0) (concepts (atomic_concepts 512))

all_atomic : atoms ≡ 512
all_atomic =
    count_all (has_kind (atomic_concepts 512) 0) (concepts (atomic_concepts 512)) (λ i l. (kind_exact (atomic_concepts 512) 0 i).1 (l, (zero_record 512 i l).0))
    ∙ atomic_count 512

pub most_classified : ClassifyGives (atomic_concepts 512) 65536 32768 512 0 (atomic_store (atomic_concepts 512))
most_classified =
    subst (λ (k : ℕ). ClassifyGives (atomic_concepts 512) 65536 32768 k 0 (atomic_store (atomic_concepts 512))) all_atomic
    (subst (λ (k : ℕ). ClassifyGives (atomic_concepts 512) 65536 k atoms 0 (atomic_store (atomic_concepts 512))) most_work
    (subst (λ (k : ℕ). ClassifyGives (atomic_concepts 512) k (work_used (atomic_concepts 512)) atoms 0 (atomic_store (atomic_concepts 512))) most_used
    (w8_classify (atomic_concepts 512) most_accepted no_axioms_lem)))
