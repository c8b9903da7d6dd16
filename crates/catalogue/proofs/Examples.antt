-- The checks on the papers' examples, by computation.
use Prim.Native.Nat.{ℕ}
use mathlib.Core.Path.{◌≡◌, refl}
use mathlib.Core.List.{List, [], ◌∷◌, map}
use lib.ListN.{length, take, set}
use Rattle.catalogue.specs.Words.{word, bytes_of}
use Rattle.catalogue.specs.Header.{total, concepts, roles, inclusions, compositions, axioms, concepts_at, inclusions_at, compositions_at, axioms_at}
use Rattle.catalogue.specs.Records.{kind, first, second, within, around, role1, role2, result, left, right}
use Rattle.catalogue.specs.Outcome.{Outcome, accepted, refused, ask, ask_each, first_fault, first_fault_from}
use Rattle.catalogue.specs.Questions.{number_of, ask_all}
use Rattle.catalogue.specs.Checks.{header_fits, total_right, counts_in_limits, offsets_right, kind_right, fields_as_kind, fields_right, inclusion_right, composition_right, sides_right, above, rising_right, header_questions, concept_questions, role_questions, axiom_questions, record_questions, catalogue_questions, catalogue_numbers, catalogue_checks, checked}
use Rattle.catalogue.specs.WellFormed.{WellFormed}
use Rattle.catalogue.specs.Examples.{w1, all_sections, header_alone}
use Rattle.catalogue.proofs.Accepted.{accepted_well_formed}

-- What the checks compute by: a proof by computation that unfolds this unfolds them all.
unfoldable pub checks_compute : Unit {0}
unfolding word total concepts roles inclusions compositions axioms concepts_at inclusions_at compositions_at axioms_at kind first second within around role1 role2 result left right ask ask_each first_fault first_fault_from ask_all header_fits total_right counts_in_limits offsets_right kind_right fields_as_kind fields_right inclusion_right composition_right sides_right above rising_right header_questions concept_questions role_questions axiom_questions record_questions catalogue_questions catalogue_checks checked
checks_compute = tt

-- The numbers of the questions, in their order.
pub catalogue_numbers_lem : catalogue_numbers ≡ 1 ∷ 2 ∷ 3 ∷ 4 ∷ 5 ∷ 6 ∷ 7 ∷ 7 ∷ 8 ∷ 9 ∷ []
unfolding checks_compute number_of catalogue_numbers
catalogue_numbers_lem = refl

-- W1: 80 bytes, sections at 20, 62, 62 and 68, accepted, and so well-formed.
pub w1_offsets : (length w1 ≡ 80) × (concepts_at w1 ≡ 20) × (inclusions_at w1 ≡ 62) × (compositions_at w1 ≡ 62) × (axioms_at w1 ≡ 68)
unfolding w1 word concepts_at inclusions_at compositions_at axioms_at
w1_offsets = (refl, refl, refl, refl, refl)

pub w1_accepted : checked w1 ≡ accepted
unfolding checks_compute w1
w1_accepted = refl

pub w1_well_formed : WellFormed w1
w1_well_formed = accepted_well_formed w1_accepted

-- 19 bytes: 1.
pub nineteen_bytes : (b : List ℕ) → length b ≡ 19 → checked b ≡ refused 1 0
unfolding checks_compute
nineteen_bytes b e = rw e refl

-- n 512 passes question 3 (and this header is refused by 4); 513: 3.
pub most_concepts : checked (header_alone 512 16 64 64 4096) ≡ refused 4 0
unfolding checks_compute header_alone bytes_of
most_concepts = refl

pub too_many_concepts : checked (header_alone 513 16 64 64 4096) ≡ refused 3 0
unfolding checks_compute header_alone bytes_of
too_many_concepts = refl

-- A refusal by each question, with the record at fault, the first where several are.
abbrev pub Case : Type 0
Case = List ℕ × Outcome

unfoldable pub refusals : List Case
refusals =
    -- Too short.
    ([], refused 1 0) ∷
    (take 19 all_sections, refused 1 0) ∷
    -- A byte less, and a wrong total.
    (take 93 all_sections, refused 2 0) ∷
    (set all_sections 0 93, refused 2 0) ∷
    -- A header alone: at every limit it passes 3 and is refused by 4, and beyond any of them by 3.
    (header_alone 512 16 64 64 4096, refused 4 0) ∷
    (header_alone 0 16 64 64 4096, refused 3 0) ∷
    (header_alone 513 16 64 64 4096, refused 3 0) ∷
    (header_alone 512 17 64 64 4096, refused 3 0) ∷
    (header_alone 512 16 65 64 4096, refused 3 0) ∷
    (header_alone 512 16 64 65 4096, refused 3 0) ∷
    (header_alone 512 16 64 64 4097, refused 3 0) ∷
    -- Each offset.
    (set all_sections 12 21, refused 4 0) ∷
    (set all_sections 14 63, refused 4 0) ∷
    (set all_sections 16 71, refused 4 0) ∷
    (set all_sections 18 83, refused 4 0) ∷
    -- The kinds of concepts 3 and 5, and of concept 6 before the fields of concept 1.
    (set (set all_sections 38 4) 50 4, refused 5 3) ∷
    (set (set all_sections 56 4) 28 1, refused 5 6) ∷
    -- An atomic concept with a part, a role equal to m, a part equal to its record, a top with a part.
    (set all_sections 28 1, refused 6 1) ∷
    (set all_sections 46 2, refused 6 4) ∷
    (set all_sections 54 5, refused 6 5) ∷
    (set all_sections 60 1, refused 6 6) ∷
    -- Inclusion 1, composition 0, and both: inclusions first.
    (set all_sections 68 2, refused 7 1) ∷
    (set all_sections 70 2, refused 7 0) ∷
    (set (set all_sections 70 2) 68 2, refused 7 1) ∷
    -- A left side and a right side equal to n.
    (set all_sections 86 7, refused 8 1) ∷
    (set all_sections 84 7, refused 8 0) ∷
    -- Equal neighbours, and right sides that fall.
    (set (set all_sections 90 5) 92 3, refused 9 2) ∷
    (set (set all_sections 86 0) 88 3, refused 9 1) ∷ []

pub refused_each : map (λ (c : Case). checked c.0) refusals ≡ map (λ (c : Case). c.1) refusals
unfolding checks_compute all_sections header_alone bytes_of refusals
refused_each = refl

pub all_sections_accepted : checked all_sections ≡ accepted
unfolding checks_compute all_sections
all_sections_accepted = refl
