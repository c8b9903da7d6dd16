-- Questions 1 to 9, each under its own name, and their order (document 01, Questions).
use Rattle.std.specs.Prelude.{ℕ, zero, suc, ◌+◌, ◌*◌, Bool, true, ◌&&◌, ◌||◌, false, List, [], ◌∷◌, ◌++◌, map, length, leb, ltb, eqb}
use Rattle.catalogue.specs.Header.{total, concepts, roles, inclusions, compositions, axioms, concepts_at, inclusions_at, compositions_at, axioms_at}
use Rattle.catalogue.specs.Records.{kind, first, second, within, around, role1, role2, result, left, right}
use Rattle.catalogue.specs.Outcome.{Outcome, accepted}
use Rattle.catalogue.specs.Questions.{in_concepts, in_inclusions, in_compositions, in_axioms, Question, once, each, number_of, ask_all}

-- 1: at least 20 bytes?
unfoldable pub header_fits : List ℕ → Bool
header_fits b = leb 20 (length b)

-- 2: the total field equal to the length?
unfoldable pub total_right : List ℕ → Bool
total_right b = eqb (total b) (length b)

-- 3: n 1 to 512, m 0 to 16, h and k 0 to 64, a 0 to 4,096?
unfoldable pub counts_in_limits : List ℕ → Bool
counts_in_limits b =
    leb 1 (concepts b) && (leb (concepts b) 512 && (leb (roles b) 16 && (leb (inclusions b) 64 && (leb (compositions b) 64 && leb (axioms b) 4096))))

-- 4: offsets and total as the counts give?
unfoldable pub offsets_right : List ℕ → Bool
offsets_right b =
    eqb (concepts_at b) 20
    && (eqb (inclusions_at b) (concepts_at b + 6 * concepts b)
    && (eqb (compositions_at b) (inclusions_at b + 4 * inclusions b)
    && (eqb (axioms_at b) (compositions_at b + 6 * compositions b)
    && eqb (total b) (axioms_at b + 4 * axioms b))))

-- 5: every kind at most 3?
unfoldable pub kind_right : List ℕ → ℕ → Bool
kind_right b i = leb (kind b i) 3

-- 6: a concept's fields as laid down: atomic and top 0 and 0; parts smaller than their own record; the role of an existential below m. No other kind
-- has fields laid down; 5 comes first.
unfoldable pub fields_as_kind : List ℕ → ℕ → ℕ → Bool
fields_as_kind b i zero = eqb (first b i) 0 && eqb (second b i) 0
fields_as_kind b i (suc zero) = eqb (first b i) 0 && eqb (second b i) 0
fields_as_kind b i (suc (suc zero)) = ltb (first b i) i && ltb (second b i) i
fields_as_kind b i (suc (suc (suc zero))) = ltb (first b i) (roles b) && ltb (second b i) i
fields_as_kind b i (suc (suc (suc (suc k)))) = false

unfoldable pub fields_right : List ℕ → ℕ → Bool
fields_right b i = fields_as_kind b i (kind b i)

-- 7: an inclusion's roles, and a composition's, below m?
unfoldable pub inclusion_right : List ℕ → ℕ → Bool
inclusion_right b k = ltb (within b k) (roles b) && ltb (around b k) (roles b)

unfoldable pub composition_right : List ℕ → ℕ → Bool
composition_right b k = ltb (role1 b k) (roles b) && (ltb (role2 b k) (roles b) && ltb (result b k) (roles b))

-- 8: an axiom's sides below n?
unfoldable pub sides_right : List ℕ → ℕ → Bool
sides_right b k = ltb (left b k) (concepts b) && ltb (right b k) (concepts b)

-- One axiom is above another: by left, then right.
unfoldable pub above : ℕ → ℕ → ℕ → ℕ → Bool
above l r l' r' = ltb l l' || (eqb l l' && ltb r r')

-- 9: an axiom above the one before it? The first has none before it.
unfoldable pub rising_right : List ℕ → ℕ → Bool
rising_right b zero = true
rising_right b (suc k) = above (left b k) (right b k) (left b (suc k)) (right b (suc k))

-- ---- the questions in their order

-- 1 to 4, of the header.
unfoldable pub header_questions : List Question
header_questions = once 1 header_fits ∷ once 2 total_right ∷ once 3 counts_in_limits ∷ once 4 offsets_right ∷ []

-- 5 and 6, of the concepts.
unfoldable pub concept_questions : List Question
concept_questions = each 5 in_concepts kind_right ∷ each 6 in_concepts fields_right ∷ []

-- 7, of the inclusions and then of the compositions, each section counted from 0.
unfoldable pub role_questions : List Question
role_questions = each 7 in_inclusions inclusion_right ∷ each 7 in_compositions composition_right ∷ []

-- 8 and 9, of the axioms.
unfoldable pub axiom_questions : List Question
axiom_questions = each 8 in_axioms sides_right ∷ each 9 in_axioms rising_right ∷ []

-- 5 to 9, of the records.
unfoldable pub record_questions : List Question
record_questions = concept_questions ++ (role_questions ++ axiom_questions)

-- 1 to 9: the questions of a catalogue, and their numbers.
unfoldable pub catalogue_questions : List Question
catalogue_questions = header_questions ++ record_questions

unfoldable pub catalogue_numbers : List ℕ
catalogue_numbers = map number_of catalogue_questions

-- The questions of a catalogue, and then the rest.
unfoldable pub catalogue_checks : List ℕ → Outcome → Outcome
catalogue_checks b rest = ask_all catalogue_questions b rest

-- What the catalogue's own call answers.
unfoldable pub checked : List ℕ → Outcome
checked b = catalogue_checks b accepted
