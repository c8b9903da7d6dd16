-- What a record read from a catalogue holds: each of its fields is the catalogue's number.
use Rattle.std.specs.Prelude.{ℕ, ◌≡◌, List}
use Rattle.catalogue.specs.Records.{kind, first, second, within, around, role1, role2, result, left, right}
use Rattle.catalogue.specs.declared.records.Concept.{Concept}
use Rattle.catalogue.specs.declared.records.Inclusion.{Inclusion}
use Rattle.catalogue.specs.declared.records.Composition.{Composition}
use Rattle.catalogue.specs.declared.records.Axiom.{Axiom}

pub record ConceptRead (b : List ℕ) (i : ℕ) (r : Concept) : Type 0 where
  pub kind_is : r.kind ≡ kind b i
  pub first_is : r.first ≡ first b i
  pub second_is : r.second ≡ second b i

pub record InclusionRead (b : List ℕ) (k : ℕ) (r : Inclusion) : Type 0 where
  pub within_is : r.within ≡ within b k
  pub around_is : r.around ≡ around b k

pub record CompositionRead (b : List ℕ) (k : ℕ) (r : Composition) : Type 0 where
  pub first_is : r.first ≡ role1 b k
  pub second_is : r.second ≡ role2 b k
  pub result_is : r.result ≡ result b k

pub record AxiomRead (b : List ℕ) (k : ℕ) (r : Axiom) : Type 0 where
  pub left_is : r.left ≡ left b k
  pub right_is : r.right ≡ right b k
