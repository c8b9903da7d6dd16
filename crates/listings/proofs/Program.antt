-- What the program's text is, by the least set itself; and that it hangs on no byte past the first 65,536.
use Prim.Native.Nat.{ℕ, ◌+◌, ◌*◌, ◌≤◌, ◌<◌}
use native.Mathlib.Decide.{dec_lt}
use native.Mathlib.Omega.{arith}
use mathlib.Core.Path.{◌≡◌, sym, ap, ap₂, subst, fun_ext, ◌∙◌}
use mathlib.Core.Bool.{Bool, not, ◌&&◌}
use mathlib.Core.List.{List}
use lib.Dec.{lit<}
use lib.ListN.{length, take}
use lib.Seq.{length-take-le, get_or-take, take_all}
use borrow.Author.Tests.{le-leb, ne_eqb}
use Rattle.std.proofs.Common.{Result, Ok, Err}
use Rattle.rows.specs.Bits.{Bytes}
use Rattle.catalogue.specs.declared.checks.Refusal.{Refusal}
use Rattle.catalogue.specs.Outcome.{Outcome, accepted, refused}
use Rattle.catalogue.specs.Words.{word}
use Rattle.catalogue.specs.Header.{total}
use Rattle.catalogue.specs.Questions.{ask_all}
use Rattle.catalogue.specs.Checks.{header_fits, total_right, header_questions, catalogue_questions, catalogue_checks}
use Rattle.catalogue.proofs.Outcomes.{ask_yes, ask_no}
use Rattle.derivation.specs.Decided.{Decides}
use Rattle.derivation.proofs.Counts.{decides_agree}
use Rattle.rules.specs.Axioms.{catalogue_axioms}
use Rattle.rules.specs.Rules.{Expression, Closure}
use Rattle.rules.specs.Counts.{Size, is_pair, Pairs, Links}
use Rattle.rules.specs.Presentation.{in_closure}
use Rattle.rules.proofs.Axioms.{catalogue_in_range}
use Rattle.rules.proofs.Changes.{closure_decided}
use Rattle.rules.proofs.Counts.{pairs_decide, links_decide, counted_by}
use Rattle.layout.specs.Parts.{Sized, held}
use Rattle.classification.specs.declared.Classified.{Classified}
use Rattle.classification.specs.Classified.{classify_checks, outcome_of, pairs_of, links_of, Classifies}
use Rattle.classification.proofs.Checks.{accepted_fits}
use Rattle.classification.proofs.Outcomes.{answer_outcome}
use Rattle.text.specs.Text.{refusal}
use Rattle.text.specs.Lines.{listing}
use Rattle.listings.specs.Program.{listing_of, unless_refused, program_text}

-- ---- By the least set.

-- Refused: the line of the refusal.
pub program_text_refused : (input : List ℕ) (number at : ℕ) → classify_checks input 65536 65536 ≡ refused number at → program_text input ≡ refusal number
unfolding program_text unless_refused
program_text_refused input number at e = ap (λ (o : Outcome). unless_refused o (listing_of input (in_closure input (catalogue_axioms input)))) e

-- Accepted: the numbers of pairs and links of the least set, and its pairs of different atomic concepts, by any test that decides it.
pub program_text_listed : (input : List ℕ) (test : Expression → Bool) (pairs links : ℕ) → classify_checks input 65536 65536 ≡ accepted
    → Decides test (Closure input (catalogue_axioms input)) → Size input (Pairs (Closure input (catalogue_axioms input))) pairs → Size input (Links (Closure input (catalogue_axioms input))) links
    → program_text input ≡ listing input test pairs links
unfolding program_text unless_refused listing_of
program_text_listed input test pairs links e exact p l =
    let F = catalogue_axioms input in
    let S = Closure input F in
    let wf = (accepted_fits input 65536 65536 e).well_formed in
    let same : in_closure input F ≡ test = fun_ext (decides_agree (in_closure input F) test S (closure_decided input F wf (catalogue_in_range input wf)) exact) in
    ap (λ (o : Outcome). unless_refused o (listing_of input (in_closure input F))) e
    ∙ ap (listing_of input) same
    ∙ ap₂ (listing input test)
    (counted_by input (Pairs S) pairs (λ x. test x && is_pair x) p (pairs_decide test S exact))
    (counted_by input (Links S) links (λ x. test x && not (is_pair x)) l (links_decide test S exact))

-- ---- By what classify answers, and the store that it leaves.

module _ (input store work : List ℕ) (answer : Result Classified Refusal) (store' work' : List ℕ) (store_long : length store ≡ 65536) (work_long : length work ≡ 65536) (c : Classifies input store work answer store' work') where
  outcome : outcome_of answer ≡ classify_checks input 65536 65536
  outcome = answer_outcome input store work answer store' work' c ∙ ap₂ (classify_checks input) store_long work_long

  pub refused_text : (r : Refusal) → answer ≡ Err r → program_text input ≡ refusal r.number
  refused_text r e = program_text_refused input r.number r.at (sym outcome ∙ ap outcome_of e)

  -- What is accepted fits any buffer of 65,536 bytes.
  pub done_fits : (counts : Classified) → answer ≡ Ok counts → (buffer : List ℕ) → length buffer ≡ 65536 → Sized input buffer
  done_fits counts e buffer long =
      let fits = accepted_fits input 65536 65536 (sym outcome ∙ ap outcome_of e) in
      record { well_formed = fits.well_formed; long = omega (arith, fits.store_long) }

  pub done_text : (counts : Classified) → answer ≡ Ok counts → program_text input ≡ listing input (held input store') counts.pairs counts.links
  done_text counts e =
      let S = Closure input (catalogue_axioms input) in
      let a = c.accepts (sym (answer_outcome input store work answer store' work' c) ∙ ap outcome_of e) in
      program_text_listed input (held input store') counts.pairs counts.links (sym outcome ∙ ap outcome_of e) a.fresh.set
      (subst (Size input (Pairs S)) (ap pairs_of e) a.pairs_counted)
      (subst (Size input (Links S)) (ap links_of e) a.links_counted)

-- ---- By the first 65,536 bytes.

-- A total is below 65,536, so no longer input is accepted: question 2 refuses it.
pub program_text_long : (input : List ℕ) → total input < 65536 → 65536 ≤ length input → program_text input ≡ refusal 2
unfolding ask_all classify_checks catalogue_checks catalogue_questions header_questions header_fits total_right
program_text_long input small long =
    program_text_refused input 2 0
    (ask_yes 1 0 _ (le-leb 20 (length input) (omega arith))
    ∙ ask_no 2 0 _ (ne_eqb (total input) (length input) (λ e. omega arith)))

pub program_text_prefix : (input : List ℕ) → Bytes input → program_text (take 65536 input) ≡ program_text input
unfolding total word
program_text_prefix input bytes =
    elim (dec_lt 65536 (length input)) [
      | no g ↦ ap program_text (take_all 65536 input (omega arith))
      | yes l ↦
          let cut = length-take-le 65536 input (omega arith) in
          let small : total input < 65536 = omega (arith, bytes 0, bytes 1) in
          let same : total (take 65536 input) ≡ total input = ap₂ (λ (x y : ℕ). x + 256 * y) (get_or-take 65536 input 0 0 (lit< tt)) (get_or-take 65536 input 1 0 (lit< tt)) in
          program_text_long (take 65536 input) (omega arith) (omega arith) ∙ sym (program_text_long input small (omega arith))
    ]
