-- A change where 4,096 axioms are in force (W10).
use Prim.Native.Nat.{ℕ, ◌+◌}
use native.Mathlib.Omega.{arith}
use mathlib.Core.Path.{◌≡◌, refl, ap, ◌∙◌}
use mathlib.Core.Bool.{true, false, not}
use mathlib.Core.List.{List, []}
use lib.ListN.{length}
use borrow.Author.Tests.{le-leb, lt-leb}
use Rattle.rows.specs.Bits.{some_below}
use Rattle.catalogue.specs.Words.{bytes_of}
use Rattle.catalogue.specs.Outcome.{refused}
use Rattle.rules.specs.Axioms.{Axioms}
use Rattle.layout.specs.Parts.{work_used, in_force, spare_clear}
use Rattle.store.specs.Written.{axiom_count}
use Rattle.store.specs.Checks.{store_fits, work_fits, list_fits, axioms_in_limit}
use Rattle.store.proofs.Checks.{few_axioms, marked-axioms}
use Rattle.store.proofs.Work.{work_stays}
use Rattle.change_contract.specs.Lists.{axioms_in, edited}
use Rattle.change_contract.specs.Questions.{all_in_force, none_in_force, axiom_checks}
use Rattle.change_contract.specs.Edits.{Lent, lengths, asked}
use Rattle.change_contract.specs.Single.{one}
use Rattle.change_contract.proofs.Lists.{whole_long, edited_count}
use Rattle.change_contract.proofs.Asking.{Passed, passed_rest, axioms_pass, refused_in_force, refused_full}
use Rattle.change_contract.proofs.Unique.{refused_answer, same_buffers}
use Rattle.change_contract.proofs.Single.{one_new, one_in_force}
use Rattle.examples_w8_w10.specs.Full.{Full, ChangeRefuses, FullRefuses, FullMoves}

module _ (b withdrawn added : List ℕ) (u : Lent) (h : Full b withdrawn added u) where
  abbrev F : Axioms
  F = in_force b u.store

  passed : Passed b withdrawn added (lengths u) (spare_clear b u.store) (axioms_in_limit b F)
  unfolding store_fits work_fits list_fits
  passed =
      record {
        catalogue = h.catalogue;
        fit =
            record {
              store_fits = le-leb _ _ h.store_long;
              work_fits = le-leb _ _ h.work_long;
              list_fits_lem = le-leb _ _ h.list_long;
              withdrawn_whole = h.withdrawn_whole;
              added_whole = h.added_whole;
            };
        once = h.once;
        spare_clear = h.clear;
        limit_kept = few_axioms b F (omega (arith, h.full));
        numbers = h.numbers;
      }

  full_asked : asked b withdrawn added u ≡ axiom_checks b withdrawn added F
  unfolding asked
  full_asked = passed_rest b withdrawn added (lengths u) (spare_clear b u.store) (axioms_in_limit b F) F passed

  -- So many are in force afterwards.
  full_count : all_in_force F withdrawn ≡ true → none_in_force F added ≡ true → axiom_count b (edited F withdrawn added) + axioms_in withdrawn ≡ 4096 + axioms_in added
  full_count there out =
      edited_count b F withdrawn added (whole_long (length withdrawn) h.withdrawn_whole).1 h.once h.numbers there out ∙ ap (λ (k : ℕ). k + axioms_in added) h.full

  refused_by : (number : ℕ) → axiom_checks b withdrawn added F ≡ refused number 0 → ChangeRefuses b withdrawn added u number
  refused_by number e a v p =
      let q = p.refuses number 0 (full_asked ∙ e) in
      (refused_answer a q.answers, same_buffers q.store_kept (q.work_kept ∙ work_stays (work_used b) number u.work) q.list_kept)

no_list_there : (F : Axioms) → all_in_force F [] ≡ true
unfolding all_in_force axioms_in some_below
no_list_there F = refl

no_list_long : axioms_in [] ≡ 0
unfolding axioms_in
no_list_long = refl

one_long : (l r : ℕ) → axioms_in (one l r) ≡ 1
unfolding axioms_in bytes_of
one_long l r = refl

pub w10_in_force : FullRefuses true 16
w10_in_force b l r u h e =
    let F = in_force b u.store in
    refused_by b [] (one l r) u h 16 (refused_in_force b [] (one l r) F (no_list_there F) (one_new F l r ∙ ap not e))

pub w10_new : FullRefuses false 17
unfolding axioms_in_limit
w10_new b l r u h e =
    let F = in_force b u.store in
    let out = one_new F l r ∙ ap not e in
    let more = full_count b [] (one l r) u h (no_list_there F) out in
    refused_by b [] (one l r) u h 17
    (refused_full b [] (one l r) F (no_list_there F) out
    (lt-leb (axiom_count b (edited F [] (one l r))) 4096 (omega (arith, more, no_list_long, one_long l r))))

pub w10_move : FullMoves
w10_move b l r l' r' u h there added a v p =
    let F = in_force b u.store in
    let G = edited F (one l r) (one l' r') in
    let withdrawn = one_in_force F l r ∙ there in
    let out = one_new F l' r' ∙ ap not added in
    let after : axiom_count b G ≡ 4096 = omega (arith, full_count b (one l r) (one l' r') u h withdrawn out, one_long l r, one_long l' r') in
    let q = p.accepts (full_asked b (one l r) (one l' r') u h ∙ axioms_pass b (one l r) (one l' r') F withdrawn out (few_axioms b G (omega (arith, after)))) in
    let own : in_force b v.store ≡ G = marked-axioms b G v.store q.marked in
    (q.answers, own, ap (axiom_count b) own ∙ after)
