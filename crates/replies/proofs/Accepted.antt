-- Every exported call returns 0 exactly if it is accepted: a refusal's number is at least 1.
use Prim.Native.Nat.{ℕ, ◌≤◌}
use native.Mathlib.Decide.{dec_lt}
use native.Mathlib.Omega.{arith}
use mathlib.Core.Path.{◌≡◌, refl, sym, ◌∙◌}
use mathlib.Core.Logic.{◌↔◌}
use mathlib.Core.List.{List, [], ◌∷◌}
use lib.ListN.{length}
use Rattle.std.proofs.Common.{Ok, Err}
use Rattle.catalogue.specs.Outcome.{Outcome, accepted}
use Rattle.catalogue.proofs.Outcomes.{never_both}
use Rattle.catalogue.proofs.Refusals.{Small, small_checked}
use Rattle.classification.proofs.Refusals.{small_classify}
use Rattle.change_contract.specs.Edits.{lend}
use Rattle.change_contract.proofs.Refusals.{small_edit}
use Rattle.read_checks.proofs.Refusals.{small_read, small_list}
use Rattle.writing.proofs.Refusals.{small_write}
use Rattle.replies.specs.Answers.{returned, Exported, Reply}
use Rattle.replies.specs.Accepted.{ZeroExactly, ZeroIfAccepted}
use Rattle.replies.proofs.Replies.{outcome_of, check_outcome, classify_outcome, change_outcome, lookup_outcome_lem, list_outcome_lem, row_outcome_lem, write_outcome}

reply_zero : {o : Outcome} (reply : Reply) → outcome_of reply ≡ o → Small o → (returned reply ≡ 0) ↔ (o ≡ accepted)
reply_zero (Ok entries) e s = (λ _. sym e, λ _. refl)
reply_zero {o} (Err x) e s =
    (λ z. absurd (let n : ⊥ = omega (arith, s.small x.number x.at (sym e)) in n), λ a. absurd (never_both o a (sym e)))

-- Of any call whose replies refuse as its questions do.
pub exported_zero : {C L : Type 0} {Calls : C → L → Type 0} {reply_of : C → Reply} {lent lent' : L} {answer answer' : List ℕ} {r : ℕ} {o : Outcome} → Small o
    → ((call : C) → Calls call lent' → outcome_of (reply_of call) ≡ o)
    → Exported Calls reply_of lent answer r lent' answer'
    → ZeroExactly answer o r
exported_zero {reply_of = reply_of} {answer = answer} s replies p =
    elim (dec_lt (length answer) 4) [
      | yes l ↦ (λ e. absurd (let n : ⊥ = omega (arith, (p.short l).returns) in n), λ (g, _). absurd (let n : ⊥ = omega arith in n))
      | no g ↦
          let long : 4 ≤ length answer = omega arith in
          let x = p.long long in
          let z = reply_zero (reply_of x.call) (replies x.call x.calls) s in
          (λ e. (long, z.0 (sym x.gives.returns ∙ e)), λ (_, a). x.gives.returns ∙ z.1 a)
    ]

pub zero_if_accepted : ZeroIfAccepted
zero_if_accepted =
    record {
      check = λ b answer r answer' p. exported_zero (small_checked b) (check_outcome b) p;
      classify = λ b store work answer r store' work' answer' p. exported_zero (small_classify b (length store) (length work)) classify_outcome p;
      change = λ b withdrawn added store work list answer r store' work' list' answer' p. exported_zero (small_edit b withdrawn added (lend store work list)) change_outcome p;
      lookup = λ b c d store answer r answer' p. exported_zero (small_read b (c ∷ d ∷ []) store) (lookup_outcome_lem b c d store) p;
      list = λ b d store list answer r list' answer' p. exported_zero (small_list b (d ∷ []) store (length list)) list_outcome_lem p;
      row = λ b c store answer r answer' p. exported_zero (small_read b (c ∷ []) store) (row_outcome_lem b c store) p;
      write = λ b store output answer r output' answer' p. exported_zero (small_write b store (length output)) write_outcome p;
    }
