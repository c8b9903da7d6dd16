-- An exported call with an answer that is too short, and one whose reply is given.
use Prim.Native.Nat.{ℕ, ◌≤◌, ◌<◌}
use native.Mathlib.Omega.{arith}
use mathlib.Core.Path.{◌≡◌, refl}
use mathlib.Core.List.{List}
use lib.ListN.{length}
use Rattle.replies.specs.Answers.{Given, Exported, Reply}

module _ {C L : Type 0} {Calls : C → L → Type 0} {reply_of : C → Reply} {lent : L} {answer : List ℕ} where
  pub exported_short : length answer < 4 → Exported Calls reply_of lent answer 65535 lent answer
  exported_short l =
      record {
        short = λ _. record { returns = refl; lent_kept = refl; answer_kept = refl };
        long = λ g. absurd (let y : ⊥ = omega arith in y);
      }

  pub exported_long : {r : ℕ} {lent' : L} {answer' : List ℕ} {reply : Reply} (call : C)
      → 4 ≤ length answer → Calls call lent' → reply ≡ reply_of call → Given reply answer r answer'
      → Exported Calls reply_of lent answer r lent' answer'
  exported_long call g calls e gives =
      record {
        short = λ l. absurd (let y : ⊥ = omega arith in y);
        long = λ _. record { call = call; calls = calls; gives = rw e at gives };
      }
