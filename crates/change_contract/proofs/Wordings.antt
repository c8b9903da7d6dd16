-- What document 01's wordings of Add and Withdraw say of a set they say of any set with the same members.
use mathlib.Core.Logic.{◌↔◌}
use Rattle.derivation.specs.Systems.{System, Set, Allowed}
use Rattle.derivation.specs.Wordings.{LeastSet, HoldsAdded, Add, HoldsWithdrawn, Withdraw}

least_set_same : (Y : System) (Holds : Set Y → Type 0) (S T : Set Y) → ((e : Y.Expression) → S e ↔ T e) → (Holds S → Holds T) → LeastSet Y Holds S → LeastSet Y Holds T
least_set_same Y Holds S T same to p = record { holds = to p.holds; least = λ X x e t. p.least X x e ((same e).1 t) }

module _ (Y : System) (Old New : Allowed Y) (H S T : Set Y) (same : (e : Y.Expression) → S e ↔ T e) where
  pub add_same : Add Y Old New H S → Add Y Old New H T
  add_same =
      least_set_same Y (HoldsAdded Y Old New H) S T same
      (λ p.
      record {
        held = λ e h. (same e).0 (p.held e h);
        newly = λ i n o ps. (same (Y.conclusion i)).0 (p.newly i n o ps);
        drawn = λ i n ps out. (same (Y.conclusion i)).0 (p.drawn i n (λ x. (same (Y.premise i x)).1 (ps x)) out);
      })

  pub withdraw_same : (D : Set Y) → Withdraw Y Old New H D S → Withdraw Y Old New H D T
  withdraw_same D w =
      record {
        over = w.over;
        new =
            least_set_same Y (HoldsWithdrawn Y New H D) S T same
            (λ p.
            record {
              kept = λ e k. (same e).0 (p.kept e k);
              repaired = λ i n ps b. (same (Y.conclusion i)).0 (p.repaired i n ps b);
              drawn = λ i n ps out. (same (Y.conclusion i)).0 (p.drawn i n (λ x. (same (Y.premise i x)).1 (ps x)) out);
            })
            w.new;
      }
