-- W1 to W6, one theorem.
use Prim.Native.Nat.{ℕ}
use mathlib.Core.Path.{◌≡◌, refl, subst}
use mathlib.Core.Logic.{◌↔◌}
use mathlib.Core.Bool.{true}
use mathlib.Core.List.{List}
use lib.ListN.{take}
use Rattle.catalogue.specs.Examples.{w1}
use Rattle.catalogue.proofs.Examples.{w1_offsets, w1_accepted}
use Rattle.rules.specs.Occurrence.{left_side, right_side}
use Rattle.rules.specs.Rules.{Expression, Closure}
use Rattle.rules.specs.Changes.{NewSet}
use Rattle.store.specs.Fresh.{Fresh}
use Rattle.store.proofs.Examples.{w1_lengths}
use Rattle.examples_w1_w6.specs.Stores.{w1_store}
use Rattle.examples_common.specs.Computed.{closure_of}
use Rattle.examples_w1_w6.specs.Table.{axioms1, axioms3, axioms5, Table}
use Rattle.examples_w1_w6.proofs.Calls.{w5_axioms, w3_withdraw, w5_add, w6_withdraw}
use Rattle.examples_w1_w6.proofs.W1.{w1_classified, w1_fresh, w1_rows, w1_front, w1_classify}
use Rattle.examples_w1_w6.proofs.W3.{w3_change, w3_left, w3_fresh, w3_front, w5_change}
use Rattle.examples_w1_w6.proofs.W6.{w6_change}
use Rattle.examples_w1_w6.proofs.Reading.{w2_yes, w2_no, w2_lookups, w1_row, w1_listing3, w1_listing6, w1_write, w4_absent, w4_lookups}

-- Axioms of W1, read from its bytes.
in_force04 : axioms1 0 4 ≡ true
unfolding closure_of w1
in_force04 = refl

in_force63 : axioms1 6 3 ≡ true
unfolding closure_of w1
in_force63 = refl

w5_set : (e : Expression) → NewSet w1 axioms3 axioms5 (Closure w1 axioms3) e ↔ Closure w1 axioms1 e
w5_set e = subst (λ F. NewSet w1 axioms3 axioms5 (Closure w1 axioms3) e ↔ Closure w1 F e) w5_axioms (w5_change.after e)

w5_store : (store : List ℕ) → Fresh w1 axioms5 store → take 35 store ≡ w1_store
w5_store store fresh = w1_front store (subst (λ F. Fresh w1 F store) w5_axioms fresh)

pub table : Table
table = record {
  W1_bytes = w1_offsets;
  W1_accepted = w1_accepted;
  W1_store = w1_lengths;
  W1 = w1_classified;
  W1_classify = w1_classify;
  W1_rows = w1_rows;
  W1_fresh = w1_fresh;
  W1_row = w1_row;
  W1_listing3 = w1_listing3;
  W1_listing6 = w1_listing6;
  W1_write = w1_write;
  W2_yes = w2_yes;
  W2_no = w2_no;
  W2_occur = (left_side in_force04, right_side in_force63);
  W2_lookups = w2_lookups;
  W3 = w3_change;
  W3_withdraw = w3_withdraw;
  W3_store = w3_front;
  W3_left = w3_left;
  W3_fresh = w3_fresh;
  W4 = w4_absent;
  W4_lookups = w4_lookups;
  W5 = w5_change;
  W5_back = (w5_axioms, w5_set);
  W5_add = w5_add;
  W5_store = w5_store;
  W6 = w6_change;
  W6_withdraw = w6_withdraw;
}
