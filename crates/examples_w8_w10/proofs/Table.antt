-- W8 to W10 and the limits, one theorem.
use Rattle.catalogue.proofs.Examples.{nineteen_bytes, most_concepts}
use Rattle.store.proofs.Examples.{w9_set, w9_none}
use Rattle.examples_common.proofs.Classifying.{classify_refuses}
use Rattle.examples_w8_w10.proofs.Full.{w10_in_force, w10_new, w10_move}
use Rattle.examples_w8_w10.proofs.W8.{w8_derived, w8_occur, store_fresh, w8_classify, w8_itself, w8_others, w8_absent, w8_bytes, w8-w1, w8_change, w8-add}
use Rattle.examples_w8_w10.proofs.Limits.{most_accepted, most_classified, too_many_refused}
use Rattle.examples_w8_w10.proofs.W10.{w10_met_in_force, w10_met_new, w10_met_move}
use Rattle.examples_w8_w10.proofs.W9.{w9_lookup}
use Rattle.examples_w8_w10.specs.Table.{Table}

pub table : Table
table = record {
  W8 = w8_derived;
  W8_occur = w8_occur;
  W8_classify = w8_classify;
  W8_fresh = store_fresh;
  W8_itself = w8_itself;
  W8_others = w8_others;
  W8_absent = w8_absent;
  W8_bytes = w8_bytes;
  W8_W1 = w8-w1;
  W8_change = w8_change;
  W8_add = w8-add;
  W9 = w9_set;
  W9_lookup = w9_lookup;
  W9_none = w9_none;
  W10_in_force = w10_in_force;
  W10_new = w10_new;
  W10_move = w10_move;
  W10_met_in_force = w10_met_in_force;
  W10_met_new = w10_met_new;
  W10_met_move = w10_met_move;
  bytes_19 = nineteen_bytes;
  bytes_19_classify = λ b e. classify_refuses b 1 0 (nineteen_bytes b e);
  n_512 = most_accepted;
  n_512_classify = most_classified;
  n_513 = too_many_refused;
  n_513_classify = classify_refuses _ 3 0 too_many_refused;
  limits = most_concepts;
}
