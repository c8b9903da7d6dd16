-- What the four numbers that are answered say: each is the least that is enough.
use Rattle.std.specs.Prelude.{ℕ, ◌≤◌, ◌≡◌, true, ◌↔◌, List, length, Ok}
use Rattle.catalogue.specs.Outcome.{accepted, refused}
use Rattle.rows.specs.Bits.{Bytes}
use Rattle.layout.specs.Parts.{in_force}
use Rattle.store.specs.Checks.{store_fits, work_fits, list_fits}
use Rattle.store.specs.Written.{written}
use Rattle.writing.specs.Write.{write_checks}
use Rattle.buffer_sizes.specs.Sizes.{needed, Measures}

-- 10, 11 and 12 are answered yes for a length exactly if it is at least the first, the second, the third number. 20 is answered yes for an output's length
-- and all stores together that come to it, those that pass 10, 13 and 14, exactly if it is at least the fourth; for one of them less may do. And there is a
-- store, a list of bytes, from which write is accepted with every such output and gives as many bytes as the fourth.
pub record Enough (b : List ℕ) (store work list output : ℕ) : Type 0 where
  pub store_enough : (long : ℕ) → (store_fits b long ≡ true) ↔ (store ≤ long)
  pub work_enough : (long : ℕ) → (work_fits b long ≡ true) ↔ (work ≤ long)
  pub list_enough : (long : ℕ) → (list_fits b long ≡ true) ↔ (list ≤ long)
  pub output_enough : (long : ℕ) → ((from : List ℕ) → ¬ (write_checks b from long ≡ refused 20 0)) ↔ (output ≤ long)
  pub output_reached : (from : List ℕ) × Bytes from × ((long : ℕ) → output ≤ long → write_checks b from long ≡ accepted) × (length (written b (in_force b from)) ≡ output)

-- Bounds of an accepted catalogue's length and of what one can ask for.
pub record Most (b : List ℕ) (store work list output : ℕ) : Type 0 where
  pub catalogue_most : length b ≤ 20116
  pub store_most : store ≤ 589824
  pub work_most : work ≤ 557056
  pub list_most : list ≤ 1024
  pub output_most : output ≤ 20116

-- So of every answer.
pub record SizesMean : Type 0 where
  pub enough : (b : List ℕ) (store work list output : ℕ) → Measures b (Ok (needed store work list output)) → Enough b store work list output
  pub most : (b : List ℕ) (store work list output : ℕ) → Measures b (Ok (needed store work list output)) → Most b store work list output
