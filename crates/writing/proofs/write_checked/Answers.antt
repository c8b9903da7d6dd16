-- `writing::write_checked` meets its contract: each question in its order, and then the catalogue whole.
use mathlib.Core.Path.{◌≡◌, sym, ap, ◌∙◌}
use mathlib.Core.Bool.{Bool, true}
use mathlib.Core.List.{List}
use Prim.Native.Nat.{ℕ, ◌+◌, ◌*◌}
use native.Mathlib.Omega.{arith}
use lib.ListN.{length}
use lib.Seq.{length-take-le}
use Rattle.catalogue.specs.WellFormed.{WellFormed}
use Rattle.layout.specs.Parts.{Sized, Clear, spare_clear}
use Rattle.store.specs.Checks.{store_fits}
use Rattle.store.proofs.Checks.{store_long}
use Rattle.writing.proofs.write_checked.Goals as goal

-- What question 10 gives, and then 13.
sized : (b store : List ℕ) {t : Bool} → WellFormed b → t ≡ store_fits b (length store) → t ≡ true → Sized b store
sized b store wf e f = record { well_formed = wf; long = store_long b (length store) (sym e ∙ f) }

clear : (b store : List ℕ) {t u : Bool} → WellFormed b → t ≡ store_fits b (length store) → t ≡ true → u ≡ spare_clear b store → u ≡ true → Clear b store
clear b store wf e f g h = record { sized = sized b store wf e f; spare = sym g ∙ h }

pub spare_clear-requires : goal.spare_clear-requires
spare_clear-requires c = sized _ _ c.requires c.store_fits.ensures c.if-not-store_fits.false

pub axiom_count-count-requires : goal.axiom_count-count-requires
axiom_count-count-requires c = clear _ _ c.requires c.store_fits.ensures c.if-not-store_fits.false c.spare_clear.ensures c.if-not-spare_clear.false

pub put_catalogue-requires : goal.put_catalogue-requires
put_catalogue-requires c =
    record {
      clear = clear _ _ c.requires c.store_fits.ensures c.if-not-store_fits.false c.spare_clear.ensures c.if-not-spare_clear.false;
      count_is = c.axiom_count-count.ensures;
      limit = omega (arith, c.if-count-gt-MAX.false);
      out_long = length-take-le _ _ (omega (arith, c.if-output-end.false)) ∙ ap (λ (k : ℕ). k + 4 * c.axiom_count-count.result) c.axioms_at.ensures;
    }
