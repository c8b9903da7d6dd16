-- `calls::classify_checked` meets its contract: refused by 10, by 11, or filled.
use Prim.Native.Nat.{ℕ}
use native.Mathlib.Omega.{arith}
use mathlib.Core.Path.{◌≡◌, sym, ◌∙◌}
use mathlib.Core.Bool.{Bool, true}
use mathlib.Core.List.{List}
use lib.ListN.{length}
use lib.Seq.{length-take-le}
use Rattle.catalogue.specs.Outcome.{accepted}
use Rattle.catalogue.specs.Checks.{checked}
use Rattle.catalogue.proofs.Accepted.{accepted_well_formed}
use Rattle.store.specs.Checks.{store_fits, work_fits}
use Rattle.classification.specs.Classified.{classify_checks}
use Rattle.classification.proofs.Checks.{refused_store, refused_work, all_accepted, accepted_fits}
use Rattle.classification.proofs.Answers.{ends_refused, ends_accepted}
use Rattle.classification.proofs.calls.classify_checked.Goals as goal

-- Questions 10 and 11 are answered yes.
all_asked : (b store work : List ℕ) {s w : Bool} → checked b ≡ accepted → s ≡ store_fits b (length store) → s ≡ true → w ≡ work_fits b (length work) → w ≡ true
    → classify_checks b (length store) (length work) ≡ accepted
all_asked b store work e s s_yes w w_yes = all_accepted b (length store) (length work) e (sym s ∙ s_yes) (sym w ∙ w_yes)

pub store_fits-requires : goal.store_fits-requires
store_fits-requires c = accepted_well_formed c.requires

pub returns-then-not-store_fits : goal.returns-then-not-store_fits
returns-then-not-store_fits c =
    let q = c.args in
    ends_refused q.b.now q.store.now q.work.now 10 0
    (refused_store q.b.now (length q.store.now) (length q.work.now) c.requires (sym c.store_fits.ensures ∙ c.if-not-store_fits.true))

pub work_fits-requires : goal.work_fits-requires
work_fits-requires c = accepted_well_formed c.requires

pub returns-then-not-work_fits : goal.returns-then-not-work_fits
returns-then-not-work_fits c =
    let q = c.args in
    ends_refused q.b.now q.store.now q.work.now 11 0
    (refused_work q.b.now (length q.store.now) (length q.work.now) c.requires (sym c.store_fits.ensures ∙ c.if-not-store_fits.false) (sym c.work_fits.ensures ∙ c.if-not-work_fits.true))

pub used-store_end-requires : goal.used-store_end-requires
used-store_end-requires c = accepted_well_formed c.requires

pub work_used-work_end-requires : goal.work_used-work_end-requires
work_used-work_end-requires c = accepted_well_formed c.requires

pub slice_bounds-fill-end : goal.slice_bounds-fill-end
slice_bounds-fill-end c =
    let q = c.args in
    let f = accepted_fits _ _ _ (all_asked q.b.now q.store.now q.work.now c.requires c.store_fits.ensures c.if-not-store_fits.false c.work_fits.ensures c.if-not-work_fits.false) in
    omega (arith, f.store_long, c.used-store_end.ensures)

pub slice_bounds-fill-end-2 : goal.slice_bounds-fill-end-2
slice_bounds-fill-end-2 c =
    let q = c.args in
    let f = accepted_fits _ _ _ (all_asked q.b.now q.store.now q.work.now c.requires c.store_fits.ensures c.if-not-store_fits.false c.work_fits.ensures c.if-not-work_fits.false) in
    sym (length-take-le c.used-store_end.result q.store.now (omega (arith, f.store_long, c.used-store_end.ensures)))

pub slice_bounds-fill-end-3 : goal.slice_bounds-fill-end-3
slice_bounds-fill-end-3 c =
    let q = c.args in
    let f = accepted_fits _ _ _ (all_asked q.b.now q.store.now q.work.now c.requires c.store_fits.ensures c.if-not-store_fits.false c.work_fits.ensures c.if-not-work_fits.false) in
    omega (arith, f.work_long, c.work_used-work_end.ensures)

pub slice_bounds-fill-end-4 : goal.slice_bounds-fill-end-4
slice_bounds-fill-end-4 c =
    let q = c.args in
    let f = accepted_fits _ _ _ (all_asked q.b.now q.store.now q.work.now c.requires c.store_fits.ensures c.if-not-store_fits.false c.work_fits.ensures c.if-not-work_fits.false) in
    sym (length-take-le c.work_used-work_end.result q.work.now (omega (arith, f.work_long, c.work_used-work_end.ensures)))

pub fill-requires : goal.fill-requires
fill-requires c =
    let q = c.args in
    let f = accepted_fits _ _ _ (all_asked q.b.now q.store.now q.work.now c.requires c.store_fits.ensures c.if-not-store_fits.false c.work_fits.ensures c.if-not-work_fits.false) in
    let u = c.used-store_end in
    let w = c.work_used-work_end in
    record {
      well_formed = f.well_formed;
      store_long = length-take-le u.result q.store.now (omega (arith, f.store_long, u.ensures)) ∙ u.ensures;
      work_long = length-take-le w.result q.work.now (omega (arith, f.work_long, w.ensures)) ∙ w.ensures;
    }

pub returns : goal.returns
returns c =
    let q = c.args in
    let e = all_asked q.b.now q.store.now q.work.now c.requires c.store_fits.ensures c.if-not-store_fits.false c.work_fits.ensures c.if-not-work_fits.false in
    let f = accepted_fits _ _ _ e in
    let u = c.used-store_end in
    let w = c.work_used-work_end in
    let g = c.fill in
    ends_accepted q.b.now q.store.now q.work.now g.result g.new.store g.new.work u.result w.result e u.ensures w.ensures
    (g.auto.store ∙ length-take-le u.result q.store.now (omega (arith, f.store_long, u.ensures)) ∙ u.ensures)
    g.ensures
