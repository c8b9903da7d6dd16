-- What a refusal leaves in the work space.
use Prim.Native.Nat.{ℕ}
use mathlib.Core.Path.{◌≡◌, refl, ap}
use mathlib.Core.Bool.{Bool, false}
use mathlib.Core.List.{List}
use Rattle.store.specs.Work.{zeroed_if, work_after, at_none}

-- A number at which the call does not zero keeps it.
pub work_kept : (zeroes : ℕ → Bool) (taken number : ℕ) (work : List ℕ) → zeroes number ≡ false → work_after zeroes taken number work ≡ work
unfolding work_after
work_kept zeroes taken number work e = ap (λ (z : Bool). zeroed_if z taken work) e

-- So does every number of a call that zeroes at none.
pub work_stays : (taken number : ℕ) (work : List ℕ) → work_after at_none taken number work ≡ work
work_stays taken number work = work_kept at_none taken number work refl
