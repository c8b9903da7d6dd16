-- `list_under` meets its contract. The invariant: of the concepts below c those that pass stand in front, and the rest of the list is as it was.
use Prim.Native.Nat.{◌≤◌}
use mathlib.Core.Path.{◌≡◌}
use lib.ListN.{length}
use Rattle.store.specs.Written.{rising}
use Rattle.number_lists.specs.Lists.{Filled}
use Rattle.lookups.specs.Listings.{atomic_under}
use Rattle.lookups.proofs.kinds.list_under.Given as goal

abbrev pub invariant-loop-c : goal.invariant-loop-c
invariant-loop-c l =
    (l.c ≤ l.n) × (length l.list ≡ length l.initial.list) × Filled (rising (atomic_under l.b l.store l.d) l.c) l.initial.list l.count l.list
