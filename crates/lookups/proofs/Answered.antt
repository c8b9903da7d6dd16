-- Answers from outcomes and back: what each call answers where its questions accept or refuse, and what an answer says of them.
use Prim.Native.Nat.{ℕ}
use mathlib.Core.Path.{◌≡◌, sym, ap, ap₂, ◌∙◌}
use mathlib.Core.Bool.{Bool}
use mathlib.Core.List.{List, [], ◌∷◌}
use lib.ListN.{length}
use Rattle.std.proofs.Common.{Ok, Err}
use Rattle.catalogue.specs.Outcome.{accepted, refused}
use Rattle.catalogue.specs.Verdicts.{refusal}
use Rattle.store.specs.Says.{says}
use Rattle.number_lists.specs.Lists.{Filled}
use Rattle.read_checks.specs.Checks.{read_checks, list_checks}
use Rattle.lookups.specs.Answers.{looked, looked_up}
use Rattle.lookups.specs.Listings.{kinds_under, listed, list_after, Lists}

-- ---- lookup

pub looked_up_lem : (b : List ℕ) (c d : ℕ) (store : List ℕ) {t : Bool} → read_checks b (c ∷ d ∷ []) store ≡ accepted → says b store c d ≡ t → looked_up b c d store ≡ looked accepted t
unfolding looked_up
looked_up_lem b c d store e h = ap₂ looked e h

pub looked_refused : (b : List ℕ) (c d : ℕ) (store : List ℕ) {number at : ℕ} → read_checks b (c ∷ d ∷ []) store ≡ refused number at → looked_up b c d store ≡ Err (refusal number at)
unfolding looked_up
looked_refused b c d store e = ap (λ o. looked o (says b store c d)) e

-- ---- listing

pub lists_accepted : (b : List ℕ) (d : ℕ) (store list : List ℕ) (count : ℕ) (after : List ℕ) → list_checks b (d ∷ []) store (length list) ≡ accepted → Filled (kinds_under b d store) list count after → Lists b d store list (Ok count) after
lists_accepted b d store list count after e f =
    record {
      answer = ap Ok f.counted ∙ sym (ap (λ o. listed o (kinds_under b d store)) e);
      entries = f.entries ∙ sym (ap (λ o. list_after o (kinds_under b d store) list) e);
    }

pub lists_refused : (b : List ℕ) (d : ℕ) (store list : List ℕ) (number at : ℕ) → list_checks b (d ∷ []) store (length list) ≡ refused number at → Lists b d store list (Err (refusal number at)) list
lists_refused b d store list number at e =
    record {
      answer = sym (ap (λ o. listed o (kinds_under b d store)) e);
      entries = sym (ap (λ o. list_after o (kinds_under b d store) list) e);
    }
