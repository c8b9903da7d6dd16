-- The questions of the calls that read: what acceptance says, what each no answers, and that naming a concept twice asks nothing more.
use Prim.Native.Nat.{ℕ, ◌*◌, ◌≤◌, ◌<◌}
use mathlib.Core.Path.{◌≡◌, refl, sym, ap, ap₂, ◌∙◌}
use mathlib.Core.Bool.{Bool, true, and_self_left}
use mathlib.Core.List.{List, [], ◌∷◌}
use lib.Dec.{ltb}
use lib.ListN.{length}
use borrow.Author.Tests.{leb-true, ltb-true}
use Rattle.catalogue.specs.Header.{concepts}
use Rattle.catalogue.specs.Outcome.{Outcome, accepted, refused, ask, followed}
use Rattle.catalogue.specs.Checks.{checked}
use Rattle.catalogue.specs.WellFormed.{WellFormed}
use Rattle.catalogue.proofs.Outcomes.{ask_accepted, followed-ask, followed-both}
use Rattle.catalogue.proofs.Passed.{checks_followed}
use Rattle.catalogue.proofs.Accepted.{accepted_well_formed}
use Rattle.rules.specs.Occurrence.{occurs}
use Rattle.layout.specs.Parts.{Sized, used, in_force, spare_clear}
use Rattle.store.specs.Checks.{every, store_fits, list_fits, axioms_in_limit, ask_store, ask_list, ask_spare, ask_limit, ask_numbers}
use Rattle.store.proofs.Checks.{every_one, two_numbers}
use Rattle.read_checks.specs.Checks.{ask_occurs, open_checks, content_checks, read_checks, list_checks, Named}

-- The questions opened, for proofs that ask them one by one.
unfoldable pub questions : Unit {0}
unfolding open_checks content_checks ask_store ask_spare ask_limit ask_numbers ask_occurs ask
questions = tt

-- ---- concepts named

pub every_twice : (test : ℕ → Bool) (c : ℕ) → every test (c ∷ c ∷ []) ≡ every test (c ∷ [])
unfolding every
every_twice test c = and_self_left (test c) true

-- ---- what follows questions

pub followed_accepted : {one : Outcome} (rest : Outcome) → one ≡ accepted → followed one rest ≡ rest
unfolding followed
followed_accepted rest e = rw e

pub followed_refused : {one : Outcome} {number at : ℕ} (rest : Outcome) → one ≡ refused number at → followed one rest ≡ refused number at
unfolding followed
followed_refused rest e = rw e

followed-followed : (one two rest : Outcome) → followed (followed one two) rest ≡ followed one (followed two rest)
unfolding followed
followed-followed accepted two rest = refl
followed-followed (refused number at) two rest = refl

-- What follows 1 to 10 waits for them.
open_followed : (b : List ℕ) (long : ℕ) (rest : Outcome) → followed (open_checks b long accepted) rest ≡ open_checks b long rest
unfolding open_checks ask_store followed
open_followed b long rest =
    ap (λ o. followed o rest) (sym (checks_followed b (ask (store_fits b long) 10 0 accepted)))
    ∙ followed-followed (checked b) (ask (store_fits b long) 10 0 accepted) rest
    ∙ ap (followed (checked b)) (followed-ask (store_fits b long) 10 0 accepted rest)
    ∙ checks_followed b (ask (store_fits b long) 10 0 rest)

pub open_accepted : (b : List ℕ) (long : ℕ) (rest : Outcome) → open_checks b long accepted ≡ accepted → open_checks b long rest ≡ rest
open_accepted b long rest e = sym (open_followed b long rest) ∙ followed_accepted rest e

pub open_refused : (b : List ℕ) (long : ℕ) {number at : ℕ} (rest : Outcome) → open_checks b long accepted ≡ refused number at → open_checks b long rest ≡ refused number at
open_refused b long rest e = sym (open_followed b long rest) ∙ followed_refused rest e

-- ---- what acceptance gives

opened : (b : List ℕ) (long : ℕ) (rest : Outcome) → open_checks b long rest ≡ accepted → (checked b ≡ accepted) × (store_fits b long ≡ true) × (rest ≡ accepted)
unfolding open_checks ask_store
opened b long rest e =
    let p = followed-both (checked b) (ask (store_fits b long) 10 0 rest) (checks_followed b (ask (store_fits b long) 10 0 rest) ∙ e) in
    let q = ask_accepted (store_fits b long) 10 0 rest p.1 in
    (p.0, q.0, q.1)

sized : (b store : List ℕ) (rest : Outcome) → open_checks b (length store) rest ≡ accepted → Sized b store
unfolding store_fits
sized b store rest e =
    let p = opened b (length store) rest e in
    record { well_formed = accepted_well_formed p.0; long = leb-true (used b) (length store) p.1 }

pub open_sized : (b store : List ℕ) → open_checks b (length store) accepted ≡ accepted → Sized b store
open_sized b store e = sized b store accepted e

pub open_well_formed : (b : List ℕ) (long : ℕ) → open_checks b long accepted ≡ accepted → WellFormed b
open_well_formed b long e = accepted_well_formed (opened b long accepted e).0

content_named : (b names store : List ℕ) → Sized b store → content_checks b names store ≡ accepted → Named b names store
unfolding content_checks ask_spare ask_limit ask_numbers ask_occurs
content_named b names store s e =
    let p = ask_accepted (spare_clear b store) 13 0 _ e in
    let q = ask_accepted (axioms_in_limit b (in_force b store)) 14 0 _ p.1 in
    let r = ask_accepted (every (λ c. ltb c (concepts b)) names) 15 0 _ q.1 in
    let t = ask_accepted (every (occurs b (in_force b store)) names) 19 0 _ r.1 in
    record { clear = record { sized = s; spare = p.0 }; few = q.0; below = r.0; occur = t.0 }

pub read_named : (b names store : List ℕ) → read_checks b names store ≡ accepted → Named b names store
unfolding read_checks
read_named b names store e =
    let rest = content_checks b names store in
    content_named b names store (sized b store rest e) (opened b (length store) rest e).2

pub list_named : (b names store : List ℕ) (long : ℕ) → list_checks b names store long ≡ accepted → Named b names store × (2 * concepts b ≤ long)
unfolding list_checks ask_list list_fits
list_named b names store long e =
    let rest = ask_list b long (content_checks b names store) in
    let p = ask_accepted (list_fits b long) 12 0 (content_checks b names store) (opened b (length store) rest e).2 in
    (content_named b names store (sized b store rest e) p.1, leb-true (2 * concepts b) long p.0)

-- ---- a concept named twice

pub content_twice : (b : List ℕ) (c : ℕ) (store : List ℕ) → content_checks b (c ∷ c ∷ []) store ≡ content_checks b (c ∷ []) store
unfolding content_checks ask_numbers ask_occurs
content_twice b c store =
    ap₂ (λ s t. ask_spare (spare_clear b store) (ask_limit (axioms_in_limit b (in_force b store)) (ask s 15 0 (ask t 19 0 accepted))))
    (every_twice (λ c. ltb c (concepts b)) c)
    (every_twice (occurs b (in_force b store)) c)

pub read_twice : (b : List ℕ) (c : ℕ) (store : List ℕ) → read_checks b (c ∷ c ∷ []) store ≡ read_checks b (c ∷ []) store
unfolding read_checks
read_twice b c store = ap (open_checks b (length store)) (content_twice b c store)

-- ---- the concepts that an accepted call names

pub named_two : (b : List ℕ) (c d : ℕ) (store : List ℕ) → Named b (c ∷ d ∷ []) store → (c < concepts b) × (d < concepts b)
named_two b c d store m = two_numbers b c d m.below

pub named_one : (b : List ℕ) (c : ℕ) (store : List ℕ) → Named b (c ∷ []) store → c < concepts b
named_one b c store m = ltb-true c (concepts b) (sym (every_one (λ x. ltb x (concepts b)) c) ∙ m.below)
