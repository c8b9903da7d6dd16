-- Where an exported call returns another number than 0, no lent element is changed, the answer's neither.
use Prim.Native.Nat.{ℕ}
use native.Mathlib.Decide.{dec_lt}
use native.Mathlib.Omega.{arith}
use mathlib.Core.Path.{◌≡◌, refl, sym, ◌∙◌}
use mathlib.Core.List.{List}
use lib.ListN.{length}
use Rattle.replies.specs.declared.Entries.{Entries}
use Rattle.std.proofs.Common.{Result, Ok, Err}
use Rattle.catalogue.specs.declared.checks.Refusal.{Refusal}
use Rattle.catalogue.specs.Outcome.{Outcome}
use Rattle.store.proofs.Work.{work_stays}
use Rattle.classification.specs.declared.Classified.{Classified}
use Rattle.classification.specs.Classified.{Classifies}
use Rattle.classification.proofs.Outcomes.{answer_outcome}
use Rattle.change_contract.specs.declared.Changed.{Changed}
use Rattle.change_contract.specs.Edits.{Lent, lend, Edits}
use Rattle.change_contract.proofs.Outcomes.{answer_outcome as edit-asked}
use Rattle.change_contract.proofs.Unique.{same_buffers}
use Rattle.lookups.specs.Listings.{Lists}
use Rattle.lookups.proofs.Unique.{refused_keeps}
use Rattle.writing.specs.Write.{ByOutcome}
use Rattle.writing.proofs.Outcomes.{refused_keeps as write_keeps}
use Rattle.replies.specs.Answers.{Given, Exported, Reply}
use Rattle.replies.specs.Check.{CheckExported}
use Rattle.replies.specs.Classify.{classify_reply, ClassifyExported}
use Rattle.replies.specs.Change.{change_reply, ChangeExported}
use Rattle.replies.specs.Lookups.{list_reply, LookupExported, ListExported, RowExported}
use Rattle.replies.specs.Write.{write_reply, WriteExported}

never_accepted : {entries : Entries} {e : Refusal} → ◌≡◌ {A = Reply} (Ok entries) (Err e) → ⊥
never_accepted q = let z : ◌≡◌ {A = ℕ} 0 1 = cc in omega arith

given_kept : {L : Type 0} {lent lent' : L} {answer answer' : List ℕ} {r : ℕ} (reply : Reply) → Given reply answer r answer' → (r ≡ 0 → ⊥)
    → ((e : Refusal) → reply ≡ Err e → lent' ≡ lent)
    → (lent' ≡ lent) × (answer' ≡ answer)
given_kept (Ok entries) g n keeps = absurd (n g.returns)
given_kept (Err e) g n keeps = (keeps e refl, g.writes)

-- What a refused call keeps, the exported call keeps.
pub exported_kept : {C L : Type 0} {Calls : C → L → Type 0} {reply_of : C → Reply} {lent lent' : L} {answer answer' : List ℕ} {r : ℕ}
    → ((call : C) (e : Refusal) → Calls call lent' → reply_of call ≡ Err e → lent' ≡ lent)
    → Exported Calls reply_of lent answer r lent' answer'
    → (r ≡ 0 → ⊥)
    → (lent' ≡ lent) × (answer' ≡ answer)
exported_kept {reply_of = reply_of} {answer = answer} keeps p n =
    elim (dec_lt (length answer) 4) [
      | yes l ↦ ((p.short l).lent_kept, (p.short l).answer_kept)
      | no g ↦
          let x = p.long (omega arith) in
          given_kept (reply_of x.call) x.gives n (λ e q. keeps x.call e x.calls q)
    ]

-- ---- check

pub check_kept : (b answer : List ℕ) (r : ℕ) (a : List ℕ) → CheckExported b answer r a → (r ≡ 0 → ⊥) → a ≡ answer
check_kept b answer r a p n = (exported_kept (λ call e x q. refl) p n).1

-- ---- classify

classifies_kept : (b store work s w : List ℕ) (call : Result Classified Refusal) (e : Refusal) → Classifies b store work call s w → classify_reply call ≡ Err e
    → ◌≡◌ {A = List ℕ × List ℕ} (s, w) (store, work)
classifies_kept b store work s w (Ok c) e p q = absurd (never_accepted q)
classifies_kept b store work s w (Err f) e p q =
    let x = p.refuses f.number f.at (sym (answer_outcome b store work (Err f) s w p)) in
    let stays : w ≡ work = x.work_kept ∙ work_stays _ f.number work in
    λ i. (x.store_kept i, stays i)

pub classify_kept : (b store work answer : List ℕ) (r : ℕ) (s w a : List ℕ) → ClassifyExported b store work answer r s w a → (r ≡ 0 → ⊥)
    → (s ≡ store) × (w ≡ work) × (a ≡ answer)
classify_kept b store work answer r s w a p n =
    let u = exported_kept (classifies_kept b store work s w) p n in
    (λ i. (u.0 i).0, λ i. (u.0 i).1, u.1)

-- ---- change

edits_kept : (b withdrawn added : List ℕ) (u v : Lent) (call : Result Changed Refusal) (e : Refusal) → Edits b withdrawn added u call v → change_reply call ≡ Err e → v ≡ u
edits_kept b withdrawn added u v (Ok c) e p q = absurd (never_accepted q)
edits_kept b withdrawn added u v (Err f) e p q =
    let x = p.refuses f.number f.at (sym (edit-asked b withdrawn added u (Err f) v p)) in
    same_buffers x.store_kept (x.work_kept ∙ work_stays _ f.number u.work) x.list_kept

pub change_kept : (b withdrawn added store work list answer : List ℕ) (r : ℕ) (s w t a : List ℕ)
    → ChangeExported b withdrawn added store work list answer r s w t a → (r ≡ 0 → ⊥)
    → (s ≡ store) × (w ≡ work) × (t ≡ list) × (a ≡ answer)
change_kept b withdrawn added store work list answer r s w t a p n =
    let u = exported_kept (edits_kept b withdrawn added (lend store work list) (lend s w t)) p n in
    (λ i. (u.0 i).store, λ i. (u.0 i).work, λ i. (u.0 i).list, u.1)

-- ---- lookup, list and row

pub lookup_kept : (b : List ℕ) (c d : ℕ) (store answer : List ℕ) (r : ℕ) (a : List ℕ) → LookupExported b c d store answer r a → (r ≡ 0 → ⊥) → a ≡ answer
lookup_kept b c d store answer r a p n = (exported_kept (λ call e x q. refl) p n).1

lists_kept : (b : List ℕ) (d : ℕ) (store list l : List ℕ) (call : Result ℕ Refusal) (e : Refusal)
    → Lists b d store list call l → list_reply call ≡ Err e → l ≡ list
lists_kept b d store list l (Ok count) e p q = absurd (never_accepted q)
lists_kept b d store list l (Err f) e p q = refused_keeps b d store list _ l f.number f.at p refl

pub list_kept : (b : List ℕ) (d : ℕ) (store list answer : List ℕ) (r : ℕ) (l a : List ℕ)
    → ListExported b d store list answer r l a → (r ≡ 0 → ⊥) → (l ≡ list) × (a ≡ answer)
list_kept b d store list answer r l a p n = exported_kept (lists_kept b d store list l) p n

pub row_kept : (b : List ℕ) (c : ℕ) (store answer : List ℕ) (r : ℕ) (a : List ℕ) → RowExported b c store answer r a → (r ≡ 0 → ⊥) → a ≡ answer
row_kept b c store answer r a p n = (exported_kept (λ call e x q. refl) p n).1

-- ---- write

by_outcome_kept : (b store output o : List ℕ) (outcome : Outcome) (call : Result ℕ Refusal) (e : Refusal)
    → ByOutcome b store output outcome call o → write_reply call ≡ Err e → o ≡ output
by_outcome_kept b store output o outcome (Ok long) e p q = absurd (never_accepted q)
by_outcome_kept b store output o outcome (Err f) e p q = write_keeps (Err f) p refl

pub write_kept : (b store output answer : List ℕ) (r : ℕ) (o a : List ℕ) → WriteExported b store output answer r o a → (r ≡ 0 → ⊥) → (o ≡ output) × (a ≡ answer)
write_kept b store output answer r o a p n = exported_kept (by_outcome_kept b store output o _) p n
