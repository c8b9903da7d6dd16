-- Each exported call leaves one outcome: two exits at equal entries are equal, the number returned and every lent element.
use Prim.Native.Nat.{ℕ}
use native.Mathlib.Decide.{dec_lt}
use native.Mathlib.Omega.{arith}
use mathlib.Core.Path.{◌≡◌, refl, sym, ap, ◌∙◌}
use mathlib.Core.List.{List}
use lib.ListN.{length}
use Rattle.std.proofs.Common.{Result}
use Rattle.catalogue.specs.declared.checks.Refusal.{Refusal}
use Rattle.classification.specs.declared.Classified.{Classified}
use Rattle.classification.specs.Classified.{Classifies}
use Rattle.classification.proofs.Unique.{classifies_unique}
use Rattle.change_contract.specs.Edits.{lend}
use Rattle.change_contract.proofs.Unique.{edit_unique}
use Rattle.lookups.proofs.Unique.{lists_unique}
use Rattle.writing.proofs.Unique.{by_outcome_unique}
use Rattle.replies.specs.Answers.{returned, entries, Exported, Reply}
use Rattle.replies.specs.Check.{CheckExported}
use Rattle.replies.specs.Classify.{ClassifyExported}
use Rattle.replies.specs.Change.{ChangeExported}
use Rattle.replies.specs.Lookups.{LookupExported, ListExported, RowExported}
use Rattle.replies.specs.Write.{WriteExported}

-- Where a call has one answer and leaves one content, the exported call has one outcome.
pub exported_unique : {C L : Type 0} {Calls : C → L → Type 0} {reply_of : C → Reply} {lent : L} {answer : List ℕ} {r r' : ℕ} {lent' lent'' : L} {a a' : List ℕ}
    → ((call call' : C) → Calls call lent' → Calls call' lent'' → (call ≡ call') × (lent' ≡ lent''))
    → Exported Calls reply_of lent answer r lent' a
    → Exported Calls reply_of lent answer r' lent'' a'
    → (r ≡ r') × (lent' ≡ lent'') × (a ≡ a')
exported_unique {reply_of = reply_of} {answer = answer} unique p q =
    elim (dec_lt (length answer) 4) [
      | yes l ↦
          let x = p.short l in
          let y = q.short l in
          (x.returns ∙ sym y.returns, x.lent_kept ∙ sym y.lent_kept, x.answer_kept ∙ sym y.answer_kept)
      | no g ↦
          let x = p.long (omega arith) in
          let y = q.long (omega arith) in
          let u = unique x.call y.call x.calls y.calls in (
            x.gives.returns ∙ ap (λ k. returned (reply_of k)) u.0 ∙ sym y.gives.returns,
            u.1,
            x.gives.writes ∙ ap (λ k. entries (reply_of k) answer) u.0 ∙ sym y.gives.writes,
          )
    ]

pub check_unique : (b answer : List ℕ) (r r' : ℕ) (a a' : List ℕ) → CheckExported b answer r a → CheckExported b answer r' a' → (r ≡ r') × (a ≡ a')
check_unique b answer r r' a a' p q =
    let u = exported_unique (λ call call' x y. (x ∙ sym y, refl)) p q in
    (u.0, u.2)

classifies_one : (b store work : List ℕ) (s s' w w' : List ℕ) (call call' : Result Classified Refusal) → Classifies b store work call s w → Classifies b store work call' s' w'
    → (call ≡ call') × ◌≡◌ {A = List ℕ × List ℕ} (s, w) (s', w')
classifies_one b store work s s' w w' call call' x y =
    let u = classifies_unique b store work call call' s s' w w' x y in
    (u.0, λ i. (u.1 i, u.2 i))

pub classify_unique : (b store work answer : List ℕ) (r r' : ℕ) (s s' w w' a a' : List ℕ)
    → ClassifyExported b store work answer r s w a → ClassifyExported b store work answer r' s' w' a'
    → (r ≡ r') × (s ≡ s') × (w ≡ w') × (a ≡ a')
classify_unique b store work answer r r' s s' w w' a a' p q =
    let u = exported_unique (classifies_one b store work s s' w w') p q in
    (u.0, λ i. (u.1 i).0, λ i. (u.1 i).1, u.2)

pub change_unique : (b withdrawn added store work list answer : List ℕ) (r r' : ℕ) (s s' w w' t t' a a' : List ℕ)
    → ChangeExported b withdrawn added store work list answer r s w t a → ChangeExported b withdrawn added store work list answer r' s' w' t' a'
    → (r ≡ r') × (s ≡ s') × (w ≡ w') × (t ≡ t') × (a ≡ a')
change_unique b withdrawn added store work list answer r r' s s' w w' t t' a a' p q =
    let u = exported_unique (λ call call'. edit_unique b withdrawn added (lend store work list) call call' (lend s w t) (lend s' w' t')) p q in
    (u.0, λ i. (u.1 i).store, λ i. (u.1 i).work, λ i. (u.1 i).list, u.2)

pub lookup_unique : (b : List ℕ) (c d : ℕ) (store answer : List ℕ) (r r' : ℕ) (a a' : List ℕ)
    → LookupExported b c d store answer r a → LookupExported b c d store answer r' a'
    → (r ≡ r') × (a ≡ a')
lookup_unique b c d store answer r r' a a' p q =
    let u = exported_unique (λ call call' x y. (x ∙ sym y, refl)) p q in
    (u.0, u.2)

pub list_unique : (b : List ℕ) (d : ℕ) (store list answer : List ℕ) (r r' : ℕ) (l l' a a' : List ℕ)
    → ListExported b d store list answer r l a → ListExported b d store list answer r' l' a'
    → (r ≡ r') × (l ≡ l') × (a ≡ a')
list_unique b d store list answer r r' l l' a a' p q = exported_unique (λ call call'. lists_unique b d store list call call' l l') p q

pub row_unique : (b : List ℕ) (c : ℕ) (store answer : List ℕ) (r r' : ℕ) (a a' : List ℕ)
    → RowExported b c store answer r a → RowExported b c store answer r' a'
    → (r ≡ r') × (a ≡ a')
row_unique b c store answer r r' a a' p q =
    let u = exported_unique (λ call call' x y. (x ∙ sym y, refl)) p q in
    (u.0, u.2)

pub write_unique : (b store output answer : List ℕ) (r r' : ℕ) (o o' a a' : List ℕ)
    → WriteExported b store output answer r o a → WriteExported b store output answer r' o' a'
    → (r ≡ r') × (o ≡ o') × (a ≡ a')
write_unique b store output answer r r' o o' a a' p q = exported_unique (λ call call'. by_outcome_unique b store output _ call call' o o') p q
