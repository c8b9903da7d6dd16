-- The contract of a row leaves one outcome: two parts handed out at equal entries are equal, and their bits are the pairs of the concept.
use Prim.Native.Nat.{ℕ, ◌+◌, ◌-◌, ◌<◌}
use native.Mathlib.Omega.{arith}
use mathlib.Core.Path.{◌≡◌, refl, sym, ap, ◌∙◌}
use mathlib.Core.List.{List, [], ◌∷◌}
use lib.ListN.{take, drop}
use denote.Ref.{Bor}
use Rattle.catalogue.specs.Header.{concepts}
use Rattle.catalogue.specs.Outcome.{Outcome, accepted, refused}
use Rattle.rows.specs.Bits.{bit}
use Rattle.rows.proofs.RowParts.{bit_mid}
use Rattle.rules.specs.Rules.{pair}
use Rattle.layout.specs.Parts.{width, pair_row_at, held}
use Rattle.layout.proofs.StoreSizes.{width_fits}
use Rattle.layout.proofs.Offsets.{held_pair}
use Rattle.read_checks.specs.Checks.{read_checks}
use Rattle.read_checks.proofs.Acceptance.{read_named, named_one}
use Rattle.row_parts.specs.Rows.{HandsOut}

-- Bytes and, where accepted, place. Where an empty part points is free.
pub hands_unique : (b : List ℕ) (c : ℕ) (store part part' : Bor (List ℕ)) → HandsOut b c store part → HandsOut b c store part' → (part.now ≡ part'.now) × (read_checks b (c ∷ []) store.now ≡ accepted → part.ref_ptr ≡ part'.ref_ptr)
hands_unique b c store part part' p q = (go _ refl, λ e. (p.accepts e).place ∙ sym (q.accepts e).place)
  where
    go : (o : Outcome) → read_checks b (c ∷ []) store.now ≡ o → part.now ≡ part'.now
    go accepted e = (p.accepts e).bytes ∙ sym (q.accepts e).bytes
    go (refused number at) e = p.refuses number at e ∙ sym (q.refuses number at e)

-- The bits of the part handed out are the pairs of the concept.
pub row_holds : (b : List ℕ) (c : ℕ) (store part : Bor (List ℕ)) → HandsOut b c store part → read_checks b (c ∷ []) store.now ≡ accepted → (d : ℕ) → d < concepts b → bit part.now d ≡ held b store.now (pair c d)
row_holds b c store part h e d l =
    let o = pair_row_at b c in
    let lc = named_one b c store.now (read_named b (c ∷ []) store.now e) in
    ap (λ (xs : List ℕ). bit xs d) (h.accepts e).bytes
    ∙ ap (λ (k : ℕ). bit (take k (drop o store.now)) d) (let z : width b ≡ (o + width b) - o = omega arith in z)
    ∙ bit_mid store.now o (o + width b) d (omega (arith, width_fits b))
    ∙ sym (held_pair b store.now c d lc l)
