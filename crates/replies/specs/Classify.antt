-- What girvotal_classify answers and leaves, by classify's own definitions.
use Rattle.std.specs.Prelude.{ℕ, List, Result, Ok, Err}
use Rattle.catalogue.specs.declared.checks.Refusal.{Refusal}
use Rattle.classification.specs.declared.Classified.{Classified}
use Rattle.classification.specs.Classified.{Classifies}
use Rattle.replies.specs.Answers.{Reply, four, Exported}

-- Pairs, links, 0, 0.
abbrev pub classify_reply : Result Classified Refusal → Reply
classify_reply (Ok c) = Ok (four c.pairs c.links 0 0)
classify_reply (Err e) = Err e

-- The buffers lent are the store and the work space.
abbrev pub ClassifyExported : (b store work answer : List ℕ) (r : ℕ) (store' work' answer' : List ℕ) → Type 0
ClassifyExported b store work answer r store' work' answer' =
    Exported
    (λ (call : Result Classified Refusal) (lent' : List ℕ × List ℕ). Classifies b store work call lent'.0 lent'.1)
    classify_reply
    (store, work)
    answer
    r
    (store', work')
    answer'
