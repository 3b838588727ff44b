-- Pieces sent one after the other.
use Rattle.std.proofs.Common.{ℕ, ◌+◌, List, ◌++◌, Option, Some, sym, ap, ◌∙◌, take, drop, append_assoc}
use Rattle.std.proofs.Math.Seq.{take-add}
use Rattle.tv_io.specs.SentOf.{IsSentOf}

-- the first n bytes of a text were sent, and then m more of it
pub sent_more : (before mid after : Option (List ℕ)) (text : List ℕ) (n m : ℕ) → IsSentOf before mid (take n text) → IsSentOf mid after (take m (drop n text))
    → IsSentOf before after (take (n + m) text)
sent_more before mid after text n m first second bytes told =
    second (bytes ++ take n text) (first bytes told) ∙ ap Some (append_assoc bytes (take n text) (take m (drop n text)) ∙ ap (λ l. bytes ++ l) (sym (take-add n m text)))
