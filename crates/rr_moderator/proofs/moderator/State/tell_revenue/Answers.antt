use Rattle.std.proofs.Common.{◌≡◌, ◌++◌, ◌∙◌, ℕ, List, [], ◌∷◌, ap, sym, codes, append_assoc, append-nil}
use Rattle.rr_entries.specs.Words.{spaced}
use Rattle.rr_moderator.proofs.moderator.State.tell_revenue.Goals as goal

-- a space and what comes after it are a word more
word_more : (old begun new word : List ℕ) → begun ≡ old ++ codes " " → new ≡ begun ++ word → (words : List (List ℕ)) × (new ≡ old ++ spaced words)
word_more old begun new word space told = (
  word ∷ [],
  told ∙ ap (λ (l : List ℕ). l ++ word) space ∙ append_assoc old (codes " ") word ∙ ap (λ (l : List ℕ). old ++ l) (sym (append-nil (codes " " ++ word))),
)

pub returns-in-Ok-clause-words : goal.returns-in-Ok-clause-words
returns-in-Ok-clause-words g c = word_more c.args.self.now.reply c.text.new.self c.signed.new.self _ c.text.ensures.text c.signed.ensures.digits
