use Rattle.std.proofs.Common.{ℕ, List, ◌++◌, ap, ◌∙◌}
use Rattle.rr_words.proofs.SpellingLemmas.NumberLemmas.{spelled_number-read}
use Rattle.rr_words.proofs.spelling.cursor.Cursor.u64.Goals as goal

pub returns : goal.returns
returns c = (
  c.read_u64.type_inv,
  c.in_ok-bytes.ensures.2 ∙ ap (λ (xs : List ℕ). xs ++ c.bytes.new.self) (spelled_number-read 8 c.read_u64.result c.in_ok-bytes.bytes.now c.in_ok-bytes.ensures.0 c.in_ok-bytes.ensures.1 c.read_u64.ensures),
)
