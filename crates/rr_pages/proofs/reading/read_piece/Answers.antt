use Rattle.std.proofs.Common.{List, ℕ, ◌++◌, ◌∙◌, ap}
use Rattle.rr_pages.proofs.Bytes.{stands}
use Rattle.rr_pages.proofs.reading.read_piece.Goals as goal

pub returns-clause-piece : goal.returns-clause-piece
returns-clause-piece g c = λ honest. (
  c.in_ok-piece.piece.items,
  c.in_ok-extend_from_slice.ensures.items ∙ ap (λ (xs : List ℕ). c.args.bytes.now.items ++ xs) c.deref.ensures.value,
  c.in_ok-piece.ensures.count,
  stands _ _ _ (c.in_ok-piece.ensures.bytes honest),
)
