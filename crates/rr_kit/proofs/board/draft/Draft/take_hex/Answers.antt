use Rattle.std.proofs.Common.{ap, ◌∙◌}
use Rattle.rr_kit.specs.Board.Lines.{with_hex}
use Rattle.std.specs.Prelude.{option_and_then}
use Rattle.rr_kit.proofs.BoardLemmas.LineLemmas.{add_hex-short, add_hex-long}
use Rattle.rr_kit.proofs.board.draft.Draft.take_hex.Goals as goal

pub returns-in_default : goal.returns-in_default
returns-in_default c = add_hex-short _ _ c.in_default.len_below

pub returns : goal.returns
returns c =
    c.in_ok-taken.ensures ∙ ap (option_and_then (with_hex c.args.self.now)) c.in_ok-hex.ensures ∙ add_hex-long _ c.args.words.now _ _ _ c.in-len3-up.len_at_least
