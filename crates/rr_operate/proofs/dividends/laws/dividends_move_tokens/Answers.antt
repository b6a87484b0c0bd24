use Rattle.rr_operate.proofs.DividendsLemmas.Tokens.{dividends_move_tokens}
use Rattle.rr_operate.proofs.dividends.laws.dividends_move_tokens.Goals as goal

pub returns : goal.returns
returns c = dividends_move_tokens
