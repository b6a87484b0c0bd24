use Rattle.rr_code.proofs.TextLemmas.{read_line_words-text, line-found}
use Rattle.rr_code.proofs.line.Line.read.Goals as goal

pub returns-in-Some-clause-found : goal.returns-in-Some-clause-found
returns-in-Some-clause-found c = line-found _ _ c.in-Some.ensures.found.0 c.in-Some.ensures.found.1

pub returns-in-Some-clause-only : goal.returns-in-Some-clause-only
returns-in-Some-clause-only c = λ line spelled.
    let read = read_line_words-text c.args.line.now line spelled in cc (c.from_words.ensures.exact, c.in-Some.is)

pub returns-in-None-clause-only : goal.returns-in-None-clause-only
returns-in-None-clause-only c = λ line spelled.
    let read = read_line_words-text c.args.line.now line spelled in cc (c.from_words.ensures.exact, c.in-None.is)
