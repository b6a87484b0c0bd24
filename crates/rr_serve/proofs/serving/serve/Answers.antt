use Rattle.std.proofs.Common.{Ok, subst}
use Rattle.std.proofs.lemmas.Result.{err_from_is_err_and}
use Rattle.rr_serve.specs.Lines.{taken}
use Rattle.rr_serve.specs.Reading.{ReadsLine}
use Rattle.rr_serve.specs.Answering.{Refuses}
use Rattle.rr_serve.proofs.ServingLemmas.{Serves-none, Serves-more, Session-reader_fails, Session-answer_fails, Session-ends, AnswersAll-session, CountsFailures-session}
use Rattle.rr_serve.proofs.serving.serve.Goals as goal

pub loop-machine-init : goal.loop-machine-init
loop-machine-init g c = Serves-none _ _ _ _ _

pub loop-machine-preserved : goal.loop-machine-preserved
loop-machine-preserved g c =
    let reads = subst (λ ending. ReadsLine (g.I.Input.state c.loop-machine.reader) (g.I.Input.state c.read_line.new.reader) c.read_line.new.buffer (Ok ending)) c.in-LineFeed.is c.in_ok-read_line.ensures in
    let answers = subst (λ bytes. g.M.Machine.Answers c.loop-machine.machine (taken bytes) c.answer.new.machine) c.as_slice.ensures c.in_ok-answer-in-LineFeed.ensures.answers in
    Serves-more _ _ _ _ _ _ _ _ c.loop-machine.invariant _ _ reads _ answers _ c.in_ok-answer-in-LineFeed.ensures.replies

pub returns-in_err-read_line-clause-session : goal.returns-in_err-read_line-clause-session
returns-in_err-read_line-clause-session g c =
    let p = err_from_is_err_and c.from_residual.result c.from_residual.ensures.1 in
    rw (p.1, p.2) (Session-reader_fails _ _ _ _ _ _ _ _ c.loop-machine.invariant _ _ _ c.in_err-read_line.ensures)

pub returns-in_err-read_line-clause-failures : goal.returns-in_err-read_line-clause-failures
returns-in_err-read_line-clause-failures g c =
    CountsFailures-session _ _ _ _ _ _ _ _ _ (returns-in_err-read_line-clause-session g c)

pub returns-in_err-answer-in-LineFeed-clause-session : goal.returns-in_err-answer-in-LineFeed-clause-session
returns-in_err-answer-in-LineFeed-clause-session g c =
    let failed = c.from_residual-in_err-answer-in-LineFeed in
    let reads = subst (λ ending. ReadsLine (g.I.Input.state c.loop-machine.reader) (g.I.Input.state c.read_line.new.reader) c.read_line.new.buffer (Ok ending)) c.in-LineFeed.is c.in_ok-read_line.ensures in
    let answers = subst (λ bytes. g.M.Machine.Answers c.loop-machine.machine (taken bytes) c.answer.new.machine) c.as_slice.ensures c.in_err-answer-in-LineFeed.ensures.answers in
    let p = err_from_is_err_and failed.result failed.ensures.1 in
    rw (p.1, p.2) (Session-answer_fails _ _ _ _ _ _ _ _ c.loop-machine.invariant _ _ reads _ answers _ _ c.in_err-answer-in-LineFeed.ensures.replies)

pub returns-in_err-answer-in-LineFeed-clause-failures : goal.returns-in_err-answer-in-LineFeed-clause-failures
returns-in_err-answer-in-LineFeed-clause-failures g c =
    CountsFailures-session _ _ _ _ _ _ _ _ _ (returns-in_err-answer-in-LineFeed-clause-session g c)

pub returns-in-EndOfInput-clause-session : goal.returns-in-EndOfInput-clause-session
returns-in-EndOfInput-clause-session g c =
    let reads = subst (λ ending. ReadsLine (g.I.Input.state c.loop-machine.reader) (g.I.Input.state c.read_line.new.reader) c.read_line.new.buffer (Ok ending)) c.in-EndOfInput.is c.in_ok-read_line.ensures in
    let refused = subst (λ bytes. Refuses c.refuse_rest.result bytes (g.O.Output.state c.loop-machine.writer) (g.O.Output.state c.refuse_rest.new.writer)) c.as_slice-in-EndOfInput.ensures c.refuse_rest.ensures in
    Session-ends _ _ _ _ _ _ _ _ c.loop-machine.invariant _ _ reads _ _ refused

pub returns-in-EndOfInput-clause-whole : goal.returns-in-EndOfInput-clause-whole
returns-in-EndOfInput-clause-whole g c =
    AnswersAll-session _ _ _ _ _ _ _ _ _ (returns-in-EndOfInput-clause-session g c)

pub returns-in-EndOfInput-clause-failures : goal.returns-in-EndOfInput-clause-failures
returns-in-EndOfInput-clause-failures g c =
    CountsFailures-session _ _ _ _ _ _ _ _ _ (returns-in-EndOfInput-clause-session g c)
