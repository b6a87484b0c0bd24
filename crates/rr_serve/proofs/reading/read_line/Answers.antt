use Rattle.std.proofs.Common.{Ok, subst, sym}
use Rattle.std.proofs.lemmas.Result.{err_from_is_err_and}
use Rattle.rr_serve.proofs.ReadingLemmas.{Begins, Begins-none, Begins-more, ReadsLine-ends, ReadsLine-fails, fewer_behind_part, goes_on}
use Rattle.rr_serve.specs.Reading.{TakesPart}
use Rattle.rr_serve.proofs.reading.read_line.Goals as goal

pub loop-ending-init : goal.loop-ending-init
loop-ending-init g c =
    let state = g.I.Input.state c.args.reader.now in
    subst (Begins state state) (sym c.clear.ensures) (Begins-none state)

pub returns-in-Some : goal.returns-in-Some
returns-in-Some g c =
    let now = g.I.Input.state c.loop-ending.reader in
    let new = g.I.Input.state c.take_part.new.self in
    ReadsLine-ends c.loop-ending.invariant c.in-Some.ending
    (subst (λ ending. TakesPart now new c.loop-ending.buffer c.take_part.new.line (Ok ending)) c.in-Some.is c.in_ok-ending.ensures)

pub loop-ending-preserved : goal.loop-ending-preserved
loop-ending-preserved g c =
    Begins-more c.loop-ending.invariant (goes_on _ _ _ _ c.in_ok-ending.field-0 c.in_default.not-Some c.in_ok-ending.ensures)

pub loop-ending-smaller : goal.loop-ending-smaller
loop-ending-smaller g c =
    fewer_behind_part _ _ _ _ (goes_on _ _ _ _ c.in_ok-ending.field-0 c.in_default.not-Some c.in_ok-ending.ensures)

pub returns-in_err-ending : goal.returns-in_err-ending
returns-in_err-ending g c =
    let p = err_from_is_err_and c.from_residual.result c.from_residual.ensures.1 in
    rw (p.1, p.2) (ReadsLine-fails c.loop-ending.invariant _ c.in_err-ending.ensures)
