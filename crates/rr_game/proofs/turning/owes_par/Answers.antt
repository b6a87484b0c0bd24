use Rattle.std.proofs.Common.{subst, sym}
use Rattle.rr_desk.specs.Position.Position.{IsPositionOf, OnTable}
use Rattle.rr_game.specs.Play.{play}
use Rattle.rr_game.proofs.turning.owes_par.Goals as goal

pub returns : goal.returns
returns c = λ kit commands h.
    let book = (play kit commands).book in
    c.owes_par.ensures book (subst (λ (p : OnTable). IsPositionOf book p) (sym c.position.ensures) h.position)
