use Rattle.std.proofs.Common.{Bool, ap}
use Rattle.rr_books.specs.Book.{holder, players}
use Rattle.rr_rounds.specs.Bids.Progress.{progress}
use Rattle.rr_desk.proofs.Taking.{shown, takes_same}
use Rattle.rr_auction.specs.Effects.{brings_incomes, pass_of}
use Rattle.rr_auction.proofs.playing.play_pass.Goals as goal

pub returns-clause-takes : goal.returns-clause-takes
returns-clause-takes c =
    let s = c.args.seat in
    takes_same (pass_of c.args.roster.now s c.brings_incomes-brings.result)
    (λ book. pass_of c.args.roster.now s (brings_incomes (players book) (holder book) (progress book)) book) c.args.desk.now c.pass.new.desk
    (λ book h. ap (λ (brings : Bool). pass_of c.args.roster.now s brings book) (c.brings_incomes-brings.ensures book (shown c.position.ensures h)))
    c.in_ok-pass.ensures.takes
