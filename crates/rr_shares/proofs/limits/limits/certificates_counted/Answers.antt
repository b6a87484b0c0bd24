use Rattle.std.proofs.Common.{◌∙◌, ◌+◌, ℕ, ap}
use Rattle.rr_books.specs.State.{State, holder_in}
use Rattle.rr_shares.specs.Limits.Holdings.{Holdings}
use Rattle.rr_shares.specs.Limits.HoldingLaws.{holdings-of_book}
use Rattle.rr_shares.specs.Limits.Limits.{certificates_counted, privates_held}
use Rattle.rr_shares.proofs.limits.limits.certificates_counted.Goals as goal

pub returns-clause-shown : goal.returns-clause-shown
unfolding certificates_counted
returns-clause-shown c =
    ap (λ (n : ℕ). n + c.shares_counted.result) (c.privates_held.ensures.value ∙ ap (λ (s : State). privates_held (holder_in s) c.args.seat) c.books.ensures)
    ∙ ap (λ (n : ℕ). privates_held (holder_in c.args.position.now.books) c.args.seat + n) c.shares_counted.ensures.value

pub returns-clause-book : goal.returns-clause-book
returns-clause-book c book h =
    returns-clause-shown c
    ∙ ap (λ (x : Holdings). certificates_counted x c.args.seat) (holdings-of_book c.args.chart.now book c.args.position.now h)
