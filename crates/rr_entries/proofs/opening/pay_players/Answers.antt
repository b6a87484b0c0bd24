use Rattle.std.proofs.Common.{◌≡◌, ℤ, ◌++◌, [], ◌∷◌, ap, ◌∙◌, arith}
use Rattle.rr_books.specs.Opening.{opening_payments, start_of, starts}
use Rattle.rr_books.specs.declared.entries.Entry.TheVariants as E
use Rattle.rr_books.specs.declared.parties.Party.TheVariants as P
use Rattle.rr_entries.proofs.OpeningLemmas.{range_more}
use Rattle.rr_entries.proofs.opening.pay_players.Goals as goal

pub loop-seat-preserved : goal.loop-seat-preserved
loop-seat-preserved c =
    range_more (start_of c.args.players) 0 c.loop-seat.seat c.loop-seat.seat c.args.entries.now c.loop-seat.entries c.push.new.self (omega arith) c.loop-seat.invariant
    (c.in_ok-push.ensures.ok
    ∙ ap (λ (a : ℤ). c.loop-seat.entries ++ E.Pay P.Bank (P.Seat (record { 0 = c.loop-seat.seat })) (record { 0 = a }) ∷ []) c.starting_money-amount.ensures)

pub returns-clause-ok : goal.returns-clause-ok
unfolding opening_payments
returns-clause-ok c =
    let all : c.loop-seat.seat ≡ c.args.players = omega arith in
    c.loop-seat.invariant ∙ ap (λ k. c.args.entries.now ++ starts c.args.players k) all
