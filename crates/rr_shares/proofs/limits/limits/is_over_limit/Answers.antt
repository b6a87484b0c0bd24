use Rattle.std.proofs.Common.{◌∙◌, ap, rules}
use Rattle.rr_shares.specs.Limits.Holdings.{Holdings}
use Rattle.rr_shares.specs.Limits.HoldingLaws.{holdings-of_book}
use Rattle.rr_shares.specs.Limits.Limits.{is_over_limit}
use Rattle.rr_shares.proofs.limits.limits.is_over_limit.Goals as goal

pub returns-then-is_over_certificates-clause-shown : goal.returns-then-is_over_certificates-clause-shown
returns-then-is_over_certificates-clause-shown c = search rules

pub returns-then-is_over_certificates-clause-book : goal.returns-then-is_over_certificates-clause-book
returns-then-is_over_certificates-clause-book c book h =
    returns-then-is_over_certificates-clause-shown c
    ∙ ap (λ (x : Holdings). is_over_limit x c.args.seat) (holdings-of_book c.args.chart.now book c.args.position.now h)

pub returns-clause-shown : goal.returns-clause-shown
returns-clause-shown c = search rules

pub returns-clause-book : goal.returns-clause-book
returns-clause-book c book h =
    returns-clause-shown c
    ∙ ap (λ (x : Holdings). is_over_limit x c.args.seat) (holdings-of_book c.args.chart.now book c.args.position.now h)
