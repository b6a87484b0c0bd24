use Rattle.rr_laws.proofs.Dividends.{dividend_was_right, held_was_withheld, revenues_in_tens}
use Rattle.rr_laws.proofs.dividends_were_right.Goals as goal

pub returns : goal.returns
returns c =
    record {
      revenues = revenues_in_tens;
      dividends = dividend_was_right c.pays_each_holder.ensures c.nobody_is_paid_for_the_offering.ensures;
      withheld = held_was_withheld c.withholding_pays_the_corporation.ensures;
    }
