use Rattle.rr_laws.proofs.RightDividends.{never_wrong}
use Rattle.rr_laws.proofs.never_pays_a_wrong_dividend.Goals as goal

pub returns : goal.returns
returns c texts kit commands spelled played =
    never_wrong c.optimal.ensures.run c.pays_each_holder.ensures c.nobody_is_paid_for_the_offering.ensures c.withholding_pays_the_corporation.ensures texts kit commands spelled played
