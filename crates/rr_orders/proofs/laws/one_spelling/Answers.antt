use Rattle.std.proofs.Common.{refl, sym, ◌∙◌}
use Rattle.rr_orders.proofs.OrderLemmas.{order-unique, read_order-text}
use Rattle.rr_orders.proofs.laws.one_spelling.Goals as goal

pub returns-clause-read_back : goal.returns-clause-read_back
returns-clause-read_back _ = λ order is_order. read_order-text _ order (record { is_order = is_order; spelled = refl })

pub returns-clause-one_text : goal.returns-clause-one_text
returns-clause-one_text _ = λ first second order spells_first spells_second. spells_first.spelled ∙ sym spells_second.spelled

pub returns-clause-one_order : goal.returns-clause-one_order
returns-clause-one_order _ = order-unique
