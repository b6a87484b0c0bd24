use Rattle.std.specs.Prelude.{refl}
use Rattle.rr_roster.specs.Chart.Chart.{pars_in, pars_of}
use Rattle.rr_books.specs.Book.{balance, holder, players}
use Rattle.rr_books.specs.Shares.{counted, share}
use Rattle.rr_market.specs.Marks.{arrival, first_mark_of, mark_of}
use Rattle.rr_market.specs.Moves.{fallen_by}
use Rattle.rr_market.specs.Order.{order_by}
use Rattle.rr_shares.specs.Holdings.{heir, percents, percents_after_sale}
use Rattle.rr_shares.specs.Succession.{handover_after_sale, handover_due}
use Rattle.rr_shares.specs.Effects.{float, float_if_due, hands_over, moves_lowest_shares, presidency, presidency_after_sale, sale_shares}
use Rattle.rr_rounds.specs.Round.{progress}
use Rattle.rr_shares.specs.Limits.Limits.{certificates_counted, is_over_sixty_of_any}
use Rattle.rr_shares.specs.Limits.Sales.{has_lawful_sale, has_successor}
use Rattle.rr_stock.specs.Rules.{done_verdict, par_verdict, purchase_verdict, sale_verdict, turn_verdict}
use Rattle.rr_stock.specs.Effects.{buys_share, ends_stock_round, ends_turn, gets_share, pays_seller, rises, rises_among, rises_if_sold_out, sells, sets_par, settles_corporation, takes_presidency}
use Rattle.rr_stock.proofs.laws.worked_end.Goals as goal

pub returns : goal.returns
unfolding balance holder players share counted progress mark_of first_mark_of arrival order_by fallen_by pars_in pars_of certificates_counted is_over_sixty_of_any has_successor has_lawful_sale percents percents_after_sale heir handover_due handover_after_sale moves_lowest_shares hands_over presidency presidency_after_sale sale_shares float float_if_due turn_verdict par_verdict purchase_verdict sale_verdict done_verdict sets_par takes_presidency buys_share gets_share settles_corporation sells pays_seller rises_if_sold_out rises_among rises ends_stock_round ends_turn
returns c = record { lawful = refl; entries = refl; price = refl }
