use Rattle.std.proofs.Common.{refl}
use Rattle.rr_entries.proofs.OpeningLemmas.{whole_opening}
use Rattle.rr_entries.proofs.opening.opening_entries.Goals as goal

pub returns-clause-entries : goal.returns-clause-entries
returns-clause-entries c =
    whole_opening c.args.players.now _ c.args.roster.now _ c.corporations.result c.new-entries.result c.pay_players.new.entries c.offer_privates.new.entries c.offer_all_shares.new.entries
    c.offer_trains.new.entries c.push.new.self refl c.in_ok-names.ensures.names c.corporations.ensures.value c.new-entries.ensures c.in_ok-pay_players.ensures.ok c.in_ok-offer_privates.ensures.ok
    c.in_ok-offer_all_shares.ensures.ok c.in_ok-offer_trains.ensures.ok c.in_ok-push.ensures.ok
