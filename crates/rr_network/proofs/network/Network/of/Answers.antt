use Rattle.std.proofs.Common.{◌≡◌, ◌≤◌, length, subst, sym, ◌∙◌}
use Rattle.std.specs.Prelude.{All}
use Rattle.rr_kit.specs.declared.board.hex.TheConstants.{MOST_CENTRES}
use Rattle.rr_network.specs.Network.{Net, net_of}
use Rattle.rr_network.specs.Stops.{IsStop}
use Rattle.rr_network.proofs.StopLemmas.{few_stops, stops-sound}
use Rattle.rr_network.proofs.network.Network.of.Goals as goal

pub from_survey-requires : goal.from_survey-requires
from_survey-requires c =
    subst (λ (net : Net). All IsStop net.stops) (sym c.in_ok-survey.ensures) (stops-sound c.args.board.now c.args.tiles.now c.args.layout.now c.keeps_rules.ensures c.supplies-sound.ensures.sound)

pub returns-clause-few : goal.returns-clause-few
returns-clause-few c = λ same.
    let net : c.from_survey.result ≡ net_of c.args.board.now c.args.tiles.now c.args.layout.now = c.from_survey.ensures ∙ c.in_ok-survey.ensures in
    subst (λ (n : Net). length n.stops ≤ MOST_CENTRES) (sym net) (few_stops c.args.board.now c.args.tiles.now c.args.layout.now c.keeps_rules.ensures same)
