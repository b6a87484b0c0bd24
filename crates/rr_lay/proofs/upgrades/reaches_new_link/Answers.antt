use Rattle.std.proofs.Common.{[], ◌∷◌, ◌++◌, ◌∙◌, ap, ◌≡◌}
use Rattle.rr_tiles.specs.declared.supply.Supply.{Supply}
use Rattle.rr_kit.specs.Board.Plan.{Plan}
use Rattle.std.specs.Prelude.{List}
use Rattle.rr_desk.specs.Layout.Layout.{Placed}
use Rattle.rr_network.specs.Network.{net_of}
use Rattle.rr_lay.proofs.NewLinkLemmas.{new_ones_lie_on}
use Rattle.rr_lay.proofs.ReachLemmas.{judged}
use Rattle.rr_lay.proofs.upgrades.reaches_new_link.Goals as goal

same_net : (plan same : Plan) (tiles equal : List Supply) (a b : Placed) → plan ≡ same → tiles ≡ equal → a ≡ b → net_of plan tiles a ≡ net_of same equal b
same_net plan same tiles equal a b e f g = λ i. net_of (e i) (f i) (g i)

pub returns-clause-answer : goal.returns-clause-answer
returns-clause-answer c =
    judged c.reaches_any.result c.in_ok-reach.reach c.links.result.now c.args.lay.now.hex c.links-2.result.now c.in_ok-old.old c.in_ok-new.new _ _ c.args.corp c.reaches_any.ensures c.links.ensures c.links-2.ensures c.in_ok-reach.ensures.links
    (c.in_ok-old.ensures.value ∙ same_net _ _ _ _ _ _ c.board.ensures c.tiles.ensures c.layout-layout.ensures)
    (c.in_ok-new.ensures.value ∙ same_net _ _ _ _ _ _ c.board-2.ensures c.tiles-2.ensures (c.in-Some.ensures.value ∙ ap (λ (l : Placed). record { lays = l.lays ++ c.args.lay.now ∷ []; stations = l.stations }) c.layout-layout.ensures))
    (new_ones_lie_on c.args.kit.now.board c.args.kit.now.tiles c.args.position.now.layout.lays c.args.position.now.layout.stations c.args.lay.now)
