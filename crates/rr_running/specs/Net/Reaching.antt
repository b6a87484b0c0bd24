-- What a corporation reaches in a network, and what a train reaches on the net.
use Rattle.std.specs.Prelude.{◌≡◌, ℕ, ◌+◌, ◌↔◌, true, List, Contains}
use Rattle.rr_kit.specs.declared.board.hex.Hex.{Hex}
use Rattle.rr_kit.specs.Board.Plan.{Plan}
use Rattle.rr_tiles.specs.declared.supply.Supply.{Supply}
use Rattle.rr_roster.specs.declared.company.Corp.{Corp}
use Rattle.rr_roster.specs.declared.company.Kind.{Kind}
use Rattle.rr_network.specs.declared.node.CentreAt.{CentreAt}
use Rattle.rr_network.specs.declared.node.Link.{Link}
use Rattle.rr_network.specs.declared.node.Node.{Node}
use Rattle.rr_network.specs.declared.node.Node.TheVariants.{Hexside, Centre}
use Rattle.rr_desk.specs.Layout.Layout.{Placed}
use Rattle.rr_network.specs.Network.{Net as Network, net_of as network_of}
use Rattle.rr_network.specs.Walk.{ReachesLink, ReachesNode, has_token, is_terminal}
use Rattle.rr_routes.specs.Certificates.{MayUse, all_open}
use Rattle.rr_routes.specs.Net.{HasToken, IsTerminal}
use Rattle.rr_routes.specs.Reach.{LinkReached, NodeReached}
use Rattle.rr_running.specs.Net.Joining.{node_of, sides_in}
use Rattle.rr_running.specs.Net.Running.{net_of}
use Rattle.rr_running.specs.Net.Telling.{HasCentre, IsOnBoard, Touch}

-- the link's hex is on the board, and a centre at its end is among the network's
pub record IsPlaced (hexes : List Hex) (network : Network) (link : Link) : Type 0 where
  pub hex : IsOnBoard hexes link.hex
  pub centre : (at : CentreAt) → link.end ≡ Centre at → HasCentre network.stops at

-- all links of the network are
abbrev pub LiesOn : List Hex → Network → Type 0
LiesOn hexes network = (link : Link) → Contains network.links link → IsPlaced hexes network link

-- some link of the network ends at the node, or it is one of its centres
abbrev pub IsNodeOf : Network → Node → Type 0
IsNodeOf network (Hexside side) = Touch network.links side
IsNodeOf network (Centre at) = HasCentre network.stops at

-- whatever was put on a board, the network lies on it
abbrev pub NetworksLieOnBoards : Type 0
NetworksLieOnBoards = (plan : Plan) (tiles : List Supply) (placed : Placed) → LiesOn plan.hexes (network_of plan tiles placed)

-- the net has tokens of the corporation at the nodes at which the network has them
abbrev pub TokensStandAlike : Type 0
TokensStandAlike = (hexes : List Hex) (network : Network) (corp : Corp) (trains : List Kind) (phase : Kind) → LiesOn hexes network
    → (node : Node) → IsNodeOf network node → let net = net_of hexes network corp trains phase in
    HasToken net (node_of (sides_in network.links) network.stops node) ↔ (has_token network.stations corp node ≡ true)

-- its terminal nodes are those of the network
abbrev pub TerminalsAreAlike : Type 0
TerminalsAreAlike = (hexes : List Hex) (network : Network) (corp : Corp) (trains : List Kind) (phase : Kind) → LiesOn hexes network
    → (node : Node) → IsNodeOf network node → let net = net_of hexes network corp trains phase in
    IsTerminal net (node_of (sides_in network.links) network.stops node) ↔ (is_terminal network.stops network.stations corp node ≡ true)

-- a corporation reaches the nodes that its trains reach before any link is decided
abbrev pub NodesAreReachedAlike : Type 0
NodesAreReachedAlike = (hexes : List Hex) (network : Network) (corp : Corp) (trains : List Kind) (phase : Kind) → LiesOn hexes network
    → (train : ℕ) (node : Node) → IsNodeOf network node → let net = net_of hexes network corp trains phase in
    NodeReached net (MayUse (all_open net) train) (node_of (sides_in network.links) network.stops node) ↔ ReachesNode network corp node

-- it reaches the links that they reach
abbrev pub LinksAreReachedAlike : Type 0
LinksAreReachedAlike = (hexes : List Hex) (network : Network) (corp : Corp) (trains : List Kind) (phase : Kind) → LiesOn hexes network
    → (train place : ℕ) → let net = net_of hexes network corp trains phase in
    LinkReached net (MayUse (all_open net) train) place ↔ ReachesLink network corp (place + 1)
