-- The net of links over which one corporation runs its trains.
use Rattle.std.specs.Prelude.{◌≡◌, ℕ, ◌≤◌, List, ◌⊎◌, Some, Contains, slice_get, slice_index, slice_index_or, ⊤}
use Rattle.rr_routes.specs.declared.net.Node.{Node}
use Rattle.rr_routes.specs.declared.net.Node.TheVariants.{Hexside, Centre}
use Rattle.rr_routes.specs.declared.net.Link.{Link}
use Rattle.rr_routes.specs.declared.net.CentreLimit.{CentreLimit}
use Rattle.rr_routes.specs.declared.net.CentreLimit.TheVariants.{AtMost, Unlimited}

-- The links, named by their places; the centres that have a token of the corporation; those that none of its routes
-- passes; what each centre is worth; and how many centres each of its trains counts.
pub record Net : Type 0 where
  pub links : List Link
  pub tokens : List ℕ
  pub terminals : List ℕ
  pub values : List ℕ
  pub trains : List CentreLimit

-- the net has this link at that place
abbrev pub LinkAt : Net → ℕ → Link → Type 0
LinkAt net place link = slice_get net.links place ≡ Some link

-- these are the two ends of the link, in one order or the other
abbrev pub AreEnds : Link → Node → Node → Type 0
AreEnds link from to = ((from ≡ Hexside link.side) × (to ≡ link.other)) ⊎ ((from ≡ link.other) × (to ≡ Hexside link.side))

-- the link at that place joins the nodes
abbrev pub Joins : Net → ℕ → Node → Node → Type 0
Joins net place from to = (link : Link) × LinkAt net place link × AreEnds link from to

-- the node is an end of the link at that place
abbrev pub Touches : Net → ℕ → Node → Type 0
Touches net place node = (link : Link) × LinkAt net place link × ((node ≡ Hexside link.side) ⊎ (node ≡ link.other))

-- the links at these places lie in different hexes
abbrev pub InDifferentHexes : Net → ℕ → ℕ → Type 0
InDifferentHexes net one other = (first second : Link) → LinkAt net one first → LinkAt net other second → first.hex ≡ second.hex → ⊥

-- the node is a centre
abbrev pub IsCentre : Node → Type 0
IsCentre (Hexside side) = ⊥
IsCentre (Centre centre) = ⊤

-- the corporation has a token at the node
abbrev pub HasToken : Net → Node → Type 0
HasToken net (Hexside side) = ⊥
HasToken net (Centre centre) = Contains net.tokens centre

-- no route of the corporation goes on from the node: it is an off-board area, or its slots are filled by others
abbrev pub IsTerminal : Net → Node → Type 0
IsTerminal net (Hexside side) = ⊥
IsTerminal net (Centre centre) = Contains net.terminals centre

-- what the centre is worth
abbrev pub value : Net → ℕ → ℕ
value net centre = slice_index net.values centre

-- how many centres the train of that place counts
abbrev pub limit_of : Net → ℕ → CentreLimit
limit_of net train = slice_index_or net.trains train (AtMost 0)

-- so many centres are within the limit
abbrev pub IsWithin : CentreLimit → ℕ → Type 0
IsWithin (AtMost most) count = count ≤ most
IsWithin Unlimited count = ⊤
