-- What a train reaches over the links that it may use.
use Rattle.std.specs.Prelude.{ℕ, List, ◌∷◌, ◌⊎◌}
use Rattle.std.specs.List.{AllByRecursion}
use Rattle.rr_routes.specs.declared.net.Node.{Node}
use Rattle.rr_routes.specs.Net.{Net, HasToken}
use Rattle.rr_routes.specs.Routes.{Walk, NoTerminalInside, last}

-- A walk from a token over such links, with no terminal node inside, that ends with this link at this node. It is written
-- from its end back to the token.
pub record WalkTo (net : Net) (MayUse : ℕ → Type 0) (link : ℕ) (node : Node) : Type 0 where
  pub links : List ℕ
  pub nodes : List Node
  pub walk : Walk net (link ∷ links) (node ∷ nodes)
  pub no_terminal : NoTerminalInside net (node ∷ nodes)
  pub free : AllByRecursion MayUse (link ∷ links)
  pub token : HasToken net (last node nodes)

-- the node has a token, or a walk ends at it
abbrev pub NodeReached : Net → (ℕ → Type 0) → Node → Type 0
NodeReached net MayUse node = HasToken net node ⊎ ((link : ℕ) × WalkTo net MayUse link node)

-- a walk ends with the link
abbrev pub LinkReached : Net → (ℕ → Type 0) → ℕ → Type 0
LinkReached net MayUse link = (node : Node) × WalkTo net MayUse link node
