-- Ways on which a train comes from a node to the next centre.
use Rattle.std.specs.Prelude.{ℕ, not, List, Contains, filter, slice_get}
use Rattle.rr_routes.specs.declared.net.Node.{Node}
use Rattle.rr_routes.specs.declared.net.Node.TheVariants.{Hexside, Centre}
use Rattle.rr_routes.specs.Net.{Net, Joins}
use Rattle.rr_routes.specs.Routes.{Passes}
use Rattle.rr_checker.specs.Own.{touches}
use Rattle.rr_checker.specs.Trips.{far_end}

-- those of the links that don't touch the node
abbrev pub apart_from : Net → Node → List ℕ → List ℕ
apart_from net node links = filter (λ link. not (touches net link node)) links

-- Over the link a train comes from the node to a centre, or to a hexside from which it goes on to one. Behind the link
-- it goes over these links alone, and over none that touches a node that it has left.
pub data LeadsOn (net : Net) : List ℕ → ℕ → Node → Type 0 where
  to_centre : (own : List ℕ) (link : ℕ) (from : Node) (centre : ℕ) → Joins net link from (Centre centre)
      → LeadsOn net own link from
  over_hexside : (own : List ℕ) (link : ℕ) (from : Node) (side next : ℕ) → Joins net link from (Hexside side)
      → Passes net link (Hexside side) next → Contains (apart_from net from own) next
      → LeadsOn net (apart_from net from own) next (Hexside side) → LeadsOn net own link from

-- over one of the links a way leads from the node to a centre
abbrev pub Leaves : Net → List ℕ → Node → Type 0
Leaves net own node = (link : ℕ) × Contains own link × LeadsOn net own link node

-- from one of the centres a way leads to another
abbrev pub SomeLeaves : Net → List ℕ → List ℕ → Type 0
SomeLeaves net own centres = (centre : ℕ) × Contains centres centre × Leaves net own (Centre centre)

-- a walk over the link from one node to the other goes on over the next link
pub record GoesOn (net : Net) (link : ℕ) (from to : Node) (next : ℕ) : Type 0 where
  pub joins : Joins net link from to
  pub passes : Passes net link to next
  pub leads : Joins net next to (far_end (slice_get net.links next) to)
