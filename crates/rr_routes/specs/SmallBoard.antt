-- A small board, and routes on it.
use Rattle.std.specs.Prelude.{◌≡◌, ℕ, [], ◌∷◌, Vec}
use Rattle.std.specs.declared.alloc.Global.{Global}
use Rattle.rr_routes.specs.Net.{Net}
use Rattle.rr_routes.specs.Routes.{Trip}
use Rattle.rr_routes.specs.declared.certificate.CertTree.{CertTree, Bound, Bad, Split}
use Rattle.rr_routes.specs.declared.net.CentreLimit.{CentreLimit}
use Rattle.rr_routes.specs.declared.net.Link.{Link}
use Rattle.rr_routes.specs.declared.net.Node.{Node}
use Rattle.rr_routes.specs.declared.net.Node.TheVariants.{Hexside, Centre}

abbrev pub link_in : ℕ → ℕ → Node → Link
link_in hex side other = record { hex = hex; side = side; other = other }

-- Five hexes in a row: a city worth 20 with a token of the corporation, a track, a town worth 10, a city worth 30, an
-- off-board area worth 40. The corporation has one train.
abbrev pub small_board : CentreLimit → Net
small_board limit =
    record {
      links = link_in 0 0 (Centre 0) ∷ link_in 1 0 (Hexside 1) ∷ link_in 2 1 (Centre 1) ∷ link_in 2 2 (Centre 1)
          ∷ link_in 3 2 (Centre 2) ∷ link_in 3 3 (Centre 2) ∷ link_in 4 3 (Centre 3) ∷ [];
      tokens = 0 ∷ [];
      terminals = 3 ∷ [];
      values = 20 ∷ 10 ∷ 30 ∷ 40 ∷ [];
      trains = limit ∷ [];
    }

-- from the first city to the town
abbrev pub to_town : Trip
to_town = record { links = 0 ∷ 1 ∷ 2 ∷ []; nodes = Centre 0 ∷ Hexside 0 ∷ Hexside 1 ∷ Centre 1 ∷ [] }

-- through the town to the other city
abbrev pub to_city : Trip
to_city =
    record {
      links = 0 ∷ 1 ∷ 2 ∷ 3 ∷ 4 ∷ [];
      nodes = Centre 0 ∷ Hexside 0 ∷ Hexside 1 ∷ Centre 1 ∷ Hexside 2 ∷ Centre 2 ∷ [];
    }

-- through town and city to the off-board area
abbrev pub off_board : Trip
off_board =
    record {
      links = 0 ∷ 1 ∷ 2 ∷ 3 ∷ 4 ∷ 5 ∷ 6 ∷ [];
      nodes = Centre 0 ∷ Hexside 0 ∷ Hexside 1 ∷ Centre 1 ∷ Hexside 2 ∷ Centre 2 ∷ Hexside 3 ∷ Centre 3 ∷ [];
    }

-- The certificate that a train of two centres earns 30 at most. Over the link behind the town it earns no more; where
-- nothing runs there, the bound is enough, and so it is where nothing runs over the first link. A train that ran over
-- both and over the link before the second city would touch three centres, and without that link wouldn't reach the other.
pub record ThirtyAtMost (tree : CertTree) : Type 0 where
  pub outer : Vec CertTree Global
  pub middle : Vec CertTree Global
  pub deepest : Vec CertTree Global
  pub tree_is : tree ≡ Split 4 outer
  pub outer_are : outer.items ≡ Bound ∷ Split 0 middle ∷ []
  pub middle_are : middle.items ≡ Bound ∷ Split 3 deepest ∷ []
  pub deepest_are : deepest.items ≡ Bad 0 ∷ Bad 0 ∷ []

-- the links of a hex with two tracks from one side, and of the city before that side
abbrev pub forked_board : CentreLimit → Net
forked_board limit =
    record {
      links = link_in 0 0 (Centre 0) ∷ link_in 1 0 (Hexside 1) ∷ link_in 1 0 (Hexside 4) ∷ [];
      tokens = 0 ∷ [];
      terminals = [];
      values = 20 ∷ [];
      trains = limit ∷ [];
    }
