-- The tests on the links that are a train's own.
use Rattle.std.specs.Prelude.{◌≡◌, ℕ, ◌<◌, ◌==◌, ◌&&◌, ◌||◌, ◌↔◌, not, nat_lt, Bool, true, false, Option, None, Some, List, AllPairs, Contains, length, slice_get, slice_index_or}
use Rattle.std.specs.List.{list_any}
use Rattle.rr_routes.specs.declared.net.Node.{Node}
use Rattle.rr_routes.specs.declared.net.Node.TheVariants.{Hexside, Centre}
use Rattle.rr_routes.specs.declared.net.Link.{Link}
use Rattle.rr_routes.specs.declared.net.CentreLimit.{CentreLimit}
use Rattle.rr_routes.specs.declared.net.CentreLimit.TheVariants.{AtMost, Unlimited}
use Rattle.rr_routes.specs.declared.certificate.Fate.{Fate}
use Rattle.rr_routes.specs.declared.certificate.Fate.TheVariants.{Open, Denied, Of}
use Rattle.rr_routes.specs.Net.{Net, Touches}
use Rattle.rr_routes.specs.Certificates.{fate_of}
use Rattle.rr_routes.specs.Reachability.Reach.{IsMarked}
use Rattle.rr_checker.specs.declared.step.Step.{Step}
use Rattle.rr_checker.specs.Steps.{same_node}
use Rattle.rr_checker.specs.Index.{noted_at}

-- the fate is that train
abbrev pub is_of : ℕ → Fate → Bool
is_of train Open = false
is_of train Denied = false
is_of train (Of owner) = owner == train

-- the fate is another train
abbrev pub is_others : ℕ → Fate → Bool
is_others train Open = false
is_others train Denied = false
is_others train (Of owner) = not (owner == train)

-- these are the places, among the first n, of the fates that pass the test, in ascending order
pub record AreSelected (test : Fate → Bool) (fates : List Fate) (n : ℕ) (places : List ℕ) : Type 0 where
  pub ascending : AllPairs (λ a b. a < b) places
  pub exact : (link : ℕ) → Contains places link ↔ ((link < n) × (test (fate_of fates link) ≡ true))

-- the links whose fates pass the test, each below those behind it
pub record AreLinksWith (test : Fate → Bool) (fates : List Fate) (places : List ℕ) : Type 0 where
  pub ascending : AllPairs (λ a b. a < b) places
  pub exact : (link : ℕ) → Contains places link ↔ (test (fate_of fates link) ≡ true)

abbrev pub some_link : Option Link → (Link → Bool) → Bool
some_link None test = false
some_link (Some link) test = test link

abbrev pub link_touches : Node → Link → Bool
link_touches node link = same_node node (Hexside link.side) || same_node node link.other

abbrev pub touches : Net → ℕ → Node → Bool
touches net place node = some_link (slice_get net.links place) (link_touches node)

abbrev pub is_third : Net → Node → ℕ → ℕ → ℕ → Bool
is_third net node one two three = not (one == three) && (not (two == three) && touches net three node)

abbrev pub is_second : Net → List ℕ → Node → ℕ → ℕ → Bool
is_second net own node one two = not (one == two) && (touches net two node && list_any (is_third net node one two) own)

-- the link meets two more of the list at the node
abbrev pub crowds : Net → List ℕ → ℕ → Node → Bool
crowds net own one node = list_any (is_second net own node one) own

abbrev pub crowds_end : Net → List ℕ → ℕ → Link → Bool
crowds_end net own one link = crowds net own one (Hexside link.side) || crowds net own one link.other

abbrev pub is_crowded_by : Net → List ℕ → ℕ → Bool
is_crowded_by net own one = some_link (slice_get net.links one) (crowds_end net own one)

-- three links of the list meet at a node
abbrev pub is_crowded : Net → List ℕ → Bool
is_crowded net own = list_any (is_crowded_by net own) own

-- more centres than a train of the limit counts
abbrev pub is_over : CentreLimit → ℕ → Bool
is_over (AtMost most) count = nat_lt most count
is_over Unlimited count = false

-- a step goes over the link
abbrev pub GoesOver : List Step → ℕ → Type 0
GoesOver ends link = (step : Step) × Contains ends step × (step.link ≡ link)

-- of so many links those have a mark that a step goes over
pub record AreGoneOver (ends : List Step) (count : ℕ) (marks : List Bool) : Type 0 where
  pub as_long : length marks ≡ count
  pub exact : (link : ℕ) → IsMarked marks link ↔ ((link < count) × GoesOver ends link)

-- one of the links has no mark
abbrev pub is_unreached : List Bool → List ℕ → Bool
is_unreached reached own = list_any (λ link. not (slice_index_or reached link false)) own

-- the node is a hexside that one of the links touches
abbrev pub is_side_of : Net → List ℕ → Node → Bool
is_side_of net others (Centre centre) = false
is_side_of net others (Hexside side) = list_any (λ other. touches net other (Hexside side)) others

abbrev pub shares_end : Net → List ℕ → Link → Bool
shares_end net others link = is_side_of net others (Hexside link.side) || is_side_of net others link.other

abbrev pub shares_side : Net → List ℕ → ℕ → Bool
shares_side net others place = some_link (slice_get net.links place) (shares_end net others)

-- a link of the one list touches a hexside that one of the other list touches
abbrev pub is_shared : Net → List ℕ → List ℕ → Bool
is_shared net own others = list_any (shares_side net others) own

-- a link of the list touches the centre
abbrev pub IsTouched : Net → List ℕ → ℕ → Type 0
IsTouched net own centre = (link : ℕ) × Contains own link × Touches net link (Centre centre)

-- The same tests over an index of the links: at a node only those noted there are looked at.
abbrev pub crowds_end_on : Net → List (List ℕ) → ℕ → Link → Bool
crowds_end_on net index one link = crowds net (noted_at index (Hexside link.side)) one (Hexside link.side) || crowds net (noted_at index link.other) one link.other

abbrev pub is_crowded_on : Net → List (List ℕ) → List ℕ → Bool
is_crowded_on net index own = list_any (λ one. some_link (slice_get net.links one) (crowds_end_on net index one)) own

abbrev pub shares_end_on : Net → List (List ℕ) → Link → Bool
shares_end_on net index link =
    is_side_of net (noted_at index (Hexside link.side)) (Hexside link.side) || is_side_of net (noted_at index link.other) link.other

abbrev pub is_shared_on : Net → List (List ℕ) → List ℕ → Bool
is_shared_on net index own = list_any (λ place. some_link (slice_get net.links place) (shares_end_on net index)) own

abbrev pub is_touched_on : Net → List (List ℕ) → ℕ → Bool
is_touched_on net index centre = list_any (λ link. touches net link (Centre centre)) (noted_at index (Centre centre))
