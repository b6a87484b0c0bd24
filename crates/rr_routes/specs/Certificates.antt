-- When a certificate is accepted for a claim.
use Rattle.std.specs.Prelude.{◌≡◌, ◌≢◌, ℕ, ◌+◌, ◌<◌, ◌≤◌, List, [], ◌∷◌, Contains, length, map, replicate, sum_by, slice_index_or, slice_set, ⊤}
use Rattle.std.specs.List.{range_with_len}
use Rattle.rr_routes.specs.declared.net.Node.{Node}
use Rattle.rr_routes.specs.declared.net.Node.TheVariants.{Hexside, Centre}
use Rattle.rr_routes.specs.declared.certificate.Fate.{Fate}
use Rattle.rr_routes.specs.declared.certificate.Fate.TheVariants.{Open, Denied, Of}
use Rattle.rr_routes.specs.declared.certificate.CertTree.{CertTree, Bound, Bad, Full, Split', Row_of-CertTree, end_of-CertTree, more_of-CertTree}
use Rattle.rr_routes.specs.declared.certificate.TheConstants.{MOST_NODES}
use Rattle.rr_routes.specs.Net.{Net, Touches, limit_of, IsWithin}
use Rattle.rr_routes.specs.Routes.{NoneTwice, Trip, trip_of, Run, worth, earned}
use Rattle.rr_routes.specs.Reach.{NodeReached, LinkReached}

-- the fate of the link at that place; where there is no link, nothing runs
abbrev pub fate_of : List Fate → ℕ → Fate
fate_of fates link = slice_index_or fates link Denied

-- a link of this fate may be used by the train
abbrev pub Allows : Fate → ℕ → Type 0
Allows Open train = ⊤
Allows Denied train = ⊥
Allows (Of owner) train = owner ≡ train

-- the train may use the link
abbrev pub MayUse : List Fate → ℕ → ℕ → Type 0
MayUse fates train link = Allows (fate_of fates link) train

-- the train's trip goes over the link
abbrev pub Uses : List Trip → ℕ → ℕ → Type 0
Uses run train link = Contains (trip_of run train).links link

-- the run keeps the fates: each train runs over links that it may use, and over all that are its own
pub record Keeps (fates : List Fate) (run : List Trip) : Type 0 where
  pub within : (train link : ℕ) → Uses run train link → MayUse fates train link
  pub all_own : (train link : ℕ) → fate_of fates link ≡ Of train → Uses run train link

-- centres that the train reaches, none twice, and no more of them than it counts
pub record Pick (net : Net) (fates : List Fate) (train : ℕ) (picked : List ℕ) : Type 0 where
  pub none_twice : NoneTwice picked
  pub counted : IsWithin (limit_of net train) (length picked)
  pub reached : (centre : ℕ) → Contains picked centre → NodeReached net (MayUse fates train) (Centre centre)

-- However each train picks among the centres that it reaches, the picks together are worth at most the claim: so
-- are the greatest values that they can count.
abbrev pub IsBounded : Net → ℕ → List Fate → Type 0
IsBounded net claim fates =
    (picks : List (List ℕ)) → length picks ≡ length net.trains
    → ((train : ℕ) → train < length picks → Pick net fates train (slice_index_or picks train []))
    → sum_by (worth net) picks ≤ claim

-- why no run can take the train over all the links that are its own
pub data IsBad (net : Net) (fates : List Fate) (train : ℕ) : Type 0 where
  -- three of them meet at a node
  three_links : (node : Node) (one two three : ℕ) → one ≢ two → one ≢ three → two ≢ three
      → fate_of fates one ≡ Of train → fate_of fates two ≡ Of train → fate_of fates three ≡ Of train
      → Touches net one node → Touches net two node → Touches net three node → IsBad net fates train
  -- they touch more centres than it counts
  too_many_centres : (touched : List ℕ) → NoneTwice touched
      → ((centre : ℕ) → Contains touched centre → (link : ℕ) × (fate_of fates link ≡ Of train) × Touches net link (Centre centre))
      → (IsWithin (limit_of net train) (length touched) → ⊥) → IsBad net fates train
  -- it doesn't reach one of them
  not_reached : (link : ℕ) → fate_of fates link ≡ Of train → (LinkReached net (MayUse fates train) link → ⊥) → IsBad net fates train
  -- a link of another train touches a hexside of theirs
  side_shared : (side link other owner : ℕ) → train ≢ owner → fate_of fates link ≡ Of train → fate_of fates other ≡ Of owner
      → Touches net link (Hexside side) → Touches net other (Hexside side) → IsBad net fates train

-- every link is decided, and no run over just these links earns more than the claim
pub record IsFull (net : Net) (claim : ℕ) (fates : List Fate) : Type 0 where
  pub decided : (link : ℕ) → fate_of fates link ≢ Open
  pub most : (run : List Trip) → Run net run → Keeps fates run → earned net run ≤ claim

-- the cases of a split: the link is denied to all, or it is of one of the trains
abbrev pub choices : Net → List Fate
choices net = Denied ∷ map Of (range_with_len 0 (length net.trains))

abbrev mutual
  -- under these fates the tree shows that no run earns more than the claim
  pub AcceptsUnder : Net → ℕ → List Fate → CertTree → Type 0
  AcceptsUnder net claim fates Bound = IsBounded net claim fates
  AcceptsUnder net claim fates (Bad train) = (train < length net.trains) × IsBad net fates train
  AcceptsUnder net claim fates Full = IsFull net claim fates
  AcceptsUnder net claim fates (Split' link shape children) =
      (fate_of fates link ≡ Open) × AcceptsEach net claim fates link (choices net) children

  -- the children are one for each of these fates of the link, in order, and each is accepted
  pub AcceptsEach : Net → ℕ → List Fate → ℕ → List Fate → {m : _} → Row_of-CertTree m → Type 0
  AcceptsEach net claim fates link [] end_of-CertTree = ⊤
  AcceptsEach net claim fates link [] (more_of-CertTree child children) = ⊥
  AcceptsEach net claim fates link (choice ∷ rest) end_of-CertTree = ⊥
  AcceptsEach net claim fates link (choice ∷ rest) (more_of-CertTree child children) =
      AcceptsUnder net claim (slice_set fates link choice) child × AcceptsEach net claim fates link rest children

abbrev mutual
  -- how many nodes the tree has
  pub node_count : CertTree → ℕ
  node_count Bound = 1
  node_count (Bad train) = 1
  node_count Full = 1
  node_count (Split' link shape children) = 1 + row_count children

  pub row_count : {m : _} → Row_of-CertTree m → ℕ
  row_count end_of-CertTree = 0
  row_count (more_of-CertTree child children) = node_count child + row_count children

-- the net's links before any is decided
abbrev pub all_open : Net → List Fate
all_open net = replicate (length net.links) Open

-- the tree is accepted for the claim: it has at most `MOST_NODES` nodes and shows that no run earns more
pub record Accepts (net : Net) (claim : ℕ) (tree : CertTree) : Type 0 where
  pub small : node_count tree ≤ MOST_NODES
  pub shown : AcceptsUnder net claim (all_open net) tree
