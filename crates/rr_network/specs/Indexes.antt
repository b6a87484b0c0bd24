-- What is found in an index of lays, of stops or of steps, and by marks of links.
use Rattle.std.specs.Prelude.{◌≡◌, ℕ, ◌==◌, Bool, false, if◌then◌else◌, bytes_eq, List, Option, None, Some, slice_get, slice_index_or}
use Rattle.std.specs.List.{fold, list_any}
use Rattle.rr_tiles.specs.declared.part.Kind.{Kind}
use Rattle.rr_desk.specs.declared.layout.layout.Lay.{Lay}
use Rattle.rr_desk.specs.Layout.Layout.{last_lay}
use Rattle.rr_routes.specs.Reachability.Index.{noted_at}
use Rattle.rr_network.specs.declared.network.Stop.{Stop}
use Rattle.rr_network.specs.declared.node.CentreAt.{CentreAt}
use Rattle.rr_network.specs.declared.step.Step.{Step}
use Rattle.rr_network.specs.Node.{same_centre}
use Rattle.rr_network.specs.Keys.{centre_key, name_key, node_key}
use Rattle.rr_network.specs.Walk.{kind_at, may_follow}

-- the lay, if it is on the hex, or else the one before
abbrev pub lay_or : List ℕ → Option Lay → Option Lay → Option Lay
lay_or hex before None = before
lay_or hex before (Some lay) = if bytes_eq lay.hex hex then Some lay else before

-- the lay at the place, if it is on the hex, or else the one before
abbrev pub later_lay : List Lay → List ℕ → Option Lay → ℕ → Option Lay
later_lay lays hex before place = lay_or hex before (slice_get lays place)

-- the index finds the last lay of each hex
abbrev pub FindsLays : List Lay → List (List ℕ) → Type 0
FindsLays lays index = (hex : List ℕ) → fold (later_lay lays hex) None (noted_at index (name_key hex)) ≡ last_lay lays hex

-- the kind of the stop, if it is at the centre
abbrev pub kind_if : CentreAt → Option Stop → Option Kind
kind_if at None = None
kind_if at (Some stop) = if same_centre stop.at at then Some stop.kind else None

-- the kind that was found, or else that of the stop at the place
abbrev pub first_kind : List Stop → CentreAt → Option Kind → ℕ → Option Kind
first_kind stops at None place = kind_if at (slice_get stops place)
first_kind stops at (Some kind) place = Some kind

-- the index finds the kind of each centre
abbrev pub FindsKinds : List Stop → List (List ℕ) → Type 0
FindsKinds stops index = (at : CentreAt) → fold (first_kind stops at) None (noted_at index (centre_key at)) ≡ kind_at stops at

-- the key of the node that a step begins at
abbrev pub begins_at : Step → ℕ
begins_at step = node_key step.from

-- a walk may go on from the step by the other one, if it is there
abbrev pub next_follows : Step → Option Step → Bool
next_follows step None = false
next_follows step (Some next) = may_follow step next

abbrev pub follows : List Step → Step → ℕ → Bool
follows steps step place = next_follows step (slice_get steps place)

-- the step goes over the link of the number
abbrev pub is_over : ℕ → Step → Bool
is_over number step = step.number == number

-- each number has a mark where one of the steps goes over its link
abbrev pub AreOver : List Step → List Bool → Type 0
AreOver steps marks = (number : ℕ) → slice_index_or marks number false ≡ list_any (is_over number) steps
