-- What a train that leaves the bank brings about, and how a train changes hands.
use Rattle.std.specs.Prelude.{ℕ, Bool, false, not, [], ◌∷◌, Option, None, Some, map, if◌then◌else◌}
use Rattle.rr_roster.specs.declared.company.Private.{Private}
use Rattle.rr_roster.specs.declared.company.Private.TheVariants as P
use Rattle.rr_roster.specs.declared.company.Corp.{Corp}
use Rattle.rr_roster.specs.declared.company.Corp.TheVariants as C
use Rattle.rr_roster.specs.declared.company.Kind.{Kind}
use Rattle.rr_roster.specs.declared.company.Kind.TheVariants as K
use Rattle.rr_roster.specs.Company.{privates}
use Rattle.rr_books.specs.declared.parties.Place.{Place}
use Rattle.rr_books.specs.declared.parties.Place.TheVariants as L
use Rattle.rr_books.specs.declared.certificates.Train.{Train}
use Rattle.rr_books.specs.declared.certificates.Cert.TheVariants as Cert
use Rattle.rr_books.specs.declared.entries.Entry.TheVariants as E
use Rattle.rr_books.specs.Book.{Book, holder, train_holder}
use Rattle.rr_books.specs.Same.{same_place}
use Rattle.rr_desk.specs.Effects.{Effect, in_turn}
use Rattle.rr_market.specs.Operations.Phases.{train, train_numbers}
use Rattle.rr_trains.specs.Places.{lowest_train}

abbrev pub moves_train_if : Option Train → Place → Book
moves_train_if None to = []
moves_train_if (Some t) to = E.Train t to ∷ []

-- of the trains of a kind at one place the one with the lowest number goes to another, if there is one
abbrev pub moves_lowest_train : Kind → Place → Place → Effect
moves_lowest_train kind from to book = moves_train_if (lowest_train (train_holder book) from kind) to

-- it is somewhere in the game
abbrev pub is_in_game : Option Place → Bool
is_in_game None = false
is_in_game (Some place) = not (same_place place L.Gone)

-- a train leaves the game, unless it has
unfoldable pub rusts : Kind → ℕ → Effect
rusts kind number book = if is_in_game (train_holder book (train kind number)) then E.Train (train kind number) L.Gone ∷ [] else []

-- all trains of a kind leave the game, by number
unfoldable pub all_rust : Kind → Effect
all_rust kind = in_turn (map (rusts kind) train_numbers)

-- a private closes, unless it has
unfoldable pub closes : Private → Effect
closes private book = if is_in_game (holder book (Cert.Private private)) then E.Move (Cert.Private private) L.Gone ∷ [] else []

-- all privates close, in the order of every roster
unfoldable pub all_close : Effect
all_close = in_turn (map closes privates)

-- what the first train of a kind brings about: the 4 ends the 2s, the 5 the privates, the 6 the 3s, the D the 4s
abbrev pub first_of_kind : Kind → Effect
first_of_kind K.Four = all_rust K.Two
first_of_kind K.Five = all_close
first_of_kind K.Six = all_rust K.Three
first_of_kind K.Diesel = all_rust K.Four
first_of_kind _ = in_turn []

abbrev pub first_if : Bool → Kind → Effect
first_if is_first kind = if is_first then first_of_kind kind else in_turn []

-- the B&O's private closes with the first train of the B&O: later ones find it closed
abbrev pub closes_own_private : Corp → Effect
closes_own_private C.Bo = closes P.Bo
closes_own_private _ = in_turn []

-- what a corporation's new train brings about, which is the first of its kind to leave the bank or isn't
unfoldable pub first_train : Bool → Kind → Corp → Effect
first_train is_first kind corp = in_turn (first_if is_first kind ∷ closes_own_private corp ∷ [])
