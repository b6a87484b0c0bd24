-- The sheets of lawful runs, and what other sheets break first.
use Rattle.std.specs.Prelude.{◌≡◌, ◌≢◌, ℕ, suc, ◌-◌, ◌<◌, ◌≤◌, ◌⊎◌, Option, None, Some, List, [], ◌∷◌, Contains, length, map, slice_get, slice_index, ⊤}
use Rattle.rr_roster.specs.declared.company.Kind.{Kind}
use Rattle.rr_roster.specs.declared.company.Kind.TheVariants.{Two, Three, Four, Five, Six, Diesel}
use Rattle.rr_routes.specs.declared.net.CentreLimit.{CentreLimit}
use Rattle.rr_routes.specs.declared.net.CentreLimit.TheVariants.{AtMost, Unlimited}
use Rattle.rr_routes.specs.declared.net.Node.{Node}
use Rattle.rr_routes.specs.Net.{Net, HasToken, limit_of, IsWithin}
use Rattle.rr_routes.specs.Routes.{Walk, EndsAreCentres, NoneTwice, NoTerminalInside, centres, Trip, no_trip, trip_of, Route, Apart, Run, earned}
use Rattle.rr_routes.specs.declared.sheets.sheet.TrainWord.{TrainWord}
use Rattle.rr_books.specs.declared.clause.Clause.{Clause}
use Rattle.rr_books.specs.declared.clause.Clause.TheVariants.{WrongWord, NoWalk, NodeTwice, TerminalInside, NoToken, TooManyCentres, SharedHexside}
use Rattle.rr_books.specs.declared.refusal.Refusal.{Refusal}
use Rattle.rr_books.specs.declared.refusal.Refusal.TheVariants.{IllegalSheet, OutOfMemory}

-- how many centres a train of the kind counts
abbrev pub limit_of_kind : Kind → CentreLimit
limit_of_kind Two = AtMost 2
limit_of_kind Three = AtMost 3
limit_of_kind Four = AtMost 4
limit_of_kind Five = AtMost 5
limit_of_kind Six = AtMost 6
limit_of_kind Diesel = Unlimited

-- the first link is below the last one
abbrev pub Ascends : List ℕ → Type 0
Ascends links = slice_index links 0 < slice_index links (length links - 1)

-- The word is of a kind that counts so many centres, and names the links of the trip by their numbers, from 1; of the
-- two ways to write a route it takes the one that begins with the lower number.
pub record IsWordOf (limit : CentreLimit) (word : TrainWord) (trip : Trip) : Type 0 where
  pub kind : limit_of_kind word.kind ≡ limit
  pub numbers : word.links ≡ map suc trip.links
  pub direction : (trip.links ≡ []) ⊎ Ascends trip.links

-- the sheet has this word for the train of that place
abbrev pub WordAt : List TrainWord → ℕ → TrainWord → Type 0
WordAt sheet train word = slice_get sheet train ≡ Some word

-- the sheet has a word for each trip of the run, in order, and no other
pub record IsSheetOf (net : Net) (sheet : List TrainWord) (run : List Trip) : Type 0 where
  pub complete : length sheet ≡ length run
  pub each : (train : ℕ) (word : TrainWord) → WordAt sheet train word → IsWordOf (limit_of net train) word (trip_of run train)

-- the sheet is that of a lawful run, which earns so much
pub record IsLegal (net : Net) (sheet : List TrainWord) (revenue : ℕ) : Type 0 where
  pub run : List Trip
  pub is_run : Run net run
  pub is_sheet : IsSheetOf net sheet run
  pub earns : earned net run ≡ revenue

-- the word is of the train's kind, and its numbers are those of links
pub record IsItsWord (net : Net) (limit : CentreLimit) (word : TrainWord) : Type 0 where
  pub kind : limit_of_kind word.kind ≡ limit
  pub links : (number : ℕ) → Contains word.links number → (0 < number) × (number ≤ length net.links)

-- the places of the links that the word names
abbrev pub links_of : TrainWord → List ℕ
links_of word = map (λ number. number - 1) word.links

-- the links are a walk between two centres, along nodes with a property
pub record Course (net : Net) (Holds : List Node → Type 0) (links : List ℕ) : Type 0 where
  pub nodes : List Node
  pub walk : Walk net links nodes
  pub ends : EndsAreCentres nodes
  pub holds : Holds nodes

-- a node has a token of the corporation
abbrev pub SomeToken : Net → List Node → Type 0
SomeToken net nodes = (node : Node) × Contains nodes node × HasToken net node

-- what each clause asks of the links of a train that counts so many centres
abbrev pub Asks : Net → CentreLimit → List ℕ → Clause → Type 0
Asks net limit links WrongWord = ⊤
Asks net limit links NoWalk = Ascends links × Course net (λ nodes. ⊤) links
Asks net limit links NodeTwice = Course net NoneTwice links
Asks net limit links TerminalInside = Course net (NoTerminalInside net) links
Asks net limit links NoToken = Course net (SomeToken net) links
Asks net limit links TooManyCentres = Course net (λ nodes. IsWithin limit (length (centres nodes))) links
Asks net limit links SharedHexside = ⊤

-- the clauses that one route may break, in the order in which they are tried
abbrev pub route_clauses : List Clause
route_clauses = NoWalk ∷ NodeTwice ∷ TerminalInside ∷ NoToken ∷ TooManyCentres ∷ []

-- of the clauses in order, this is the first that doesn't hold
abbrev pub IsFirstBroken : (Clause → Type 0) → List Clause → Clause → Type 0
IsFirstBroken Holds [] clause = ⊥
IsFirstBroken Holds (first ∷ rest) clause = ((clause ≡ first) × (Holds first → ⊥)) ⊎ (Holds first × IsFirstBroken Holds rest clause)

-- the first clause that the word of a train breaks, if it has one
pub data BreaksWord (net : Net) (limit : CentreLimit) (found : Option TrainWord) (clause : Clause) : Type 0 where
  -- there is no word
  missing : found ≡ None → clause ≡ WrongWord → BreaksWord net limit found clause
  -- it is of another kind, or a link doesn't exist
  another : (word : TrainWord) → found ≡ Some word → (IsItsWord net limit word → ⊥) → clause ≡ WrongWord → BreaksWord net limit found clause
  -- its links are no route
  no_route : (word : TrainWord) → found ≡ Some word → IsItsWord net limit word → word.links ≢ []
      → IsFirstBroken (Asks net limit (links_of word)) route_clauses clause → BreaksWord net limit found clause

-- the sheet's words for the first so many trains are those of the trips, each a route of its train or none
pub record AreLawful (net : Net) (sheet : List TrainWord) (count : ℕ) (run : List Trip) : Type 0 where
  pub complete : length run ≡ count
  pub enough : count ≤ length sheet
  pub words : (train : ℕ) (word : TrainWord) → train < count → WordAt sheet train word → IsWordOf (limit_of net train) word (trip_of run train)
  pub lawful : (train : ℕ) → train < count → (trip_of run train ≡ no_trip) ⊎ Route net (limit_of net train) (trip_of run train)

-- no hexside is in two of the trips
abbrev pub AreApart : List Trip → Type 0
AreApart run = (one other : ℕ) → one ≢ other → Apart (trip_of run one) (trip_of run other)

-- the first clause that the sheet breaks
pub data Breaks (net : Net) (sheet : List TrainWord) (clause : Clause) : Type 0 where
  -- the words of the trains before this one are lawful, and its own isn't
  at_train : (train : ℕ) (run : List Trip) → train < length net.trains → AreLawful net sheet train run
      → BreaksWord net (limit_of net train) (slice_get sheet train) clause → Breaks net sheet clause
  -- the words of all trains are lawful, and there are more
  left_over : (run : List Trip) → AreLawful net sheet (length net.trains) run → length net.trains < length sheet → clause ≡ WrongWord → Breaks net sheet clause
  -- the words are lawful one by one, and two routes have a hexside in common
  shared : (run : List Trip) → AreLawful net sheet (length net.trains) run → length sheet ≡ length net.trains → (AreApart run → ⊥) → clause ≡ SharedHexside
      → Breaks net sheet clause

-- memory is wanting, or the fault names the clause that is broken
abbrev pub IsRefusal : (Clause → Type 0) → Refusal → Type 0
IsRefusal Broken fault = (fault ≡ OutOfMemory) ⊎ ((clause : Clause) × (fault ≡ IllegalSheet clause) × Broken clause)
