-- What the file has of a moderator's tables, whatever a stop leaves.
use Rattle.std.specs.Prelude.{◌≡◌, ◌⊎◌, ℕ, ◌+◌, ◌<◌, ◌≤◌, ◌||◌, Bool, false, true, List, [], ◌∷◌, Option, None, Some, Result, Ok, Err, length, nat_eq, codes}
use Rattle.std.specs.List.{starts_with}
use Rattle.rr_code.specs.declared.line.Line.{Line}
use Rattle.rr_code.specs.declared.line.Line.TheVariants as L
use Rattle.rr_code.specs.declared.query.Query.{Query}
use Rattle.rr_code.specs.Line.{SpellsLine}
use Rattle.rr_code.specs.Request.{record_text}
use Rattle.rr_disk.specs.Disk.{DiskState, counted}
use Rattle.rr_disk.specs.Moments.{EachImage, LeavesOnly}
use Rattle.rr_images.specs.Calls.{TakesNewer}
use Rattle.rr_images.specs.Layout.{Layout}
use Rattle.rr_images.specs.Steps.{with_line}
use Rattle.rr_kit.specs.Kits.{KitTexts, SpellsKit}
use Rattle.rr_tables.specs.Records.Headline.{KeepsTablesOr}
use Rattle.rr_tables.specs.Records.Taking.{table_files}
use Rattle.rr_tables.specs.Records.Words.{in_words}
use Rattle.rr_store.specs.declared.fault.Fault as store
use Rattle.rr_store.specs.declared.store.Store.{Store}
use Rattle.rr_store.specs.Allowing.{BeforeOrAfter}
use Rattle.rr_store.specs.Committing.{Commits}
use Rattle.rr_store.specs.Files.{StandsFor}
use Rattle.rr_store.specs.Held.{Held, with_tables}
use Rattle.rr_store.specs.Holding.{Carries, GamesArePlayed, HasNoRoom, IsFull, IsFullFor, IsUnchanged, Rests, disk_of, file_of, held_of, lent_of, number_of_next, ticks_left}
use Rattle.rr_store.specs.Keeping.{ComesOn, MakesAtMost}
use Rattle.rr_store.specs.Seeing.{IsSeenAt, Seen, judgement_at}
use Rattle.rr_store.specs.World.{TableRequest, state_after, table_named, world_after}
use Rattle.rr_turns.specs.Judgement.{IsVerdict}
use Rattle.rr_roster.specs.declared.company.Corp.{Corp}
use Rattle.rr_words.specs.declared.line.TheConstants.{LONGEST_LINE}
use Rattle.rr_moderator.specs.declared.fault.Fault.{Fault}
use Rattle.rr_moderator.specs.declared.fault.Fault.TheVariants as F
use Rattle.rr_moderator.specs.Answer.{accepted_text, accepted_with, runs_trains}
use Rattle.rr_moderator.specs.Fault.{of_store, refusal_of}
use Rattle.rr_moderator.specs.Serving.{Answers, Asks, AsksFor, Gives, Spells, reply_to}
use Rattle.rr_moderator.specs.Serving.{MayAppend}
use Rattle.rr_serve.specs.Serving.{NoneFails, Served, tells_failure}
use Rattle.rr_reading.specs.Worlds.World as words

-- the file stands for what is held: its kit's texts spell the kit, and what was accepted into it makes the tables
pub record Opens (file : List ℕ) (held : Held) : Type 0 where
  pub texts : KitTexts
  pub right : SpellsKit texts held.kit
  pub stands : StandsFor file texts held.tables
  pub whole : held.broken ≡ false

-- what may be pending of a line: nothing, or a request that it lawfully gives
abbrev pub MayPend : Held → List ℕ → Option TableRequest → Type 0
MayPend held line None = Unit {0}
MayPend held line (Some c) = Gives held line c

-- or one for which it asks
abbrev pub MayAsk : Held → List ℕ → Option TableRequest → Type 0
MayAsk held line None = Unit {0}
MayAsk held line (Some c) = Asks held line c

-- the request that is pending was taken, and the reply tells its table and the new stamp, with the sheet that is told of it
pub record IsTaken (old : Held) (line : List ℕ) (pending : Option TableRequest) (new : Held) (reply : List ℕ) : Type 0 where
  pub asked : TableRequest
  pub pends : pending ≡ Some asked
  pub gives : Gives old line asked
  pub held : new ≡ with_tables old (world_after old.kit old.tables asked.name asked.request)
  pub told : reply ≡ accepted_text old.kit asked.name (state_after old.kit (table_named old.tables asked.name) asked.request) asked.request gives.sheet

-- Of each book for which the position in memory stands, whatever its commands play, no rule refuses the request that is pending.
pub record IsRuled {D : Type 0} (old : Store D) (line : List ℕ) (pending : Option TableRequest) : Type 0 where
  pub asked : TableRequest
  pub pends : pending ≡ Some asked
  pub asks : Asks (held_of old) line asked
  pub lawful : (seen : Option Seen) → IsSeenAt old asked.name seen
      → IsVerdict (judgement_at (held_of old).kit seen (length (held_of old).tables) asks.stamp asked.request) None

-- a device fault is counted exactly where the reply says that the device failed
abbrev pub CountsTold : ℕ → ℕ → Bool → Type 0
CountsTold old new true = new ≡ counted old
CountsTold old new false = new ≡ old

-- the reply says that a request was taken
abbrev pub tells_acceptance : List ℕ → Bool
tells_acceptance reply = starts_with nat_eq reply (codes "ok ")

-- the reply says that the file has no room
abbrev pub tells_full : List ℕ → Bool
tells_full reply = starts_with nat_eq reply (codes "no 62 ")

-- or that memory was wanted
abbrev pub tells_want : List ℕ → Bool
tells_want reply = starts_with nat_eq reply (codes "no 70 ")

-- the reply is one of those that a request is given where no rule refuses it: only then something may have been written
abbrev pub reaches_file : List ℕ → Bool
reaches_file reply = tells_acceptance reply || (tells_failure reply || (tells_full reply || tells_want reply))

-- the line asks for a request for which this store has no room in the half in use, or no number; and lawfully, if the games of
-- the store before it were played
pub record HasNoPlace {D : Type 0} (old : Store D) (line : List ℕ) (store : Store D) : Type 0 where
  pub asked : TableRequest
  pub asks : Asks (held_of old) line asked
  pub lawful : GamesArePlayed old → Gives (held_of old) line asked
  pub full : IsFull store asked.name asked.request

-- the line asks so for a request which this store can't keep, and for which no checkpoint of what was lent makes room
pub record CannotKeep {D : Type 0} (old : Store D) (line : List ℕ) (store : Store D) : Type 0 where
  pub asked : TableRequest
  pub asks : Asks (held_of old) line asked
  pub lawful : GamesArePlayed old → Gives (held_of old) line asked
  pub full : IsFullFor store (lent_of old) asked.name asked.request

-- the half in use has no room for the record of the pending request
abbrev pub MeetsFullHalf : {D : Type 0} → Store D → Option TableRequest → Type 0
MeetsFullHalf store None = ⊥
MeetsFullHalf store (Some c) = HasNoRoom store c.name c.request

-- the layout of the file behind a reply: where that tells of an acceptance, with the record of the pending request
abbrev pub layout_behind : Bool → Option TableRequest → Layout table_files → words.World → Layout table_files
layout_behind true (Some c) layout world = with_line layout (record_text c.name c.request) world
layout_behind true None layout world = layout
layout_behind false pending layout world = layout

-- the number of the next record behind a reply, by whether that tells of an acceptance
abbrev pub number_behind : Bool → ℕ → ℕ
number_behind true number = number + 1
number_behind false number = number

-- a request that was taken is the one that was pending, and the reply is `ok`; of no other is it
abbrev pub IsToldOf : TableRequest → Option TableRequest → Result ℕ store.Fault → List ℕ → Type 0
IsToldOf asked pending (Ok stamp) reply = (pending ≡ Some asked) × (tells_acceptance reply ≡ true)
IsToldOf asked pending (Err fault) reply = tells_acceptance reply ≡ false

-- a reply says neither that the device failed, nor that the file is full, nor that a request was taken
abbrev pub SaysNeither : List ℕ → Type 0
SaysNeither reply = (tells_failure reply ≡ false) × (tells_full reply ≡ false) × (tells_acceptance reply ≡ false)

-- the reply is an answer to a query
abbrev pub tells_answer : List ℕ → Bool
tells_answer reply = starts_with nat_eq reply (codes "=")

-- what a query may come to whatever was played: the text of an answer, or a refusal that says neither of these
abbrev pub MayAnswer : Result (List ℕ) Fault → Type 0
MayAnswer (Ok text) = tells_answer text ≡ true
MayAnswer (Err fault) = SaysNeither (refusal_of fault)

-- why a line makes no call that may write, and its reply
pub data IsIdle (held : Held) (line : List ℕ) : List ℕ → Type 0 where
  Overlong : LONGEST_LINE < length line → IsIdle held line (refusal_of F.LineTooLong)
  Unspelled : length line ≤ LONGEST_LINE → ((l : Line) → ¬ SpellsLine line l) → IsIdle held line (refusal_of F.MalformedLine)
  -- once the device has failed, each line of a right form is refused
  After_failure : (l : Line) → length line ≤ LONGEST_LINE → SpellsLine line l → held.broken ≡ true → IsIdle held line (refusal_of F.OpenAgain)
  Queries : (query : Query) (outcome : Result (List ℕ) Fault) → length line ≤ LONGEST_LINE → SpellsLine line (L.Query query)
      → held.broken ≡ false → MayAnswer outcome → IsIdle held line (reply_to outcome)
  -- no best run is found for the corporation
  Lacks_run : (stamp : ℕ) (name : List ℕ) (c : Corp) (fault : Fault) → length line ≤ LONGEST_LINE → SpellsLine line (L.Best stamp name c)
      → held.broken ≡ false → SaysNeither (refusal_of fault) → IsIdle held line (refusal_of fault)

-- the reply to a request by what came of its commit: its table's new stamp, one word more behind a run, and the sheet; or why it
-- is refused
abbrev pub IsReplyTo : TableRequest → List ℕ → Result ℕ store.Fault → List ℕ → Type 0
IsReplyTo asked sheet (Ok stamp) reply =
    (earned : List (List ℕ)) × (runs_trains asked.request ≡ false → earned ≡ []) × (reply ≡ accepted_with asked.name stamp earned sheet)
IsReplyTo asked sheet (Err fault) reply = reply ≡ refusal_of (of_store fault)

-- A line makes one call at most that may write: none, and then the store stays and the reply isn't `ok`; or one commit, of a
-- request for which the line asks, and what came of it is told.
pub data CommitsOnce {D : Type 0} (Honest Works : D → Type 0) (state : D → DiskState) (past : D → List DiskState) (faults writes syncs : D → ℕ)
    (old : Store D) (line : List ℕ) (pending : Option TableRequest) (new : Store D) (reply : List ℕ) : Type 0 where
  Makes_none : IsIdle (held_of old) line reply → new ≡ old → tells_acceptance reply ≡ false
      → CommitsOnce Honest Works state past faults writes syncs old line pending new reply
  Makes_one : (asked : TableRequest) (stamp : ℕ) (sheet : List ℕ) (result : Result ℕ store.Fault)
      → Spells line stamp asked sheet → (GamesArePlayed old → AsksFor (held_of old) line stamp asked sheet)
      → Commits Honest Works state past faults writes syncs old asked.name stamp asked.request new result
      → IsToldOf asked pending result reply → IsReplyTo asked sheet result reply
      → CommitsOnce Honest Works state past faults writes syncs old line pending new reply

-- What answering a line does, by one call on the store at most, a commit: of every disk and whatever was played, where nothing
-- else is said.
pub record Lasts {D : Type 0} (Honest Works : D → Type 0) (state : D → DiskState) (past : D → List DiskState) (faults writes syncs : D → ℕ)
    (old : Store D) (line : List ℕ) (new : Store D) (reply : List ℕ) : Type 0 where
  -- one request for which the line asks, or none, is pending while the line is answered; where the games were played, no rule
  -- refuses it, and a reply `ok` tells of just that one
  pub pending : Option TableRequest
  pub asks : MayAsk (held_of old) line pending
  pub pends : GamesArePlayed old → MayPend (held_of old) line pending
  pub accepted : GamesArePlayed old → tells_acceptance reply ≡ true → IsTaken (held_of old) line pending (held_of new) reply
  -- and whatever was played, `ok` never tells of an unlawful play
  pub ruled : tells_acceptance reply ≡ true → IsRuled old line pending
  pub honest : Honest (disk_of new) → Honest (disk_of old)
  -- on an honest disk that carries what is held: a stop at any moment leaves a file that stands for the world before the line,
  -- or for that with the pending request, and that keeps it, so that the next record may be written; and the disk carries what
  -- is held then, unless the device failed
  pub stops : Honest (disk_of new) → (texts : KitTexts) → Carries state old texts
      → LeavesOnly (past (disk_of old)) (state (disk_of old)) (past (disk_of new)) (state (disk_of new)) (BeforeOrAfter texts (held_of old).kit (held_of old).tables pending)
  pub keeps : Honest (disk_of new) → (texts : KitTexts) → Carries state old texts
      → LeavesOnly (past (disk_of old)) (state (disk_of old)) (past (disk_of new)) (state (disk_of new)) (KeepsTablesOr texts (held_of old).kit (held_of old).tables pending)
  pub carries : Honest (disk_of new) → (held_of new).broken ≡ false → (texts : KitTexts) → Carries state old texts → Carries state new texts
  -- behind the last step of a checkpoint, where no other is begun, each file that a stop may leave takes a newer root, whose
  -- chains spell the world as the checkpoint began; only the records since then stand behind it
  pub renews : (held_of new).broken ≡ false → ticks_left old ≡ 1 → ticks_left new ≡ 0 → Honest (disk_of new) → (texts : KitTexts) → (carries : Carries state old texts)
      → EachImage (state (disk_of new)) (TakesNewer table_files
      (layout_behind (tells_acceptance reply) pending carries.file.carried.layout (in_words texts (held_of new).tables)) (in_words texts (held_of new).tables))
  -- the number of the next record is one more behind an `ok`, and else the same, unless the device failed
  pub number : tells_failure reply ≡ false → number_of_next new ≡ number_behind (tells_acceptance reply) (number_of_next old)
  -- where the reply is a refusal by a rule, or the line asks for no request, or gives no lawful one, all is as it was; and a
  -- reply other than `ok` leaves the kit and the tables as they were
  pub spares : reaches_file reply ≡ false → IsUnchanged old new
  pub unasked : ((r : TableRequest) → ¬ Asks (held_of old) line r) → IsUnchanged old new
  pub untouched : GamesArePlayed old → ¬ MayAppend (held_of old) line → IsUnchanged old new
  pub same_kit : (held_of new).kit ≡ (held_of old).kit
  pub same_tables : tells_acceptance reply ≡ false → (held_of new).tables ≡ (held_of old).tables
  -- the reply says that the device failed exactly where the disk counts a fault and the store is broken by it, and never on an
  -- honest disk that works and carries what is held
  pub breaks : tells_failure reply ≡ false → (held_of new).broken ≡ (held_of old).broken
  pub counts : CountsTold (faults (disk_of old)) (faults (disk_of new)) (tells_failure reply)
  pub works : Works (disk_of new) → Works (disk_of old)
  pub device : tells_failure reply ≡ true → Honest (disk_of new) → (texts : KitTexts) → Carries state old texts → Works (disk_of new) → ⊥
  -- where the half in use has room for the request for which the line asks, and there is a number for it, three writes and
  -- three syncs are made at most, and two of each where no checkpoint is under way or to begin
  pub few_writes : (HasNoPlace old line old → ⊥) → writes (disk_of new) ≤ writes (disk_of old) + 3
  pub few_syncs : (HasNoPlace old line old → ⊥) → syncs (disk_of new) ≤ syncs (disk_of old) + 3
  pub own_writes : (HasNoPlace old line old → ⊥) → Rests old → writes (disk_of new) ≤ writes (disk_of old) + 2
  pub own_syncs : (HasNoPlace old line old → ⊥) → Rests old → syncs (disk_of new) ≤ syncs (disk_of old) + 2
  -- whatever is to be done, three of each are made at most, and one for each step left of the checkpoint under way, or of one
  -- begun then
  pub most_writes : MakesAtMost writes (lent_of old) (file_of old) (file_of new)
  pub most_syncs : MakesAtMost syncs (lent_of old) (file_of old) (file_of new)
  -- with such room an `ok` comes with the next step of a checkpoint under way; without, behind the first step of another
  pub comes_on : tells_acceptance reply ≡ true → (HasNoPlace old line old → ⊥) → ComesOn (file_of old) (file_of new)
  pub makes_room : tells_acceptance reply ≡ true → MeetsFullHalf old pending → 4 ≤ ticks_left new
  -- the file is told to be full only where, behind the call, no checkpoint makes room for the request
  pub full : tells_full reply ≡ true → CannotKeep old line new
  pub commits : CommitsOnce Honest Works state past faults writes syncs old line pending new reply

-- a store, and the reply made last over it
abbrev pub Told : Type 0 → Type 0
Told D = Store D × List ℕ

abbrev pub told : {D : Type 0} → Told D → List ℕ
told state = state.1

-- what a line comes to lasts
abbrev pub Lasting : {D : Type 0} → (D → Type 0) → (D → Type 0) → (D → DiskState) → (D → List DiskState) → (D → ℕ) → (D → ℕ) → (D → ℕ) → Told D → List ℕ → Told D → Type 0
Lasting Honest Works state past faults writes syncs old line new = Lasts Honest Works state past faults writes syncs old.0 line new.0 new.1

-- a line is answered by a store whose games were played, and what it comes to lasts
abbrev pub SpeaksAndLasts : {D : Type 0} → (D → Type 0) → (D → Type 0) → (D → DiskState) → (D → List DiskState) → (D → ℕ) → (D → ℕ) → (D → ℕ) → Told D → List ℕ → Told D → Type 0
SpeaksAndLasts Honest Works state past faults writes syncs old line new =
    (Answers (held_of old.0) line (held_of new.0) new.1 × GamesArePlayed old.0) × Lasting Honest Works state past faults writes syncs old line new

-- What a line comes to lasts, whatever was played; and where the games were played, the line is answered as the rules say, and
-- they are played behind it.
abbrev pub SpeaksPlayed : {D : Type 0} → (D → Type 0) → (D → Type 0) → (D → DiskState) → (D → List DiskState) → (D → ℕ) → (D → ℕ) → (D → ℕ) → Told D → List ℕ → Told D → Type 0
SpeaksPlayed Honest Works state past faults writes syncs old line new =
    Lasting Honest Works state past faults writes syncs old line new
    × (GamesArePlayed old.0 → Answers (held_of old.0) line (held_of new.0) new.1 × GamesArePlayed new.0)

-- While these lines are answered in just this way, the file stands for a world that was held before one of them or at the
-- end, or for such a world with the request that was pending then.
abbrev pub StandsAlong : {D : Type 0} (Honest Works : D → Type 0) (state : D → DiskState) (past : D → List DiskState) (faults writes syncs : D → ℕ) (texts : KitTexts)
    (begun : Told D) (lines replies : List (List ℕ)) (ended : Told D) → Served (Lasting Honest Works state past faults writes syncs) told begun lines replies ended → List ℕ → Type 0
StandsAlong Honest Works state past faults writes syncs texts begun [] [] ended way image = StandsFor image texts (held_of begun.0).tables
StandsAlong Honest Works state past faults writes syncs texts begun (line ∷ lines) (reply ∷ replies) ended way image =
    BeforeOrAfter texts (held_of begun.0).kit (held_of begun.0).tables way.1.pending image
    ⊎ StandsAlong Honest Works state past faults writes syncs texts way.0 lines replies ended way.3 image
StandsAlong Honest Works state past faults writes syncs texts begun [] (reply ∷ replies) ended way image = ⊥
StandsAlong Honest Works state past faults writes syncs texts begun (line ∷ lines) [] ended way image = ⊥

-- However many lines are answered, no reply says that the device failed while an honest disk works that carries what is held.
abbrev pub NoneFailsWhileWorking : {D : Type 0} → (D → Type 0) → (D → Type 0) → (D → DiskState) → (D → List DiskState) → (D → ℕ) → (D → ℕ) → (D → ℕ) → Type 0
NoneFailsWhileWorking {D} Honest Works state past faults writes syncs =
    (begun : Told D) (lines replies : List (List ℕ)) (ended : Told D) (texts : KitTexts)
    → Served (Lasting Honest Works state past faults writes syncs) told begun lines replies ended
    → (held_of begun.0).broken ≡ false → Carries state begun.0 texts
    → Honest (disk_of ended.0) → Works (disk_of ended.0) → NoneFails replies
