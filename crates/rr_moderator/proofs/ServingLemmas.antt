-- What a moderator answers, from what its parts did.
use Rattle.std.proofs.Common.{◌≡◌, ℕ, List, Option, Some, Result, Ok, Err, sym, ap, subst, ◌∙◌}
use Rattle.rr_disk.specs.Disk.{DiskState}
use Rattle.rr_code.specs.declared.command.Command.TheVariants as C
use Rattle.rr_orders.specs.declared.order.Order.{Order}
use Rattle.rr_orders.specs.declared.order.Order.TheVariants as O
use Rattle.rr_turns.specs.declared.request.Request.TheVariants.{Play}
use Rattle.rr_store.specs.declared.fault.Fault as store
use Rattle.rr_store.specs.Committing.{Commits}
use Rattle.rr_code.specs.declared.line.Line.{Line}
use Rattle.rr_code.proofs.TextLemmas.{line-unique}
use Rattle.rr_roster.specs.declared.company.Corp.{Corp}
use Rattle.rr_code.specs.Line.{SpellsLine}
use Rattle.rr_moderator.specs.declared.fault.Fault.{Fault}
use Rattle.rr_moderator.specs.Fault.{refusal_of}
use Rattle.rr_moderator.specs.Queries.{Answer, fault_of, reply_of}
use Rattle.rr_store.specs.declared.store.Store.{Store}
use Rattle.rr_store.specs.Holding.{GamesArePlayed, held_of}
use Rattle.rr_store.specs.World.{for_table, table_named}
use Rattle.rr_moderator.specs.Best.{IsBestRun}
use Rattle.rr_moderator.specs.Choosing.{CommitsBest, Stays, Goes_on}
use Rattle.rr_moderator.specs.Durability.{IsReplyTo}
use Rattle.rr_moderator.specs.Serving.{MeetsBest, Lacks, Finds, reply_to, text_of}

-- a query that is refused
pub reply_refused : (answer : Answer) (fault : Fault) → fault_of answer ≡ Some fault → refusal_of fault ≡ reply_of answer
reply_refused (Ok words) fault is = absurd cc
reply_refused (Err other) fault is = let same : fault ≡ other = cc in ap refusal_of same

-- a line has one meaning
pub one_line : (line : List ℕ) (l m : Line) → SpellsLine line l → SpellsLine line m → l ≡ m
one_line line l m first second = line-unique l m first.is_line second.is_line (sym first.spelled ∙ second.spelled)

-- what comes of asking for a best run, from what it does to the store
pub best_meets : {D : Type 0} (Honest Works : D → Type 0) (state : D → DiskState) (past : D → List DiskState) (faults writes syncs : D → ℕ)
    (old : Store D) (name : List ℕ) (stamp : ℕ) (c : Corp) (new : Store D) {outcome : Result (List ℕ) Fault}
    → GamesArePlayed old → CommitsBest Honest Works state past faults writes syncs old name stamp c new outcome
    → MeetsBest (held_of old) stamp name c (held_of new) outcome
best_meets {D} Honest Works state past faults writes syncs old name stamp c new played (Stays fault calm lacks same) =
    Lacks fault (lacks played) (ap (λ (s : Store D). held_of s) same)
best_meets Honest Works state past faults writes syncs old name stamp c new played (Goes_on sheet certificate taking outcome is commits replies told) =
    let Meets : Result (List ℕ) Fault → Type 0 = λ o. MeetsBest (held_of old) stamp name c (held_of new) o in
    subst Meets (sym (told played)) (Finds sheet certificate taking (is played) (commits.takes played))

some_order : (a b : Order) → Some a ≡ Some b → a ≡ b
some_order a b e = cc

-- what asking for a best run does to the store, where the request of the run that was found is committed
pub best_goes_on : {D : Type 0} (Honest Works : D → Type 0) (state : D → DiskState) (past : D → List DiskState) (faults writes syncs : D → ℕ)
    (old : Store D) (name : List ℕ) (stamp : ℕ) (c : Corp) (new : Store D) (read : Option Order) (order : Order) (sheet certificate shown : List ℕ) (outcome : Result (List ℕ) Fault)
    → read ≡ Some order → read ≡ Some (O.RunBest c sheet certificate) → shown ≡ sheet
    → (GamesArePlayed old → IsBestRun (held_of old).kit (table_named (held_of old).tables name) stamp name c sheet certificate)
    → (taking : Result ℕ store.Fault) × Commits Honest Works state past faults writes syncs old name stamp (Play (C.Order order)) new taking
    × IsReplyTo (for_table name (Play (C.Order order))) shown taking (reply_to outcome)
    × (GamesArePlayed old → outcome ≡ text_of (held_of old) name (Play (C.Order order)) shown taking)
    → CommitsBest Honest Works state past faults writes syncs old name stamp c new outcome
best_goes_on {D} Honest Works state past faults writes syncs old name stamp c new read order sheet certificate shown outcome given spelled lent is committed =
    let Committed : Order → List ℕ → Type 0 = λ o s. (taking : Result ℕ store.Fault)
    × Commits Honest Works state past faults writes syncs old name stamp (Play (C.Order o)) new taking
    × IsReplyTo (for_table name (Play (C.Order o))) s taking (reply_to outcome)
    × (GamesArePlayed old → outcome ≡ text_of (held_of old) name (Play (C.Order o)) s taking) in
    let Own : List ℕ → Type 0 = λ s. Committed order s in
    let ByOrder : Order → Type 0 = λ o. Committed o sheet in
    let moved = subst ByOrder (some_order order (O.RunBest c sheet certificate) (sym given ∙ spelled)) (subst Own lent committed) in
    Goes_on sheet certificate moved.0 outcome is moved.1 moved.2 moved.3
