-- What asking for the best run of a corporation does to a store.
use Rattle.std.specs.Prelude.{◌≡◌, ℕ, List, Result, Err}
use Rattle.rr_disk.specs.Disk.{DiskState}
use Rattle.rr_roster.specs.declared.company.Corp.{Corp}
use Rattle.rr_store.specs.declared.fault.Fault as store
use Rattle.rr_store.specs.declared.store.Store.{Store}
use Rattle.rr_store.specs.Committing.{Commits}
use Rattle.rr_store.specs.Holding.{GamesArePlayed, held_of}
use Rattle.rr_store.specs.World.{for_table, table_named}
use Rattle.rr_moderator.specs.declared.fault.Fault.{Fault}
use Rattle.rr_moderator.specs.Best.{IsBestRun, LacksRun, best_run}
use Rattle.rr_moderator.specs.Fault.{refusal_of}
use Rattle.rr_moderator.specs.Serving.{reply_to, text_of}
use Rattle.rr_moderator.specs.Durability.{IsReplyTo, SaysNeither}

-- By what the reply tells: no run is found, and the store stays; or one is found, and is committed as its request. Whether it is
-- the best is known where the games were played.
pub data CommitsBest {D : Type 0} (Honest Works : D → Type 0) (state : D → DiskState) (past : D → List DiskState) (faults writes syncs : D → ℕ)
    (old : Store D) (name : List ℕ) (stamp : ℕ) (c : Corp) (new : Store D) : Result (List ℕ) Fault → Type 0 where
  Stays : (fault : Fault) → SaysNeither (refusal_of fault)
      → (GamesArePlayed old → LacksRun (held_of old).kit (table_named (held_of old).tables name) stamp name c fault) → new ≡ old
      → CommitsBest Honest Works state past faults writes syncs old name stamp c new (Err fault)
  Goes_on : (sheet certificate : List ℕ) (taking : Result ℕ store.Fault) (outcome : Result (List ℕ) Fault)
      → (GamesArePlayed old → IsBestRun (held_of old).kit (table_named (held_of old).tables name) stamp name c sheet certificate)
      → Commits Honest Works state past faults writes syncs old name stamp (best_run c sheet certificate) new taking
      → IsReplyTo (for_table name (best_run c sheet certificate)) sheet taking (reply_to outcome)
      → (GamesArePlayed old → outcome ≡ text_of (held_of old) name (best_run c sheet certificate) sheet taking)
      → CommitsBest Honest Works state past faults writes syncs old name stamp c new outcome
