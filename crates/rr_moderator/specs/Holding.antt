-- What a moderator holds.
use Rattle.std.specs.Prelude.{◌≡◌, ℕ, false, List, length, Result, Ok, Err}
use Rattle.rr_store.specs.declared.opening.Refused as opening
use Rattle.rr_store.specs.declared.store.Store.{Store}
use Rattle.rr_store.specs.Held.{Held}
use Rattle.rr_store.specs.Holding.{disk_of}
use Rattle.rr_store.specs.Holding as store
use Rattle.rr_moderator.specs.declared.moderator.Moderator.{Moderator}
use Rattle.rr_moderator.specs.declared.moderator.State.{State}
use Rattle.rr_moderator.specs.declared.summary.Summary.{Summary}
use Rattle.rr_moderator.specs.Serving.{Spoken}
use Rattle.rr_moderator.specs.Durability.{Told}

-- the store of its tables
abbrev pub store_of : {D : Type 0} → Moderator D → Store D
store_of moderator = moderator.state.store

abbrev pub held_of : {D : Type 0} → Moderator D → Held
held_of moderator = store.held_of moderator.state.store

abbrev pub last_reply : {D : Type 0} → Moderator D → List ℕ
last_reply moderator = moderator.state.reply

-- what a moderator holds, and the reply that it made last
abbrev pub spoken_by : {D : Type 0} → State D → Spoken
spoken_by state = (store.held_of state.store, state.reply)

abbrev pub spoken_of : {D : Type 0} → Moderator D → Spoken
spoken_of moderator = spoken_by moderator.state

-- its store, and the reply that it made last
abbrev pub told_of : {D : Type 0} → Moderator D → Told D
told_of moderator = (moderator.state.store, moderator.state.reply)

-- the disk on which its file stands
abbrev pub disk_under : {D : Type 0} → Moderator D → D
disk_under moderator = disk_of moderator.state.store

-- what an opening gave, as the opening of its store gives it
abbrev pub as_of_store : {D : Type 0} → Result (Moderator D) (opening.Refused D) → Result (Store D) (opening.Refused D)
as_of_store (Ok moderator) = Ok (store_of moderator)
as_of_store (Err refused) = Err refused

-- it holds so many tables, and the last request that was accepted has this number
abbrev pub IsSummary : {D : Type 0} → Moderator D → Summary → Type 0
IsSummary moderator summary =
    ((held_of moderator).broken ≡ false) × (summary.tables ≡ length (held_of moderator).tables) × (summary.last ≡ store.last_of (store_of moderator))
