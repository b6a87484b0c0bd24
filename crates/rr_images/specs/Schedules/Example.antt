-- One schedule of which the law speaks: a command is taken, a tick is made, the next command is cut off, and an opening
-- finds it. A world is the list of its commands, and a file stands for itself.
use Rattle.std.specs.Prelude.{◌≡◌, ℕ, List, [], ◌∷◌, ◌++◌, None}
use Rattle.rr_disk.specs.Replay.{settled_state}
use Rattle.rr_images.specs.Schedules.Worlds.{Worlds, AreWorlds}
use Rattle.rr_images.specs.Schedules.Schedule.{SystemOf, EventOf, Serving, Commit, Tick, Opening, Done, Cut, Opened, Runs}
use Rattle.rr_images.specs.Schedules.Laws.{at_first}

abbrev pub lists : Worlds
lists =
    record {
      Command = ℕ;
      World = List ℕ;
      Leads = λ command old new. new ≡ old ++ command ∷ [];
      Stands = λ image world. image ≡ world;
      Keeps = λ image world. image ≡ world;
    }

abbrev pub events : List (EventOf lists)
events =
    Opening [] (settled_state []) (Opened [])
    ∷ Commit 5 [] (settled_state (5 ∷ [])) Done
    ∷ Tick [] (settled_state (5 ∷ [])) Done
    ∷ Commit 7 (settled_state (5 ∷ 7 ∷ []) ∷ []) (settled_state (5 ∷ [])) (Cut (5 ∷ 7 ∷ []))
    ∷ Opening [] (settled_state (5 ∷ 7 ∷ [])) (Opened (5 ∷ 7 ∷ []))
    ∷ []

-- both commands are acknowledged in the end
abbrev pub at_last : SystemOf lists
at_last =
    record {
      acknowledged = 5 ∷ 7 ∷ [];
      pending = None;
      holder = Serving (5 ∷ 7 ∷ []);
      disk = settled_state (5 ∷ 7 ∷ []);
    }

abbrev pub IsExample : Type 0
IsExample = AreWorlds lists × Runs lists [] (at_first lists (settled_state [])) events at_last
