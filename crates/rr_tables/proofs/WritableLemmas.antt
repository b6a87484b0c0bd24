-- A checkpoint can write what a table keeps after a request, and what an opened table keeps.
use Rattle.std.proofs.Common.{ℕ, ◌^◌, ◌<◌, ◌≤◌, List, [], ◌∷◌, ap, arith}
use Rattle.rr_code.specs.declared.command.Command.{Command}
use Rattle.rr_code.specs.declared.command.Command.TheVariants.{Open}
use Rattle.rr_game.specs.declared.history.change.Change.{Change}
use Rattle.rr_game.specs.History.Changing.{KeepsBy, kept_with}
use Rattle.rr_kit.specs.declared.kit.Kit.{Kit}
use Rattle.rr_turns.specs.declared.request.Request.{Request}
use Rattle.rr_turns.specs.declared.request.Request.TheVariants.{Play, Back, Forget}
use Rattle.rr_turns.specs.Kept.{Kept}
use Rattle.rr_tables.specs.Writable.{IsWritable}

-- the floor, which is the old one, or a turn that has ended
floor_changed : (kit : Kit) (old : Kept Command) (turns : ℕ) (request : Request Command) (change : Change) → KeepsBy kit old turns request change
    → turns ≤ 4096 → old.floor < 2 ^ 32 → change.floor < 2 ^ 32
floor_changed kit old turns (Play c) change keeps few low =
    let same = ap (λ (k : Kept Command). k.floor) keeps in
    omega (arith, same, low)
floor_changed kit old turns (Back k) change keeps few low = omega (arith, keeps.1, low)
floor_changed kit old turns (Forget k) change keeps few low =
    let same = ap (λ (k : Kept Command). k.floor) keeps.1 in
    omega (arith, same, keeps.0, few)

-- a table that has made a change
pub writable_changed : (kit : Kit) (old : Kept Command) (turns : ℕ) (request : Request Command) (change : Change) → KeepsBy kit old turns request change
    → turns ≤ 4096 → IsWritable old → IsWritable (kept_with old change)
writable_changed kit old turns request change keeps few writable =
    record { floored = floor_changed kit old turns request change keeps few writable.floored }

-- an opened table
pub writable_opened : (players : List (List ℕ)) → IsWritable (record { commands = Open players ∷ []; floor = 0; stamp = 1 })
writable_opened players = record { floored = omega arith }
