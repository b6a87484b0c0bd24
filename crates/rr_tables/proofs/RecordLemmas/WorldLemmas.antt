-- What a request that is taken does to tables: the sum of the stamps rises by one, and each command stays one that words
-- spell.
use Rattle.std.proofs.Common.{◌≡◌, ℕ, ◌+◌, zero, suc, Bool, true, false, cond, List, [], ◌∷◌, ◌++◌, Option, None, Some, bytes_eq, if◌then◌else◌, refl, subst, arith}
use Rattle.indexmap.specs.IndexMap.{insert_entry}
use Rattle.rr_code.specs.declared.command.Command.{Command}
use Rattle.rr_code.specs.Command.{IsCommand}
use Rattle.rr_code.specs.Request.{IsRequest}
use Rattle.rr_kit.specs.declared.kit.Kit.{Kit}
use Rattle.rr_game.specs.History.Playing.{ends_turn}
use Rattle.rr_turns.specs.declared.request.Request.{Request}
use Rattle.rr_turns.specs.declared.request.Request.TheVariants.{Play, Back, Forget}
use Rattle.rr_turns.specs.Turns.{first_turns, next_turns}
use Rattle.rr_tables.specs.Records.Words.{AreCommands, KeepCommands}
use Rattle.rr_tables.specs.Records.World.{TableState, World, present_stamp, requests_in, state_after, table_named, world_after}

-- the stamps

raised_step : (b : Bool) (e : List ℕ × TableState) (es rest : World) (v : TableState) (there : Option TableState)
    → requests_in rest + present_stamp there ≡ requests_in es + v.stamp
    → requests_in (if b then (e.0, v) ∷ es else e ∷ rest) + present_stamp (cond b (Some e.1) there) ≡ requests_in (e ∷ es) + v.stamp
raised_step true e es rest v there more = omega arith
raised_step false e es rest v there more = omega (arith, more)

raised_insert : (tables : World) (name : List ℕ) (v : TableState)
    → requests_in (insert_entry bytes_eq tables name v) + present_stamp (table_named tables name) ≡ requests_in tables + v.stamp
raised_insert [] name v = omega arith
raised_insert (e ∷ es) name v = raised_step (bytes_eq name e.0) e es (insert_entry bytes_eq es name v) v (table_named es name) (raised_insert es name v)

raised : (kit : Kit) (t : Option TableState) (r : Request Command) → (state_after kit t r).stamp ≡ present_stamp t + 1
raised kit None (Play c) = refl
raised kit None (Back k) = refl
raised kit None (Forget k) = refl
raised kit (Some t) (Play c) = refl
raised kit (Some t) (Back k) = refl
raised kit (Some t) (Forget k) = refl

pub requests_after : (kit : Kit) (tables : World) (name : List ℕ) (r : Request Command) → requests_in (world_after kit tables name r) ≡ requests_in tables + 1
requests_after kit tables name r =
    let inserted = raised_insert tables name (state_after kit (table_named tables name) r) in
    let up = raised kit (table_named tables name) r in
    omega (arith, inserted, up)

-- the commands

push_command : (commands : List Command) (c : Command) → AreCommands commands → IsCommand c → AreCommands (commands ++ c ∷ [])
push_command [] c all is = (is, tt)
push_command (first ∷ commands) c all is = (all.0, push_command commands c all.1 is)

front_commands : (ends : List Command → Command → Bool) (before : List Command) (k : ℕ) (commands : List Command)
    → AreCommands commands → AreCommands (next_turns ends before k commands)
front_commands ends before k [] all = tt
front_commands ends before zero (c ∷ commands) all = tt
front_commands ends before (suc k) (c ∷ commands) all =
    (all.0, front_commands ends (before ++ c ∷ []) (if ends before c then k else suc k) commands all.1)

turn_commands : (ends : List Command → Command → Bool) (k : ℕ) (commands : List Command) → AreCommands commands → AreCommands (first_turns ends k commands)
turn_commands ends k [] all = tt
turn_commands ends k (opening ∷ commands) all = (all.0, front_commands ends (opening ∷ []) k commands all.1)

commands_after : (kit : Kit) (there : Option TableState) (r : Request Command) → IsRequest r
    → ((t : TableState) → there ≡ Some t → AreCommands t.commands) → AreCommands (state_after kit there r).commands
commands_after kit None (Play c) is all = (is, tt)
commands_after kit None (Back k) is all = tt
commands_after kit None (Forget k) is all = tt
commands_after kit (Some t) (Play c) is all = push_command t.commands c (all t refl) is
commands_after kit (Some t) (Back k) is all = turn_commands (ends_turn kit) k t.commands (all t refl)
commands_after kit (Some t) (Forget k) is all = all t refl

named_step : (b : Bool) (e : List ℕ × TableState) (rest : Option TableState) (t : TableState) → cond b (Some e.1) rest ≡ Some t
    → AreCommands e.1.commands → (rest ≡ Some t → AreCommands t.commands) → AreCommands t.commands
named_step true e rest t is here others = let same : e.1 ≡ t = cc in subst (λ (x : TableState). AreCommands x.commands) same here
named_step false e rest t is here others = others is

named_commands : (tables : World) (name : List ℕ) (t : TableState) → KeepCommands tables → table_named tables name ≡ Some t → AreCommands t.commands
named_commands [] name t all is = absurd cc
named_commands (e ∷ es) name t all is = named_step (bytes_eq name e.0) e (table_named es name) t is all.0 (λ found. named_commands es name t all.1 found)

insert_step : (b : Bool) (e : List ℕ × TableState) (es rest : World) (v : TableState) → AreCommands v.commands → KeepCommands (e ∷ es) → KeepCommands rest
    → KeepCommands (if b then (e.0, v) ∷ es else e ∷ rest)
insert_step true e es rest v here all more = (here, all.1)
insert_step false e es rest v here all more = (all.0, more)

insert_commands : (tables : World) (name : List ℕ) (v : TableState) → AreCommands v.commands → KeepCommands tables → KeepCommands (insert_entry bytes_eq tables name v)
insert_commands [] name v here all = (here, tt)
insert_commands (e ∷ es) name v here all =
    insert_step (bytes_eq name e.0) e es (insert_entry bytes_eq es name v) v here all (insert_commands es name v here all.1)

pub keep_after : (kit : Kit) (tables : World) (name : List ℕ) (r : Request Command) → IsRequest r → KeepCommands tables → KeepCommands (world_after kit tables name r)
keep_after kit tables name r is all =
    insert_commands tables name (state_after kit (table_named tables name) r)
    (commands_after kit (table_named tables name) r is (λ t found. named_commands tables name t all found)) all
