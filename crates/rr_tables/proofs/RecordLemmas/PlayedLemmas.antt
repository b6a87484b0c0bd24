-- Tables that were played, after a lawful request, and worlds of such tables.
use Rattle.std.proofs.Common.{◌≡◌, ℕ, zero, suc, Bool, true, false, cond, List, [], ◌∷◌, ◌++◌, ◌≤◌, Option, None, Some, bytes_eq, if◌then◌else◌, length, refl, sym, subst, arith}
use Rattle.std.proofs.Math.Logic.{∥∥₁_map}
use Rattle.indexmap.specs.IndexMap.{insert_entry}
use Rattle.rr_code.specs.declared.command.Command.{Command}
use Rattle.rr_code.specs.declared.command.Command.TheVariants.{Open}
use Rattle.rr_game.specs.History.Fault.{of_game}
use Rattle.rr_game.specs.History.Playing.{ArePlayed, IsLawfulAfter, ends_turn, game_judgement}
use Rattle.rr_game.specs.History.Verdict.{own_judgement, request_judgement, room_verdict, stamp_verdict}
use Rattle.rr_game.proofs.HistoryLemmas.Turnings.{accepted_turn}
use Rattle.rr_kit.specs.declared.kit.Kit.{Kit}
use Rattle.rr_images.specs.Layout.{far_lines}
use Rattle.rr_kit.specs.Kits.{KitTexts, SpellsKit}
use Rattle.rr_kit.proofs.OneKit.{one_kit}
use Rattle.rr_turns.specs.declared.request.Request.{Request}
use Rattle.rr_turns.specs.declared.request.Request.TheVariants.{Play, Back, Forget}
use Rattle.rr_turns.specs.Judgement.{IsVerdict, judgement_map}
use Rattle.rr_turns.specs.Turns.{AreLawful, ended_turns, first_turns, next_turns}
use Rattle.rr_turns.proofs.JudgementLemmas.{lawful-behind, lawful-map}
use Rattle.rr_turns.proofs.LawfulLemmas.{lawful-push}
use Rattle.rr_turns.proofs.TurnLemmas.{floors}
use Rattle.rr_reading.specs.Worlds.World as words
use Rattle.rr_tables.specs.Records.Fault.{of_table}
use Rattle.rr_tables.specs.Records.Laws.{KeptHavePlayedBases, NewWorldsArePlayed, PlayedStayPlayed, ReadHavePlayedBases, ReplayedArePlayed, ReplayedWerePlayed, StandingHavePlayedBases, TablesOfPlayedArePlayed}
use Rattle.rr_tables.specs.Records.Played.{ArePlayedTables, IsPlayedTable, IsPlayedWorld}
use Rattle.rr_tables.specs.Records.Lines.{TakesRecord, record_judgement}
use Rattle.rr_tables.specs.Records.Taking.{Takes}
use Rattle.rr_tables.specs.Records.Words.{kit_texts}
use Rattle.rr_tables.specs.Records.World.{TableState, World, present_stamp, state_after, step_judgement, table_named, world_after, world_judgement}
use Rattle.rr_tables.proofs.RecordLemmas.WordLemmas.{one_of_commands}

-- a command that no rule refuses at a table

passes_game : (kit : Kit) (t : TableState) (stamp : ℕ) (c : Command) → IsVerdict (step_judgement kit (Some t) stamp (Play c)) None → IsLawfulAfter kit t.commands c
passes_game kit t stamp c lawful =
    let by_table = lawful-map of_table (request_judgement kit t stamp (Play c)) lawful in
    let own = lawful-behind (stamp_verdict t stamp) (own_judgement kit t (Play c)) by_table in
    let by_game = lawful-behind (room_verdict t) (judgement_map of_game (game_judgement kit t.commands c)) own in
    lawful-map of_game (game_judgement kit t.commands c) by_game

push_played : (kit : Kit) (commands : List Command) (c : Command) → IsLawfulAfter kit commands c → ArePlayed kit commands → ArePlayed kit (commands ++ c ∷ [])
push_played kit [] c lawful played = absurd played
push_played kit (opening ∷ others) c lawful played =
    (played.0, lawful-push (IsLawfulAfter kit) (opening ∷ []) others c played.1 lawful)

-- the first turns of a table that was played

front_lawful : (IsLawful : List Command → Command → Type 0) (ends : List Command → Command → Bool) (before : List Command) (k : ℕ) (commands : List Command)
    → AreLawful IsLawful before commands → AreLawful IsLawful before (next_turns ends before k commands)
front_lawful IsLawful ends before k [] all = tt
front_lawful IsLawful ends before zero (c ∷ commands) all = tt
front_lawful IsLawful ends before (suc k) (c ∷ commands) all =
    (all.0, front_lawful IsLawful ends (before ++ c ∷ []) (if ends before c then k else suc k) commands all.1)

turns_played : (kit : Kit) (k : ℕ) (commands : List Command) → ArePlayed kit commands → ArePlayed kit (first_turns (ends_turn kit) k commands)
turns_played kit k [] played = absurd played
turns_played kit k (opening ∷ others) played =
    (played.0, front_lawful (IsLawfulAfter kit) (ends_turn kit) (opening ∷ []) k others played.1)

-- a table after a lawful request

step_played : (kit : Kit) (t : TableState) (stamp : ℕ) (r : Request Command) → IsVerdict (step_judgement kit (Some t) stamp r) None
    → ArePlayed kit t.commands → ArePlayed kit (state_after kit (Some t) r).commands
step_played kit t stamp (Play c) lawful played = push_played kit t.commands c (passes_game kit t stamp c lawful) played
step_played kit t stamp (Back k) lawful played = turns_played kit k t.commands played
step_played kit t stamp (Forget k) lawful played = played

-- a lawful request leaves no floor above the turns that have ended
step_floored : (kit : Kit) (t : TableState) (stamp : ℕ) (r : Request Command) → IsVerdict (step_judgement kit (Some t) stamp r) None
    → t.floor ≤ ended_turns (ends_turn kit) t.commands
    → (state_after kit (Some t) r).floor ≤ ended_turns (ends_turn kit) (state_after kit (Some t) r).commands
step_floored kit t stamp r lawful floored =
    let by_table = lawful-map of_table (request_judgement kit t stamp r) lawful in
    (floors (ends_turn kit) t (r ∷ []) floored (accepted_turn kit t stamp r by_table, tt)).1

state_played : (kit : Kit) (there : Option TableState) (n stamp : ℕ) (r : Request Command) → IsVerdict (world_judgement kit there n stamp r) None
    → ((t : TableState) → there ≡ Some t → IsPlayedTable kit t) → IsPlayedTable kit (state_after kit there r)
state_played kit None n stamp (Play (Open players)) lawful all = record { lawful = ∣ (refl, tt) ∣₁; floored = omega arith }
state_played kit (Some t) n stamp (Play (Open players)) lawful all = absurd cc
state_played kit None n stamp r lawful all = absurd cc
state_played kit (Some t) n stamp r lawful all =
    record {
      lawful = ∥∥₁_map (all t refl).lawful (λ played. step_played kit t stamp r lawful played);
      floored = step_floored kit t stamp r lawful (all t refl).floored;
    }

named_step : (kit : Kit) (b : Bool) (e : List ℕ × TableState) (rest : Option TableState) (t : TableState) → cond b (Some e.1) rest ≡ Some t
    → IsPlayedTable kit e.1 → (rest ≡ Some t → IsPlayedTable kit t) → IsPlayedTable kit t
named_step kit true e rest t is here others = let same : e.1 ≡ t = cc in subst (λ (x : TableState). IsPlayedTable kit x) same here
named_step kit false e rest t is here others = others is

named_played : (kit : Kit) (tables : World) (name : List ℕ) (t : TableState) → ArePlayedTables kit tables → table_named tables name ≡ Some t → IsPlayedTable kit t
named_played kit [] name t all is = absurd cc
named_played kit (e ∷ es) name t all is = named_step kit (bytes_eq name e.0) e (table_named es name) t is all.0 (λ found. named_played kit es name t all.1 found)

insert_step : (kit : Kit) (b : Bool) (e : List ℕ × TableState) (es rest : World) (v : TableState) → IsPlayedTable kit v → ArePlayedTables kit (e ∷ es)
    → ArePlayedTables kit rest → ArePlayedTables kit (if b then (e.0, v) ∷ es else e ∷ rest)
insert_step kit true e es rest v here all more = (here, all.1)
insert_step kit false e es rest v here all more = (all.0, more)

insert_played : (kit : Kit) (tables : World) (name : List ℕ) (v : TableState) → IsPlayedTable kit v → ArePlayedTables kit tables
    → ArePlayedTables kit (insert_entry bytes_eq tables name v)
insert_played kit [] name v here all = (here, tt)
insert_played kit (e ∷ es) name v here all =
    insert_step kit (bytes_eq name e.0) e es (insert_entry bytes_eq es name v) v here all (insert_played kit es name v here all.1)

pub played_after : (kit : Kit) (tables : World) (name : List ℕ) (r : Request Command) → IsVerdict (record_judgement kit tables name r) None
    → ArePlayedTables kit tables → ArePlayedTables kit (world_after kit tables name r)
played_after kit tables name r lawful all =
    let there = table_named tables name in
    let here = state_played kit there (length tables) (present_stamp there) r lawful (λ t found. named_played kit tables name t all found) in
    insert_played kit tables name (state_after kit there r) here all

record_played : (kit : Kit) (old new : World) (line : List ℕ) → TakesRecord kit old line new → ArePlayedTables kit old → ArePlayedTables kit new
record_played kit old new line takes all =
    subst (λ (w : World). ArePlayedTables kit w) (sym takes.taken) (played_after kit old takes.name takes.request takes.lawful all)

-- worlds

pub new_worlds_are_played : NewWorldsArePlayed
new_worlds_are_played texts kit right = record { kit = kit; right = right; tables = []; spelled = tt; played = tt }

pub tables_of_played_are_played : TablesOfPlayedArePlayed
tables_of_played_are_played kit tables world right spelled was =
    let kits = one_kit (kit_texts world) was.kit kit was.right right in
    let same = one_of_commands was.tables tables world was.spelled spelled in
    subst (λ (k : Kit). ArePlayedTables k tables) kits (subst (λ (w : World). ArePlayedTables was.kit w) same was.played)

-- from which a line leads, and to which

pub taken_were_played : (line : List ℕ) (old new : words.World) → Takes line old new → IsPlayedWorld old
taken_were_played line old new takes =
    record { kit = takes.kit; right = takes.right; tables = takes.before; spelled = takes.was; played = takes.played }

taken_are_played : (line : List ℕ) (old new : words.World) → Takes line old new → IsPlayedWorld new
taken_are_played line old new takes =
    record {
      kit = takes.kit;
      right = subst (λ (texts : KitTexts). SpellsKit texts takes.kit) (sym takes.same_texts) takes.right;
      tables = takes.after;
      spelled = takes.becomes;
      played = record_played takes.kit takes.before takes.after line takes.taken takes.played;
    }

pub played_stay_played : PlayedStayPlayed
played_stay_played line old new takes = (taken_were_played line old new takes, taken_are_played line old new takes)

-- lines in turn

pub replayed_are_played : ReplayedArePlayed
replayed_are_played [] old new same was = subst (λ (world : words.World). IsPlayedWorld world) same was
replayed_are_played (line ∷ lines) old new replays was =
    replayed_are_played lines replays.0 new replays.2 (taken_are_played line old replays.0 replays.1)

pub replayed_were_played : ReplayedWerePlayed
replayed_were_played [] old new same was = subst (λ (world : words.World). IsPlayedWorld world) (sym same) was
replayed_were_played (line ∷ lines) old new replays was = taken_were_played line old replays.0 replays.1

-- files

pub read_have_played_bases : ReadHavePlayedBases
read_have_played_bases near far base middle world leads leads_on was =
    replayed_were_played near base middle leads (replayed_were_played far middle world leads_on was)

pub kept_have_played_bases : KeptHavePlayedBases
kept_have_played_bases image world keeps was =
    let layout = keeps.layout in
    read_have_played_bases layout.near (far_lines layout.far) layout.base layout.middle world keeps.kept.near_replayed keeps.kept.far_replayed was

pub standing_have_played_bases : StandingHavePlayedBases
standing_have_played_bases image world stands was =
    replayed_were_played (stands.near ++ stands.far) stands.base world stands.replayed was
