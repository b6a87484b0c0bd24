-- A table that has taken a change, or room for it: it was played, and has the snapshots that the rule names.
use Rattle.std.proofs.Common.{◌≡◌, ℕ, zero, suc, ◌+◌, ◌<◌, ◌≤◌, Bool, true, ◌&&◌, nat_le, List, [], ◌∷◌, ◌++◌, All, length, take, Option, None, Some, IfSome, get_or, option_to_list, if◌then◌else◌, refl, sym, ap, subst, ◌∙◌, arith, length-append}
use Rattle.std.specs.Prelude.{slice_get}
use Rattle.std.specs.List.{Contains, filter}
use Rattle.std.proofs.lemmas.Bool.{and_parts}
use Rattle.std.proofs.lemmas.List.{get_or-take, length-take, length-take-le, length_push, take-append-le, take-take}
use Rattle.std.proofs.lemmas.List.Elements.{All-append, All-cons, All-contains, All-filter, All-nil, filter_passes}
use Rattle.rr_kit.specs.declared.kit.Kit.{Kit}
use Rattle.rr_code.specs.declared.command.Command.{Command}
use Rattle.rr_turns.specs.declared.request.Request.{Request}
use Rattle.rr_turns.specs.declared.request.Request.TheVariants.{Play, Back, Forget}
use Rattle.rr_turns.specs.Ends.{kept_at, turn_ends}
use Rattle.rr_turns.specs.Kept.{Kept}
use Rattle.rr_turns.specs.Turns.{ended_turns, first_turns}
use Rattle.rr_turns.proofs.EndLemmas.{back_keeps_its_ends, ends_within}
use Rattle.rr_game.specs.declared.game.Game.{Game}
use Rattle.rr_game.specs.declared.history.change.Change.{Change}
use Rattle.rr_game.specs.declared.history.table.Table.{Table}
use Rattle.rr_game.specs.Keeping.{IsGameOf}
use Rattle.rr_game.specs.Turning.{ends_turn}
use Rattle.rr_game.specs.History.Changing.{IsChangeBy, game_after, kept_with, snapshots_after}
use Rattle.rr_game.specs.History.Playing.{ArePlayed}
use Rattle.rr_game.specs.History.Snapshots.{AreNamed, IsShown, is_between, least_named, snapshot_due}
use Rattle.rr_game.specs.History.Tables.{HasItsSnapshots, IsPlayed, ShowsBy, kept_in, turns_in}
use Rattle.rr_game.proofs.TurnEnds.{ends_push, front_told, kept_within, turns_told}
use Rattle.rr_game.proofs.HistoryLemmas.Counts.{true-le}
use Rattle.rr_game.proofs.HistoryLemmas.Naming.{back_named, floor_named, forget_named, play_named}

-- a table with these commands, this game and these snapshots
played_with : (kit : Kit) (new : Table) (commands : List Command) (game : Game) (snapshots : List Game)
    → new.kept.commands ≡ commands → new.game ≡ game → new.kept.snapshots ≡ snapshots
    → ∥ ArePlayed kit commands ∥₁ → IsGameOf kit commands game → All (IsShown kit commands) snapshots → IsPlayed kit new
played_with kit new commands game snapshots keeps has shows lawful stands shown = record {
  lawful = subst (λ (cs : List Command). ∥ ArePlayed kit cs ∥₁) (sym keeps) lawful;
  played = subst (λ (cs : List Command). IsGameOf kit cs new.game) (sym keeps) (subst (λ (g : Game). IsGameOf kit commands g) (sym has) stands);
  snapshots = subst (λ (cs : List Command). All (IsShown kit cs) new.kept.snapshots) (sym keeps) (subst (λ (gs : List Game). All (IsShown kit commands) gs) (sym shows) shown);
}

-- a table with another room
pub stays_played : (kit : Kit) (old new : Table) → kept_in new ≡ kept_in old → new.game ≡ old.game → new.kept.snapshots ≡ old.kept.snapshots → IsPlayed kit old → IsPlayed kit new
stays_played kit old new kept game snapshots before =
    played_with kit new old.kept.commands old.game old.kept.snapshots (ap (λ (k : Kept Command). k.commands) kept) game snapshots before.lawful before.played before.snapshots

-- snapshots of the first commands, where the front that stays has them

shown_still : (kit : Kit) (old added : List Command) (stay : ℕ) (game : Game) → IsShown kit old game → game.played ≤ stay → IsShown kit (take stay old ++ added) game
shown_still kit old added stay game shown few =
    let within : game.played ≤ length (take stay old) = omega (arith, length-take stay old, few, shown.within) in
    let same : take game.played (take stay old ++ added) ≡ take game.played old =
    take-append-le game.played (take stay old) added within ∙ take-take game.played stay old few in
    record {
      within = omega (arith, within, length-append (take stay old) added);
      stands = subst (λ (cs : List Command). IsGameOf kit cs game) (sym same) shown.stands;
      spelled = shown.spelled;
    }

all_of_option : (P : Game → Type 0) (o : Option Game) → IfSome o P → All P (option_to_list o)
all_of_option P None h = All-nil P
all_of_option P (Some game) h = All-cons P game [] h (All-nil P)

all_shown : (kit : Kit) (old added : List Command) (least stay : ℕ) (games : List Game) (snapshot : Option Game) → All (IsShown kit old) games
    → IfSome snapshot (IsShown kit (take stay old ++ added))
    → All (IsShown kit (take stay old ++ added)) (filter (λ (game : Game). is_between least stay game.played) games ++ option_to_list snapshot)
all_shown kit old added least stay games snapshot all one =
    let p : Game → Bool = λ game. is_between least stay game.played in
    let P : Game → Type 0 = IsShown kit (take stay old ++ added) in
    All-append P (filter p games) (option_to_list snapshot)
    (λ i d within.
    let game : Game = get_or (filter p games) i d in
    let passes : is_between least stay game.played ≡ true = filter_passes p games i d within in
    shown_still kit old added stay game (All-filter p (IsShown kit old) games all i d within)
    (true-le game.played stay (and_parts (nat_le least game.played) (nat_le game.played stay) passes).1))
    (all_of_option P snapshot one)

-- a snapshot of a table that was played
pub shown_there : (kit : Kit) (commands : List Command) (snapshots listed : List Game) (found game : Game) → All (IsShown kit commands) snapshots
    → listed ≡ snapshots → Contains listed found → game ≡ found → IsGameOf kit (take game.played commands) game
shown_there kit commands snapshots listed found game all same there is =
    let shown = All-contains (IsShown kit commands) snapshots found all (subst (λ (gs : List Game). Contains gs found) same there) in
    subst (λ (g : Game). IsGameOf kit (take g.played commands) g) (sym is) shown.stands

-- a table that has taken the change that a request makes of it
pub made : (kit : Kit) (old new : Table) (request : Request Command) (change : Change) → IsPlayed kit old → IsChangeBy kit (kept_in old) request change
    → kept_in new ≡ kept_with (kept_in old) change → new.game ≡ game_after old.game change → new.kept.snapshots ≡ snapshots_after old.kept.snapshots change
    → IsPlayed kit new
made kit old new request change before by kept game snapshots =
    let added = option_to_list change.added in
    let play = by.played old.game (record { lawful = before.lawful; played = before.played }) in
    played_with kit new (take change.stay old.kept.commands ++ added) (game_after old.game change) (snapshots_after old.kept.snapshots change)
    (ap (λ (k : Kept Command). k.commands) kept) game snapshots play.lawful play.played
    (all_shown kit old.kept.commands added change.least change.stay old.kept.snapshots change.snapshot before.snapshots by.shown)

-- how many commands are kept at the ends of turns

pub ended_within : (kit : Kit) (table : Table) (k : ℕ) → IsPlayed kit table → k ≤ turns_in table → k < length table.game.ends
ended_within kit table k before ended = omega (arith, ended, turns_told kit table.kept.commands table.game before.played)

pub kept_at-within : (kit : Kit) (table : Table) (k : ℕ) → IsPlayed kit table → k < length table.game.ends → kept_at table.game.ends k ≤ length table.kept.commands
kept_at-within kit table k before ended =
    let most : kept_at table.game.ends k ≤ table.game.played = table.game.within.most k 0 ended in omega (arith, most, before.played.played)

-- no fewer at a later turn's
pub kept_at-rises : (kit : Kit) (commands : List Command) (game : Game) (j k : ℕ) → IsGameOf kit commands game → j ≤ k → k < length game.ends → kept_at game.ends j ≤ kept_at game.ends k
kept_at-rises kit commands game j k stands le ended =
    let ends = ends_turn kit in
    let turns : k ≤ ended_turns ends commands = omega (arith, ended, turns_told kit commands game stands) in
    let front = first_turns ends k commands in
    let same : turn_ends ends front ≡ take (k + 1) game.ends = back_keeps_its_ends Command ends commands k ∙ ap (take (k + 1)) (sym stands.ends) in
    let long : length (turn_ends ends front) ≡ k + 1 = ap length same ∙ length-take-le (k + 1) game.ends (omega (arith, ended)) in
    let most : kept_at (turn_ends ends front) j ≤ length front = ends_within Command ends front j 0 (omega (arith, long, le)) in
    let here : kept_at (turn_ends ends front) j ≡ kept_at game.ends j =
    ap (λ (ks : List ℕ). kept_at ks j) same ∙ get_or-take (k + 1) game.ends j 0 (omega (arith, le)) in
    let whole : length front ≡ kept_at game.ends k =
    ap length (front_told kit commands game k stands turns) ∙ length-take-le (kept_at game.ends k) commands (kept_within kit commands game k stands turns) in
    omega (arith, most, here, whole)

-- the snapshots that a table has once it has taken a change

pub same_named : (snapshots others : List Game) (ends counts : List ℕ) (floor turn n m : ℕ) → snapshots ≡ others → ends ≡ counts → floor ≡ turn → n ≡ m
    → AreNamed others counts turn m → AreNamed snapshots ends floor n
same_named snapshots others ends counts floor turn n m a b c d named =
    subst (λ (gs : List Game). AreNamed gs ends floor n) (sym a)
    (subst (λ (es : List ℕ). AreNamed others es floor n) (sym b)
    (subst (λ (f : ℕ). AreNamed others counts f n) (sym c) (subst (λ (l : ℕ). AreNamed others counts turn l) (sym d) named)))

after_by : (old : List Game) (change : Change) (least stay : ℕ) (snapshot : Option Game) → change.least ≡ least → change.stay ≡ stay → change.snapshot ≡ snapshot
    → snapshots_after old change ≡ filter (λ (game : Game). is_between least stay game.played) old ++ option_to_list snapshot
after_by old change least stay snapshot a b c =
    ap (λ (n : ℕ). filter (λ (game : Game). is_between n change.stay game.played) old ++ option_to_list change.snapshot) a
    ∙ ap (λ (n : ℕ). filter (λ (game : Game). is_between least n game.played) old ++ option_to_list change.snapshot) b
    ∙ ap (λ (o : Option Game). filter (λ (game : Game). is_between least stay game.played) old ++ option_to_list o) c

-- the game behind a change
after_change : (kit : Kit) (old : Table) (request : Request Command) (change : Change) (commands : List Command) (game : Game) → IsPlayed kit old
    → IsChangeBy kit (kept_in old) request change → commands ≡ take change.stay old.kept.commands ++ option_to_list change.added → game ≡ game_after old.game change
    → IsGameOf kit commands game
after_change kit old request change commands game before by keeps has =
    let play = by.played old.game (record { lawful = before.lawful; played = before.played }) in
    subst (λ (cs : List Command). IsGameOf kit cs game) (sym keeps)
    (subst (λ (g : Game). IsGameOf kit (take change.stay old.kept.commands ++ option_to_list change.added) g) (sym has) play.played)

pub named_made : (kit : Kit) (old : Table) (request : Request Command) (change : Change) (commands : List Command) (game : Game) (snapshots : List Game)
    → IsPlayed kit old → IsChangeBy kit (kept_in old) request change → ShowsBy old request change
    → commands ≡ take change.stay old.kept.commands ++ option_to_list change.added → game ≡ game_after old.game change → snapshots ≡ snapshots_after old.kept.snapshots change
    → HasItsSnapshots old → AreNamed snapshots game.ends change.floor (length commands)
named_made kit old (Play c) change commands game snapshots before by shows keeps has shown named =
    let after = after_change kit old (Play c) change commands game before by keeps has in
    let all : commands ≡ old.kept.commands ++ c ∷ [] = keeps ∙ ap (λ (k : Kept Command). k.commands) by.kept in
    let n = length old.kept.commands in
    let more : List ℕ = if ends_turn kit old.kept.commands c then (n + 1) ∷ [] else [] in
    let count : length commands ≡ n + 1 = ap length all ∙ length_push old.kept.commands c in
    let played : (game_after old.game change).played ≡ n + 1 = ap (λ (g : Game). g.played) (sym has) ∙ after.played ∙ count in
    same_named snapshots _ game.ends (old.game.ends ++ more) change.floor old.floor (length commands) (n + 1)
    (shown ∙ after_by old.kept.snapshots change 0 n (snapshot_due (game_after old.game change)) shows.least shows.stay shows.snapshot)
    (after.ends ∙ ap (turn_ends (ends_turn kit)) all ∙ ends_push kit old.kept.commands c before.played.opening
    ∙ ap (λ (ks : List ℕ). ks ++ more) (sym before.played.ends))
    (ap (λ (k : Kept Command). k.floor) by.kept) count
    (play_named old.kept.snapshots old.game.ends more old.floor n (game_after old.game change) named (kept_at-within kit old old.floor before named.floored) played)
named_made kit old (Back k) change commands game snapshots before by shows keeps has shown named =
    let after = after_change kit old (Back k) change commands game before by keeps has in
    let ends = ends_turn kit in
    let front : commands ≡ first_turns ends k old.kept.commands = keeps ∙ ap (λ (k : Kept Command). k.commands) by.kept in
    let ended = ended_within kit old k before shows.turn.1 in
    let within = kept_at-within kit old k before ended in
    let turns : k ≤ ended_turns ends old.kept.commands = omega (arith, ended, turns_told kit old.kept.commands old.game before.played) in
    let count : length commands ≡ kept_at old.game.ends k =
    ap length (front ∙ front_told kit old.kept.commands old.game k before.played turns) ∙ length-take-le (kept_at old.game.ends k) old.kept.commands within in
    same_named snapshots _ game.ends (take (k + 1) old.game.ends) change.floor old.floor (length commands) (kept_at old.game.ends k)
    (shown ∙ after_by old.kept.snapshots change 0 (kept_at old.game.ends k) None shows.least shows.stay shows.snapshot)
    (after.ends ∙ ap (turn_ends ends) front ∙ back_keeps_its_ends Command ends old.kept.commands k ∙ ap (take (k + 1)) (sym before.played.ends))
    (ap (λ (k : Kept Command). k.floor) by.kept) count
    (back_named old.kept.snapshots old.game.ends old.floor (length old.kept.commands) k named shows.turn.0 ended within)
named_made kit old (Forget k) change commands game snapshots before by shows keeps has shown named =
    let after = after_change kit old (Forget k) change commands game before by keeps has in
    let all : commands ≡ old.kept.commands = keeps ∙ ap (λ (k : Kept Command). k.commands) by.kept in
    let ended = ended_within kit old k before shows.turn.1 in
    let n = length old.kept.commands in
    same_named snapshots _ game.ends old.game.ends change.floor k (length commands) n
    (shown ∙ after_by old.kept.snapshots change (least_named (kept_at old.game.ends k)) n None shows.least shows.stay shows.snapshot)
    (after.ends ∙ ap (turn_ends (ends_turn kit)) all ∙ sym before.played.ends)
    (ap (λ (k : Kept Command). k.floor) by.kept) (ap length all)
    (forget_named old.kept.snapshots old.game.ends old.floor n k named ended
    (kept_at-rises kit old.kept.commands old.game old.floor k before.played shows.turn.0 ended))

-- a table that goes on with another floor

pub resumed_played : (kit : Kit) (old new : Table) (least most : ℕ) → new.kept.commands ≡ old.kept.commands → new.game ≡ old.game
    → new.kept.snapshots ≡ filter (λ (game : Game). is_between least most game.played) old.kept.snapshots → IsPlayed kit old → IsPlayed kit new
resumed_played kit old new least most commands game snapshots before =
    let p : Game → Bool = λ game. is_between least most game.played in
    played_with kit new old.kept.commands old.game (filter p old.kept.snapshots) commands game snapshots before.lawful before.played
    (All-filter p (IsShown kit old.kept.commands) old.kept.snapshots before.snapshots)

pub named_resumed : (kit : Kit) (old : Table) (floor : ℕ) (snapshots : List Game) (commands : List Command) → IsPlayed kit old → commands ≡ old.kept.commands
    → snapshots ≡ filter (λ (game : Game). is_between (least_named (kept_at old.game.ends floor)) (length old.kept.commands) game.played) old.kept.snapshots
    → HasItsSnapshots old → old.floor ≤ floor → floor ≤ turns_in old → AreNamed snapshots old.game.ends floor (length commands)
named_resumed kit old floor snapshots commands before all shown named above ended =
    let within = ended_within kit old floor before ended in
    same_named snapshots _ old.game.ends old.game.ends floor floor (length commands) (length old.kept.commands)
    shown refl refl (ap length all)
    (floor_named old.kept.snapshots old.game.ends old.floor (length old.kept.commands) floor named within
    (kept_at-rises kit old.kept.commands old.game old.floor floor before.played above within))

-- a turn that hasn't ended has no count
pub none_kept : (counts : List ℕ) (k : ℕ) → slice_get counts k ≡ None → kept_at counts k ≡ 0
none_kept [] k none = refl
none_kept (count ∷ counts) zero none = absurd cc
none_kept (count ∷ counts) (suc k) none = none_kept counts k none

-- a table with another room has them still

pub stays_named : (old new : Table) → kept_in new ≡ kept_in old → new.game ≡ old.game → new.kept.snapshots ≡ old.kept.snapshots → HasItsSnapshots old → HasItsSnapshots new
stays_named old new kept game snapshots named =
    same_named new.kept.snapshots old.kept.snapshots new.game.ends old.game.ends new.floor old.floor (length new.kept.commands) (length old.kept.commands)
    snapshots (ap (λ (g : Game). g.ends) game) (ap (λ (k : Kept Command). k.floor) kept) (ap (λ (k : Kept Command). length k.commands) kept) named

-- what a request makes of a table, it makes of one that keeps the same

pub same_change : (kit : Kit) (old new : Kept Command) (request : Request Command) (change : Change) → new ≡ old → IsChangeBy kit old request change → IsChangeBy kit new request change
same_change kit old new request change same by = subst (λ (k : Kept Command). IsChangeBy kit k request change) (sym same) by

same_turn : (old new : Table) (k : ℕ) → kept_in new ≡ kept_in old → new.game ≡ old.game → (old.floor ≤ k) × (k ≤ turns_in old) → (new.floor ≤ k) × (k ≤ turns_in new)
same_turn old new k kept game both =
    let floor : new.floor ≡ old.floor = ap (λ (t : Kept Command). t.floor) kept in
    let ends : length new.game.ends ≡ length old.game.ends = ap (λ (g : Game). length g.ends) game in
    (omega (arith, floor, both.0), omega (arith, ends, both.1))

pub same_shows : (old new : Table) (request : Request Command) (change : Change) → kept_in new ≡ kept_in old → new.game ≡ old.game → ShowsBy old request change → ShowsBy new request change
same_shows old new (Play c) change kept game shows = record {
  turn = tt;
  stay = shows.stay ∙ ap (λ (k : Kept Command). length k.commands) (sym kept);
  least = shows.least;
  snapshot = shows.snapshot ∙ ap (λ (g : Game). snapshot_due (game_after g change)) (sym game);
}
same_shows old new (Back k) change kept game shows = record {
  turn = same_turn old new k kept game shows.turn;
  stay = shows.stay ∙ ap (λ (g : Game). kept_at g.ends k) (sym game);
  least = shows.least;
  snapshot = shows.snapshot;
}
same_shows old new (Forget k) change kept game shows = record {
  turn = same_turn old new k kept game shows.turn;
  stay = shows.stay ∙ ap (λ (t : Kept Command). length t.commands) (sym kept);
  least = shows.least ∙ ap (λ (g : Game). least_named (kept_at g.ends k)) (sym game);
  snapshot = shows.snapshot;
}

-- a turn that has ended and isn't forgotten
pub turn_named : (table : Table) (k : ℕ) → true ≡ (nat_le table.floor k && nat_le k (turns_in table)) → (table.floor ≤ k) × (k ≤ turns_in table)
turn_named table k kept =
    let both = and_parts (nat_le table.floor k) (nat_le k (turns_in table)) (sym kept) in
    (true-le table.floor k both.0, true-le k (turns_in table) both.1)
