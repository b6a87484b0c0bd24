-- Tables that were played, one by one.
use Rattle.std.proofs.Common.{◌≡◌, ℕ, zero, suc, ◌+◌, ◌%◌, ◌<◌, ◌≤◌, Bool, true, false, cond, All, List, [], ◌∷◌, length, map, take, get_or, Option, None, Some, IfSome, Result, Ok, Err, IfOk, option_map, bytes_eq, refl, sym, ap, subst, ◌∙◌, arith}
use Rattle.std.specs.List.{range_with_len}
use Rattle.std.specs.Option.{option_map_or}
use Rattle.std.proofs.lemmas.Bool.{and_parts}
use Rattle.std.proofs.lemmas.Bool.Decides.{nat_tests}
use Rattle.std.proofs.lemmas.List.{length-map}
use Rattle.std.proofs.lemmas.List.Elements.{All-contains, All-weaker, filter_passes}
use Rattle.std.specs.Global.{Box}
use Rattle.indexmap.specs.IndexMap.{get}
use Rattle.rr_code.specs.declared.command.Command.{Command}
use Rattle.rr_game.specs.declared.history.table.Table.{Table}
use Rattle.rr_game.specs.declared.history.change.Change.{Change}
use Rattle.rr_game.specs.History.Changing.{Fits, IsChangeBy, kept_with}
use Rattle.rr_game.specs.History.Playing.{ends_turn}
use Rattle.rr_game.specs.declared.game.Game.{Game}
use Rattle.rr_game.specs.declared.history.snapshots.TheConstants.{SNAPSHOT_SPACING}
use Rattle.rr_game.specs.History.Snapshots.{IsNearest, IsShown, is_named, is_spaced, least_named, named_counts, plays_from}
use Rattle.rr_game.specs.History.Tables.{CountsPlays, HasItsSnapshots, IsPlayed, NamesAnEndedTurn, kept_in}
use Rattle.rr_game.specs.Play.{begins_with_opening}
use Rattle.rr_game.proofs.HistoryLemmas.Making.{ended_within, kept_at-rises, kept_at-within, same_shows, stays_named, stays_played}
use Rattle.rr_game.proofs.HistoryLemmas.Naming.{few_behind}
use Rattle.rr_kit.specs.declared.kit.Kit.{Kit}
use Rattle.rr_turns.specs.declared.request.Request.{Request}
use Rattle.rr_turns.specs.declared.request.Request.TheVariants.{Play, Back, Forget}
use Rattle.rr_turns.specs.Counts.{numbers_with}
use Rattle.rr_turns.specs.Ends.{kept_at}
use Rattle.rr_turns.specs.Kept.{Kept, kept_after}
use Rattle.rr_tables.specs.Changing.{IsChangeOf, IsWritableChange}
use Rattle.rr_tables.specs.Tables.{ArePlayed, HaveTheirSnapshots, kept_in_box}
use Rattle.rr_tables.specs.Taking.{plays_of, plays_to}
use Rattle.rr_tables.specs.Writable.{IsWritable}
use Rattle.rr_tables.specs.declared.taking.Taken.{Taken}
use Rattle.rr_tables.specs.declared.tables.Tables.{Tables}

-- the table of a name
pub played_at : (tables : Tables) (name : List ℕ) (table : Box Table) → get bytes_eq tables.map name ≡ Some table → ArePlayed tables
    → IsPlayed tables.kit table.value
played_at tables name table there all = subst (λ (o : Option (Box Table)). IfSome o (λ t. IsPlayed tables.kit t.value)) there (all name)

pub shows_at : (tables : Tables) (name : List ℕ) (table : Box Table) → get bytes_eq tables.map name ≡ Some table → HaveTheirSnapshots tables
    → HasItsSnapshots table.value
shows_at tables name table there all = subst (λ (o : Option (Box Table)). IfSome o (λ t. HasItsSnapshots t.value)) there (all name)

-- of a table that is written and the others
pub if_written : (b : Bool) (t : Box Table) (o : Option (Box Table)) (P : Box Table → Type 0) → P t → IfSome o P → IfSome (cond b (Some t) o) P
if_written true t o P here others = here
if_written false t o P here others = others

-- a request raises the stamp by one
pub stamp_rises : (kit : Kit) (old : Kept Command) (request : Request Command) → (kept_after (ends_turn kit) old request).stamp ≡ old.stamp + 1
stamp_rises kit old (Play c) = refl
stamp_rises kit old (Back k) = refl
stamp_rises kit old (Forget k) = refl

-- a table with another room is the same to all that look at what it keeps, at its game and at its snapshots
pub same_change : (kit : Kit) (old new : Table) (request : Request Command) (change : Change) → kept_in new ≡ kept_in old → new.game ≡ old.game
    → new.kept.snapshots ≡ old.kept.snapshots → IsWritableChange kit old request change → IsWritableChange kit new request change
same_change kit old new request change kept game snapshots is =
    record {
      by = λ played.
          subst (λ (k : Kept Command). IsChangeBy kit k request change) (sym kept)
          (is.by (stays_played kit new old (sym kept) (sym game) (sym snapshots) played));
      fits = subst (λ (k : Kept Command). Fits k change) (sym kept) is.fits;
      writable = subst (λ (k : Kept Command). IsWritable (kept_with k change)) (sym kept) is.writable;
      shows = same_shows old new request change kept game is.shows;
      counted = λ played named.
          subst (λ (k : Kept Command). change.plays ≡ plays_of kit (Some k) request) (sym kept)
          (is.counted (stays_played kit new old (sym kept) (sym game) (sym snapshots) played) (stays_named new old (sym kept) (sym game) (sym snapshots) named));
    }

-- ---- how many commands are played

-- a snapshot is of a command at least
begun : (commands : List Command) → begins_with_opening commands ≡ true → 1 ≤ length commands
begun [] opens = absurd cc
begun (c ∷ cs) opens = omega arith

some_played : (kit : Kit) (commands : List Command) (game : Game) → IsShown kit commands game → 1 ≤ game.played
some_played kit commands game shown = omega (arith, shown.stands.played, begun (take game.played commands) shown.stands.opening)

-- and one that a table is to have is of a multiple of the spacing
all_named : (least n : ℕ) → All (λ (k : ℕ). is_named least k ≡ true) (named_counts least n)
unfolding numbers_with
all_named least n = filter_passes (is_named least) (range_with_len 1 n)

get_or-map : (games : List Game) (i : ℕ) (d : Game) → i < length games → (get_or games i d).played ≡ get_or (map (λ (g : Game). g.played) games) i 0
get_or-map [] i d within = absurd (omega (arith, within))
get_or-map (g ∷ gs) zero d within = refl
get_or-map (g ∷ gs) (suc i) d within = get_or-map gs i d (omega (arith, within))

all_spaced : (games : List Game) (least n : ℕ) → map (λ (g : Game). g.played) games ≡ named_counts least n → All (λ (g : Game). is_spaced g.played ≡ true) games
all_spaced games least n are = λ i d within.
    let counts = map (λ (g : Game). g.played) games in
    let there : i < length counts = omega (arith, within, length-map games (λ (g : Game). g.played)) in
    let named = subst (λ (ks : List ℕ). All (λ (k : ℕ). is_named least k ≡ true) ks) (sym are) (all_named least n) in
    subst (λ (k : ℕ). is_spaced k ≡ true) (sym (get_or-map games i d within)) ((and_parts _ _ (named i 0 there)).0)

plays_near : (near : Option Game) (games : List Game) (count plays : ℕ) → IsNearest count games near → plays ≡ plays_from near count
    → count < option_map_or (λ (g : Game). g.played) near 0 + SNAPSHOT_SPACING → All (λ (g : Game). is_spaced g.played ≡ true) games → All (λ (g : Game). 1 ≤ g.played) games
    → plays ≡ plays_to count
plays_near None games count plays is counted high spaced some = omega (arith, counted, high)
plays_near (Some near) games count plays is counted high spaced some =
    let low : 1 ≤ near.played = All-contains (λ (g : Game). 1 ≤ g.played) games near some is.0 in
    let there : is_spaced near.played ≡ true = All-contains (λ (g : Game). is_spaced g.played ≡ true) games near spaced is.0 in
    let whole : near.played % SNAPSHOT_SPACING ≡ 0 = grind (arith, nat_tests, there) in
    omega (arith, counted, high, low, whole, is.1)

-- to work out what a request makes of a table
pub plays_counted : (kit : Kit) (table : Table) (request : Request Command) (plays : ℕ) → NamesAnEndedTurn table request → CountsPlays table request plays
    → IsPlayed kit table → HasItsSnapshots table → plays ≡ plays_of kit (Some (kept_in table)) request
plays_counted kit table (Play c) plays turn counted before named = counted
plays_counted kit table (Forget k) plays turn counted before named = counted
plays_counted kit table (Back k) plays turn counted before named =
    let within = ended_within kit table k before turn.1 in
    let games = table.kept.snapshots in
    let high = few_behind games table.game.ends table.floor (length table.kept.commands) k table.game counted.start named
    (kept_at-rises kit table.kept.commands table.game table.floor k before.played turn.0 within) (kept_at-within kit table k before within) counted.is_nearest in
    let some = All-weaker (λ (g : Game). IsShown kit table.kept.commands g) (λ (g : Game). 1 ≤ g.played) (some_played kit table.kept.commands) games before.snapshots in
    plays_near counted.start games (kept_at table.game.ends k) plays counted.is_nearest counted.counted high
    (all_spaced games (least_named (kept_at table.game.ends table.floor)) (length table.kept.commands) named.counts) some
    ∙ ap (λ (ends : List ℕ). plays_to (kept_at ends k)) before.played.ends

-- of the table that there is
pub counted_at : (kit : Kit) (o : Option (Box Table)) (request : Request Command) (change : Change) → IsChangeOf kit o request change
    → IfSome o (λ t. IsPlayed kit t.value) → IfSome o (λ t. HasItsSnapshots t.value) → change.plays ≡ plays_of kit (option_map kept_in_box o) request
counted_at kit None request change is played named = absurd is
counted_at kit (Some table) request change is played named = is.counted played named

-- and where there is none
pub none_played : {E : Type 0} (kit : Kit) (request : Request Command) (result : Result Taken E) (o : Option (Box Table)) → IfOk result (λ taken. (taken.stamp ≡ 1) × (o ≡ None))
    → IfOk result (λ taken. taken.plays ≡ 0) → IfOk result (λ taken. taken.plays ≡ plays_of kit (option_map kept_in_box o) request)
none_played kit request (Ok taken) o none plays = plays ∙ sym (ap (λ (p : Option (Box Table)). plays_of kit (option_map kept_in_box p) request) none.1)
none_played kit request (Err fault) o none plays = tt
