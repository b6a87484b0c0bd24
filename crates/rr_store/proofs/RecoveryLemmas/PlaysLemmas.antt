-- How many commands are played for a table, and which snapshots it has then.
use Rattle.std.proofs.Common.{◌≡◌, ◌⊎◌, ℕ, zero, suc, ◌+◌, ◌*◌, ◌-◌, ◌%◌, ◌<◌, ◌≤◌, ◌==◌, ◌&&◌, ◌↔◌, Bool, true, false, cond, nat_le, List, [], ◌∷◌, ◌++◌, All, length, map, max, take, get_or, option_to_list, Option, None, Some, Result, Ok, Err, IfOk, if◌then◌else◌, inl, inr, refl, sym, ap, subst, ◌∙◌, append-nil, append_assoc, arith}
use Rattle.std.specs.List.{AllZip, filter, range_with_len}
use Rattle.std.proofs.lemmas.Bool.{cases_Bool}
use Rattle.std.proofs.lemmas.Bool.Decides.{nat_tests}
use Rattle.std.proofs.lemmas.List.{get_or_past, map-append, take_more}
use Rattle.std.proofs.lemmas.List.Elements.{All-append, All-cons, All-contains, All-filter, All-head, All-nil, All-tail, All-weaker}
use Rattle.rr_code.specs.declared.command.Command.{Command}
use Rattle.rr_game.specs.declared.game.Game.{Game}
use Rattle.rr_game.specs.declared.history.change.Change.{Change}
use Rattle.rr_game.specs.declared.history.snapshots.TheConstants.{SNAPSHOT_SPACING}
use Rattle.rr_game.specs.declared.history.table.Table.{Table}
use Rattle.rr_game.specs.History.Changing.{game_after, snapshots_after}
use Rattle.rr_game.specs.History.Playing.{ends_turn}
use Rattle.rr_game.specs.History.Snapshots.{is_between, is_named, is_spaced, least_named, named_counts, snapshot_due}
use Rattle.rr_game.specs.History.Tables.{HasItsSnapshots, IsPlayed, ShowsBy, kept_in, turns_in}
use Rattle.rr_game.proofs.HistoryLemmas.Counts.{kept_above, least-below, least-near, least-rises, map-filter, named_more, nearest_named, opening_named, true-le}
use Rattle.rr_game.proofs.HistoryLemmas.Making.{ended_within}
use Rattle.rr_images.specs.Holding.{HeldChain}
use Rattle.rr_kit.specs.declared.kit.Kit.{Kit}
use Rattle.rr_reading.specs.declared.dir.directory.SnapshotEntry.{SnapshotEntry}
use Rattle.rr_reading.specs.declared.dir.directory.TableEntry.{TableEntry}
use Rattle.rr_tables.specs.Records.World.{TableState, World, table_named}
use Rattle.rr_tables.specs.Taking.{plays_of}
use Rattle.rr_turns.specs.declared.request.Request.{Request}
use Rattle.rr_turns.specs.declared.request.Request.TheVariants.{Play, Back, Forget}
use Rattle.rr_turns.specs.Counts.{numbers_with}
use Rattle.rr_turns.specs.Ends.{kept_at, turn_ends}
use Rattle.rr_turns.proofs.CountLemmas.{none-above, passes-at}
use Rattle.rr_turns.proofs.EndLemmas.{ends_within}
use Rattle.rr_store.specs.declared.recovery.fault.Fault.{Fault}
use Rattle.rr_store.specs.Recovery.Kept.{IsBegunBy}
use Rattle.rr_store.specs.Recovery.Playing.{Recalls, ShowsNext}
use Rattle.rr_store.specs.Recovery.Restoring.{Puts}
use Rattle.rr_store.specs.Recovery.Shown.{IsLast, ShowPlays, Shown, ShowsPlayOf, SpellsTheGame, shown_at}
use Rattle.rr_store.specs.Recovery.Told.{TellsTable}
use Rattle.rr_store.specs.Replayed.{AreItsCounts, PlaysRecord, PlaysRecords, PlaysTable, PlaysTables, begins_behind, counts_at, counts_played, counts_shown, counts_then, greatest, least_kept, plays_behind, with_due}
use Rattle.rr_store.proofs.RecoveryLemmas.RestoringLemmas.{show_last}
use Rattle.rr_store.proofs.RecoveryLemmas.WordLemmas.{as_many}

-- ---- the greatest of some counts

le_more : (n m k : ℕ) → n ≤ m → n ≤ max k m
le_more n m k le = omega (arith, le)

pub all_below : (counts : List ℕ) → All (λ (n : ℕ). n ≤ greatest counts) counts
all_below [] = All-nil (λ (n : ℕ). n ≤ 0)
all_below (c ∷ cs) =
    All-cons (λ (n : ℕ). n ≤ max c (greatest cs)) c cs (omega arith)
    (All-weaker (λ (n : ℕ). n ≤ greatest cs) (λ (n : ℕ). n ≤ max c (greatest cs)) (λ n le. le_more n (greatest cs) c le) cs (all_below cs))

pub greatest_below : (counts : List ℕ) (most : ℕ) → All (λ (n : ℕ). n ≤ most) counts → greatest counts ≤ most
greatest_below [] most all = omega arith
greatest_below (c ∷ cs) most all =
    let here = All-head (λ (n : ℕ). n ≤ most) c cs all in
    omega (arith, here, greatest_below cs most (All-tail (λ (n : ℕ). n ≤ most) c cs all))

greatest_among : (front rest : List ℕ) (x : ℕ) → x ≤ greatest (front ++ x ∷ rest)
greatest_among [] rest x = omega arith
greatest_among (f ∷ front) rest x = omega (arith, greatest_among front rest x)

pub greatest_behind : (counts : List ℕ) → greatest counts ≤ begins_behind counts
greatest_behind [] = omega arith
greatest_behind (c ∷ cs) = omega arith

-- one among them
behind_among : (counts front rest : List ℕ) (x : ℕ) → counts ≡ front ++ x ∷ rest → x ≤ begins_behind counts
behind_among counts front rest x is = omega (arith, ap greatest is, greatest_among front rest x, greatest_behind counts)

pub all_behind : (counts : List ℕ) (most : ℕ) → begins_behind counts ≤ most → All (λ (n : ℕ). n ≤ most) counts
all_behind counts most le =
    All-weaker (λ (n : ℕ). n ≤ greatest counts) (λ (n : ℕ). n ≤ most) (λ n below. omega (arith, below, greatest_behind counts, le)) counts (all_below counts)

-- ---- the last of some snapshots

below_played : (games : List Game) → All (λ (game : Game). game.played ≤ greatest (counts_played games)) games
below_played [] = All-nil (λ (game : Game). game.played ≤ 0)
below_played (g ∷ gs) =
    let most = greatest (counts_played gs) in
    All-cons (λ (game : Game). game.played ≤ max g.played most) g gs (omega arith)
    (All-weaker (λ (game : Game). game.played ≤ most) (λ (game : Game). game.played ≤ max g.played most) (λ game le. le_more game.played most g.played le) gs (below_played gs))

played_below : (games : List Game) (most : ℕ) → All (λ (game : Game). game.played ≤ most) games → greatest (counts_played games) ≤ most
played_below [] most all = omega arith
played_below (g ∷ gs) most all =
    let P : Game → Type 0 = λ game. game.played ≤ most in
    let here = All-head P g gs all in omega (arith, here, played_below gs most (All-tail P g gs all))

last_is : (games : List Game) (last : Game) → IsLast games (Some last) → begins_behind (counts_played games) ≡ last.played
last_is [] last is = let within = is.0.1 in absurd (omega (arith, within))
last_is (g ∷ gs) last is =
    let P : Game → Type 0 = λ game. game.played ≤ greatest (counts_played (g ∷ gs)) in
    let low : last.played ≤ greatest (counts_played (g ∷ gs)) = All-contains P (g ∷ gs) last (below_played (g ∷ gs)) is.0 in
    omega (arith, low, played_below (g ∷ gs) last.played is.1)

module _ (last : Game) (games : List Game) (is : IsLast games (Some last)) where
  pub last_behind : (table : Result Table Fault) → IfOk table (λ t. Recalls last games t) → IfOk table (λ t. length (kept_in t).commands ≡ begins_behind (counts_played games))
  last_behind (Ok table) recalls = recalls.counted ∙ sym (last_is games last is)
  last_behind (Err fault) recalls = tt

module _ (last : Game) (games : List Game) where
  pub last_shown : (table : Result Table Fault) → IfOk table (λ t. Recalls last games t) → IfOk table (λ t. counts_played t.kept.snapshots ≡ counts_played games)
  last_shown (Ok table) recalls = ap counts_played recalls.shown
  last_shown (Err fault) recalls = tt

-- and where there is none, of a table behind its opening
none_shown : (table : Table) → HasItsSnapshots table → length (kept_in table).commands ≡ 1 → counts_played table.kept.snapshots ≡ []
none_shown table named alone =
    let least = least_named (kept_at table.game.ends table.floor) in
    named.counts ∙ ap (λ (n : ℕ). named_counts least n) alone ∙ opening_named least

module _ (games : List Game) (none : games ≡ []) where
  pub first_behind : (table : Result Table Fault) → IfOk table (λ t. length (kept_in t).commands ≡ 1) → IfOk table (λ t. length (kept_in t).commands ≡ begins_behind (counts_played games))
  first_behind (Ok table) alone = alone ∙ sym (ap (λ (gs : List Game). begins_behind (counts_played gs)) none)
  first_behind (Err fault) alone = tt

  pub first_shown : (table : Result Table Fault) → IfOk table HasItsSnapshots → IfOk table (λ t. length (kept_in t).commands ≡ 1)
      → IfOk table (λ t. counts_played t.kept.snapshots ≡ counts_played games)
  first_shown (Ok table) named alone = none_shown table named alone ∙ sym (ap counts_played none)
  first_shown (Err fault) named alone = tt

pub begun_alone : (kit : Kit) (words : List ℕ) (table : Result Table Fault) → IfOk table (λ t. IsBegunBy kit words t) → IfOk table (λ t. length (kept_in t).commands ≡ 1)
begun_alone kit words (Ok table) begun = sym (as_many (words ∷ []) (kept_in table).commands begun.spelled)
begun_alone kit words (Err fault) begun = tt

-- the snapshots that were read have the counts of their entries
pub counts_read : (shown : List Shown) (games : List Game) → AllZip SpellsTheGame shown games → counts_shown shown ≡ counts_played games
counts_read [] [] read = refl
counts_read [] (g ∷ gs) read = absurd read
counts_read (s ∷ ss) [] read = absurd read
counts_read (s ∷ ss) (g ∷ gs) read = λ i. read.0.counted i ∷ counts_read ss gs read.1 i

-- ---- a command more

all_between : (counts : List ℕ) (most : ℕ) → All (λ (n : ℕ). n ≤ most) counts → filter (is_between 0 most) counts ≡ counts
all_between [] most all = refl
all_between (c ∷ cs) most all =
    let P : ℕ → Type 0 = λ n. n ≤ most in
    let here : c ≤ most = All-head P c cs all in
    let passes : is_between 0 most c ≡ true = grind (arith, nat_tests, here) in
    rw (passes) (ap (λ (l : List ℕ). c ∷ l) (all_between cs most (All-tail P c cs all)))

due_counts : (game : Game) → counts_played (option_to_list (snapshot_due game)) ≡ (if is_spaced game.played then game.played ∷ [] else [])
due_counts game = by_test (is_spaced game.played)
  where
    by_test : (b : Bool) → counts_played (option_to_list (if b then Some game else None)) ≡ (if b then game.played ∷ [] else [])
    by_test true = refl
    by_test false = refl

pub shows_next : (old middle new : Table) (command : Command) (change : Change) → kept_in middle ≡ kept_in old → middle.game ≡ old.game → middle.kept.snapshots ≡ old.kept.snapshots
    → ShowsBy old (Play command) change → new.game ≡ game_after middle.game change → new.kept.snapshots ≡ snapshots_after middle.kept.snapshots change
    → length new.kept.commands ≡ length old.kept.commands + 1 → ShowsNext old new
shows_next old middle new command change kept game snapshots shows game_is snapshots_are counted =
    record {
      counted = counted;
      shown = λ all.
          let stay : change.stay ≡ length old.kept.commands = shows.stay in
          let after : game_after old.game change ≡ new.game = ap (λ (g : Game). game_after g change) (sym game) ∙ sym game_is in
          let due : change.snapshot ≡ snapshot_due new.game = shows.snapshot ∙ ap snapshot_due after in
          let played : new.game.played ≡ length new.kept.commands = new.counted in
          let f : Game → ℕ = λ g. g.played in
          ap counts_played (snapshots_are ∙ ap (λ (gs : List Game). snapshots_after gs change) snapshots)
          ∙ map-append f (filter (λ (g : Game). is_between change.least change.stay g.played) old.kept.snapshots) (option_to_list change.snapshot)
          ∙ (λ i. map-filter f (is_between (shows.least i) (stay i)) old.kept.snapshots i ++ counts_played (option_to_list (due i)))
          ∙ (λ i. all_between (counts_played old.kept.snapshots) (length old.kept.commands) all i ++ due_counts new.game i)
          ∙ ap (λ (n : ℕ). counts_played old.kept.snapshots ++ (if is_spaced n then n ∷ [] else [])) played;
    }

-- ---- those that are due behind some counts

and_no : (a b : Bool) → b ≡ false → (a && b) ≡ false
and_no true b is = is
and_no false b is = refl

none_counted : (test : ℕ → Bool) → numbers_with test 0 ≡ []
unfolding numbers_with
none_counted test = refl

-- above a count there is none up to it
none_past : (count : ℕ) → named_counts (count + 1) count ≡ []
none_past count =
    none-above (is_named (count + 1)) 0 count (omega arith)
    (λ place low high. and_no (is_spaced (place + 1)) (nat_le (count + 1) (place + 1)) (let e : nat_le (count + 1) (place + 1) ≡ false = grind (arith, nat_tests, high) in e))
    ∙ none_counted (is_named (count + 1))

-- at first these are the counts themselves
pub due_first : (counts : List ℕ) → with_due counts (begins_behind counts) ≡ counts
due_first counts = ap (λ (l : List ℕ). counts ++ l) (none_past (begins_behind counts)) ∙ append-nil counts

range_within : (first n : ℕ) → All (λ (k : ℕ). (first ≤ k) × (k < first + n)) (range_with_len first n)
range_within first zero = All-nil (λ (k : ℕ). (first ≤ k) × (k < first + 0))
range_within first (suc n) =
    let P : ℕ → Type 0 = λ k. (first ≤ k) × (k < first + suc n) in
    All-cons P first (range_with_len (first + 1) n) (omega arith, omega arith)
    (All-weaker (λ (k : ℕ). (first + 1 ≤ k) × (k < first + 1 + n)) P (λ k is. (omega (arith, is.0), omega (arith, is.1))) (range_with_len (first + 1) n) (range_within (first + 1) n))

named_within : (least count : ℕ) → All (λ (k : ℕ). k ≤ count) (named_counts least count)
unfolding numbers_with
named_within least count =
    All-weaker (λ (k : ℕ). (1 ≤ k) × (k < 1 + count)) (λ (k : ℕ). k ≤ count) (λ k is. omega (arith, is.1)) (named_counts least count)
    (All-filter (is_named least) (λ (k : ℕ). (1 ≤ k) × (k < 1 + count)) (range_with_len 1 count) (range_within 1 count))

-- none is greater than what was played
due_within : (counts : List ℕ) (kept : ℕ) → begins_behind counts ≤ kept → All (λ (n : ℕ). n ≤ kept) (with_due counts kept)
due_within counts kept low =
    All-append (λ (n : ℕ). n ≤ kept) counts (named_counts (begins_behind counts + 1) kept) (all_behind counts kept low) (named_within (begins_behind counts + 1) kept)

-- one command more
pub next_shown : (counts : List ℕ) (old new : Table) → ShowsNext old new → begins_behind counts ≤ length old.kept.commands
    → counts_played old.kept.snapshots ≡ with_due counts (length old.kept.commands) → counts_played new.kept.snapshots ≡ with_due counts (length new.kept.commands)
next_shown counts old new shows low before =
    let m = length old.kept.commands in
    let one : length new.kept.commands ≡ m + 1 = shows.counted in
    let b = begins_behind counts in
    let all : All (λ (n : ℕ). n ≤ m) (counts_played old.kept.snapshots) = subst (λ (l : List ℕ). All (λ (n : ℕ). n ≤ m) l) (sym before) (due_within counts m low) in
    let last : ℕ → List ℕ = λ n. if is_spaced n then n ∷ [] else [] in
    shows.shown all
    ∙ (λ i. before i ++ last (one i))
    ∙ append_assoc counts (named_counts (b + 1) m) (last (m + 1))
    ∙ ap (λ (l : List ℕ). counts ++ l) (sym (named_more (b + 1) m (omega (arith, low))))
    ∙ ap (with_due counts) (sym one)

-- ---- the snapshots that a table is to have

within_few : (ends : List ℕ) (floor most : ℕ) → (floor < length ends → kept_at ends floor ≤ most) → kept_at ends floor ≤ most
within_few ends floor most here = by_place (cases_Bool (nat_le (length ends) floor))
  where
    by_place : (nat_le (length ends) floor ≡ true) ⊎ (nat_le (length ends) floor ≡ false) → kept_at ends floor ≤ most
    by_place (inl past) = let none : kept_at ends floor ≡ 0 = get_or_past ends floor 0 (true-le (length ends) floor past) in omega (arith, none)
    by_place (inr within) = let in_ends : floor < length ends = grind (arith, nat_tests, within) in here in_ends

kept_at_few : (kit : Kit) (commands : List Command) (floor : ℕ) → kept_at (turn_ends (ends_turn kit) commands) floor ≤ length commands
kept_at_few kit commands floor =
    within_few (turn_ends (ends_turn kit) commands) floor (length commands) (λ within. ends_within Command (ends_turn kit) commands floor 0 within)

-- a count that is named is among them
among_named : (counts : List ℕ) (least kept count : ℕ) → counts ≡ named_counts least kept → is_spaced count ≡ true → least ≤ count → 1 ≤ count → count ≤ kept → count ≤ begins_behind counts
among_named counts least kept count are spaced low some few =
    let one : count - 1 + 1 ≡ count = omega (arith, some) in
    let within : count - 1 < kept = omega (arith, some, few) in
    let low_is : nat_le least count ≡ true = grind (arith, nat_tests, low) in
    let passes : is_named least count ≡ true = rw (spaced, low_is) refl in
    let named = passes-at (is_named least) (count - 1) kept within (subst (λ (k : ℕ). is_named least k ≡ true) (sym one) passes) in
    let among : count - 1 + 1 ≤ begins_behind counts = behind_among counts _ _ (count - 1 + 1) (are ∙ named) in
    omega (arith, among, one)

-- so none is named behind the last of them
past_last : (counts : List ℕ) (kept least : ℕ) → least ≤ kept → is_spaced least ≡ true → counts ≡ named_counts least kept → named_counts (begins_behind counts + 1) kept ≡ []
past_last counts kept least low least_spaced are =
    let b = begins_behind counts in
    none-above (is_named (b + 1)) 0 kept (omega arith) (λ place from few. by_test place few (cases_Bool (is_spaced (place + 1))) (cases_Bool (nat_le (b + 1) (place + 1))))
    ∙ none_counted (is_named (b + 1))
  where
    no_more : (place : ℕ) → place < kept → is_spaced (place + 1) ≡ true → begins_behind counts + 1 ≤ place + 1 → (nat_le least (place + 1) ≡ true) ⊎ (nat_le least (place + 1) ≡ false) → ⊥
    no_more place few spaced above (inl there) =
        omega (arith, above, among_named counts least kept (place + 1) are spaced (true-le least (place + 1) there) (omega arith) (omega (arith, few)))
    no_more place few spaced above (inr below) =
        let less : place + 1 < least = grind (arith, nat_tests, below) in
        omega (arith, above, less, among_named counts least kept least are least_spaced (omega arith) (omega (arith, less)) low)

    by_test : (place : ℕ) → place < kept → (is_spaced (place + 1) ≡ true) ⊎ (is_spaced (place + 1) ≡ false) → (nat_le (begins_behind counts + 1) (place + 1) ≡ true) ⊎ (nat_le (begins_behind counts + 1) (place + 1) ≡ false)
        → is_named (begins_behind counts + 1) (place + 1) ≡ false
    by_test place few (inr not) above = ap (λ (x : Bool). x && nat_le (begins_behind counts + 1) (place + 1)) not
    by_test place few (inl spaced) (inr below) = and_no (is_spaced (place + 1)) (nat_le (begins_behind counts + 1) (place + 1)) below
    by_test place few (inl spaced) (inl above) =
        absurd (no_more place few spaced (true-le (begins_behind counts + 1) (place + 1) above) (cases_Bool (nat_le least (place + 1))))

-- and fewer than the spacing are left
few_left : (counts : List ℕ) (kept at : ℕ) → at ≤ kept → counts ≡ named_counts (least_named at) kept → plays_behind kept counts < SNAPSHOT_SPACING
few_left counts kept at low are = by_least (cases_Bool (nat_le 1 (least_named kept)))
  where
    by_least : (nat_le 1 (least_named kept) ≡ true) ⊎ (nat_le 1 (least_named kept) ≡ false) → plays_behind kept counts < SNAPSHOT_SPACING
    by_least (inl some) =
        let named = nearest_named (least_named at) kept kept (least-rises at kept low) (true-le 1 (least_named kept) some) (omega arith) in
        omega (arith, behind_among counts named.0 named.1 (least_named kept) (are ∙ named.2), least-near kept)
    by_least (inr none) =
        let zero_is : least_named kept < 1 = grind (arith, nat_tests, none) in omega (arith, zero_is, least-near kept)

-- a table that was played on from those that it is to have still has these
still_its : (kit : Kit) (table : TableState) (counts : List ℕ) → AreItsCounts kit table counts → AreItsCounts kit table (counts_then kit table counts)
still_its kit table counts are =
    let at = kept_at (turn_ends (ends_turn kit) table.commands) table.floor in
    let kept = length table.commands in
    let least = least_named at in
    let low : least ≤ kept = omega (arith, least-below at, kept_at_few kit table.commands table.floor) in
    let least_spaced : is_spaced least ≡ true = (let e : least % SNAPSHOT_SPACING ≡ 0 = omega arith in ap (λ (x : ℕ). x == 0) e) in
    ap (filter (is_between least kept)) (ap (λ (l : List ℕ). counts ++ l) (past_last counts kept least low least_spaced are) ∙ append-nil counts ∙ are)
    ∙ kept_above least least kept (omega arith)

pub few_played : (kit : Kit) (table : TableState) (counts : List ℕ) (plays : ℕ) → AreItsCounts kit table counts → PlaysTable kit table counts plays → plays < SNAPSHOT_SPACING
few_played kit table counts plays are played =
    let once = played.once (still_its kit table counts are) in
    omega (arith, once, few_left counts (length table.commands) (kept_at (turn_ends (ends_turn kit) table.commands) table.floor) (kept_at_few kit table.commands table.floor) are)

-- and one that was played on from none has all

filtered : (p q r : ℕ → Bool) (xs : List ℕ) → All (λ (k : ℕ). (q k && p k) ≡ r k) xs → filter p (filter q xs) ≡ filter r xs
filtered p q r [] same = refl
filtered p q r (x ∷ xs) same =
    let P : ℕ → Type 0 = λ k. (q k && p k) ≡ r k in
    step (q x) (p x) (r x) (All-head P x xs same) refl (filtered p q r xs (All-tail P x xs same))
  where
    step : (b c d : Bool) → (b && c) ≡ d → p x ≡ c → filter p (filter q xs) ≡ filter r xs → filter p (cond b (x ∷ filter q xs) (filter q xs)) ≡ cond d (x ∷ filter r xs) (filter r xs)
    step true c d is own rest = (λ i. cond (own i) (x ∷ rest i) (rest i)) ∙ ap (λ (e : Bool). cond e (x ∷ filter r xs) (filter r xs)) is
    step false c d is own rest = rest ∙ ap (λ (e : Bool). cond e (x ∷ filter r xs) (filter r xs)) is

and_true : (a : Bool) → (a && true) ≡ a
and_true true = refl
and_true false = refl

bare_test : (least kept k : ℕ) → 1 ≤ k → k ≤ kept → (is_named 2 k && is_between least kept k) ≡ is_named least k
bare_test least kept k some few = by_test (cases_Bool (is_spaced k))
  where
    by_test : (is_spaced k ≡ true) ⊎ (is_spaced k ≡ false) → (is_named 2 k && is_between least kept k) ≡ is_named least k
    by_test (inr not) = rw (not) refl
    by_test (inl spaced) =
        let whole : k % SNAPSHOT_SPACING ≡ 0 = grind (arith, nat_tests, spaced) in
        let two : 2 ≤ k = omega (arith, whole, some) in
        let low : nat_le 2 k ≡ true = grind (arith, nat_tests, two) in
        let high : nat_le k kept ≡ true = grind (arith, nat_tests, few) in
        rw (spaced, low, high) (and_true (nat_le least k))

bare_counts : (least kept : ℕ) → filter (is_between least kept) (named_counts 2 kept) ≡ named_counts least kept
unfolding numbers_with
bare_counts least kept =
    filtered (is_between least kept) (is_named 2) (is_named least) (range_with_len 1 kept)
    (All-weaker (λ (k : ℕ). (1 ≤ k) × (k < 1 + kept)) (λ (k : ℕ). (is_named 2 k && is_between least kept k) ≡ is_named least k) (λ k is. bare_test least kept k is.0 (omega (arith, is.1))) (range_with_len 1 kept) (range_within 1 kept))

pub bare_played : (kit : Kit) (table : TableState) (plays : ℕ) → PlaysTable kit table [] plays → plays ≡ plays_behind (length table.commands) []
bare_played kit table plays played = played.once (bare_counts (least_kept kit table) (length table.commands))

-- a table that goes on with its floor has its snapshots just where those that were read lead to them
module _ (kit : Kit) (old new : Table) (floor : ℕ) (counts : List ℕ) (old_played : IsPlayed kit old) (new_played : IsPlayed kit new) (commands : (kept_in new).commands ≡ (kept_in old).commands) (floored : (kept_in new).floor ≡ floor)
    (snapshots : new.kept.snapshots ≡ filter (λ (game : Game). is_between (least_named (kept_at old.game.ends floor)) (length old.kept.commands) game.played) old.kept.snapshots)
    (below : floor ≤ turns_in old) (shown : counts_played old.kept.snapshots ≡ with_due counts (length old.kept.commands)) where
  same_ends : old.game.ends ≡ new.game.ends
  same_ends = old_played.played.ends ∙ ap (λ (cs : List Command). turn_ends (ends_turn kit) cs) (sym commands) ∙ sym new_played.played.ends

  resumed_counts : counts_played new.kept.snapshots ≡ counts_then kit (kept_in new) counts
  resumed_counts =
      let f : Game → ℕ = λ game. game.played in
      let least_is : least_named (kept_at old.game.ends floor) ≡ least_kept kit (kept_in new) = λ i. least_named (kept_at ((same_ends ∙ new_played.played.ends) i) (sym floored i)) in
      let long : length old.kept.commands ≡ length new.kept.commands = sym (ap length commands) in
      ap counts_played snapshots
      ∙ map-filter f (is_between (least_named (kept_at old.game.ends floor)) (length old.kept.commands)) old.kept.snapshots
      ∙ (λ i. filter (is_between (least_is i) (long i)) (shown i))
      ∙ ap (λ (n : ℕ). filter (is_between (least_kept kit (kept_in new)) (length new.kept.commands)) (with_due counts n)) long

  own_least : least_named (kept_at new.game.ends new.floor) ≡ least_kept kit (kept_in new)
  own_least = ap (λ (es : List ℕ). least_named (kept_at es new.floor)) new_played.played.ends

  pub resumed_named : HasItsSnapshots new ↔ AreItsCounts kit (kept_in new) (counts_then kit (kept_in new) counts)
  resumed_named = (
    λ named. sym resumed_counts ∙ named.counts ∙ ap (λ (n : ℕ). named_counts n (length new.kept.commands)) own_least,
    λ are. record {
      floored = (let within = ended_within kit old floor old_played below in omega (arith, within, ap length same_ends, floored));
      counts = resumed_counts ∙ are ∙ ap (λ (n : ℕ). named_counts n (length new.kept.commands)) (sym own_least);
    },
  )

-- how many were played for it
pub tells_counted : (entry : TableEntry) (bytes : List ℕ) (state : TableState) → TellsTable entry bytes (entry.name, state) → length state.commands ≡ entry.kept
tells_counted entry bytes state tells = sym (as_many tells.kept.words state.commands tells.kept.spelled) ∙ tells.kept.counted

-- ---- all tables of a directory

module _ (kit : Kit) (counts : ℕ → List ℕ) where
  tables_push : (place : ℕ) (tables : World) (table : List ℕ × TableState) (so_far one : ℕ) → PlaysTables kit counts place tables so_far → PlaysTable kit table.1 (counts (place + length tables)) one
      → PlaysTables kit counts place (tables ++ table ∷ []) (so_far + one)
  tables_push place [] table so_far one none here =
      let at : place + 0 ≡ place = omega arith in
      (one, 0, subst (λ (n : ℕ). PlaysTable kit table.1 (counts n) one) at here, refl, omega (arith, none))
  tables_push place (t ∷ ts) table so_far one before here =
      let at : place + length (t ∷ ts) ≡ place + 1 + length ts = omega arith in
      (before.0, before.1 + one, before.2, tables_push (place + 1) ts table before.1 one before.3 (subst (λ (n : ℕ). PlaysTable kit table.1 (counts n) one) at here), omega (arith, before.4))

-- one table more, where the snapshots show its play and those of the others
module _ (kit : Kit) (shown_entries : List SnapshotEntry) (shown_chains : List HeldChain) where
  abbrev counts : ℕ → List ℕ
  counts place = counts_shown (shown_at place shown_entries shown_chains)

  pub plays_put : (now : Kit) (i : ℕ) (entry : TableEntry) (old new : World) (state : TableState) (so_far one plays : ℕ) → now ≡ kit → Puts entry old state new → length old ≡ i → plays ≡ so_far + one
      → (ShowPlays kit shown_entries shown_chains 0 old → PlaysTables kit counts 0 old so_far)
      → (All (ShowsPlayOf now state.commands) (shown_at i shown_entries shown_chains) → PlaysTable now state (counts i) one)
      → ShowPlays kit shown_entries shown_chains 0 new → PlaysTables kit counts 0 new plays
  plays_put now i entry old new state so_far one plays same puts count sum before here shows =
      let parts = show_last kit shown_entries shown_chains 0 old (entry.name, state) (subst (λ (w : World). ShowPlays kit shown_entries shown_chains 0 w) puts.last shows) in
      let at : 0 + length old ≡ i = omega (arith, count) in
      let shown = subst (λ (n : ℕ). All (ShowsPlayOf kit state.commands) (shown_at n shown_entries shown_chains)) at parts.1 in
      let played = subst (λ (k : Kit). All (ShowsPlayOf k state.commands) (shown_at i shown_entries shown_chains) → PlaysTable k state (counts i) one) same here shown in
      let there = subst (λ (n : ℕ). PlaysTable kit state (counts n) one) (sym at) played in
      subst (λ (w : World). PlaysTables kit counts 0 w plays) (sym puts.last)
      (subst (λ (n : ℕ). PlaysTables kit counts 0 (old ++ (entry.name, state) ∷ []) n) (sym sum) (tables_push kit counts 0 old (entry.name, state) so_far one (before parts.0) there))

-- ---- records

-- a request plays few commands
few_of : (kit : Kit) (table : Option TableState) (request : Request Command) → plays_of kit table request ≤ SNAPSHOT_SPACING
few_of kit None request = omega arith
few_of kit (Some table) (Play command) = omega arith
few_of kit (Some table) (Back k) = omega arith
few_of kit (Some table) (Forget k) = omega arith

module _ (kit : Kit) where
  pub few_record : (old : World) (line : List ℕ) (new : World) (plays : ℕ) → PlaysRecord kit old line new plays → plays ≤ SNAPSHOT_SPACING
  few_record old line new plays played = omega (arith, played.counted, few_of kit (table_named old played.takes.name) played.takes.request)

  pub few_records : (old : World) (lines : List (List ℕ)) (new : World) (plays : ℕ) → PlaysRecords kit old lines new plays → plays ≤ length lines * SNAPSHOT_SPACING
  few_records old [] new plays played = omega (arith, played.1)
  few_records old (line ∷ lines) new plays played =
      omega (arith, played.5, few_record old line played.0 played.1 played.3, few_records played.0 lines new played.2 played.4)

  records_push : (old : World) (lines : List (List ℕ)) (mid : World) (line : List ℕ) (new : World) (so_far one : ℕ) → PlaysRecords kit old lines mid so_far → PlaysRecord kit mid line new one
      → PlaysRecords kit old (lines ++ line ∷ []) new (so_far + one)
  records_push old [] mid line new so_far one none here =
      (new, one, 0, subst (λ (w : World). PlaysRecord kit w line new one) none.0 here, (refl, refl), omega (arith, none.1))
  records_push old (first ∷ lines) mid line new so_far one before here =
      (before.0, before.1, before.2 + one, before.3, records_push before.0 lines mid line new before.2 one before.4 here, omega (arith, before.5))

  pub records_join : (old : World) (lines : List (List ℕ)) (mid : World) (more : List (List ℕ)) (new : World) (first second plays : ℕ) → plays ≡ first + second → PlaysRecords kit old lines mid first → PlaysRecords kit mid more new second
      → PlaysRecords kit old (lines ++ more) new plays
  records_join old [] mid more new first second plays sum none behind =
      let same : second ≡ plays = omega (arith, sum, none.1) in
      subst (λ (n : ℕ). PlaysRecords kit old more new n) same (subst (λ (w : World). PlaysRecords kit w more new second) none.0 behind)
  records_join old (line ∷ lines) mid more new first second plays sum before behind =
      (before.0, before.1, before.2 + second, before.3, records_join before.0 lines mid more new before.2 second (before.2 + second) refl before.4 behind, omega (arith, sum, before.5))

  -- a record more of a list
  pub plays_more : {X : Type 0} (f : X → List ℕ) (xs : List X) (i : ℕ) (d : X) → i < length xs → (now : Kit) → now ≡ kit → (old mid new : World) (bytes : List ℕ) → bytes ≡ f (get_or xs i d) → (so_far one plays : ℕ)
      → plays ≡ so_far + one → PlaysRecords kit old (map f (take i xs)) mid so_far → PlaysRecord now mid bytes new one → PlaysRecords kit old (map f (take (i + 1) xs)) new plays
  plays_more {X} f xs i d within now of_kit old mid new bytes same so_far one plays sum before here =
      let front : map f (take (i + 1) xs) ≡ map f (take i xs) ++ bytes ∷ [] =
      ap (map f) (take_more xs i d within) ∙ map-append f (take i xs) (get_or xs i d ∷ []) ∙ ap (λ (b : List ℕ). map f (take i xs) ++ b ∷ []) (sym same) in
      subst (λ (n : ℕ). PlaysRecords kit old (map f (take (i + 1) xs)) new n) (sym sum)
      (subst (λ (lines : List (List ℕ)). PlaysRecords kit old lines new (so_far + one)) (sym front)
      (records_push old (map f (take i xs)) mid bytes new so_far one before (subst (λ (k : Kit). PlaysRecord k mid bytes new one) of_kit here)))

-- ---- by the directory alone

pick_count : (b : Bool) (n : ℕ) (all : List Shown) (counts : List ℕ) (bytes : List ℕ) → counts_shown all ≡ counts
    → counts_shown (if b then record { kept = n; bytes = bytes } ∷ all else all) ≡ (if b then n ∷ counts else counts)
pick_count true n all counts bytes same = ap (λ (l : List ℕ). n ∷ l) same
pick_count false n all counts bytes same = same

pub counts_same : (entries : List SnapshotEntry) (chains : List HeldChain) (place : ℕ) → length entries ≡ length chains → counts_shown (shown_at place entries chains) ≡ counts_at entries place
counts_same [] chains place same = refl
counts_same (e ∷ es) [] place same = absurd (omega (arith, same))
counts_same (e ∷ es) (c ∷ cs) place same =
    pick_count (e.table == place) e.kept (shown_at place es cs) (counts_at es place) c.text (counts_same es cs place (omega (arith, same)))
