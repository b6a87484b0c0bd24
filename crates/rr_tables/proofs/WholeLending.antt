-- A table that has its snapshots lends all of them: their counts are spaced, so a file may have each.
use Rattle.std.proofs.Common.{◌≡◌, ℕ, ◌+◌, ◌*◌, ◌%◌, zero, suc, ◌<◌, ◌≤◌, Bool, true, false, cond, ◌&&◌, nat_le, nat_lt, List, [], ◌∷◌, length, map, All, if◌then◌else◌, refl, sym, ap, subst, ◌∙◌, arith}
use Rattle.std.specs.List.{filter, range_with_len}
use Rattle.std.proofs.lemmas.Bool.Decides.{nat_tests}
use Rattle.std.proofs.lemmas.List.Elements.{All-head, All-tail}
use Rattle.rr_game.specs.declared.game.Game.{Game}
use Rattle.rr_game.specs.History.GameBytes.{bytes_of}
use Rattle.rr_game.specs.History.Snapshots.{is_named, least_named, named_counts}
use Rattle.rr_reading.specs.declared.dir.directory.TheConstants.{MOST_SNAPSHOT_BYTES}
use Rattle.rr_turns.specs.Counts.{numbers_with}
use Rattle.rr_turns.specs.Ends.{kept_at}
use Rattle.rr_tables.specs.declared.lending.TheConstants.{MOST_LENT}
use Rattle.rr_tables.specs.Lending.{TablesLendTheirSnapshots}
use Rattle.rr_tables.specs.Tables.{can_be_lent, lent_among}

-- spaced counts that rise, each above the last and none above the most
abbrev AreSpaced : ℕ → ℕ → List ℕ → Type 0
AreSpaced most last [] = Unit {0}
AreSpaced most last (n ∷ ns) = (last < n) × (n ≤ most) × (n % 64 ≡ 0) × AreSpaced most n ns

spaced_step : (b : Bool) (most last a : ℕ) (ns : List ℕ) → (b ≡ true → a % 64 ≡ 0) → last < a → a ≤ most → AreSpaced most a ns → AreSpaced most last ns
    → AreSpaced most last (cond b (a ∷ ns) ns)
spaced_step true most last a ns spaced low high more others = (low, high, spaced refl, more)
spaced_step false most last a ns spaced low high more others = others

spaced_test : (a least : ℕ) → is_named least a ≡ true → a % 64 ≡ 0
spaced_test a least is = grind (arith, nat_tests)

all_spaced : (least most last a n : ℕ) → last < a → a + n ≤ most + 1 → AreSpaced most last (filter (is_named least) (range_with_len a n))
all_spaced least most last a zero low high = tt
all_spaced least most last a (suc n) low high =
    spaced_step (is_named least a) most last a (filter (is_named least) (range_with_len (a + 1) n))
    (spaced_test a least) low (omega (arith, high))
    (all_spaced least most a (a + 1) n (omega arith) (omega (arith, high)))
    (all_spaced least most last (a + 1) n (omega (arith, low)) (omega (arith, high)))

named_spaced : (least most : ℕ) → AreSpaced most 0 (named_counts least most)
unfolding numbers_with
named_spaced least most = all_spaced least most 0 1 most (omega arith) (omega arith)

-- a file may have a snapshot that passes each test
four_hold : (a b c d e f g h : ℕ) → a < b → c < d → e ≤ f → g ≤ h → (nat_lt a b && nat_lt c d && nat_le e f && nat_le g h) ≡ true
four_hold a b c d e f g h first second third fourth = grind (arith, nat_tests)

is_lent : (kept count last : ℕ) (game : Game) → count < MOST_LENT → last < game.played → game.played ≤ kept
    → length (bytes_of game) ≤ MOST_SNAPSHOT_BYTES → can_be_lent kept count last game ≡ true
is_lent kept count last game few behind within short =
    four_hold count MOST_LENT last game.played game.played kept (length (bytes_of game)) MOST_SNAPSHOT_BYTES few behind within short

-- behind so many that are lent, of which the last is of at least 64 times as many commands, the others are lent too
all_lent : (kept count last : ℕ) (games : List Game) → kept ≤ 4096 → last % 64 ≡ 0 → 64 * count ≤ last
    → AreSpaced kept last (map (λ (game : Game). game.played) games) → All (λ (game : Game). length (bytes_of game) ≤ MOST_SNAPSHOT_BYTES) games
    → lent_among kept count last games ≡ games
all_lent kept count last [] few spaced behind counts short = refl
all_lent kept count last (game ∷ games) few spaced behind counts short =
    let IsShort : Game → Type 0 = λ g. length (bytes_of g) ≤ MOST_SNAPSHOT_BYTES in
    let next : 64 * (count + 1) ≤ game.played = omega (arith, behind, spaced, counts.0, counts.2) in
    let can = is_lent kept count last game (omega (arith, next, few, counts.1)) counts.0 counts.1 (All-head IsShort game games short) in
    let rest = lent_among kept (count + 1) game.played games in
    let here : lent_among kept count last (game ∷ games) ≡ game ∷ rest =
    ap (λ (b : Bool). if b then game ∷ rest else lent_among kept count last games) can in
    here ∙ ap (λ (gs : List Game). game ∷ gs)
    (all_lent kept (count + 1) game.played games few counts.2 next counts.3 (All-tail IsShort game games short))

pub tables_lend_all : TablesLendTheirSnapshots
tables_lend_all table its few short =
    let kept = length table.kept.commands in
    let counts = subst (λ (ns : List ℕ). AreSpaced kept 0 ns) (sym its.counts) (named_spaced (least_named (kept_at table.game.ends table.floor)) kept) in
    all_lent kept 0 0 table.kept.snapshots few refl (omega arith) counts short
