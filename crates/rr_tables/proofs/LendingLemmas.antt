-- The snapshots of tables that are lent.
use Rattle.std.proofs.Common.{◌≡◌, ℕ, ◌+◌, ◌*◌, zero, suc, ◌<◌, ◌≤◌, Bool, true, false, cond, ◌&&◌, nat_le, nat_lt, List, [], ◌∷◌, ◌++◌, append-nil, append_assoc, length, map, take, slice_get, Some, bytes_eq, option_map, if◌then◌else◌, refl, sym, ap, subst, ◌∙◌, arith}
use Rattle.std.specs.Global.{Box}
use Rattle.std.specs.List.{All}
use Rattle.std.specs.Map.{lookup, set_value}
use Rattle.std.proofs.lemmas.Bool.Decides.{nat_tests}
use Rattle.std.proofs.lemmas.List.{length-append, length-map, length-take-le, take_more}
use Rattle.std.proofs.lemmas.List.Elements.{All-append, All-cons, All-head, All-map, All-nil, All-tail}
use Rattle.std.proofs.lemmas.Option.{get_or_from_slice_get, slice_get-map, slice_get_within}
use Rattle.rr_code.specs.declared.command.Command.{Command}
use Rattle.rr_code.specs.Command.{text}
use Rattle.rr_game.specs.declared.game.Game.{Game}
use Rattle.rr_game.specs.declared.history.table.Table.{Table}
use Rattle.rr_game.specs.History.GameBytes.{bytes_of}
use Rattle.rr_game.specs.History.Tables.{kept_in}
use Rattle.rr_reading.specs.declared.dir.directory.TheConstants.{MOST_SNAPSHOT_BYTES}
use Rattle.rr_reading.specs.Worlds.World.{Snapshot}
use Rattle.rr_turns.specs.Kept.{Kept}
use Rattle.rr_tables.specs.declared.lending.TheConstants.{MOST_LENT}
use Rattle.rr_tables.specs.Lending.{KeepsAt}
use Rattle.rr_tables.specs.Records.Words.{table_in_words}
use Rattle.rr_tables.specs.Tables.{can_be_lent, kept_in_box, lent_among, lent_games, lent_snapshots, snapshot_at, world_by}

-- one snapshot

-- a file may have it of a table that keeps so many commands, behind so many others, of which the last is of so many
pub record CanBeLent (kept count last : ℕ) (game : Game) : Type 0 where
  pub few : count < MOST_LENT
  pub behind : last < game.played
  pub within : game.played ≤ kept
  pub short : length (bytes_of game) ≤ MOST_SNAPSHOT_BYTES

four_tests : (a b c d e f g h : ℕ) → (nat_lt a b && nat_lt c d && nat_le e f && nat_le g h) ≡ true → (a < b) × (c < d) × (e ≤ f) × (g ≤ h)
four_tests a b c d e f g h is = (grind (arith, nat_tests), grind (arith, nat_tests), grind (arith, nat_tests), grind (arith, nat_tests))

pub can_be : (kept count last : ℕ) (game : Game) → can_be_lent kept count last game ≡ true → CanBeLent kept count last game
can_be kept count last game is =
    let tests = four_tests count MOST_LENT last game.played game.played kept (length (bytes_of game)) MOST_SNAPSHOT_BYTES is in
    record { few = tests.0; behind = tests.1; within = tests.2; short = tests.3 }

-- one table

-- what holds of each of its snapshots that are lent
module _ (P Q : Game → Type 0) (kept : ℕ) (holds : (game : Game) (count last : ℕ) → CanBeLent kept count last game → P game → Q game) where
  among_step : (b : Bool) (game : Game) (taken passed : List Game) → (b ≡ true → Q game) → All Q taken → All Q passed
      → All Q (if b then game ∷ taken else passed)
  among_step true game taken passed here more others = All-cons Q game taken (here refl) more
  among_step false game taken passed here more others = others

  pub all_among : (count last : ℕ) (games : List Game) → All P games → All Q (lent_among kept count last games)
  all_among count last [] all = All-nil Q
  all_among count last (game ∷ games) all =
      let others = All-tail P game games all in
      among_step (can_be_lent kept count last game) game (lent_among kept (count + 1) game.played games) (lent_among kept count last games)
      (λ is. holds game count last (can_be kept count last game is) (All-head P game games all))
      (all_among (count + 1) game.played games others) (all_among count last games others)

few_step : (b : Bool) (count : ℕ) (game : Game) (taken passed : List Game) → (b ≡ true → count + 1 + length taken ≤ MOST_LENT) → count + length passed ≤ MOST_LENT
    → count + length (if b then game ∷ taken else passed) ≤ MOST_LENT
few_step true count game taken passed more others = omega (arith, more refl)
few_step false count game taken passed more others = others

-- they are few
few_among : (kept count last : ℕ) (games : List Game) → count ≤ MOST_LENT → count + length (lent_among kept count last games) ≤ MOST_LENT
few_among kept count last [] few = omega (arith, few)
few_among kept count last (game ∷ games) few =
    few_step (can_be_lent kept count last game) count game (lent_among kept (count + 1) game.played games) (lent_among kept count last games)
    (λ is. few_among kept (count + 1) game.played games (omega (arith, (can_be kept count last game is).few)))
    (few_among kept count last games few)

-- a table that keeps the same commands and snapshots lends the same
pub lent_games_same : (old new : Table) → kept_in new ≡ kept_in old → new.kept.snapshots ≡ old.kept.snapshots → lent_games new ≡ lent_games old
lent_games_same old new kept snapshots =
    let count = ap (λ (k : Kept Command). length k.commands) kept in
    (λ i. lent_among (count i) 0 0 (snapshots i))

-- while they are lent

-- a snapshot of no later table and, where it is of this one, of no more than so many commands
abbrev IsUpTo : ℕ → ℕ → Snapshot → Type 0
IsUpTo place last snapshot = (snapshot.table ≤ place) × (snapshot.table ≡ place → snapshot.kept ≤ last)

-- Behind the first snapshots stand so many of the table at the place, of which the last is of so many commands; and with
-- those that are lent of the ones that are left they are all.
pub record IsLending (place kept : ℕ) (all left : List Game) (first now : List Snapshot) (count last : ℕ) : Type 0 where
  pub goes_on : now ++ map (snapshot_at place) (lent_among kept count last left) ≡ first ++ map (snapshot_at place) (lent_among kept 0 0 all)
  pub before : All (IsUpTo place last) now
  pub counted : length now ≡ length first + count
  pub few : count ≤ MOST_LENT

-- one more that is lent
pub lending_more : (place kept : ℕ) (all left rest : List Game) (first now new : List Snapshot) (count last : ℕ) (game : Game) → can_be_lent kept count last game ≡ true
    → left ≡ game ∷ rest → new ≡ now ++ snapshot_at place game ∷ [] → IsLending place kept all left first now count last
    → IsLending place kept all rest first new (count + 1) game.played
lending_more place kept all left rest first now new count last game is next grown lending =
    let can = can_be kept count last game is in
    let of_place = snapshot_at place in
    let others = lent_among kept (count + 1) game.played rest in
    let here : lent_among kept count last left ≡ game ∷ others =
    ap (lent_among kept count last) next ∙ ap (λ (b : Bool). if b then game ∷ others else lent_among kept count last rest) is in
    let P : Snapshot → Type 0 = IsUpTo place game.played in
    let old : All P now = λ k d within.
    let so_far = lending.before k d within in
    (so_far.0, λ same. omega (arith, so_far.1 same, can.behind)) in
    let last_one : All P (of_place game ∷ []) = All-cons P (of_place game) [] (omega arith, λ same. omega arith) (All-nil P) in
    record {
      goes_on =
          ap (λ (ss : List Snapshot). ss ++ map of_place others) grown ∙ append_assoc now (of_place game ∷ []) (map of_place others)
          ∙ ap (λ (games : List Game). now ++ map of_place games) (sym here) ∙ lending.goes_on;
      before = subst (λ (ss : List Snapshot). All P ss) (sym grown) (All-append P now (of_place game ∷ []) old last_one);
      counted = omega (arith, ap (λ (ss : List Snapshot). length ss) grown, length-append now (of_place game ∷ []), lending.counted);
      few = omega (arith, can.few);
    }

-- the tables in turn

abbrev pub in_box : {A : Type 0} → A × Box Table → Table
in_box e = e.1.value

-- what is lent of the table at this place
abbrev pub lent_at : ℕ → Table → List Snapshot
lent_at place table = map (snapshot_at place) (lent_games table)

-- a table in place of one that lends the same
set_step : (b : Bool) (place : ℕ) (e : List ℕ × Box Table) (es : List (List ℕ × Box Table)) (t w : Box Table) (name : List ℕ) → lent_games w.value ≡ lent_games t.value
    → cond b (Some e.1) (lookup (bytes_eq name) es) ≡ Some t
    → (lookup (bytes_eq name) es ≡ Some t → lent_snapshots (place + 1) (map in_box (set_value (bytes_eq name) es w)) ≡ lent_snapshots (place + 1) (map in_box es))
    → lent_snapshots place (map in_box (cond b ((e.0, w) ∷ es) (e ∷ set_value (bytes_eq name) es w)))
    ≡ lent_at place e.1.value ++ lent_snapshots (place + 1) (map in_box es)
set_step true place e es t w name same found more =
    let here : t ≡ e.1 = cc in
    ap (λ (games : List Game). map (snapshot_at place) games ++ lent_snapshots (place + 1) (map in_box es)) (same ∙ ap (λ (b : Box Table). lent_games b.value) here)
set_step false place e es t w name same found more = ap (λ (l : List Snapshot). lent_at place e.1.value ++ l) (more found)

pub lent_set : (place : ℕ) (name : List ℕ) (entries : List (List ℕ × Box Table)) (t w : Box Table) → lent_games w.value ≡ lent_games t.value
    → lookup (bytes_eq name) entries ≡ Some t
    → lent_snapshots place (map in_box (set_value (bytes_eq name) entries w)) ≡ lent_snapshots place (map in_box entries)
lent_set place name [] t w same found = absurd cc
lent_set place name (e ∷ es) t w same found =
    set_step (bytes_eq name e.0) place e es t w name same found (lent_set (place + 1) name es t w same)

-- one table more

lent_push : (first : ℕ) (tables : List Table) (table : Table)
    → lent_snapshots first (tables ++ table ∷ []) ≡ lent_snapshots first tables ++ lent_at (first + length tables) table
lent_push first [] table = append-nil (lent_at first table) ∙ ap (λ n. lent_at n table) (omega arith)
lent_push first (t ∷ ts) table =
    let here = lent_at first t in
    let rest = lent_snapshots (first + 1) ts in
    let count : first + 1 + length ts ≡ first + length (t ∷ ts) = omega arith in
    ap (λ (l : List Snapshot). here ++ l) (lent_push (first + 1) ts table ∙ ap (λ n. rest ++ lent_at n table) count)
    ∙ sym (append_assoc here rest (lent_at (first + length (t ∷ ts)) table))

pub lent_next : (tables : List Table) (place : ℕ) (table : Table) → slice_get tables place ≡ Some table
    → lent_snapshots 0 (take (place + 1) tables) ≡ lent_snapshots 0 (take place tables) ++ lent_at place table
lent_next tables place table there =
    let front = take place tables in
    let within = slice_get_within tables place table there in
    let more : take (place + 1) tables ≡ front ++ table ∷ [] =
    take_more tables place table within ∙ ap (λ (t : Table). front ++ t ∷ []) (get_or_from_slice_get tables place table table there) in
    let count : 0 + length front ≡ place = omega (arith, length-take-le place tables (omega (arith, within))) in
    ap (lent_snapshots 0) more ∙ lent_push 0 front table ∙ ap (λ n. lent_snapshots 0 front ++ lent_at n table) count

-- those of the first tables

pub lent_few : (first : ℕ) (tables : List Table) → length (lent_snapshots first tables) ≤ length tables * MOST_LENT
lent_few first [] = omega arith
lent_few first (t ∷ ts) =
    let few = few_among (length t.kept.commands) 0 0 t.kept.snapshots (omega arith) in
    omega (arith, length-append (lent_at first t) (lent_snapshots (first + 1) ts), length-map (lent_games t) (snapshot_at first), few, lent_few (first + 1) ts)

pub lent_below : (place first : ℕ) (tables : List Table) → first + length tables ≤ place
    → All (λ (other : Snapshot). other.table < place) (lent_snapshots first tables)
lent_below place first [] low = All-nil (λ (other : Snapshot). other.table < place)
lent_below place first (t ∷ ts) low =
    let P : Snapshot → Type 0 = λ other. other.table < place in
    All-append P (lent_at first t) (lent_snapshots (first + 1) ts)
    (All-map P (snapshot_at first) (lent_games t) (λ k d within. omega (arith, low)))
    (lent_below place (first + 1) ts (omega (arith, low)))

-- the table at a place, in words
pub keeps_at : (entries : List (List ℕ × Box Table)) (place : ℕ) (table : Table) → slice_get (map in_box entries) place ≡ Some table
    → KeepsAt (map table_in_words (world_by kept_in_box entries)) place (length table.kept.commands)
keeps_at [] place table at = absurd cc
keeps_at (e ∷ es) zero table at =
    let same : e.1.value ≡ table = cc in
    record {
      table = table_in_words (e.0, kept_in_box e.1);
      there = refl;
      counted = length-map e.1.value.kept.commands text ∙ ap (λ (t : Table). length t.kept.commands) same;
    }
keeps_at (e ∷ es) (suc place) table at =
    let others = keeps_at es place table at in
    record { table = others.table; there = others.there; counted = others.counted }

-- the table that a map has at a place
pub boxed_at : (entries : List (List ℕ × Box Table)) (place : ℕ) (e : List ℕ × Box Table) → slice_get entries place ≡ Some e
    → slice_get (map in_box entries) place ≡ Some e.1.value
boxed_at entries place e there = slice_get-map in_box entries place ∙ ap (option_map in_box) there
