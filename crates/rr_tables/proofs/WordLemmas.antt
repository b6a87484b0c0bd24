-- Tables in memory, in words.
use Rattle.std.proofs.Common.{◌≡◌, ◌≢◌, ℕ, ◌+◌, zero, suc, ◌<◌, ◌≤◌, false, List, [], ◌∷◌, ◌++◌, length, map, take, slice_get, Some, option_map, Result, Ok, Err, IfOk, All, bytes_eq, sym, ap, subst, ◌∙◌, arith}
use Rattle.std.specs.List.{AllByRecursion, IsDistinct}
use Rattle.std.specs.Map.{keys_of}
use Rattle.std.proofs.lemmas.Bool.{false≢true}
use Rattle.std.proofs.lemmas.List.{length-map, length-take, take-map, take_all, take_more}
use Rattle.std.proofs.lemmas.List.Elements.{All-cons, All-nil}
use Rattle.std.proofs.lemmas.Option.{get_or_from_slice_get, slice_get-map, slice_get_within}
use Rattle.std.proofs.lemmas.Map.Keys.{IsDistinct-head, IsDistinct-tail}
use Rattle.std.proofs.lemmas.Slice.Eq.{bytes_eq-Decides}
use Rattle.rr_code.specs.Command.{text}
use Rattle.rr_tables.specs.Records.Words.{table_in_words}
use Rattle.rr_tables.specs.Records.World.{TableState, World}
use Rattle.rr_checkpoint.specs.declared.plan.table.TableTranscript.{TableTranscript}
use Rattle.rr_checkpoint.specs.Plan.Transcript.{table_of, table_with}
use Rattle.rr_reading.specs.Worlds.World.{Table}
use Rattle.rr_tables.specs.Tables.{world_by}

-- names

apart_at : {T : Type 0} (state : T → TableState) (name : List ℕ) (entries : List (List ℕ × T)) (place : ℕ) (table : Table) → AllByRecursion (λ other. bytes_eq name other ≡ false) (keys_of entries)
    → slice_get (map table_in_words (world_by state entries)) place ≡ Some table → bytes_eq name table.name ≡ false
apart_at state name [] place table all at = absurd cc
apart_at state name (x ∷ xs) zero table all at =
    let same : table_in_words (x.0, state x.1) ≡ table = cc in
    subst (λ (t : Table). bytes_eq name t.name ≡ false) same all.0
apart_at state name (x ∷ xs) (suc n) table all at = apart_at state name xs n table all.1 at

differs : (name other : List ℕ) → bytes_eq name other ≡ false → name ≢ other
differs name other apart same = false≢true (sym apart ∙ (bytes_eq-Decides name other).1 same)

-- the tables before a place have other names than the one there
pub own_name : {T : Type 0} (state : T → TableState) (entries : List (List ℕ × T)) (place : ℕ) (table : Table) → IsDistinct bytes_eq (keys_of entries)
    → slice_get (map table_in_words (world_by state entries)) place ≡ Some table → All (λ (other : Table). other.name ≢ table.name) (map table_in_words (take place (world_by state entries)))
own_name state entries zero table own at = All-nil (λ (other : Table). other.name ≢ table.name)
own_name state [] (suc n) table own at = absurd cc
own_name state (x ∷ xs) (suc n) table own at =
    All-cons (λ (other : Table). other.name ≢ table.name) (table_in_words (x.0, state x.1)) (map table_in_words (take n (world_by state xs)))
    (differs x.0 table.name (apart_at state x.0 xs n table (IsDistinct-head bytes_eq x.0 (keys_of xs) own) at))
    (own_name state xs n table (IsDistinct-tail bytes_eq x.0 (keys_of xs) own) at)

-- and there are fewer than there may be
pub few_before : (world : World) (place : ℕ) (tables : List Table) → tables ≡ map table_in_words (take place world) → place < 64 → length tables < 64
few_before world place tables is low =
    let count = ap (λ (ts : List Table). length ts) is in
    omega (arith, count, length-map (take place world) table_in_words, length-take place world, low)

-- tables

-- the tables in words with the one at the next place
pub next_table : (world : World) (place : ℕ) (old new : List Table) (table : Table) → slice_get (map table_in_words world) place ≡ Some table
    → old ≡ map table_in_words (take place world) → new ≡ old ++ table ∷ [] → new ≡ map table_in_words (take (place + 1) world)
next_table world place old new table at so_far grown =
    let all : List Table = map table_in_words world in
    let last : take (place + 1) all ≡ take place all ++ table ∷ [] =
    take_more all place table (slice_get_within all place table at)
    ∙ ap (λ (t : Table). take place all ++ t ∷ []) (get_or_from_slice_get all place table table at) in
    grown ∙ ap (λ (ts : List Table). ts ++ table ∷ []) (so_far ∙ sym (take-map table_in_words place world)) ∙ sym last
    ∙ take-map table_in_words (place + 1) world

-- the tables in words at all places
pub all_tables : (world : World) (place : ℕ) → length world ≤ place → map table_in_words (take place world) ≡ map table_in_words world
all_tables world place past = ap (map table_in_words) (take_all place world past)

-- the table in words at a place
pub written_at : {T : Type 0} (state : T → TableState) (entries : List (List ℕ × T)) (place : ℕ) (e : List ℕ × T) → slice_get entries place ≡ Some e
    → slice_get (map table_in_words (world_by state entries)) place ≡ Some (table_in_words (e.0, state e.1))
written_at {T} state entries place e at =
    let seen : List ℕ × T → List ℕ × TableState = λ x. (x.0, state x.1) in
    slice_get-map table_in_words (world_by state entries) place
    ∙ ap (option_map table_in_words) (slice_get-map seen entries place ∙ ap (option_map seen) at)

-- and of what wrote it
pub ok_at : {E : Type 0} (r : Result TableTranscript E) (tables : List Table) (place : ℕ) (table : Table) → slice_get tables place ≡ Some table
    → IfOk r (λ written. table_of written ≡ table) → IfOk r (λ written. slice_get tables place ≡ Some (table_of written))
ok_at (Ok written) tables place table at is = at ∙ ap (λ (t : Table). Some t) (sym is)
ok_at (Err e) tables place table at is = tt

-- a table that is written with its name, its stamp, its floor and its commands' words
pub written_so : {E : Type 0} (r : Result TableTranscript E) (name : List ℕ) (kept : TableState) (stamp floor : ℕ) (words : List (List ℕ)) → stamp ≡ kept.stamp → floor ≡ kept.floor
    → words ≡ map text kept.commands → IfOk r (λ written. table_of written ≡ table_with name stamp floor words) → IfOk r (λ written. table_of written ≡ table_in_words (name, kept))
written_so {E} r name kept stamp floor words stamps floors spelled is =
    let same : table_with name stamp floor words ≡ table_in_words (name, kept) =
    λ i. record { name = name; kept = record { commands = spelled i; floor = floors i; stamp = stamps i } } in
    let P : Table → Type 0 = λ t. IfOk r (λ written. table_of written ≡ t) in subst P same is
