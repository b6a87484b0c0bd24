-- What tables that were played lend to a checkpoint is of their world.
use Rattle.std.proofs.Common.{◌≡◌, ℕ, ◌+◌, zero, suc, ◌≤◌, List, [], ◌∷◌, ◌++◌, append_assoc, length, map, take, slice_get, Some, All, refl, sym, ap, subst, ◌∙◌, arith}
use Rattle.std.proofs.Math.Logic.{∥∥₁_map}
use Rattle.std.specs.Cmp.Lexicographic.{nat_list_eq_equiv}
use Rattle.std.specs.Global.{Box}
use Rattle.std.specs.Map.{values_of}
use Rattle.std.proofs.lemmas.List.{length-append, length-map, length-take-le, take-map}
use Rattle.std.proofs.lemmas.List.Elements.{All-append, All-head, All-map, All-nil, All-tail}
use Rattle.std.proofs.lemmas.Map.Views.{All-values_from_lookup}
use Rattle.rr_code.specs.declared.command.Command.{Command}
use Rattle.rr_code.specs.Command.{text}
use Rattle.rr_game.specs.declared.game.Game.{Game}
use Rattle.rr_game.specs.declared.history.table.Table.{Table}
use Rattle.rr_game.specs.History.GameBytes.{bytes_of}
use Rattle.rr_game.specs.History.Playing.{ArePlayed, IsLawfulAfter, IsPlayOf}
use Rattle.rr_game.specs.History.Snapshots.{IsShown as IsShownOf}
use Rattle.rr_game.specs.History.Tables.{IsPlayed}
use Rattle.rr_kit.specs.declared.kit.Kit.{Kit}
use Rattle.rr_kit.specs.Kits.{SpellsKit}
use Rattle.rr_kit.proofs.OneKit.{one_kit}
use Rattle.rr_reading.specs.Worlds.World.{IsShown, Snapshot}
use Rattle.rr_reading.specs.Worlds.World as words
use Rattle.rr_turns.specs.Turns.{AreLawful}
use Rattle.rr_tables.specs.Lending.{PlayedTablesAreLent}
use Rattle.rr_tables.specs.Records.Taking.{Shows, table_rules}
use Rattle.rr_tables.specs.Records.Words.{AreCommands, KeepCommands, SpellCommands, in_words, kit_texts, table_in_words}
use Rattle.rr_tables.specs.Tables.{kept_in_box, lent_games, lent_snapshots, snapshot_at, world_by}
use Rattle.rr_tables.proofs.LendingLemmas.{CanBeLent, all_among, in_box, lent_at}
use Rattle.rr_tables.proofs.RecordLemmas.WordLemmas.{commands_are_spelled, one_of_words}

-- the first of lawful commands

take_lawful : (IsLawful : List Command → Command → Type 0) (before : List Command) (count : ℕ) (commands : List Command)
    → AreLawful IsLawful before commands → AreLawful IsLawful before (take count commands)
take_lawful IsLawful before zero commands all = tt
take_lawful IsLawful before (suc count) [] all = tt
take_lawful IsLawful before (suc count) (c ∷ commands) all = (all.0, take_lawful IsLawful (before ++ c ∷ []) count commands all.1)

take_played : (kit : Kit) (count : ℕ) (commands : List Command) → 1 ≤ count → ArePlayed kit commands → ArePlayed kit (take count commands)
take_played kit zero commands some played = absurd (omega (arith, some))
take_played kit (suc count) [] some played = absurd played
take_played kit (suc count) (opening ∷ others) some played =
    (played.0, take_lawful (IsLawfulAfter kit) (opening ∷ []) count others played.1)

take_commands : (count : ℕ) (commands : List Command) → AreCommands commands → AreCommands (take count commands)
take_commands zero commands all = tt
take_commands (suc count) [] all = tt
take_commands (suc count) (c ∷ commands) all = (all.0, take_commands count commands all.1)

-- what is lent

module _ (world : words.World) (kit : Kit) (right : SpellsKit (kit_texts world) kit) where
  -- the words of the first commands are those of these commands alone
  first_spelled : (count : ℕ) (commands others : List Command) → AreCommands commands
      → SpellCommands (take count (map text commands)) others → take count commands ≡ others
  first_spelled count commands others all spelled =
      let first = take count commands in
      let same = take-map text count commands in
      one_of_words (map text first) first others (commands_are_spelled first (take_commands count commands all))
      (subst (λ (written : List (List ℕ)). SpellCommands written others) same spelled)

  -- the bytes of a snapshot show its game
  shows : (commands : List Command) (game : Game) → AreCommands commands → ∥ ArePlayed kit commands ∥₁ → IsShownOf kit commands game → 1 ≤ game.played
      → Shows world (take game.played (map text commands)) (bytes_of game)
  shows commands game all lawful shown some =
      let first = take game.played commands in
      let count : length (take game.played (map text commands)) ≡ game.played =
      length-take-le game.played (map text commands) (omega (arith, shown.within, length-map commands text)) in
      let one : IsPlayOf kit first game =
      record { lawful = ∥∥₁_map lawful (λ played. take_played kit game.played commands some played); played = shown.stands } in
      record {
        game = game;
        spelled = record {
          sound = shown.spelled.sound;
          fits = shown.spelled.fits;
          spelled = shown.spelled.spelled;
          counted = count;
        };
        played = λ other others spells written.
            let kits = one_kit (kit_texts world) kit other right spells in
            let same = first_spelled game.played commands others all written in
            subst (λ (k : Kit). IsPlayOf k others game) kits (subst (λ (cs : List Command). IsPlayOf kit cs game) same one);
      }

  -- a snapshot shows a game of the world
  abbrev IsOfWorld : Snapshot → Type 0
  IsOfWorld snapshot = IsShown table_rules world snapshot.table snapshot.kept snapshot.bytes

  -- each that is lent of a table does
  table_shown : (place : ℕ) (name : List ℕ) (table : Box Table) → slice_get world.tables place ≡ Some (table_in_words (name, kept_in_box table))
      → AreCommands table.value.kept.commands → IsPlayed kit table.value → All IsOfWorld (lent_at place table.value)
  table_shown place name table there all played =
      let commands = table.value.kept.commands in
      let Is : Game → Type 0 = IsShownOf kit commands in
      let Shown : Game → Type 0 = λ game. IsOfWorld (snapshot_at place game) in
      let one : (game : Game) (count last : ℕ) → CanBeLent (length commands) count last game → Is game → Shown game = λ game count last lent shown. record {
        table = table_in_words (name, kept_in_box table);
        of_table = there;
        shown = shows commands game all played.lawful shown (omega (arith, lent.behind));
      } in
      All-map IsOfWorld (snapshot_at place) (lent_games table.value)
      (all_among Is Shown (length commands) one 0 0 table.value.kept.snapshots played.snapshots)

  -- those of the tables behind a front of the world's tables do
  all_shown : (front : List words.Table) (entries : List (List ℕ × Box Table)) → world.tables ≡ front ++ map table_in_words (world_by kept_in_box entries)
      → KeepCommands (world_by kept_in_box entries) → All (λ (t : Box Table). IsPlayed kit t.value) (values_of entries)
      → All IsOfWorld (lent_snapshots (length front) (map in_box entries))
  all_shown front [] is keep played = All-nil IsOfWorld
  all_shown front (e ∷ es) is keep played =
      let written = table_in_words (e.0, kept_in_box e.1) in
      let rest = map table_in_words (world_by kept_in_box es) in
      let there : slice_get world.tables (length front) ≡ Some written =
      ap (λ (ts : List words.Table). slice_get ts (length front)) is ∙ at_front front written rest in
      let here = table_shown (length front) e.0 e.1 there keep.0 (All-head (λ (t : Box Table). IsPlayed kit t.value) e.1 (values_of es) played) in
      let more = all_shown (front ++ written ∷ []) es (is ∙ sym (append_assoc front (written ∷ []) rest)) keep.1
      (All-tail (λ (t : Box Table). IsPlayed kit t.value) e.1 (values_of es) played) in
      All-append IsOfWorld (lent_at (length front) e.1.value) (lent_snapshots (length front + 1) (map in_box es)) here
      (subst (λ (n : ℕ). All IsOfWorld (lent_snapshots n (map in_box es)))
      (length-append front (written ∷ [])) more)
    where
      at_front : (front : List words.Table) (table : words.Table) (rest : List words.Table) → slice_get (front ++ table ∷ rest) (length front) ≡ Some table
      at_front [] table rest = refl
      at_front (t ∷ ts) table rest = at_front ts table rest

pub played_are_lent : PlayedTablesAreLent
played_are_lent texts tables right keep played =
    let entries = tables.map.entries in
    let each = All-values_from_lookup nat_list_eq_equiv (λ (t : Box Table). IsPlayed tables.kit t.value) entries tables.own_names played in
    record {
      tables = refl;
      shown = all_shown (in_words texts (world_by kept_in_box entries)) tables.kit right [] entries refl keep each;
    }
