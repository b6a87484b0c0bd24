-- Worlds of commands and worlds in words tell each other.
use Rattle.std.proofs.Common.{◌≡◌, ℕ, List, [], ◌∷◌, map, refl, sym, ◌∙◌}
use Rattle.rr_code.specs.declared.command.Command.{Command}
use Rattle.rr_code.specs.Command.{text}
use Rattle.rr_code.proofs.TextLemmas.{command-unique}
use Rattle.rr_kit.specs.Kits.{KitTexts}
use Rattle.rr_reading.specs.Worlds.World.{Table}
use Rattle.rr_reading.specs.Worlds.World as words
use Rattle.rr_tables.specs.Records.Laws.{HaveOneInWords}
use Rattle.rr_tables.specs.Records.Words.{AreCommands, AreInWords, IsInWords, IsTableInWords, KeepCommands, SpellCommands, in_words, kit_texts, table_in_words}
use Rattle.rr_tables.specs.Records.World.{TableState, World}

-- commands

pub one_of_words : (bytes : List (List ℕ)) (first second : List Command) → SpellCommands bytes first → SpellCommands bytes second → first ≡ second
one_of_words [] [] [] a b = refl
one_of_words [] [] (d ∷ ds) a b = absurd b
one_of_words [] (c ∷ cs) ds a b = absurd a
one_of_words (w ∷ ws) [] ds a b = absurd a
one_of_words (w ∷ ws) (c ∷ cs) [] a b = absurd b
one_of_words (w ∷ ws) (c ∷ cs) (d ∷ ds) a b =
    let here = command-unique c d a.0.command b.0.command (sym a.0.spelled ∙ b.0.spelled) in
    let more = one_of_words ws cs ds a.1 b.1 in
    λ i. here i ∷ more i

one_by_words : (commands : List Command) (first second : List (List ℕ)) → SpellCommands first commands → SpellCommands second commands → first ≡ second
one_by_words [] [] [] a b = refl
one_by_words [] [] (w ∷ ws) a b = absurd b
one_by_words [] (v ∷ vs) ws a b = absurd a
one_by_words (c ∷ cs) [] ws a b = absurd a
one_by_words (c ∷ cs) (v ∷ vs) [] a b = absurd b
one_by_words (c ∷ cs) (v ∷ vs) (w ∷ ws) a b =
    let here = a.0.spelled ∙ sym b.0.spelled in
    let more = one_by_words cs vs ws a.1 b.1 in
    λ i. here i ∷ more i

pub spelled_are_commands : (bytes : List (List ℕ)) (commands : List Command) → SpellCommands bytes commands → AreCommands commands
spelled_are_commands [] [] a = tt
spelled_are_commands [] (c ∷ cs) a = absurd a
spelled_are_commands (w ∷ ws) [] a = absurd a
spelled_are_commands (w ∷ ws) (c ∷ cs) a = (a.0.command, spelled_are_commands ws cs a.1)

pub commands_are_spelled : (commands : List Command) → AreCommands commands → SpellCommands (map text commands) commands
commands_are_spelled [] all = tt
commands_are_spelled (c ∷ cs) all = (record { command = all.0; spelled = refl }, commands_are_spelled cs all.1)

-- tables

one_table : (first second : List ℕ × TableState) (written : Table) → IsTableInWords first written → IsTableInWords second written → first ≡ second
one_table first second written a b =
    let named = sym a.named ∙ b.named in
    let floored = sym a.floored ∙ b.floored in
    let stamped = sym a.stamped ∙ b.stamped in
    let commands = one_of_words written.kept.commands first.1.commands second.1.commands a.spelled b.spelled in
    λ i. (named i, record { commands = commands i; floor = floored i; stamp = stamped i })

one_written : (table : List ℕ × TableState) (first second : Table) → IsTableInWords table first → IsTableInWords table second → first ≡ second
one_written table first second a b =
    let named = a.named ∙ sym b.named in
    let floored = a.floored ∙ sym b.floored in
    let stamped = a.stamped ∙ sym b.stamped in
    let commands = one_by_words table.1.commands first.kept.commands second.kept.commands a.spelled b.spelled in
    λ i. record { name = named i; kept = record { commands = commands i; floor = floored i; stamp = stamped i } }

one_tables : (first second : World) (written : List Table) → AreInWords first written → AreInWords second written → first ≡ second
one_tables [] [] [] a b = refl
one_tables [] [] (w ∷ ws) a b = absurd a
one_tables [] (t ∷ ts) [] a b = absurd b
one_tables [] (t ∷ ts) (w ∷ ws) a b = absurd a
one_tables (s ∷ ss) ts [] a b = absurd a
one_tables (s ∷ ss) [] (w ∷ ws) a b = absurd b
one_tables (s ∷ ss) (t ∷ ts) (w ∷ ws) a b =
    let here = one_table s t w a.0 b.0 in
    let more = one_tables ss ts ws a.1 b.1 in
    λ i. here i ∷ more i

one_writing : (tables : World) (first second : List Table) → AreInWords tables first → AreInWords tables second → first ≡ second
one_writing [] [] [] a b = refl
one_writing [] [] (w ∷ ws) a b = absurd b
one_writing [] (v ∷ vs) ws a b = absurd a
one_writing (t ∷ ts) [] ws a b = absurd a
one_writing (t ∷ ts) (v ∷ vs) [] a b = absurd b
one_writing (t ∷ ts) (v ∷ vs) (w ∷ ws) a b =
    let here = one_written t v w a.0 b.0 in
    let more = one_writing ts vs ws a.1 b.1 in
    λ i. here i ∷ more i

written_keep : (tables : World) (written : List Table) → AreInWords tables written → KeepCommands tables
written_keep [] ws a = tt
written_keep (t ∷ ts) [] a = absurd a
written_keep (t ∷ ts) (w ∷ ws) a = (spelled_are_commands w.kept.commands t.1.commands a.0.spelled, written_keep ts ws a.1)

are_written : (tables : World) → KeepCommands tables → AreInWords tables (map table_in_words tables)
are_written [] all = tt
are_written (t ∷ ts) all = (
  record { named = refl; floored = refl; stamped = refl; spelled = commands_are_spelled t.1.commands all.0 },
  are_written ts all.1,
)

-- worlds

pub one_of_commands : (first second : World) (world : words.World) → IsInWords first world → IsInWords second world → first ≡ second
one_of_commands first second world a b = one_tables first second world.tables a b

pub one_in_words : (tables : World) (first second : words.World) → IsInWords tables first → IsInWords tables second → kit_texts first ≡ kit_texts second → first ≡ second
one_in_words tables first second a b texts =
    let written = one_writing tables first.tables second.tables a b in
    λ i. record {
      chart = (texts i).chart;
      roster = (texts i).roster;
      tiles = (texts i).tiles;
      board = (texts i).board;
      tables = written i;
    }

pub of_form : (tables : World) (world : words.World) → IsInWords tables world → KeepCommands tables
of_form tables world a = written_keep tables world.tables a

pub are_in_words : (texts : KitTexts) (tables : World) → KeepCommands tables → IsInWords tables (in_words texts tables)
are_in_words texts tables all = are_written tables all

pub have_one_in_words : HaveOneInWords
have_one_in_words texts tables all =
    record {
      spelled = are_in_words texts tables all;
      one = λ world a same. one_in_words tables world (in_words texts tables) a (are_in_words texts tables all) same;
    }
