-- The bytes of a table's kept commands.
use Rattle.std.proofs.Common.{◌≡◌, ℕ, ◌*◌, ◌^◌, ◌<◌, ◌≤◌, List, [], ◌∷◌, length, sym, ◌∙◌, ap, subst, arith, length-append}
use Rattle.std.specs.List.{flat_map, All}
use Rattle.std.specs.Vec.{vec_len}
use Rattle.std.proofs.lemmas.List.Elements.{All-head, All-tail}
use Rattle.rr_turns.specs.Words as words
use Rattle.rr_turns.specs.Words.{spelled_commands}
use Rattle.rr_turns.proofs.WordsLemmas.{short-is, spelled_commands-is}
use Rattle.rr_reading.specs.Dir.Kept.{IsShort, SpellsKept, spelled_command, first_commands}
use Rattle.rr_words.specs.Spelling.Number.{spelled_number}
use Rattle.rr_reading.proofs.DirLemmas.KeptLemmas.{kept-first, length-first_commands}
use Rattle.rr_words.proofs.SpellingLemmas.NumberLemmas.{length-spelled_number}
use Rattle.rr_checkpoint.specs.declared.plan.table.TableTranscript.{TableTranscript}
use Rattle.rr_checkpoint.specs.Plan.Transcript.{commands_of, table_of}
use Rattle.rr_reading.specs.Worlds.World.{text_for}

-- the words of kept commands, as a chain's reader takes them
of_chain : (commands : List (List ℕ)) → spelled_commands commands ≡ flat_map spelled_command commands
unfolding spelled_number
of_chain commands = spelled_commands-is commands

spells_kept : (bytes : List ℕ) (commands : List (List ℕ)) → All words.IsShort commands → bytes ≡ spelled_commands commands → SpellsKept bytes commands
spells_kept bytes commands short is = record { short = short-is commands short; spelled = is ∙ of_chain commands }

pub same_commands : (bytes : List ℕ) (commands : List (List ℕ)) (count : ℕ) → All words.IsShort commands → bytes ≡ spelled_commands commands → count ≡ length commands
    → first_commands count bytes ≡ commands
same_commands bytes commands count short is all = kept-first bytes commands count (spells_kept bytes commands short is) (sym all)

pub spells_them : (bytes : List ℕ) (commands : List (List ℕ)) (count : ℕ) → All words.IsShort commands → bytes ≡ spelled_commands commands → count ≡ length commands
    → SpellsKept bytes (first_commands count bytes)
spells_them bytes commands count short is all =
    subst (SpellsKept bytes) (sym (same_commands bytes commands count short is all)) (spells_kept bytes commands short is)

-- bytes of commands that aren't many are few
pub spelled_few : (commands : List (List ℕ)) → All IsShort commands → length (flat_map spelled_command commands) ≤ 65537 * length commands
spelled_few [] short = omega arith
spelled_few (words ∷ commands) short =
    let first : length words < 2 ^ 16 = All-head IsShort words commands short in
    let rest = spelled_few commands (All-tail IsShort words commands short) in
    omega (arith, first, rest, length-append (spelled_command words) (flat_map spelled_command commands), length-append (spelled_number 2 (length words)) words, length-spelled_number 2 (length words))

-- the bytes of a table's chain are its text, and few enough
pub bytes_counted : (part : TableTranscript) → vec_len part.bytes ≡ length (text_for (table_of part))
bytes_counted part =
    let counted : vec_len part.bytes ≡ length part.bytes.items = omega (arith, part.bytes.ok) in
    counted ∙ ap (λ (bytes : List ℕ). length bytes) part.spelled.spelled

pub bytes_fit : (part : TableTranscript) → vec_len part.bytes < 2 ^ 32
bytes_fit part =
    omega (arith, bytes_counted part, spelled_few (commands_of part) part.spelled.short, length-first_commands part.kept part.bytes.items, part.few_kept)
