-- A command is read from its own text.
use Rattle.std.proofs.Common.{◌≡◌, ℕ, Bool, List, [], Result, Ok, Err, IsTrue, is_ok, sym, ap, subst}
use Rattle.std.specs.Prelude.{MatchResult, unwrap_or, Option}
use Rattle.rr_code.specs.Command.{IsCommand, SpellsCommand, text}
use Rattle.rr_code.specs.declared.command.Command.{Command}
use Rattle.rr_code.specs.declared.command.Command.TheVariants.{Done}
use Rattle.rr_code.specs.declared.fault.Fault.{Fault}
use Rattle.rr_code.specs.declared.fault.Fault.TheVariants.{Malformed}
use Rattle.rr_code.proofs.TextLemmas.{read_words-text}
use Rattle.rr_game.specs.History.Spelling.{command_in}

pub read-text : (bytes : List ℕ) (c : Command) → IsCommand c → bytes ≡ text c → command_in bytes ≡ c
read-text bytes c form same =
    ap (λ (r : Option Command). unwrap_or r (Done [])) (read_words-text bytes c (record { command = form; spelled = same }))

pub spells-text : (bytes : List ℕ) (c : Command) → IsCommand c → bytes ≡ text c → SpellsCommand bytes (command_in bytes)
spells-text bytes c form same =
    let P : Command → Type 0 = λ d. SpellsCommand bytes d in
    subst P (sym (read-text bytes c form same)) (record { command = form; spelled = same })

-- words that are read as a command are its text
pub spells-read : (bytes : List ℕ) (read : Result Command Fault) (is_read : Bool) → MatchResult read (λ c. SpellsCommand bytes c) (λ fault. fault ≡ Malformed) → is_read ≡ is_ok read → IsTrue is_read
    → SpellsCommand bytes (command_in bytes)
spells-read bytes (Ok c) is_read spelled same is = spells-text bytes c spelled.command spelled.spelled
spells-read bytes (Err fault) is_read none same is = absurd cc
