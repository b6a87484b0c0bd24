use Rattle.std.proofs.Common.{◌≡◌, ℕ, List, Bool, true, Result, Ok, Err, MatchResult, sym, ◌∙◌}
use Rattle.std.specs.Result.{is_ok}
use Rattle.rr_code.specs.Command.{SpellsCommand}
use Rattle.rr_code.specs.declared.command.Command.{Command}
use Rattle.rr_code.specs.declared.fault.Fault.{Fault}
use Rattle.rr_code.specs.declared.fault.Fault.TheVariants.{Malformed}
use Rattle.rr_store.proofs.recovery.words.spells_command.Goals as goal

read_tells : (words : List ℕ) (read : Result Command Fault) (ok : Bool) → MatchResult read (λ command. SpellsCommand words command) (λ fault. fault ≡ Malformed)
    → ((command : Command) → SpellsCommand words command → read ≡ Ok command) → ok ≡ is_ok read → (ok ≡ true → (command : Command) × SpellsCommand words command) × ((command : Command) × SpellsCommand words command → ok ≡ true)
read_tells words (Ok command) ok found only same = (λ h. (command, found), λ h. same)
read_tells words (Err fault) ok found only same = (λ h. absurd (cc (sym same ∙ h)), λ spelled. absurd (cc (only spelled.0 spelled.1)))

pub returns : goal.returns
returns c = read_tells c.args.words.now c.read.result c.is_ok.result c.read.ensures.found c.read.ensures.only c.is_ok.ensures.value
