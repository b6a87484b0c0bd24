use Rattle.std.proofs.Common.{ℕ, List, Result, Ok, Err, IfOk}
use Rattle.rr_code.specs.Command.{SpellsCommand}
use Rattle.rr_code.specs.declared.command.Command.TheVariants.{Open}
use Rattle.rr_game.specs.declared.history.table.Table.{Table}
use Rattle.rr_kit.specs.declared.kit.Kit.{Kit}
use Rattle.rr_store.specs.declared.recovery.fault.Fault.{Fault}
use Rattle.rr_store.specs.Recovery.Kept.{IsBegunBy}
use Rattle.rr_store.proofs.recovery.playing.begin.Goals as goal

begun_there : (kit : Kit) (words : List ℕ) (players : List (List ℕ)) (opened : Result Table Fault) → SpellsCommand words (Open players)
    → IfOk opened (λ table. (there : List ℕ) → SpellsCommand there (Open players) → IsBegunBy kit there table) → IfOk opened (λ table. IsBegunBy kit words table)
begun_there kit words players (Ok table) spells begun = begun words spells
begun_there kit words players (Err fault) spells begun = tt

pub returns-in-Some-clause-begun : goal.returns-in-Some-clause-begun
returns-in-Some-clause-begun c = begun_there c.args.kit.now c.args.words.now c.in-Some.players c.open.result c.in-Some.ensures c.open.ensures.begun
