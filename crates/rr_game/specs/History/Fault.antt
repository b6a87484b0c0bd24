-- The refusals of a game as refusals of its table.
use Rattle.rr_books.specs.declared.refusal.Refusal.{Refusal}
use Rattle.rr_books.specs.declared.refusal.Refusal.TheVariants as G
use Rattle.rr_game.specs.declared.history.fault.Fault.{Fault}
use Rattle.rr_game.specs.declared.history.fault.Fault.TheVariants as F

abbrev pub of_game : Refusal → Fault
of_game G.OutOfMemory = F.OutOfMemory
of_game fault = F.Game fault
