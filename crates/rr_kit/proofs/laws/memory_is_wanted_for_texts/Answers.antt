use Rattle.rr_kit.proofs.KitLemmas.{board_memory, chart_memory, manifest_memory, roster_memory}
use Rattle.rr_kit.proofs.laws.memory_is_wanted_for_texts.Goals as goal

pub returns-clause-chart : goal.returns-clause-chart
returns-clause-chart c = chart_memory

pub returns-clause-roster : goal.returns-clause-roster
returns-clause-roster c = roster_memory

pub returns-clause-tiles : goal.returns-clause-tiles
returns-clause-tiles c = manifest_memory

pub returns-clause-board : goal.returns-clause-board
returns-clause-board c = board_memory
