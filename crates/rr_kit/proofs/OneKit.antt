-- Texts spell one kit.
use Rattle.rr_roster.proofs.ChartLemmas.RefusalLemmas.{Spells-unique}
use Rattle.rr_roster.proofs.OneRoster.{one_roster}
use Rattle.rr_tiles.proofs.ManifestLemmas as tiles
use Rattle.rr_kit.proofs.BoardLemmas.RowLemmas as board
use Rattle.rr_kit.specs.Kits.{OneKit}

pub one_kit : OneKit
one_kit texts kit other first second =
    let chart = Spells-unique texts.chart other.chart kit.chart second.chart first.chart in
    let roster = one_roster texts.roster kit.roster other.roster first.roster.spelled second.roster.spelled in
    let supplies = tiles.Spells-unique texts.tiles other.tiles kit.tiles second.tiles first.tiles in
    let plan = board.Spells-once texts.board other.board kit.board second.board first.board in
    λ i. record { roster = roster i; chart = chart i; tiles = supplies i; board = plan i }
