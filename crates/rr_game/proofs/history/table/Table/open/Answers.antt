use Rattle.std.proofs.Common.{◌≡◌, ◌∙◌, ◌<◌, [], ◌∷◌, length, ap, refl, arith, append-nil, length-append}
use Rattle.rr_game.specs.History.Spelling.{CommandBuffer}
use Rattle.rr_game.proofs.HistoryLemmas.Making.{same_named}
use Rattle.rr_game.proofs.HistoryLemmas.Naming.{open_named}
use Rattle.rr_game.proofs.history.table.Table.open.Goals as goal

pub returns-clause-named : goal.returns-clause-named
returns-clause-named c =
    let ends = c.in_ok-game.game.ends in
    let some : 0 < length ends = omega (arith, ap length c.in_ok-game.ensures.game.ends) in
    let none : c.push.new.self.snapshots ≡ [] =
    c.push.ensures.snapshots ∙ append-nil c.reserve.new.self.snapshots ∙ c.in_ok-reserve.ensures.snapshots
    ∙ ap (λ (b : CommandBuffer). b.snapshots) c.new-kept.ensures in
    let before : length c.reserve.new.self.commands ≡ 0 =
    ap length c.in_ok-reserve.ensures.commands ∙ ap (λ (b : CommandBuffer). length b.commands) c.new-kept.ensures in
    let one : length c.push.new.self.commands ≡ 1 =
    omega (arith, ap length c.push.ensures.commands, length-append c.reserve.new.self.commands (c.in_ok-opening.opening ∷ []), before) in
    same_named c.push.new.self.snapshots [] ends ends 0 0 (length c.push.new.self.commands) 1 none refl refl one (open_named ends some)
