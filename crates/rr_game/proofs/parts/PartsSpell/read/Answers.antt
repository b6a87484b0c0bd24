use Rattle.std.specs.Prelude.{FitsSigned}
use Rattle.std.specs.Int.{w64}
use Rattle.std.proofs.lemmas.Int.{to_z-of_z}
use Rattle.rr_game.proofs.ReadingLemmas.{all_read, none_counts, none_layout, none_players, none_views}
use Rattle.rr_game.proofs.parts.PartsSpell.read.Goals as goal

pub returns-in_err-players : goal.returns-in_err-players
returns-in_err-players c = rw c.from_residual.ensures (none_players c.args.cursor.now c.in_err-players.ensures)

pub returns-in_err-views : goal.returns-in_err-views
returns-in_err-views c = rw c.from_residual-in_err-views.ensures (none_views c.in_ok-players.players c.args.cursor.now c.read.new.cursor c.in_ok-players.ensures c.in_err-views.ensures)

pub returns-in_err-layout : goal.returns-in_err-layout
returns-in_err-layout c =
    rw c.from_residual-in_err-layout.ensures
    (none_layout c.in_ok-players.players c.in_ok-views.views c.args.cursor.now c.read.new.cursor c.read-2.new.cursor c.in_ok-players.ensures c.in_ok-views.ensures c.in_err-layout.ensures)

pub returns-in_err-counts : goal.returns-in_err-counts
returns-in_err-counts c =
    rw c.from_residual-in_err-counts.ensures
    (none_counts c.in_ok-players.players c.in_ok-views.views c.in_ok-layout.layout c.args.cursor.now c.read.new.cursor c.read-2.new.cursor c.read-3.new.cursor
    c.in_ok-players.ensures c.in_ok-views.ensures c.in_ok-layout.ensures c.in_err-counts.ensures)

pub returns : goal.returns
returns c =
    let fits : FitsSigned w64 c.in_ok-counts.counts.1.0 = c.in_ok-counts.ensures.0.1.0 in
    let read = all_read c.in_ok-players.players c.in_ok-views.views c.in_ok-layout.layout c.in_ok-counts.counts c.args.cursor.now c.read.new.cursor c.read-2.new.cursor c.read-3.new.cursor c.read-4.new.cursor
    c.in_ok-players.ensures c.in_ok-views.ensures c.in_ok-layout.ensures c.in_ok-counts.ensures in
    simp to_z-of_z read
