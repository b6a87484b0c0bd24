use Rattle.std.proofs.Common.{sym, subst}
use Rattle.rr_game.specs.declared.history.table.Table.{Table}
use Rattle.rr_game.specs.History.Changing.{IsChangeBy}
use Rattle.rr_game.specs.History.Tables.{HasItsSnapshots, IsPlayed, ShowsBy, kept_in}
use Rattle.rr_tables.proofs.taking.make.Goals as goal

pub returns-clause-played : goal.returns-clause-played
returns-clause-played c = λ kit request before by.
    let Played : Table → Type 0 = λ t. IsPlayed kit t in
    let By : Table → Type 0 = λ t. IsChangeBy kit (kept_in t) request c.args.change in
    let same = sym c.deref_mut.ensures.value in
    c.take.ensures.played kit request (subst Played same before) (subst By same by)

pub returns-clause-snapshots : goal.returns-clause-snapshots
returns-clause-snapshots c = λ kit request before by shows has.
    let Played : Table → Type 0 = λ t. IsPlayed kit t in
    let By : Table → Type 0 = λ t. IsChangeBy kit (kept_in t) request c.args.change in
    let Shows : Table → Type 0 = λ t. ShowsBy t request c.args.change in
    let same = sym c.deref_mut.ensures.value in
    c.take.ensures.named kit request (subst Played same before) (subst By same by) (subst Shows same shows) (subst HasItsSnapshots same has)
