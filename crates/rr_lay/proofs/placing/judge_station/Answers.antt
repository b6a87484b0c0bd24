use Rattle.std.proofs.Common.{◌≡◌, subst}
use Rattle.std.specs.Prelude.{None, Some, ◌⊎◌, MatchResult}
use Rattle.rr_roster.specs.Terms.{tokens_of}
use Rattle.rr_books.specs.declared.refusal.Refusal.TheVariants.{OutOfMemory}
use Rattle.rr_lay.specs.Placing.{IsStationVerdict, first_station_verdict}
use Rattle.rr_lay.specs.Position.{Position}
use Rattle.rr_lay.proofs.Sights.{seen}
use Rattle.rr_lay.proofs.placing.judge_station.Goals as goal

pub returns : goal.returns
returns c book h =
    let board = c.args.kit.now.board in
    let tiles = c.args.kit.now.tiles in
    let station = c.args.station.now in
    let tokens = tokens_of c.args.kit.now.roster station.corp in
    let P : Position → Type 0 = λ now. MatchResult c.judge.result
    (λ _. IsStationVerdict board tiles tokens now station None)
    (λ fault. ((fault ≡ OutOfMemory) × (first_station_verdict board tokens now station ≡ None)) ⊎ IsStationVerdict board tiles tokens now station (Some fault)) in
    subst P (seen book c.args.position.now h) c.judge.ensures
