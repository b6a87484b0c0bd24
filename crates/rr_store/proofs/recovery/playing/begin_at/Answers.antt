use Rattle.std.proofs.Common.{◌≡◌, All, Option, List, [], Some, subst}
use Rattle.rr_code.specs.declared.command.Command.{Command}
use Rattle.rr_game.specs.declared.game.Game.{Game}
use Rattle.rr_store.specs.Recovery.Shown.{IsLast, IsPlayWithin}
use Rattle.rr_store.proofs.RecoveryLemmas.PlaysLemmas.{first_behind, first_shown, last_behind, last_shown}
use Rattle.rr_store.proofs.RecoveryLemmas.KeepingLemmas.{begun_front, begun_refused, last_named, last_played, last_refused}
use Rattle.rr_store.proofs.recovery.playing.begin_at.Goals as goal

pub returns-in-Some-clause-played : goal.returns-in-Some-clause-played
returns-in-Some-clause-played g c =
    let games = c.args.kept.snapshots in
    let is : IsLast games (Some c.in-Some.game) =
    subst (λ (last : Option Game). IsLast games last) c.in-Some.is (subst (λ (gs : List Game). IsLast gs c.in_ok-last.last) c.snapshots.ensures c.in_ok-last.ensures.last) in
    last_played c.args.kit.now c.in-Some.game games is c.recall.result c.recall.ensures.recalled

pub returns-in-Some-clause-named : goal.returns-in-Some-clause-named
returns-in-Some-clause-named g c =
    let games = c.args.kept.snapshots in
    let is : IsLast games (Some c.in-Some.game) =
    subst (λ (last : Option Game). IsLast games last) c.in-Some.is (subst (λ (gs : List Game). IsLast gs c.in_ok-last.last) c.snapshots.ensures c.in_ok-last.ensures.last) in
    last_named c.args.kit.now c.in-Some.game games is c.recall.result

pub returns-in-Some-clause-refused : goal.returns-in-Some-clause-refused
returns-in-Some-clause-refused g c =
    let games = c.args.kept.snapshots in
    let is : IsLast games (Some c.in-Some.game) =
    subst (λ (last : Option Game). IsLast games last) c.in-Some.is (subst (λ (gs : List Game). IsLast gs c.in_ok-last.last) c.snapshots.ensures c.in_ok-last.ensures.last) in
    last_refused c.args.kit.now c.in-Some.game games is _ _ c.recall.result c.recall.ensures.refused

pub returns-in-None-clause-front : goal.returns-in-None-clause-front
returns-in-None-clause-front g c =
    begun_front _ c.args.kit.now (g.D.Disk.state c.args.disk.now).content c.args.chains.now c.begin_first.new.chains c.begin_first.result c.begin_first.ensures.begun

pub returns-in-None-clause-refused : goal.returns-in-None-clause-refused
returns-in-None-clause-refused g c =
    begun_refused _ c.args.kit.now (g.D.Disk.state c.args.disk.now).content c.args.chains.now c.begin_first.new.chains
    (λ (commands : List Command). All (IsPlayWithin c.args.kit.now commands) c.args.kept.snapshots) c.begin_first.result c.begin_first.ensures.refused

pub returns-in-Some-clause-behind : goal.returns-in-Some-clause-behind
returns-in-Some-clause-behind g c =
    let games = c.args.kept.snapshots in
    let is : IsLast games (Some c.in-Some.game) =
    subst (λ (last : Option Game). IsLast games last) c.in-Some.is (subst (λ (gs : List Game). IsLast gs c.in_ok-last.last) c.snapshots.ensures c.in_ok-last.ensures.last) in
    last_behind c.in-Some.game games is c.recall.result c.recall.ensures.recalled

pub returns-in-Some-clause-shown : goal.returns-in-Some-clause-shown
returns-in-Some-clause-shown g c = last_shown c.in-Some.game c.args.kept.snapshots c.recall.result c.recall.ensures.recalled

pub returns-in-None-clause-behind : goal.returns-in-None-clause-behind
returns-in-None-clause-behind g c =
    let games = c.args.kept.snapshots in
    let none : games ≡ [] =
    subst (λ (last : Option Game). IsLast games last) c.in-None.is (subst (λ (gs : List Game). IsLast gs c.in_ok-last.last) c.snapshots.ensures c.in_ok-last.ensures.last) in
    first_behind games none c.begin_first.result c.begin_first.ensures.alone

pub returns-in-None-clause-shown : goal.returns-in-None-clause-shown
returns-in-None-clause-shown g c =
    let games = c.args.kept.snapshots in
    let none : games ≡ [] =
    subst (λ (last : Option Game). IsLast games last) c.in-None.is (subst (λ (gs : List Game). IsLast gs c.in_ok-last.last) c.snapshots.ensures c.in_ok-last.ensures.last) in
    first_shown games none c.begin_first.result c.begin_first.ensures.named c.begin_first.ensures.alone

pub returns-in-Some-clause-only_reads : goal.returns-in-Some-clause-only_reads
returns-in-Some-clause-only_reads g c = c.recall.ensures.only_reads

pub returns-in-None-clause-only_reads : goal.returns-in-None-clause-only_reads
returns-in-None-clause-only_reads g c = c.begin_first.ensures.only_reads
