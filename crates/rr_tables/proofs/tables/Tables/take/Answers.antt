use Rattle.std.proofs.lemmas.Result.{IfOk-weaker}
use Rattle.rr_code.specs.declared.command.Command.TheVariants.{Open}
use Rattle.rr_turns.specs.declared.request.Request.TheVariants.{Play}
use Rattle.std.proofs.Common.{length}
use Rattle.rr_tables.specs.Records.World.{table_named}
use Rattle.rr_tables.specs.Tables.{kept_in_box, world_of}
use Rattle.rr_tables.proofs.Outcomes.{under}
use Rattle.rr_tables.proofs.PlayedTables.{none_played}
use Rattle.rr_tables.proofs.SeeingLemmas.{opening_plain, opening_seen, step_plain, step_seen}
use Rattle.rr_tables.proofs.WorldLemmas.{counted_by, named_by, named_stamp, opening_in, step_in}
use Rattle.rr_tables.proofs.tables.Tables.take.Goals as goal

pub returns-in-Some-clause-verdict : goal.returns-in-Some-clause-verdict
returns-in-Some-clause-verdict g c = λ played.
    rw (c.in-Some.ensures, opening_in kept_in_box c.args.name.now c.args.self.now.map.entries c.args.stamp) c.open.ensures.verdict

pub returns-in-Some-clause-world : goal.returns-in-Some-clause-world
returns-in-Some-clause-world g c = rw c.in-Some.ensures (under c.open.result _ _ c.open.ensures.world)

pub returns-in-Some-clause-played : goal.returns-in-Some-clause-played
returns-in-Some-clause-played g c = c.open.ensures.played

pub returns-in-Some-clause-kept : goal.returns-in-Some-clause-kept
returns-in-Some-clause-kept g c = rw c.in-Some.ensures c.open.ensures.kept

pub returns-in-Some-clause-stamp : goal.returns-in-Some-clause-stamp
returns-in-Some-clause-stamp g c =
    rw (c.in-Some.ensures, named_by kept_in_box c.args.name.now c.args.self.now.map.entries)
    (named_stamp kept_in_box c.args.self.now.kit c.in-Some.players.now _ _ c.open.ensures.stamp)

pub returns-in-None-clause-verdict : goal.returns-in-None-clause-verdict
returns-in-None-clause-verdict g c = λ played.
    rw (step_in kept_in_box c.args.self.now.kit c.args.name.now c.args.self.now.map.entries c.args.stamp c.args.request.now c.in-None.ensures) (c.step.ensures.verdict played)

pub returns-in-None-clause-stamp : goal.returns-in-None-clause-stamp
returns-in-None-clause-stamp g c = rw (named_by kept_in_box c.args.name.now c.args.self.now.map.entries) c.step.ensures.stamp

pub returns-in-None-clause-played : goal.returns-in-None-clause-played
returns-in-None-clause-played g c = c.step.ensures.played

pub returns-in-Some-clause-snapshots : goal.returns-in-Some-clause-snapshots
returns-in-Some-clause-snapshots g c = c.open.ensures.snapshots

pub returns-in-None-clause-snapshots : goal.returns-in-None-clause-snapshots
returns-in-None-clause-snapshots g c = c.step.ensures.snapshots

pub returns-in-Some-clause-plays : goal.returns-in-Some-clause-plays
returns-in-Some-clause-plays g c =
    rw (c.in-Some.ensures, named_by kept_in_box c.args.name.now c.args.self.now.map.entries)
    (IfOk-weaker c.open.result _ _ (λ taken counted. λ played named. counted)
    (none_played c.args.self.now.kit (Play (Open c.in-Some.players.now)) c.open.result _ c.open.ensures.stamp c.open.ensures.plays))

pub returns-in-None-clause-plays : goal.returns-in-None-clause-plays
returns-in-None-clause-plays g c = rw (named_by kept_in_box c.args.name.now c.args.self.now.map.entries) c.step.ensures.plays

pub returns-in-Some-clause-judged : goal.returns-in-Some-clause-judged
returns-in-Some-clause-judged g c = λ seen is.
    let tables = c.args.self.now in
    rw (c.in-Some.ensures, counted_by kept_in_box tables.map.entries)
    (opening_seen tables.kit tables c.args.name.now _ c.args.stamp c.in-Some.players.now seen is c.open.result c.open.ensures.verdict)

pub returns-in-None-clause-judged : goal.returns-in-None-clause-judged
returns-in-None-clause-judged g c = λ seen is.
    step_seen c.args.self.now.kit seen _ c.args.stamp c.args.request.now c.in-None.ensures c.step.result (c.step.ensures.judged seen is)

pub returns-in-Some-clause-plain : goal.returns-in-Some-clause-plain
returns-in-Some-clause-plain g c =
    rw (c.in-Some.ensures, opening_in kept_in_box c.args.name.now c.args.self.now.map.entries c.args.stamp) (opening_plain _ c.open.result c.open.ensures.verdict)

pub returns-in-None-clause-plain : goal.returns-in-None-clause-plain
returns-in-None-clause-plain g c =
    rw (step_plain (table_named (world_of c.args.self.now) c.args.name.now) (length (world_of c.args.self.now)) c.args.stamp c.args.request.now c.in-None.ensures, named_by kept_in_box c.args.name.now c.args.self.now.map.entries)
    c.step.ensures.plain
