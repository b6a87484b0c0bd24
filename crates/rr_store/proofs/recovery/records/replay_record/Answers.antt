use Rattle.std.proofs.Common.{◌≡◌, ℕ, List, None, Result, Ok, subst}
use Rattle.rr_code.specs.Request.{record_text}
use Rattle.rr_log.specs.declared.fault.Fault.{Fault}
use Rattle.rr_log.specs.Lent.{Lent}
use Rattle.rr_tables.specs.declared.journal.Standing.{Standing}
use Rattle.rr_tables.specs.Records.World.{judgement_in}
use Rattle.rr_tables.specs.Tables.{lent_by, world_of}
use Rattle.rr_turns.specs.Judgement.{IsVerdict}
use Rattle.rr_store.proofs.RecoveryLemmas.VerdictLemmas.{refused_record}
use Rattle.rr_store.proofs.recovery.records.replay_record.Goals as goal

pub returns-in-Err-clause-refused : goal.returns-in-Err-clause-refused
returns-in-Err-clause-refused c =
    let Keeps : Standing → Lent → List ℕ → Result (Unit {0}) Fault → Standing → Type 0 = λ old lent bytes result new. (result ≡ Ok tt) × (new ≡ old) in
    rw (c.damage.ensures)
    (refused_record c.requests_have_one_verdict.ensures c.args.tables.now.kit (world_of c.args.tables.now) c.args.bytes.now c.in_ok-name.name c.in_ok-name.request
    c.in_ok-name.ensures.only c.stamp-stamp.result c.stamp-stamp.ensures Keeps _ c.take.new.journal (lent_by c.args.tables.now) (record_text c.in_ok-name.name c.in_ok-name.request)
    (λ cause kept. absurd (cc (kept.0))) c.in-Err.fault c.in-Err.ensures.verdict c.in-Err.ensures.kept)

pub returns-in-Ok-clause-plays : goal.returns-in-Ok-clause-plays
returns-in-Ok-clause-plays c = λ played had.
    let kit = c.args.tables.now.kit in
    let old = world_of c.args.tables.now in
    let name = c.in_ok-name.name in
    let request = c.in_ok-name.request in
    record {
      takes = record {
        name = name;
        request = request;
        spelled = c.in_ok-name.ensures.found;
        lawful = subst (λ (stamp : ℕ). IsVerdict (judgement_in kit old stamp name request) None) c.stamp-stamp.ensures (c.in-Ok.ensures.verdict played);
        taken = c.in-Ok.ensures.world played;
      };
      counted = c.in-Ok.ensures.plays played had;
    }
