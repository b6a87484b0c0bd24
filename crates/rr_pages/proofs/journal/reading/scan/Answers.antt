use Rattle.std.proofs.Common.{◌≡◌, List, [], ◌∷◌, length, ◌∙◌, ap, subst, arith, rules, length-append}
use Rattle.std.proofs.lemmas.Result.{err_from_is_err_and}
use Rattle.rr_disk.specs.Disk.{DiskState}
use Rattle.rr_pages.specs.declared.journal.layout.HalfIndex.{HalfIndex}
use Rattle.rr_pages.specs.declared.journal.reading.RunEnd.TheVariants.{Closed}
use Rattle.rr_pages.specs.declared.journal.reading.Found.{Found}
use Rattle.rr_pages.specs.declared.journal.reading.Found.TheVariants.{Record, End}
use Rattle.rr_pages.specs.Journal.Layout.{slots_for}
use Rattle.rr_pages.specs.Journal.Reading.{lines, Begins}
use Rattle.rr_pages.specs.Journal.Run.{IsRecord, HasRecord, Ends, slots_of}
use Rattle.rr_pages.proofs.JournalLemmas.Moments.{keeps_at_rest}
use Rattle.rr_pages.proofs.JournalLemmas.OneRun.{first_record}
use Rattle.rr_pages.proofs.JournalLemmas.Runs.{slots_more, some_slot, one_run, stepped, all_found}
use Rattle.rr_pages.proofs.journal.reading.scan.Goals as goal

pub loop-half-preserved : goal.loop-half-preserved
loop-half-preserved g c =
    let inv = c.loop-half.invariant in
    let file = (g.D.Disk.state c.args.disk.now).content in
    let x = c.in-Record.bytes in
    let pushed = c.in_ok-push-in-Record.ensures.items in
    let takes : c.slots_for.result ≡ slots_for (length x.items) = search rules in
    let some = some_slot (length x.items) in
    record {
      index = inv.index;
      next = omega (arith, takes, inv.next, slots_more c.loop-half.records.items x, ap (λ (r : List _). slots_of (lines r)) pushed);
      few = omega (arith, takes, inv.few, ap length pushed, length-append c.loop-half.records.items (x ∷ []));
      number = omega (arith, inv.number, ap length pushed, length-append c.loop-half.records.items (x ∷ []));
      rest = λ honest.
          let before = c.in_ok-bytes.ensures.honest honest in
          let found : Begins file c.loop-half.half c.loop-half.number (Record x) =
          subst (λ (what : Found). Begins file c.loop-half.half c.loop-half.number what) c.in-Record.is
          (subst (λ (state : DiskState). Begins state.content c.loop-half.half c.loop-half.number c.in_ok-bytes.field-0) (inv.same_state before) (c.in_ok-bytes.ensures.found honest)) in
          let is : IsRecord file c.args.index c.loop-half.half.next_slot c.loop-half.number x.items = subst (λ (half : HalfIndex). IsRecord file half c.loop-half.half.next_slot c.loop-half.number x.items) inv.index found in
          stepped file c.args.index c.loop-half.half.next_slot c.loop-half.number c.args.first_number c.slots_for.result c.loop-half.records.items _ x pushed takes is (inv.rest before);
      honest = search rules;
      same_state = search rules;
      same_past = search rules;
      faults = search rules;
      writes = search rules;
      syncs = search rules;
      works = search rules;
      same_len = search rules;
    }

pub returns-in-End-clause-found : goal.returns-in-End-clause-found
returns-in-End-clause-found g c = λ honest.
    let inv = c.loop-half.invariant in
    let file = (g.D.Disk.state c.args.disk.now).content in
    let before = c.in_ok-bytes.ensures.honest honest in
    let found : Begins file c.loop-half.half c.loop-half.number (End c.in-End.end) =
    subst (λ (what : Found). Begins file c.loop-half.half c.loop-half.number what) c.in-End.is
    (subst (λ (state : DiskState). Begins state.content c.loop-half.half c.loop-half.number c.in_ok-bytes.field-0) (inv.same_state before) (c.in_ok-bytes.ensures.found honest)) in
    let ends : Ends file c.args.index c.loop-half.half.next_slot c.loop-half.number c.in-End.end = subst (λ (half : HalfIndex). Ends file half c.loop-half.half.next_slot c.loop-half.number c.in-End.end) inv.index found in
    all_found file c.args.index c.loop-half.half.next_slot c.loop-half.number c.args.first_number c.loop-half.records.items c.in-End.end ends (inv.rest before)

pub returns-in-End-clause-only : goal.returns-in-End-clause-only
returns-in-End-clause-only g c = λ honest others end run.
    one_run (g.D.Disk.state c.args.disk.now).content c.args.index 0 c.args.first_number (lines c.loop-half.records.items) others c.in-End.end end (returns-in-End-clause-found g c honest) run

pub returns-clause-found : goal.returns-clause-found
returns-clause-found g c = λ honest.
    let inv = c.loop-half.invariant in
    let file = (g.D.Disk.state c.args.disk.now).content in
    let ends : Ends file c.args.index c.loop-half.half.next_slot c.loop-half.number Closed = λ in_part. absurd (omega (arith, in_part, c.loop-half-test.false)) in
    all_found file c.args.index c.loop-half.half.next_slot c.loop-half.number c.args.first_number c.loop-half.records.items Closed ends (inv.rest honest)

pub returns-clause-only : goal.returns-clause-only
returns-clause-only g c = λ honest others end run.
    one_run (g.D.Disk.state c.args.disk.now).content c.args.index 0 c.args.first_number (lines c.loop-half.records.items) others Closed end (returns-clause-found g c honest) run

pub returns-in-End-clause-keeps : goal.returns-in-End-clause-keeps
returns-in-End-clause-keeps g c = λ honest rest closed within.
    let inv = c.loop-half.invariant in
    let same : g.D.Disk.state c.read_record.new.disk ≡ g.D.Disk.state c.args.disk.now = c.in_ok-bytes.ensures.same_state honest ∙ inv.same_state (c.in_ok-bytes.ensures.honest honest) in
    keeps_at_rest c.loop-half.half (g.D.Disk.state c.read_record.new.disk) (g.D.Disk.state c.args.disk.now) c.args.index c.args.first_number (lines c.loop-half.records.items) c.in-End.end rest closed within inv.index inv.next same (returns-in-End-clause-found g c honest)

pub returns-clause-keeps : goal.returns-clause-keeps
returns-clause-keeps g c = λ honest rest closed within.
    let inv = c.loop-half.invariant in
    keeps_at_rest c.loop-half.half (g.D.Disk.state c.loop-half.disk) (g.D.Disk.state c.args.disk.now) c.args.index c.args.first_number (lines c.loop-half.records.items) Closed rest closed within inv.index inv.next (inv.same_state honest) (returns-clause-found g c honest)

pub returns-in_err-bytes-clause-memory : goal.returns-in_err-bytes-clause-memory
returns-in_err-bytes-clause-memory g c = λ e honest.
    let inv = c.loop-half.invariant in
    let file = (g.D.Disk.state c.args.disk.now).content in
    let given = err_from_is_err_and c.from_residual.result c.from_residual.ensures.1 in
    let is = given.1 in
    let from = given.2 in
    let before = c.in_err-bytes.ensures.honest honest in
    let there : HasRecord (g.D.Disk.state c.loop-half.disk).content c.loop-half.half.index c.loop-half.half.next_slot c.loop-half.number = c.in_err-bytes.ensures.memory (cc) honest in
    let has : HasRecord file c.args.index c.loop-half.half.next_slot c.loop-half.number =
    subst (λ (half : HalfIndex). HasRecord file half c.loop-half.half.next_slot c.loop-half.number) inv.index
    (subst (λ (state : DiskState). HasRecord state.content c.loop-half.half.index c.loop-half.half.next_slot c.loop-half.number) (inv.same_state before) there) in
    first_record file c.args.index c.loop-half.half.next_slot c.loop-half.number c.args.first_number (lines c.loop-half.records.items) has (inv.rest before)

pub returns-in_err-push-in-Record-clause-memory : goal.returns-in_err-push-in-Record-clause-memory
returns-in_err-push-in-Record-clause-memory g c = λ e honest.
    let inv = c.loop-half.invariant in
    let file = (g.D.Disk.state c.args.disk.now).content in
    let x = c.in-Record.bytes in
    let before = c.in_ok-bytes.ensures.honest honest in
    let found : Begins file c.loop-half.half c.loop-half.number (Record x) =
    subst (λ (what : Found). Begins file c.loop-half.half c.loop-half.number what) c.in-Record.is
    (subst (λ (state : DiskState). Begins state.content c.loop-half.half c.loop-half.number c.in_ok-bytes.field-0) (inv.same_state before) (c.in_ok-bytes.ensures.found honest)) in
    let is : IsRecord file c.args.index c.loop-half.half.next_slot c.loop-half.number x.items = subst (λ (half : HalfIndex). IsRecord file half c.loop-half.half.next_slot c.loop-half.number x.items) inv.index found in
    first_record file c.args.index c.loop-half.half.next_slot c.loop-half.number c.args.first_number (lines c.loop-half.records.items) (x.items, is) (inv.rest before)
