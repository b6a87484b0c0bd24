use Rattle.std.proofs.Common.{◌≡◌, ◌≤◌, List, Vec, length, Result, Err, map, refl, ◌∙◌, ap, subst}
use Rattle.std.proofs.lemmas.Result.{err_from_is_err_and}
use Rattle.std.specs.Rc.{rc_slice_items}
use Rattle.std.specs.declared.alloc.Global.{Global}
use Rattle.std.proofs.lemmas.List.Elements.{All-same}
use Rattle.rr_checkpoint.specs.Writer.{free_of}
use Rattle.rr_pages.specs.declared.fault.Fault.{Fault}
use Rattle.rr_pages.specs.declared.fault.Fault.TheVariants.{FileFull}
use Rattle.rr_pages.specs.FreePages.{present_of, coming_of}
use Rattle.rr_pages.specs.Sets.{TooFewFree}
use Rattle.rr_checkpoint.specs.declared.plan.snapshot.SnapshotTranscript.{SnapshotTranscript}
use Rattle.rr_checkpoint.specs.declared.plan.standing.StandingSnapshot.{StandingSnapshot}
use Rattle.rr_checkpoint.specs.declared.plan.table.TableTranscript.{TableTranscript}
use Rattle.rr_checkpoint.specs.Plan.Laying.{snapshot_pages, AreSnapshotsPlaced}
use Rattle.rr_checkpoint.specs.Plan.Snapshots.{snapshot_of}
use Rattle.rr_checkpoint.specs.Plan.Standing.{entry_of, laid_snapshots, places_of}
use Rattle.rr_checkpoint.specs.Plan.Transcript.{snapshots_of, table_of, tables_of}
use Rattle.rr_checkpoint.proofs.PlanLemmas.Frames.{onward}
use Rattle.rr_checkpoint.proofs.PlanLemmas.LaidSnapshots.{chains_laid, placed_short, too_few_then}
use Rattle.rr_checkpoint.proofs.PlanLemmas.LaidTables.{laid_same}
use Rattle.rr_reading.specs.Worlds.Spelling.{worlds}
use Rattle.rr_checkpoint.proofs.plan.laying.lay_chains.Goals as goal

abbrev wrapped : Fault → Result (Vec StandingSnapshot Global) Fault
wrapped fault = Err fault

pub returns-in_err-placed-clause-full : goal.returns-in_err-placed-clause-full
returns-in_err-placed-clause-full g c = λ full.
    let p = err_from_is_err_and c.from_residual-in_err-placed.result c.from_residual-in_err-placed.ensures.1 in
    let is : c.in_err-placed.field-0.0 ≡ FileFull = cc (p.1, p.2, full) in
    let writer = c.args.writer.now in
    let between = c.lay_tables.new.writer in
    let transcript = c.args.transcript.now in
    let standing = c.args.standing.now in
    let entries = c.in_ok-tables.tables.items in
    let few = subst (λ (parts : List SnapshotTranscript). TooFewFree (present_of (free_of between)) (coming_of (free_of between)) (snapshot_pages (laid_snapshots standing (map snapshot_of parts)))) c.deref-2.ensures.value (c.in_err-placed.ensures.full (ap wrapped is)) in
    too_few_then (present_of (free_of writer)) (present_of (free_of between)) (coming_of (free_of writer)) (coming_of (free_of between)) c.lay_tables.new.fresh.items (tables_of transcript) standing (snapshots_of transcript) entries c.lay_tables.ensures.only.present
    (laid_same (present_of (free_of writer)) (present_of (free_of writer)) (coming_of (free_of writer)) (coming_of (free_of writer)) (coming_of (free_of between)) c.lay_tables.new.fresh.items (map table_of c.deref.result.now) (tables_of transcript) entries
    refl refl (ap (λ (parts : List TableTranscript). map table_of parts) c.deref.ensures.value) c.in_ok-tables.ensures.laid)
    few

pub returns-in_err-placed-clause-only : goal.returns-in_err-placed-clause-only
returns-in_err-placed-clause-only g c = onward (worlds g.R.Rules.rules) c.args.writer.now c.lay_tables.new.writer c.place_snapshots.new.writer c.lay_tables.ensures.only c.place_snapshots.ensures.only

pub snapshot_entries-requires : goal.snapshot_entries-requires
snapshot_entries-requires g c =
    let between = c.lay_tables.new.writer in
    let after = c.place_snapshots.new.writer in
    let transcript = c.args.transcript.now in
    let standing = c.args.standing.now in
    let placed = c.in_ok-placed.placed.items in
    let counts = map (λ (part : TableTranscript). part.kept) transcript.tables.items in
    All-same (λ (snapshot : StandingSnapshot). length (rc_slice_items snapshot.bytes) ≤ 16384) c.deref-3.result.now placed c.deref-3.ensures.value
    (placed_short (present_of (free_of between)) (coming_of (free_of between)) (coming_of (free_of after)) c.lay_tables.new.fresh.items c.place_snapshots.new.fresh.items (places_of standing (snapshots_of transcript)) (snapshots_of transcript) placed counts
    (subst (λ (parts : List SnapshotTranscript). AreSnapshotsPlaced (present_of (free_of between)) (coming_of (free_of between)) (coming_of (free_of after)) c.lay_tables.new.fresh.items c.place_snapshots.new.fresh.items (places_of standing (map snapshot_of parts)) (map snapshot_of parts) placed) c.deref-2.ensures.value c.in_ok-placed.ensures.placed)
    transcript.counted)

pub returns-in_err-snapshots-clause-only : goal.returns-in_err-snapshots-clause-only
returns-in_err-snapshots-clause-only g c = onward (worlds g.R.Rules.rules) c.args.writer.now c.lay_tables.new.writer c.place_snapshots.new.writer c.lay_tables.ensures.only c.place_snapshots.ensures.only

pub returns-clause-laid : goal.returns-clause-laid
returns-clause-laid g c =
    let writer = c.args.writer.now in
    let between = c.lay_tables.new.writer in
    let after = c.place_snapshots.new.writer in
    let transcript = c.args.transcript.now in
    let standing = c.args.standing.now in
    let entries = c.in_ok-tables.tables.items in
    let placed = c.in_ok-placed.placed.items in
    let others = c.in_ok-snapshots.snapshots.items in
    chains_laid (present_of (free_of writer)) (present_of (free_of between)) (coming_of (free_of writer)) (coming_of (free_of between)) (coming_of (free_of after)) c.lay_tables.new.fresh.items c.place_snapshots.new.fresh.items
    (tables_of transcript) standing (snapshots_of transcript) entries others placed c.lay_tables.ensures.only.present
    (laid_same (present_of (free_of writer)) (present_of (free_of writer)) (coming_of (free_of writer)) (coming_of (free_of writer)) (coming_of (free_of between)) c.lay_tables.new.fresh.items (map table_of c.deref.result.now) (tables_of transcript) entries
    refl refl (ap (λ (parts : List TableTranscript). map table_of parts) c.deref.ensures.value) c.in_ok-tables.ensures.laid)
    (subst (λ (parts : List SnapshotTranscript). AreSnapshotsPlaced (present_of (free_of between)) (coming_of (free_of between)) (coming_of (free_of after)) c.lay_tables.new.fresh.items c.place_snapshots.new.fresh.items (places_of standing (map snapshot_of parts)) (map snapshot_of parts) placed) c.deref-2.ensures.value c.in_ok-placed.ensures.placed)
    (c.in_ok-snapshots.ensures.entries ∙ ap (λ (snapshots : List StandingSnapshot). map entry_of snapshots) c.deref-3.ensures.value)

pub returns-clause-only : goal.returns-clause-only
returns-clause-only g c = onward (worlds g.R.Rules.rules) c.args.writer.now c.lay_tables.new.writer c.place_snapshots.new.writer c.lay_tables.ensures.only c.place_snapshots.ensures.only
