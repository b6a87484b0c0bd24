use Rattle.std.proofs.Common.{◌≡◌, ◌+◌, ◌<◌, ◌∙◌, ℕ, All, List, length, refl, subst, arith, below_more}
use Rattle.std.proofs.lemmas.List.{length-map}
use Rattle.std.proofs.lemmas.Result.{err_from_is_err_and}
use Rattle.rr_disk.specs.Disk.{DiskState}
use Rattle.rr_checkpoint.specs.Plan.Standing.{standing_chains}
use Rattle.rr_reading.specs.Chains.{held_in}
use Rattle.rr_reading.specs.Held.{tables_in}
use Rattle.rr_reading.specs.Lending.Chains.{all_of}
use Rattle.rr_reading.specs.Lending.Commands.{bytes_at}
use Rattle.rr_reading.specs.Lending.Fitting.{links_at}
use Rattle.rr_reading.specs.Lending.Pages.{joined}
use Rattle.rr_reading.proofs.FormLemmas.{get_held, held_at}
use Rattle.rr_tables.specs.Tables.{world_of}
use Rattle.rr_store.specs.Recovery.Shown.{SpellsItsGame, shown_of}
use Rattle.rr_store.specs.declared.recovery.fault.Fault.{Fault}
use Rattle.rr_store.specs.Recovery.Fault.{IsOfDevice}
use Rattle.rr_store.proofs.RecoveryLemmas.PlayingLemmas.{breaks_so}
use Rattle.rr_store.proofs.RecoveryLemmas.PlaysLemmas.{plays_put}
use Rattle.rr_store.proofs.RecoveryLemmas.ReadingLemmas.{failed, reads_on, refused, turned, valued}
use Rattle.rr_store.proofs.RecoveryLemmas.RestoringLemmas.{count_put, played_put, told_end, told_put}
use Rattle.rr_store.proofs.recovery.tables.restore_tables.Goals as goal

content : DiskState → List ℕ
content state = state.content

pub returns-in_err-played-clause-refused : goal.returns-in_err-played-clause-refused
unfolding content
returns-in_err-played-clause-refused g c =
    let p = err_from_is_err_and c.from_residual-in_err-played.result c.from_residual-in_err-played.ensures.1 in
    let index = c.loop-index.index in
    let within : index < length c.args.entries.now = c.loop-index-test.true in
    let all = all_of c.args.chains.now.chains in
    let file = (g.D.Disk.state c.args.disk.now).content in
    let now = (g.D.Disk.state c.loop-index.disk).content in
    rw (p.1, p.2)
    (breaks_so _ c.in_err-played.ensures.refused (λ refused honest as_many.
    let chain_in : index < length all = omega (arith, within, as_many) in
    let before = c.in_err-played.ensures.only_reads.honest honest in
    let bytes : bytes_at now c.loop-index.chains index ≡ joined file (links_at all index) = λ i. joined (content (c.loop-index.invariant.only_reads.same_state before i)) (links_at (c.loop-index.invariant.only_reads.all i) index) in
    told_end c.args.kit c.args.snapshots.entries.now (standing_chains c.args.snapshots.chains.now) c.loop-index.tables.kit c.args.entries.now (tables_in file c.args.chains.now) index c.index-entries-index.result
    (held_at file all index) (bytes_at now c.loop-index.chains index) (world_of c.loop-index.tables) within (omega (arith, chain_in, length-map all (held_in file))) c.index-entries-index.is
    (get_held file all index (held_at file all index) chain_in) bytes c.loop-index.invariant.kit (c.loop-index.invariant.told before as_many) (refused honest)))

pub loop-index-preserved : goal.loop-index-preserved
unfolding content
loop-index-preserved g c =
    let index = c.loop-index.index in
    let within : index < length c.args.entries.now = c.loop-index-test.true in
    let all = all_of c.args.chains.now.chains in
    let file = (g.D.Disk.state c.args.disk.now).content in
    let now = (g.D.Disk.state c.loop-index.disk).content in
    let entry = c.index-entries-index.result in
    let old = world_of c.loop-index.tables in
    let new = world_of c.restore_table.new.tables in
    let put = c.in_ok-played.ensures.put in
    record {
      told = λ honest as_many.
          let chain_in : index < length all = omega (arith, within, as_many) in
          let before = c.in_ok-played.ensures.only_reads.honest honest in
          let bytes : bytes_at now c.loop-index.chains index ≡ joined file (links_at all index) = λ i. joined (content (c.loop-index.invariant.only_reads.same_state before i)) (links_at (c.loop-index.invariant.only_reads.all i) index) in
          told_put c.args.entries.now (tables_in file c.args.chains.now) index entry (held_at file all index) (bytes_at now c.loop-index.chains index) old new put.0 within
          (omega (arith, chain_in, length-map all (held_in file))) c.index-entries-index.is (get_held file all index (held_at file all index) chain_in) bytes
          (c.loop-index.invariant.told before as_many) put.1 (put.2 honest);
      counted = count_put entry old new put.0 index put.1 c.loop-index.invariant.counted;
      kit = c.restore_table.ensures.kit ∙ c.loop-index.invariant.kit;
      played = played_put c.args.kit c.args.snapshots.entries.now (standing_chains c.args.snapshots.chains.now) c.loop-index.tables.kit index entry c.loop-index.tables c.restore_table.new.tables put.0 c.loop-index.invariant.kit put.1
          c.loop-index.invariant.counted c.loop-index.invariant.played put.3;
      snapshots = c.in_ok-played.ensures.snapshots c.loop-index.invariant.snapshots;
      games = below_more (λ place. All SpellsItsGame (shown_of place c.args.snapshots)) index c.loop-index.invariant.games c.in_ok-played.ensures.games;
      plays = λ honest.
          plays_put c.args.kit c.args.snapshots.entries.now (standing_chains c.args.snapshots.chains.now) c.loop-index.tables.kit index entry old new put.0 c.loop-index.plays c.in_ok-played.played (c.loop-index.plays + c.in_ok-played.played)
          c.loop-index.invariant.kit put.1 c.loop-index.invariant.counted refl (c.loop-index.invariant.plays (c.in_ok-played.ensures.only_reads.honest honest)) (put.4 honest);
      bounded = omega (arith, c.loop-index.invariant.bounded, c.in_ok-played.ensures.few_plays);
      room = omega (arith, c.loop-index.invariant.counted, c.in_ok-played.ensures.few_tables);
      only_reads = reads_on c.loop-index.invariant.only_reads (valued c.in_ok-played.ensures.only_reads);
    }

pub returns-clause-games : goal.returns-clause-games
returns-clause-games g c = λ place within. c.loop-index.invariant.games place (omega (arith, within, c.loop-index-test.false))

pub returns-in_err-tables-clause-only_reads : goal.returns-in_err-tables-clause-only_reads
returns-in_err-tables-clause-only_reads g c =
    let p = err_from_is_err_and c.from_residual.result c.from_residual.ensures.1 in
    rw (p.1, p.2) (refused _ (subst (λ (f : Fault). IsOfDevice f) c.in_err-tables.ensures.memory) (turned refl refl))

pub returns-in_err-played-clause-only_reads : goal.returns-in_err-played-clause-only_reads
returns-in_err-played-clause-only_reads g c =
    let p = err_from_is_err_and c.from_residual-in_err-played.result c.from_residual-in_err-played.ensures.1 in
    rw (p.1, p.2) (reads_on c.loop-index.invariant.only_reads (failed c.in_err-played.ensures.only_reads))

pub returns-clause-only_reads : goal.returns-clause-only_reads
returns-clause-only_reads g c = valued c.loop-index.invariant.only_reads
