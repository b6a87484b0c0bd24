use Rattle.std.proofs.Common.{◌≡◌, ℕ, All, List, [], ap, arith, refl, sym, subst, ◌∙◌}
use Rattle.std.proofs.lemmas.List.Elements.{All-nil}
use Rattle.std.proofs.lemmas.Result.{err_from_is_err_and}
use Rattle.rr_disk.specs.Disk.{DiskState}
use Rattle.rr_game.specs.History.Tables.{kept_in}
use Rattle.rr_reading.specs.Lending.Commands.{bytes_at}
use Rattle.rr_reading.specs.Lending.Fitting.{links_at}
use Rattle.rr_reading.specs.Lending.Pages.{joined}
use Rattle.rr_store.specs.Recovery.Shown.{ShowsPlayOf, shown_of}
use Rattle.rr_store.specs.Recovery.Told.{TellsTable}
use Rattle.rr_store.specs.Replayed.{AreItsCounts, counts_shown, counts_then, plays_behind}
use Rattle.rr_tables.specs.Records.World.{TableState}
use Rattle.rr_store.proofs.RecoveryLemmas.PlayingLemmas.{breaks_so}
use Rattle.rr_store.proofs.RecoveryLemmas.PlaysLemmas.{tells_counted}
use Rattle.rr_store.proofs.RecoveryLemmas.ReadingLemmas.{failed, reads_on, valued}
use Rattle.rr_store.proofs.RecoveryLemmas.RestoringLemmas.{one_told}
use Rattle.rr_store.proofs.recovery.tables.restore_whole.Goals as goal

content : DiskState → List ℕ
content state = state.content

pub returns-in_err-played-clause-refused : goal.returns-in_err-played-clause-refused
unfolding content
returns-in_err-played-clause-refused g c =
    let p = err_from_is_err_and c.from_residual-in_err-played.result c.from_residual-in_err-played.ensures.1 in
    let index = c.args.index in
    let file = (g.D.Disk.state c.args.disk.now).content in
    let now = (g.D.Disk.state c.restore_from.new.disk).content in
    rw (p.1, p.2)
    (breaks_so _ c.in_err-played.ensures.refused (λ none honest few state tells shown.
    let before = c.in_err-played.ensures.only_reads.honest honest in
    let bytes : bytes_at now c.restore_from.new.chains index ≡ bytes_at file c.args.chains.now index = λ i. joined (content (c.in_ok-told.ensures.only_reads.same_state before i)) (links_at (c.in_ok-told.ensures.only_reads.all i) index) in
    none honest few state (subst (λ (bs : List ℕ). TellsTable c.args.entry.now bs (c.args.entry.now.name, state)) (sym bytes) tells) (All-nil (ShowsPlayOf c.args.kit.now state.commands))))

pub returns-in_err-played-clause-only_reads : goal.returns-in_err-played-clause-only_reads
returns-in_err-played-clause-only_reads g c =
    let p = err_from_is_err_and c.from_residual-in_err-played.result c.from_residual-in_err-played.ensures.1 in
    rw (p.1, p.2) (reads_on c.in_ok-told.ensures.only_reads (failed c.in_err-played.ensures.only_reads))

pub returns-clause-only_reads : goal.returns-clause-only_reads
returns-clause-only_reads g c = reads_on c.in_ok-told.ensures.only_reads (valued c.in_ok-played.ensures.only_reads)

pub returns-clause-told : goal.returns-clause-told
unfolding content
returns-clause-told g c = λ honest.
    let index = c.args.index in
    let file = (g.D.Disk.state c.args.disk.now).content in
    let now = (g.D.Disk.state c.restore_from.new.disk).content in
    let before = c.in_ok-played.ensures.only_reads.honest honest in
    let bytes : bytes_at now c.restore_from.new.chains index ≡ bytes_at file c.args.chains.now index = λ i. joined (content (c.in_ok-told.ensures.only_reads.same_state before i)) (links_at (c.in_ok-told.ensures.only_reads.all i) index) in
    subst (λ (bs : List ℕ). TellsTable c.args.entry.now bs (c.args.entry.now.name, kept_in c.in_ok-played.played.value)) bytes (c.in_ok-played.ensures.told honest)

pub returns-clause-played : goal.returns-clause-played
returns-clause-played g c = λ shown. c.in_ok-played.ensures.played (All-nil (ShowsPlayOf c.args.kit.now (kept_in c.in_ok-played.played.value).commands))

pub returns-clause-named : goal.returns-clause-named
returns-clause-named g c = c.in_ok-played.ensures.named refl

pub returns-then-has_its_snapshots-clause-plays : goal.returns-then-has_its_snapshots-clause-plays
returns-then-has_its_snapshots-clause-plays g c = λ honest shows.
    let counted = tells_counted c.args.entry.now _ (kept_in c.in_ok-told.told.value) (c.in_ok-told.ensures.told honest) in
    let has = (c.in_ok-told.ensures.shown shows).0 (c.if-has_its_snapshots.ensures.0 refl) in
    record {
      once = λ are. c.in_ok-told.ensures.plays ∙ ap (λ (n : ℕ). plays_behind n (counts_shown (shown_of c.args.index c.args.snapshots))) (sym counted);
      twice = λ others. absurd (others has);
    }

pub returns-clause-plays : goal.returns-clause-plays
unfolding content
returns-clause-plays g c = λ honest shows.
    let index = c.args.index in
    let kit = c.args.kit.now in
    let entry = c.args.entry.now in
    let shown = shown_of index c.args.snapshots in
    let file = (g.D.Disk.state c.args.disk.now).content in
    let now = (g.D.Disk.state c.restore_from.new.disk).content in
    let first = kept_in c.in_ok-told.told.value in
    let second = kept_in c.in_ok-played.played.value in
    let before = c.in_ok-played.ensures.only_reads.honest honest in
    let bytes : bytes_at now c.restore_from.new.chains index ≡ bytes_at file c.args.chains.now index = λ i. joined (content (c.in_ok-told.ensures.only_reads.same_state before i)) (links_at (c.in_ok-told.ensures.only_reads.all i) index) in
    let tells = subst (λ (bs : List ℕ). TellsTable entry bs (entry.name, second)) bytes (c.in_ok-played.ensures.told honest) in
    let same : second ≡ first = one_told entry (bytes_at file c.args.chains.now index) second first tells (c.in_ok-told.ensures.told before) in
    let counted = tells_counted entry (bytes_at file c.args.chains.now index) second tells in
    record {
      once = λ are.
          let named = (c.in_ok-told.ensures.shown (subst (λ (s : TableState). All (ShowsPlayOf kit s.commands) shown) same shows)).1 (subst (λ (s : TableState). AreItsCounts kit s (counts_then kit s (counts_shown shown))) same are) in
          absurd (cc (c.if-has_its_snapshots.ensures.1 named));
      twice = λ others.
          omega (arith, c.in_ok-told.ensures.plays, c.in_ok-played.ensures.plays, ap (λ (n : ℕ). plays_behind n (counts_shown shown)) counted, ap (λ (n : ℕ). plays_behind n []) counted);
    }

pub returns-in_err-told-clause-only_reads : goal.returns-in_err-told-clause-only_reads
returns-in_err-told-clause-only_reads g c =
    let p = err_from_is_err_and c.from_residual.result c.from_residual.ensures.1 in
    rw (p.1, p.2) (failed c.in_err-told.ensures.only_reads)

pub returns-then-has_its_snapshots-clause-only_reads : goal.returns-then-has_its_snapshots-clause-only_reads
returns-then-has_its_snapshots-clause-only_reads g c = c.in_ok-told.ensures.only_reads

pub returns-in_err-told-clause-refused : goal.returns-in_err-told-clause-refused
returns-in_err-told-clause-refused g c =
    let p = err_from_is_err_and c.from_residual.result c.from_residual.ensures.1 in
    rw (p.1, p.2) c.in_err-told.ensures.refused
