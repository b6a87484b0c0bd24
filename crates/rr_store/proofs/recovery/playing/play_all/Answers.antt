use Rattle.std.proofs.Common.{◌≡◌, ◌≢◌, ◌<◌, ◌≤◌, ◌-◌, ◌^◌, ℕ, List, [], length, Result, Ok, Err, IfOk, IfErr, MatchResult, All, ap, refl, sym, subst, ◌∙◌, arith}
use Rattle.std.proofs.lemmas.Result.{err_from_is_err_and}
use Rattle.rr_disk.specs.Disk.{DiskState}
use Rattle.rr_game.specs.declared.history.table.Table.{Table}
use Rattle.rr_game.specs.History.Tables.{HasItsSnapshots, IsPlayed, kept_in}
use Rattle.rr_pages.specs.declared.fault.Damage.TheVariants as D
use Rattle.rr_reading.specs.Lending.Commands.{bytes_at, rest_of}
use Rattle.rr_reading.proofs.LendingLemmas.CommandLemmas.{at_false, at_true}
use Rattle.rr_store.specs.declared.recovery.fault.Fault.{Fault}
use Rattle.rr_store.specs.declared.recovery.fault.Fault.TheVariants as F
use Rattle.rr_store.specs.declared.recovery.plays.Restored.{Restored}
use Rattle.rr_store.specs.Recovery.Fault.{IsOfDevice, IsOrBreaks}
use Rattle.rr_store.specs.Recovery.Kept.{AreWorded, HoldsCommands}
use Rattle.rr_store.specs.Recovery.Playing.{KeepsFront, PlaysNext, PlaysNoMore, ShowsNext}
use Rattle.rr_store.specs.Recovery.Shown.{ShowsPlayOf, SpellsItsGame, shown_of}
use Rattle.rr_store.specs.Replayed.{begins_behind, counts_played, counts_shown, plays_behind, with_due}
use Rattle.rr_disk.specs.declared.disk.Disk.{Ghosts}
use Rattle.rr_reading.specs.declared.lending.commands.Commands.{Commands}
use Rattle.rr_store.specs.Recovery.Reading.{OnlyReads}
use Rattle.rr_store.proofs.RecoveryLemmas.PlaysLemmas.{counts_read, due_first, next_shown}
use Rattle.rr_store.proofs.RecoveryLemmas.PlayingLemmas.{breaks, breaks_so, ends, ends_early, front_before, goes_on, held_front, or_breaks, played_whole, starts, too_many}
use Rattle.rr_store.proofs.RecoveryLemmas.ReadingLemmas.{failed, reads_on, refused, turned, valued}
use Rattle.rr_store.proofs.RecoveryLemmas.ShownLemmas.{are_within, none_read, read_are_games, show_games}
use Rattle.rr_store.proofs.recovery.playing.play_all.Goals as goal

content : DiskState → List ℕ
content state = state.content

-- the table, if no command is left
whole_is : (P : Restored Table → Type 0) (one : Restored Table) (left : ℕ) (whole : Result (Restored Table) Fault) → MatchResult whole (λ w. (w ≡ one) × (left ≡ 0)) (λ fault. (fault ≡ F.Damaged D.Kept) × (left ≢ 0))
    → (left ≡ 0 → P one) → IfOk whole P
whole_is P one left (Ok w) is there = subst P (sym is.0) (there is.1)
whole_is P one left (Err fault) is there = tt

whole_breaks : (P : Type 0) (one : Restored Table) (left : ℕ) (whole : Result (Restored Table) Fault) → MatchResult whole (λ w. (w ≡ one) × (left ≡ 0)) (λ fault. (fault ≡ F.Damaged D.Kept) × (left ≢ 0)) → (left ≢ 0 → P)
    → IfErr whole (IsOrBreaks D.Kept P)
whole_breaks P one left (Ok w) is there = tt
whole_breaks P one left (Err fault) is there = subst (λ (f : Fault). IsOrBreaks D.Kept P f) (sym is.0) (refl, there is.1)

-- the table with what was played for it
abbrev one_of : Table → ℕ → Restored Table
one_of table plays = record { value = table; plays = plays }

pub returns-in_err-kept-clause-refused : goal.returns-in_err-kept-clause-refused
returns-in_err-kept-clause-refused g c =
    let p = err_from_is_err_and c.from_residual.result c.from_residual.ensures.1 in
    rw (p.1, p.2)
    (or_breaks _ c.in_err-kept.ensures.refused (λ wrong honest few commands holds shown played. wrong (show_games c.args.kit.now commands (shown_of c.args.index c.args.snapshots) shown)))

pub returns-then-done-count-clause-refused : goal.returns-then-done-count-clause-refused
returns-then-done-count-clause-refused g c =
    let file = (g.D.Disk.state c.args.disk.now).content in
    let bytes = bytes_at file c.args.chains.now c.args.index in
    let own = (kept_in c.in_ok-table.table).commands in
    let past : c.args.count < length own = omega (arith, c.if-done-count.true, c.len-done.ensures.value, ap length c.commands-2.ensures) in (
      refl,
      λ honest few commands holds shown played.
          let front = subst (λ (bs : List ℕ). KeepsFront bs own (rest_of file c.begin_at.new.chains)) (c.turn_to.ensures.rest file) (c.in_ok-table.ensures.front honest) in
          too_many bytes (rest_of file c.begin_at.new.chains) c.args.count own commands front past holds,
    )

pub returns-in_err-table-clause-refused : goal.returns-in_err-table-clause-refused
returns-in_err-table-clause-refused g c =
    let p = err_from_is_err_and c.from_residual-in_err-table.result c.from_residual-in_err-table.ensures.1 in
    let file = (g.D.Disk.state c.args.disk.now).content in
    let bytes = bytes_at file c.args.chains.now c.args.index in
    rw (p.1, p.2)
    (breaks_so _ c.in_err-table.ensures.refused (λ none honest few commands holds shown.
    none honest c.args.count few commands (subst (λ (bs : List ℕ). HoldsCommands bs c.args.count commands) (sym (c.turn_to.ensures.rest file)) holds)
    (are_within c.args.kit.now commands (shown_of c.args.index c.args.snapshots) c.in_ok-kept.kept.snapshots c.in_ok-kept.ensures.shown shown)))

pub commands-init : goal.commands-init
commands-init g c =
    let file = (g.D.Disk.state c.args.disk.now).content in
    let bytes = bytes_at file c.args.chains.now c.args.index in
    let own = (kept_in c.in_ok-table.table).commands in
    let counts = counts_read (shown_of c.args.index c.args.snapshots) c.in_ok-kept.kept.snapshots c.in_ok-kept.ensures.shown in
    let behind : length own ≡ begins_behind (counts_shown (shown_of c.args.index c.args.snapshots)) = c.in_ok-table.ensures.behind ∙ ap begins_behind (sym counts) in
    let low : begins_behind (counts_shown (shown_of c.args.index c.args.snapshots)) ≤ length own = omega (arith, behind) in
    record {
      so_far = λ honest.
          let front = subst (λ (bs : List ℕ). KeepsFront bs own (rest_of file c.begin_at.new.chains)) (c.turn_to.ensures.rest file) (c.in_ok-table.ensures.front honest) in
          starts bytes (rest_of file c.begin_at.new.chains) (c.args.count - c.len-done.result) c.args.count c.in_ok-table.table front (c.in_ok-table.ensures.stamped honest)
          (omega (arith, c.if-done-count.false, c.len-done.ensures.value, ap length c.commands-2.ensures));
      played = λ commands front shown.
          c.in_ok-table.ensures.played commands front
          (are_within c.args.kit.now commands (shown_of c.args.index c.args.snapshots) c.in_ok-kept.kept.snapshots c.in_ok-kept.ensures.shown shown);
      named = λ none. c.in_ok-table.ensures.named (none_read (shown_of c.args.index c.args.snapshots) c.in_ok-kept.kept.snapshots c.in_ok-kept.ensures.shown none);
      low = low;
      counted = omega (arith, c.if-done-count.false, c.len-done.ensures.value, ap length c.commands-2.ensures);
      plays = omega (arith, low, c.if-done-count.false, c.len-done.ensures.value, ap length c.commands-2.ensures, behind);
      shown =
          c.in_ok-table.ensures.shown ∙ sym counts ∙ sym (due_first (counts_shown (shown_of c.args.index c.args.snapshots)))
          ∙ ap (with_due (counts_shown (shown_of c.args.index c.args.snapshots))) (sym behind);
      floor = c.in_ok-table.ensures.floor;
      worded = c.in_ok-table.ensures.worded;
      only_reads = reads_on (turned c.turn_to.ensures.all c.turn_to.ensures.pages) (valued c.in_ok-table.ensures.only_reads);
    }

pub commands-preserved : goal.commands-preserved
unfolding content
commands-preserved g c =
    let file = (g.D.Disk.state c.args.disk.now).content in
    let old = c.commands.chains in
    let bytes = bytes_at file c.args.chains.now c.args.index in
    let next = at_true (ShowsNext c.commands.table c.play_next.new.table) c.if-not-more.false c.in_ok-more.ensures.shown in
    let some = at_true (0 < c.commands.left) c.if-not-more.false c.in_ok-more.ensures.some in
    record {
      so_far = λ honest.
          let before = c.in_ok-more.ensures.only_reads.honest honest in
          let next = at_true (g.D.Disk.Honest c.play_next.new.disk → PlaysNext c.args.kit.now (g.D.Disk.state c.commands.disk).content old c.commands.table c.play_next.new.chains c.play_next.new.table) c.if-not-more.false c.in_ok-more.ensures.more honest in
          let plays = subst (λ (f : List ℕ). PlaysNext c.args.kit.now f old c.commands.table c.play_next.new.chains c.play_next.new.table) (ap content (c.commands.invariant.only_reads.same_state before)) next in
          goes_on c.args.kit.now bytes (rest_of file old) (rest_of file c.play_next.new.chains) plays.words c.commands.left (c.commands.left - 1) c.args.count c.commands.table c.play_next.new.table (c.commands.invariant.so_far before) plays.passed (omega (arith, some)) plays.has_played;
      played = λ commands front shown.
          c.in_ok-more.ensures.played (c.commands.invariant.played commands (front_before _ _ _ c.in_ok-more.ensures.front front) shown);
      named = λ none.
          c.in_ok-more.ensures.named (played_whole c.args.kit.now (shown_of c.args.index c.args.snapshots) c.commands.table c.commands.invariant.played none) (c.commands.invariant.named none);
      low = omega (arith, c.commands.invariant.low, next.counted);
      counted = omega (arith, c.commands.invariant.counted, next.counted, some);
      plays = omega (arith, c.commands.invariant.plays, some);
      shown = next_shown (counts_shown (shown_of c.args.index c.args.snapshots)) c.commands.table c.play_next.new.table next c.commands.invariant.low c.commands.invariant.shown;
      floor = c.in_ok-more.ensures.floor ∙ c.commands.invariant.floor;
      worded = c.in_ok-more.ensures.worded c.commands.invariant.worded;
      only_reads = reads_on c.commands.invariant.only_reads (valued c.in_ok-more.ensures.only_reads);
    }

pub returns-in_err-more-clause-refused : goal.returns-in_err-more-clause-refused
unfolding content
returns-in_err-more-clause-refused g c =
    let p = err_from_is_err_and c.from_residual-in_err-more.result c.from_residual-in_err-more.ensures.1 in
    let file = (g.D.Disk.state c.args.disk.now).content in
    let old = c.commands.chains in
    let bytes = bytes_at file c.args.chains.now c.args.index in
    rw (p.1, p.2)
    (breaks_so _ c.in_err-more.ensures.refused (λ refused honest few commands holds shown played.
    let before = c.in_err-more.ensures.only_reads.honest honest in
    let so_far = c.commands.invariant.so_far before in
    let front = held_front bytes (rest_of file old) c.args.count so_far.counts.front (kept_in c.commands.table).commands commands so_far.counts.spells so_far.spelled holds in
    let was_played = c.commands.invariant.played commands front shown in
    let ends_so = subst (λ (f : List ℕ). PlaysNoMore c.args.kit.now (rest_of f old) c.commands.table c.commands.left) (ap content (c.commands.invariant.only_reads.same_state before)) (refused was_played honest) in
    breaks c.args.kit.now bytes (rest_of file old) c.commands.left c.args.count c.commands.table so_far was_played ends_so few (record { commands = commands; kept = holds; played = played })))

pub returns-then-not-more-clause-restored : goal.returns-then-not-more-clause-restored
unfolding content
returns-then-not-more-clause-restored g c =
    let file = (g.D.Disk.state c.args.disk.now).content in
    let old = c.commands.chains in
    whole_is _ (one_of c.play_next.new.table c.commands.plays) c.commands.left c.whole.result c.whole.ensures (λ none honest.
    let before = c.in_ok-more.ensures.only_reads.honest honest in
    let end = at_false (g.D.Disk.Honest c.play_next.new.disk → rest_of (g.D.Disk.state c.commands.disk).content old ≡ []) c.if-not-more.true c.in_ok-more.ensures.end honest in
    let ends_here : rest_of file old ≡ [] = subst (λ (f : List ℕ). rest_of f old ≡ []) (ap content (c.commands.invariant.only_reads.same_state before)) end in
    let same = at_false (c.play_next.new.table ≡ c.commands.table) c.if-not-more.true c.in_ok-more.ensures.same in
    let bytes = bytes_at file c.args.chains.now c.args.index in
    subst (λ (table : Table). HoldsCommands bytes c.args.count (kept_in table).commands) (sym same)
    (ends bytes (rest_of file old) c.commands.left c.args.count c.commands.table (c.commands.invariant.so_far before) ends_here none))

pub returns-then-not-more-clause-played : goal.returns-then-not-more-clause-played
returns-then-not-more-clause-played g c =
    let shown = shown_of c.args.index c.args.snapshots in
    whole_is (λ restored. All (ShowsPlayOf c.args.kit.now (kept_in restored.value).commands) shown → IsPlayed c.args.kit.now restored.value) (one_of c.play_next.new.table c.commands.plays) c.commands.left c.whole.result c.whole.ensures (λ none shows.
    c.in_ok-more.ensures.played (c.commands.invariant.played (kept_in c.play_next.new.table).commands c.in_ok-more.ensures.front shows))

pub returns-then-not-more-clause-named : goal.returns-then-not-more-clause-named
returns-then-not-more-clause-named g c =
    let shown = shown_of c.args.index c.args.snapshots in
    whole_is (λ restored. shown ≡ [] → HasItsSnapshots restored.value) (one_of c.play_next.new.table c.commands.plays) c.commands.left c.whole.result c.whole.ensures (λ left none.
    c.in_ok-more.ensures.named (played_whole c.args.kit.now shown c.commands.table c.commands.invariant.played none) (c.commands.invariant.named none))

pub returns-then-not-more-clause-floor : goal.returns-then-not-more-clause-floor
returns-then-not-more-clause-floor g c =
    whole_is (λ restored. (kept_in restored.value).floor ≡ 0) (one_of c.play_next.new.table c.commands.plays) c.commands.left c.whole.result c.whole.ensures (λ none. c.in_ok-more.ensures.floor ∙ c.commands.invariant.floor)

pub returns-then-not-more-clause-games : goal.returns-then-not-more-clause-games
returns-then-not-more-clause-games g c =
    let shown = shown_of c.args.index c.args.snapshots in
    whole_is (λ restored. All SpellsItsGame shown) (one_of c.play_next.new.table c.commands.plays) c.commands.left c.whole.result c.whole.ensures (λ none. read_are_games shown c.in_ok-kept.kept.snapshots c.in_ok-kept.ensures.shown)

pub returns-then-not-more-clause-worded : goal.returns-then-not-more-clause-worded
returns-then-not-more-clause-worded g c =
    whole_is (λ restored. AreWorded (kept_in restored.value).commands) (one_of c.play_next.new.table c.commands.plays) c.commands.left c.whole.result c.whole.ensures (λ none. c.in_ok-more.ensures.worded c.commands.invariant.worded)

pub returns-then-not-more-clause-refused : goal.returns-then-not-more-clause-refused
unfolding content
returns-then-not-more-clause-refused g c =
    let file = (g.D.Disk.state c.args.disk.now).content in
    let old = c.commands.chains in
    whole_breaks _ (one_of c.play_next.new.table c.commands.plays) c.commands.left c.whole.result c.whole.ensures (λ some honest few commands holds shown played.
    let before = c.in_ok-more.ensures.only_reads.honest honest in
    let end = at_false (g.D.Disk.Honest c.play_next.new.disk → rest_of (g.D.Disk.state c.commands.disk).content old ≡ []) c.if-not-more.true c.in_ok-more.ensures.end honest in
    let ends_here : rest_of file old ≡ [] = subst (λ (f : List ℕ). rest_of f old ≡ []) (ap content (c.commands.invariant.only_reads.same_state before)) end in
    ends_early c.args.kit.now (bytes_at file c.args.chains.now c.args.index) (rest_of file old) c.commands.left c.args.count c.commands.table (c.commands.invariant.so_far before) ends_here some (record { commands = commands; kept = holds; played = played }))

pub returns-then-not-more-clause-plays : goal.returns-then-not-more-clause-plays
returns-then-not-more-clause-plays g c =
    let counts = counts_shown (shown_of c.args.index c.args.snapshots) in
    whole_is (λ restored. restored.plays ≡ plays_behind c.args.count counts) (one_of c.play_next.new.table c.commands.plays) c.commands.left c.whole.result c.whole.ensures (λ none. omega (arith, none, c.commands.invariant.plays))

pub returns-then-not-more-clause-few_plays : goal.returns-then-not-more-clause-few_plays
returns-then-not-more-clause-few_plays g c =
    whole_is (λ restored. restored.plays < 2 ^ 32) (one_of c.play_next.new.table c.commands.plays) c.commands.left c.whole.result c.whole.ensures (λ none. omega (arith, c.commands.invariant.plays))

pub returns-then-not-more-clause-shown : goal.returns-then-not-more-clause-shown
returns-then-not-more-clause-shown g c =
    let counts = counts_shown (shown_of c.args.index c.args.snapshots) in
    whole_is (λ restored. counts_played restored.value.kept.snapshots ≡ with_due counts c.args.count) (one_of c.play_next.new.table c.commands.plays) c.commands.left c.whole.result c.whole.ensures (λ none.
    let same = at_false (c.play_next.new.table ≡ c.commands.table) c.if-not-more.true c.in_ok-more.ensures.same in
    let whole : length (kept_in c.commands.table).commands ≡ c.args.count = omega (arith, none, c.commands.invariant.counted) in
    ap (λ (table : Table). counts_played table.kept.snapshots) same ∙ c.commands.invariant.shown ∙ ap (with_due counts) whole)

pub returns-then-not-more-clause-counted : goal.returns-then-not-more-clause-counted
returns-then-not-more-clause-counted g c =
    whole_is (λ restored. length (kept_in restored.value).commands ≡ c.args.count) (one_of c.play_next.new.table c.commands.plays) c.commands.left c.whole.result c.whole.ensures (λ none.
    let same = at_false (c.play_next.new.table ≡ c.commands.table) c.if-not-more.true c.in_ok-more.ensures.same in
    omega (arith, none, c.commands.invariant.counted, ap (λ (table : Table). length (kept_in table).commands) same))

pub returns-in_err-table-clause-only_reads : goal.returns-in_err-table-clause-only_reads
returns-in_err-table-clause-only_reads g c =
    let p = err_from_is_err_and c.from_residual-in_err-table.result c.from_residual-in_err-table.ensures.1 in
    rw (p.1, p.2) (reads_on (turned c.turn_to.ensures.all c.turn_to.ensures.pages) (failed c.in_err-table.ensures.only_reads))

pub returns-in_err-more-clause-only_reads : goal.returns-in_err-more-clause-only_reads
returns-in_err-more-clause-only_reads g c =
    let p = err_from_is_err_and c.from_residual-in_err-more.result c.from_residual-in_err-more.ensures.1 in
    rw (p.1, p.2) (reads_on c.commands.invariant.only_reads (failed c.in_err-more.ensures.only_reads))

pub returns-then-done-count-clause-only_reads : goal.returns-then-done-count-clause-only_reads
returns-then-done-count-clause-only_reads g c = refused _ (λ never. never) (reads_on (turned c.turn_to.ensures.all c.turn_to.ensures.pages) c.in_ok-table.ensures.only_reads)

whole_reads : {Device : Type 0} {seen : Ghosts Device} {old new : Device} {lent later : Commands} (one : Restored Table) (left : ℕ) (whole : Result (Restored Table) Fault)
    → MatchResult whole (λ w. (w ≡ one) × (left ≡ 0)) (λ fault. (fault ≡ F.Damaged D.Kept) × (left ≢ 0)) → OnlyReads {T = Unit {0}} seen old new lent later (Ok tt) → OnlyReads seen old new lent later whole
whole_reads one left (Ok w) is reads = valued reads
whole_reads one left (Err fault) is reads = refused fault (subst (λ (f : Fault). IsOfDevice f → ⊥) (sym is.0) (λ never. never)) reads

pub returns-then-not-more-clause-only_reads : goal.returns-then-not-more-clause-only_reads
returns-then-not-more-clause-only_reads g c = whole_reads (one_of c.play_next.new.table c.commands.plays) c.commands.left c.whole.result c.whole.ensures (reads_on c.commands.invariant.only_reads (valued c.in_ok-more.ensures.only_reads))
