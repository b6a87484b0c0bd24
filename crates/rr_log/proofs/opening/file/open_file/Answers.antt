use Rattle.std.proofs.Common.{◌≡◌, ℕ, List, Err, length, sym, ◌∙◌, ap, subst}
use Rattle.std.proofs.lemmas.List.{length-map}
use Rattle.std.proofs.lemmas.Result.{err_from_is_err_and}
use Rattle.rr_checkpoint.specs.Writer.{place_of}
use Rattle.rr_disk.specs.Disk.{DiskState}
use Rattle.rr_images.specs.Layout.{Stands}
use Rattle.rr_log.specs.declared.opening.opened.Opened.{Opened}
use Rattle.rr_log.specs.Opening.Opened.{held_by}
use Rattle.rr_log.specs.Opening.Place.{GoesBehind}
use Rattle.rr_log.proofs.OpeningLemmas.Layouts.{carries_read}
use Rattle.rr_log.proofs.OpeningLemmas.Refusals.{device_refuses, memory_refuses, stands_no_verdict}
use Rattle.rr_log.proofs.OpeningLemmas.Standings.{as_many}
use Rattle.rr_log.proofs.OpeningLemmas.Syncs.{synced_left, read_left}
use Rattle.rr_pages.specs.declared.choosing.Taken.{Taken}
use Rattle.rr_reading.specs.declared.contents.Contents.{Contents}
use Rattle.rr_reading.specs.Chains.{held}
use Rattle.rr_reading.specs.Held.{Held, GoesOn, held_of}
use Rattle.rr_reading.specs.Reading.{Holds}
use Rattle.rr_log.proofs.opening.file.open_file.Goals as goal
use Rattle.rr_pages.specs.Journal.Layout.{other_half}

content : DiskState → List ℕ
content state = state.content

-- it gives what was read of a file that holds that
opened_same : {C : Type 0} (opened : Opened C) (contents : Contents) → (length contents.dir.snapshots.items ≡ length contents.snapshots.items → (file : List ℕ) → held_by file opened ≡ held_of file contents)
    → (file : List ℕ) → Holds file (held_of file contents) → held_by file opened ≡ held_of file contents
opened_same opened contents same file holds = same (as_many file (held_of file contents) holds ∙ length-map contents.snapshots.items held) file

pub returns-in_err-sync-clause-stops : goal.returns-in_err-sync-clause-stops
returns-in_err-sync-clause-stops g c = λ honest.
    let disk = c.args.disk.now in
    let new = c.sync.new.disk in
    synced_left (g.D.Disk.past disk) (g.D.Disk.state disk) (g.D.Disk.past new) (g.D.Disk.state new) c.sync.result (c.sync.ensures.synced honest)
    (g.met.D.Disk.content_may_stay disk (c.sync.ensures.honest honest))

pub returns-in_err-contents-clause-only : goal.returns-in_err-contents-clause-only
unfolding content
returns-in_err-contents-clause-only g c =
    let p = err_from_is_err_and c.from_residual-in_err-contents.result c.from_residual-in_err-contents.ensures.1 in
    let codec = g.C.Codec.codec in
    let then = g.D.Disk.state c.sync.new.disk in
    rw (p.1, p.2) (λ honest exact names forms world stands.
    let was = c.in_ok-sync.ensures.synced (c.in_err-contents.ensures.honest honest) in
    let same = ap content was.settled in
    stands_no_verdict codec then.content _ (c.in_err-contents.ensures.read honest) exact names forms world (subst (λ (file : List ℕ). Stands codec file world) (sym same) stands))

pub returns-in_err-contents-clause-stops : goal.returns-in_err-contents-clause-stops
returns-in_err-contents-clause-stops g c = λ honest.
    let disk = c.args.disk.now in
    let read = c.read_file.ensures.honest honest in
    read_left (g.D.Disk.past disk) (g.D.Disk.state disk) (c.in_ok-sync.ensures.synced read) (c.read_file.ensures.same_past honest) (c.read_file.ensures.same_state honest)
    (g.met.D.Disk.content_may_stay disk (c.sync.ensures.honest read))

pub returns-in_err-opened-clause-stops : goal.returns-in_err-opened-clause-stops
returns-in_err-opened-clause-stops g c = λ honest.
    let disk = c.args.disk.now in
    let read = c.read_file.ensures.honest honest in
    read_left (g.D.Disk.past disk) (g.D.Disk.state disk) (c.in_ok-sync.ensures.synced read) (c.read_file.ensures.same_past honest) (c.read_file.ensures.same_state honest)
    (g.met.D.Disk.content_may_stay disk (c.sync.ensures.honest read))

pub returns-clause-carries : goal.returns-clause-carries
unfolding content
returns-clause-carries g c = λ honest exact names world keeps.
    let old = g.D.Disk.state c.args.disk.now in
    let new = g.D.Disk.state c.read_file.new.disk in
    let opened = c.in_ok-opened.opened in
    let was = c.in_ok-sync.ensures.synced (c.read_file.ensures.honest honest) in
    let contents = c.in_ok-contents.contents in
    let read : Holds (g.D.Disk.state c.sync.new.disk).content (held_of (g.D.Disk.state c.sync.new.disk).content contents) = c.in_ok-contents.ensures.read honest in
    let first_high = read.chains.has_directory.taken.1.sound.first_high in
    let there = subst (λ (file : List ℕ). Holds file (held_of file contents)) (ap content was.settled) read in
    let same : held_by old.content opened ≡ held_of old.content contents = opened_same opened contents c.in_ok-opened.ensures.held old.content there in
    let holds = subst (λ (has : Held). Holds old.content has) (sym same) there in
    let goes = subst (λ (has : Held). GoesBehind has.root has.near has.far (place_of opened.writer)) (sym same) (c.in_ok-opened.ensures.place first_high) in
    carries_read g.C.Codec.codec opened old new holds goes c.in_ok-opened.ensures.resting (c.read_file.ensures.same_state honest ∙ was.settled) exact names world keeps

pub returns-clause-stops : goal.returns-clause-stops
returns-clause-stops g c = λ honest.
    let disk = c.args.disk.now in
    let read = c.read_file.ensures.honest honest in
    read_left (g.D.Disk.past disk) (g.D.Disk.state disk) (c.in_ok-sync.ensures.synced read) (c.read_file.ensures.same_past honest) (c.read_file.ensures.same_state honest)
    (g.met.D.Disk.content_may_stay disk (c.sync.ensures.honest read))

pub returns-in_err-sync-clause-refused : goal.returns-in_err-sync-clause-refused
returns-in_err-sync-clause-refused g c =
    let p = err_from_is_err_and c.from_residual.result c.from_residual.ensures.1 in
    rw (p.1, p.2) (λ honest. device_refuses (g.D.Disk.state c.args.disk.now).content _ c.in_err-sync.ensures.only (λ is. c.in_err-sync.ensures.memory (ap (λ f. Err f) is)))

pub returns-in_err-opened-clause-refused : goal.returns-in_err-opened-clause-refused
unfolding content
returns-in_err-opened-clause-refused g c =
    let p = err_from_is_err_and c.from_residual-in_err-opened.result c.from_residual-in_err-opened.ensures.1 in
    rw (p.1, p.2) (λ honest.
    let was = c.in_ok-sync.ensures.synced (c.read_file.ensures.honest honest) in
    memory_refuses (g.D.Disk.state c.args.disk.now).content (g.D.Disk.state c.sync.new.disk).content (held_of (g.D.Disk.state c.sync.new.disk).content c.in_ok-contents.contents) _ (ap content was.settled) (c.in_ok-contents.ensures.read honest) c.in_err-opened.ensures.memory)

pub returns-clause-near : goal.returns-clause-near
returns-clause-near g c =
    let opened = c.in_ok-opened.opened in
    subst (λ (taken : Taken). GoesOn taken.root.half opened.near) (sym c.in_ok-opened.ensures.taken) c.in_ok-opened.ensures.near

pub returns-clause-far : goal.returns-clause-far
returns-clause-far g c =
    let opened = c.in_ok-opened.opened in
    subst (λ (taken : Taken). GoesOn (other_half taken.root.half) opened.far) (sym c.in_ok-opened.ensures.taken) c.in_ok-opened.ensures.far

pub returns-clause-holds : goal.returns-clause-holds
unfolding content
returns-clause-holds g c = λ honest.
    let old = g.D.Disk.state c.args.disk.now in
    let opened = c.in_ok-opened.opened in
    let was = c.in_ok-sync.ensures.synced (c.read_file.ensures.honest honest) in
    let contents = c.in_ok-contents.contents in
    let read : Holds (g.D.Disk.state c.sync.new.disk).content (held_of (g.D.Disk.state c.sync.new.disk).content contents) = c.in_ok-contents.ensures.read honest in
    let there = subst (λ (file : List ℕ). Holds file (held_of file contents)) (ap content was.settled) read in
    subst (λ (has : Held). Holds old.content has) (sym (opened_same opened contents c.in_ok-opened.ensures.held old.content there)) there

pub returns-clause-place : goal.returns-clause-place
unfolding content
returns-clause-place g c = λ honest.
    let old = g.D.Disk.state c.args.disk.now in
    let opened = c.in_ok-opened.opened in
    let was = c.in_ok-sync.ensures.synced (c.read_file.ensures.honest honest) in
    let contents = c.in_ok-contents.contents in
    let read : Holds (g.D.Disk.state c.sync.new.disk).content (held_of (g.D.Disk.state c.sync.new.disk).content contents) = c.in_ok-contents.ensures.read honest in
    let there = subst (λ (file : List ℕ). Holds file (held_of file contents)) (ap content was.settled) read in
    let same = opened_same opened contents c.in_ok-opened.ensures.held old.content there in
    let first_high = read.chains.has_directory.taken.1.sound.first_high in
    subst (λ (has : Held). GoesBehind has.root has.near has.far (place_of opened.writer)) (sym same) (c.in_ok-opened.ensures.place first_high)

pub returns-clause-snapshots : goal.returns-clause-snapshots
returns-clause-snapshots g c = λ honest.
    let contents = c.in_ok-contents.contents in
    let file = (g.D.Disk.state c.sync.new.disk).content in
    let read : Holds file (held_of file contents) = c.in_ok-contents.ensures.read honest in
    c.in_ok-opened.ensures.snapshots (as_many file (held_of file contents) read ∙ length-map contents.snapshots.items held)
