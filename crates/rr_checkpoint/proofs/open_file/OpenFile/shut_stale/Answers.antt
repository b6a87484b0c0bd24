use Rattle.std.proofs.Common.{Some, not}
use Rattle.rr_disk.proofs.MomentLemmas.{weaker}
use Rattle.rr_images.specs.Layout.{KeepsUnder}
use Rattle.rr_checkpoint.specs.Calls.{IsRootAt}
use Rattle.rr_checkpoint.specs.Checkpoint.{left_of}
use Rattle.rr_checkpoint.proofs.Steps.{shut_stops, shut_carries}
use Rattle.rr_checkpoint.proofs.Working.{on_err, is_long, no_short_root}
use Rattle.rr_disk.specs.Calls.{account}
use Rattle.rr_checkpoint.proofs.Growing.{gate_within, shut_stays, shutting_stays}
use Rattle.rr_pages.specs.Roots.{root_gate}
use Rattle.rr_checkpoint.proofs.open_file.OpenFile.shut_stale.Goals as goal

pub returns-in_err-close-clause-stops : goal.returns-in_err-close-clause-stops
returns-in_err-close-clause-stops g c = λ honest world carries.
    let stays = g.met.D.Disk.content_may_stay c.args.disk.now (c.in_err-close.ensures.honest honest) in
    weaker (c.in_err-close.ensures.any_moment honest) (λ image. KeepsUnder g.C.Codec.codec (IsRootAt (left_of (Some c.args.checkpoint)) carries.layout carries.holding) image world)
    (shut_stops g.C.Codec.codec c.args.self.now c.args.checkpoint (g.D.Disk.state c.args.disk.now) world stays carries c.args.written c.requires.stage c.requires.all)

pub returns-clause-stops : goal.returns-clause-stops
returns-clause-stops g c = λ honest world carries.
    let stays = g.met.D.Disk.content_may_stay c.args.disk.now (c.in_ok-close.ensures.honest honest) in
    weaker (c.in_ok-close.ensures.any_moment honest) (λ image. KeepsUnder g.C.Codec.codec (IsRootAt (left_of (Some c.args.checkpoint)) carries.layout carries.holding) image world)
    (shut_stops g.C.Codec.codec c.args.self.now c.args.checkpoint (g.D.Disk.state c.args.disk.now) world stays carries c.args.written c.requires.stage c.requires.all)

pub returns-clause-carries : goal.returns-clause-carries
returns-clause-carries g c = λ honest world carries.
    let stays = g.met.D.Disk.content_may_stay c.args.disk.now (c.in_ok-close.ensures.honest honest) in
    shut_carries g.C.Codec.codec c.args.self.now c.args.checkpoint (g.D.Disk.state c.args.disk.now) world stays carries c.args.written c.requires.stage c.requires.all
    (g.D.Disk.state c.close.new.disk) (c.in_ok-close.ensures.done honest)

pub returns-in_err-close-clause-device : goal.returns-in_err-close-clause-device
returns-in_err-close-clause-device g c =
    on_err c.from_residual.result
    (λ honest world carries works.
    let disk = c.args.disk.now in
    let before = c.in_err-close.ensures.honest honest in
    let enough = is_long g.C.Codec.codec c.args.self.now (Some c.args.checkpoint) (g.D.Disk.state disk) world (g.met.D.Disk.content_may_stay disk before) carries (g.D.Disk.file_len disk) (g.met.D.Disk.length_is_told disk before) in
    no_short_root (g.D.Disk.file_len disk) (not c.args.self.now.taken.side) enough (c.in_err-close.ensures.refused works))

pub returns-in_err-close-clause-same_len : goal.returns-in_err-close-clause-same_len
returns-in_err-close-clause-same_len g c = λ honest world carries.
    let disk = c.args.disk.now in
    let new = c.close.new.disk in
    let before = c.in_err-close.ensures.honest honest in
    let enough = is_long g.C.Codec.codec c.args.self.now (Some c.args.checkpoint) (g.D.Disk.state disk) world (g.met.D.Disk.content_may_stay disk before) carries (g.D.Disk.file_len disk) (g.met.D.Disk.length_is_told disk before) in
    shutting_stays (account g.D.Disk disk) (account g.D.Disk new) (g.D.Disk.file_len disk) (g.D.Disk.file_len new) (g.met.D.Disk.length_is_told disk before) (g.met.D.Disk.length_is_told new honest) enough
    (root_gate (not c.args.self.now.taken.side)) (gate_within (not c.args.self.now.taken.side)) (c.in_err-close.ensures.stops honest)

pub returns-clause-same_len : goal.returns-clause-same_len
returns-clause-same_len g c = λ honest world carries.
    let disk = c.args.disk.now in
    let new = c.close.new.disk in
    let before = c.in_ok-close.ensures.honest honest in
    let enough = is_long g.C.Codec.codec c.args.self.now (Some c.args.checkpoint) (g.D.Disk.state disk) world (g.met.D.Disk.content_may_stay disk before) carries (g.D.Disk.file_len disk) (g.met.D.Disk.length_is_told disk before) in
    shut_stays (account g.D.Disk disk) (account g.D.Disk new) (g.D.Disk.file_len disk) (g.D.Disk.file_len new) (g.met.D.Disk.length_is_told disk before) (g.met.D.Disk.length_is_told new honest) enough
    (root_gate (not c.args.self.now.taken.side)) (gate_within (not c.args.self.now.taken.side)) (c.in_ok-close.ensures.calls honest)
