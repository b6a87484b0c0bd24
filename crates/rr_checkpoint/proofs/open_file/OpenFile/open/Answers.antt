use Rattle.rr_disk.proofs.MomentLemmas.{weaker}
use Rattle.rr_images.specs.Layout.{KeepsUnder}
use Rattle.rr_checkpoint.specs.Calls.{IsRootAt}
use Rattle.rr_checkpoint.specs.Checkpoint.{left_of}
use Rattle.rr_checkpoint.proofs.Steps.{open_stops, open_renews, open_carries}
use Rattle.std.proofs.Common.{[], ◌∷◌, Some, not}
use Rattle.rr_disk.specs.Calls.{Write, Sync, account}
use Rattle.rr_pages.specs.Roots.{root_gate}
use Rattle.rr_checkpoint.proofs.Growing.{done_stays, open_within, stopped_stays}
use Rattle.rr_checkpoint.proofs.Working.{is_long}
use Rattle.rr_checkpoint.proofs.open_file.OpenFile.open.Goals as goal

pub returns-in_err-open-clause-stops : goal.returns-in_err-open-clause-stops
returns-in_err-open-clause-stops g c = λ honest world carries.
    let stays = g.met.D.Disk.content_may_stay c.args.disk.now (c.in_err-open.ensures.honest honest) in
    weaker (c.in_err-open.ensures.any_moment honest) (λ image. KeepsUnder g.C.Codec.codec (IsRootAt (left_of (Some c.args.checkpoint.now)) carries.layout carries.holding) image world)
    (open_stops g.C.Codec.codec c.args.self.now c.args.checkpoint.now (g.D.Disk.state c.args.disk.now) world stays carries c.requires.stage)

pub returns-clause-stops : goal.returns-clause-stops
returns-clause-stops g c = λ honest world carries.
    let stays = g.met.D.Disk.content_may_stay c.args.disk.now (c.in_ok-open.ensures.honest honest) in
    weaker (c.in_ok-open.ensures.any_moment honest) (λ image. KeepsUnder g.C.Codec.codec (IsRootAt (left_of (Some c.args.checkpoint.now)) carries.layout carries.holding) image world)
    (open_stops g.C.Codec.codec c.args.self.now c.args.checkpoint.now (g.D.Disk.state c.args.disk.now) world stays carries c.requires.stage)

pub returns-clause-carries : goal.returns-clause-carries
returns-clause-carries g c = λ honest world carries.
    let stays = g.met.D.Disk.content_may_stay c.args.disk.now (c.in_ok-open.ensures.honest honest) in
    open_carries g.C.Codec.codec c.args.self.now c.args.checkpoint.now (g.D.Disk.state c.args.disk.now) world stays carries c.requires.stage
    (g.D.Disk.state c.open.new.disk) (c.in_ok-open.ensures.done honest) c.open.new.self.taken c.reclaim.new.self c.in_ok-open.ensures.taken c.reclaim.ensures.present

pub returns-clause-renews : goal.returns-clause-renews
returns-clause-renews g c = λ honest world carries.
    let stays = g.met.D.Disk.content_may_stay c.args.disk.now (c.in_ok-open.ensures.honest honest) in
    open_renews g.C.Codec.codec c.args.self.now c.args.checkpoint.now (g.D.Disk.state c.args.disk.now) world stays carries c.requires.stage
    (g.D.Disk.state c.open.new.disk) (c.in_ok-open.ensures.done honest)

pub returns-in_err-open-clause-same_len : goal.returns-in_err-open-clause-same_len
returns-in_err-open-clause-same_len g c = λ honest world carries.
    let disk = c.args.disk.now in
    let new = c.open.new.disk in
    let before = c.in_err-open.ensures.honest honest in
    let enough = is_long g.C.Codec.codec c.args.self.now (Some c.args.checkpoint.now) (g.D.Disk.state disk) world (g.met.D.Disk.content_may_stay disk before) carries (g.D.Disk.file_len disk) (g.met.D.Disk.length_is_told disk before) in
    stopped_stays (account g.D.Disk disk) (account g.D.Disk new) (g.D.Disk.file_len disk) (g.D.Disk.file_len new) (g.met.D.Disk.length_is_told disk before) (g.met.D.Disk.length_is_told new honest) enough
    (Write (root_gate (not c.args.self.now.taken.side)) (165 ∷ []) ∷ Sync ∷ []) (open_within (not c.args.self.now.taken.side)) (c.in_err-open.ensures.stops honest)

pub returns-clause-same_len : goal.returns-clause-same_len
returns-clause-same_len g c = λ honest world carries.
    let disk = c.args.disk.now in
    let new = c.open.new.disk in
    let before = c.in_ok-open.ensures.honest honest in
    let enough = is_long g.C.Codec.codec c.args.self.now (Some c.args.checkpoint.now) (g.D.Disk.state disk) world (g.met.D.Disk.content_may_stay disk before) carries (g.D.Disk.file_len disk) (g.met.D.Disk.length_is_told disk before) in
    done_stays (account g.D.Disk disk) (account g.D.Disk new) (g.D.Disk.file_len disk) (g.D.Disk.file_len new) (g.met.D.Disk.length_is_told disk before) (g.met.D.Disk.length_is_told new honest) enough
    (Write (root_gate (not c.args.self.now.taken.side)) (165 ∷ []) ∷ Sync ∷ []) (open_within (not c.args.self.now.taken.side)) (c.in_ok-open.ensures.calls honest)
