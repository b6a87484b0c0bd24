use Rattle.std.proofs.Common.{◌+◌, length, None, Option, ℕ, subst, arith}
use Rattle.rr_disk.proofs.MomentLemmas.{weaker}
use Rattle.rr_images.specs.Layout.{IsSameRoot, KeepsUnder}
use Rattle.rr_checkpoint.specs.OpenFile.{IsBegunAt}
use Rattle.rr_checkpoint.proofs.Records.{begin_stops, begin_carries}
use Rattle.rr_checkpoint.proofs.Working.{on_err, is_long, no_short_half}
use Rattle.rr_disk.specs.Calls.{account}
use Rattle.rr_checkpoint.proofs.Growing.{shut_stays, shutting_stays}
use Rattle.rr_checkpoint.proofs.open_file.OpenFile.begin.Goals as goal

pub returns-in_err-shut-clause-stops : goal.returns-in_err-shut-clause-stops
returns-in_err-shut-clause-stops g c = λ honest world carries.
    let file = c.args.self.now in
    let stays = g.met.D.Disk.content_may_stay c.args.disk.now (c.in_err-shut.ensures.honest honest) in
    let none = subst (λ (begun : Option ℕ). IsBegunAt begun (carries.layout.root.first + length carries.layout.near) carries.layout.far) c.requires carries.tells.begun in
    weaker (c.in_err-shut.ensures.any_moment honest) (λ image. KeepsUnder g.C.Codec.codec (IsSameRoot carries.layout) image world)
    (begin_stops g.C.Codec.codec file (g.D.Disk.state c.args.disk.now) world stays carries none c.other.result c.other.ensures c.next_gate.result c.next_gate.ensures.place)

pub returns-clause-stops : goal.returns-clause-stops
returns-clause-stops g c = λ honest world carries.
    let file = c.args.self.now in
    let stays = g.met.D.Disk.content_may_stay c.args.disk.now (c.in_ok-shut.ensures.honest honest) in
    let none = subst (λ (begun : Option ℕ). IsBegunAt begun (carries.layout.root.first + length carries.layout.near) carries.layout.far) c.requires carries.tells.begun in
    weaker (c.in_ok-shut.ensures.any_moment honest) (λ image. KeepsUnder g.C.Codec.codec (IsSameRoot carries.layout) image world)
    (begin_stops g.C.Codec.codec file (g.D.Disk.state c.args.disk.now) world stays carries none c.other.result c.other.ensures c.next_gate.result c.next_gate.ensures.place)

pub returns-clause-carries : goal.returns-clause-carries
returns-clause-carries g c = λ honest world carries plan holding is_plan coming next packed.
    let file = c.args.self.now in
    let stays = g.met.D.Disk.content_may_stay c.args.disk.now (c.in_ok-shut.ensures.honest honest) in
    let none = subst (λ (begun : Option ℕ). IsBegunAt begun (carries.layout.root.first + length carries.layout.near) carries.layout.far) c.requires carries.tells.begun in
    begin_carries g.C.Codec.codec file (g.D.Disk.state c.args.disk.now) world stays carries none c.other.result c.other.ensures c.next_gate.result c.next_gate.ensures.place
    plan holding is_plan coming next packed (g.D.Disk.state c.shut.new.disk) (c.in_ok-shut.ensures.done honest)

pub returns-in_err-shut-clause-device : goal.returns-in_err-shut-clause-device
returns-in_err-shut-clause-device g c =
    on_err c.from_residual.result
    (λ honest world carries works.
    let disk = c.args.disk.now in
    let before = c.in_err-shut.ensures.honest honest in
    let enough = is_long g.C.Codec.codec c.args.self.now None (g.D.Disk.state disk) world (g.met.D.Disk.content_may_stay disk before) carries (g.D.Disk.file_len disk) (g.met.D.Disk.length_is_told disk before) in
    no_short_half (g.D.Disk.file_len disk) c.next_gate.result enough c.next_gate.ensures.small (c.in_err-shut.ensures.refused works))

pub returns-in_err-shut-clause-same_len : goal.returns-in_err-shut-clause-same_len
returns-in_err-shut-clause-same_len g c = λ honest world carries.
    let disk = c.args.disk.now in
    let new = c.shut.new.disk in
    let before = c.in_err-shut.ensures.honest honest in
    let enough = is_long g.C.Codec.codec c.args.self.now None (g.D.Disk.state disk) world (g.met.D.Disk.content_may_stay disk before) carries (g.D.Disk.file_len disk) (g.met.D.Disk.length_is_told disk before) in
    shutting_stays (account g.D.Disk disk) (account g.D.Disk new) (g.D.Disk.file_len disk) (g.D.Disk.file_len new) (g.met.D.Disk.length_is_told disk before) (g.met.D.Disk.length_is_told new honest) enough
    c.next_gate.result (omega (arith, c.next_gate.ensures.small)) (c.in_err-shut.ensures.stops honest)

pub returns-clause-same_len : goal.returns-clause-same_len
returns-clause-same_len g c = λ honest world carries.
    let disk = c.args.disk.now in
    let new = c.shut.new.disk in
    let before = c.in_ok-shut.ensures.honest honest in
    let enough = is_long g.C.Codec.codec c.args.self.now None (g.D.Disk.state disk) world (g.met.D.Disk.content_may_stay disk before) carries (g.D.Disk.file_len disk) (g.met.D.Disk.length_is_told disk before) in
    shut_stays (account g.D.Disk disk) (account g.D.Disk new) (g.D.Disk.file_len disk) (g.D.Disk.file_len new) (g.met.D.Disk.length_is_told disk before) (g.met.D.Disk.length_is_told new honest) enough
    c.next_gate.result (omega (arith, c.next_gate.ensures.small)) (c.in_ok-shut.ensures.calls honest)
