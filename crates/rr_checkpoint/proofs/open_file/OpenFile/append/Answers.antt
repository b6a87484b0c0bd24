use Rattle.std.proofs.Common.{◌⊎◌, inl, Err, ap}
use Rattle.rr_disk.proofs.MomentLemmas.{started, weaker}
use Rattle.rr_images.specs.Layout.{IsSameRoot, KeepsUnder}
use Rattle.rr_images.proofs.Ticks.{still_root}
use Rattle.rr_checkpoint.proofs.Records.{record_ready, record_stops, record_carries}
use Rattle.rr_disk.specs.Calls.{account}
use Rattle.rr_pages.specs.Journal.Stops.{appending}
use Rattle.rr_checkpoint.proofs.Growing.{append_within, done_stays, half_or_device, stopped_stays}
use Rattle.rr_checkpoint.proofs.Working.{is_long}
use Rattle.rr_checkpoint.proofs.open_file.OpenFile.append.Goals as goal

pub returns-then-not-has_room-clause-stops : goal.returns-then-not-has_room-clause-stops
returns-then-not-has_room-clause-stops g c = λ honest old new takes checkpoint carries.
    let disk = c.args.disk.now in
    started (g.D.Disk.past disk) (g.D.Disk.state disk) (λ image. KeepsUnder g.C.Codec.codec (IsSameRoot carries.layout) image old ⊎ KeepsUnder g.C.Codec.codec (IsSameRoot carries.layout) image new)
    (λ image is. inl (record { layout = carries.layout; kept = carries.between.each image is; is_root = still_root carries.layout }))

pub returns-in_err-append-clause-stops : goal.returns-in_err-append-clause-stops
returns-in_err-append-clause-stops g c = λ honest old new takes checkpoint carries.
    let file = c.args.self.now in
    let state = g.D.Disk.state c.args.disk.now in
    let stays = g.met.D.Disk.content_may_stay c.args.disk.now (c.in_err-append.ensures.honest honest) in
    let room = c.has_room.ensures.0 c.if-not-has_room.false in
    let ready = record_ready g.C.Codec.codec file checkpoint state old new stays carries c.args.line.now takes room c.requires.number in
    weaker (c.in_err-append.ensures.any_moment honest ready) (λ image. KeepsUnder g.C.Codec.codec (IsSameRoot carries.layout) image old ⊎ KeepsUnder g.C.Codec.codec (IsSameRoot carries.layout) image new)
    (record_stops g.C.Codec.codec file checkpoint state old new stays carries c.args.line.now takes room c.requires.number)

pub returns-clause-stops : goal.returns-clause-stops
returns-clause-stops g c = λ honest old new takes checkpoint carries.
    let file = c.args.self.now in
    let state = g.D.Disk.state c.args.disk.now in
    let stays = g.met.D.Disk.content_may_stay c.args.disk.now (c.in_ok-append.ensures.honest honest) in
    let room = c.has_room.ensures.0 c.if-not-has_room.false in
    let ready = record_ready g.C.Codec.codec file checkpoint state old new stays carries c.args.line.now takes room c.requires.number in
    weaker (c.in_ok-append.ensures.any_moment honest ready) (λ image. KeepsUnder g.C.Codec.codec (IsSameRoot carries.layout) image old ⊎ KeepsUnder g.C.Codec.codec (IsSameRoot carries.layout) image new)
    (record_stops g.C.Codec.codec file checkpoint state old new stays carries c.args.line.now takes room c.requires.number)

pub returns-clause-carries : goal.returns-clause-carries
returns-clause-carries g c = λ honest old new takes checkpoint carries.
    let file = c.args.self.now in
    let state = g.D.Disk.state c.args.disk.now in
    let stays = g.met.D.Disk.content_may_stay c.args.disk.now (c.in_ok-append.ensures.honest honest) in
    let room = c.has_room.ensures.0 c.if-not-has_room.false in
    record_carries g.C.Codec.codec file checkpoint state old new stays carries c.args.line.now takes room c.requires.number
    c.append.new.self c.append.new.buffer (g.D.Disk.state c.append.new.disk) c.in_ok-append.ensures.ok (c.in_ok-append.ensures.written honest)

pub returns-in_err-append-clause-same_len : goal.returns-in_err-append-clause-same_len
returns-in_err-append-clause-same_len g c = λ honest checkpoint world carries.
    let disk = c.args.disk.now in
    let new = c.append.new.disk in
    let before = c.in_err-append.ensures.honest honest in
    let enough = is_long g.C.Codec.codec c.args.self.now checkpoint (g.D.Disk.state disk) world (g.met.D.Disk.content_may_stay disk before) carries (g.D.Disk.file_len disk) (g.met.D.Disk.length_is_told disk before) in
    let room = c.has_room.ensures.0 c.if-not-has_room.false in
    half_or_device (Unit {0}) c.in_err-append.field-0.0 c.in_err-append.ensures.only c.in_err-append.ensures.stops (λ full. ap (λ (d : g.row.D.Denot). g.D.Disk.file_len d) (c.in_err-append.ensures.no_call (ap Err full)))
    (λ stops.
    stopped_stays (account g.D.Disk disk) (account g.D.Disk new) (g.D.Disk.file_len disk) (g.D.Disk.file_len new) (g.met.D.Disk.length_is_told disk before) (g.met.D.Disk.length_is_told new honest) enough
    (appending c.args.self.now.place.half c.args.self.now.place.number c.args.line.now) (append_within c.args.self.now.place.half c.args.self.now.place.number c.args.line.now room) (stops honest))

pub returns-clause-same_len : goal.returns-clause-same_len
returns-clause-same_len g c = λ honest checkpoint world carries.
    let disk = c.args.disk.now in
    let new = c.append.new.disk in
    let before = c.in_ok-append.ensures.honest honest in
    let enough = is_long g.C.Codec.codec c.args.self.now checkpoint (g.D.Disk.state disk) world (g.met.D.Disk.content_may_stay disk before) carries (g.D.Disk.file_len disk) (g.met.D.Disk.length_is_told disk before) in
    let room = c.has_room.ensures.0 c.if-not-has_room.false in
    done_stays (account g.D.Disk disk) (account g.D.Disk new) (g.D.Disk.file_len disk) (g.D.Disk.file_len new) (g.met.D.Disk.length_is_told disk before) (g.met.D.Disk.length_is_told new honest) enough
    (appending c.args.self.now.place.half c.args.self.now.place.number c.args.line.now) (append_within c.args.self.now.place.half c.args.self.now.place.number c.args.line.now room) (c.in_ok-append.ensures.calls honest)
