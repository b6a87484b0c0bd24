use Rattle.std.proofs.Common.{◌≡◌, ◌∙◌, ℕ, ◌*◌, length, ap, subst, rules, [], ◌∷◌, arith, ◌+◌, ◌-◌, ◌<◌, List, Some}
use Rattle.rr_disk.specs.Disk.{after_write}
use Rattle.rr_disk.specs.Moments.{TornFrom}
use Rattle.rr_disk.proofs.MomentLemmas.{weaker}
use Rattle.rr_images.specs.Layout.{KeepsUnder}
use Rattle.rr_checkpoint.specs.Calls.{IsRootAt}
use Rattle.rr_checkpoint.proofs.Steps.{found_at, page_long, page_stops, page_carries}
use Rattle.rr_checkpoint.proofs.Working.{on_err, no_far_page}
use Rattle.rr_disk.specs.Calls.{Write, account}
use Rattle.rr_pages.specs.FreePages.{present_of, coming_of}
use Rattle.rr_checkpoint.proofs.Growing.{done_grows, packed_at, stopped_grows, never_grows}
use Rattle.rr_pages.specs.declared.chain.FreshPage.{FreshPage}
use Rattle.rr_checkpoint.specs.declared.checkpoint.Stage.{Stage}
use Rattle.rr_checkpoint.specs.Checkpoint.{left_at, left_of}
use Rattle.rr_checkpoint.proofs.open_file.OpenFile.write_page.Goals as goal

pub returns-in_err-write-in-Some-clause-stops : goal.returns-in_err-write-in-Some-clause-stops
returns-in_err-write-in-Some-clause-stops g c = λ honest world carries.
    let codec = g.C.Codec.codec in
    let state = g.D.Disk.state c.args.disk.now in
    let stays = g.met.D.Disk.content_may_stay c.args.disk.now (c.in_err-write-in-Some.ensures.honest honest) in
    let lookup = c.in-Some.ensures.lookup in
    let found = found_at c.args.checkpoint.plan.fresh.items c.deref.result.now c.args.written c.in-Some.fresh.now c.deref.ensures.value lookup.3.0 lookup.1 in
    let bytes = c.deref-in-Some.result.now in
    let place : 4096 * c.from.result ≡ 4096 * c.in-Some.fresh.now.page = ap (λ (page : ℕ). 4096 * page) c.from.ensures in
    weaker (c.in_err-write-in-Some.ensures.any_moment honest) (λ image. KeepsUnder codec (IsRootAt (left_of (Some c.args.checkpoint)) carries.layout carries.holding) image world)
    (λ image torn. page_stops codec c.args.self.now c.args.checkpoint state world stays carries c.args.written c.requires.stage c.in-Some.fresh.now found bytes c.deref-in-Some.ensures.value image
    (subst (λ (at : ℕ). TornFrom state at (length bytes) image) place torn))

pub returns-in_ok-write-in-Some-clause-stops : goal.returns-in_ok-write-in-Some-clause-stops
returns-in_ok-write-in-Some-clause-stops g c = λ honest world carries.
    let codec = g.C.Codec.codec in
    let state = g.D.Disk.state c.args.disk.now in
    let stays = g.met.D.Disk.content_may_stay c.args.disk.now (c.in_ok-write-in-Some.ensures.honest honest) in
    let lookup = c.in-Some.ensures.lookup in
    let found = found_at c.args.checkpoint.plan.fresh.items c.deref.result.now c.args.written c.in-Some.fresh.now c.deref.ensures.value lookup.3.0 lookup.1 in
    let bytes = c.deref-in-Some.result.now in
    let place : 4096 * c.from.result ≡ 4096 * c.in-Some.fresh.now.page = ap (λ (page : ℕ). 4096 * page) c.from.ensures in
    weaker (c.in_ok-write-in-Some.ensures.any_moment honest) (λ image. KeepsUnder codec (IsRootAt (left_of (Some c.args.checkpoint)) carries.layout carries.holding) image world)
    (λ image torn. page_stops codec c.args.self.now c.args.checkpoint state world stays carries c.args.written c.requires.stage c.in-Some.fresh.now found bytes c.deref-in-Some.ensures.value image
    (subst (λ (at : ℕ). TornFrom state at (length bytes) image) place torn))

pub returns-in_ok-write-in-Some-clause-carries : goal.returns-in_ok-write-in-Some-clause-carries
returns-in_ok-write-in-Some-clause-carries g c = λ honest world carries.
    let codec = g.C.Codec.codec in
    let state = g.D.Disk.state c.args.disk.now in
    let stays = g.met.D.Disk.content_may_stay c.args.disk.now (c.in_ok-write-in-Some.ensures.honest honest) in
    let lookup = c.in-Some.ensures.lookup in
    let found = found_at c.args.checkpoint.plan.fresh.items c.deref.result.now c.args.written c.in-Some.fresh.now c.deref.ensures.value lookup.3.0 lookup.1 in
    let bytes = c.deref-in-Some.result.now in
    page_carries codec c.args.self.now c.args.checkpoint state world stays carries c.args.written c.requires.stage c.in-Some.fresh.now found bytes c.deref-in-Some.ensures.value
    (g.D.Disk.state c.write.new.disk) (c.in_ok-write-in-Some.ensures.done honest ∙ ap (λ (page : ℕ). after_write state (4096 * page) bytes) c.from.ensures)

pub returns-in_err-write-in-Some-clause-device : goal.returns-in_err-write-in-Some-clause-device
returns-in_err-write-in-Some-clause-device g c =
    on_err c.from_residual.result
    (λ honest world carries works.
    let codec = g.C.Codec.codec in
    let state = g.D.Disk.state c.args.disk.now in
    let stays = g.met.D.Disk.content_may_stay c.args.disk.now (c.in_err-write-in-Some.ensures.honest honest) in
    let lookup = c.in-Some.ensures.lookup in
    let found = found_at c.args.checkpoint.plan.fresh.items c.deref.result.now c.args.written c.in-Some.fresh.now c.deref.ensures.value lookup.3.0 lookup.1 in
    let bytes = c.deref-in-Some.result.now in
    let whole = page_long codec c.args.self.now c.args.checkpoint state world stays carries c.args.written c.requires.stage c.in-Some.fresh.now found bytes c.deref-in-Some.ensures.value in
    let place : 4096 * c.from.result ≡ 4096 * c.in-Some.fresh.now.page = ap (λ (page : ℕ). 4096 * page) c.from.ensures in
    no_far_page c.in-Some.fresh.now.page (4096 * c.from.result) (length bytes) (search rules) place whole (c.in_err-write-in-Some.ensures.refused works))

pub returns-in_err-write-in-Some-clause-grows : goal.returns-in_err-write-in-Some-clause-grows
returns-in_err-write-in-Some-clause-grows g c = λ honest world carries.
    let disk = c.args.disk.now in
    let new = c.write.new.disk in
    let before = c.in_err-write-in-Some.ensures.honest honest in
    let codec = g.C.Codec.codec in
    let free = c.args.self.now.free in
    let stays = g.met.D.Disk.content_may_stay disk before in
    let lookup = c.in-Some.ensures.lookup in
    let found = found_at c.args.checkpoint.plan.fresh.items c.deref.result.now c.args.written c.in-Some.fresh.now c.deref.ensures.value lookup.3.0 lookup.1 in
    let bytes = c.deref-in-Some.result.now in
    let whole = page_long codec c.args.self.now c.args.checkpoint (g.D.Disk.state disk) world stays carries c.args.written c.requires.stage c.in-Some.fresh.now found bytes c.deref-in-Some.ensures.value in
    let place : 4096 * c.from.result ≡ 4096 * c.in-Some.fresh.now.page = ap (λ (page : ℕ). 4096 * page) c.from.ensures in
    let packed = packed_at (present_of free) (coming_of free) c.args.checkpoint.plan.fresh.items c.args.written c.in-Some.fresh.now carries.coming.2 found in
    stopped_grows (account g.D.Disk disk) (account g.D.Disk new) (g.D.Disk.file_len disk) (g.D.Disk.file_len new) (g.met.D.Disk.length_is_told disk before) (g.met.D.Disk.length_is_told new honest)
    (present_of free) (coming_of free) c.in-Some.fresh.now.page packed (Write (4096 * c.from.result) bytes ∷ []) (omega (arith, place, whole), tt) (c.in_err-write-in-Some.ensures.stops honest)

pub returns-in_ok-write-in-Some-clause-grows : goal.returns-in_ok-write-in-Some-clause-grows
returns-in_ok-write-in-Some-clause-grows g c = λ honest world carries.
    let disk = c.args.disk.now in
    let new = c.write.new.disk in
    let before = c.in_ok-write-in-Some.ensures.honest honest in
    let codec = g.C.Codec.codec in
    let free = c.args.self.now.free in
    let stays = g.met.D.Disk.content_may_stay disk before in
    let lookup = c.in-Some.ensures.lookup in
    let found = found_at c.args.checkpoint.plan.fresh.items c.deref.result.now c.args.written c.in-Some.fresh.now c.deref.ensures.value lookup.3.0 lookup.1 in
    let bytes = c.deref-in-Some.result.now in
    let whole = page_long codec c.args.self.now c.args.checkpoint (g.D.Disk.state disk) world stays carries c.args.written c.requires.stage c.in-Some.fresh.now found bytes c.deref-in-Some.ensures.value in
    let place : 4096 * c.from.result ≡ 4096 * c.in-Some.fresh.now.page = ap (λ (page : ℕ). 4096 * page) c.from.ensures in
    let packed = packed_at (present_of free) (coming_of free) c.args.checkpoint.plan.fresh.items c.args.written c.in-Some.fresh.now carries.coming.2 found in
    done_grows (account g.D.Disk disk) (account g.D.Disk new) (g.D.Disk.file_len disk) (g.D.Disk.file_len new) (g.met.D.Disk.length_is_told disk before) (g.met.D.Disk.length_is_told new honest)
    (present_of free) (coming_of free) c.in-Some.fresh.now.page packed (Write (4096 * c.from.result) bytes ∷ []) (omega (arith, place, whole), tt) (c.in_ok-write-in-Some.ensures.calls honest)

pub returns-in_err-write-in-Some-clause-same_len : goal.returns-in_err-write-in-Some-clause-same_len
returns-in_err-write-in-Some-clause-same_len g c = λ honest world carries few.
    let items = c.args.checkpoint.plan.fresh.items in
    let left : left_of (Some c.args.checkpoint) ≡ length items - c.args.written + 3 = ap (λ (stage : Stage). left_at stage (length items)) c.requires.stage in
    let below : c.args.written < length items = subst (λ (pages : List FreshPage). c.args.written < length pages) c.deref.ensures.value c.in-Some.ensures.lookup.3.0 in
    absurd (omega (arith, few, left, below))

pub returns-in_ok-write-in-Some-clause-same_len : goal.returns-in_ok-write-in-Some-clause-same_len
returns-in_ok-write-in-Some-clause-same_len g c = λ honest world carries few.
    let items = c.args.checkpoint.plan.fresh.items in
    let left : left_of (Some c.args.checkpoint) ≡ length items - c.args.written + 3 = ap (λ (stage : Stage). left_at stage (length items)) c.requires.stage in
    let below : c.args.written < length items = subst (λ (pages : List FreshPage). c.args.written < length pages) c.deref.ensures.value c.in-Some.ensures.lookup.3.0 in
    absurd (omega (arith, few, left, below))

pub returns-in-None-clause-grows : goal.returns-in-None-clause-grows
returns-in-None-clause-grows g c = λ honest world carries. never_grows (c.shut_stale.ensures.same_len honest world carries)

pub returns-in-None-clause-same_len : goal.returns-in-None-clause-same_len
returns-in-None-clause-same_len g c = λ honest world carries few. c.shut_stale.ensures.same_len honest world carries
