use Rattle.std.proofs.Common.{◌≡◌, ◌↔◌, ◌<◌, Bool, true, false, Option, Result, Ok, Err, IsTrue, refl, sym, subst, ◌∙◌, arith}
use Rattle.std.proofs.lemmas.Result.{err_from_is_err_and}
use Rattle.rr_log.specs.declared.fault.Fault.{Fault}
use Rattle.rr_log.specs.declared.fault.Fault.TheVariants as F
use Rattle.rr_log.specs.declared.keeping.PutOff.{PutOff}
use Rattle.rr_log.specs.declared.log.Log.{Log}
use Rattle.rr_log.specs.Lent.{lent_of}
use Rattle.rr_log.specs.Log.{ticks_left}
use Rattle.rr_tables.specs.declared.records.rules.TableRules.{TableRules}
use Rattle.rr_store.specs.Keeping.{length_on}
use Rattle.rr_store.proofs.KeptNames.{ends_names}
use Rattle.rr_store.proofs.Keepings.{Made, Tried, grows_so, kept_never, kept_once, kept_twice, kept_without, log_grows_so, none_made}
use Rattle.rr_store.proofs.keeping.keep_record.Goals.{then-ticks_left-gt0+in_ok-checkpoint, else-ticks_left-gt0}
use Rattle.rr_store.proofs.keeping.keep_record.Goals as goal

not_so : (b : Bool) (P : Type 0) → (IsTrue b ↔ P) → b ≡ false → P → ⊥
not_so b P decides is h = let yes : b ≡ true = decides.1 h in let both : true ≡ false = sym yes ∙ is in cc both

pub returns-then-not-is_half_full : goal.returns-then-not-is_half_full
returns-then-not-is_half_full g c =
    kept_once g.D.Disk.Honest g.D.Disk.Works g.D.Disk.state g.D.Disk.past g.D.Disk.fault_count g.D.Disk.write_count g.D.Disk.sync_count (lent_of g.T.TablesInWords c.args.tables.now) c.args.line.now
    c.args.file.now c.keep-kept.new.self c.keep-kept.result
    (not_so c.is_half_full.result _ c.is_half_full.ensures c.if-not-is_half_full.true)
    (record { stops = c.keep-kept.ensures.stops; carries = c.keep-kept.ensures.carries; renews = c.keep-kept.ensures.renews; roots = c.keep-kept.ensures.roots; nothing = c.keep-kept.ensures.nothing; number = c.keep-kept.ensures.number; again = c.keep-kept.ensures.again; untouched = c.keep-kept.ensures.untouched; broken = c.keep-kept.ensures.broken; refused = c.keep-kept.ensures.refused; full_half = c.keep-kept.ensures.full; makes_room = c.keep-kept.ensures.makes_room; begins_due = c.keep-kept.ensures.begins_due; full_file = c.keep-kept.ensures.full_file; long = c.keep-kept.ensures.long; resting = c.keep-kept.ensures.resting; left = c.keep-kept.ensures.left; comes = c.keep-kept.ensures.comes; most = c.keep-kept.ensures.most; rests = c.keep-kept.ensures.rests; begins = c.keep-kept.ensures.begins; device = c.keep-kept.ensures.device; fault = c.keep-kept.ensures.fault; few_writes = c.keep-kept.ensures.writes; few_syncs = c.keep-kept.ensures.syncs; tick_writes = c.keep-kept.ensures.tick_writes; tick_syncs = c.keep-kept.ensures.tick_syncs; own_writes = c.keep-kept.ensures.own_writes; own_syncs = c.keep-kept.ensures.own_syncs; grows = λ h world lent carries. log_grows_so g.D.Disk.file_len (length_on g.D.Disk.state) c.args.file.now c.keep-kept.new.self (g.met.D.Disk.length_is_told c.args.file.now.disk (c.keep-kept.ensures.honest h)) (g.met.D.Disk.length_is_told c.keep-kept.new.self.disk h) (c.keep-kept.ensures.grows h world lent carries); pages = c.keep-kept.ensures.pages; honest = c.keep-kept.ensures.honest; works = c.keep-kept.ensures.works })

pub returns-in_err-checkpoint : goal.returns-in_err-checkpoint
returns-in_err-checkpoint g c =
    let p = err_from_is_err_and c.from_residual.result c.from_residual.ensures.1 in
    let first : Tried g.D.Disk.Honest g.D.Disk.Works g.D.Disk.state g.D.Disk.past g.D.Disk.fault_count g.D.Disk.write_count g.D.Disk.sync_count (lent_of g.T.TablesInWords c.args.tables.now) c.args.line.now c.args.file.now c.keep-kept.result c.keep-kept.new.self = record { stops = c.keep-kept.ensures.stops; carries = c.keep-kept.ensures.carries; renews = c.keep-kept.ensures.renews; roots = c.keep-kept.ensures.roots; nothing = c.keep-kept.ensures.nothing; number = c.keep-kept.ensures.number; again = c.keep-kept.ensures.again; untouched = c.keep-kept.ensures.untouched; broken = c.keep-kept.ensures.broken; refused = c.keep-kept.ensures.refused; full_half = c.keep-kept.ensures.full; makes_room = c.keep-kept.ensures.makes_room; begins_due = c.keep-kept.ensures.begins_due; full_file = c.keep-kept.ensures.full_file; long = c.keep-kept.ensures.long; resting = c.keep-kept.ensures.resting; left = c.keep-kept.ensures.left; comes = c.keep-kept.ensures.comes; most = c.keep-kept.ensures.most; rests = c.keep-kept.ensures.rests; begins = c.keep-kept.ensures.begins; device = c.keep-kept.ensures.device; fault = c.keep-kept.ensures.fault; few_writes = c.keep-kept.ensures.writes; few_syncs = c.keep-kept.ensures.syncs; tick_writes = c.keep-kept.ensures.tick_writes; tick_syncs = c.keep-kept.ensures.tick_syncs; own_writes = c.keep-kept.ensures.own_writes; own_syncs = c.keep-kept.ensures.own_syncs; grows = λ h world lent carries. log_grows_so g.D.Disk.file_len (length_on g.D.Disk.state) c.args.file.now c.keep-kept.new.self (g.met.D.Disk.length_is_told c.args.file.now.disk (c.keep-kept.ensures.honest h)) (g.met.D.Disk.length_is_told c.keep-kept.new.self.disk h) (c.keep-kept.ensures.grows h world lent carries); pages = c.keep-kept.ensures.pages; honest = c.keep-kept.ensures.honest; works = c.keep-kept.ensures.works } in
    let half : c.keep-kept.result ≡ Err F.HalfFull = c.is_half_full.ensures.0 c.if-not-is_half_full.false in
    let t = subst (λ (r : Result (Option PutOff) Fault). Tried g.D.Disk.Honest g.D.Disk.Works g.D.Disk.state g.D.Disk.past g.D.Disk.fault_count g.D.Disk.write_count g.D.Disk.sync_count (lent_of g.T.TablesInWords c.args.tables.now) c.args.line.now c.args.file.now r c.keep-kept.new.self) half first in
    let some : 0 < ticks_left c.keep-kept.new.self = omega (arith, c.ticks_left.ensures, c.if-ticks_left-gt0.true) in
    rw (p.1, p.2) (kept_without g.D.Disk.Honest g.D.Disk.Works g.D.Disk.state g.D.Disk.past g.D.Disk.fault_count g.D.Disk.write_count g.D.Disk.sync_count (lent_of g.T.TablesInWords c.args.tables.now) c.args.line.now
    c.args.file.now c.keep-kept.new.self t c.in_err-checkpoint.field-0.0 c.checkpoint.new.self some
    (record { stops = c.in_err-checkpoint.ensures.stops; carries = c.in_err-checkpoint.ensures.carries; names = tt; number = c.in_err-checkpoint.ensures.number; again = c.in_err-checkpoint.ensures.again; broken = c.in_err-checkpoint.ensures.broken; left = c.in_err-checkpoint.ensures.left; rests = c.in_err-checkpoint.ensures.rests; first = c.in_err-checkpoint.ensures.first; room = c.in_err-checkpoint.ensures.room; fault = c.in_err-checkpoint.ensures.fault; grows_so_far = λ h world lent carries. grows_so _ _ _ _ _ _ (g.met.D.Disk.length_is_told c.keep-kept.new.self.disk (c.in_err-checkpoint.ensures.honest h)) (g.met.D.Disk.length_is_told c.checkpoint.new.self.disk h) (c.in_err-checkpoint.ensures.grows_so_far h world lent carries); grows = tt; reclaims = tt; same_free = c.in_err-checkpoint.ensures.same_free; honest = c.in_err-checkpoint.ensures.honest; works = c.in_err-checkpoint.ensures.works; device = c.in_err-checkpoint.ensures.device; half = c.in_err-checkpoint.ensures.half some; all_writes = c.in_err-checkpoint.ensures.writes some; all_syncs = c.in_err-checkpoint.ensures.syncs some; idle = λ none. absurd (omega (arith, some, none)) }))

pub returns-in-Ok : goal.returns-in-Ok
returns-in-Ok g c =
    let first : Tried g.D.Disk.Honest g.D.Disk.Works g.D.Disk.state g.D.Disk.past g.D.Disk.fault_count g.D.Disk.write_count g.D.Disk.sync_count (lent_of g.T.TablesInWords c.args.tables.now) c.args.line.now c.args.file.now c.keep-kept.result c.keep-kept.new.self = record { stops = c.keep-kept.ensures.stops; carries = c.keep-kept.ensures.carries; renews = c.keep-kept.ensures.renews; roots = c.keep-kept.ensures.roots; nothing = c.keep-kept.ensures.nothing; number = c.keep-kept.ensures.number; again = c.keep-kept.ensures.again; untouched = c.keep-kept.ensures.untouched; broken = c.keep-kept.ensures.broken; refused = c.keep-kept.ensures.refused; full_half = c.keep-kept.ensures.full; makes_room = c.keep-kept.ensures.makes_room; begins_due = c.keep-kept.ensures.begins_due; full_file = c.keep-kept.ensures.full_file; long = c.keep-kept.ensures.long; resting = c.keep-kept.ensures.resting; left = c.keep-kept.ensures.left; comes = c.keep-kept.ensures.comes; most = c.keep-kept.ensures.most; rests = c.keep-kept.ensures.rests; begins = c.keep-kept.ensures.begins; device = c.keep-kept.ensures.device; fault = c.keep-kept.ensures.fault; few_writes = c.keep-kept.ensures.writes; few_syncs = c.keep-kept.ensures.syncs; tick_writes = c.keep-kept.ensures.tick_writes; tick_syncs = c.keep-kept.ensures.tick_syncs; own_writes = c.keep-kept.ensures.own_writes; own_syncs = c.keep-kept.ensures.own_syncs; grows = λ h world lent carries. log_grows_so g.D.Disk.file_len (length_on g.D.Disk.state) c.args.file.now c.keep-kept.new.self (g.met.D.Disk.length_is_told c.args.file.now.disk (c.keep-kept.ensures.honest h)) (g.met.D.Disk.length_is_told c.keep-kept.new.self.disk h) (c.keep-kept.ensures.grows h world lent carries); pages = c.keep-kept.ensures.pages; honest = c.keep-kept.ensures.honest; works = c.keep-kept.ensures.works } in
    let half : c.keep-kept.result ≡ Err F.HalfFull = c.is_half_full.ensures.0 c.if-not-is_half_full.false in
    let t = subst (λ (r : Result (Option PutOff) Fault). Tried g.D.Disk.Honest g.D.Disk.Works g.D.Disk.state g.D.Disk.past g.D.Disk.fault_count g.D.Disk.write_count g.D.Disk.sync_count (lent_of g.T.TablesInWords c.args.tables.now) c.args.line.now c.args.file.now r c.keep-kept.new.self) half first in
    let made : Made g.D.Disk.Honest g.D.Disk.Works g.D.Disk.state g.D.Disk.past g.D.Disk.fault_count g.D.Disk.write_count g.D.Disk.sync_count (lent_of g.T.TablesInWords c.args.tables.now) c.args.line.now c.keep-kept.new.self (Ok tt) c.if-ticks_left-gt0.file =
    elim c.if-ticks_left-gt0.branch [
      | then-ticks_left-gt0+in_ok-checkpoint w ↦
          let some : 0 < ticks_left c.keep-kept.new.self = omega (arith, c.ticks_left.ensures, w.if-ticks_left-gt0.true) in
          subst (λ (file : Log g.row.D.Denot TableRules). Made g.D.Disk.Honest g.D.Disk.Works g.D.Disk.state g.D.Disk.past g.D.Disk.fault_count g.D.Disk.write_count g.D.Disk.sync_count (lent_of g.T.TablesInWords c.args.tables.now) c.args.line.now c.keep-kept.new.self (Ok tt) file) (sym w.file-is)
          (record { stops = w.in_ok-checkpoint.ensures.stops; carries = w.in_ok-checkpoint.ensures.carries; names = λ h world lent kit. ends_names kit g.D.Disk.state c.keep-kept.new.self w.checkpoint.new.self world world (lent_of g.T.TablesInWords c.args.tables.now) (λ carries. w.in_ok-checkpoint.ensures.takes_root h world lent carries) w.in_ok-checkpoint.ensures.left w.in_ok-checkpoint.ensures.rests (λ none. absurd (omega (arith, some, none))); number = w.in_ok-checkpoint.ensures.number; again = w.in_ok-checkpoint.ensures.again; broken = w.in_ok-checkpoint.ensures.broken; left = w.in_ok-checkpoint.ensures.left; rests = w.in_ok-checkpoint.ensures.rests; first = w.in_ok-checkpoint.ensures.first; room = w.in_ok-checkpoint.ensures.room; fault = w.in_ok-checkpoint.ensures.fault; grows = λ h world lent carries. grows_so _ _ _ _ _ _ (g.met.D.Disk.length_is_told c.keep-kept.new.self.disk (w.in_ok-checkpoint.ensures.honest h)) (g.met.D.Disk.length_is_told w.checkpoint.new.self.disk h) (w.in_ok-checkpoint.ensures.grows h world lent carries); grows_so_far = tt; reclaims = w.in_ok-checkpoint.ensures.reclaims; same_free = tt; honest = w.in_ok-checkpoint.ensures.honest; works = w.in_ok-checkpoint.ensures.works; device = w.in_ok-checkpoint.ensures.device; half = w.in_ok-checkpoint.ensures.half some; all_writes = w.in_ok-checkpoint.ensures.writes some; all_syncs = w.in_ok-checkpoint.ensures.syncs some; idle = λ none. absurd (omega (arith, some, none)) })
      | else-ticks_left-gt0 w ↦
          let none : ticks_left c.keep-kept.new.self ≡ 0 = omega (arith, c.ticks_left.ensures, w.if-ticks_left-gt0.false) in
          subst (λ (file : Log g.row.D.Denot TableRules). Made g.D.Disk.Honest g.D.Disk.Works g.D.Disk.state g.D.Disk.past g.D.Disk.fault_count g.D.Disk.write_count g.D.Disk.sync_count (lent_of g.T.TablesInWords c.args.tables.now) c.args.line.now c.keep-kept.new.self (Ok tt) file) (sym w.file-is)
          (none_made g.D.Disk.Honest g.D.Disk.Works g.D.Disk.state g.D.Disk.past g.D.Disk.fault_count g.D.Disk.write_count g.D.Disk.sync_count (lent_of g.T.TablesInWords c.args.tables.now) c.args.line.now c.keep-kept.new.self t.broken none (t.resting refl none))
    ] in
    kept_twice g.D.Disk.Honest g.D.Disk.Works g.D.Disk.state g.D.Disk.past g.D.Disk.fault_count g.D.Disk.write_count g.D.Disk.sync_count (lent_of g.T.TablesInWords c.args.tables.now) c.args.line.now
    c.args.file.now c.keep-kept.new.self t c.if-ticks_left-gt0.file c.keep.new.self made c.in-Ok.put_off
    (record { stops = c.in-Ok.ensures.stops; carries = c.in-Ok.ensures.carries; renews = c.in-Ok.ensures.renews; roots = c.in-Ok.ensures.roots; nothing = c.in-Ok.ensures.nothing; number = c.in-Ok.ensures.number; again = c.in-Ok.ensures.again; untouched = c.in-Ok.ensures.untouched; broken = c.in-Ok.ensures.broken; refused = c.in-Ok.ensures.refused; full_half = c.in-Ok.ensures.full; makes_room = c.in-Ok.ensures.makes_room; begins_due = c.in-Ok.ensures.begins_due; full_file = c.in-Ok.ensures.full_file; long = c.in-Ok.ensures.long; resting = c.in-Ok.ensures.resting; left = c.in-Ok.ensures.left; comes = c.in-Ok.ensures.comes; most = c.in-Ok.ensures.most; rests = c.in-Ok.ensures.rests; begins = c.in-Ok.ensures.begins; device = c.in-Ok.ensures.device; fault = c.in-Ok.ensures.fault; few_writes = c.in-Ok.ensures.writes; few_syncs = c.in-Ok.ensures.syncs; tick_writes = c.in-Ok.ensures.tick_writes; tick_syncs = c.in-Ok.ensures.tick_syncs; own_writes = c.in-Ok.ensures.own_writes; own_syncs = c.in-Ok.ensures.own_syncs; grows = λ h world lent carries. log_grows_so g.D.Disk.file_len (length_on g.D.Disk.state) c.if-ticks_left-gt0.file c.keep.new.self (g.met.D.Disk.length_is_told c.if-ticks_left-gt0.file.disk (c.in-Ok.ensures.honest h)) (g.met.D.Disk.length_is_told c.keep.new.self.disk h) (c.in-Ok.ensures.grows h world lent carries); pages = c.in-Ok.ensures.pages; honest = c.in-Ok.ensures.honest; works = c.in-Ok.ensures.works })

pub returns-in-Err : goal.returns-in-Err
returns-in-Err g c =
    let first : Tried g.D.Disk.Honest g.D.Disk.Works g.D.Disk.state g.D.Disk.past g.D.Disk.fault_count g.D.Disk.write_count g.D.Disk.sync_count (lent_of g.T.TablesInWords c.args.tables.now) c.args.line.now c.args.file.now c.keep-kept.result c.keep-kept.new.self = record { stops = c.keep-kept.ensures.stops; carries = c.keep-kept.ensures.carries; renews = c.keep-kept.ensures.renews; roots = c.keep-kept.ensures.roots; nothing = c.keep-kept.ensures.nothing; number = c.keep-kept.ensures.number; again = c.keep-kept.ensures.again; untouched = c.keep-kept.ensures.untouched; broken = c.keep-kept.ensures.broken; refused = c.keep-kept.ensures.refused; full_half = c.keep-kept.ensures.full; makes_room = c.keep-kept.ensures.makes_room; begins_due = c.keep-kept.ensures.begins_due; full_file = c.keep-kept.ensures.full_file; long = c.keep-kept.ensures.long; resting = c.keep-kept.ensures.resting; left = c.keep-kept.ensures.left; comes = c.keep-kept.ensures.comes; most = c.keep-kept.ensures.most; rests = c.keep-kept.ensures.rests; begins = c.keep-kept.ensures.begins; device = c.keep-kept.ensures.device; fault = c.keep-kept.ensures.fault; few_writes = c.keep-kept.ensures.writes; few_syncs = c.keep-kept.ensures.syncs; tick_writes = c.keep-kept.ensures.tick_writes; tick_syncs = c.keep-kept.ensures.tick_syncs; own_writes = c.keep-kept.ensures.own_writes; own_syncs = c.keep-kept.ensures.own_syncs; grows = λ h world lent carries. log_grows_so g.D.Disk.file_len (length_on g.D.Disk.state) c.args.file.now c.keep-kept.new.self (g.met.D.Disk.length_is_told c.args.file.now.disk (c.keep-kept.ensures.honest h)) (g.met.D.Disk.length_is_told c.keep-kept.new.self.disk h) (c.keep-kept.ensures.grows h world lent carries); pages = c.keep-kept.ensures.pages; honest = c.keep-kept.ensures.honest; works = c.keep-kept.ensures.works } in
    let half : c.keep-kept.result ≡ Err F.HalfFull = c.is_half_full.ensures.0 c.if-not-is_half_full.false in
    let t = subst (λ (r : Result (Option PutOff) Fault). Tried g.D.Disk.Honest g.D.Disk.Works g.D.Disk.state g.D.Disk.past g.D.Disk.fault_count g.D.Disk.write_count g.D.Disk.sync_count (lent_of g.T.TablesInWords c.args.tables.now) c.args.line.now c.args.file.now r c.keep-kept.new.self) half first in
    let made : Made g.D.Disk.Honest g.D.Disk.Works g.D.Disk.state g.D.Disk.past g.D.Disk.fault_count g.D.Disk.write_count g.D.Disk.sync_count (lent_of g.T.TablesInWords c.args.tables.now) c.args.line.now c.keep-kept.new.self (Ok tt) c.if-ticks_left-gt0.file =
    elim c.if-ticks_left-gt0.branch [
      | then-ticks_left-gt0+in_ok-checkpoint w ↦
          let some : 0 < ticks_left c.keep-kept.new.self = omega (arith, c.ticks_left.ensures, w.if-ticks_left-gt0.true) in
          subst (λ (file : Log g.row.D.Denot TableRules). Made g.D.Disk.Honest g.D.Disk.Works g.D.Disk.state g.D.Disk.past g.D.Disk.fault_count g.D.Disk.write_count g.D.Disk.sync_count (lent_of g.T.TablesInWords c.args.tables.now) c.args.line.now c.keep-kept.new.self (Ok tt) file) (sym w.file-is)
          (record { stops = w.in_ok-checkpoint.ensures.stops; carries = w.in_ok-checkpoint.ensures.carries; names = λ h world lent kit. ends_names kit g.D.Disk.state c.keep-kept.new.self w.checkpoint.new.self world world (lent_of g.T.TablesInWords c.args.tables.now) (λ carries. w.in_ok-checkpoint.ensures.takes_root h world lent carries) w.in_ok-checkpoint.ensures.left w.in_ok-checkpoint.ensures.rests (λ none. absurd (omega (arith, some, none))); number = w.in_ok-checkpoint.ensures.number; again = w.in_ok-checkpoint.ensures.again; broken = w.in_ok-checkpoint.ensures.broken; left = w.in_ok-checkpoint.ensures.left; rests = w.in_ok-checkpoint.ensures.rests; first = w.in_ok-checkpoint.ensures.first; room = w.in_ok-checkpoint.ensures.room; fault = w.in_ok-checkpoint.ensures.fault; grows = λ h world lent carries. grows_so _ _ _ _ _ _ (g.met.D.Disk.length_is_told c.keep-kept.new.self.disk (w.in_ok-checkpoint.ensures.honest h)) (g.met.D.Disk.length_is_told w.checkpoint.new.self.disk h) (w.in_ok-checkpoint.ensures.grows h world lent carries); grows_so_far = tt; reclaims = w.in_ok-checkpoint.ensures.reclaims; same_free = tt; honest = w.in_ok-checkpoint.ensures.honest; works = w.in_ok-checkpoint.ensures.works; device = w.in_ok-checkpoint.ensures.device; half = w.in_ok-checkpoint.ensures.half some; all_writes = w.in_ok-checkpoint.ensures.writes some; all_syncs = w.in_ok-checkpoint.ensures.syncs some; idle = λ none. absurd (omega (arith, some, none)) })
      | else-ticks_left-gt0 w ↦
          let none : ticks_left c.keep-kept.new.self ≡ 0 = omega (arith, c.ticks_left.ensures, w.if-ticks_left-gt0.false) in
          subst (λ (file : Log g.row.D.Denot TableRules). Made g.D.Disk.Honest g.D.Disk.Works g.D.Disk.state g.D.Disk.past g.D.Disk.fault_count g.D.Disk.write_count g.D.Disk.sync_count (lent_of g.T.TablesInWords c.args.tables.now) c.args.line.now c.keep-kept.new.self (Ok tt) file) (sym w.file-is)
          (none_made g.D.Disk.Honest g.D.Disk.Works g.D.Disk.state g.D.Disk.past g.D.Disk.fault_count g.D.Disk.write_count g.D.Disk.sync_count (lent_of g.T.TablesInWords c.args.tables.now) c.args.line.now c.keep-kept.new.self t.broken none (t.resting refl none))
    ] in
    rw c.told.ensures (kept_never g.D.Disk.Honest g.D.Disk.Works g.D.Disk.state g.D.Disk.past g.D.Disk.fault_count g.D.Disk.write_count g.D.Disk.sync_count (lent_of g.T.TablesInWords c.args.tables.now) c.args.line.now
    c.args.file.now c.keep-kept.new.self t c.if-ticks_left-gt0.file c.keep.new.self made
    c.in-Err.fault
    (record { stops = c.in-Err.ensures.stops; carries = c.in-Err.ensures.carries; renews = c.in-Err.ensures.renews; roots = c.in-Err.ensures.roots; nothing = c.in-Err.ensures.nothing; number = c.in-Err.ensures.number; again = c.in-Err.ensures.again; untouched = c.in-Err.ensures.untouched; broken = c.in-Err.ensures.broken; refused = c.in-Err.ensures.refused; full_half = c.in-Err.ensures.full; makes_room = c.in-Err.ensures.makes_room; begins_due = c.in-Err.ensures.begins_due; full_file = c.in-Err.ensures.full_file; long = c.in-Err.ensures.long; resting = c.in-Err.ensures.resting; left = c.in-Err.ensures.left; comes = c.in-Err.ensures.comes; most = c.in-Err.ensures.most; rests = c.in-Err.ensures.rests; begins = c.in-Err.ensures.begins; device = c.in-Err.ensures.device; fault = c.in-Err.ensures.fault; few_writes = c.in-Err.ensures.writes; few_syncs = c.in-Err.ensures.syncs; tick_writes = c.in-Err.ensures.tick_writes; tick_syncs = c.in-Err.ensures.tick_syncs; own_writes = c.in-Err.ensures.own_writes; own_syncs = c.in-Err.ensures.own_syncs; grows = λ h world lent carries. log_grows_so g.D.Disk.file_len (length_on g.D.Disk.state) c.if-ticks_left-gt0.file c.keep.new.self (g.met.D.Disk.length_is_told c.if-ticks_left-gt0.file.disk (c.in-Err.ensures.honest h)) (g.met.D.Disk.length_is_told c.keep.new.self.disk h) (c.in-Err.ensures.grows h world lent carries); pages = c.in-Err.ensures.pages; honest = c.in-Err.ensures.honest; works = c.in-Err.ensures.works }))
