-- How long a file is behind the steps of a checkpoint, and that it grows where no page under its end is free.
use Rattle.std.proofs.Common.{◌≡◌, inl, inr, ℕ, zero, suc, ◌+◌, ◌*◌, ◌<◌, ◌≤◌, max, Bool, true, false, List, [], ◌∷◌, length, map, get_or, Some, refl, sym, ◌∙◌, ap, subst, arith}
use Rattle.std.specs.List.{slice_get}
use Rattle.std.specs.Prelude.{All, Err, ◌==◌, slice_index}
use Rattle.std.proofs.lemmas.Bool.{cases_eq, cases_lt, cond_both}
use Rattle.std.proofs.lemmas.List.{get_or_past, get_or-set_same, get_or-set_other, length-set}
use Rattle.rr_disk.specs.Calls.{Step, Write, Sync, Account, after_step, after_steps, StopsWithin}
use Rattle.rr_disk.specs.Disk.{DiskState, FailedWrite, Nothing_out, Some_out, after_write, after_failed_write}
use Rattle.rr_disk.proofs.ImageLemmas.{length-written}
use Rattle.rr_pages.specs.declared.chain.FreshPage.{FreshPage}
use Rattle.rr_pages.specs.declared.fault.Fault.{Fault}
use Rattle.rr_pages.specs.declared.fault.Fault.TheVariants as F
use Rattle.rr_pages.specs.declared.journal.half.Half.{Half}
use Rattle.rr_pages.specs.declared.root.Root.{Root}
use Rattle.rr_pages.specs.Device.{shutting, StopsShutting}
use Rattle.rr_pages.specs.FreePages.{present_of, coming_of}
use Rattle.rr_pages.specs.Faults.{OnDeviceFault, OnlyHalf}
use Rattle.rr_pages.specs.Journal.Layout.{HasRoom}
use Rattle.rr_pages.specs.Journal.Stops.{appending}
use Rattle.rr_pages.specs.Roots.{root_bytes, root_gate}
use Rattle.rr_pages.specs.Sets.{TakesFree, marked}
use Rattle.rr_pages.proofs.JournalLemmas.Spelling.{length_behind}
use Rattle.rr_pages.proofs.RootSpelling.{length-root}
use Rattle.rr_pages.proofs.SetLemmas.{not_both}
use Rattle.rr_images.proofs.Places.{half_high, root_low}
use Rattle.rr_pages.specs.declared.free_pages.FreePages.{FreePages}
use Rattle.rr_checkpoint.specs.declared.writer.Tick.{Tick}
use Rattle.rr_checkpoint.specs.declared.writer.Tick.TheVariants.{Idle, More, Done}
use Rattle.rr_checkpoint.specs.Growing.{AreReclaimed, FreesAt, NoneFreeUpTo, GrowsWhereFull}
use Rattle.rr_checkpoint.specs.Writer.{Lowers}

-- how long a file is behind a write that ends here, at most
pub record Reaches (end old new : ℕ) : Type 0 where
  pub no_shorter : old ≤ new
  pub no_longer : new ≤ max old end

reaches_on : (end old then new : ℕ) → Reaches end old then → Reaches end then new → Reaches end old new
reaches_on end old then new first second =
    record { no_shorter = omega (arith, first.no_shorter, second.no_shorter); no_longer = omega (arith, first.no_longer, second.no_longer) }

reaches_same : (end old new : ℕ) → new ≡ old → Reaches end old new
reaches_same end old new same = record { no_shorter = omega (arith, same); no_longer = omega (arith, same) }

write_reaches : (state : DiskState) (at : ℕ) (bytes : List ℕ) (end : ℕ) → at + length bytes ≤ end → Reaches end (length state.content) (length (after_write state at bytes).content)
write_reaches state at [] end within = reaches_same end (length state.content) (length state.content) refl
write_reaches state at (byte ∷ bytes) end within =
    let long = length-written state.content at (byte ∷ bytes) in
    record { no_shorter = omega (arith, long); no_longer = omega (arith, long, within) }

failed_reaches : (state : DiskState) (at upto : ℕ) (front : List ℕ) (end : ℕ) → length front ≤ upto → at + upto ≤ end → Reaches end (length state.content) (length (after_failed_write state at upto front).content)
failed_reaches state at zero front end fits within = reaches_same end (length state.content) (length state.content) refl
failed_reaches state at (suc upto) front end fits within = write_reaches state at front end (omega (arith, fits, within))

fails_reaches : (at n : ℕ) (past_old : List DiskState) (old : DiskState) (past_new : List DiskState) (new : DiskState) (end : ℕ) → FailedWrite at n past_old old past_new new → at + n ≤ end
    → Reaches end (length old.content) (length new.content)
fails_reaches at n past_old old past_new new end (Nothing_out past same) within = reaches_same end (length old.content) (length new.content) (ap (λ (s : DiskState). length s.content) same)
fails_reaches at n past_old old past_new new end (Some_out upto front fits upto_n past is) within =
    subst (λ (s : DiskState). Reaches end (length old.content) (length s.content)) (sym is) (failed_reaches old at upto front end fits (omega (arith, upto_n, within)))

-- calls none of which writes past this byte
abbrev pub AllEndBy : ℕ → List Step → Type 0
AllEndBy end [] = Unit {0}
AllEndBy end (Write at bytes ∷ steps) = (at + length bytes ≤ end) × AllEndBy end steps
AllEndBy end (Sync ∷ steps) = AllEndBy end steps

steps_reach : (old : Account) (steps : List Step) (end : ℕ) → AllEndBy end steps → Reaches end (length old.state.content) (length (after_steps old steps).state.content)
steps_reach old [] end within = reaches_same end (length old.state.content) (length old.state.content) refl
steps_reach old (Write at bytes ∷ steps) end within =
    let then = after_step old (Write at bytes) in
    reaches_on end (length old.state.content) (length then.state.content) (length (after_steps then steps).state.content) (write_reaches old.state at bytes end within.0) (steps_reach then steps end within.1)
steps_reach old (Sync ∷ steps) end within = steps_reach (after_step old Sync) steps end within

stops_reach : (old new : Account) (steps : List Step) (end : ℕ) → AllEndBy end steps → StopsWithin old steps new → Reaches end (length old.state.content) (length new.state.content)
stops_reach old new [] end within stops = absurd stops
stops_reach old new (Write at bytes ∷ steps) end within (inl fails) = fails_reaches at (length bytes) old.past old.state new.past new.state end fails.0 within.0
stops_reach old new (Write at bytes ∷ steps) end within (inr later) =
    let then = after_step old (Write at bytes) in
    reaches_on end (length old.state.content) (length then.state.content) (length new.state.content) (write_reaches old.state at bytes end within.0) (stops_reach then new steps end within.1 later)
stops_reach old new (Sync ∷ steps) end within (inl fails) = reaches_same end (length old.state.content) (length new.state.content) (ap (λ (s : DiskState). length s.content) fails.1)
stops_reach old new (Sync ∷ steps) end within (inr later) = stops_reach (after_step old Sync) new steps end within later

-- a gate is shut
shut_within : (old : DiskState) (at end : ℕ) → at + 1 ≤ end → AllEndBy end (shutting old at)
shut_within old at end within =
    cond_both (slice_index old.content at == 165) (Write at (0 ∷ []) ∷ Sync ∷ []) (Sync ∷ []) (λ (steps : List Step). AllEndBy end steps) (λ is. (within, tt)) (λ isnt. tt)

-- calls within the pages of the roots and of the journal leave the length of a file that has them
module _ (old new : Account) (len len_new : ℕ) (told : len ≡ length old.state.content) (told_new : len_new ≡ length new.state.content) (enough : 4096 * 515 ≤ len) where
  stays_long : Reaches (4096 * 515) (length old.state.content) (length new.state.content) → len_new ≡ len
  stays_long reaches = omega (arith, told, told_new, enough, reaches.no_shorter, reaches.no_longer)

  pub done_stays : (steps : List Step) → AllEndBy (4096 * 515) steps → new ≡ after_steps old steps → len_new ≡ len
  done_stays steps within is =
      stays_long (subst (λ (a : Account). Reaches (4096 * 515) (length old.state.content) (length a.state.content)) (sym is) (steps_reach old steps (4096 * 515) within))

  pub stopped_stays : (steps : List Step) → AllEndBy (4096 * 515) steps → StopsWithin old steps new → len_new ≡ len
  stopped_stays steps within stops = stays_long (stops_reach old new steps (4096 * 515) within stops)

  pub shut_stays : (at : ℕ) → at + 1 ≤ 4096 * 515 → new ≡ after_steps old (shutting old.state at) → len_new ≡ len
  shut_stays at within is = done_stays (shutting old.state at) (shut_within old.state at (4096 * 515) within) is

  pub shutting_stays : (at : ℕ) → at + 1 ≤ 4096 * 515 → StopsShutting old at new → len_new ≡ len
  shutting_stays at within (inl same) =
      stays_long (reaches_same (4096 * 515) (length old.state.content) (length new.state.content) (ap (λ (a : Account). length a.state.content) same))
  shutting_stays at within (inr stops) = stopped_stays (shutting old.state at) (shut_within old.state at (4096 * 515) within) stops

-- a record, and a root, lie there
pub append_within : (half : Half) (number : ℕ) (bytes : List ℕ) → HasRoom half.next_slot (length bytes) → AllEndBy (4096 * 515) (appending half number bytes)
append_within half number bytes room =
    let high = half_high half.index in
    let long = length_behind number bytes in
    (omega (arith, high, long, room.fits), (omega (arith, high, room.fits), tt))

pub gate_within : (side : Bool) → root_gate side + 1 ≤ 4096 * 515
gate_within side = omega (arith, root_low side)

pub fill_within : (side : Bool) (root : Root) → AllEndBy (4096 * 515) (Write (root_gate side + 1) (root_bytes root) ∷ Sync ∷ [])
fill_within side root = (omega (arith, root_low side, length-root root), tt)

pub open_within : (side : Bool) → AllEndBy (4096 * 515) (Write (root_gate side) (165 ∷ []) ∷ Sync ∷ [])
open_within side = (omega (arith, root_low side), tt)

-- where an append fails the half is full, or the device failed
pub half_or_device : (T : Type 0) {P Q : Type 0} (fault : Fault) → OnlyHalf {T = T} (Err fault) → OnDeviceFault {T = T} (Err fault) P → (fault ≡ F.HalfFull → Q) → (P → Q) → Q
half_or_device T F.FileFull only told full device = absurd only
half_or_device T F.HalfFull only told full device = full refl
half_or_device T (F.Damaged damage) only told full device = absurd only
half_or_device T F.NotAStore only told full device = absurd only
half_or_device T (F.Disk fault) only told full device = device told
half_or_device T F.OutOfMemory only told full device = absurd only

-- a file that isn't longer has not grown
pub never_grows : {present coming : List Bool} {old new : ℕ} → new ≡ old → GrowsWhereFull present coming old new
never_grows same = λ grew. absurd (omega (arith, same, grew))

-- calls that end by a page up to which none is free
module _ (old new : Account) (len len_new : ℕ) (told : len ≡ length old.state.content) (told_new : len_new ≡ length new.state.content) (present coming : List Bool) (page : ℕ) (none : NoneFreeUpTo present coming page) where
  grows_by : Reaches (4096 * page + 4096) (length old.state.content) (length new.state.content) → GrowsWhereFull present coming len len_new
  grows_by reaches = λ grew other before free. none other (omega (arith, told, told_new, grew, before, reaches.no_longer)) free

  pub done_grows : (steps : List Step) → AllEndBy (4096 * page + 4096) steps → new ≡ after_steps old steps → GrowsWhereFull present coming len len_new
  done_grows steps within is =
      let end = 4096 * page + 4096 in
      grows_by (subst (λ (a : Account). Reaches end (length old.state.content) (length a.state.content)) (sym is) (steps_reach old steps end within))

  pub stopped_grows : (steps : List Step) → AllEndBy (4096 * page + 4096) steps → StopsWithin old steps new → GrowsWhereFull present coming len len_new
  stopped_grows steps within stops = grows_by (stops_reach old new steps (4096 * page + 4096) within stops)

-- one growth behind another
pub grows_on : (present coming : List Bool) (old then new : ℕ) → GrowsWhereFull present coming old then → GrowsWhereFull present coming then new → GrowsWhereFull present coming old new
grows_on present coming old then new first second = λ grew.
    elim (cases_lt then new) [ inl later ↦ second later | inr not_later ↦ λ page before. first (omega (arith, grew, not_later)) page (omega (arith, before, not_later)) ]

-- a page that is free behind others that were taken was free before them
still_free : (present coming after : List Bool) (pages : List ℕ) → TakesFree present coming pages after → (page : ℕ) → get_or after page false ≡ false → get_or coming page false ≡ false
still_free present coming after [] takes page is = ap (λ (marks : List Bool). get_or marks page false) (sym takes) ∙ is
still_free present coming after (first ∷ pages) takes page is =
    let then = still_free present (marked coming first) after pages takes.1 page is in
    elim (cases_eq page first) [
      | inl same ↦ elim (cases_lt first (length coming)) [
        | inl inside ↦ absurd (not_both (get_or (marked coming first) page false) (ap (λ (p : ℕ). get_or (marked coming first) p false) same ∙ get_or-set_same coming first true false inside) then)
        | inr past ↦ ap (λ (p : ℕ). get_or coming p false) same ∙ get_or_past coming first false past
      ]
      | inr apart ↦ sym (get_or-set_other coming first page true false apart) ∙ then
    ]

-- up to each page that was taken as the first free one none is free behind all of them
pub taken_packed : (present coming after : List Bool) (pages : List ℕ) → length coming ≡ 65536 → TakesFree present coming pages after → All (NoneFreeUpTo present after) pages
taken_packed present coming after [] whole takes k d below = absurd (omega (arith, below))
taken_packed present coming after (page ∷ pages) whole takes zero d below = λ other low free.
    let first_left = still_free present (marked coming page) after pages takes.1 other free.not_coming in
    elim (cases_eq other page) [
      | inl same ↦
          not_both (get_or (marked coming page) other false)
          (ap (λ (p : ℕ). get_or (marked coming page) p false) same ∙ get_or-set_same coming page true false (omega (arith, whole, takes.0.free.under))) first_left
      | inr apart ↦
          takes.0.first other (omega (arith, low, apart))
          (record {
            data_page = free.data_page;
            under = free.under;
            not_present = free.not_present;
            not_coming = still_free present coming after (page ∷ pages) takes other free.not_coming;
          })
    ]
taken_packed present coming after (page ∷ pages) whole takes (suc k) d below =
    taken_packed present (marked coming page) after pages (length-set coming page true ∙ whole) takes.1 k d (omega (arith, below))

-- the page of a plan that is written next
pub packed_at : (present coming : List Bool) (fresh : List FreshPage) (n : ℕ) (page : FreshPage) → All (NoneFreeUpTo present coming) (map (λ (f : FreshPage). f.page) fresh) → slice_get fresh n ≡ Some page
    → NoneFreeUpTo present coming page.page
packed_at present coming [] n page all found = absurd (cc)
packed_at present coming (first ∷ fresh) zero page all found =
    let same : first ≡ page = cc in subst (λ (f : FreshPage). NoneFreeUpTo present coming f.page) same (all 0 0 (omega arith))
packed_at present coming (first ∷ fresh) (suc n) page all found = packed_at present coming fresh n page (λ k d below. all (suc k) d (omega (arith, below))) found

-- before the last tick the same pages are free
pub free_still : (tick : Tick) (left rest : ℕ) (old new : FreePages) → Lowers tick left rest → 0 < rest → FreesAt tick old new → new ≡ old
free_still Idle left rest old new lowers some frees = frees
free_still More left rest old new lowers some frees = frees
free_still Done left rest old new lowers some frees = absurd (omega (arith, lowers.1, some))

pub freed_last : (tick : Tick) (left rest : ℕ) (old new : FreePages) → Lowers tick left rest → 0 < left → rest ≡ 0 → FreesAt tick old new → AreReclaimed old new
freed_last Idle left rest old new lowers some none frees = absurd (omega (arith, lowers.0, some))
freed_last More left rest old new lowers some none frees = absurd (omega (arith, lowers.1, none))
freed_last Done left rest old new lowers some none frees = frees

-- the same told by the same pages
pub grows_by_pages : (old new : FreePages) (len len_new : ℕ) → new ≡ old → GrowsWhereFull (present_of old) (coming_of old) len len_new → GrowsWhereFull (present_of new) (coming_of new) len len_new
grows_by_pages old new len len_new same grows = subst (λ (f : FreePages). GrowsWhereFull (present_of f) (coming_of f) len len_new) (sym same) grows

-- ticks one behind another
pub ticks_grow : (free first : FreePages) (old then new : ℕ) → free ≡ first → GrowsWhereFull (present_of first) (coming_of first) old then → GrowsWhereFull (present_of free) (coming_of free) then new
    → GrowsWhereFull (present_of first) (coming_of first) old new
ticks_grow free first old then new same so_far more =
    grows_on (present_of first) (coming_of first) old then new so_far (grows_by_pages free first then new (sym same) more)

-- the same told by the pages that are free behind a tick: the last one leaves the length
pub ticked_grows : (tick : Tick) (left rest : ℕ) (old new : FreePages) (len len_new : ℕ) → Lowers tick left rest → FreesAt tick old new → GrowsWhereFull (present_of old) (coming_of old) len len_new → (left ≤ 3 → len_new ≡ len)
    → GrowsWhereFull (present_of new) (coming_of new) len len_new
ticked_grows Idle left rest old new len len_new lowers frees grows same = grows_by_pages old new len len_new frees grows
ticked_grows More left rest old new len len_new lowers frees grows same = grows_by_pages old new len len_new frees grows
ticked_grows Done left rest old new len len_new lowers frees grows same = never_grows (same (omega (arith, lowers.0)))
