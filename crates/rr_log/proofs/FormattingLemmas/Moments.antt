-- What a stop leaves while a new file is laid, call by call.
use Rattle.std.proofs.Common.{◌≡◌, inl, inr, ℕ, zero, suc, ◌+◌, ◌*◌, ◌≤◌, false, All, List, [], ◌∷◌, ◌++◌, length, map, drop, slice_index, refl, sym, ◌∙◌, ap, subst, arith}
use Rattle.std.proofs.lemmas.Bool.{cases_eq}
use Rattle.std.proofs.lemmas.List.Elements.{All-nil, All-cons}
use Rattle.rr_disk.specs.Calls.{Step, Account, after_steps, StopsWithin}
use Rattle.rr_disk.specs.Disk.{DiskState, furthest_end, IsImage, Torn, written, after_write, after_sync}
use Rattle.rr_disk.specs.Moments.{EachImage, LeavesOnly, TornFrom}
use Rattle.rr_disk.proofs.CallLemmas.{all_behind}
use Rattle.rr_disk.proofs.ImageLemmas.{each_synced, synced_may_stay, torn_whole}
use Rattle.rr_disk.proofs.MomentLemmas.{joins, weaker}
use Rattle.rr_images.specs.Codec.{Codec}
use Rattle.rr_images.specs.Layout.{Keeps, formatted}
use Rattle.rr_images.specs.Progress.{AreSpare}
use Rattle.rr_images.proofs.Ticks.{only_content_of, stands_written}
use Rattle.rr_pages.proofs.JournalLemmas.Appends.{content_written}
use Rattle.rr_pages.specs.Choosing.{IsNoStore, Too_short, Both_shut}
use Rattle.rr_pages.specs.Roots.{root_bytes}
use Rattle.rr_pages.specs.Writing.{fresh_of}
use Rattle.rr_pages.specs.declared.chain.FreshPage.{FreshPage}
use Rattle.rr_pages.specs.declared.root.Root.{Root}
use Rattle.rr_pages.proofs.RootSpelling.{length-root}
use Rattle.rr_reading.specs.Worlds.Spelling.{worlds}
use Rattle.rr_reading.specs.Worlds.World.{World, WorldRules}
use Rattle.rr_log.specs.Formatting.Calls.{header_calls, zero_calls, zero_page, zeros_from, page_call, root_calls, closing}
use Rattle.rr_log.specs.Formatting.Formatted.{IsFormatted, IsNoneOrFormatted, KeepsNew, KeepsNoneOr, IsUnused, NewFilesStand}
use Rattle.rr_log.specs.Formatting.NewFile.{IsNewFile}
use Rattle.rr_log.proofs.FormattingLemmas.Blank.{AreGatesShut, shut_is_none, shut_torn, none_torn}
use Rattle.rr_log.proofs.FormattingLemmas.NewBytes.{HasHeader, HasRoot, all_bytes, header_written, header_shut, zeros_there, pages_there, root_written, gate_opened}
use Rattle.rr_log.proofs.FormattingLemmas.Kept.{new_file_kept}
use Rattle.rr_log.proofs.FormattingLemmas.Outliving.{Outlives, outlives_both, Has, leaves_all, leaves_some}

-- no call behind the first two touches a gate: shut ones outlive them
zero_pages_shut : (page count : ℕ) → 2 ≤ page → Outlives AreGatesShut (zeros_from page count)
unfolding zeros_from
zero_pages_shut page zero low = tt
zero_pages_shut page (suc count) low = (
  λ old new shut torn. shut_torn (4096 * page) (length zero_page) old new (inr (omega (arith, low))) shut torn,
  zero_pages_shut (page + 1) count (omega (arith, low)),
)

pages_shut : (reached : List ℕ) (fresh : List FreshPage) → AreSpare reached (map fresh_of fresh) → Outlives AreGatesShut (map page_call fresh)
pages_shut reached [] spare = tt
pages_shut reached (x ∷ fresh) spare = (
  λ old new shut torn. shut_torn (4096 * x.page) (length x.bytes.items) old new (inr (omega (arith, spare.0))) shut torn,
  pages_shut (x.page ∷ reached) fresh spare.3,
)

root_shut : (root : Root) → Outlives AreGatesShut (root_calls root)
root_shut root = (λ old new shut torn. shut_torn 1 (length (root_bytes root)) old new (inl (omega arith, omega (arith, length-root root))) shut torn, tt)

abbrev behind_header : Root → List FreshPage → List Step
behind_header root fresh = zero_calls ++ (map page_call fresh ++ root_calls root)

all_shut : (root : Root) (fresh : List FreshPage) → AreSpare [] (map fresh_of fresh) → Outlives AreGatesShut (behind_header root fresh)
all_shut root fresh spare =
    outlives_both AreGatesShut zero_calls (map page_call fresh ++ root_calls root)
    (λ old new shut torn. shut_torn 4097 (length (drop 1 zero_page)) old new (inr (omega arith)) shut torn, zero_pages_shut 2 512 (omega arith))
    (outlives_both AreGatesShut (map page_call fresh) (root_calls root) (pages_shut [] fresh spare) (root_shut root))

-- and the first two no file that is none
header_none : Outlives IsNoStore header_calls
header_none = (λ old new none torn. none_torn 2105343 1 old new refl (omega arith) none torn, tt)

module _ (old : Account) (empty : length old.state.content ≡ 0) where
  header_there : HasHeader (after_steps old header_calls).state.content
  header_there = header_written old.state.content 2105343 empty refl

  shut_behind_header : Has AreGatesShut (after_steps old header_calls).state
  shut_behind_header =
      record {
        stays = synced_may_stay (after_write old.state 2105343 (0 ∷ []));
        each = each_synced (after_write old.state 2105343 (0 ∷ [])) AreGatesShut (header_shut (after_steps old header_calls).state.content header_there);
      }

  module _ (root : Root) (fresh : List FreshPage) (spare : AreSpare [] (map fresh_of fresh)) (none : Has IsNoStore old.state) where
    -- so a stop leaves no store before the gate
    pub closing_left : (new : Account) → new ≡ after_steps old (closing root fresh) → LeavesOnly old.past old.state new.past new.state IsNoStore
    closing_left new is =
        let mid = after_steps old header_calls in
        subst (λ (account : Account). LeavesOnly old.past old.state account.past account.state IsNoStore) (sym is)
        (joins (leaves_all IsNoStore old header_calls header_none none)
        (weaker (leaves_all AreGatesShut mid (behind_header root fresh) (all_shut root fresh spare) shut_behind_header) IsNoStore shut_is_none))

    pub closing_stopped : (new : Account) → StopsWithin old (closing root fresh) new → LeavesOnly old.past old.state new.past new.state IsNoStore
    closing_stopped new (inl failed) = leaves_some IsNoStore old new header_calls (inl failed) header_none none
    closing_stopped new (inr (inl failed)) = leaves_some IsNoStore old new header_calls (inr (inl failed)) header_none none
    closing_stopped new (inr (inr later)) =
        let mid = after_steps old header_calls in
        joins (leaves_all IsNoStore old header_calls header_none none)
        (weaker (leaves_some AreGatesShut mid new (behind_header root fresh) later (all_shut root fresh spare) shut_behind_header) IsNoStore shut_is_none)

-- spare pages are whole
spare_whole : (reached : List ℕ) (fresh : List FreshPage) → AreSpare reached (map fresh_of fresh) → All (λ page. length page.bytes.items ≡ 4096) fresh
spare_whole reached [] spare = All-nil (λ (page : FreshPage). length page.bytes.items ≡ 4096)
spare_whole reached (x ∷ fresh) spare = All-cons (λ (page : FreshPage). length page.bytes.items ≡ 4096) x fresh spare.1 (spare_whole (x.page ∷ reached) fresh spare.3)

-- a new file keeps its world
pub new_keeps : (codec : Codec) (version : ℕ) (world : codec.World) (file : List ℕ) → KeepsNew codec version world file → Keeps codec file world
new_keeps codec version world file new = record { layout = formatted false new.root new.holding world; kept = new.kept }

module _ (rules : WorldRules) (root : Root) (fresh : List FreshPage) (world : World) (is : IsNewFile rules root fresh world) where
  -- whichever the new file is, what stands whole keeps its world
  pub formatted_keeps : (version : ℕ) → root.version ≡ version → (image : List ℕ) → IsFormatted rules root fresh is.holding world image → KeepsNew (worlds rules) version world image
  formatted_keeps version is_version image whole = record { root = root; first = is.first_root; version_is = is_version; holding = is.holding; kept = whole.kept; ends = whole.bytes.ends }

  pub none_or_keeps : (version : ℕ) → root.version ≡ version → (image : List ℕ) → IsNoneOrFormatted rules root fresh is.holding world image → KeepsNoneOr (worlds rules) version world image
  none_or_keeps version is_version image (inl none) = inl none
  none_or_keeps version is_version image (inr whole) = inr (formatted_keeps version is_version image whole)

  -- each page is whole
  pub whole_pages : All (λ page. length page.bytes.items ≡ 4096) fresh
  whole_pages = spare_whole [] fresh is.spare

  -- before the last gate a stop leaves no store
  pub none_left : {past past_new : List DiskState} {old new : DiskState} → LeavesOnly past old past_new new IsNoStore → LeavesOnly past old past_new new (IsNoneOrFormatted rules root fresh is.holding world)
  none_left leaves = weaker leaves (IsNoneOrFormatted rules root fresh is.holding world) (λ image none. inl none)

  module _ (old : Account) (empty : length old.state.content ≡ 0) where
    -- the file behind the pages, and behind the root
    abbrev paged : Account
    paged = after_steps (after_steps (after_steps old header_calls) zero_calls) (map page_call fresh)

    abbrev rooted : DiskState
    rooted = after_write paged.state 1 (root_bytes root)

    closed_is : after_steps old (closing root fresh) ≡ after_steps paged (root_calls root)
    closed_is =
        let mid = after_steps old header_calls in
        sym (all_behind (after_steps mid zero_calls) (map page_call fresh) (root_calls root)
        ∙ all_behind mid zero_calls (map page_call fresh ++ root_calls root))

    closed_state : (before : DiskState) → before ≡ (after_steps old (closing root fresh)).state → before ≡ after_sync rooted
    closed_state before same = same ∙ ap (λ (account : Account). account.state) closed_is

    root_there : HasRoot root (all_bytes fresh) rooted.content
    root_there =
        let mid = after_steps old header_calls in
        subst (λ (file : List ℕ). HasRoot root (all_bytes fresh) file) (sym (content_written paged.state 1 (root_bytes root) (omega (arith, length-root root))))
        (root_written paged.state.content (all_bytes fresh) root
        (pages_there fresh (after_steps mid zero_calls) is.in_turn is.spare (zeros_there mid (header_there old empty))))

    -- the file with its gate torn: open or not
    gate_torn : (image : List ℕ) → Torn 0 1 rooted.content image → IsNoneOrFormatted rules root fresh is.holding world image
    gate_torn image torn =
        let second : slice_index image 4096 ≡ 0 = torn.same 4096 (omega (arith, root_there.ends)) (inr (omega arith)) ∙ root_there.zeros 4096 (omega arith) (omega arith) in
        elim (cases_eq (slice_index image 0) 0xa5) [
          | inl open_gate ↦ inr (new_file_kept root fresh image (gate_opened rooted.content image root fresh is.in_turn is.count is.spare root_there torn open_gate) rules world is)
          | inr shut ↦ inl (Both_shut shut (λ open_gate. absurd (omega (arith, second, open_gate))))
        ]

    pub gate_left : {past_new : List DiskState} {new : DiskState} (past : List DiskState) (before : DiskState) → before ≡ (after_steps old (closing root fresh)).state → LeavesOnly past before past_new new (TornFrom before 0 1)
        → LeavesOnly past before past_new new (IsNoneOrFormatted rules root fresh is.holding world)
    gate_left past before same leaves =
        weaker leaves (IsNoneOrFormatted rules root fresh is.holding world)
        (λ image torn.
        let from : TornFrom (after_sync rooted) 0 1 image = subst (λ (state : DiskState). TornFrom state 0 1 image) (closed_state before same) torn in
        gate_torn image (subst (λ (file : List ℕ). Torn 0 1 file image) (only_content_of rooted from.earlier from.was) from.torn))

    -- behind the last call
    pub formatted_each : (before new : DiskState) → before ≡ (after_steps old (closing root fresh)).state → new ≡ after_sync (after_write before 0 (0xa5 ∷ [])) → EachImage new (IsFormatted rules root fresh is.holding world)
    formatted_each before new same opened =
        let file = written rooted.content 0 (0xa5 ∷ []) in
        let open_gate : slice_index file 0 ≡ 0xa5 = stands_written rooted.content 0 (0xa5 ∷ []) 0 (omega arith) in
        let whole = new_file_kept root fresh file (gate_opened rooted.content file root fresh is.in_turn is.count is.spare root_there (torn_whole rooted.content 0 (0xa5 ∷ [])) open_gate) rules world is in
        subst (λ (state : DiskState). EachImage state (IsFormatted rules root fresh is.holding world))
        (sym (opened ∙ ap (λ (state : DiskState). after_sync (after_write state 0 (0xa5 ∷ []))) (closed_state before same)))
        (each_synced (after_write (after_sync rooted) 0 (0xa5 ∷ [])) (IsFormatted rules root fresh is.holding world) whole)

    -- so on an empty disk the file comes to stand
    stands_behind : (file : List ℕ) × IsFormatted rules root fresh is.holding world file
    stands_behind =
        let before = (after_steps old (closing root fresh)).state in
        let opened = after_write before 0 (0xa5 ∷ []) in
        (opened.content, formatted_each before (after_sync opened) refl refl opened.content (synced_may_stay opened))

pub new_files_stand : (rules : WorldRules) → NewFilesStand rules
new_files_stand rules root fresh world is =
    stands_behind rules root fresh world is (record { past = []; state = record { content = []; settled = []; ranges = [] }; writes = 0; syncs = 0 }) refl

-- an empty disk on which nothing waits for a sync is unused
pub unused_at_rest : (state : DiskState) → state.ranges ≡ [] → length state.content ≡ 0 → IsImage state state.content → IsUnused state
unused_at_rest state none empty stays =
    let furthest : furthest_end state.ranges ≡ 0 = ap furthest_end none in
    record { empty = empty; none = λ image is. Too_short (omega (arith, is.no_longer, stays.no_shorter, furthest, empty)) }
