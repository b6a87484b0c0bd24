-- Chains of snapshots that are laid one after another, behind those of tables, and those that stay among them.
use Rattle.std.proofs.Common.{◌≡◌, ℕ, ◌+◌, ◌-◌, ◌<◌, ◌≤◌, Bool, List, [], ◌∷◌, ◌++◌, length, map, take, drop, get_or, Option, None, Some, Result, Ok, Err, refl, sym, ◌∙◌, ap, subst, arith, length-append, length-drop}
use Rattle.std.proofs.lemmas.List.{append-nil, append_assoc, drop-map, length-map, map-append, take_all, take-append-drop}
use Rattle.std.proofs.Math.Seq.{drop-append_seam}
use Rattle.std.specs.List.{All}
use Rattle.std.specs.Prelude.{IfOk}
use Rattle.std.specs.Rc.{rc_slice_items}
use Rattle.rr_pages.specs.declared.fault.Fault.{Fault}
use Rattle.std.proofs.lemmas.List.Elements.{All-nil, All-head, All-tail, All-cons}
use Rattle.std.proofs.lemmas.List.Sums.{sum_by-append, sum_by-cons}
use Rattle.rr_reading.specs.declared.dir.directory.SnapshotEntry.{SnapshotEntry}
use Rattle.rr_reading.specs.declared.dir.directory.TableEntry.{TableEntry}
use Rattle.rr_images.specs.Holding.{HeldChain, texts_of}
use Rattle.rr_images.specs.Plans.{Draft, Fresh, Kept, LaidChain, laid_as, all_laid, chains_of, fresh_chains, kept_of, laid_pages, AllFit}
use Rattle.rr_pages.specs.declared.chain.FreshPage.{FreshPage}
use Rattle.rr_pages.specs.Laying.{laid, pages_for, FitEach}
use Rattle.rr_pages.specs.Sets.{TakesFree, TooFewFree}
use Rattle.rr_pages.specs.Writing.{fresh_of, IsLaid}
use Rattle.rr_checkpoint.specs.declared.plan.snapshot.SnapshotTranscript.{SnapshotTranscript}
use Rattle.rr_checkpoint.specs.declared.plan.standing.StandingSnapshot.{StandingSnapshot}
use Rattle.rr_checkpoint.specs.Plan.Laying.{chain_pages, snapshot_pages, AreChainsLaid, AreSnapshotsPlaced, AreTablesLaid}
use Rattle.rr_checkpoint.specs.Plan.Snapshots.{IsCounted, snapshot_of}
use Rattle.rr_checkpoint.specs.Plan.Standing.{StandsAs, entry_of, laid_at, laid_snapshots, left_behind, place_of, places_of, standing_as, standing_chain, standing_chains}
use Rattle.rr_reading.specs.Worlds.Spelling.{snapshot_entries}
use Rattle.rr_reading.specs.Worlds.World.{Snapshot, Table}
use Rattle.rr_checkpoint.proofs.Planning.{pages_fresh, places_laid}
use Rattle.rr_checkpoint.proofs.PlanLemmas.LaidTables.{laid_length, takes_on, too_few_behind}
use Rattle.rr_checkpoint.proofs.PlanLemmas.StandingLemmas.{chains_on, laid_on, one_laid, places_long, places_on, snapshots_more}

abbrev pub bytes_of : Snapshot → List ℕ
bytes_of snapshot = snapshot.bytes

abbrev pages_of : Snapshot → ℕ
pages_of snapshot = pages_for (length snapshot.bytes)

-- chains behind others
written_on : (chains more : List LaidChain) → all_laid (chains ++ more) ≡ all_laid chains ++ all_laid more
written_on [] more = refl
written_on (chain ∷ chains) more =
    ap (λ (xs : List (ℕ × List ℕ)). laid chain.pages chain.pieces ++ xs) (written_on chains more) ∙ sym (append_assoc (laid chain.pages chain.pieces) (all_laid chains) (all_laid more))

pages_on : (chains more : List LaidChain) → laid_pages (chains ++ more) ≡ laid_pages chains ++ laid_pages more
pages_on [] more = refl
pages_on (chain ∷ chains) more = ap (λ (xs : List ℕ). chain.pages ++ xs) (pages_on chains more) ∙ sym (append_assoc chain.pages (laid_pages chains) (laid_pages more))

fit_on : (chains more : List LaidChain) → AllFit chains → AllFit more → AllFit (chains ++ more)
fit_on [] more fit then = then
fit_on (chain ∷ chains) more fit then = (fit.0, fit_on chains more fit.1 then)

taken_on : (present coming between after : List Bool) (chains more : List LaidChain) → TakesFree present coming (laid_pages chains) between → TakesFree present between (laid_pages more) after → TakesFree present coming (laid_pages (chains ++ more)) after
taken_on present coming between after chains more first then =
    subst (λ (pages : List ℕ). TakesFree present coming pages after) (sym (pages_on chains more)) (takes_on present coming between after (laid_pages chains) (laid_pages more) first then)

-- drafts behind others
fresh_on : (drafts more : List Draft) → fresh_chains (drafts ++ more) ≡ fresh_chains drafts ++ fresh_chains more
fresh_on [] more = refl
fresh_on (Fresh chain ∷ drafts) more = ap (λ (chains : List LaidChain). chain ∷ chains) (fresh_on drafts more)
fresh_on (Kept chain ∷ drafts) more = fresh_on drafts more

kept_drafts_on : (drafts more : List Draft) → kept_of (drafts ++ more) ≡ kept_of drafts ++ kept_of more
kept_drafts_on [] more = refl
kept_drafts_on (Fresh chain ∷ drafts) more = kept_drafts_on drafts more
kept_drafts_on (Kept chain ∷ drafts) more = ap (λ (chains : List HeldChain). chain ∷ chains) (kept_drafts_on drafts more)

drafts_on : (drafts more : List Draft) → chains_of (drafts ++ more) ≡ chains_of drafts ++ chains_of more
drafts_on [] more = refl
drafts_on (Fresh chain ∷ drafts) more = ap (λ (chains : List HeldChain). laid_as chain ∷ chains) (drafts_on drafts more)
drafts_on (Kept chain ∷ drafts) more = ap (λ (chains : List HeldChain). chain ∷ chains) (drafts_on drafts more)

-- no snapshot
pub none_placed : (present coming : List Bool) (fresh : List FreshPage) (placed : List StandingSnapshot) → placed ≡ [] → AreSnapshotsPlaced present coming coming fresh fresh [] [] placed
none_placed present coming fresh placed none =
    record {
      drafts = [];
      to_write = sym (append-nil (map fresh_of fresh));
      fit = tt;
      taken = refl;
      kept = refl;
      named = ap (λ (ss : List StandingSnapshot). map standing_as ss) none;
      chains = ap (λ (ss : List StandingSnapshot). standing_chains ss) (sym none);
      counted = omega arith;
    }

-- a snapshot that stays where it stands
one_kept : (present coming : List Bool) (fresh : List FreshPage) (snapshot : Snapshot) (standing placed : StandingSnapshot) → standing_as standing ≡ snapshot → standing_as placed ≡ standing_as standing → standing_chain placed ≡ standing_chain standing
    → AreSnapshotsPlaced present coming coming fresh fresh (Some standing ∷ []) (snapshot ∷ []) (placed ∷ [])
one_kept present coming fresh snapshot standing placed same copied chain =
    record {
      drafts = Kept (standing_chain standing) ∷ [];
      to_write = sym (append-nil (map fresh_of fresh));
      fit = tt;
      taken = refl;
      kept = refl;
      named = ap (λ (s : Snapshot). s ∷ []) (copied ∙ same);
      chains = ap (λ (c : HeldChain). c ∷ []) (sym chain);
      counted = omega arith;
    }

pub if_kept : (present coming : List Bool) (fresh : List FreshPage) (snapshot : Snapshot) (place : Option StandingSnapshot) (standing : StandingSnapshot) (result : Result StandingSnapshot Fault) → place ≡ Some standing → StandsAs snapshot place
    → IfOk result (λ placed. standing_as placed ≡ standing_as standing) → IfOk result (λ placed. standing_chain placed ≡ standing_chain standing) → IfOk result (λ placed. AreSnapshotsPlaced present coming coming fresh fresh (place ∷ []) (snapshot ∷ []) (placed ∷ []))
if_kept present coming fresh snapshot place standing (Err fault) is stands copied chain = tt
if_kept present coming fresh snapshot place standing (Ok placed) is stands copied chain =
    subst (λ (at : Option StandingSnapshot). AreSnapshotsPlaced present coming coming fresh fresh (at ∷ []) (snapshot ∷ []) (placed ∷ [])) (sym is)
    (one_kept present coming fresh snapshot standing placed (subst (λ (at : Option StandingSnapshot). StandsAs snapshot at) is stands) copied chain)

-- the pages of a chain that was laid, behind those from before
behind_pages : (old new : List FreshPage) (pages : List ℕ) (pieces : List (List ℕ)) → FitEach pages pieces → map fresh_of new ≡ map fresh_of old ++ laid pages pieces → map (λ (page : FreshPage). page.page) (drop (length old) new) ≡ pages
behind_pages old new pages pieces fit same =
    let there = laid pages pieces in
    let cut : map fresh_of (drop (length old) new) ≡ there =
    sym (drop-map fresh_of (length old) new)
    ∙ (ap (λ (xs : List (ℕ × List ℕ)). drop (length old) xs) same
    ∙ (ap (λ (k : ℕ). drop k (map fresh_of old ++ there)) (sym (length-map old fresh_of)) ∙ drop-append_seam (map fresh_of old) there)) in
    pages_fresh (drop (length old) new) ∙ (ap (λ (xs : List (ℕ × List ℕ)). map (λ (one : ℕ × List ℕ). one.0) xs) cut ∙ places_laid pages pieces fit)

-- as code cuts them off
pub cut_pages : (old new all : List FreshPage) (before : ℕ) (pages : List ℕ) (pieces : List (List ℕ)) → all ≡ new → before ≡ length old → FitEach pages pieces → map fresh_of new ≡ map fresh_of old ++ laid pages pieces
    → map (λ (page : FreshPage). page.page) (take (length all - before) (drop before all)) ≡ pages
cut_pages old new all before pages pieces same count fit behind =
    let cut : take (length all - before) (drop before all) ≡ drop before all = take_all (length all - before) (drop before all) (omega (arith, length-drop before all)) in
    ap (λ (fresh : List FreshPage). map (λ (page : FreshPage). page.page) fresh) (cut ∙ (λ i. drop (count i) (same i))) ∙ behind_pages old new pages pieces fit behind

-- a snapshot that is laid
pub one_is_laid : (present coming after : List Bool) (old new : List FreshPage) (snapshot : Snapshot) (head : ℕ) (placed : StandingSnapshot) → (is : IsLaid present coming after snapshot.bytes old new head) → length new ≡ length old + pages_for (length snapshot.bytes)
    → placed.pages.items ≡ is.pages → standing_as placed ≡ snapshot → AreSnapshotsPlaced present coming after old new (None ∷ []) (snapshot ∷ []) (placed ∷ [])
one_is_laid present coming after old new snapshot head placed is count pages same =
    let chain : LaidChain = record { pages = is.pages; pieces = is.pieces } in
    let bytes : rc_slice_items placed.bytes ≡ snapshot.bytes = ap bytes_of same in
    record {
      drafts = Fresh chain ∷ [];
      to_write = is.fresh ∙ ap (λ (xs : List (ℕ × List ℕ)). map fresh_of old ++ xs) (sym (append-nil (laid is.pages is.pieces)));
      fit = (is.fit, tt);
      taken = subst (λ (taken : List ℕ). TakesFree present coming taken after) (sym (append-nil is.pages)) is.taken;
      kept = refl;
      named = ap (λ (s : Snapshot). s ∷ []) same;
      chains = λ i. record { pages = sym pages i; text = (is.whole ∙ sym bytes) i } ∷ [];
      counted = omega (
        arith,
        sum_by-cons pages_of snapshot [],
        length-append {A = ℕ} is.pages [],
        laid_length present coming after snapshot.bytes old new head is,
        count,
      );
    }

-- snapshots behind others
pub placed_on : (present coming between after : List Bool) (old mid new : List FreshPage) (places more : List (Option StandingSnapshot)) (snapshots others : List Snapshot) (placed then : List StandingSnapshot) → length places ≡ length snapshots
    → AreSnapshotsPlaced present coming between old mid places snapshots placed → AreSnapshotsPlaced present between after mid new more others then → AreSnapshotsPlaced present coming after old new (places ++ more) (snapshots ++ others) (placed ++ then)
placed_on present coming between after old mid new places more snapshots others placed then long first next =
    let front = fresh_chains first.drafts in
    let back = fresh_chains next.drafts in
    let all = sym (fresh_on first.drafts next.drafts) in
    record {
      drafts = first.drafts ++ next.drafts;
      to_write = next.to_write ∙ (ap (λ (xs : List (ℕ × List ℕ)). xs ++ all_laid back) first.to_write ∙ (append_assoc (map fresh_of old) (all_laid front) (all_laid back)
          ∙ ap (λ (xs : List (ℕ × List ℕ)). map fresh_of old ++ xs) (sym (written_on front back) ∙ ap all_laid all)));
      fit = subst (λ (chains : List LaidChain). AllFit chains) all (fit_on front back first.fit next.fit);
      taken = subst (λ (chains : List LaidChain). TakesFree present coming (laid_pages chains) after) all (taken_on present coming between after front back first.taken next.taken);
      kept = kept_drafts_on first.drafts next.drafts ∙ ((λ i. first.kept i ++ next.kept i) ∙ sym (chains_on places more));
      named = map-append standing_as placed then ∙ (λ i. first.named i ++ next.named i);
      chains = drafts_on first.drafts next.drafts ∙ ((λ i. first.chains i ++ next.chains i) ∙ sym (map-append standing_chain placed then));
      counted = omega (
        arith,
        first.counted,
        next.counted,
        ap (λ (chains : List LaidChain). length (laid_pages chains)) all,
        ap (λ (xs : List ℕ). length xs) (pages_on front back),
        length-append (laid_pages front) (laid_pages back),
        ap snapshot_pages (laid_on places more snapshots others long),
        sum_by-append pages_of (laid_at places snapshots) (laid_at more others),
      );
    }

-- the next snapshot of a transcript
pub next_placed : (present other coming between after : List Bool) (old mid new : List FreshPage) (standing rest : List StandingSnapshot) (parts : List SnapshotTranscript) (n : ℕ) (part : SnapshotTranscript) (placed more : List StandingSnapshot) (there : StandingSnapshot) (place : Option StandingSnapshot) → n < length parts → part ≡ get_or parts n part
    → other ≡ present → place ≡ place_of rest (snapshot_of part) → rest ≡ left_behind standing (map snapshot_of (take n parts)) → AreSnapshotsPlaced present coming between old mid (places_of standing (map snapshot_of (take n parts))) (map snapshot_of (take n parts)) placed
    → AreSnapshotsPlaced other between after mid new (place ∷ []) (snapshot_of part ∷ []) (there ∷ []) → more ≡ placed ++ there ∷ []
    → AreSnapshotsPlaced present coming after old new (places_of standing (map snapshot_of (take (n + 1) parts))) (map snapshot_of (take (n + 1) parts)) more
next_placed present other coming between after old mid new standing rest parts n part placed more there place within item p stands left so_far is grown =
    let snapshots = map snapshot_of (take n parts) in
    let here : AreSnapshotsPlaced present between after mid new (places_of (left_behind standing snapshots) (snapshot_of part ∷ [])) (snapshot_of part ∷ []) (there ∷ []) =
    subst (λ (ss : List StandingSnapshot). AreSnapshotsPlaced present between after mid new (places_of ss (snapshot_of part ∷ [])) (snapshot_of part ∷ []) (there ∷ [])) left
    (subst (λ (at : Option StandingSnapshot). AreSnapshotsPlaced present between after mid new (at ∷ []) (snapshot_of part ∷ []) (there ∷ [])) stands
    (subst (λ (ms : List Bool). AreSnapshotsPlaced ms between after mid new (place ∷ []) (snapshot_of part ∷ []) (there ∷ [])) p is)) in
    let all = placed_on present coming between after old mid new (places_of standing snapshots) (places_of (left_behind standing snapshots) (snapshot_of part ∷ [])) snapshots (snapshot_of part ∷ []) placed (there ∷ []) (places_long standing snapshots) so_far here in
    subst (λ (ss : List StandingSnapshot). AreSnapshotsPlaced present coming after old new (places_of standing (map snapshot_of (take (n + 1) parts))) (map snapshot_of (take (n + 1) parts)) ss) (sym grown)
    (subst (λ (ss : List Snapshot). AreSnapshotsPlaced present coming after old new (places_of standing ss) ss (placed ++ there ∷ [])) (sym (snapshots_more parts n part within item))
    (subst (λ (places : List (Option StandingSnapshot)). AreSnapshotsPlaced present coming after old new places (snapshots ++ snapshot_of part ∷ []) (placed ++ there ∷ [])) (sym (places_on standing snapshots (snapshot_of part ∷ []))) all))

-- where too few pages are free for the next one, they were too few for all
laid_next : (standing : List StandingSnapshot) (snapshots : List Snapshot) (snapshot : Snapshot) (more : List Snapshot)
    → snapshot_pages (laid_snapshots standing snapshots) + snapshot_pages (laid_snapshots (left_behind standing snapshots) (snapshot ∷ [])) ≤ snapshot_pages (laid_snapshots standing (snapshots ++ snapshot ∷ more))
laid_next standing snapshots snapshot more =
    let left = left_behind standing snapshots in
    let places = places_of left (snapshot ∷ more) in
    omega (
      arith,
      ap (λ (there : List (Option StandingSnapshot)). snapshot_pages (laid_at there (snapshots ++ snapshot ∷ more))) (places_on standing snapshots (snapshot ∷ more)),
      ap snapshot_pages (laid_on (places_of standing snapshots) places snapshots (snapshot ∷ more) (places_long standing snapshots)),
      sum_by-append pages_of (laid_snapshots standing snapshots) (laid_at places (snapshot ∷ more)),
      one_laid (place_of left snapshot) (places_of (left_behind left (snapshot ∷ [])) more) snapshot more,
    )

pub too_few_snapshots : (present other coming between : List Bool) (old mid : List FreshPage) (standing rest : List StandingSnapshot) (parts : List SnapshotTranscript) (n : ℕ) (part : SnapshotTranscript) (placed : List StandingSnapshot) (place : Option StandingSnapshot) → n < length parts → part ≡ get_or parts n part
    → other ≡ present → place ≡ place_of rest (snapshot_of part) → rest ≡ left_behind standing (map snapshot_of (take n parts)) → AreSnapshotsPlaced present coming between old mid (places_of standing (map snapshot_of (take n parts))) (map snapshot_of (take n parts)) placed
    → TooFewFree other between (snapshot_pages (laid_at (place ∷ []) (snapshot_of part ∷ []))) → TooFewFree present coming (snapshot_pages (laid_snapshots standing (map snapshot_of parts)))
too_few_snapshots present other coming between old mid standing rest parts n part placed place within item p stands left so_far few =
    let snapshots = map snapshot_of (take n parts) in
    let more = map snapshot_of (drop (n + 1) parts) in
    let needed = snapshot_pages (laid_at (place ∷ []) (snapshot_of part ∷ [])) in
    let all : map snapshot_of parts ≡ snapshots ++ snapshot_of part ∷ more =
    ap (λ (ps : List SnapshotTranscript). map snapshot_of ps) (sym (take-append-drop (n + 1) parts))
    ∙ (map-append snapshot_of (take (n + 1) parts) (drop (n + 1) parts)
    ∙ (ap (λ (ss : List Snapshot). ss ++ more) (snapshots_more parts n part within item) ∙ append_assoc snapshots (snapshot_of part ∷ []) more)) in
    too_few_behind present coming between (laid_pages (fresh_chains so_far.drafts)) needed (snapshot_pages (laid_snapshots standing (map snapshot_of parts))) so_far.taken
    (subst (λ (ms : List Bool). TooFewFree ms between needed) p few)
    (omega (
      arith,
      so_far.counted,
      ap (λ (at : Option StandingSnapshot). snapshot_pages (laid_at (at ∷ []) (snapshot_of part ∷ []))) stands,
      ap (λ (ss : List StandingSnapshot). snapshot_pages (laid_at (place_of ss (snapshot_of part) ∷ []) (snapshot_of part ∷ []))) left,
      ap (λ (ss : List Snapshot). snapshot_pages (laid_snapshots standing ss)) all,
      laid_next standing snapshots (snapshot_of part) more,
    ))

-- what the directory says of those that will stand
entries_are : (placed : List StandingSnapshot) → map entry_of placed ≡ snapshot_entries (standing_chains placed) (map standing_as placed)
entries_are [] = refl
entries_are (standing ∷ placed) = ap (λ (entries : List SnapshotEntry). entry_of standing ∷ entries) (entries_are placed)

-- behind the tables
pub chains_laid : (present other coming between after : List Bool) (fresh more : List FreshPage) (tables : List Table) (standing : List StandingSnapshot) (snapshots : List Snapshot) (entries : List TableEntry) (others : List SnapshotEntry) (placed : List StandingSnapshot) → other ≡ present
    → AreTablesLaid present coming between fresh tables entries → AreSnapshotsPlaced other between after fresh more (places_of standing snapshots) snapshots placed → others ≡ map entry_of placed → AreChainsLaid present coming after more tables standing snapshots entries others placed
chains_laid present other coming between after fresh more tables standing snapshots entries others placed p first behind are =
    let then : AreSnapshotsPlaced present between after fresh more (places_of standing snapshots) snapshots placed = subst (λ (ms : List Bool). AreSnapshotsPlaced ms between after fresh more (places_of standing snapshots) snapshots placed) p behind in
    let laid_then = fresh_chains then.drafts in
    record {
      laid = first.laid;
      drafts = then.drafts;
      in_turn = record {
        to_write = then.to_write ∙ (ap (λ (xs : List (ℕ × List ℕ)). xs ++ all_laid laid_then) first.in_turn.to_write ∙ sym (written_on first.laid laid_then));
        fit = fit_on first.laid laid_then first.in_turn.fit then.fit;
        taken = taken_on present coming between after first.laid laid_then first.in_turn.taken then.taken;
      };
      kept = then.kept;
      texts = first.texts;
      named = first.named;
      others_named = are ∙ (entries_are placed ∙ (λ i. snapshot_entries (sym then.chains i) (then.named i)));
      chains = then.chains;
      placed_as = then.named;
      counted = omega (
        arith,
        first.counted,
        then.counted,
        ap (λ (xs : List ℕ). length xs) (pages_on first.laid laid_then),
        length-append (laid_pages first.laid) (laid_pages laid_then),
      );
    }

-- where too few pages are free for the snapshots behind the tables, they were too few for both
pub too_few_then : (present other coming between : List Bool) (fresh : List FreshPage) (tables : List Table) (standing : List StandingSnapshot) (snapshots : List Snapshot) (entries : List TableEntry) → other ≡ present → AreTablesLaid present coming between fresh tables entries
    → TooFewFree other between (snapshot_pages (laid_snapshots standing snapshots)) → TooFewFree present coming (chain_pages standing tables snapshots)
too_few_then present other coming between fresh tables standing snapshots entries p first few =
    let needed = snapshot_pages (laid_snapshots standing snapshots) in
    too_few_behind present coming between (laid_pages first.laid) needed (chain_pages standing tables snapshots) first.in_turn.taken
    (subst (λ (ms : List Bool). TooFewFree ms between needed) p few) (omega (arith, first.counted))

-- the bytes of those that will stand
texts_placed : (placed : List StandingSnapshot) → texts_of (standing_chains placed) ≡ map bytes_of (map standing_as placed)
texts_placed [] = refl
texts_placed (standing ∷ placed) = ap (λ (texts : List (List ℕ)). rc_slice_items standing.bytes ∷ texts) (texts_placed placed)

pub texts_are : (present coming after : List Bool) (fresh : List FreshPage) (tables : List Table) (standing : List StandingSnapshot) (snapshots : List Snapshot) (entries : List TableEntry) (others : List SnapshotEntry) (placed : List StandingSnapshot)
    → (laid : AreChainsLaid present coming after fresh tables standing snapshots entries others placed) → texts_of (chains_of laid.drafts) ≡ map bytes_of snapshots
texts_are present coming after fresh tables standing snapshots entries others placed laid =
    ap (λ (chains : List HeldChain). texts_of chains) laid.chains ∙ (texts_placed placed ∙ ap (λ (ss : List Snapshot). map bytes_of ss) laid.placed_as)

-- which are few
placed_few : (placed : List StandingSnapshot) (snapshots : List Snapshot) (counts : List ℕ) → map standing_as placed ≡ snapshots → All (IsCounted counts) snapshots → All (λ (s : StandingSnapshot). length (rc_slice_items s.bytes) ≤ 16384) placed
placed_few [] snapshots counts same all = All-nil (λ (s : StandingSnapshot). length (rc_slice_items s.bytes) ≤ 16384)
placed_few (standing ∷ placed) [] counts same all = absurd (cc)
placed_few (standing ∷ placed) (snapshot ∷ snapshots) counts same all =
    let first : standing_as standing ≡ snapshot = cc in
    let rest : map standing_as placed ≡ snapshots = cc in
    let here = All-head (IsCounted counts) snapshot snapshots all in
    All-cons (λ (s : StandingSnapshot). length (rc_slice_items s.bytes) ≤ 16384) standing placed (omega (arith, here.2, ap (λ (s : Snapshot). length s.bytes) first)) (placed_few placed snapshots counts rest (All-tail (IsCounted counts) snapshot snapshots all))

pub placed_short : (present coming after : List Bool) (old new : List FreshPage) (places : List (Option StandingSnapshot)) (snapshots : List Snapshot) (placed : List StandingSnapshot) (counts : List ℕ) → AreSnapshotsPlaced present coming after old new places snapshots placed → All (IsCounted counts) snapshots
    → All (λ (s : StandingSnapshot). length (rc_slice_items s.bytes) ≤ 16384) placed
placed_short present coming after old new places snapshots placed counts are all = placed_few placed snapshots counts are.named all
