-- Which snapshots stay where they stand.
use Rattle.std.proofs.Common.{◌≡◌, inl, inr, ℕ, suc, ◌+◌, ◌<◌, ◌≤◌, Bool, true, false, List, [], ◌∷◌, ◌++◌, length, map, take, get_or, Option, None, Some, refl, sym, ◌∙◌, ap, subst, arith}
use Rattle.std.specs.Prelude.{◌==◌, ◌&&◌, bytes_eq, if◌then◌else◌}
use Rattle.std.proofs.lemmas.List.{append_assoc, map_more, map-append}
use Rattle.std.proofs.lemmas.List.Sums.{sum_by-cons}
use Rattle.std.proofs.lemmas.Bool.{eqb-true}
use Rattle.std.proofs.lemmas.Slice.Eq.{bytes_eq-Decides}
use Rattle.rr_images.specs.Holding.{HeldChain, pages_of, AreSome}
use Rattle.rr_pages.specs.Laying.{pages_for}
use Rattle.rr_pages.specs.Sets.{all_marked}
use Rattle.rr_checkpoint.specs.declared.plan.kit.KitPages.{KitPages}
use Rattle.rr_checkpoint.specs.declared.plan.snapshot.SnapshotTranscript.{SnapshotTranscript}
use Rattle.rr_checkpoint.specs.declared.plan.standing.StandingSnapshot.{StandingSnapshot}
use Rattle.rr_checkpoint.specs.Plan.Kit.{text_pages}
use Rattle.rr_checkpoint.specs.Plan.Laying.{snapshot_pages}
use Rattle.rr_checkpoint.specs.Plan.Snapshots.{snapshot_of}
use Rattle.rr_checkpoint.specs.Plan.Standing.{StandsAs, behind, comes_before, from, if_same, is_same, kept_at, kept_snapshots, laid_at, left_behind, left_by, place_of, places_of, standing_as, standing_chain, standing_chains, staying_pages}
use Rattle.rr_reading.specs.Worlds.World.{Snapshot}
use Rattle.rr_checkpoint.proofs.PlanLemmas.Frames.{marked_on}

-- snapshots behind others
pub places_on : (standing : List StandingSnapshot) (snapshots more : List Snapshot) → places_of standing (snapshots ++ more) ≡ places_of standing snapshots ++ places_of (left_behind standing snapshots) more
places_on standing [] more = refl
places_on standing (snapshot ∷ snapshots) more = ap (λ (places : List (Option StandingSnapshot)). place_of standing snapshot ∷ places) (places_on (left_by standing snapshot) snapshots more)

pub left_on : (standing : List StandingSnapshot) (snapshots more : List Snapshot) → left_behind standing (snapshots ++ more) ≡ left_behind (left_behind standing snapshots) more
left_on standing [] more = refl
left_on standing (snapshot ∷ snapshots) more = left_on (left_by standing snapshot) snapshots more

pub places_long : (standing : List StandingSnapshot) (snapshots : List Snapshot) → length (places_of standing snapshots) ≡ length snapshots
places_long standing [] = refl
places_long standing (snapshot ∷ snapshots) = ap suc (places_long (left_by standing snapshot) snapshots)

pub kept_on : (places more : List (Option StandingSnapshot)) → kept_at (places ++ more) ≡ kept_at places ++ kept_at more
kept_on [] more = refl
kept_on (None ∷ places) more = kept_on places more
kept_on (Some standing ∷ places) more = ap (λ (kept : List StandingSnapshot). standing ∷ kept) (kept_on places more)

pub laid_on : (places more : List (Option StandingSnapshot)) (snapshots others : List Snapshot) → length places ≡ length snapshots → laid_at (places ++ more) (snapshots ++ others) ≡ laid_at places snapshots ++ laid_at more others
laid_on [] more [] others same = refl
laid_on [] more (snapshot ∷ snapshots) others same = absurd (omega (arith, same))
laid_on (place ∷ places) more [] others same = absurd (omega (arith, same))
laid_on (None ∷ places) more (snapshot ∷ snapshots) others same = ap (λ (laid : List Snapshot). snapshot ∷ laid) (laid_on places more snapshots others (omega (arith, same)))
laid_on (Some standing ∷ places) more (snapshot ∷ snapshots) others same = laid_on places more snapshots others (omega (arith, same))

-- the pages of those that stay
pub pages_both : (front back : List HeldChain) → pages_of (front ++ back) ≡ pages_of front ++ pages_of back
pages_both [] back = refl
pages_both (chain ∷ front) back = ap (λ (pages : List ℕ). chain.pages ++ pages) (pages_both front back) ∙ sym (append_assoc chain.pages (pages_of front) (pages_of back))

pub chains_on : (places more : List (Option StandingSnapshot)) → standing_chains (kept_at (places ++ more)) ≡ standing_chains (kept_at places) ++ standing_chains (kept_at more)
chains_on places more = ap (λ (kept : List StandingSnapshot). standing_chains kept) (kept_on places more) ∙ map-append standing_chain (kept_at places) (kept_at more)

pub kept_pages_on : (standing : List StandingSnapshot) (snapshots more : List Snapshot)
    → pages_of (standing_chains (kept_snapshots standing (snapshots ++ more))) ≡ pages_of (standing_chains (kept_snapshots standing snapshots)) ++ pages_of (standing_chains (kept_snapshots (left_behind standing snapshots) more))
kept_pages_on standing snapshots more =
    let before = places_of standing snapshots in
    let later = places_of (left_behind standing snapshots) more in
    ap (λ (places : List (Option StandingSnapshot)). pages_of (standing_chains (kept_at places))) (places_on standing snapshots more)
    ∙ (ap (λ (chains : List HeldChain). pages_of chains) (chains_on before later) ∙ pages_both (standing_chains (kept_at before)) (standing_chains (kept_at later)))

-- those that stay are some of those that stand
some_behind : (chain : HeldChain) (chains all : List HeldChain) → AreSome chains all → AreSome chains (chain ∷ all)
some_behind chain [] all some = tt
some_behind chain (first ∷ chains) all some = inr some

pub some_far : (front chains all : List HeldChain) → AreSome chains all → AreSome chains (front ++ all)
some_far [] chains all some = some
some_far (chain ∷ front) chains all some = some_behind chain chains (front ++ all) (some_far front chains all some)

some_from_if : (before : Bool) (snapshot : Snapshot) (first : StandingSnapshot) (others : List StandingSnapshot) (chains : List HeldChain) → (AreSome chains (standing_chains (from snapshot others)) → AreSome chains (standing_chains others))
    → AreSome chains (standing_chains (if before then from snapshot others else first ∷ others)) → AreSome chains (standing_chains (first ∷ others))
some_from_if true snapshot first others chains rest some = some_behind (standing_chain first) chains (standing_chains others) (rest some)
some_from_if false snapshot first others chains rest some = some

some_from : (snapshot : Snapshot) (standing : List StandingSnapshot) (chains : List HeldChain) → AreSome chains (standing_chains (from snapshot standing)) → AreSome chains (standing_chains standing)
some_from snapshot [] chains some = some
some_from snapshot (first ∷ others) chains some = some_from_if (comes_before (standing_as first) snapshot) snapshot first others chains (some_from snapshot others chains) some

-- whatever the next snapshots are
abbrev StaySome : List Snapshot → Type 0
StaySome snapshots = (standing : List StandingSnapshot) → AreSome (standing_chains (kept_snapshots standing snapshots)) (standing_chains standing)

some_if : (same : Bool) (first : StandingSnapshot) (others : List StandingSnapshot) (snapshots : List Snapshot) → StaySome snapshots
    → AreSome (standing_chains (kept_at ((if same then Some first else None) ∷ places_of (behind (if same then Some first else None) (first ∷ others)) snapshots))) (standing_chains (first ∷ others))
some_if true first others snapshots rest = inl (refl, rest others)
some_if false first others snapshots rest = rest (first ∷ others)

some_here : (snapshot : Snapshot) (standing : List StandingSnapshot) (snapshots : List Snapshot) → StaySome snapshots → AreSome (standing_chains (kept_at (if_same snapshot standing ∷ places_of (behind (if_same snapshot standing) standing) snapshots))) (standing_chains standing)
some_here snapshot [] snapshots rest = rest []
some_here snapshot (first ∷ others) snapshots rest = some_if (is_same (standing_as first) snapshot) first others snapshots rest

pub some_kept : (standing : List StandingSnapshot) (snapshots : List Snapshot) → AreSome (standing_chains (kept_snapshots standing snapshots)) (standing_chains standing)
some_kept standing [] = tt
some_kept standing (snapshot ∷ snapshots) =
    some_from snapshot standing (standing_chains (kept_snapshots standing (snapshot ∷ snapshots)))
    (some_here snapshot (from snapshot standing) snapshots (λ others. some_kept others snapshots))

-- where a snapshot stands it is the same
both : (p q : Bool) → (p && q) ≡ true → (p ≡ true) × (q ≡ true)
both true q are = (refl, are)
both false q are = absurd (cc)

pub same_snapshot : (first other : Snapshot) → is_same first other ≡ true → first ≡ other
same_snapshot first other same =
    let all = both (first.table == other.table && first.kept == other.kept) (bytes_eq first.bytes other.bytes) same in
    let front = both (first.table == other.table) (first.kept == other.kept) all.0 in
    let table : first.table ≡ other.table = eqb-true first.table other.table front.0 in
    let kept : first.kept ≡ other.kept = eqb-true first.kept other.kept front.1 in
    let bytes : first.bytes ≡ other.bytes = (bytes_eq-Decides first.bytes other.bytes).0 all.1 in
    λ i. record { table = table i; kept = kept i; bytes = bytes i }

stands_if : (same : Bool) (first : StandingSnapshot) (snapshot : Snapshot) → is_same (standing_as first) snapshot ≡ same → StandsAs snapshot (if same then Some first else None)
stands_if true first snapshot is = same_snapshot (standing_as first) snapshot is
stands_if false first snapshot is = tt

pub stands_as : (snapshot : Snapshot) (standing : List StandingSnapshot) → StandsAs snapshot (if_same snapshot standing)
stands_as snapshot [] = tt
stands_as snapshot (first ∷ others) = stands_if (is_same (standing_as first) snapshot) first snapshot refl

pub stands_there : (snapshot : Snapshot) (standing : List StandingSnapshot) (place : Option StandingSnapshot) → place ≡ if_same snapshot standing → StandsAs snapshot place
stands_there snapshot standing place is = subst (λ (there : Option StandingSnapshot). StandsAs snapshot there) (sym is) (stands_as snapshot standing)

-- one of several snapshots that are laid takes no more pages than all
pub one_laid : (place : Option StandingSnapshot) (places : List (Option StandingSnapshot)) (snapshot : Snapshot) (snapshots : List Snapshot) → snapshot_pages (laid_at (place ∷ []) (snapshot ∷ [])) ≤ snapshot_pages (laid_at (place ∷ places) (snapshot ∷ snapshots))
one_laid None places snapshot snapshots = omega (arith, sum_by-cons (λ (s : Snapshot). pages_for (length s.bytes)) snapshot [], sum_by-cons (λ (s : Snapshot). pages_for (length s.bytes)) snapshot (laid_at places snapshots))
one_laid (Some standing) places snapshot snapshots = omega arith

-- the snapshots of a transcript, as far as they are gone through
pub snapshots_more : (parts : List SnapshotTranscript) (n : ℕ) (part : SnapshotTranscript) → n < length parts → part ≡ get_or parts n part → map snapshot_of (take (n + 1) parts) ≡ map snapshot_of (take n parts) ++ snapshot_of part ∷ []
snapshots_more parts n part within item =
    map_more snapshot_of parts n part within ∙ ap (λ (p : SnapshotTranscript). map snapshot_of (take n parts) ++ snapshot_of p ∷ []) (sym item)

-- what is left behind one more
pub next_left : (standing rest now : List StandingSnapshot) (parts : List SnapshotTranscript) (n : ℕ) (part : SnapshotTranscript) → n < length parts → part ≡ get_or parts n part → rest ≡ left_behind standing (map snapshot_of (take n parts)) → now ≡ left_by rest (snapshot_of part)
    → now ≡ left_behind standing (map snapshot_of (take (n + 1) parts))
next_left standing rest now parts n part within item left is =
    let snapshots = map snapshot_of (take n parts) in
    is
    ∙ (ap (λ (ss : List StandingSnapshot). left_by ss (snapshot_of part)) left
    ∙ (sym (left_on standing snapshots (snapshot_of part ∷ [])) ∙ ap (λ (ss : List Snapshot). left_behind standing ss) (sym (snapshots_more parts n part within item))))

-- and its pages, if it stays
pub next_kept : (start marks after : List Bool) (standing rest : List StandingSnapshot) (parts : List SnapshotTranscript) (n : ℕ) (part : SnapshotTranscript) → n < length parts → part ≡ get_or parts n part → rest ≡ left_behind standing (map snapshot_of (take n parts))
    → marks ≡ all_marked start (pages_of (standing_chains (kept_snapshots standing (map snapshot_of (take n parts))))) → after ≡ all_marked marks (pages_of (standing_chains (kept_snapshots rest (snapshot_of part ∷ []))))
    → after ≡ all_marked start (pages_of (standing_chains (kept_snapshots standing (map snapshot_of (take (n + 1) parts)))))
next_kept start marks after standing rest parts n part within item left so_far is =
    let snapshots = map snapshot_of (take n parts) in
    let before = pages_of (standing_chains (kept_snapshots standing snapshots)) in
    let more = pages_of (standing_chains (kept_snapshots (left_behind standing snapshots) (snapshot_of part ∷ []))) in
    is
    ∙ ((λ i. all_marked (so_far i) (pages_of (standing_chains (kept_snapshots (left i) (snapshot_of part ∷ [])))))
    ∙ (sym (marked_on start before more)
    ∙ (ap (λ (pages : List ℕ). all_marked start pages) (sym (kept_pages_on standing snapshots (snapshot_of part ∷ [])))
    ∙ ap (λ (ss : List Snapshot). all_marked start (pages_of (standing_chains (kept_snapshots standing ss)))) (sym (snapshots_more parts n part within item)))))

-- all that stays: the texts, and then the snapshots
pub staying_marked : (start texts kept : List Bool) (kit : KitPages) (standing : List StandingSnapshot) (parts slice : List SnapshotTranscript) → slice ≡ parts → texts ≡ all_marked start (text_pages kit) → kept ≡ all_marked texts (pages_of (standing_chains (kept_snapshots standing (map snapshot_of slice))))
    → kept ≡ all_marked start (staying_pages kit standing (map snapshot_of parts))
staying_marked start texts kept kit standing parts slice same first is =
    is
    ∙ ((λ i. all_marked (first i) (pages_of (standing_chains (kept_snapshots standing (map snapshot_of (same i))))))
    ∙ sym (marked_on start (text_pages kit) (pages_of (standing_chains (kept_snapshots standing (map snapshot_of parts))))))
