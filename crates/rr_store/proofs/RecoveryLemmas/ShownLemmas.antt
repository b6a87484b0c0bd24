-- The snapshots of a file, one entry after another, and the games that they are.
use Rattle.std.proofs.Common.{◌≡◌, ◌⊎◌, ℕ, zero, suc, ◌+◌, ◌<◌, ◌≤◌, ◌==◌, Bool, true, false, if◌then◌else◌, List, [], ◌∷◌, ◌++◌, All, length, take, get_or, min, inl, inr, refl, sym, ap, subst, ◌∙◌, arith}
use Rattle.std.proofs.lemmas.Bool.Decides.{nat_tests}
use Rattle.std.proofs.lemmas.List.{length-take-le, take_more}
use Rattle.std.proofs.lemmas.List.Elements.{All-cons, All-head, All-nil, All-push, All-tail, All-weaker}
use Rattle.std.proofs.lemmas.Option.{slice_get_within}
use Rattle.std.specs.List.{AllZip}
use Rattle.std.specs.Rc.{rc_slice_items}
use Rattle.rr_checkpoint.specs.declared.plan.standing.StandingSnapshot.{StandingSnapshot}
use Rattle.rr_checkpoint.specs.Plan.Standing.{standing_chain, standing_chains}
use Rattle.rr_code.specs.declared.command.Command.{Command}
use Rattle.rr_game.specs.declared.game.Game.{Game}
use Rattle.rr_game.specs.History.GameBytes.{SpellsOneGame, one_spelled}
use Rattle.rr_game.specs.History.Playing.{IsPlayOf}
use Rattle.rr_images.specs.Holding.{HeldChain}
use Rattle.rr_kit.specs.declared.kit.Kit.{Kit}
use Rattle.rr_pages.specs.declared.fault.Damage.TheVariants.{Kept as NotPlayed}
use Rattle.rr_reading.specs.Dir.Directory.{IsSnapshot}
use Rattle.rr_reading.specs.declared.dir.directory.SnapshotEntry.{SnapshotEntry}
use Rattle.rr_reading.specs.declared.dir.directory.TableEntry.{TableEntry}
use Rattle.rr_store.specs.declared.recovery.fault.Fault.{Fault}
use Rattle.rr_store.specs.declared.recovery.fault.Fault.TheVariants as F
use Rattle.rr_store.specs.Recovery.Shown.{IsPlayWithin, KeepsShown, Shown, ShowsPlayOf, SpellsItsGame, SpellsTheGame, shown_at, shown_in}

-- ---- one entry and its chain more

pick : (b : Bool) (s : Shown) (all some one : List Shown) → all ≡ some ++ one → (if b then s ∷ all else all) ≡ (if b then s ∷ some else some) ++ one
pick true s all some one same = ap (λ (l : List Shown). s ∷ l) same
pick false s all some one same = same

at_push : (place : ℕ) (entries : List SnapshotEntry) (chains : List HeldChain) (entry : SnapshotEntry) (chain : HeldChain) → length entries ≡ length chains
    → shown_at place (entries ++ entry ∷ []) (chains ++ chain ∷ []) ≡ shown_at place entries chains ++ shown_at place (entry ∷ []) (chain ∷ [])
at_push place [] [] entry chain same = refl
at_push place [] (c ∷ cs) entry chain same = absurd (omega (arith, same))
at_push place (e ∷ es) [] entry chain same = absurd (omega (arith, same))
at_push place (e ∷ es) (c ∷ cs) entry chain same =
    pick (e.table == place) (record { kept = e.kept; bytes = c.text }) _ _ _ (at_push place es cs entry chain (omega (arith, same)))

in_push : (entries : List SnapshotEntry) (chains : List HeldChain) (entry : SnapshotEntry) (chain : HeldChain) → length entries ≡ length chains
    → shown_in (entries ++ entry ∷ []) (chains ++ chain ∷ []) ≡ shown_in entries chains ++ shown_in (entry ∷ []) (chain ∷ [])
in_push [] [] entry chain same = refl
in_push [] (c ∷ cs) entry chain same = absurd (omega (arith, same))
in_push (e ∷ es) [] entry chain same = absurd (omega (arith, same))
in_push (e ∷ es) (c ∷ cs) entry chain same =
    ap (λ (l : List Shown). record { kept = e.kept; bytes = c.text } ∷ l) (in_push es cs entry chain (omega (arith, same)))

chains_push : (chains : List StandingSnapshot) (chain : StandingSnapshot) → standing_chains (chains ++ chain ∷ []) ≡ standing_chains chains ++ standing_chain chain ∷ []
chains_push [] chain = refl
chains_push (c ∷ cs) chain = ap (λ (l : List HeldChain). standing_chain c ∷ l) (chains_push cs chain)

chains_long : (chains : List StandingSnapshot) → length (standing_chains chains) ≡ length chains
chains_long [] = refl
chains_long (c ∷ cs) = ap suc (chains_long cs)

module _ (entries : List SnapshotEntry) (chains : List StandingSnapshot) (n : ℕ) (entry : SnapshotEntry) (chain : StandingSnapshot) (entry_in : n < length entries) (chain_in : n < length chains)
    (entry_is : entry ≡ get_or entries n entry) (chain_is : chain ≡ get_or chains n chain) where
  fronts : take (n + 1) entries ≡ take n entries ++ entry ∷ []
  fronts = take_more entries n entry entry_in ∙ ap (λ (e : SnapshotEntry). take n entries ++ e ∷ []) (sym entry_is)

  helds : standing_chains (take (n + 1) chains) ≡ standing_chains (take n chains) ++ standing_chain chain ∷ []
  helds =
      ap (λ (cs : List StandingSnapshot). standing_chains cs) (take_more chains n chain chain_in ∙ ap (λ (c : StandingSnapshot). take n chains ++ c ∷ []) (sym chain_is))
      ∙ chains_push (take n chains) chain

  as_long : length (take n entries) ≡ length (standing_chains (take n chains))
  as_long = omega (arith, chains_long (take n chains), length-take-le n entries (omega (arith, entry_in)), length-take-le n chains (omega (arith, chain_in)))

  pub at_more : (place : ℕ) → shown_at place (take (n + 1) entries) (standing_chains (take (n + 1) chains)) ≡ shown_at place (take n entries) (standing_chains (take n chains)) ++ shown_at place (entry ∷ []) (standing_chain chain ∷ [])
  at_more place = (λ i. shown_at place (fronts i) (helds i)) ∙ at_push place (take n entries) (standing_chains (take n chains)) entry (standing_chain chain) as_long

  pub in_more : shown_in (take (n + 1) entries) (standing_chains (take (n + 1) chains)) ≡ shown_in (take n entries) (standing_chains (take n chains)) ++ shown_in (entry ∷ []) (standing_chain chain ∷ [])
  in_more = (λ i. shown_in (fronts i) (helds i)) ∙ in_push (take n entries) (standing_chains (take n chains)) entry (standing_chain chain) as_long

-- ---- the shorter of the two lists is gone through

same_pick : (b : Bool) (s : Shown) (some all : List Shown) → some ≡ all → (if b then s ∷ some else some) ≡ (if b then s ∷ all else all)
same_pick true s some all same = ap (λ (l : List Shown). s ∷ l) same
same_pick false s some all same = same

pub at_whole : (place : ℕ) (entries : List SnapshotEntry) (chains : List StandingSnapshot) (n : ℕ) → n ≡ min (length entries) (length chains)
    → shown_at place (take n entries) (standing_chains (take n chains)) ≡ shown_at place entries (standing_chains chains)
at_whole place [] chains zero same = refl
at_whole place [] chains (suc n) same = absurd (omega (arith, same))
at_whole place (e ∷ es) [] zero same = refl
at_whole place (e ∷ es) [] (suc n) same = absurd (omega (arith, same))
at_whole place (e ∷ es) (c ∷ cs) zero same = absurd (omega (arith, same))
at_whole place (e ∷ es) (c ∷ cs) (suc n) same =
    same_pick (e.table == place) (record { kept = e.kept; bytes = rc_slice_items c.bytes }) _ _ (at_whole place es cs n (omega (arith, same)))

pub in_whole : (entries : List SnapshotEntry) (chains : List StandingSnapshot) (n : ℕ) → n ≡ min (length entries) (length chains)
    → shown_in (take n entries) (standing_chains (take n chains)) ≡ shown_in entries (standing_chains chains)
in_whole [] chains zero same = refl
in_whole [] chains (suc n) same = absurd (omega (arith, same))
in_whole (e ∷ es) [] zero same = refl
in_whole (e ∷ es) [] (suc n) same = absurd (omega (arith, same))
in_whole (e ∷ es) (c ∷ cs) zero same = absurd (omega (arith, same))
in_whole (e ∷ es) (c ∷ cs) (suc n) same =
    ap (λ (l : List Shown). record { kept = e.kept; bytes = rc_slice_items c.bytes } ∷ l) (in_whole es cs n (omega (arith, same)))

-- ---- what holds of all holds of each

of_picked : (P : Shown → Type 0) (b : Bool) (s : Shown) (all : List Shown) → All P (if b then s ∷ all else all) → All P all
of_picked P true s all holds = All-tail P s all holds
of_picked P false s all holds = holds

of_one : (P : Shown → Type 0) (b : Bool) (s : Shown) (all : List Shown) → All P (if b then s ∷ all else all) → All P (if b then s ∷ [] else [])
of_one P true s all holds = All-cons P s [] (All-head P s all holds) (All-nil P)
of_one P false s all holds = All-nil P

module _ (P : Shown → Type 0) where
  at_there : (place : ℕ) (entries : List SnapshotEntry) (chains : List StandingSnapshot) (n : ℕ) (d : SnapshotEntry) (c : StandingSnapshot) → n < length entries → n < length chains
      → All P (shown_at place entries (standing_chains chains)) → All P (shown_at place (get_or entries n d ∷ []) (standing_chain (get_or chains n c) ∷ []))
  at_there place [] chains n d c entry_in chain_in all = absurd (omega (arith, entry_in))
  at_there place (e ∷ es) [] n d c entry_in chain_in all = absurd (omega (arith, chain_in))
  at_there place (e ∷ es) (h ∷ hs) zero d c entry_in chain_in all = of_one P (e.table == place) _ _ all
  at_there place (e ∷ es) (h ∷ hs) (suc n) d c entry_in chain_in all =
      at_there place es hs n d c (omega (arith, entry_in)) (omega (arith, chain_in)) (of_picked P (e.table == place) _ _ all)

  in_there : (entries : List SnapshotEntry) (chains : List StandingSnapshot) (n : ℕ) (d : SnapshotEntry) (c : StandingSnapshot) → n < length entries → n < length chains
      → All P (shown_in entries (standing_chains chains)) → P (record { kept = (get_or entries n d).kept; bytes = rc_slice_items (get_or chains n c).bytes })
  in_there [] chains n d c entry_in chain_in all = absurd (omega (arith, entry_in))
  in_there (e ∷ es) [] n d c entry_in chain_in all = absurd (omega (arith, chain_in))
  in_there (e ∷ es) (h ∷ hs) zero d c entry_in chain_in all = All-head P _ _ all
  in_there (e ∷ es) (h ∷ hs) (suc n) d c entry_in chain_in all =
      in_there es hs n d c (omega (arith, entry_in)) (omega (arith, chain_in)) (All-tail P _ _ all)

  pub at_one : (place : ℕ) (entries : List SnapshotEntry) (chains : List StandingSnapshot) (n : ℕ) (entry : SnapshotEntry) (chain : StandingSnapshot) → n < length entries → n < length chains
      → entry ≡ get_or entries n entry → chain ≡ get_or chains n chain → All P (shown_at place entries (standing_chains chains)) → All P (shown_at place (entry ∷ []) (standing_chain chain ∷ []))
  at_one place entries chains n entry chain entry_in chain_in entry_is chain_is all =
      subst (λ (e : SnapshotEntry). All P (shown_at place (e ∷ []) (standing_chain chain ∷ []))) (sym entry_is)
      (subst (λ (c : StandingSnapshot). All P (shown_at place (get_or entries n entry ∷ []) (standing_chain c ∷ []))) (sym chain_is)
      (at_there place entries chains n entry chain entry_in chain_in all))

  pub in_one : (entries : List SnapshotEntry) (chains : List StandingSnapshot) (n : ℕ) (entry : SnapshotEntry) (chain : StandingSnapshot) → n < length entries → n < length chains
      → entry ≡ get_or entries n entry → chain ≡ get_or chains n chain → All P (shown_in entries (standing_chains chains)) → P (record { kept = entry.kept; bytes = rc_slice_items chain.bytes })
  in_one entries chains n entry chain entry_in chain_in entry_is chain_is all =
      subst (λ (e : SnapshotEntry). P (record { kept = e.kept; bytes = rc_slice_items chain.bytes })) (sym entry_is)
      (subst (λ (c : StandingSnapshot). P (record { kept = (get_or entries n entry).kept; bytes = rc_slice_items c.bytes })) (sym chain_is)
      (in_there entries chains n entry chain entry_in chain_in all))

-- what holds of those of each table holds of all, where each is of one of the tables

equal_test : (n m : ℕ) → n ≡ m → (n == m) ≡ true
equal_test n m h = grind (arith, nat_tests)

own_one : (P : Shown → Type 0) (b : Bool) (s : Shown) (all : List Shown) → b ≡ true → All P (if b then s ∷ all else all) → P s
own_one P true s all is holds = All-head P s all holds
own_one P false s all is holds = absurd cc

pub each_table : (P : Shown → Type 0) (tables : List TableEntry) (entries : List SnapshotEntry) (chains : List HeldChain) → All (IsSnapshot tables) entries
    → ((place : ℕ) → place < length tables → All P (shown_at place entries chains)) → All P (shown_in entries chains)
each_table P tables [] chains are each = All-nil P
each_table P tables (e ∷ es) [] are each = All-nil P
each_table P tables (e ∷ es) (c ∷ cs) are each =
    let own = All-head (IsSnapshot tables) e es are in
    let within = slice_get_within tables e.table own.table own.of_table in
    All-cons P _ (shown_in es cs) (own_one P (e.table == e.table) _ _ (equal_test e.table e.table refl) (each e.table within))
    (each_table P tables es cs (All-tail (IsSnapshot tables) e es are) (λ place less. of_picked P (e.table == place) _ _ (each place less)))

-- ---- the games of snapshots

zip_append : {A B : Type 0} (R : A → B → Type 0) (xs us : List A) (ys vs : List B) → AllZip R xs ys → AllZip R us vs → AllZip R (xs ++ us) (ys ++ vs)
zip_append R [] us [] vs first second = second
zip_append R [] us (y ∷ ys) vs first second = absurd first
zip_append R (x ∷ xs) us [] vs first second = absurd first
zip_append R (x ∷ xs) us (y ∷ ys) vs first second = (first.0, zip_append R xs us ys vs first.1 second)

pub keeps_more : (all some one : List Shown) (old new : List Game) → all ≡ some ++ one → AllZip SpellsTheGame some old → KeepsShown one old new → AllZip SpellsTheGame all new
keeps_more all some one old new parted before more =
    subst (λ (l : List Shown). AllZip SpellsTheGame l new) (sym parted)
    (subst (λ (gs : List Game). AllZip SpellsTheGame (some ++ one) gs) (sym more.2) (zip_append SpellsTheGame some one old more.0 before more.1))

-- ---- the snapshots that were told so far

module _ (entries : List SnapshotEntry) (chains : List StandingSnapshot) (n : ℕ) (entry : SnapshotEntry) (chain : StandingSnapshot) (entry_in : n < length entries) (chain_in : n < length chains)
    (entry_is : entry ≡ get_or entries n entry) (chain_is : chain ≡ get_or chains n chain) (next : ℕ) (one : next ≡ n + 1) where
  pub told_one_more : All SpellsItsGame (shown_in (take n entries) (standing_chains (take n chains))) → SpellsOneGame (rc_slice_items chain.bytes) entry.kept
      → All SpellsItsGame (shown_in (take next entries) (standing_chains (take next chains)))
  told_one_more before here =
      subst (λ (k : ℕ). All SpellsItsGame (shown_in (take k entries) (standing_chains (take k chains)))) (sym one)
      (subst (λ (l : List Shown). All SpellsItsGame l) (sym (in_more entries chains n entry chain entry_in chain_in entry_is chain_is))
      (All-push SpellsItsGame (shown_in (take n entries) (standing_chains (take n chains))) _ before here))

  pub kept_one_more : (place : ℕ) (old new : List Game) → AllZip SpellsTheGame (shown_at place (take n entries) (standing_chains (take n chains))) old
      → KeepsShown (shown_at place (entry ∷ []) (standing_chain chain ∷ [])) old new → AllZip SpellsTheGame (shown_at place (take next entries) (standing_chains (take next chains))) new
  kept_one_more place old new before more =
      subst (λ (k : ℕ). AllZip SpellsTheGame (shown_at place (take k entries) (standing_chains (take k chains))) new) (sym one)
      (keeps_more _ _ _ old new (at_more entries chains n entry chain entry_in chain_in entry_is chain_is place) before more)

-- a snapshot of this table that is no game
one_wrong : (b : Bool) (shown : Shown) → b ≡ true → (SpellsItsGame shown → ⊥) → All SpellsItsGame (if b then shown ∷ [] else []) → ⊥
one_wrong true shown is wrong all = wrong (All-head SpellsItsGame shown [] all)
one_wrong false shown is wrong all = absurd cc

pub is_wrong : (place : ℕ) (entry : SnapshotEntry) (chain : StandingSnapshot) → entry.table ≡ place → (SpellsOneGame (rc_slice_items chain.bytes) entry.kept → ⊥) → All SpellsItsGame (shown_at place (entry ∷ []) (standing_chain chain ∷ [])) → ⊥
is_wrong place entry chain same wrong all = one_wrong (entry.table == place) _ (equal_test entry.table place same) wrong all

-- a fault that says so of all
pub wrong_so : {P Q : Type 0} (fault : Fault) → (fault ≡ F.OutOfMemory) ⊎ ((fault ≡ F.Damaged NotPlayed) × (P → ⊥)) → (Q → P) → (fault ≡ F.OutOfMemory) ⊎ ((fault ≡ F.Damaged NotPlayed) × (Q → ⊥))
wrong_so fault (inl memory) so = inl memory
wrong_so fault (inr wrong) so = inr (wrong.0, λ all. wrong.1 (so all))

-- snapshots that show the play of commands are games of that play
shows_its_game : (kit : Kit) (commands : List Command) (shown : Shown) → ShowsPlayOf kit commands shown → SpellsItsGame shown
shows_its_game kit commands shown shows = (shows.game, shows.spelled)

pub show_games : (kit : Kit) (commands : List Command) (shown : List Shown) → All (ShowsPlayOf kit commands) shown → All SpellsItsGame shown
show_games kit commands shown all = All-weaker (ShowsPlayOf kit commands) SpellsItsGame (shows_its_game kit commands) shown all

-- and so are those that were read as games
pub read_are_games : (shown : List Shown) (games : List Game) → AllZip SpellsTheGame shown games → All SpellsItsGame shown
read_are_games [] games read = All-nil SpellsItsGame
read_are_games (s ∷ ss) [] read = absurd read
read_are_games (s ∷ ss) (g ∷ gs) read = All-cons SpellsItsGame s ss (g, read.0) (read_are_games ss gs read.1)

-- where there are none, none was read
pub none_read : (shown : List Shown) (games : List Game) → AllZip SpellsTheGame shown games → shown ≡ [] → games ≡ []
none_read [] [] read none = refl
none_read [] (g ∷ gs) read none = absurd read
none_read (s ∷ ss) games read none = absurd (cc none)

-- no snapshots show the play of any commands
pub show_nothing : (kit : Kit) (commands : List Command) (shown : List Shown) → shown ≡ [] → All (ShowsPlayOf kit commands) shown
show_nothing kit commands shown none = subst (λ (s : List Shown). All (ShowsPlayOf kit commands) s) (sym none) (All-nil (ShowsPlayOf kit commands))

is_within : (kit : Kit) (commands : List Command) (shown : Shown) (game : Game) → SpellsTheGame shown game → ShowsPlayOf kit commands shown → IsPlayWithin kit commands game
is_within kit commands shown game spells shows =
    let same : shows.game ≡ game = one_spelled shown.bytes shown.kept shows.game game shows.spelled spells in
    let counted : game.played ≡ shown.kept = sym spells.counted in
    record {
      spelled = record { sound = spells.sound; fits = spells.fits; spelled = refl; counted = refl };
      within = subst (λ (n : ℕ). n ≤ length commands) (sym counted) shows.within;
      play = subst (λ (n : ℕ). IsPlayOf kit (take n commands) game) (sym counted) (subst (λ (g : Game). IsPlayOf kit (take shown.kept commands) g) same shows.play);
    }

pub are_within : (kit : Kit) (commands : List Command) (shown : List Shown) (games : List Game) → AllZip SpellsTheGame shown games → All (ShowsPlayOf kit commands) shown
    → All (IsPlayWithin kit commands) games
are_within kit commands [] [] spells shows = All-nil (IsPlayWithin kit commands)
are_within kit commands [] (g ∷ gs) spells shows = absurd spells
are_within kit commands (s ∷ ss) [] spells shows = absurd spells
are_within kit commands (s ∷ ss) (g ∷ gs) spells shows =
    All-cons (IsPlayWithin kit commands) g gs (is_within kit commands s g spells.0 (All-head (ShowsPlayOf kit commands) s ss shows))
    (are_within kit commands ss gs spells.1 (All-tail (ShowsPlayOf kit commands) s ss shows))
