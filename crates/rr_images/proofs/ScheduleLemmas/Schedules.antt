-- Each event keeps the invariant of systems.
use Rattle.std.proofs.Common.{◌≡◌, ◌⊎◌, inl, inr, ℕ, List, [], ◌∷◌, ◌++◌, Option, None, Some, refl, sym, ◌∙◌, ap, subst}
use Rattle.rr_disk.specs.Disk.{DiskState, IsImage}
use Rattle.rr_disk.specs.Moments.{EachImage, EachImageOf, LeavesOnly}
use Rattle.rr_disk.proofs.MomentLemmas.{EachImageOf-append, EachImageOf-weaker}
use Rattle.rr_disk.specs.Replay.{settled_state}
use Rattle.rr_disk.proofs.ImageLemmas.{each_at_rest}
use Rattle.rr_images.specs.Schedules.Worlds.{Worlds, AreWorlds}
use Rattle.rr_images.specs.Schedules.Schedule.{SystemOf, EventOf, KeepsThe, after_commit, after_tick, Ending, Done, Refused, Failed, Again, Cut, OpenEnding, Unread, TurnedAway, Holder, Nobody, Serving, Broken, IsImageOfOne, Folds, KeepsWith, KeepsOr, MayCommit, MayTick, MayOpen, Settles, Happens, Commits, Ticks, Commits_again, Ticks_again, Opens, Opens_not, Opens_cut, Stops, Runs, Ended, Goes_on}
use Rattle.rr_images.specs.Schedules.Laws.{IsSound, at_first, CommitsAreEvents, TicksAreEvents, RefusalsAreEvents}

-- a stop within a call leaves what each of its moments may leave
pub of_one : (moments : List DiskState) (P : List ℕ → Type 0) (image : List ℕ) → EachImageOf moments P → IsImageOfOne moments image → P image
of_one [] P image each is = absurd is
of_one (state ∷ moments) P image each (inl is) = each.0 image is
of_one (state ∷ moments) P image each (inr is) = of_one moments P image each.1 is

-- the file that a stop left is all that is there
pub each_stopped : (image : List ℕ) (P : List ℕ → Type 0) → P image → EachImage (settled_state image) P
each_stopped image P here = each_at_rest (settled_state image) P refl here

is_serving : {W : Type 0} → Holder W → Type 0
is_serving Nobody = ⊥
is_serving (Serving world) = Unit {0}
is_serving Broken = ⊥

served : {W : Type 0} → W → Holder W → W
served world Nobody = world
served world (Serving other) = other
served world Broken = world

nobody_serves : {W : Type 0} {world : W} → Nobody ≡ Serving world → ⊥
unfolding is_serving
nobody_serves {W} {world} h = subst is_serving (sym h) tt

broken_serves : {W : Type 0} {world : W} → Broken ≡ Serving world → ⊥
unfolding is_serving
broken_serves {W} {world} h = subst is_serving (sym h) tt

same_serving : {W : Type 0} {other world : W} → Serving other ≡ Serving world → world ≡ other
unfolding served
same_serving {W} {other} {world} h = sym (ap (served other) h)

module _ (worlds : Worlds)
    (weaker : (image : List ℕ) (world : worlds.World) → worlds.Keeps image world → worlds.Stands image world)
    (one_step : (command : worlds.Command) (old other world : worlds.World) → worlds.Leads command old other → worlds.Leads command old world → other ≡ world)
    (moves : (command : worlds.Command) (world : worlds.World) → worlds.Leads command world world → ⊥) where
  pub one_fold : (commands : List worlds.Command) (old other world : worlds.World) → Folds worlds old commands other → Folds worlds old commands world → other ≡ world
  one_fold [] old other world a b = sym a ∙ b
  one_fold (command ∷ commands) old other world a b =
      let same : b.0 ≡ a.0 = one_step command old b.0 a.0 b.1 a.1 in
      one_fold commands a.0 other world a.2 (subst (λ (m : worlds.World). Folds worlds m commands world) same b.2)

  pub folds_more : (commands : List worlds.Command) (command : worlds.Command) (old world next : worlds.World) → Folds worlds old commands world → worlds.Leads command world next → Folds worlds old (commands ++ command ∷ []) next
  folds_more [] command old world next folds step = (next, subst (λ (m : worlds.World). worlds.Leads command m next) (sym folds) step, refl)
  folds_more (d ∷ commands) command old world next folds step = (folds.0, folds.1, folds_more commands command folds.0 world next folds.2 step)

  module _ (first : worlds.World) (old : SystemOf worlds) (sound : IsSound worlds first old) where
    -- the world that a store serves is that of the acknowledged commands, and nothing is pending
    at_world : (world : worlds.World) (P : worlds.World → Type 0) → old.holder ≡ Serving world → P world → P sound.world
    at_world world P serving here = subst P (sound.serves world serving).0 here

    commit_keeps : (world : worlds.World) (command : worlds.Command) (moments : List DiskState) (now : DiskState) (ending : Ending) (held : worlds.World) → old.holder ≡ Serving world → MayCommit worlds world command moments now ending → (ending ≡ Done → worlds.Leads command world held)
        → IsSound worlds first (after_commit worlds old command held now ending)
    commit_keeps world command moments now Done held serving may steps =
        let next : worlds.World = may.1.0 in
        let same : next ≡ held = one_step command world next held may.1.1 (steps refl) in
        record {
          world = next;
          folded = folds_more old.acknowledged command first sound.world next sound.folded (at_world world (λ (other : worlds.World). worlds.Leads command other next) serving may.1.1);
          each = may.1.2;
          serves = λ other is. (same_serving is ∙ sym same, refl);
        }
    commit_keeps world command moments now Refused held serving may steps =
        record {
          world = sound.world;
          folded = sound.folded;
          each = at_world world (λ (other : worlds.World). EachImage now (λ image. worlds.Keeps image other)) serving may.1;
          serves = λ other is. ((sound.serves other is).0, refl);
        }
    commit_keeps world command moments now Failed held serving may steps =
        record {
          world = sound.world;
          folded = sound.folded;
          each = at_world world (λ (other : worlds.World). EachImage now (KeepsWith worlds other command)) serving may.1;
          serves = λ other is. absurd (broken_serves is);
        }
    commit_keeps world command moments now Again held serving may steps = absurd may
    commit_keeps world command moments now (Cut image) held serving may steps =
        record {
          world = sound.world;
          folded = sound.folded;
          each = each_stopped image (KeepsWith worlds sound.world command) (at_world world (λ (other : worlds.World). KeepsWith worlds other command image) serving (of_one moments (KeepsWith worlds world command) image may.0 may.1));
          serves = λ other is. absurd (nobody_serves is);
        }

    -- nothing is pending on a store that serves
    or_none : (world : worlds.World) (image : List ℕ) → old.holder ≡ Serving world → worlds.Keeps image world → KeepsOr worlds sound.world old.pending image
    or_none world image serving here =
        subst (λ (p : Option worlds.Command). KeepsOr worlds sound.world p image) (sym (sound.serves world serving).1) (at_world world (λ (other : worlds.World). worlds.Keeps image other) serving here)

    tick_keeps : (world : worlds.World) (moments : List DiskState) (now : DiskState) (ending : Ending) → old.holder ≡ Serving world → MayTick worlds world moments now ending
        → IsSound worlds first (after_tick worlds old world now ending)
    tick_keeps world moments now Done serving may =
        record { world = sound.world; folded = sound.folded; each = λ image is. or_none world image serving (may.1 image is); serves = λ other is. sound.serves other (serving ∙ is) }
    tick_keeps world moments now Refused serving may =
        record { world = sound.world; folded = sound.folded; each = λ image is. or_none world image serving (may.1 image is); serves = sound.serves }
    tick_keeps world moments now Failed serving may =
        record { world = sound.world; folded = sound.folded; each = λ image is. or_none world image serving (may.1 image is); serves = λ other is. absurd (broken_serves is) }
    tick_keeps world moments now Again serving may = absurd may
    tick_keeps world moments now (Cut image) serving may =
        record {
          world = sound.world;
          folded = sound.folded;
          each = each_stopped image (KeepsOr worlds sound.world old.pending) (or_none world image serving (of_one moments (λ file. worlds.Keeps file world) image may.0 may.1));
          serves = λ other is. absurd (nobody_serves is);
        }

    -- what an opening finds is the world of the acknowledged commands, or that with the pending one
    pub found : (world : worlds.World) (image : List ℕ) (settled : List worlds.Command) (pending : Option worlds.Command) → KeepsOr worlds sound.world pending image → ((other : worlds.World) → worlds.Stands image other → other ≡ world) → Settles worlds first old.acknowledged world pending settled → Folds worlds first settled world
    found world image settled None here stands settles =
        let folds : Folds worlds first old.acknowledged world = subst (λ (other : worlds.World). Folds worlds first old.acknowledged other) (stands sound.world (weaker image sound.world here)) sound.folded in
        subst (λ (commands : List worlds.Command). Folds worlds first commands world) (sym (settles.without folds)) folds
    found world image settled (Some command) (inl here) stands settles =
        let folds : Folds worlds first old.acknowledged world = subst (λ (other : worlds.World). Folds worlds first old.acknowledged other) (stands sound.world (weaker image sound.world here)) sound.folded in
        subst (λ (commands : List worlds.Command). Folds worlds first commands world) (sym (settles.without folds)) folds
    found world image settled (Some command) (inr here) stands settles =
        let step : worlds.Leads command sound.world world = subst (λ (other : worlds.World). worlds.Leads command sound.world other) (stands here.0 (weaker image here.0 here.2)) here.1 in
        let apart : Folds worlds first old.acknowledged world → ⊥ = λ folds. moves command world (subst (λ (other : worlds.World). worlds.Leads command other world) (one_fold old.acknowledged first sound.world world sound.folded folds) step) in
        subst (λ (commands : List worlds.Command). Folds worlds first commands world) (sym (settles.with apart command refl)) (folds_more old.acknowledged command first sound.world world sound.folded step)

    -- and the file keeps it
    kept_there : (world : worlds.World) (image : List ℕ) (pending : Option worlds.Command) → KeepsOr worlds sound.world pending image → ((other : worlds.World) → worlds.Stands image other → other ≡ world) → worlds.Keeps image world
    kept_there world image None here stands = subst (λ (other : worlds.World). worlds.Keeps image other) (stands sound.world (weaker image sound.world here)) here
    kept_there world image (Some command) (inl here) stands = subst (λ (other : worlds.World). worlds.Keeps image other) (stands sound.world (weaker image sound.world here)) here
    kept_there world image (Some command) (inr here) stands = subst (λ (other : worlds.World). worlds.Keeps image other) (stands here.0 (weaker image here.0 here.2)) here.2

    -- an opening isn't turned away
    stands_for_one : (image : List ℕ) (pending : Option worlds.Command) → KeepsOr worlds sound.world pending image → ((world : worlds.World) → worlds.Stands image world → ⊥) → ⊥
    stands_for_one image None here none = none sound.world (weaker image sound.world here)
    stands_for_one image (Some command) (inl here) none = none sound.world (weaker image sound.world here)
    stands_for_one image (Some command) (inr here) none = none here.0 (weaker image here.0 here.2)

    unopened : (moments : List DiskState) (now : DiskState) (ending : OpenEnding worlds.World) → ending ≡ Unread ⊎ ending ≡ TurnedAway → MayOpen worlds old.disk moments now ending → EachImage now (KeepsOr worlds sound.world old.pending)
    unopened moments now ending (inl is) may image is_image =
        let here = subst (λ (e : OpenEnding worlds.World). MayOpen worlds old.disk moments now e) is may in sound.each image (here.1 image is_image)
    unopened moments now ending (inr is) may image is_image =
        let here = subst (λ (e : OpenEnding worlds.World). MayOpen worlds old.disk moments now e) is may in sound.each image (here.2 image is_image)

    pub keeps : (event : EventOf worlds) (new : SystemOf worlds) → Happens worlds first old event new → IsSound worlds first new
    keeps event new (Commits world held command moments now ending serving may steps) = commit_keeps world command moments now ending held serving may steps
    keeps event new (Ticks world moments now ending serving may) = tick_keeps world moments now ending serving may
    keeps event new (Commits_again command broken) = sound
    keeps event new (Ticks_again broken) = sound
    keeps event new (Opens world moments now acknowledged may settles) =
        let image = may.1.0 in
        let there = may.2 image may.1.1 in
        record {
          world = world;
          folded = found world image acknowledged old.pending (sound.each image there.0) there.1 settles;
          each = λ file is. kept_there world file old.pending (sound.each file (may.2 file is).0) (may.2 file is).1;
          serves = λ other is. (same_serving is, refl);
        }
    keeps event new (Opens_not moments now ending which may) =
        record { world = sound.world; folded = sound.folded; each = unopened moments now ending which may; serves = λ other is. absurd (nobody_serves is) }
    keeps event new (Opens_cut moments now image may) =
        record {
          world = sound.world;
          folded = sound.folded;
          each = each_stopped image (KeepsOr worlds sound.world old.pending) (sound.each image (of_one moments (λ file. IsImage old.disk file) image may.0 may.1));
          serves = λ other is. absurd (nobody_serves is);
        }
    keeps event new (Stops image is) =
        record {
          world = sound.world;
          folded = sound.folded;
          each = each_stopped image (KeepsOr worlds sound.world old.pending) (sound.each image is);
          serves = λ other is. absurd (nobody_serves is);
        }

    pub never_turned_away : (moments : List DiskState) (now : DiskState) → MayOpen worlds old.disk moments now TurnedAway → ⊥
    never_turned_away moments now may = stands_for_one may.1.0 old.pending (sound.each may.1.0 may.1.1) may.1.3

  pub runs_keep : (first : worlds.World) (s t : SystemOf worlds) (events : List (EventOf worlds)) → Runs worlds first s events t → IsSound worlds first s → IsSound worlds first t
  runs_keep first s t events (Ended is) sound = sound
  runs_keep first s t events (Goes_on is between end event rest happens runs) sound = runs_keep first between t rest runs (keeps first s sound event between happens)

-- the headline
module _ (worlds : Worlds) (are : AreWorlds worlds) (first : worlds.World) (disk : DiskState) (events : List (EventOf worlds)) (system : SystemOf worlds) (keeps_first : EachImage disk (KeepsThe worlds first)) (runs : Runs worlds first (at_first worlds disk) events system) where
  pub prefix : IsSound worlds first system
  prefix =
      runs_keep worlds are.stands are.one are.moves first (at_first worlds disk) system events runs
      (record { world = first; folded = refl; each = keeps_first; serves = λ served is. absurd (nobody_serves is) })

  pub none_turned_away : (moments : List DiskState) (now : DiskState) → MayOpen worlds system.disk moments now TurnedAway → ⊥
  none_turned_away moments now may = never_turned_away worlds are.stands are.one are.moves first system prefix moments now may

-- the moments of a call
all_moments : {past_old past_new : List DiskState} {old new : DiskState} {P : List ℕ → Type 0} → (leaves : LeavesOnly past_old old past_new new P) → EachImageOf (leaves.since ++ old ∷ []) P
all_moments {past_old} {past_new} {old} {new} {P} leaves = EachImageOf-append leaves.since (old ∷ []) P leaves.each (leaves.first, tt)

-- the state after a call is one of its moments
first_or : DiskState → List DiskState → DiskState
first_or default [] = default
first_or default (state ∷ states) = state

module _ (past_old past_new : List DiskState) (old new : DiskState) (P : List ℕ → Type 0) where
  now_of : (since : List DiskState) → new ∷ past_new ≡ since ++ old ∷ past_old → EachImage old P → EachImageOf since P → EachImage new P
  unfolding first_or
  now_of [] goes_on first each = subst (λ (state : DiskState). EachImage state P) (sym (ap (first_or new) goes_on)) first
  now_of (state ∷ since) goes_on first each = subst (λ (state : DiskState). EachImage state P) (sym (ap (first_or new) goes_on)) each.0

  pub leaves_now : LeavesOnly past_old old past_new new P → EachImage new P
  leaves_now leaves = now_of leaves.since leaves.goes_on leaves.first leaves.each

-- what the contracts of calls say is what events allow
module _ (worlds : Worlds) where
  pub commits_are_events : CommitsAreEvents worlds
  commits_are_events world next command past_old past_new old new leads leaves =
      let With : List ℕ → Type 0 = KeepsWith worlds world command in
      let Either : List ℕ → Type 0 = λ image. worlds.Keeps image world ⊎ worlds.Keeps image next in
      let with_next : (image : List ℕ) → Either image → With image = λ image here. elim here [ inl kept ↦ inl kept | inr kept ↦ inr (next, leads, kept) ] in
      let moments = EachImageOf-weaker (leaves.since ++ old ∷ []) Either With with_next (all_moments leaves) in
      record {
        done = λ now. (moments, (next, leads, now));
        refused = λ now. (moments, now);
        failed = (moments, λ image is. with_next image (leaves_now past_old past_new old new Either leaves image is));
        cut = λ image is. (moments, is);
      }

  pub ticks_are_events : TicksAreEvents worlds
  ticks_are_events world past_old past_new old new leaves =
      let now = leaves_now past_old past_new old new (KeepsThe worlds world) leaves in
      record {
        done = (all_moments leaves, now);
        refused = (all_moments leaves, now);
        failed = (all_moments leaves, now);
        cut = λ image is. (all_moments leaves, is);
      }

  pub refusals_are_events : RefusalsAreEvents worlds
  refusals_are_events world command past_old past_new old new leaves =
      let moments = EachImageOf-weaker (leaves.since ++ old ∷ []) (KeepsThe worlds world) (KeepsWith worlds world command) (λ image kept. inl kept) (all_moments leaves) in
      let now = leaves_now past_old past_new old new (KeepsThe worlds world) leaves in
      ((moments, now), (moments, λ image is. inl (now image is)))
