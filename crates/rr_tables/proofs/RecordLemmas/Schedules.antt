-- The law over schedules, at tables.
use Rattle.std.proofs.Common.{◌≡◌, inl, inr, ℕ, List, [], ◌∷◌, Option, None, Some, refl, sym, subst, ◌∙◌}
use Rattle.rr_code.specs.Request.{record_text}
use Rattle.rr_images.specs.Layout.{Keeps}
use Rattle.rr_images.proofs.OneWorld.{kept_stands}
use Rattle.rr_kit.specs.declared.kit.Kit.{Kit}
use Rattle.rr_kit.specs.Kits.{KitTexts, SpellsKit}
use Rattle.rr_images.specs.Schedules.Schedule.{Folds, KeepsOr}
use Rattle.rr_images.specs.Schedules.Worlds.{AreWorlds}
use Rattle.rr_images.proofs.ScheduleLemmas.Schedules.{prefix, none_turned_away}
use Rattle.rr_reading.specs.Worlds.World as words
use Rattle.rr_tables.specs.Records.Headline.{KeepsTablesOr, NoneIsTurnedAway, WhateverComes}
use Rattle.rr_tables.specs.Records.Schedules.{LeadsTo, of_tables}
use Rattle.rr_tables.specs.Records.Taking.{table_files}
use Rattle.rr_tables.specs.Records.Words.{KeepCommands, in_words}
use Rattle.rr_tables.specs.Records.World.{Follows, IsLawfulIn, TableRequest, World, world_after}
use Rattle.rr_tables.proofs.RecordLemmas.TakingLemmas.{lead_to_one_world, move_on, taken_are_lawful}
use Rattle.rr_tables.proofs.RecordLemmas.WordLemmas.{are_in_words, one_in_words}
use Rattle.rr_tables.proofs.RecordLemmas.WorldLemmas.{keep_after}

pub are_worlds : AreWorlds of_tables
are_worlds =
    record {
      stands = λ image world keeps. kept_stands table_files keeps.layout image world keeps.kept;
      one = λ asked old first second a b. lead_to_one_world (record_text asked.name asked.request) old first second a.1 b.1;
      moves = λ asked world leads. move_on (record_text asked.name asked.request) world leads.1;
    }

module _ (texts : KitTexts) (kit : Kit) (right : SpellsKit texts kit) where
  -- where a request leads from a world of commands
  leads_on : (tables : World) (asked : TableRequest) (next : words.World) → KeepCommands tables → LeadsTo asked (in_words texts tables) next
      → IsLawfulIn kit tables asked × KeepCommands (world_after kit tables asked.name asked.request)
      × (next ≡ in_words texts (world_after kit tables asked.name asked.request))
  leads_on tables asked next all leads =
      let taken = taken_are_lawful kit tables (in_words texts tables) next asked right (are_in_words texts tables all) leads.0 leads.1 in
      let after = world_after kit tables asked.name asked.request in
      let keep = keep_after kit tables asked.name asked.request leads.0.1 all in
      (taken.lawful, keep, one_in_words after next (in_words texts after) taken.spelled (are_in_words texts after keep) taken.same_texts)

  -- requests that lead from world to world follow one another
  folds_follow : (tables : World) (requests : List TableRequest) (last : words.World) → KeepCommands tables → Folds of_tables (in_words texts tables) requests last
      → (after : World) × Follows kit tables requests after × KeepCommands after × (last ≡ in_words texts after)
  folds_follow tables [] last all folds = (tables, refl, all, sym folds)
  folds_follow tables (asked ∷ requests) last all folds =
      let here = leads_on tables asked folds.0 all folds.1 in
      let more = folds_follow (world_after kit tables asked.name asked.request) requests last here.1
      (subst (λ (world : words.World). Folds of_tables world requests last) here.2 folds.2) in
      (more.0, (here.0, more.1), more.2, more.3)

  keeps_or : (tables : World) (pending : Option TableRequest) (image : List ℕ) → KeepCommands tables → KeepsOr of_tables (in_words texts tables) pending image
      → KeepsTablesOr texts kit tables pending image
  keeps_or tables None image all keeps = keeps
  keeps_or tables (Some asked) image all (inl keeps) = inl keeps
  keeps_or tables (Some asked) image all (inr (next, leads, keeps)) =
      let here = leads_on tables asked next all leads in
      inr (here.0, subst (λ (world : words.World). Keeps table_files image world) here.2 keeps)

pub whatever_comes : WhateverComes
whatever_comes texts kit first disk events system right all each runs =
    let sound = prefix of_tables are_worlds (in_words texts first) disk events system each runs in
    let there = folds_follow texts kit right first system.acknowledged sound.world all sound.folded in
    record {
      tables = there.0;
      followed = there.1;
      each = λ image is. keeps_or texts kit right there.0 system.pending image there.2
          (subst (λ (world : words.World). KeepsOr of_tables world system.pending image) there.3 (sound.each image is));
      serves = λ served is. let just = sound.serves served is in (just.0 ∙ there.3, just.1);
    }

pub none_is_turned_away : NoneIsTurnedAway
none_is_turned_away texts first disk events system each runs moments now may =
    none_turned_away of_tables are_worlds (in_words texts first) disk events system each runs moments now may
