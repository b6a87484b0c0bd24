-- What is right isn't wrong as well: a kit, and a file that stands for a world.
use Rattle.std.proofs.Common.{◌≡◌, ◌⊎◌, ℕ, List, [], ◌∷◌, ◌++◌, inl, inr, refl, sym, ap, subst, ◌∙◌}
use Rattle.rr_images.specs.Codec.{Replays}
use Rattle.rr_images.specs.Layout.{Stands}
use Rattle.rr_images.specs.Refusing.{Unlawful_record}
use Rattle.rr_images.proofs.Refusing.{stands_is_not_refused}
use Rattle.rr_kit.specs.declared.kit.Kit.{Kit}
use Rattle.rr_kit.specs.Kits.{KitTexts, SpellsKit}
use Rattle.rr_log.specs.Opening.Opened.{HasDamagedRecord}
use Rattle.rr_log.proofs.OpeningLemmas.Refusals.{damaged_record_refused, stands_no_verdict}
use Rattle.rr_pages.proofs.ChoosingLemmas.{taken_store}
use Rattle.rr_reading.specs.declared.fault.Fault.TheVariants as R
use Rattle.rr_reading.specs.Held.{Held, holding_of}
use Rattle.rr_reading.specs.Laws.{NamesChains}
use Rattle.rr_reading.specs.Reading.{Holds}
use Rattle.rr_reading.proofs.Standing.{held_is_read}
use Rattle.rr_tables.specs.Records.Played.{ArePlayedTables, IsPlayedWorld}
use Rattle.rr_tables.specs.Records.Taking.{table_files, table_rules}
use Rattle.rr_tables.specs.Records.Words.{IsInWords, in_words, kit_texts}
use Rattle.rr_tables.specs.Records.World.{World}
use Rattle.rr_tables.proofs.RecordLemmas.PlayedLemmas.{standing_have_played_bases, tables_of_played_are_played}
use Rattle.rr_tables.proofs.RecordLemmas.TakingLemmas.{files_are_exact}
use Rattle.rr_tables.proofs.RecordLemmas.WordLemmas.{are_in_words, of_form, one_in_words}
use Rattle.rr_pages.specs.declared.fault.Damage.{Damage}
use Rattle.rr_pages.specs.declared.fault.Damage.TheVariants as D
use Rattle.rr_store.specs.Recovery.Telling.{HasBadRecord, HasTrueSnapshots, IsDamage, SpellBy}
use Rattle.rr_store.specs.Recovery.Replaying.{BreaksOff}
use Rattle.rr_store.specs.Recovery.Texts.{texts_in}
use Rattle.rr_store.specs.declared.fault.Fault.TheVariants as S
use Rattle.rr_store.specs.Files.{AreTablesOf}
use Rattle.rr_store.proofs.Kits.{not_wrong_for, right_is_not_wrong}
use Rattle.rr_store.proofs.Recovering.{broken_off, spelled_texts}
use Rattle.rr_store.proofs.RecoveryLemmas.BaseLemmas.{bank_spelled}
use Rattle.rr_store.proofs.Trusting.{is_written, one_written, standing_spells, true_snapshots}
use Rattle.rr_reading.specs.Worlds.World as words
use Rattle.rr_reading.proofs.WorldLemmas.Exact.{forms_spelled}
use Rattle.rr_world_laws.specs.Worlds.{RightKitsAreNotWrong, StandingFilesOpen}

pub right_kits_are_not_wrong : RightKitsAreNotWrong
right_kits_are_not_wrong texts kit right wrong =
    right_is_not_wrong texts kit right wrong

names_chains : NamesChains table_files
names_chains version bytes heads = (λ named. named, λ named. named)

-- no record changes the texts of the kit
replay_texts : (lines : List (List ℕ)) (old new : words.World) → Replays table_files old lines new → kit_texts new ≡ kit_texts old
replay_texts [] old new same = ap kit_texts (sym same)
replay_texts (line ∷ lines) old new replays = replay_texts lines replays.0 new replays.2 ∙ replays.1.same_texts

-- a file that stands for tables of a kit breaks no clause by the rules of the game
module _ (file : List ℕ) (texts : KitTexts) (kit : Kit) (tables : World) (right : SpellsKit texts kit) (of_kit : AreTablesOf kit tables)
    (stands : Stands table_files file (in_words texts tables)) (has : Held) (holds : Holds file has) where
  -- what it holds stands, and its snapshots are true
  spells_base : SpellBy table_rules has stands.base
  spells_base = standing_spells file has holds (in_words texts tables) stands

  truth : HasTrueSnapshots has
  truth = true_snapshots has stands.base spells_base

  was_played : IsPlayedWorld stands.base
  was_played =
      standing_have_played_bases file (in_words texts tables) stands
      (record { kit = kit; right = right; tables = tables; spelled = are_in_words texts tables of_kit.spelled; played = of_kit.played })

  base_texts : kit_texts stands.base ≡ texts_in has.texts
  base_texts = spelled_texts has.root.version has.chain.text has.texts (has.tables ++ has.snapshots) stands.base spells_base

  same_texts : texts_in has.texts ≡ texts
  same_texts = sym base_texts ∙ sym (replay_texts (stands.near ++ stands.far) stands.base (in_words texts tables) stands.replayed)

  all_played : (other : Kit) → SpellsKit (texts_in has.texts) other → ArePlayedTables other was_played.tables
  all_played other right_too =
      tables_of_played_are_played other was_played.tables stands.base (subst (λ (t : KitTexts). SpellsKit t other) (sym base_texts) right_too) was_played.spelled was_played

  all_taken : (bad : HasBadRecord has) → BreaksOff bad.kit bad.base (has.near ++ has.far) ⊎ HasDamagedRecord has → ⊥
  all_taken bad (inl off) =
      let texts_there = texts_in has.texts in
      let spelled = of_form bad.base bad.world bad.is_base.based in
      let same : bad.world ≡ in_words texts_there bad.base =
      one_in_words bad.base bad.world (in_words texts_there bad.base) bad.is_base.based (are_in_words texts_there bad.base spelled)
      (spelled_texts has.root.version has.chain.text has.texts (has.tables ++ has.snapshots) bad.world bad.is_base.spells) in
      let taken = holds.chains.has_directory.taken in
      stands_is_not_refused table_files files_are_exact file (in_words texts tables) stands
      (Unlawful_record has.side has.root taken.0 taken.1 (record {
        holding = holding_of has;
        after = has.reached;
        base = bad.world;
        read = held_is_read table_files names_chains file has holds;
        spells = bad.is_base.spells;
        near = has.near;
        near_end = has.near_end;
        far = has.far;
        far_end = has.far_end;
        near_run = holds.near_run;
        far_run = holds.far_run;
        unlawful = λ world replays.
            broken_off texts_there bad.kit bad.right (has.near ++ has.far) bad.base world (record { spelled = spelled; played = bad.played }) off
            (subst (λ (w : words.World). Replays table_files w (has.near ++ has.far) world) same replays);
      }))
  all_taken bad (inr damaged) =
      stands_is_not_refused table_files files_are_exact file (in_words texts tables) stands (damaged_record_refused table_files file has holds damaged)

  keeps_rules : (damage : Damage) → IsDamage has damage → ⊥
  keeps_rules D.Form bad = bad stands.base (is_written has was_played.tables stands.base spells_base was_played.spelled)
  keeps_rules D.Kit bad =
      not_wrong_for has.directory.bank (texts_in has.texts) kit (subst (λ (t : KitTexts). SpellsKit t kit) (sym same_texts) right)
      (bank_spelled file has holds table_rules stands.base spells_base) bad.wrong
  keeps_rules D.Kept may =
      let bad = may truth in
      let same = one_written has stands.base bad.world spells_base bad.written in
      bad.unplayed was_played.tables (subst (λ (w : words.World). IsInWords was_played.tables w) same was_played.spelled) (all_played bad.kit bad.right)
  keeps_rules D.Records may = let bad = may truth in all_taken bad bad.bad
  keeps_rules _ bad = bad

pub standing_files_open : StandingFilesOpen
standing_files_open file texts tables S.DeviceFailed stands refused = inl refl
standing_files_open file texts tables S.OutOfMemory stands refused = inr refl
standing_files_open file texts tables S.NotAStore stands refused = absurd (taken_store file stands.stands.side stands.stands.root stands.stands.stale stands.stands.taken refused)
standing_files_open file texts tables (S.Damaged damage) stands (inl broken) =
    absurd (stands_no_verdict table_files file (R.Damaged damage) broken files_are_exact names_chains (forms_spelled table_rules) (in_words texts tables) stands.stands)
standing_files_open file texts tables (S.Damaged damage) stands (inr rules) =
    absurd (keeps_rules file texts stands.kit tables stands.right stands.tables_of_kit stands.stands rules.has rules.holds damage rules.broken)
standing_files_open file texts tables (S.Kit fault) stands refused = absurd refused
standing_files_open file texts tables (S.Game fault) stands refused = absurd refused
standing_files_open file texts tables (S.StaleStamp stamp) stands refused = absurd refused
standing_files_open file texts tables S.TurnNotKept stands refused = absurd refused
standing_files_open file texts tables S.TooManyCommands stands refused = absurd refused
standing_files_open file texts tables S.FileFull stands refused = absurd refused
standing_files_open file texts tables S.NotEmpty stands refused = absurd refused
standing_files_open file texts tables S.OpenAgain stands refused = absurd refused
standing_files_open file texts tables S.TooManyTables stands refused = absurd refused
standing_files_open file texts tables S.NoSuchTable stands refused = absurd refused
