-- What a file stands for, with a request more.
use Rattle.std.proofs.Common.{◌⊎◌, ℕ, List, None, Some, inl, inr, subst}
use Rattle.rr_checkpoint.proofs.Writers.{carried_kept}
use Rattle.rr_code.specs.Request.{record_text}
use Rattle.rr_disk.specs.Disk.{DiskState}
use Rattle.rr_disk.specs.Moments.{EachImage}
use Rattle.rr_kit.specs.declared.kit.Kit.{Kit}
use Rattle.rr_kit.specs.Kits.{KitTexts}
use Rattle.rr_log.specs.declared.log.Log.{Log}
use Rattle.rr_log.specs.Carrying as file
use Rattle.rr_log.specs.Lent.{AreLentOf}
use Rattle.rr_tables.specs.declared.records.rules.TableRules.{TableRules}
use Rattle.rr_tables.specs.Records.Headline.{KeepsTables, KeepsTablesOr}
use Rattle.rr_tables.specs.Records.Taking.{Takes, table_files, table_rules}
use Rattle.rr_tables.specs.Records.Words.{in_words}
use Rattle.rr_tables.specs.Records.World as rules
use Rattle.rr_tables.specs.Records.World.{IsLawfulIn}
use Rattle.rr_tables.proofs.RecordLemmas.LentLemmas.{played_are_lent}
use Rattle.rr_tables.proofs.RecordLemmas.PlayedLemmas.{played_after}
use Rattle.rr_tables.proofs.RecordLemmas.TakingLemmas.{lawful_are_taken}
use Rattle.rr_tables.proofs.RecordLemmas.WordLemmas.{are_in_words}
use Rattle.rr_tables.proofs.RecordLemmas.WorldLemmas.{keep_after}
use Rattle.rr_turns.specs.Judgement.{IsVerdict}
use Rattle.rr_turns.proofs.JudgementLemmas.{lawful-map}
use Rattle.rr_store.specs.declared.store.Store.{Store}
use Rattle.rr_store.specs.Allowing.{BeforeOrAfter, IsLawful, Keeps}
use Rattle.rr_store.specs.Fault.{of_rules}
use Rattle.rr_store.specs.Files.{AreTablesOf}
use Rattle.rr_store.specs.Holding.{Carries, disk_of, file_of, held_of, lent_of}
use Rattle.rr_store.specs.World.{TableRequest, World, present_stamp, table_named, world_after}
use Rattle.rr_store.proofs.Verdicts.{present}
use Rattle.rr_store.proofs.Worlds.{kept_stand}

-- whatever a stop leaves of a disk whose file carries a world keeps it
pub carried_now : {D : Type 0} (log : Log D TableRules) (state : DiskState) (texts : KitTexts) (tables : World) → file.Carries table_rules log state (in_words texts tables)
    → EachImage state (KeepsTables texts tables)
carried_now log state texts tables carries = carried_kept table_files log.writer.file log.writer.checkpoint state (in_words texts tables) carries.carried

-- whatever a stop leaves of a disk that carries what is held stands for it
pub carried_keeps : {D : Type 0} (state : D → DiskState) (store : Store D) (texts : KitTexts) → Carries state store texts → Keeps (state (disk_of store)) texts (held_of store).tables
carried_keeps state store texts s = λ image is.
    kept_stand texts (held_of store).kit (held_of store).tables s.right s.tables_of_kit image
    (carried_now (file_of store) (state (disk_of store)) texts (held_of store).tables s.file image is)

-- and what is lent of it is of that world
pub carried_lent : {D : Type 0} (state : D → DiskState) (store : Store D) (texts : KitTexts) → Carries state store texts
    → AreLentOf table_rules (in_words texts (held_of store).tables) (lent_of store)
carried_lent state store texts s = played_are_lent texts store.tables s.right s.tables_of_kit.spelled s.played

module _ (texts : KitTexts) (kit : Kit) (tables : World) (stamp : ℕ) (r : TableRequest) (lawful : IsLawful texts kit tables stamp r) (of_kit : AreTablesOf kit tables) where
  by_rules : IsVerdict (rules.judgement_in kit tables stamp r.name r.request) None
  by_rules = lawful-map of_rules (rules.judgement_in kit tables stamp r.name r.request) lawful.lawful

  at_present : IsVerdict (rules.judgement_in kit tables (present_stamp (table_named tables r.name)) r.name r.request) None
  at_present = subst (λ (n : ℕ). IsVerdict (rules.judgement_in kit tables n r.name r.request) None) (present kit tables stamp r.name r.request by_rules) by_rules

  pub lawful_now : IsLawfulIn kit tables r
  lawful_now = (lawful.of_form, at_present)

  -- tables behind a lawful request are the kit's
  pub tables_after : AreTablesOf kit (world_after kit tables r.name r.request)
  tables_after =
      record {
        spelled = keep_after kit tables r.name r.request lawful.of_form.1 of_kit.spelled;
        played = played_after kit tables r.name r.request at_present of_kit.played;
      }

  -- and its record leads there
  pub record_leads : Takes (record_text r.name r.request) (in_words texts tables) (in_words texts (world_after kit tables r.name r.request))
  record_leads =
      lawful_are_taken kit tables (in_words texts tables) r lawful.right (are_in_words texts tables of_kit.spelled) of_kit.played (lawful.of_form, at_present)

  -- a file that keeps one of both worlds keeps the one held, or that with a lawful request
  pub keeps_either : (image : List ℕ) → KeepsTables texts tables image ⊎ KeepsTables texts (world_after kit tables r.name r.request) image → KeepsTablesOr texts kit tables (Some r) image
  keeps_either image (inl keeps) = inl keeps
  keeps_either image (inr keeps) = inr (lawful_now, keeps)

  -- and stands for it
  pub stands_either : (image : List ℕ) → KeepsTables texts tables image ⊎ KeepsTables texts (world_after kit tables r.name r.request) image → BeforeOrAfter texts kit tables (Some r) image
  stands_either image (inl keeps) = inl (kept_stand texts kit tables lawful.right of_kit image keeps)
  stands_either image (inr keeps) = inr (kept_stand texts kit (world_after kit tables r.name r.request) lawful.right tables_after image keeps)
