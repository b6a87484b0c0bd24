-- Texts of a right kit aren't wrong.
use Rattle.std.proofs.Common.{◌≡◌, ◌≢◌, ℕ, Option, None, Some, inl, inr, subst, arith, Err}
use Rattle.rr_tables.specs.Records.Taking.{SaysBank}
use Rattle.rr_store.specs.Recovery.Telling.{IsWrongFor}
use Rattle.std.proofs.lemmas.Str.{IsUtf8-from_ascii}
use Rattle.rr_kit.specs.declared.board.fault.Fault.TheVariants as B
use Rattle.rr_roster.specs.declared.chart.fault.Fault.TheVariants as H
use Rattle.rr_kit.specs.declared.fault.Fault.{Fault}
use Rattle.rr_kit.specs.declared.fault.Fault.TheVariants as F
use Rattle.rr_kit.specs.declared.kit.Kit.{Kit}
use Rattle.rr_kit.specs.Fault.{of_roster}
use Rattle.rr_kit.specs.Kits.{IsWrongKit, KitTexts, RefusesBoard, RefusesChart, RefusesManifest, RefusesRoster, SpellsKit}
use Rattle.rr_roster.specs.declared.fault.Fault as roster
use Rattle.rr_roster.specs.declared.fault.Fault.TheVariants as R
use Rattle.rr_roster.specs.Reading.{IsAnswer, lines_of}
use Rattle.rr_roster.specs.Rules.{BreaksFirst}
use Rattle.rr_roster.specs.Spelled.{Lines}
use Rattle.rr_roster.proofs.UniqueLines.{spelled_once}
use Rattle.rr_tiles.specs.declared.fault.Fault.TheVariants as T

module _ (texts : KitTexts) (kit : Kit) (right : SpellsKit texts kit) (fault : Fault) (other : fault ≢ F.OutOfMemory) where
  no_chart : RefusesChart texts.chart fault → ⊥
  no_chart (H.BadChart line place, is, refused) = refused.1 kit.chart right.chart
  no_chart (H.OutOfMemory, is, refused) = other is

  no_manifest : RefusesManifest texts.tiles fault → ⊥
  no_manifest (T.BadManifest line, is, refused) = refused.1 kit.tiles right.tiles
  no_manifest (T.OutOfMemory, is, refused) = other is

  no_board : RefusesBoard texts.board fault → ⊥
  no_board (B.BadBoard line, is, refused) = refused.1 kit.board right.board
  no_board (B.OutOfMemory, is, refused) = other is

  no_answer : (cause : roster.Fault) → fault ≡ of_roster cause → IsAnswer texts.roster (Err cause) → ⊥
  no_answer R.Shape is answer = answer (lines_of kit.roster) right.roster.spelled.lines_spelled
  no_answer (R.Broken rule) is answer =
      let same = spelled_once texts.roster answer.0 (lines_of kit.roster) answer.1 right.roster.spelled.lines_spelled in
      let breaks = subst (λ (s : Lines). BreaksFirst rule s) same answer.2 in
      breaks.breaks (right.roster.spelled.keeps_all rule)
  no_answer R.OutOfMemory is answer = other is

  no_roster : RefusesRoster texts.roster fault → ⊥
  no_roster (inl long) = let short = right.roster.short in let more = long.0 in omega arith
  no_roster (inr (inl bytes)) = bytes.0 (IsUtf8-from_ascii texts.roster right.roster.spelled.lines_spelled.ascii)
  no_roster (inr (inr answer)) = no_answer answer.1 answer.2 answer.3

pub right_is_not_wrong : (texts : KitTexts) (kit : Kit) → SpellsKit texts kit → IsWrongKit texts → ⊥
right_is_not_wrong texts kit right (fault, other, inl why) = no_chart texts kit right fault other why
right_is_not_wrong texts kit right (fault, other, inr (inl why)) = no_roster texts kit right fault other why.1
right_is_not_wrong texts kit right (fault, other, inr (inr (inl why))) = no_manifest texts kit right fault other why.1
right_is_not_wrong texts kit right (fault, other, inr (inr (inr why))) = no_board texts kit right fault other why.2

-- nor for a directory that says the bank of their roster, or none if that names none
pub not_wrong_for : (bank : Option ℕ) (texts : KitTexts) (kit : Kit) → SpellsKit texts kit → SaysBank texts.roster bank → IsWrongFor bank texts → ⊥
not_wrong_for None texts kit right says (inl wrong) = right_is_not_wrong texts kit right wrong
not_wrong_for None texts kit right says (inr named) = says named
not_wrong_for (Some bank) texts kit right says wrong = right_is_not_wrong texts kit right wrong
