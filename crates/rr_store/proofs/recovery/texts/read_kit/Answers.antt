use Rattle.std.proofs.Common.{◌≡◌, ◌≢◌, ◌⊎◌, ℕ, Option, None, Some, IsSome, MatchOption, inl, inr, ap, ◌∙◌}
use Rattle.rr_kit.specs.declared.kit.Kit.{Kit}
use Rattle.rr_kit.specs.Kits.{KitTexts, SpellsKit}
use Rattle.rr_pages.specs.declared.fault.Damage.{Damage}
use Rattle.rr_pages.specs.declared.fault.Damage.TheVariants as D
use Rattle.rr_roster.specs.Terms.{bank_of}
use Rattle.rr_roster.proofs.OneRoster.{names_its_bank, one_roster}
use Rattle.rr_tables.specs.Records.Taking.{SaysBank}
use Rattle.rr_store.specs.Recovery.Telling.{IsWrongFor, SaysNumber}
use Rattle.rr_store.specs.declared.recovery.fault.Fault.TheVariants as F
use Rattle.rr_store.proofs.recovery.texts.read_kit.Goals as goal

-- what is wrong with the bank of a right kit is told of its texts
wrong_bank : (texts : KitTexts) (kit : Kit) (bank : Option ℕ) (damage : Damage) → SpellsKit texts kit
    → ((damage ≡ D.Kit) × (bank ≡ None) × IsSome kit.roster.bank) ⊎ ((damage ≡ D.Form) × MatchOption bank ⊥ (λ said. bank_of kit.roster ≢ said))
    → (F.Damaged damage ≡ F.OutOfMemory) ⊎ ((F.Damaged damage ≡ F.Damaged D.Kit) × IsWrongFor bank texts) ⊎ ((F.Damaged damage ≡ F.Damaged D.Form) × (SaysNumber texts.roster bank → ⊥))
wrong_bank texts kit None damage right (inl named) = inr (inl (ap F.Damaged named.0, inr ((names_its_bank texts.roster kit.roster right.roster.spelled).1 named.2)))
wrong_bank texts kit (Some bank) damage right (inl named) = absurd (cc (named.1))
wrong_bank texts kit None damage right (inr other) = absurd other.1
wrong_bank texts kit (Some bank) damage right (inr other) = inr (inr (ap F.Damaged other.0, λ says. other.1 (says kit.roster right.roster.spelled)))

-- and if nothing is wrong the directory says what it may
right_bank : (texts : KitTexts) (kit : Kit) (bank : Option ℕ) → SpellsKit texts kit → MatchOption bank (IsSome kit.roster.bank → ⊥) (λ said. bank_of kit.roster ≡ said)
    → SaysBank texts.roster bank
right_bank texts kit None right unnamed = λ named. unnamed ((names_its_bank texts.roster kit.roster right.roster.spelled).0 named)
right_bank texts kit (Some said) right same = λ t spells. ap bank_of (one_roster texts.roster t kit.roster spells right.roster.spelled) ∙ same

pub returns-in-None : goal.returns-in-None
returns-in-None c = (c.in_ok-kit.ensures, right_bank _ c.in_ok-kit.kit c.args.bank c.in_ok-kit.ensures c.in-None.ensures)

pub returns-in-Some : goal.returns-in-Some
returns-in-Some c = wrong_bank _ c.in_ok-kit.kit c.args.bank c.in-Some.damage c.in_ok-kit.ensures c.in-Some.ensures
