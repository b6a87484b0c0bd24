-- What the referee says of a sheet, and what the rules say of its words.
use Rattle.std.specs.Prelude.{◌≡◌, ℕ, ◌≤◌, ◌⊎◌, Option, None, Some, List, length}
use Rattle.std.proofs.Common.{ap, inl, inr, refl, sym, subst, ◌∙◌}
use Rattle.std.proofs.lemmas.Option.{none-some}
use Rattle.rr_roster.specs.declared.company.Corp.{Corp}
use Rattle.rr_roster.specs.declared.company.Kind.{Kind}
use Rattle.rr_books.specs.Book.{Book}
use Rattle.rr_kit.specs.Board.Plan.{Plan}
use Rattle.rr_tiles.specs.declared.supply.Supply.{Supply}
use Rattle.rr_network.specs.Network.{network}
use Rattle.rr_routes.specs.Net.{Net}
use Rattle.rr_routes.specs.declared.sheets.sheet.TrainWord.{TrainWord}
use Rattle.rr_routes.specs.Sheets.Sheet.{SpellsSheet, SpellsSomeSheet}
use Rattle.rr_routes.proofs.SheetsLemmas.FormLemmas.{sheet_in-spelled}
use Rattle.rr_routes.proofs.SheetsLemmas.SameLemmas.{accepted_also}
use Rattle.rr_routes.proofs.SheetsLemmas.SheetLemmas.{one_sheet}
use Rattle.rr_running.specs.Net.Running.{net_of}
use Rattle.rr_books.specs.declared.clause.Clause.{Clause}
use Rattle.rr_books.specs.declared.clause.Clause.TheVariants.{WrongWord}
use Rattle.rr_books.specs.declared.refusal.Refusal.{Refusal}
use Rattle.rr_referee.specs.Revenue.{revenue_of}
use Rattle.rr_referee.specs.Sheets.{Breaks, IsLegal, IsRefusal as IsRefereeRefusal}
use Rattle.rr_referee.proofs.LawLemmas.{most_of_all, none_broken, one_clause}
use Rattle.rr_referee.proofs.RevenueLemmas.{legal_earns}
use Rattle.rr_running.specs.Running.{IsBestVerdictOn, is_best, is_refused, is_unshown, IsCertificateRefusal, IsVerdictOn, is_broken, is_run, is_unread, Shows, ShowsNot, earned_on}
use Rattle.rr_books.specs.declared.refusal.Refusal.TheVariants as F

-- the same net of the same parts
pub same_net : (plan other : Plan) (tiles others : List Supply) (book : Book) (c : Corp) (kinds held : List Kind) (now then : Kind) → plan ≡ other → tiles ≡ others → kinds ≡ held → now ≡ then
    → net_of plan.hexes (network plan tiles book) c kinds now ≡ net_of other.hexes (network other others book) c held then
same_net plan other tiles others book c kinds held now then e f g h = λ i. net_of (e i).hexes (network (e i) (f i) book) c (g i) (h i)

-- memory is wanting, or the words are told the fault
abbrev pub IsRefusal : Net → List ℕ → Refusal → Type 0
IsRefusal net words fault = (fault ≡ F.OutOfMemory) ⊎ IsVerdictOn net words (Some fault)

abbrev pub IsBestRefusal : Net → List ℕ → List ℕ → Refusal → Type 0
IsBestRefusal net words text fault = (fault ≡ F.OutOfMemory) ⊎ IsBestVerdictOn net words text (Some fault)

module _ (net : Net) (words : List ℕ) where
  pub run_told : (sheet : List TrainWord) (earned : ℕ) → SpellsSheet words sheet → IsLegal net sheet earned → IsVerdictOn net words None
  run_told sheet earned spelled legal = is_run sheet earned spelled legal refl

  -- the words of a legal sheet earn its revenue
  pub words_earn : (sheet : List TrainWord) (earned : ℕ) → SpellsSheet words sheet → IsLegal net sheet earned → earned ≡ earned_on net words
  words_earn sheet earned spelled legal =
      legal_earns net sheet earned legal ∙ ap (λ (trains : List TrainWord). revenue_of net trains) (sym (sheet_in-spelled words sheet spelled))

  pub broken : (sheet : List TrainWord) (fault : Refusal) → SpellsSheet words sheet → IsRefereeRefusal (Breaks net sheet) fault → IsRefusal net words fault
  broken sheet fault spelled (inl memory) = inl (memory)
  broken sheet fault spelled (inr breaks) = inr (is_broken sheet breaks.0 spelled breaks.2 (ap (λ (f : Refusal). Some f) (breaks.1)))

  pub unread : (fault : Refusal) → (fault ≡ F.OutOfMemory) ⊎ ((fault ≡ F.IllegalSheet WrongWord) × (SpellsSomeSheet words → ⊥)) → IsRefusal net words fault
  unread fault (inl memory) = inl memory
  unread fault (inr spells) = inr (is_unread spells.1 (ap (λ (f : Refusal). Some f) spells.0))

  -- words have one sheet
  same_sheet : (sheet other : List TrainWord) (clause : Clause) → SpellsSheet words sheet → SpellsSheet words other → Breaks net other clause → Breaks net sheet clause
  same_sheet sheet other clause spelled also = subst (λ (trains : List TrainWord). Breaks net trains clause) (one_sheet words other sheet also spelled)

  never_broken : (sheet other : List TrainWord) (earned : ℕ) (clause : Clause) → SpellsSheet words sheet → IsLegal net sheet earned → SpellsSheet words other → Breaks net other clause → ⊥
  never_broken sheet other earned clause spelled legal also breaks = none_broken net sheet earned clause legal (same_sheet sheet other clause spelled also breaks)

  pub one_alone : (one other : Option Refusal) → IsVerdictOn net words one → IsVerdictOn net words other → one ≡ other
  one_alone one other (is_run sheet earned spelled legal a) (is_run second also spells lawful b) = a ∙ sym b
  one_alone one other (is_run sheet earned spelled legal a) (is_broken second clause spells breaks b) = absurd (never_broken sheet second earned clause spelled legal spells breaks)
  one_alone one other (is_run sheet earned spelled legal a) (is_unread none b) = absurd (none (sheet, spelled))
  one_alone one other (is_broken sheet clause spelled breaks a) (is_run second also spells lawful b) = absurd (never_broken second sheet also clause spells lawful spelled breaks)
  one_alone one other (is_broken sheet clause spelled breaks a) (is_broken second later spells too b) =
      a ∙ ap (λ (c : Clause). Some (F.IllegalSheet c)) (one_clause net sheet clause later breaks (same_sheet sheet second later spelled spells too)) ∙ sym b
  one_alone one other (is_broken sheet clause spelled breaks a) (is_unread none b) = absurd (none (sheet, spelled))
  one_alone one other (is_unread none a) (is_run second also spells lawful b) = absurd (none (second, spells))
  one_alone one other (is_unread none a) (is_broken second later spells too b) = absurd (none (second, spells))
  one_alone one other (is_unread none a) (is_unread nothing b) = a ∙ sym b

  -- a lawful run isn't refused
  never_refused : (sheet : List TrainWord) (earned : ℕ) (fault : Refusal) → SpellsSheet words sheet → IsLegal net sheet earned → IsVerdictOn net words (Some fault) → ⊥
  never_refused sheet earned fault spelled legal told = none-some fault (one_alone None (Some fault) (run_told sheet earned spelled legal) told)

  module _ (text : List ℕ) where
    pub refused_before : (fault : Refusal) → IsRefusal net words fault → IsBestRefusal net words text fault
    refused_before fault (inl memory) = inl memory
    refused_before fault (inr told) = inr (is_refused fault told refl)

    -- the certificate of a lawful run
    pub certified : (earned : ℕ) → IsVerdictOn net words None → earned ≡ earned_on net words → Shows net text earned → IsBestVerdictOn net words text None
    certified earned (is_run sheet own spelled legal a) earns shows =
        is_best sheet own spelled legal (subst (λ (n : ℕ). Shows net text n) (earns ∙ sym (words_earn sheet own spelled legal)) shows) refl
    certified earned (is_broken sheet clause spelled breaks a) earns shows = absurd (none-some (F.IllegalSheet clause) a)
    certified earned (is_unread none a) earns shows = absurd (none-some (F.IllegalSheet WrongWord) a)

    not_certified : (earned : ℕ) (fault : Refusal) → IsVerdictOn net words None → earned ≡ earned_on net words → fault ≡ F.CertificateRefused → ShowsNot net text earned → IsBestVerdictOn net words text (Some fault)
    not_certified earned fault (is_run sheet own spelled legal a) earns told shows =
        is_unshown sheet own spelled legal (subst (λ (n : ℕ). ShowsNot net text n) (earns ∙ sym (words_earn sheet own spelled legal)) shows) (ap (λ (f : Refusal). Some f) told)
    not_certified earned fault (is_broken sheet clause spelled breaks a) earns told shows = absurd (none-some (F.IllegalSheet clause) a)
    not_certified earned fault (is_unread none a) earns told shows = absurd (none-some (F.IllegalSheet WrongWord) a)

    pub uncertified : (earned : ℕ) (fault : Refusal) → IsVerdictOn net words None → earned ≡ earned_on net words → IsCertificateRefusal net text earned fault → IsBestRefusal net words text fault
    uncertified earned fault lawful earns (inl memory) = inl memory
    uncertified earned fault lawful earns (inr refused) = inr (not_certified earned fault lawful earns refused.0 refused.1)

    never_both : (earned : ℕ) → Shows net text earned → ShowsNot net text earned → ⊥
    never_both earned shows (inl none) = none shows.0 shows.1
    never_both earned shows (inr other) = other.2 (accepted_also text (length net.trains) shows.0 other.0 shows.1 other.1 net earned shows.2)

    shown_or_not : (sheet other : List TrainWord) (earned also : ℕ) → SpellsSheet words sheet → IsLegal net sheet earned → Shows net text earned → SpellsSheet words other → IsLegal net other also → ShowsNot net text also → ⊥
    shown_or_not sheet other earned also spelled legal shows spells lawful not =
        never_both earned shows (subst (λ (n : ℕ). ShowsNot net text n) (words_earn other also spells lawful ∙ sym (words_earn sheet earned spelled legal)) not)

    pub one_best : (one other : Option Refusal) → IsBestVerdictOn net words text one → IsBestVerdictOn net words text other → one ≡ other
    one_best one other (is_best sheet earned spelled legal shows a) (is_best second also spells lawful too b) = a ∙ sym b
    one_best one other (is_best sheet earned spelled legal shows a) (is_unshown second also spells lawful not b) = absurd (shown_or_not sheet second earned also spelled legal shows spells lawful not)
    one_best one other (is_best sheet earned spelled legal shows a) (is_refused fault told b) = absurd (never_refused sheet earned fault spelled legal told)
    one_best one other (is_unshown sheet earned spelled legal not a) (is_best second also spells lawful shows b) = absurd (shown_or_not second sheet also earned spells lawful shows spelled legal not)
    one_best one other (is_unshown sheet earned spelled legal not a) (is_unshown second also spells lawful nor b) = a ∙ sym b
    one_best one other (is_unshown sheet earned spelled legal not a) (is_refused fault told b) = absurd (never_refused sheet earned fault spelled legal told)
    one_best one other (is_refused fault told a) (is_best second also spells lawful shows b) = absurd (never_refused second also fault spells lawful told)
    one_best one other (is_refused fault told a) (is_unshown second also spells lawful not b) = absurd (never_refused second also fault spells lawful told)
    one_best one other (is_refused fault told a) (is_refused later also b) = a ∙ one_alone (Some fault) (Some later) told also ∙ sym b

    pub best_lawful : IsBestVerdictOn net words text None → IsVerdictOn net words None
    best_lawful (is_best sheet earned spelled legal shows a) = run_told sheet earned spelled legal
    best_lawful (is_unshown sheet earned spelled legal not a) = absurd (none-some F.CertificateRefused a)
    best_lawful (is_refused fault told a) = absurd (none-some fault a)

    pub best_most : (others : List ℕ) → IsBestVerdictOn net words text None → IsVerdictOn net others None → earned_on net others ≤ earned_on net words
    best_most others (is_unshown sheet earned spelled legal not a) other = absurd (none-some F.CertificateRefused a)
    best_most others (is_refused fault told a) other = absurd (none-some fault a)
    best_most others (is_best sheet earned spelled legal shows a) (is_broken second clause spells breaks b) = absurd (none-some (F.IllegalSheet clause) b)
    best_most others (is_best sheet earned spelled legal shows a) (is_unread none b) = absurd (none-some (F.IllegalSheet WrongWord) b)
    best_most others (is_best sheet earned spelled legal shows a) (is_run second also spells lawful b) =
        subst (λ (n : ℕ). earned_on net others ≤ n) (words_earn sheet earned spelled legal)
        (subst (λ (n : ℕ). n ≤ earned) (legal_earns net second also lawful ∙ ap (λ (trains : List TrainWord). revenue_of net trains) (sym (sheet_in-spelled others second spells)))
        (most_of_all net sheet second earned also shows.0 legal shows.2 lawful))
