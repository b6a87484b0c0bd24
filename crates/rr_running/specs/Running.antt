-- The runs of a corporation's trains over the board as the book tells it.
use Rattle.std.specs.Prelude.{◌≡◌, ℕ, ◌⊎◌, Option, None, Some, List, length, replicate}
use Rattle.std.specs.List.{flat_map}
use Rattle.rr_roster.specs.declared.company.Corp.{Corp}
use Rattle.rr_roster.specs.declared.company.Kind.{Kind}
use Rattle.rr_roster.specs.Company.{kinds}
use Rattle.rr_books.specs.declared.parties.Money.{Money}
use Rattle.rr_books.specs.declared.parties.Place.TheVariants as L
use Rattle.rr_books.specs.Book.{Book, train_holder}
use Rattle.rr_kit.specs.Board.Plan.{Plan}
use Rattle.rr_kit.specs.declared.kit.Kit.{Kit}
use Rattle.rr_tiles.specs.declared.supply.Supply.{Supply}
use Rattle.rr_network.specs.Network.{network}
use Rattle.rr_routes.specs.Net.{Net}
use Rattle.rr_routes.specs.Certificates.{Accepts}
use Rattle.rr_routes.specs.declared.certificate.CertTree.{CertTree}
use Rattle.rr_routes.specs.declared.sheets.sheet.TrainWord.{TrainWord}
use Rattle.rr_routes.specs.Sheets.Certificate.{Spells}
use Rattle.rr_routes.specs.Sheets.Reading.{sheet_in}
use Rattle.rr_routes.specs.Sheets.Sheet.{SpellsSheet, SpellsSomeSheet}
use Rattle.rr_books.specs.declared.clause.Clause.{Clause}
use Rattle.rr_books.specs.declared.clause.Clause.TheVariants.{WrongWord}
use Rattle.rr_referee.specs.Revenue.{revenue_of}
use Rattle.rr_referee.specs.Sheets.{Breaks, IsLegal}
use Rattle.rr_running.specs.Net.Running.{net_of}
use Rattle.rr_market.specs.Operations.Phases.{TrainHolders, phase}
use Rattle.rr_trains.specs.Places.{trains_at}
use Rattle.rr_desk.specs.Incomes.{dollars}
use Rattle.rr_books.specs.declared.refusal.Refusal.{Refusal}
use Rattle.rr_books.specs.declared.refusal.Refusal.TheVariants as F

-- a kind as often as a corporation has a train of it
abbrev pub of_kind : TrainHolders → Corp → Kind → List Kind
of_kind trains c kind = replicate (trains_at trains (L.Corp c) kind) kind

-- the kinds of a corporation's trains, each as often as it has one, the smallest first
unfoldable pub kinds_held : TrainHolders → Corp → List Kind
kinds_held trains c = flat_map (of_kind trains c) kinds

-- the net over which a corporation runs its trains now
abbrev pub net_now : Plan → List Supply → Book → Corp → Net
net_now plan tiles book c = net_of plan.hexes (network plan tiles book) c (kinds_held (train_holder book) c) (phase (train_holder book))

-- the text spells a certificate that no run of the net earns more
abbrev pub Shows : Net → List ℕ → ℕ → Type 0
Shows net text earned = (tree : CertTree) × Spells text (length net.trains) tree × Accepts net earned tree

-- it spells none, or one that isn't accepted
abbrev pub ShowsNot : Net → List ℕ → ℕ → Type 0
ShowsNot net text earned = ((tree : CertTree) → Spells text (length net.trains) tree → ⊥) ⊎ ((tree : CertTree) × Spells text (length net.trains) tree × (Accepts net earned tree → ⊥))

-- what the words of a run over a net are told: nothing, or the fault
pub data IsVerdictOn (net : Net) (words : List ℕ) (verdict : Option Refusal) : Type 0 where
  -- they spell the sheet of a lawful run
  is_run : (sheet : List TrainWord) (earned : ℕ) → SpellsSheet words sheet → IsLegal net sheet earned → verdict ≡ None → IsVerdictOn net words verdict
  -- they spell a sheet, and this is the first clause that it breaks
  is_broken : (sheet : List TrainWord) (clause : Clause) → SpellsSheet words sheet → Breaks net sheet clause → verdict ≡ Some (F.IllegalSheet clause) → IsVerdictOn net words verdict
  -- they spell no sheet
  is_unread : (SpellsSomeSheet words → ⊥) → verdict ≡ Some (F.IllegalSheet WrongWord) → IsVerdictOn net words verdict

-- the same with the text of a certificate
pub data IsBestVerdictOn (net : Net) (words text : List ℕ) (verdict : Option Refusal) : Type 0 where
  -- the words spell the sheet of a lawful run, and the text shows that none earns more
  is_best : (sheet : List TrainWord) (earned : ℕ) → SpellsSheet words sheet → IsLegal net sheet earned → Shows net text earned → verdict ≡ None
      → IsBestVerdictOn net words text verdict
  -- they spell the sheet of a lawful run, and the text doesn't show it
  is_unshown : (sheet : List TrainWord) (earned : ℕ) → SpellsSheet words sheet → IsLegal net sheet earned → ShowsNot net text earned → verdict ≡ Some F.CertificateRefused
      → IsBestVerdictOn net words text verdict
  -- the words are refused, whatever the text
  is_refused : (fault : Refusal) → IsVerdictOn net words (Some fault) → verdict ≡ Some fault → IsBestVerdictOn net words text verdict

-- what the words of a corporation's run are told
abbrev pub IsRunVerdict : Kit → Book → Corp → List ℕ → Option Refusal → Type 0
IsRunVerdict kit book c words verdict = IsVerdictOn (net_now kit.board kit.tiles book c) words verdict

-- what they are told with a certificate that no run earns more
abbrev pub IsBestRunVerdict : Kit → Book → Corp → List ℕ → List ℕ → Option Refusal → Type 0
IsBestRunVerdict kit book c words text verdict = IsBestVerdictOn (net_now kit.board kit.tiles book c) words text verdict

-- what the words of a run earn
abbrev pub earned_on : Net → List ℕ → ℕ
earned_on net words = revenue_of net (sheet_in words)

-- what the words of a corporation's run earn
abbrev pub run_revenue : Kit → Book → Corp → List ℕ → Money
run_revenue kit book c words = dollars (earned_on (net_now kit.board kit.tiles book c) words)

-- why a certificate is refused
abbrev pub IsCertificateRefusal : Net → List ℕ → ℕ → Refusal → Type 0
IsCertificateRefusal net text earned fault = (fault ≡ F.OutOfMemory) ⊎ ((fault ≡ F.CertificateRefused) × ShowsNot net text earned)
