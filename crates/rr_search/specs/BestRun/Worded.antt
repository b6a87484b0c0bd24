-- The best runs of corporations in words, and where there need be none.
use Rattle.std.specs.Prelude.{◌≡◌, ℕ, ◌<◌, ◌⊎◌, None, List, length}
use Rattle.rr_books.specs.declared.parties.Money.{Money}
use Rattle.rr_desk.specs.Incomes.{dollars}
use Rattle.rr_orders.specs.Order.{SpellsOrder, text}
use Rattle.rr_orders.specs.declared.order.Order.TheVariants.{RunBest}
use Rattle.rr_roster.specs.declared.company.Corp.{Corp}
use Rattle.rr_routes.specs.Net.{Net}
use Rattle.rr_routes.specs.declared.certificate.CertTree.{CertTree}
use Rattle.rr_routes.specs.declared.certificate.TheConstants.{MOST_NODES}
use Rattle.rr_referee.specs.Revenue.{revenue_of}
use Rattle.rr_referee.specs.Sheets.{IsLegal}
use Rattle.rr_running.specs.Running.{IsBestVerdictOn, earned_on}
use Rattle.rr_search.specs.Found.{HasNoSheet, IsCertified}
use Rattle.rr_search.specs.Whole.{whole_size}
use Rattle.rr_search.specs.declared.fault.Fault.{Fault}
use Rattle.rr_search.specs.declared.fault.Fault.TheVariants.{NoCertificate, OutOfMemory}
use Rattle.rr_routes.specs.Sheets.Certificate.{certificate_text}
use Rattle.rr_routes.specs.Sheets.Sheet.{text_of}
use Rattle.rr_routes.specs.declared.sheets.sheet.TrainWord.{TrainWord}

-- a run in words: those of its command, those of its sheet and of its certificate among them, and what it earns
pub record WordedRun : Type 0 where
  pub words : List ℕ
  pub sheet : List ℕ
  pub certificate : List ℕ
  pub revenue : Money

-- the words of the command that runs by a sheet with a certificate
abbrev pub command_text : Corp → List TrainWord → CertTree → List ℕ
command_text c sheet tree = text (RunBest c (text_of sheet) (certificate_text tree))

-- the words are those of the sheet and of the certificate, and the run earns what the sheet does
pub record IsInWords (net : Net) (c : Corp) (sheet : List TrainWord) (tree : CertTree) (run : WordedRun) : Type 0 where
  pub words : run.words ≡ command_text c sheet tree
  pub of_sheet : run.sheet ≡ text_of sheet
  pub of_tree : run.certificate ≡ certificate_text tree
  pub earns : run.revenue ≡ dollars (revenue_of net sheet)

-- the sheet is legal
abbrev pub HasLegal : Net → List TrainWord → Type 0
HasLegal net sheet = (revenue : ℕ) × IsLegal net sheet revenue

-- the words spell a command of the corporation that the referee of the net takes, and the run earns what its sheet does
pub record IsBestOn (net : Net) (c : Corp) (run : WordedRun) : Type 0 where
  pub spelled : SpellsOrder run.words (RunBest c run.sheet run.certificate)
  pub lawful : IsBestVerdictOn net run.sheet run.certificate None
  pub earns : run.revenue ≡ dollars (earned_on net run.sheet)

-- the tree that splits every link of the net in turn has more nodes than a certificate may have
abbrev pub HasLargeTree : Net → Type 0
HasLargeTree net = MOST_NODES < whole_size (length net.trains) (length net.links)

-- a legal sheet and a certificate that none earns more make a command of more than so many bytes
pub record HasLongRun (net : Net) (c : Corp) (most : ℕ) : Type 0 where
  pub sheet : List TrainWord
  pub tree : CertTree
  pub certified : IsCertified net MOST_NODES sheet tree
  pub long : most < length (command_text c sheet tree)

-- where no run need be given
abbrev pub MayLackRun : Net → Corp → ℕ → Type 0
MayLackRun net c most = HasLargeTree net ⊎ HasLongRun net c most

-- why the search over a net gives none
abbrev pub MayRefuse : Net → Corp → ℕ → Fault → Type 0
MayRefuse net c most fault = (fault ≡ OutOfMemory) ⊎ ((fault ≡ NoCertificate) × (HasNoSheet net ⊎ MayLackRun net c most))
