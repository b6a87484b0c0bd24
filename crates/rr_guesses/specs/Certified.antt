-- Sheets with the certificate that none earns more.
use Rattle.std.specs.Prelude.{ℕ, ◌≤◌, List, length}
use Rattle.rr_routes.specs.declared.certificate.CertTree.{CertTree}
use Rattle.rr_routes.specs.Net.{Net, value}
use Rattle.rr_routes.specs.Certificates.{Accepts, node_count}
use Rattle.rr_routes.specs.declared.sheets.sheet.TrainWord.{TrainWord}
use Rattle.rr_referee.specs.Sheets.{IsLegal}

-- the sheet is legal, and the tree, within the limit, is accepted for its revenue: no legal sheet earns more
pub record IsCertified (net : Net) (limit : ℕ) (sheet : List TrainWord) (tree : CertTree) : Type 0 where
  pub revenue : ℕ
  pub legal : IsLegal net sheet revenue
  pub accepted : Accepts net revenue tree
  pub within : node_count tree ≤ limit

-- what revenues need to fit: centres of at most 65,535 each, and not too many of them or of trains
pub record IsModest (net : Net) : Type 0 where
  pub values : (centre : ℕ) → value net centre ≤ 65535
  pub centres : length net.values ≤ 65536
  pub trains : length net.trains ≤ 1000
