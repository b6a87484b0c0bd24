-- The trees that words spell one behind another.
use Rattle.std.specs.Prelude.{◌≡◌, ℕ, ◌≤◌, List, All, ⊤}
use Rattle.std.specs.List.{flat_map}
use Rattle.rr_routes.specs.Certificates.{node_count}
use Rattle.rr_routes.specs.declared.certificate.CertTree.{CertTree}
use Rattle.rr_routes.specs.declared.certificate.TheConstants.{MOST_NODES}
use Rattle.rr_routes.specs.Sheets.Certificate.{words_of, IsRegular}
use Rattle.rr_routes.specs.declared.sheets.word.CertWord.{CertWord}
use Rattle.rr_routes.specs.declared.sheets.fault.Fault.{Fault}
use Rattle.rr_routes.specs.declared.sheets.fault.Fault.TheVariants.{Malformed, CertificateRefused, OutOfMemory}

-- the words are those of the trees, which are regular
pub record IsForest (trains : ℕ) (words : List CertWord) (forest : List CertTree) : Type 0 where
  pub words_are : words ≡ flat_map words_of forest
  pub regular : All (IsRegular trains) forest

-- the words are those of a regular tree of at most `MOST_NODES` nodes
pub record IsTreeOf (trains : ℕ) (words : List CertWord) (tree : CertTree) : Type 0 where
  pub words_are : words ≡ words_of tree
  pub regular : IsRegular trains tree
  pub small : node_count tree ≤ MOST_NODES

-- either the words are refused, since this holds, or there is no memory
abbrev pub IsStop : Fault → Type 0 → Type 0
IsStop Malformed Reason = ⊥
IsStop CertificateRefused Reason = Reason
IsStop OutOfMemory Reason = ⊤
