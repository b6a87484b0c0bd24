-- The tree that splits every link in turn.
use Rattle.std.specs.Prelude.{◌≡◌, ◌≢◌, ℕ, zero, suc, ◌+◌, ◌*◌, ◌<◌, ◌≤◌, List, length}
use Rattle.rr_routes.specs.declared.certificate.CertTree.{CertTree}
use Rattle.rr_routes.specs.declared.certificate.Fate.{Fate}
use Rattle.rr_routes.specs.declared.certificate.Fate.TheVariants.{Open, Of}
use Rattle.rr_routes.specs.Net.{Net}
use Rattle.rr_routes.specs.Routes.{Trip, Run, earned}
use Rattle.rr_routes.specs.Certificates.{fate_of, AcceptsUnder}

-- How many nodes the tree has that splits each of so many links in turn and ends in full leaves: each split denies the
-- link to all, or gives it to one of so many trains.
unfoldable pub whole_size : ℕ → ℕ → ℕ
whole_size trains zero = 1
whole_size trains (suc links) = whole_size trains links * (trains + 1) + 1

-- the first so many links are decided, each denied or of one of the net's trains, and those behind them are open
pub record IsDecidedTo (net : Net) (fates : List Fate) (count : ℕ) : Type 0 where
  pub as_long : length fates ≡ length net.links
  pub decided : (link : ℕ) → link < count → fate_of fates link ≢ Open
  pub owned : (link train : ℕ) → fate_of fates link ≡ Of train → train < length net.trains
  pub opened : (link : ℕ) → count ≤ link → link < length net.links → fate_of fates link ≡ Open

-- no run earns more than the claim
abbrev pub IsMost : Net → ℕ → Type 0
IsMost net claim = (run : List Trip) → Run net run → earned net run ≤ claim

-- where the first links are decided, the tree is accepted for whatever no run exceeds
abbrev pub ShowsFrom : Net → ℕ → CertTree → Type 0
ShowsFrom net count tree = (claim : ℕ) (fates : List Fate) → IsDecidedTo net fates count → IsMost net claim → AcceptsUnder net claim fates tree
