-- Nets on which no best run is too long for a line.
use Rattle.std.specs.Prelude.{◌≡◌, ℕ, ◌+◌, ◌≤◌, length}
use Rattle.rr_roster.specs.declared.company.Corp.{Corp}
use Rattle.rr_routes.specs.Net.{Net}
use Rattle.rr_search.specs.BestRun.Worded.{HasLargeTree, HasLongRun, MayLackRun}

-- At most 2,296 links and trains together, and at most nine trains: so a link's number has at most four digits, and a
-- train's number one.
pub record HasFewLinks (net : Net) : Type 0 where
  pub together : length net.links + length net.trains ≤ 2296
  pub trains : length net.trains ≤ 9

-- On such a net each command of a legal sheet with an accepted certificate has at most 31,971 bytes. A line of 32,000 bytes has
-- room for 31,972 after a stamp of ten digits, a table's name of sixteen letters and a space after each.
abbrev pub FewLinksFit : Type 0
FewLinksFit = (net : Net) (c : Corp) (most : ℕ) → HasFewLinks net → 31971 ≤ most → HasLongRun net c most → ⊥

-- So there a run is lacking only where the tree that splits every link has too many nodes.
abbrev pub OnlyLargeTreesLack : Type 0
OnlyLargeTreesLack = (net : Net) (c : Corp) (most : ℕ) → HasFewLinks net → 31971 ≤ most → MayLackRun net c most → HasLargeTree net

-- With one train and at most eleven links a run is never lacking.
abbrev pub ElevenLinksNeverLack : Type 0
ElevenLinksNeverLack = (net : Net) (c : Corp) (most : ℕ) → length net.trains ≡ 1 → length net.links ≤ 11 → 31971 ≤ most → MayLackRun net c most → ⊥
