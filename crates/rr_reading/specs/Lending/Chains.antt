-- Chains that lend the bytes of one of them, page by page.
use Rattle.std.specs.Prelude.{◌≡◌, ℕ, zero, suc, ◌&&◌, Bool, true, List, [], ◌∷◌, drop, Option, None, Some}
use Rattle.rr_pages.specs.declared.reading.FollowedChain.{FollowedChain}
use Rattle.rr_pages.specs.declared.reading.Link.{Link}
use Rattle.rr_pages.specs.Links.{all_fit}
use Rattle.rr_reading.specs.declared.lending.chains.Chains.{Chains}
use Rattle.rr_reading.specs.declared.lending.chains.Piece.{Piece}
use Rattle.rr_reading.specs.Lending.Fitting.{links_at}
use Rattle.rr_reading.specs.Lending.PageBuffer.{piece_in}
use Rattle.rr_reading.specs.Lending.Pages.{bytes_in, joined}

-- the chains that it lends
abbrev pub all_of : Chains → List FollowedChain
all_of chains = chains.all.items

-- the bytes that it lent last
abbrev pub piece_of : Chains → List ℕ
piece_of chains = piece_in chains.page

-- the pages of the chain at hand that it hasn't gone on to so far
abbrev pub links_left : Chains → List Link
links_left chains = drop chains.passed (links_at chains.all.items chains.index)

-- and their bytes
abbrev pub left_of : List ℕ → Chains → List ℕ
left_of file chains = joined file (links_left chains)

-- the page count of its file
abbrev pub count_of : Chains → ℕ
count_of chains = chains.count

-- it went on to the first of the pages that were left: its bytes are the piece now, and it isn't left any more
pub record StepsOn (file : List ℕ) (old new : Chains) : Type 0 where
  pub link : Link
  pub first : links_left old ≡ link ∷ links_left new
  pub piece : piece_of new ≡ bytes_in file link

-- a page's bytes are lent so; or nothing, where no page was left
abbrev pub LendsPiece : List ℕ → Chains → Option Piece → Chains → Type 0
LendsPiece file old None new = links_left old ≡ []
LendsPiece file old (Some piece) new = StepsOn file old new × (piece.bytes.now ≡ piece_of new)
