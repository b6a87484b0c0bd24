-- The links of several chains.
use Rattle.std.specs.Prelude.{ℕ, zero, suc, ◌&&◌, Bool, true, List, [], ◌∷◌}
use Rattle.rr_pages.specs.declared.reading.FollowedChain.{FollowedChain}
use Rattle.rr_pages.specs.declared.reading.Link.{Link}
use Rattle.rr_pages.specs.Links.{all_fit}

-- those of the chain at this place, none past the last
abbrev pub links_at : List FollowedChain → ℕ → List Link
links_at [] index = []
links_at (chain ∷ chains) zero = chain.links.items
links_at (chain ∷ chains) (suc index) = links_at chains index

-- each lies on a page below the page count, and has no more used bytes than a page holds
abbrev pub each_fits : ℕ → List FollowedChain → Bool
each_fits count [] = true
each_fits count (chain ∷ chains) = all_fit count chain.links.items && each_fits count chains
