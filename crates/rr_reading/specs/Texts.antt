-- The chains of a kit's texts, as they were followed.
use Rattle.std.specs.Prelude.{◌≡◌, ℕ, true, List, ◌∷◌}
use Rattle.rr_pages.specs.declared.reading.FollowedChain.{FollowedChain}
use Rattle.rr_pages.specs.Links.{all_fit}
use Rattle.rr_reading.specs.declared.named.FollowedTexts.{FollowedTexts}
use Rattle.rr_reading.specs.Chains.{held_in}
use Rattle.rr_reading.specs.Held.{TextChains}

-- and behind them those of the tables
abbrev pub named_after : FollowedTexts → List FollowedChain → List FollowedChain
named_after texts tables = texts.chart ∷ texts.roster ∷ texts.tiles ∷ texts.board ∷ tables

abbrev pub texts_held_in : List ℕ → FollowedTexts → TextChains
texts_held_in file texts =
    record {
      chart = held_in file texts.chart;
      roster = held_in file texts.roster;
      tiles = held_in file texts.tiles;
      board = held_in file texts.board;
    }

-- each lies within the file, by this page count
pub record TextsFit (count : ℕ) (texts : FollowedTexts) : Type 0 where
  pub chart : all_fit count texts.chart.links.items ≡ true
  pub roster : all_fit count texts.roster.links.items ≡ true
  pub tiles : all_fit count texts.tiles.links.items ≡ true
  pub board : all_fit count texts.board.links.items ≡ true
