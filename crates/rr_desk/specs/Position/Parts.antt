-- The plain values of a position, and which values it may have.
use Rattle.std.specs.Prelude.{ℕ, ◌≤◌}
use Rattle.std.proofs.Common.{refl}
use Rattle.rr_words.specs.Spelling.Form.{Form, form_by, number_form, pair_form}
use Rattle.rr_books.specs.declared.parts.BooksParts.{BooksParts}
use Rattle.rr_books.specs.Parts.{AreBooks, books_form, books_of}
use Rattle.rr_books.specs.Parts.{parts_of as books_parts}
use Rattle.rr_rounds.specs.declared.bids.parts.BiddingParts.{BiddingParts}
use Rattle.rr_rounds.specs.Bids.Parts.{IsBidding, bidding_form, bidding_of}
use Rattle.rr_rounds.specs.Bids.Parts.{parts_of as bidding_parts}
use Rattle.rr_rounds.specs.declared.parts.RoundsParts.{RoundsParts}
use Rattle.rr_rounds.specs.Parts.{AreRounds, rounds_form, rounds_of}
use Rattle.rr_rounds.specs.Parts.{parts_of as rounds_parts}
use Rattle.rr_market.specs.declared.parts.MarketParts.{MarketParts}
use Rattle.rr_market.specs.Parts.{AreMarket, market_form, market_of}
use Rattle.rr_market.specs.Parts.{parts_of as market_parts}
use Rattle.rr_market.specs.declared.operations.parts.OperationsParts.{OperationsParts}
use Rattle.rr_market.specs.Operations.Parts.{AreOperations, operations_form, operations_of}
use Rattle.rr_market.specs.Operations.Parts.{parts_of as operations_parts}
use Rattle.rr_desk.specs.Layout.Layout.{Placed}
use Rattle.rr_desk.specs.Layout.Bytes.{layout_form}
use Rattle.rr_desk.specs.declared.position.position.TheConstants.{MOST_ENTRIES}
use Rattle.rr_desk.specs.declared.position.parts.PositionParts.{PositionParts}
use Rattle.rr_desk.specs.Position.Position.{OnTable}

abbrev pub parts_of : OnTable → PositionParts
parts_of p = record {
  books = books_parts p.books;
  bidding = bidding_parts p.bidding;
  market = market_parts p.market;
  rounds = rounds_parts p.rounds;
  operations = operations_parts p.operations;
  layout = p.layout;
  entries = p.entries;
}

abbrev pub position_of : PositionParts → OnTable
position_of p = record {
  books = books_of p.books;
  bidding = bidding_of p.bidding;
  market = market_of p.market;
  rounds = rounds_of p.rounds;
  operations = operations_of p.operations;
  layout = p.layout;
  entries = p.entries;
}

-- the same values, one behind the other
abbrev pub Row : Type 0
Row = BooksParts × (BiddingParts × (MarketParts × (RoundsParts × (OperationsParts × (Placed × ℕ)))))

abbrev pub row_of : PositionParts → Row
row_of p = (p.books, (p.bidding, (p.market, (p.rounds, (p.operations, (p.layout, p.entries))))))

abbrev pub parts_in : Row → PositionParts
parts_in r = record {
  books = r.0;
  bidding = r.1.0;
  market = r.1.1.0;
  rounds = r.1.1.1.0;
  operations = r.1.1.1.1.0;
  layout = r.1.1.1.1.1.0;
  entries = r.1.1.1.1.1.1;
}

-- their bytes
abbrev pub position_form : Form PositionParts
position_form = form_by (pair_form books_form (pair_form bidding_form (pair_form market_form (pair_form rounds_form (pair_form operations_form (pair_form layout_form (number_form 4))))))) row_of parts_in (λ p. refl)

-- the views count no more than there are entries, and those are few enough
pub record AreCounted (p : PositionParts) : Type 0 where
  pub payments : p.books.payments ≤ p.entries
  pub commands : p.bidding.commands ≤ p.entries
  pub turns : p.rounds.turns ≤ p.entries
  pub begun : p.rounds.begun ≤ p.entries
  pub sets : p.operations.sets ≤ p.entries
  pub round : p.operations.round ≤ p.entries
  pub entries : p.entries ≤ MOST_ENTRIES

-- a position may have these values
pub record IsPosition (p : PositionParts) : Type 0 where
  pub books : AreBooks p.books
  pub bidding : IsBidding p.bidding
  pub market : AreMarket p.market
  pub rounds : AreRounds p.rounds
  pub operations : AreOperations p.operations
  pub counted : AreCounted p
