-- The plain values of the market, and which values it may have.
use Rattle.std.specs.Prelude.{◌≡◌, ℕ, List, Option, length}
use Rattle.std.proofs.Common.{refl}
use Rattle.rr_words.specs.Spelling.Form.{Form, byte_form, form_by, option_form, pair_form, row_form}
use Rattle.rr_market.specs.declared.market.Token.{Token}
use Rattle.rr_market.specs.declared.parts.MarketParts.{MarketParts}
use Rattle.rr_market.specs.Arrivals.{AreRanks}
use Rattle.rr_market.specs.State.{State}

abbrev pub parts_of : State → MarketParts
parts_of s = record { tokens = s.tokens; ranks = s.arrivals }

abbrev pub market_of : MarketParts → State
market_of p = record { tokens = p.tokens; arrivals = p.ranks }

-- the rows and columns of a token's cells: the one where it was put first, and the one where it is
abbrev pub Cells : Type 0
Cells = (ℕ × ℕ) × (ℕ × ℕ)

abbrev pub cells_of : Token → Cells
cells_of t = ((t.first.row, t.first.column), (t.cell.row, t.cell.column))

abbrev pub token_at : Cells → Token
token_at c = record { first = record { row = c.0.0; column = c.0.1 }; cell = record { row = c.1.0; column = c.1.1 } }

-- their bytes
abbrev pub token_form : Form Token
token_form = form_by (pair_form (pair_form byte_form byte_form) (pair_form byte_form byte_form)) cells_of token_at (λ t. refl)

-- the same values, one behind the other
abbrev pub Row : Type 0
Row = List (Option Token) × List ℕ

abbrev pub row_of : MarketParts → Row
row_of p = (p.tokens, p.ranks)

abbrev pub parts_in : Row → MarketParts
parts_in r = record { tokens = r.0; ranks = r.1 }

-- their bytes
abbrev pub market_form : Form MarketParts
market_form = form_by (pair_form (row_form 8 (option_form token_form)) (row_form 8 byte_form)) row_of parts_in (λ p. refl)

-- a market may have these values
abbrev pub AreMarket : MarketParts → Type 0
AreMarket p = (length p.tokens ≡ 8) × AreRanks p.ranks
