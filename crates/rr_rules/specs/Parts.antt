-- The plain values of how a table's game stands, and which values they may be.
use Rattle.std.specs.Prelude.{ℤ, pos, ◌≤ℤ◌}
use Rattle.std.proofs.Common.{refl}
use Rattle.rr_words.specs.Spelling.Form.{Form, form_by, pair_form, signed_form}
use Rattle.rr_books.specs.declared.parties.Money.{Money}
use Rattle.rr_desk.specs.declared.position.parts.PositionParts.{PositionParts}
use Rattle.rr_desk.specs.Position.Parts.{IsPosition, position_form, position_of}
use Rattle.rr_desk.specs.Position.Parts.{parts_of as position_parts}
use Rattle.rr_rules.specs.declared.parts.StandingParts.{StandingParts}
use Rattle.rr_rules.specs.State.{AtTable}

abbrev pub parts_of : AtTable → StandingParts
parts_of s = record { position = position_parts s.position; revenue = s.revenue }

abbrev pub standing_of : StandingParts → AtTable
standing_of p = record { position = position_of p.position; revenue = p.revenue }

-- the same values, one behind the other
abbrev pub Row : Type 0
Row = PositionParts × ℤ

abbrev pub row_of : StandingParts → Row
row_of p = (p.position, p.revenue.0)

abbrev pub parts_in : Row → StandingParts
parts_in r = record { position = r.0; revenue = record { 0 = r.1 } }

-- their bytes
abbrev pub standing_form : Form StandingParts
standing_form = form_by (pair_form position_form signed_form) row_of parts_in (λ p. refl)

-- trains may earn this in a turn
abbrev pub IsEarned : Money → Type 0
IsEarned revenue = (pos 0 ≤ℤ revenue.0) × (revenue.0 ≤ℤ pos 10000000000)

-- a game may stand so
pub record IsStanding (p : StandingParts) : Type 0 where
  pub position : IsPosition p.position
  pub revenue : IsEarned p.revenue
