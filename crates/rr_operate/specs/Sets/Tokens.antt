-- A corporation's first token, which it gets as its first turn begins.
use Rattle.std.specs.Prelude.{Bool, List, [], ◌==◌, Option, None, Some, find, if◌then◌else◌}
use Rattle.std.specs.List.{list_any}
use Rattle.rr_roster.specs.declared.company.Corp.{Corp}
use Rattle.rr_roster.specs.Company.{corp_index}
use Rattle.rr_roster.specs.Chart.Chart.{Row}
use Rattle.rr_books.specs.declared.entries.Entry.TheVariants as E
use Rattle.rr_kit.specs.declared.board.hex.Home.{Home}
use Rattle.rr_desk.specs.Effects.{Effect, adds, in_turn}
use Rattle.rr_desk.specs.declared.layout.layout.Station.{Station}
use Rattle.rr_desk.specs.Layout.Layout.{stations}
use Rattle.rr_market.specs.Operations.Due.{due}

abbrev pub is_home_of : Corp → Home → Bool
is_home_of c home = corp_index home.corp == corp_index c

abbrev pub is_token_of : Corp → Station → Bool
is_token_of c station = corp_index station.corp == corp_index c

-- the corporation has a token on the board
abbrev pub has_token : List Station → Corp → Bool
has_token all c = list_any (is_token_of c) all

abbrev pub places_at : Corp → Option Home → Effect
places_at c None = in_turn []
places_at c (Some home) = adds (E.Station c home.hex home.centre)

-- a corporation that has no token gets one at its home, without a payment, if the board has a home of it
unfoldable pub places_first_token_of : List Home → Corp → Effect
places_first_token_of homes c book = (if has_token (stations book) c then in_turn [] else places_at c (find (is_home_of c) homes)) book

abbrev pub places_first_token_if : List Home → Option Corp → Effect
places_first_token_if homes None = in_turn []
places_first_token_if homes (Some c) = places_first_token_of homes c

-- so does the corporation that is due
unfoldable pub places_first_token : List Row → List Home → Effect
places_first_token rows homes book = places_first_token_if homes (due rows book) book
