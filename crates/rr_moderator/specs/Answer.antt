-- The replies to what isn't refused.
use Rattle.std.specs.Prelude.{ℕ, Bool, true, false, List, [], ◌∷◌, ◌++◌, Option, None, Some, codes, decimal, filter, if◌then◌else◌}
use Rattle.std.specs.Fmt.{signed_decimal}
use Rattle.rr_roster.specs.declared.company.Private.{Private}
use Rattle.rr_roster.specs.Company.{private_name}
use Rattle.rr_books.specs.declared.entries.Cell.{Cell}
use Rattle.rr_books.specs.declared.parties.Money.{Money}
use Rattle.rr_books.specs.declared.parties.Place.{Place}
use Rattle.rr_books.specs.declared.certificates.Cert.TheVariants as C
use Rattle.rr_books.specs.Shares.{Holders, is_at, privates}
use Rattle.rr_code.specs.declared.command.Command.{Command}
use Rattle.rr_code.specs.declared.command.Command.TheVariants.{Order}
use Rattle.rr_orders.specs.declared.order.Order.TheVariants as O
use Rattle.rr_orders.specs.Texts.{added}
use Rattle.rr_entries.specs.Words.{spaced}
use Rattle.rr_turns.specs.declared.request.Request.{Request}
use Rattle.rr_turns.specs.declared.request.Request.TheVariants.{Play}
use Rattle.rr_kit.specs.declared.kit.Kit.{Kit}
use Rattle.rr_game.specs.Play.{play}
use Rattle.rr_store.specs.World.{TableState}
use Rattle.rr_moderator.specs.declared.summary.Summary.{Summary}

-- the request runs a corporation's trains
abbrev pub runs_trains : Request Command → Bool
runs_trains (Play (Order (O.Run corp sheet))) = true
runs_trains (Play (Order (O.RunBest corp sheet certificate))) = true
runs_trains request = false

-- what the trains earned, behind a run
abbrev pub earned_words : Kit → TableState → Request Command → List (List ℕ)
earned_words kit t request = if runs_trains request then signed_decimal (play kit t.commands).revenue.0 ∷ [] else []

-- the reply `ok`: with the table's new stamp, what the trains earned, if they ran, and the words of a sheet, where there are any
abbrev pub accepted_with : List ℕ → ℕ → List (List ℕ) → List ℕ → List ℕ
accepted_with name stamp earned sheet =
    codes "ok " ++ name ++ codes " " ++ decimal stamp ++ spaced earned ++ added sheet ++ codes "\n"

-- the reply to an accepted request to a table
abbrev pub accepted_text : Kit → List ℕ → TableState → Request Command → List ℕ → List ℕ
accepted_text kit name t request sheet = accepted_with name t.stamp (earned_words kit t request) sheet

-- an answer without its LF: the sign and the words, a dash in the place of none
abbrev pub answer_of : List (List ℕ) → List ℕ
answer_of [] = codes "= -"
answer_of (word ∷ words) = codes "=" ++ spaced (word ∷ words)

-- the cheapest private that isn't sold, and its price
abbrev pub asked_words : Option (Private × Money) → List (List ℕ)
asked_words None = []
asked_words (Some offer) = private_name offer.0 ∷ signed_decimal offer.1.0 ∷ []

-- the price of a share, with the row and the column of the token's cell
abbrev pub price_words : Option (ℕ × Cell) → List (List ℕ)
price_words None = []
price_words (Some quoted) = decimal quoted.0 ∷ decimal quoted.1.row ∷ decimal quoted.1.column ∷ []

-- the privates at a place, in the order of every roster
abbrev pub owned : Holders → Place → List Private
owned holder place = filter (λ p. is_at (holder (C.Private p)) place) privates

-- how many tables there are, and the number of the last request that was accepted
abbrev pub summary_text : Summary → List ℕ
summary_text summary = codes "ok " ++ decimal summary.tables ++ codes " " ++ decimal summary.last ++ codes "\n"
