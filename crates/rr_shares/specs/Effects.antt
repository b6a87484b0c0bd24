-- What is added to a table's book when shares change hands.
use Rattle.std.specs.Prelude.{ℕ, zero, suc, pos, ◌*◌, nat_le, not, ◌&&◌, Bool, false, [], ◌∷◌, Option, None, Some, if◌then◌else◌}
use Rattle.rr_roster.specs.declared.company.Corp.{Corp}
use Rattle.rr_books.specs.declared.parties.Seat.{Seat}
use Rattle.rr_books.specs.declared.parties.Party.TheVariants as P
use Rattle.rr_books.specs.declared.parties.Place.{Place}
use Rattle.rr_books.specs.declared.parties.Place.TheVariants as L
use Rattle.rr_books.specs.declared.certificates.Cert.TheVariants as C
use Rattle.rr_books.specs.declared.entries.Entry.TheVariants as E
use Rattle.rr_books.specs.declared.entries.Marker.TheVariants as M
use Rattle.rr_books.specs.Book.{holder, players}
use Rattle.rr_books.specs.Shares.{Holders, share}
use Rattle.rr_desk.specs.Effects.{Effect, adds, in_turn, moves_lowest_share}
use Rattle.rr_shares.specs.declared.succession.Handover.{Handover}
use Rattle.rr_shares.specs.Succession.{handover_due, handover_after_sale}

-- the n lowest of a corporation's 10% certificates that are at one place move to another, one after another; fewer
-- where fewer are there
unfoldable pub moves_lowest_shares : Corp → ℕ → Place → Place → Effect
moves_lowest_shares c zero from to = in_turn []
moves_lowest_shares c (suc n) from to = in_turn (moves_lowest_shares c n from to ∷ moves_lowest_share c from to ∷ [])

-- two 10% certificates of the new president move to the old one, and the 20% to the new one
unfoldable pub hands_over : Corp → Handover → Effect
hands_over c h = in_turn (moves_lowest_shares c 2 (L.Seat h.to) (L.Seat h.from) ∷ adds (E.Move (C.President c) (L.Seat h.to)) ∷ [])

abbrev pub hands_over_if : Corp → Option Handover → Effect
hands_over_if c None = in_turn []
hands_over_if c (Some h) = hands_over c h

-- the presidency goes to the heir, if there is one
unfoldable pub presidency : Corp → Effect
presidency c book = hands_over_if c (handover_due (holder book) (players book) c) book

-- the presidency goes to whoever is heir once a seller has sold n shares
unfoldable pub presidency_after_sale : Corp → Seat → ℕ → Effect
presidency_after_sale c seller n book = hands_over_if c (handover_after_sale (holder book) (players book) c seller n) book

-- n shares are sold: the presidency is judged by the shares after the sale, but its entries come first; then the
-- lowest 10% certificates that the seller has by then move to the pool
unfoldable pub sale_shares : Corp → Seat → ℕ → Effect
sale_shares c seller n = in_turn (presidency_after_sale c seller n ∷ moves_lowest_shares c n (L.Seat seller) L.Pool ∷ [])

-- a corporation floats where it has a par, didn't float before, and 60% of it has left the offer
abbrev pub floats_now : Holders → Corp → Option ℕ → Bool → Bool
floats_now holder c None floated = false
floats_now holder c (Some par) floated = not floated && nat_le (share holder L.Offer c) 40

-- a corporation floats: the bank pays it ten times its par
unfoldable pub float : Corp → ℕ → Effect
float c par = in_turn (adds (E.Pay P.Bank (P.Corp c) (record { 0 = pos (10 * par) })) ∷ adds (E.Step (M.Float c)) ∷ [])

abbrev pub float_of : Corp → Option ℕ → Effect
float_of c None = in_turn []
float_of c (Some par) = float c par

-- a corporation floats if it is to float now
unfoldable pub float_if_due : Corp → Option ℕ → Bool → Effect
float_if_due c par floated book = (if floats_now (holder book) c par floated then float_of c par else in_turn []) book
