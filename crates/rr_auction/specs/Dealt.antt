-- Certificates at places of the table.
use Rattle.std.specs.Prelude.{◌≡◌, ℕ, Bool, true, false, Option, None, Some}
use Rattle.rr_books.specs.declared.parties.Place.{Place}
use Rattle.rr_books.specs.declared.certificates.Cert.{Cert}
use Rattle.rr_books.specs.declared.entries.Entry.{Entry}
use Rattle.rr_books.specs.declared.entries.Entry.TheVariants as E
use Rattle.rr_books.specs.Book.{Book, holder}
use Rattle.rr_books.specs.State.{has_place}

-- a certificate has a place of a table of so many players
abbrev pub is_placed : ℕ → Option Place → Bool
is_placed n None = false
is_placed n (Some place) = has_place n place

-- so has each of the certificates
abbrev pub IsDealt : ℕ → Book → Type 0
IsDealt n book = (cert : Cert) → is_placed n (holder book cert) ≡ true

-- the entry moves a certificate to a place of the table, if it moves one
abbrev pub moves_within : ℕ → Entry → Bool
moves_within n (E.Move cert to) = has_place n to
moves_within n _ = true
