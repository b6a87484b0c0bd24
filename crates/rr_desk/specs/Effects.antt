-- Effects: the entries that follow on a book.
use Rattle.std.specs.Prelude.{◌≡◌, List, [], ◌∷◌, ◌++◌, Option, None, Some, find, map}
use Rattle.rr_roster.specs.declared.company.Corp.{Corp}
use Rattle.rr_books.specs.declared.parties.Place.{Place}
use Rattle.rr_books.specs.declared.certificates.Cert.{Cert}
use Rattle.rr_books.specs.declared.certificates.Cert.TheVariants as C
use Rattle.rr_books.specs.declared.entries.Entry.{Entry}
use Rattle.rr_books.specs.declared.entries.Entry.TheVariants as E
use Rattle.rr_books.specs.Book.{Book, holder}
use Rattle.rr_books.specs.Shares.{Holders, is_at, share_numbers}

-- the entries that something adds, by the book so far
abbrev pub Effect : Type 0
Effect = Book → Book

-- one entry, whatever the book
abbrev pub adds : Entry → Effect
adds e book = e ∷ []

-- one effect after another, each by the book with what the earlier ones added
abbrev pub in_turn : List Effect → Effect
in_turn [] book = []
in_turn (f ∷ fs) book = f book ++ in_turn fs (book ++ f book)

-- the lowest of a corporation's 10% certificates that are at a place
abbrev pub lowest_share : Holders → Corp → Place → Option Cert
lowest_share holder c place = find (λ cert. is_at (holder cert) place) (map (λ n. C.Share c n) share_numbers)

abbrev pub moves_if : Option Cert → Place → Book
moves_if None to = []
moves_if (Some cert) to = E.Move cert to ∷ []

-- the lowest of a corporation's 10% certificates that are at one place moves to another, if there is one
abbrev pub moves_lowest_share : Corp → Place → Place → Effect
moves_lowest_share c from to book = moves_if (lowest_share (holder book) c from) to
