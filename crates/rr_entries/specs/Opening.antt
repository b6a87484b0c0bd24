-- The entries of an opening.
use Rattle.std.specs.Prelude.{ℕ}
use Rattle.rr_roster.specs.declared.company.Kind.{Kind}
use Rattle.rr_books.specs.declared.certificates.Cert.{Cert}
use Rattle.rr_books.specs.declared.entries.Entry.{Entry}
use Rattle.rr_books.specs.declared.entries.Entry.TheVariants as E
use Rattle.rr_books.specs.declared.parties.Place.TheVariants as L

-- a certificate is offered
abbrev pub offered : Cert → Entry
offered cert = E.Move cert L.Offer

-- the train of a kind with this number is offered
abbrev pub train_offered : Kind → ℕ → Entry
train_offered kind number = E.Train (record { kind = kind; number = number }) L.Offer
