use Rattle.std.proofs.Common.{◌≡◌, ◌+◌, get_or}
use Rattle.rr_roster.specs.declared.company.Corp.{Corp}
use Rattle.rr_roster.specs.Company.{corp_index}
use Rattle.rr_books.specs.declared.parties.Place.TheVariants as L
use Rattle.rr_trains.proofs.DepotLemmas.CorpCounts.{seen_at}
use Rattle.rr_trains.proofs.depot.limits.count_kind.Given as goal

abbrev pub invariant-loop-number : goal.invariant-loop-number
invariant-loop-number l = (corp : Corp) → get_or l.held (corp_index corp) 0 ≡ get_or l.initial.held (corp_index corp) 0 + seen_at l.books (L.Corp corp) l.kind l.number
