use Rattle.std.proofs.Common.{◌≡◌, ◌++◌, map, take}
use Rattle.std.specs.List.{flat_map}
use Rattle.rr_books.specs.Shares.{certificates_of}
use Rattle.rr_entries.specs.Opening.{offered}
use Rattle.rr_entries.proofs.opening.offer_all_shares.Given as goal

abbrev pub invariant-loop-corp : goal.invariant-loop-corp
invariant-loop-corp l = l.entries ≡ l.fn.entries ++ flat_map (λ c. map offered (certificates_of c)) (take l.corp-index l.order)
