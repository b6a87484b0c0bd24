use Rattle.std.proofs.Common.{◌≡◌, ◌++◌, [], ◌∷◌, take}
use Rattle.std.specs.List.{flat_map}
use Rattle.rr_books.specs.Shares.{share_numbers}
use Rattle.rr_books.specs.declared.certificates.Cert.TheVariants as C
use Rattle.rr_entries.specs.Opening.{offered}
use Rattle.rr_entries.proofs.opening.offer_shares.Given as goal

abbrev pub invariant-loop-number : goal.invariant-loop-number
invariant-loop-number l = l.entries ≡ (l.fn.entries ++ offered (C.President l.corp) ∷ []) ++ flat_map (λ n. offered (C.Share l.corp n) ∷ []) (take l.number-index share_numbers)
