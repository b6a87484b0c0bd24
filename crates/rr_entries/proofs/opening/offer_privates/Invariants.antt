use Rattle.std.proofs.Common.{◌≡◌, ◌++◌, [], ◌∷◌, take}
use Rattle.std.specs.List.{flat_map}
use Rattle.rr_books.specs.Shares.{privates}
use Rattle.rr_books.specs.declared.certificates.Cert.TheVariants as C
use Rattle.rr_entries.specs.Opening.{offered}
use Rattle.rr_entries.proofs.opening.offer_privates.Given as goal

abbrev pub invariant-loop-private : goal.invariant-loop-private
invariant-loop-private l = l.entries ≡ l.fn.entries ++ flat_map (λ p. offered (C.Private p) ∷ []) (take l.private-index privates)
