use Rattle.std.proofs.Common.{◌≡◌, ◌++◌, take}
use Rattle.std.specs.List.{flat_map}
use Rattle.rr_routes.proofs.SheetsLemmas.CertificateLemmas.{text_behind}
use Rattle.rr_routes.proofs.sheets.certificate.+write_tree.Given as goal

-- the children so far are written behind the split
abbrev pub invariant-loop-child : goal.invariant-loop-child
invariant-loop-child l = l.out.items ≡ l.initial.out.items ++ flat_map text_behind (take l.child-index l.child-items)
