use Rattle.std.proofs.Common.{◌≡◌, ◌-◌, length, take, drop, ap, ◌∙◌, sym, arith}
use Rattle.std.proofs.lemmas.List.{length-drop, take_all}
use Rattle.rr_reading.specs.Lending.Chains.{left_of, piece_of}
use Rattle.rr_reading.proofs.LendingLemmas.CommandLemmas.{inside, inside_fits}
use Rattle.rr_reading.proofs.lending.commands.Commands.find_inside.Goals as goal

pub returns-clause-finds : goal.returns-clause-finds
returns-clause-finds c = λ file.
    let old = c.args.self.now in
    let piece = piece_of old.chains in
    let read = c.piece.result.now in
    let whole : take (length read - old.at) (drop old.at read) ≡ drop old.at piece = take_all (length read - old.at) (drop old.at read) (omega (arith, length-drop old.at read)) ∙ ap (drop old.at) c.piece.ensures in
    let found = c.in_ok-count.ensures in
    inside piece (left_of file old.chains) c.in_ok-count.field-0.now found.1.0 old.at found.0 (sym whole ∙ found.1.1)

pub returns-clause-stands : goal.returns-clause-stands
returns-clause-stands c =
    let old = c.args.self.now in
    let piece = piece_of old.chains in
    let read = c.piece.result.now in
    let whole : take (length read - old.at) (drop old.at read) ≡ drop old.at piece = take_all (length read - old.at) (drop old.at read) (omega (arith, length-drop old.at read)) ∙ ap (drop old.at) c.piece.ensures in
    let found = c.in_ok-count.ensures in
    (omega (arith, inside_fits piece c.in_ok-count.field-0.now found.1.0 old.at (omega (arith, c.requires)) (sym whole ∙ found.1.1)), omega (arith, found.0))
