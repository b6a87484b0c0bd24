use Rattle.std.proofs.Common.{◌≡◌, ◌+◌, ◌-◌, ◌≤◌, length, take, drop, sym, ap, ◌∙◌, arith}
use Rattle.std.proofs.lemmas.List.{length-take, take-take}
use Rattle.rr_reading.specs.Lending.Chains.{left_of, piece_of}
use Rattle.rr_reading.specs.Lending.Commands.{bytes_of}
use Rattle.rr_reading.proofs.LendingLemmas.CommandLemmas.{moved}
use Rattle.rr_reading.proofs.lending.commands.Commands.join.Goals as goal

pub returns-clause-moved : goal.returns-clause-moved
returns-clause-moved c = λ file.
    let old = c.args.self.now in
    let piece = piece_of old.chains in
    let n = c.min-taken.result in
    let e : c.piece.result.now ≡ piece = c.piece.ensures in
    let rest = take (length c.piece.result.now - old.at) (drop old.at c.piece.result.now) in
    let long : length (take n rest) ≡ n = omega (arith, length-take n rest, c.min-taken.ensures) in
    let all : n ≤ length c.piece.result.now - old.at = omega (arith, c.min-taken.ensures, length-take (length c.piece.result.now - old.at) (drop old.at c.piece.result.now)) in
    moved piece (left_of file old.chains) (bytes_of old.joined) (bytes_of c.put.new.self) (take n rest) old.at c.args.done n
    (take-take n (length c.piece.result.now - old.at) (drop old.at c.piece.result.now) all ∙ ap (λ xs. take n (drop old.at xs)) e)
    (ap (λ k. take (c.args.done + k) (bytes_of c.put.new.self)) (sym long) ∙ c.put.ensures)
