use Rattle.std.proofs.Common.{◌≡◌, ◌-◌, ◌≤◌, ◌++◌, length, min, take, ap, ◌∙◌, arith, rules}
use Rattle.rr_serve.proofs.LineLemmas.{taken-room}
use Rattle.rr_serve.proofs.line_buffer.LineBuffer.add.Goals as goal

pub returns-clause-added : goal.returns-clause-added
returns-clause-added c =
    let old = c.args.self.now in
    let bytes = c.args.bytes.now in
    let fits : length old ≤ 32001 = omega (arith, ap length c.self.view_is, c.self.inside.bytes.ok.0, c.self.invariant) in
    let pushed : c.extend_from_slice.new.self.items ≡ old ++ take (min (length bytes) (32001 - length old)) bytes = search rules in
    pushed ∙ taken-room old bytes fits
