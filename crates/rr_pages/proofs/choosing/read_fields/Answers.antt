use Rattle.std.proofs.Common.{◌≡◌, ℕ, length, rules, sym, subst, ◌∙◌, arith}
use Rattle.rr_disk.specs.Disk.{IsAt}
use Rattle.rr_pages.specs.Roots.{root_gate}
use Rattle.rr_pages.proofs.Bytes.{first_read}
use Rattle.rr_pages.proofs.ChoosingLemmas.{fields_stand}
use Rattle.rr_pages.proofs.choosing.read_fields.Goals as goal

pub returns-clause-fields : goal.returns-clause-fields
returns-clause-fields g c = λ honest.
    let file = (g.D.Disk.state c.args.disk.now).content in
    let whole : length c.read_at.new.into ≡ 36 = search rules in
    let is : IsAt file (root_gate c.args.side) c.read_at.new.into = subst (λ (at : ℕ). IsAt file at c.read_at.new.into) c.gate_of.ensures (c.in_ok-read_at.ensures.bytes honest) in (
      sym (first_read file (root_gate c.args.side) c.read_at.new.into is (omega arith)) ∙ c.if-bytes.false,
      fields_stand file c.args.side c.read_at.new.into c.fields_in.result is whole c.fields_in.ensures,
    )
