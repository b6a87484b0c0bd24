use Rattle.std.proofs.Common.{◌+◌, ◌*◌, ◌≡◌, ◌∙◌, length, drop, arith, rules}
use Rattle.byteorder.specs.Numbers.{big_from-take}
use Rattle.rr_pages.specs.Pages.{number_in}
use Rattle.rr_pages.proofs.Bytes.{number_read}
use Rattle.rr_pages.proofs.reading.read_front.Goals as goal

pub returns-clause-front : goal.returns-clause-front
unfolding number_in
returns-clause-front g c = λ honest.
    let file = (g.D.Disk.state c.args.disk.now).content in
    let is = c.in_ok-read_at.ensures.bytes honest in
    let whole : length c.read_at.new.into ≡ 10 = search rules in (
      c.read_u64.ensures ∙ number_read file (4096 * c.args.page) c.read_at.new.into is 0 (4096 * c.args.page + 0) 8 (omega arith) (omega arith),
      c.read_u16.ensures ∙ big_from-take 0 2 2 (drop 8 c.read_at.new.into) (omega arith) ∙ number_read file (4096 * c.args.page) c.read_at.new.into is 8 (4096 * c.args.page + 8) 2 (omega arith) (omega arith),
    )
