use Rattle.std.proofs.Common.{◌≡◌, ◌+◌, ◌*◌, ℕ, List, length, take, refl, ap, ◌∙◌, subst, arith}
use Rattle.std.proofs.lemmas.List.{length-take-le}
use Rattle.rr_disk.specs.Disk.{IsAt}
use Rattle.rr_reading.specs.Lending.PageBuffer.{piece_in}
use Rattle.rr_reading.proofs.LendingLemmas.LinkLemmas.{bytes_read, left, on_err}
use Rattle.rr_reading.proofs.lending.page_buffer.PageBuffer.load.Goals as goal

pub returns-clause-piece : goal.returns-clause-piece
unfolding piece_in
returns-clause-piece g c = λ honest.
    let file = (g.D.Disk.state c.args.disk.now).content in
    let link = c.args.link.now in
    let bytes = c.read_front.new.bytes in
    let whole : length bytes ≡ 4086 = omega (arith, c.args.self.now.whole, ap length c.deref_mut.ensures.value, c.read_front.auto.bytes) in
    let here = left c.args.self.now.bytes.items bytes c.args.self.now.bytes.len (omega (arith, c.deref_mut.ensures.len, c.read_front.auto.bytes)) in
    let count : c.from-used.result ≡ link.used = c.from-used.ensures in
    let place : 4096 * c.from.result + 10 ≡ 4096 * link.page + 10 = omega (arith, c.from.ensures) in
    let is = subst (λ (n : ℕ). IsAt file n (take link.used bytes)) place (subst (λ (n : ℕ). IsAt file (4096 * c.from.result + 10) (take n bytes)) count (c.in_ok-read_front.ensures.read honest)) in
    ap (λ (bs : List ℕ). take c.from-used.result bs) here ∙ ap (λ (n : ℕ). take n bytes) count ∙ bytes_read file link (take link.used bytes) is (length-take-le link.used bytes (omega (arith, whole, c.requires)))

pub returns-in_err-read_front-clause-nothing : goal.returns-in_err-read_front-clause-nothing
unfolding piece_in
returns-in_err-read_front-clause-nothing g c = on_err c.from_residual.result refl
