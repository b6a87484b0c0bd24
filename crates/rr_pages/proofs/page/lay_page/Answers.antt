use Rattle.std.proofs.Common.{List, ℕ, ◌+◌, ◌≡◌, ◌++◌, length, vec_len, refl, ◌∙◌, ap, arith}
use Rattle.byteorder.specs.Endian.{big_bytes}
use Rattle.byteorder.specs.Numbers.{length-bytes_high_first}
use Rattle.rr_pages.specs.Laying.{page_spelling}
use Rattle.rr_pages.proofs.Spelling.{page_together}
use Rattle.rr_pages.proofs.page.lay_page.Goals as goal

pub returns : goal.returns
unfolding page_spelling
returns c =
    let eight : length c.eight_bytes.result ≡ 8 = ap length c.eight_bytes.ensures in
    let two : length c.two_bytes.result ≡ 2 = ap length c.two_bytes.ensures in
    let counted : vec_len c.extend_from_slice-3.new.self ≡ 10 + length c.args.piece.now =
    omega (arith, c.in_ok-page.ensures.len, c.in_ok-extend_from_slice.ensures.len, c.in_ok-extend_from_slice-2.ensures.len, c.in_ok-extend_from_slice-3.ensures.len) in
    c.in_ok-resize.ensures.items
    ∙ page_together 4096 4086 (vec_len c.extend_from_slice-3.new.self) (big_bytes 8 c.args.next) (big_bytes 2 (length c.args.piece.now)) c.args.piece.now
    c.in_ok-page.page.items c.extend_from_slice.new.self.items c.extend_from_slice-2.new.self.items c.extend_from_slice-3.new.self.items
    c.in_ok-page.ensures.items
    (c.in_ok-extend_from_slice.ensures.items ∙ ap (λ (xs : List ℕ). c.in_ok-page.page.items ++ xs) c.eight_bytes.ensures)
    (c.in_ok-extend_from_slice-2.ensures.items ∙ ap (λ (xs : List ℕ). c.extend_from_slice.new.self.items ++ xs) c.two_bytes.ensures)
    c.in_ok-extend_from_slice-3.ensures.items
    (length-bytes_high_first 8 c.args.next) (length-bytes_high_first 2 (length c.args.piece.now)) c.requires refl counted
