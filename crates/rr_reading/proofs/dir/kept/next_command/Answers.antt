use Rattle.std.proofs.Common.{◌≡◌, ℕ, List, ◌++◌, arith, ap, sym, ◌∙◌, length, length-append, append_assoc}
use Rattle.rr_words.specs.Spelling.Number.{spelled_number}
use Rattle.rr_words.proofs.SpellingLemmas.NumberLemmas.{length-spelled_number}
use Rattle.rr_reading.proofs.DirLemmas.NumberLemmas.{cut_number}
use Rattle.rr_reading.proofs.dir.kept.next_command.Goals as goal

pub returns-in_err-count : goal.returns-in_err-count
returns-in_err-count c =
    rw c.from_residual.ensures (λ words rest short same.
    omega (arith, ap length same, length-append (spelled_number 2 (length words) ++ words) rest, length-append (spelled_number 2 (length words)) words, length-spelled_number 2 (length words), c.in_err-count.ensures))

pub returns-in_err-words : goal.returns-in_err-words
returns-in_err-words c =
    rw c.from_residual-in_err-words.ensures (λ words rest short same.
    let parts = cut_number 2 c.in_ok-count.count (length words) c.u16.new.self (words ++ rest) (omega (arith, c.in_ok-count.ensures.0)) (omega (arith, short)) (sym c.in_ok-count.ensures.1 ∙ same ∙ append_assoc (spelled_number 2 (length words)) words rest) in
    omega (arith, parts.0, ap length parts.1, length-append words rest, c.in_err-words.ensures, c.from.ensures))

pub returns : goal.returns
returns c =
    let read = c.in_ok-words.ensures in
    let count : c.in_ok-count.count ≡ length c.in_ok-words.words.now = omega (arith, read.0, c.from.ensures) in (
      omega (arith, count, c.in_ok-count.ensures.0),
      c.in_ok-count.ensures.1 ∙ ap (λ (xs : List ℕ). spelled_number 2 c.in_ok-count.count ++ xs) read.2
          ∙ ap (λ (n : ℕ). spelled_number 2 n ++ (c.in_ok-words.words.now ++ c.bytes.new.self)) count
          ∙ sym (append_assoc (spelled_number 2 (length c.in_ok-words.words.now)) c.in_ok-words.words.now c.bytes.new.self),
    )
