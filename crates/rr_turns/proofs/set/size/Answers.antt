use Rattle.std.proofs.Common.{◌≡◌, ℕ, ◌+◌, ◌*◌, ap, arith, length}
use Rattle.rr_turns.specs.Counts.{counts_of, is_held, numbers_with}
use Rattle.rr_turns.proofs.CountLemmas.{length-none, none-above}
use Rattle.rr_turns.proofs.SetLemmas.{none-held_above}
use Rattle.rr_turns.proofs.set.size.Goals as goal

pub loop-index-init : goal.loop-index-init
loop-index-init c = record { counted = omega (arith, length-none (is_held c.args.words.now)); few = omega arith }

pub returns-clause-value : goal.returns-clause-value
returns-clause-value c =
    let words = c.args.words.now in
    let last = c.last_word-last.result in
    let all : length (counts_of words) ≡ length (numbers_with (is_held words) (64 * (last + 1))) =
    ap length (none-above (is_held words) (64 * (last + 1)) 4096 (omega (arith, c.last_word-last.ensures.within)) (none-held_above words last c.last_word-last.ensures.above)) in
    let end : c.loop-index.index ≡ last + 1 = omega arith in
    let counted = ap (λ (n : ℕ). length (numbers_with (is_held words) (64 * n))) end in
    omega (arith, all, c.loop-index.invariant.counted, counted)
