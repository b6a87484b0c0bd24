use Rattle.std.proofs.Common.{◌≡◌, ◌+◌, ◌*◌, ◌^◌, ◌<◌, ◌∙◌, length, ap, arith}
use Rattle.std.specs.Prelude.{slice_index}
use Rattle.rr_turns.specs.Counts.{is_held, numbers_with}
use Rattle.rr_turns.proofs.SetLemmas.{few-in_word, length-word}
use Rattle.rr_turns.proofs.set.count_in.Goals as goal

pub returns-clause-value : goal.returns-clause-value
returns-clause-value c =
    let fits : slice_index c.args.words.now c.args.index < 2 ^ 64 = omega arith in
    ap (λ k. length (numbers_with (is_held c.args.words.now) k)) (let e : 64 * (c.args.index + 1) ≡ 64 * c.args.index + 64 = omega arith in e)
    ∙ length-word c.args.words.now c.args.index fits

pub returns-clause-few : goal.returns-clause-few
returns-clause-few c =
    let fits : slice_index c.args.words.now c.args.index < 2 ^ 64 = omega arith in
    few-in_word c.args.words.now c.args.index fits
