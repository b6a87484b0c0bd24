use Rattle.std.proofs.Common.{◌≡◌, ℕ, ◌<◌, ◌≤◌, ◌+◌, Some, sym, ◌∙◌, ap, length, slice_index, slice_range, arith}
use Rattle.std.specs.Prelude.{slice_get, ◌∷◌}
use Rattle.std.proofs.lemmas.Option.{slice_get_past}
use Rattle.rr_turns.specs.Words.{Buffer, words_ending}
use Rattle.rr_turns.proofs.WordsLemmas.{IsPart, is_part, length-words_ending, words_ending-at}
use Rattle.rr_turns.proofs.words.KeptWords.get.Goals as goal

pub returns-then-ends-index-clause-value : goal.returns-then-ends-index-clause-value
returns-then-ends-index-clause-value c =
    let commands = words_ending c.self.inside.bytes.items 0 c.self.inside.ends.items in
    let past : length commands ≤ c.args.index =
    omega (arith, c.if-ends-index.true, ap length c.as_slice-ends.ensures.value, length-words_ending c.self.inside.bytes.items c.self.inside.ends.items 0)
    in
    sym (slice_get_past commands c.args.index past) ∙ ap (λ (b : Buffer). slice_get b.commands c.args.index) c.self.view_is

pub part-requires : goal.part-requires
part-requires c =
    let bytes = c.self.inside.bytes.items in
    let ends = c.self.inside.ends.items in
    let within : c.args.index < length ends = omega (arith, c.if-ends-index.false, ap length c.as_slice-ends.ensures.value) in
    let part : IsPart bytes ends c.args.index = is_part bytes ends (words_ending bytes 0 ends) c.args.index c.self.invariant within in
    let start : c.length_of-start.result ≡ slice_index (0 ∷ ends) c.args.index =
    c.length_of-start.ensures ∙ ap (λ es. slice_index (0 ∷ es) c.args.index) c.as_slice-ends.ensures.value
    in
    let end : slice_index c.as_slice-ends.result.now c.args.index ≡ slice_index ends c.args.index =
    ap (λ es. slice_index es c.args.index) c.as_slice-ends.ensures.value
    in
    record {
      order = omega (arith, start, end, part.start);
      within = omega (arith, end, part.end, ap length c.as_slice.ensures.value);
    }

pub returns-clause-value : goal.returns-clause-value
returns-clause-value c =
    let bytes = c.self.inside.bytes.items in
    let ends = c.self.inside.ends.items in
    let within : c.args.index < length ends = omega (arith, c.if-ends-index.false, ap length c.as_slice-ends.ensures.value) in
    let there = words_ending-at bytes ends 0 c.args.index within in
    let start : c.length_of-start.result ≡ slice_index (0 ∷ ends) c.args.index =
    c.length_of-start.ensures ∙ ap (λ es. slice_index (0 ∷ es) c.args.index) c.as_slice-ends.ensures.value
    in
    let part : c.part.result.now ≡ slice_range bytes (slice_index (0 ∷ ends) c.args.index + 2) (slice_index ends c.args.index) =
    c.part.ensures
    ∙ ap (λ xs. slice_range xs (c.length_of-start.result + 2) (slice_index c.as_slice-ends.result.now c.args.index)) c.as_slice.ensures.value
    ∙ ap (λ (n : ℕ). slice_range bytes (n + 2) (slice_index c.as_slice-ends.result.now c.args.index)) start
    ∙ ap (λ es. slice_range bytes (slice_index (0 ∷ ends) c.args.index + 2) (slice_index es c.args.index)) c.as_slice-ends.ensures.value
    in
    ap (λ words. Some words) part ∙ sym there ∙ ap (λ (b : Buffer). slice_get b.commands c.args.index) c.self.view_is

pub returns-clause-few : goal.returns-clause-few
returns-clause-few c =
    omega (arith, c.if-ends-index.false, ap length c.as_slice-ends.ensures.value, length-words_ending c.self.inside.bytes.items c.self.inside.ends.items 0, c.self.invariant.few)
