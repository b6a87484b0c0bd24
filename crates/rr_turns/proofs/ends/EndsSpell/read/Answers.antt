use Rattle.std.proofs.Common.{◌++◌, List, ℕ, sym, ap, ◌∙◌}
use Rattle.rr_turns.specs.Bytes.{set_fits}
use Rattle.rr_turns.specs.Counts.{words_of}
use Rattle.rr_turns.specs.Sets.{are_ends, are_set}
use Rattle.rr_turns.proofs.BytesLemmas.{none-read, set-read, spelled}
use Rattle.rr_turns.proofs.ends.EndsSpell.read.Goals as goal

pub returns-in_err-words : goal.returns-in_err-words
returns-in_err-words c = rw c.from_residual.ensures (λ value rest ends. c.in_err-words.ensures (words_of value) rest (set_fits (words_of value) (are_set value ends)))

pub returns-then-holds : goal.returns-then-holds
returns-then-holds c =
    let words = c.in_ok-words.words in
    let is_set = set-read words c.in_ok-words.ensures.0 (sym c.holds.ensures ∙ c.if-holds.true) in
    (are_ends words is_set, c.in_ok-words.ensures.1 ∙ ap (λ (bytes : List ℕ). bytes ++ c.read.new.cursor) (sym (spelled words is_set)))

pub returns : goal.returns
returns c =
    none-read c.in_ok-words.words c.args.cursor.now c.read.new.cursor c.in_ok-words.ensures.0 (sym c.holds.ensures ∙ c.if-holds.false) c.in_ok-words.ensures.1
