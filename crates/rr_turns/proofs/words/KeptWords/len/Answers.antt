use Rattle.std.proofs.Common.{sym, ◌∙◌, ap, length, arith}
use Rattle.rr_turns.specs.Words.{Buffer}
use Rattle.rr_turns.proofs.WordsLemmas.{length-words_ending}
use Rattle.rr_turns.proofs.words.KeptWords.len.Goals as goal

pub returns-clause-value : goal.returns-clause-value
returns-clause-value c =
    c.len.ensures ∙ c.self.inside.ends.ok.0 ∙ sym (length-words_ending c.self.inside.bytes.items c.self.inside.ends.items 0)
    ∙ ap (λ (b : Buffer). length b.commands) c.self.view_is

pub returns-clause-few : goal.returns-clause-few
returns-clause-few c =
    omega (arith, c.len.ensures, c.self.inside.ends.ok.0, length-words_ending c.self.inside.bytes.items c.self.inside.ends.items 0, c.self.invariant.few)
