use Rattle.std.proofs.Common.{◌≡◌, ◌++◌, List, ℕ, sym, ap, ◌∙◌, subst}
use Rattle.std.specs.Prelude.{OnOk}
use Rattle.rr_turns.specs.Bytes.{words_form}
use Rattle.rr_turns.specs.Counts.{AreEnds, words_of}
use Rattle.rr_turns.specs.Sets.{are_ends, words_of-counts_of}
use Rattle.rr_turns.proofs.BytesLemmas.{whenever}
use Rattle.rr_turns.proofs.ends.EndsSpell.write.Goals as goal

pub returns-clause-bytes : goal.returns-clause-bytes
returns-clause-bytes c =
    let words = c.self.inside.words in
    let same : words ≡ words_of c.args.self.now = sym (words_of-counts_of words c.self.invariant) ∙ ap words_of c.self.view_is in
    subst (λ (ws : List ℕ). OnOk c.write.result (c.write.new.out.items ≡ c.args.out.now.items ++ words_form.spelling ws)) same c.write.ensures.bytes

pub returns-clause-fits : goal.returns-clause-fits
returns-clause-fits c = whenever c.write.result (AreEnds c.args.self.now) (subst AreEnds c.self.view_is (are_ends c.self.inside.words c.self.invariant))
