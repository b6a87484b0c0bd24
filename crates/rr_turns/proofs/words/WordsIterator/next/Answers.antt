use Rattle.std.proofs.Common.{◌≡◌, ◌+◌, [], ◌∷◌, drop, length, sym, ap, ◌∙◌, arith}
use Rattle.rr_turns.proofs.WordsLemmas.{drop_none, drop_some}
use Rattle.rr_turns.proofs.words.WordsIterator.next.Goals as goal

pub returns-in_err-words-clause-steps : goal.returns-in_err-words-clause-steps
returns-in_err-words-clause-steps c =
    let none : c.args.self.now ≡ [] = sym c.self.view_is ∙ drop_none c.self.inside.kept.now.commands c.self.inside.place c.in_err-words.ensures.value in
    rw c.from_residual.ensures (none, none)

pub overflow_add-self : goal.overflow_add-self
overflow_add-self c = omega (arith, c.in_ok-words.ensures.few)

pub returns-clause-steps : goal.returns-clause-steps
returns-clause-steps c = sym c.self.view_is ∙ drop_some c.self.inside.kept.now.commands c.self.inside.place c.in_ok-words.words.now c.in_ok-words.ensures.value

pub returns-clause-goes : goal.returns-clause-goes
returns-clause-goes c =
    let steps : c.args.self.now ≡ c.in_ok-words.words.now ∷ drop (c.self.inside.place + 1) c.self.inside.kept.now.commands =
    sym c.self.view_is ∙ drop_some c.self.inside.kept.now.commands c.self.inside.place c.in_ok-words.words.now c.in_ok-words.ensures.value
    in
    record { on = λ _. (tt, tt, omega (arith, ap length steps)); keeps = tt; rests = λ _. tt }
