use Rattle.std.proofs.Common.{◌≡◌, ◌≤◌, ℕ, List, ◌∷◌, sym, ◌∙◌, ap, subst, take, length, slice_index, arith}
use Rattle.std.proofs.lemmas.List.{take_all}
use Rattle.rr_turns.specs.Words.{AreOf, Buffer, words_ending}
use Rattle.rr_turns.proofs.WordsLemmas.{are_of, length-words_ending, truncated, words_ending-are}
use Rattle.rr_turns.proofs.words.KeptWords.truncate.Goals as goal

pub returns-then-len-count-clause-commands : goal.returns-then-len-count-clause-commands
returns-then-len-count-clause-commands c =
    let all : length c.args.self.now.commands ≤ c.args.count =
    omega (
      arith,
      c.if-len-count.true,
      c.len.ensures,
      c.self.inside.ends.ok.0,
      length-words_ending c.self.inside.bytes.items c.self.inside.ends.items 0,
      ap (λ (b : Buffer). length b.commands) c.self.view_is,
    )
    in
    sym (take_all c.args.count c.args.self.now.commands all)

-- the bytes and the ends are those of the commands that stay
held : (c : goal.After-truncate-2)
    → AreOf c.truncate.new.self.items c.truncate-2.new.self.items (take c.args.count (words_ending c.self.inside.bytes.items 0 c.self.inside.ends.items))
held c =
    let bytes = c.self.inside.bytes.items in
    let ends = c.self.inside.ends.items in
    let commands = words_ending bytes 0 ends in
    let within : c.args.count ≤ length commands =
    omega (arith, c.if-len-count.false, c.len.ensures, c.self.inside.ends.ok.0, length-words_ending bytes ends 0)
    in
    let at : c.length_of-length.result ≡ slice_index (0 ∷ ends) c.args.count =
    c.length_of-length.ensures ∙ ap (λ es. slice_index (0 ∷ es) c.args.count) c.as_slice.ensures.value
    in
    subst (λ (xs : List ℕ). AreOf xs c.truncate-2.new.self.items (take c.args.count commands)) (sym (c.truncate.ensures.items ∙ ap (λ (n : ℕ). take n bytes) at))
    (subst (λ (es : List ℕ). AreOf (take (slice_index (0 ∷ ends) c.args.count) bytes) es (take c.args.count commands)) (sym c.truncate-2.ensures.items)
    (truncated bytes ends commands c.args.count c.self.invariant within))

pub invariant_of-self : goal.invariant_of-self
invariant_of-self c =
    are_of c.truncate.new.self.items c.truncate-2.new.self.items (take c.args.count (words_ending c.self.inside.bytes.items 0 c.self.inside.ends.items)) (held c)

pub returns-clause-commands : goal.returns-clause-commands
returns-clause-commands c =
    words_ending-are c.truncate.new.self.items c.truncate-2.new.self.items (take c.args.count (words_ending c.self.inside.bytes.items 0 c.self.inside.ends.items)) (held c)
    ∙ ap (λ (b : Buffer). take c.args.count b.commands) c.self.view_is
