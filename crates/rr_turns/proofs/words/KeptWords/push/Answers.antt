use Rattle.std.proofs.Common.{◌≡◌, ◌<◌, ◌++◌, ◌∷◌, [], ◌∙◌, ap, refl, length, length-append, arith}
use Rattle.std.proofs.lemmas.Slice.{pushed as pushed_behind}
use Rattle.rr_words.specs.Spelling.Number.{spelled_number}
use Rattle.rr_turns.specs.declared.limits.TheConstants.{MOST_COMMANDS}
use Rattle.rr_turns.specs.Words.{AreOf, Buffer, words_ending}
use Rattle.rr_turns.proofs.WordsLemmas.{are_of, pushed_so, spelled_commands-bounded, words_ending-are}
use Rattle.rr_turns.proofs.words.KeptWords.push.Goals as goal

-- the bytes with the command's words
bytes_are : (c : goal.After-len-end) → c.extend_from_slice-2.new.self.items ≡ (c.self.inside.bytes.items ++ c.to_be_bytes-count.result) ++ c.args.words.now
bytes_are c =
    pushed_behind c.args.words.now (pushed_behind c.to_be_bytes-count.result refl c.unwrap.ensures c.extend_from_slice.ensures.items)
    c.unwrap-2.ensures c.extend_from_slice-2.ensures.items

pub overflow_cast-end : goal.overflow_cast-end
overflow_cast-end c =
    let bytes = c.self.inside.bytes.items in
    let count = c.to_be_bytes-count.result in
    let commands = words_ending bytes 0 c.self.inside.ends.items in
    let two : length count ≡ 2 = ap length c.to_be_bytes-count.ensures in
    omega (
      arith,
      c.len-end.ensures,
      c.extend_from_slice-2.new.self.ok.0,
      ap length (bytes_are c),
      length-append (bytes ++ count) c.args.words.now,
      length-append bytes count,
      two,
      c.requires.short,
      c.requires.few,
      ap (λ (b : Buffer). length b.commands) c.self.view_is,
      ap length c.self.invariant.spelled,
      spelled_commands-bounded commands c.self.invariant.short,
    )

-- the bytes and the ends are those of the commands and the one that was added
held : (c : goal.After-unwrap-3)
    → AreOf c.extend_from_slice-2.new.self.items c.push.new.self.items (words_ending c.self.inside.bytes.items 0 c.self.inside.ends.items ++ c.args.words.now ∷ [])
unfolding spelled_number
held c =
    let bytes = c.self.inside.bytes.items in
    let ends = c.self.inside.ends.items in
    let commands = words_ending bytes 0 ends in
    let few : length commands < MOST_COMMANDS = omega (arith, c.requires.few, ap (λ (b : Buffer). length b.commands) c.self.view_is) in
    pushed_so bytes ends commands c.args.words.now c.to_be_bytes-count.result c.extend_from_slice-2.new.self.items c.push.new.self.items c.len-end.result
    c.self.invariant few c.requires.short c.to_be_bytes-count.ensures
    (pushed_behind c.args.words.now (pushed_behind c.to_be_bytes-count.result refl c.unwrap.ensures c.extend_from_slice.ensures.items) c.unwrap-2.ensures c.extend_from_slice-2.ensures.items) (c.len-end.ensures ∙ c.extend_from_slice-2.new.self.ok.0)
    (pushed_behind (c.len-end.result ∷ []) refl c.unwrap-3.ensures c.push.ensures.items)

pub invariant_of-self : goal.invariant_of-self
invariant_of-self c = are_of c.extend_from_slice-2.new.self.items c.push.new.self.items (words_ending c.self.inside.bytes.items 0 c.self.inside.ends.items ++ c.args.words.now ∷ []) (held c)

pub returns : goal.returns
returns c =
    words_ending-are c.extend_from_slice-2.new.self.items c.push.new.self.items (words_ending c.self.inside.bytes.items 0 c.self.inside.ends.items ++ c.args.words.now ∷ []) (held c)
    ∙ ap (λ (b : Buffer). b.commands ++ c.args.words.now ∷ []) c.self.view_is
