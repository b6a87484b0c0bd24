use Rattle.std.proofs.Common.{◌≡◌, ◌++◌, take, drop}
use Rattle.std.specs.List.{AllByRecursion, flat_map}
use Rattle.rr_words.specs.Spelling.Number.{spelled_number}
use Rattle.rr_words.proofs.spelling.counted.read_counted.Given as goal

abbrev pub invariant-loop-index : goal.invariant-loop-index
invariant-loop-index g l = record {
  front : l.fn.cursor ≡ spelled_number 2 l.count ++ (flat_map g.T.Spell.form.spelling (take l.index l.slots) ++ l.cursor);
  fit : AllByRecursion g.T.Spell.form.Fits (take l.index l.slots);
  rest : drop l.index l.slots ≡ drop l.index l.fn.slots;
}
