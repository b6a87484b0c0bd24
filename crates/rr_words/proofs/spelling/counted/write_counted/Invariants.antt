use Rattle.std.proofs.Common.{◌≡◌, ◌++◌, length, take}
use Rattle.std.specs.List.{AllByRecursion, flat_map}
use Rattle.rr_words.specs.Spelling.Number.{spelled_number}
use Rattle.rr_words.proofs.spelling.counted.write_counted.Given as goal

abbrev pub invariant-loop-value : goal.invariant-loop-value
invariant-loop-value g l = record {
  written : l.out.items ≡ l.fn.out.items ++ (spelled_number 2 (length l.values) ++ flat_map g.T.Spell.form.spelling (take l.value-index l.values));
  fit : AllByRecursion g.T.Spell.form.Fits (take l.value-index l.values);
}
