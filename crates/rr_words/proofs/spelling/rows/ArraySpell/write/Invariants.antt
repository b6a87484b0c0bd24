use Rattle.std.proofs.Common.{◌≡◌, ◌++◌, take}
use Rattle.std.specs.List.{AllByRecursion, flat_map}
use Rattle.rr_words.proofs.spelling.rows.ArraySpell.write.Given as goal

abbrev pub invariant-loop-value : goal.invariant-loop-value
invariant-loop-value g l = record {
  written : l.out.items ≡ l.fn.out.items ++ flat_map g.T.Spell.form.spelling (take l.value-index l.self);
  fit : AllByRecursion g.T.Spell.form.Fits (take l.value-index l.self);
}
