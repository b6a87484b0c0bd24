use Rattle.std.proofs.Common.{◌≡◌, ◌++◌, length, take}
use Rattle.std.specs.List.{AllByRecursion, flat_map}
use Rattle.rr_words.proofs.spelling.rows.ArraySpell.read.Given as goal

abbrev pub invariant-loop-slot : goal.invariant-loop-slot
invariant-loop-slot g l = record {
  whole : length l.slot-items ≡ g.row.N;
  front : l.fn.cursor ≡ flat_map g.T.Spell.form.spelling (take l.slot-index l.slot-items) ++ l.cursor;
  fit : AllByRecursion g.T.Spell.form.Fits (take l.slot-index l.slot-items);
}
