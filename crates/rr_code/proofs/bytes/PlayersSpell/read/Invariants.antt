use Rattle.std.proofs.Common.{◌≡◌, true, ◌∷◌, ◌++◌, take}
use Rattle.std.specs.List.{flat_map, list_all}
use Rattle.rr_words.specs.Name.{is_player_name}
use Rattle.rr_code.specs.Bytes.{spelled_name}
use Rattle.rr_code.specs.Players.{IsFilled}
use Rattle.rr_code.proofs.bytes.PlayersSpell.read.Given as goal

abbrev pub invariant-loop-index : goal.invariant-loop-index
invariant-loop-index l = record {
  room : IsFilled l.index l.names;
  players : list_all is_player_name (take l.index l.names) ≡ true;
  front : l.fn.cursor ≡ l.count ∷ (flat_map spelled_name (take l.index l.names) ++ l.cursor);
}
