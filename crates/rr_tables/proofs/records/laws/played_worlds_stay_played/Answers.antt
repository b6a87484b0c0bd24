use Rattle.rr_tables.proofs.RecordLemmas.PlayedLemmas.{new_worlds_are_played, played_stay_played, replayed_are_played}
use Rattle.rr_tables.proofs.records.laws.played_worlds_stay_played.Goals as goal

pub returns : goal.returns
returns c = record { new = new_worlds_are_played; stay = played_stay_played; replayed = replayed_are_played }
