use Rattle.rr_tables.proofs.RecordLemmas.PlayedLemmas.{kept_have_played_bases, read_have_played_bases, replayed_were_played, standing_have_played_bases, tables_of_played_are_played}
use Rattle.rr_tables.proofs.records.laws.played_worlds_have_played_bases.Goals as goal

pub returns : goal.returns
returns c =
    record {
      replayed = replayed_were_played;
      read = read_have_played_bases;
      kept = kept_have_played_bases;
      standing = standing_have_played_bases;
      tables = tables_of_played_are_played;
    }
