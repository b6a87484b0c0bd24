use Rattle.std.specs.Prelude.{refl}
use Rattle.std.specs.Fmt.{digits}
use Rattle.rr_entries.proofs.laws.worked_entries.Goals as goal

pub returns : goal.returns
unfolding digits
returns c = record {
  to_bank = refl;
  to_seat = refl;
  to_corporation = refl;
  private = refl;
  president = refl;
  first_share = refl;
  last_share = refl;
  sold_private = refl;
  mark = refl;
  lay = refl;
  station = refl;
  train = refl;
  gone = refl;
  best = refl;
  no_sheet = refl;
}
