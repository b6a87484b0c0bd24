-- The colours that are open in a phase.
use Rattle.std.specs.Prelude.{Bool, true, nat_le}
use Rattle.rr_roster.specs.declared.company.Kind.{Kind}
use Rattle.rr_roster.specs.declared.company.Kind.TheVariants as K
use Rattle.rr_roster.specs.Company.{kind_index}
use Rattle.rr_tiles.specs.declared.supply.Colour.{Colour}
use Rattle.rr_tiles.specs.declared.supply.Colour.TheVariants.{Yellow, Green, Brown}

-- yellow tiles may always be laid, green ones from the first 3 train on, brown ones from the first 5 on
abbrev pub is_open : Kind → Colour → Bool
is_open phase Yellow = true
is_open phase Green = nat_le (kind_index K.Three) (kind_index phase)
is_open phase Brown = nat_le (kind_index K.Five) (kind_index phase)
