use Rattle.rr_roster.specs.Company.{kind_name, kinds}
use Rattle.rr_orders.proofs.ScanLemmas.NamedLemmas.{find-named}
use Rattle.rr_orders.proofs.SpelledLemmas.{kind_of-name}
use Rattle.rr_orders.proofs.trains.read_kind.Goals as goal

pub returns-clause-exact : goal.returns-clause-exact
returns-clause-exact c =
    find-named kind_name kinds kind_of-name _ _ c.from_name.ensures.found c.from_name.ensures.only
