use Rattle.rr_roster.specs.Company.{private_name, privates}
use Rattle.rr_orders.proofs.ScanLemmas.NamedLemmas.{find-named}
use Rattle.rr_orders.proofs.ScanLemmas.SpelledLemmas.{private_of-name}
use Rattle.rr_orders.proofs.scan.companies.read_private.Goals as goal

pub returns-clause-exact : goal.returns-clause-exact
returns-clause-exact c =
    find-named private_name privates private_of-name _ _ c.from_name.ensures.found c.from_name.ensures.only
