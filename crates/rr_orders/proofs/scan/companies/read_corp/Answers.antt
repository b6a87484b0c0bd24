use Rattle.rr_roster.specs.Company.{corp_name, corps}
use Rattle.rr_orders.proofs.ScanLemmas.NamedLemmas.{find-named}
use Rattle.rr_orders.proofs.ScanLemmas.SpelledLemmas.{corp_of-name}
use Rattle.rr_orders.proofs.scan.companies.read_corp.Goals as goal

pub returns-clause-exact : goal.returns-clause-exact
returns-clause-exact c =
    find-named corp_name corps corp_of-name _ _ c.from_name.ensures.found c.from_name.ensures.only
