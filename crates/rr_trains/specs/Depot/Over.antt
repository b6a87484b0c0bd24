-- Whether trains have to be given up before anything else goes on.
use Rattle.std.specs.Prelude.{◌≡◌, Bool, true, IsTrue, ◌↔◌}
use Rattle.std.specs.List.{list_any}
use Rattle.rr_roster.specs.declared.company.Corp.{Corp}
use Rattle.rr_roster.specs.Company.{corps}
use Rattle.rr_market.specs.Operations.Phases.{TrainHolders}
use Rattle.rr_trains.specs.Phases.{is_over_train_limit}

-- some corporation of the table has more trains than the phase allows
unfoldable pub is_any_over_limit : TrainHolders → Bool
is_any_over_limit trains = list_any (is_over_train_limit trains) corps

-- it is so exactly where there is such a corporation
abbrev pub OverIsOfSomeCorporation : Type 0
OverIsOfSomeCorporation = (trains : TrainHolders) → IsTrue (is_any_over_limit trains) ↔ ((c : Corp) × (is_over_train_limit trains c ≡ true))
