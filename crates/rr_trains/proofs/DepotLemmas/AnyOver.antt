-- Some corporation is over its limit exactly where there is one.
use Rattle.std.specs.Prelude.{◌≡◌, ◌<◌, Bool, true, slice_index_or, refl}
use Rattle.std.specs.List.{list_any}
use Rattle.std.proofs.Common.{◌∙◌, ap, arith}
use Rattle.std.proofs.lemmas.List.Folds.{Any-from_list_any, list_any_at}
use Rattle.rr_roster.specs.declared.company.Corp.{Corp}
use Rattle.rr_roster.specs.declared.company.Corp.TheVariants as C
use Rattle.rr_roster.specs.Company.{corp_index, corps}
use Rattle.rr_trains.specs.Phases.{is_over_train_limit}
use Rattle.rr_trains.specs.Depot.Over.{OverIsOfSomeCorporation, is_any_over_limit}

-- the corporations are all in the list
there : (c : Corp) → (corp_index c < 8) × (slice_index_or corps (corp_index c) C.Prr ≡ c)
there C.Prr = (omega arith, refl)
there C.Nyc = (omega arith, refl)
there C.Cpr = (omega arith, refl)
there C.Bo = (omega arith, refl)
there C.Co = (omega arith, refl)
there C.Erie = (omega arith, refl)
there C.Nynh = (omega arith, refl)
there C.Bm = (omega arith, refl)

any_of_all : (test : Corp → Bool) (c : Corp) → test c ≡ true → list_any test corps ≡ true
any_of_all test c e = list_any_at test corps (corp_index c) C.Prr ((there c).0) (ap test ((there c).1) ∙ e)

pub over_is_of_some_corporation : OverIsOfSomeCorporation
unfolding is_any_over_limit
over_is_of_some_corporation trains = (
  λ found. let at = Any-from_list_any (is_over_train_limit trains) corps found in (at.1, at.4),
  λ over. any_of_all (is_over_train_limit trains) over.0 over.1,
)
