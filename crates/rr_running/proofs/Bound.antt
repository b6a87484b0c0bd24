-- What a run earns at most.
use Rattle.std.proofs.Common.{◌≡◌, ℕ, ◌<◌, ◌≤◌, ◌⊎◌, List, length, get_or, sym, subst, inl, inr, arith}
use Rattle.std.specs.List.{Contains, range_with_len, sum_by}
use Rattle.std.proofs.lemmas.Bool.{cases_lt}
use Rattle.std.proofs.lemmas.List.{get_or_default, get_or_past}
use Rattle.std.proofs.lemmas.List.FromFn.{length-range_with_len, get_or-range_with_len}
use Rattle.std.proofs.lemmas.List.Sums.{sum_by-le}
use Rattle.rr_kit.specs.declared.board.hex.TheConstants.{MOST_CENTRES}
use Rattle.rr_routes.specs.declared.net.Node.{Node}
use Rattle.rr_routes.specs.Net.{Net, value, limit_of}
use Rattle.rr_routes.specs.Routes.{NoneTwice, Trip, no_trip, trip_of, Route, centres, worth, earned}
use Rattle.rr_routes.proofs.Elements.{sum_within}
use Rattle.rr_routes.specs.declared.sheets.sheet.TrainWord.{TrainWord}
use Rattle.rr_referee.specs.Sheets.{IsLegal}
use Rattle.rr_routes.proofs.Walks.{NoneTwice-centres}

module _ (net : Net) (values : (centre : ℕ) → value net centre ≤ 990) (few : length net.values ≤ MOST_CENTRES) where
  -- the centres that have a value
  valued : List ℕ
  valued = range_with_len 0 (length net.values)

  inside : (centre : ℕ) → centre < length net.values → Contains valued centre
  unfolding valued
  inside centre less =
      let count = length-range_with_len 0 (length net.values) in
      let is = get_or-range_with_len 0 (length net.values) centre centre less in
      (centre, omega (arith, count, less), omega (arith, is))

  all_values : sum_by (value net) valued ≤ 64880640
  unfolding valued
  all_values =
      let most = sum_by-le (value net) 990 (range_with_len 0 (length net.values)) (λ k d less. values (get_or (range_with_len 0 (length net.values)) k d)) in
      let count = length-range_with_len 0 (length net.values) in
      omega (arith, most, count, few)

  route_worth : (nodes : List Node) → NoneTwice nodes → worth net (centres nodes) ≤ 64880640
  route_worth nodes none =
      let within : sum_by (value net) (centres nodes) ≤ sum_by (value net) valued = sum_within (value net) (centres nodes) valued (NoneTwice-centres nodes none) (λ centre c.
      elim (cases_lt centre (length net.values)) [
        | inl less ↦ inl (inside centre less)
        | inr past ↦ inr (get_or_past net.values centre 0 past)
      ]) in
      let most = all_values in
      omega (arith, within, most)

  trip_worth : (train : ℕ) (trip : Trip) → (trip ≡ no_trip) ⊎ Route net (limit_of net train) trip → worth net (centres trip.nodes) ≤ 64880640
  trip_worth train trip (inl none) = subst (λ (t : Trip). worth net (centres t.nodes) ≤ 64880640) (sym none) (omega arith)
  trip_worth train trip (inr route) = route_worth trip.nodes route.path.1

  -- so many trains, each over all centres at most
  pub earned_most : (run : List Trip) → length run ≤ 120 → ((train : ℕ) → train < length run → (trip_of run train ≡ no_trip) ⊎ Route net (limit_of net train) (trip_of run train))
      → earned net run ≤ 7785676800
  unfolding earned
  earned_most run trains lawful =
      let most = sum_by-le (λ (trip : Trip). worth net (centres trip.nodes)) 64880640 run (λ k d less.
      subst (λ (t : Trip). worth net (centres t.nodes) ≤ 64880640) (get_or_default run k no_trip d less) (trip_worth k (trip_of run k) (lawful k less))) in
      omega (arith, most, trains)

-- a legal sheet earns no more
pub legal_most : (net : Net) (sheet : List TrainWord) (revenue : ℕ) → ((centre : ℕ) → value net centre ≤ 990) → length net.values ≤ MOST_CENTRES → length net.trains ≤ 120 → IsLegal net sheet revenue → revenue ≤ 7785676800
legal_most net sheet revenue values few trains legal =
    let complete = legal.is_run.complete in
    let most = earned_most net values few legal.run (omega arith) (λ train less. legal.is_run.lawful train) in
    let same = legal.earns in
    omega arith
