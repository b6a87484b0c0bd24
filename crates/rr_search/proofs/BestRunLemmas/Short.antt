-- On a net of not too many links, the numbers in a legal sheet and in an accepted certificate have at most ten digits.
use Rattle.std.proofs.Common.{◌≡◌, ℕ, suc, ◌+◌, ◌^◌, ◌<◌, ◌≤◌, ◌⊎◌, List, [], ◌∷◌, All, length, get_or, set, sym, subst, ◌∙◌, inl, inr, arith}
use Rattle.std.proofs.lemmas.Bool.{cases_lt}
use Rattle.std.proofs.lemmas.List.{get_or_past, length-replicate, length-set}
use Rattle.std.proofs.lemmas.List.Elements.{All-nil, All-cons, All-append, All-map, Contains-get_or}
use Rattle.std.proofs.lemmas.Option.{slice_get-get_or}
use Rattle.rr_routes.specs.declared.certificate.CertTree.{CertTree, Bound, Bad, Full, Split', Row_of-CertTree, end_of-CertTree, more_of-CertTree}
use Rattle.rr_routes.specs.declared.certificate.Fate.{Fate}
use Rattle.rr_routes.specs.declared.certificate.Fate.TheVariants.{Open, Denied}
use Rattle.rr_routes.specs.declared.net.CentreLimit.{CentreLimit}
use Rattle.rr_routes.specs.Net.{Net, limit_of}
use Rattle.rr_routes.specs.Routes.{Trip, no_trip, trip_of, Route}
use Rattle.rr_routes.specs.Certificates.{fate_of, AcceptsUnder, AcceptsEach, Accepts, all_open, choices}
use Rattle.rr_routes.proofs.Walks.{Walk-in_net}
use Rattle.rr_referee.specs.Sheets.{IsLegal}
use Rattle.rr_routes.specs.Sheets.Certificate.{words_of, words_of_row, HasShortNumber}
use Rattle.rr_routes.specs.Sheets.Sheet.{HasShortNumbers}
use Rattle.rr_routes.specs.declared.sheets.sheet.TrainWord.{TrainWord}
use Rattle.rr_routes.specs.declared.sheets.word.CertWord.TheVariants as W

module _ (net : Net) (few : length net.links ≤ 9999999999) where
  short : (link : ℕ) → link < length net.links → link + 1 < 10 ^ 10
  short link inside = omega (arith, inside, few)

  trip_short : (limit : CentreLimit) (trip : Trip) → (trip ≡ no_trip) ⊎ Route net limit trip → All (λ link. suc link < 10 ^ 10) trip.links
  trip_short limit trip (inl none) = subst (λ (t : Trip). All (λ link. suc link < 10 ^ 10) t.links) (sym none) (All-nil (λ link. suc link < 10 ^ 10))
  trip_short limit trip (inr route) = λ k d less.
      let link = get_or trip.links k d in
      let inside : link < length net.links = Walk-in_net net route.path.0 link (Contains-get_or trip.links k d less) in
      let is = short link inside in
      omega (arith, is)

  -- the numbers of a legal sheet
  pub sheet_short : (sheet : List TrainWord) (revenue : ℕ) → IsLegal net sheet revenue → All HasShortNumbers sheet
  sheet_short sheet revenue legal train d less =
      let word = get_or sheet train d in
      let is_word = legal.is_sheet.each train word (slice_get-get_or sheet train d less) in
      let trip = trip_of legal.run train in
      subst (λ (numbers : List ℕ). All (λ number. number < 10 ^ 10) numbers) (sym is_word.numbers)
      (All-map (λ number. number < 10 ^ 10) suc trip.links (trip_short (limit_of net train) trip (legal.is_run.lawful train)))

  module _ (claim : ℕ) (trains : length net.trains ≤ 120) where
    -- an open link is one of the net
    open_inside : (fates : List Fate) (link : ℕ) → length fates ≡ length net.links → fate_of fates link ≡ Open → link < length net.links
    open_inside fates link long opened =
        elim (cases_lt link (length net.links)) [
          | inl within ↦ within
          | inr past ↦ let denied : fate_of fates link ≡ Denied = get_or_past fates link Denied (omega (arith, long, past)) in cc
        ]

    mutual
      under_short : (fates : List Fate) (tree : CertTree) → length fates ≡ length net.links → AcceptsUnder net claim fates tree → All HasShortNumber (words_of tree)
      under_short fates Bound long accepted = All-cons HasShortNumber W.Bound [] tt (All-nil HasShortNumber)
      under_short fates (Bad train) long accepted =
          let inside = accepted.0 in
          All-cons HasShortNumber (W.Bad (train + 1)) [] (omega (arith, inside, trains)) (All-nil HasShortNumber)
      under_short fates Full long accepted = All-cons HasShortNumber W.Full [] tt (All-nil HasShortNumber)
      under_short fates (Split' link shape row) long accepted =
          All-cons HasShortNumber (W.Split (link + 1)) (words_of_row row) (short link (open_inside fates link long accepted.0))
          (each_short fates link (choices net) row long accepted.1)

      each_short : (fates : List Fate) (link : ℕ) (options : List Fate) {m : _} (row : Row_of-CertTree m) → length fates ≡ length net.links
          → AcceptsEach net claim fates link options row → All HasShortNumber (words_of_row row)
      each_short fates link [] end_of-CertTree long each = All-nil HasShortNumber
      each_short fates link [] (more_of-CertTree child children) long each = absurd each
      each_short fates link (choice ∷ options) end_of-CertTree long each = absurd each
      each_short fates link (choice ∷ options) (more_of-CertTree child children) long each =
          All-append HasShortNumber (words_of child) (words_of_row children)
          (under_short (set fates link choice) child (length-set fates link choice ∙ long) each.0)
          (each_short fates link options children long each.1)

    -- the numbers of an accepted certificate
    pub tree_short : (tree : CertTree) → Accepts net claim tree → All HasShortNumber (words_of tree)
    tree_short tree accepted = under_short (all_open net) tree (length-replicate (length net.links) Open) accepted.shown
