-- A run earns what the words of its sheet do.
use Rattle.std.proofs.Common.{◌≡◌, ℕ, suc, ◌⊎◌, Some, List, [], ◌∷◌, length, get_or, refl, sym, ◌∙◌, ap, subst, inl, inr, arith}
use Rattle.std.specs.List.{slice_get, sum_by}
use Rattle.std.proofs.lemmas.List.Sums.{sum_by-cons}
use Rattle.rr_routes.specs.declared.net.CentreLimit.{CentreLimit}
use Rattle.rr_routes.specs.declared.net.Node.{Node}
use Rattle.rr_routes.specs.Net.{Net, limit_of}
use Rattle.rr_routes.specs.Routes.{centres, earned, no_trip, Route, Trip, trip_of, worth}
use Rattle.rr_routes.specs.declared.sheets.sheet.TrainWord.{TrainWord}
use Rattle.rr_referee.specs.Revenue.{course_of, earned_on, revenue_of}
use Rattle.rr_referee.specs.Sheets.{IsLegal, IsWordOf}
use Rattle.rr_referee.proofs.CourseLemmas.{course_is}
use Rattle.rr_referee.proofs.LawLemmas.{places_named}

-- sums over two lists that agree item by item
same_sum : {X Y : Type 0} (f : X → ℕ) (g : Y → ℕ) (xs : List X) (ys : List Y) (d : X) → length ys ≡ length xs
    → ((k : ℕ) (y : Y) → slice_get ys k ≡ Some y → f (get_or xs k d) ≡ g y) → sum_by f xs ≡ sum_by g ys
same_sum f g [] [] d count each = refl
same_sum f g [] (y ∷ ys) d count each = absurd (omega (arith, count))
same_sum f g (x ∷ xs) [] d count each = absurd (omega (arith, count))
same_sum f g (x ∷ xs) (y ∷ ys) d count each =
    let here : f x ≡ g y = each 0 y refl in
    let rest : sum_by f xs ≡ sum_by g ys = same_sum f g xs ys d (omega (arith, count)) (λ k z at. each (suc k) z at) in
    sum_by-cons f x xs ∙ omega (arith, here, rest) ∙ sym (sum_by-cons g y ys)

-- a lawful trip goes along the links of its word
trip_course : (net : Net) (limit : CentreLimit) (trip : Trip) → (trip ≡ no_trip) ⊎ Route net limit trip → trip.nodes ≡ course_of net trip.links
trip_course net limit trip (inl none) = subst (λ (t : Trip). t.nodes ≡ course_of net t.links) (sym none) refl
trip_course net limit trip (inr route) = course_is net trip.links trip.nodes route.path.0 route.ends

word_earns : (net : Net) (limit : CentreLimit) (word : TrainWord) (trip : Trip) → IsWordOf limit word trip → (trip ≡ no_trip) ⊎ Route net limit trip
    → worth net (centres trip.nodes) ≡ earned_on net word
word_earns net limit word trip is lawful =
    ap (λ (nodes : List Node). worth net (centres nodes)) (trip_course net limit trip lawful)
    ∙ ap (λ (links : List ℕ). worth net (centres (course_of net links))) (sym (places_named limit word trip is))

-- a legal sheet earns what its words do
pub legal_earns : (net : Net) (sheet : List TrainWord) (revenue : ℕ) → IsLegal net sheet revenue → revenue ≡ revenue_of net sheet
unfolding earned revenue_of
legal_earns net sheet revenue legal =
    sym legal.earns
    ∙ same_sum (λ (trip : Trip). worth net (centres trip.nodes)) (earned_on net) legal.run sheet no_trip legal.is_sheet.complete
    (λ train word at. word_earns net (limit_of net train) word (trip_of legal.run train) (legal.is_sheet.each train word at) (legal.is_run.lawful train))
