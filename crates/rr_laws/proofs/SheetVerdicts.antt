-- There is a verdict on the words of each run, over whatever net.
use Rattle.std.specs.Prelude.{◌≡◌, ◌≢◌, ℕ, suc, zero, ◌+◌, ◌<◌, Option, None, Some, List, [], ◌∷◌, ◌++◌, length, slice_get, refl, ⊤}
use Rattle.std.proofs.Common.{inl, inr, subst, arith}
use Rattle.std.proofs.lemmas.Bool.{cases_lt}
use Rattle.rr_routes.specs.declared.net.CentreLimit.{CentreLimit}
use Rattle.rr_routes.specs.declared.net.Node.{Node}
use Rattle.rr_routes.specs.Net.{IsWithin, Net, limit_of}
use Rattle.rr_routes.specs.Routes.{NoTerminalInside, NoneTwice, Route, Trip, centres, earned, no_trip}
use Rattle.rr_routes.specs.declared.sheets.sheet.TrainWord.{TrainWord}
use Rattle.rr_routes.specs.Sheets.Sheet.{SpellsSheet}
use Rattle.rr_books.specs.declared.clause.Clause.{Clause}
use Rattle.rr_books.specs.declared.clause.Clause.TheVariants.{SharedHexside, WrongWord}
use Rattle.rr_referee.specs.Sheets.{AreLawful, Asks, Breaks, BreaksWord, Course, IsFirstBroken, IsItsWord, IsLegal, SomeToken, another, at_train, links_of, missing, route_clauses}
use Rattle.rr_referee.specs.Tests.{IsLawfulWord, IsRouteUp}
use Rattle.rr_referee.proofs.CourseLemmas.{breaks, one_course, runs, stays}
use Rattle.rr_referee.proofs.SheetLemmas.{is_legal, lawful_first, lawful_next, side_shared, words_left}
use Rattle.rr_books.specs.declared.refusal.Refusal.{Refusal}
use Rattle.rr_books.specs.declared.refusal.Refusal.TheVariants as F
use Rattle.rr_running.specs.Running.{IsBestVerdictOn, IsVerdictOn, Shows, ShowsNot, is_best, is_broken, is_refused, is_run, is_unread, is_unshown}

-- clauses that all hold
abbrev AllHold : (Clause → Type 0) → List Clause → Type 0
AllHold Holds [] = ⊤
AllHold Holds (clause ∷ clauses) = Holds clause × AllHold Holds clauses

-- they do, or one is the first broken
first_or_all : (Holds : Clause → Type 0) (clauses : List Clause) → ((clause : Clause) → ¬ IsFirstBroken Holds clauses clause) → ¬ ¬ AllHold Holds clauses
first_or_all Holds [] never none = none tt
first_or_all Holds (clause ∷ clauses) never none =
    never clause (inl (refl, λ holds. first_or_all Holds clauses (λ other broken. never other (inr (holds, broken))) (λ all. none (holds, all))))

-- links that break no clause of a route are one
module _ (net : Net) (limit : CentreLimit) (links : List ℕ) where
  -- a walk over them goes along the nodes of another
  alike : (P Q : List Node → Type 0) (course : Course net P links) → Course net Q links → Q course.nodes
  alike P Q course other = subst Q (one_course net links other.nodes course.nodes other.walk other.ends course.walk course.ends) other.holds

  route_of : AllHold (Asks net limit links) route_clauses → (nodes : List Node) × IsRouteUp net limit (record { links = links; nodes = nodes })
  route_of all =
      let course = all.0.1 in
      let rest = all.1.1 in
      let route : Route net limit (record { links = links; nodes = course.nodes }) = record {
        path = (course.walk, alike (λ nodes. ⊤) NoneTwice course all.1.0);
        ends = course.ends;
        no_terminal = alike (λ nodes. ⊤) (NoTerminalInside net) course rest.0;
        token = alike (λ nodes. ⊤) (SomeToken net) course rest.1.0;
        counted = alike (λ nodes. ⊤) (λ nodes. IsWithin limit (length (centres nodes))) course rest.1.1.0;
      } in
      (course.nodes, (all.0.0, route))

-- a word breaks a clause, or is that of a trip
module _ (net : Net) (limit : CentreLimit) (word : TrainWord) where
  lawful_links : (its : IsItsWord net limit word) (links : List ℕ) → links ≡ links_of word → ((clause : Clause) → ¬ BreaksWord net limit (Some word) clause)
      → ((trip : Trip) → ¬ IsLawfulWord net limit word trip) → ⊥
  lawful_links its [] same never none = none no_trip (stays net limit word its no_trip same refl refl)
  lawful_links its (link ∷ links) same never none =
      let all : List ℕ = link ∷ links in
      first_or_all (Asks net limit all) route_clauses (λ clause broken. never clause (breaks net limit word its all clause same some broken))
      (λ holds.
      let route = route_of net limit all holds in
      let trip : Trip = record { links = all; nodes = route.0 } in
      none trip (runs net limit word its trip same route.1))
    where
      some : link ∷ links ≢ []
      some empty = cc

  lawful_or_broken : ((clause : Clause) → ¬ BreaksWord net limit (Some word) clause) → ((trip : Trip) → ¬ IsLawfulWord net limit word trip) → ⊥
  lawful_or_broken never none = never WrongWord (another word refl (λ its. lawful_links its (links_of word) refl never none) refl)

-- a sheet breaks a clause, or is that of a lawful run
module _ (net : Net) (sheet : List TrainWord) (never : (clause : Clause) → ¬ Breaks net sheet clause) (none : (revenue : ℕ) → ¬ IsLegal net sheet revenue) where
  all_lawful : (run : List Trip) → ¬ AreLawful net sheet (length net.trains) run
  all_lawful run all = elim (cases_lt (length net.trains) (length sheet)) [
    | inl more ↦ never WrongWord (words_left net sheet run all more)
    | inr most ↦ never SharedHexside (side_shared net sheet run all most (λ apart. none (earned net run) (is_legal net sheet run all (earned net run) most apart refl)))
  ]

  -- so many trains are left
  lawful_so_far : (left train : ℕ) (run : List Trip) → train + left ≡ length net.trains → ¬ AreLawful net sheet train run
  lawful_so_far zero train run count so_far =
      let last : train ≡ length net.trains = omega (arith, count) in
      all_lawful run (subst (λ (k : ℕ). AreLawful net sheet k run) last so_far)
  lawful_so_far (suc left) train run count so_far =
      let less : train < length net.trains = omega (arith, count) in
      let on : train + 1 + left ≡ length net.trains = omega (arith, count) in
      let limit = limit_of net train in
      let breaks : (clause : Clause) → ¬ BreaksWord net limit (slice_get sheet train) clause = λ clause broken. never clause (at_train train run less so_far broken) in
      let goes_on : (word : TrainWord) (trip : Trip) → slice_get sheet train ≡ Some word → ¬ IsLawfulWord net limit word trip =
      λ word trip here lawful. lawful_so_far left (train + 1) (run ++ trip ∷ []) on (lawful_next net sheet train run trip so_far (word, here, lawful)) in
      by_word (slice_get sheet train) refl limit breaks goes_on
    where
      by_word : (found : Option TrainWord) → slice_get sheet train ≡ found → (limit : CentreLimit) → ((clause : Clause) → ¬ BreaksWord net limit (slice_get sheet train) clause)
          → ((word : TrainWord) (trip : Trip) → slice_get sheet train ≡ Some word → ¬ IsLawfulWord net limit word trip) → ⊥
      by_word None here limit breaks goes_on = breaks WrongWord (missing here refl)
      by_word (Some word) here limit breaks goes_on =
          lawful_or_broken net limit word (subst (λ (found : Option TrainWord). (clause : Clause) → ¬ BreaksWord net limit found clause) here breaks)
          (λ trip lawful. goes_on word trip here lawful)

  pub sheet_judged : ⊥
  sheet_judged = lawful_so_far (length net.trains) 0 [] (omega arith) (lawful_first net sheet)

-- there is a verdict on words
module _ (net : Net) (words : List ℕ) where
  pub words_judged : ((verdict : Option Refusal) → ¬ IsVerdictOn net words verdict) → ⊥
  words_judged none =
      let unspelled : (sheet : List TrainWord) → ¬ SpellsSheet words sheet = λ sheet spelled.
      sheet_judged net sheet (λ clause broken. none (Some (F.IllegalSheet clause)) (is_broken sheet clause spelled broken refl))
      (λ revenue legal. none None (is_run sheet revenue spelled legal refl)) in
      none (Some (F.IllegalSheet WrongWord)) (is_unread (λ spelled. unspelled spelled.0 spelled.1) refl)

  -- and on words with a certificate
  module _ (text : List ℕ) (none : (verdict : Option Refusal) → ¬ IsBestVerdictOn net words text verdict) where
    lawful_judged : (sheet : List TrainWord) (revenue : ℕ) → SpellsSheet words sheet → ¬ IsLegal net sheet revenue
    lawful_judged sheet revenue spelled legal =
        let unshown : ShowsNot net text revenue → ⊥ = λ shows_not. none (Some F.CertificateRefused) (is_unshown sheet revenue spelled legal shows_not refl) in
        let shown : ¬ Shows net text revenue = λ shows. none None (is_best sheet revenue spelled legal shows refl) in
        unshown (inl (λ tree spells. unshown (inr (tree, spells, λ accepted. shown (tree, spells, accepted)))))

    by_words : (verdict : Option Refusal) → ¬ IsVerdictOn net words verdict
    by_words verdict (is_run sheet revenue spelled legal same) = lawful_judged sheet revenue spelled legal
    by_words verdict (is_broken sheet clause spelled broken same) =
        none (Some (F.IllegalSheet clause)) (is_refused (F.IllegalSheet clause) (is_broken sheet clause spelled broken refl) refl)
    by_words verdict (is_unread unspelled same) = none (Some (F.IllegalSheet WrongWord)) (is_refused (F.IllegalSheet WrongWord) (is_unread unspelled refl) refl)

    pub best_judged : ⊥
    best_judged = words_judged by_words
