-- Sheets, word by word.
use Rattle.std.proofs.Common.{◌≡◌, ℕ, ◌+◌, ◌-◌, ◌<◌, ◌≤◌, ◌⊎◌, List, [], ◌∷◌, ◌++◌, length, get_or, refl, sym, ◌∙◌, ap, subst, inl, inr, arith}
use Rattle.std.specs.List.{slice_get}
use Rattle.std.proofs.lemmas.Bool.{cases_eq, cases_lt}
use Rattle.std.proofs.lemmas.List.{get_or_append_left, get_or-append_right, get_or_past, length_push}
use Rattle.std.proofs.lemmas.Option.{slice_get_within}
use Rattle.rr_routes.specs.Net.{Net, limit_of}
use Rattle.rr_routes.specs.Routes.{Trip, no_trip, trip_of, Route, Run, earned}
use Rattle.rr_routes.specs.declared.sheets.sheet.TrainWord.{TrainWord}
use Rattle.rr_books.specs.declared.clause.Clause.TheVariants.{WrongWord, SharedHexside}
use Rattle.rr_books.specs.declared.refusal.Refusal.{Refusal}
use Rattle.rr_referee.specs.Sheets.{AreApart, AreLawful, Breaks, at_train, left_over, shared, BreaksWord, IsLegal, IsWordOf, WordAt, IsRefusal}
use Rattle.rr_referee.specs.Tests.{BreaksAWord, IsLawfulAt}
use Rattle.rr_referee.proofs.CourseLemmas.{IsRefusal-like}

-- one word stands at a place
word_same : (sheet : List TrainWord) (train : ℕ) (word other : TrainWord) → WordAt sheet train word → WordAt sheet train other → word ≡ other
word_same sheet train word other at also = cc

module _ (net : Net) (sheet : List TrainWord) where
  pub lawful_first : AreLawful net sheet 0 []
  lawful_first = record {
    complete = refl;
    enough = omega arith;
    words = λ train word less at. absurd (omega arith);
    lawful = λ train less. absurd (omega arith);
  }

  module _ (train : ℕ) (run : List Trip) (trip : Trip) (so_far : AreLawful net sheet train run) where
    old_trip : (k : ℕ) → k < train → trip_of run k ≡ trip_of (run ++ trip ∷ []) k
    old_trip k less = let count = so_far.complete in sym (get_or_append_left run (trip ∷ []) no_trip k (omega (arith, count)))

    new_trip : trip ≡ trip_of (run ++ trip ∷ []) train
    new_trip =
        let count = so_far.complete in
        let none : train - train ≡ 0 = omega arith in
        sym (get_or-append_right run (trip ∷ []) train train no_trip count (omega arith) ∙ ap (λ k. get_or (trip ∷ []) k no_trip) none)

    -- the trips up to this one
    pub lawful_next : IsLawfulAt net (limit_of net train) sheet train trip → AreLawful net sheet (train + 1) (run ++ trip ∷ [])
    lawful_next here =
        let count = so_far.complete in
        let within = slice_get_within sheet train here.0 here.1 in
        record {
          complete = length_push run trip ∙ ap (λ (n : ℕ). n + 1) count;
          enough = omega (arith, within);
          words = λ k word less at. elim (cases_eq k train) [
            | inl same ↦
                let found : WordAt sheet train word = subst (λ j. WordAt sheet j word) same at in
                let is : here.0 ≡ word = word_same sheet train here.0 word here.1 found in
                subst (λ j. IsWordOf (limit_of net j) word (trip_of (run ++ trip ∷ []) j)) (sym same)
                (subst (λ t. IsWordOf (limit_of net train) word t) new_trip (subst (λ w. IsWordOf (limit_of net train) w trip) is here.2.0))
            | inr differ ↦
                let before : k < train = omega arith in
                subst (λ t. IsWordOf (limit_of net k) word t) (old_trip k before) (so_far.words k word before at)
          ];
          lawful = λ k less. elim (cases_eq k train) [
            | inl same ↦ subst (λ j. (trip_of (run ++ trip ∷ []) j ≡ no_trip) ⊎ Route net (limit_of net j) (trip_of (run ++ trip ∷ []) j)) (sym same)
                (subst (λ t. (t ≡ no_trip) ⊎ Route net (limit_of net train) t) new_trip here.2.1)
            | inr differ ↦
                let before : k < train = omega arith in
                subst (λ t. (t ≡ no_trip) ⊎ Route net (limit_of net k) t) (old_trip k before) (so_far.lawful k before)
          ];
        }

  -- a word that breaks a clause
  pub refused_word : (train : ℕ) (run : List Trip) (fault : Refusal) → train < length net.trains → AreLawful net sheet train run
      → IsRefusal (BreaksWord net (limit_of net train) (slice_get sheet train)) fault → IsRefusal (BreaksAWord net sheet) fault
  refused_word train run fault less so_far =
      IsRefusal-like (BreaksWord net (limit_of net train) (slice_get sheet train)) (BreaksAWord net sheet) fault (λ clause broken. (train, run, less, so_far, broken))

  pub refused_sheet : (fault : Refusal) → IsRefusal (BreaksAWord net sheet) fault → IsRefusal (Breaks net sheet) fault
  refused_sheet fault =
      IsRefusal-like (BreaksAWord net sheet) (Breaks net sheet) fault (λ clause broken. at_train broken.0 broken.1 broken.2 broken.3 broken.4)

  module _ (run : List Trip) (all : AreLawful net sheet (length net.trains) run) where
    pub words_left : length net.trains < length sheet → Breaks net sheet WrongWord
    words_left more = left_over run all more refl

    pub side_shared : length sheet ≤ length net.trains → (AreApart run → ⊥) → Breaks net sheet SharedHexside
    side_shared most meets = let enough = all.enough in shared run all (omega (arith, enough)) meets refl

    lawful_run : AreApart run → Run net run
    lawful_run apart = record {
      complete = all.complete;
      lawful = λ train. elim (cases_lt train (length net.trains)) [
        | inl inside ↦ all.lawful train inside
        | inr past ↦ let count = all.complete in inl (get_or_past run train no_trip (omega (arith, count)))
      ];
      apart = apart;
    }

    pub is_legal : (revenue : ℕ) → length sheet ≤ length net.trains → AreApart run → revenue ≡ earned net run → IsLegal net sheet revenue
    is_legal revenue most apart earns =
        let enough = all.enough in
        let count = all.complete in
        record {
          run = run;
          is_run = lawful_run apart;
          is_sheet = record {
            complete = omega (arith, enough, count);
            each = λ train word at. let inside = slice_get_within sheet train word at in all.words train word (omega (arith, inside)) at;
          };
          earns = sym earns;
        }
