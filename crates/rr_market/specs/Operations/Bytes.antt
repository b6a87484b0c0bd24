-- Stages and steps of a turn as bytes.
use Rattle.std.specs.Prelude.{◌≡◌, ℕ, List, [], ◌∷◌, ◌++◌, refl, get_or}
use Rattle.std.proofs.Common.{ap, sym, ◌∙◌}
use Rattle.rr_words.specs.Spelling.Form.{Form}
use Rattle.rr_market.specs.declared.operations.turn.Stage.{Stage}
use Rattle.rr_market.specs.declared.operations.turn.Stage.TheVariants as G
use Rattle.rr_market.specs.declared.operations.turn.TurnStep.{TurnStep}
use Rattle.rr_market.specs.declared.operations.turn.TurnStep.TheVariants as T
use Rattle.rr_market.specs.Operations.Turn.{rank}

-- which of the three stages it is
abbrev pub stage_number : Stage → ℕ
stage_number G.Auction = 0
stage_number G.Stock = 1
stage_number G.Operating = 2

-- the stage of a number
stage_at : ℕ → Stage
stage_at n = get_or stages n G.Auction
  where
    stages : List Stage
    stages = G.Auction ∷ G.Stock ∷ G.Operating ∷ []

-- the step of a rank
step_at : ℕ → TurnStep
step_at n = get_or steps n T.Lay
  where
    steps : List TurnStep
    steps = T.Lay ∷ T.Station ∷ T.Run ∷ T.Pay ∷ T.Train ∷ []

stage_at-number : (s : Stage) → stage_at (stage_number s) ≡ s
unfolding stage_at
stage_at-number G.Auction = refl
stage_at-number G.Stock = refl
stage_at-number G.Operating = refl

step_at-rank : (s : TurnStep) → step_at (rank s) ≡ s
unfolding step_at
step_at-rank T.Lay = refl
step_at-rank T.Station = refl
step_at-rank T.Run = refl
step_at-rank T.Pay = refl
step_at-rank T.Train = refl

pub stage_one_way : (s t : Stage) (r rest : List ℕ) → stage_number s ∷ [] ++ r ≡ stage_number t ∷ [] ++ rest → (s ≡ t) × (r ≡ rest)
stage_one_way s t r rest same =
    let number : stage_number s ≡ stage_number t = cc in
    (sym (stage_at-number s) ∙ ap stage_at number ∙ stage_at-number t, cc)

pub step_one_way : (s t : TurnStep) (r rest : List ℕ) → rank s ∷ [] ++ r ≡ rank t ∷ [] ++ rest → (s ≡ t) × (r ≡ rest)
step_one_way s t r rest same =
    let same_rank : rank s ≡ rank t = cc in
    (sym (step_at-rank s) ∙ ap step_at same_rank ∙ step_at-rank t, cc)

-- each is its number, and a step its rank
abbrev pub stage_form : Form Stage
stage_form = record { spelling = λ s. stage_number s ∷ []; Fits = λ s. Unit {0}; one_way = λ s t r rest fits_s fits_t same. stage_one_way s t r rest same }

abbrev pub step_form : Form TurnStep
step_form = record { spelling = λ s. rank s ∷ []; Fits = λ s. Unit {0}; one_way = λ s t r rest fits_s fits_t same. step_one_way s t r rest same }
