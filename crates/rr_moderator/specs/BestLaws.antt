-- What always holds of the best runs that are found.
use Rattle.std.specs.Prelude.{◌≡◌, ℕ, List, Option, None}
use Rattle.rr_kit.specs.declared.kit.Kit.{Kit}
use Rattle.rr_roster.specs.declared.company.Corp.{Corp}
use Rattle.rr_tables.specs.Records.World.{TableState, state_after, step_judgement}
use Rattle.rr_turns.specs.Judgement.{IsVerdict}
use Rattle.rr_moderator.specs.Answer.{earned_words}
use Rattle.rr_moderator.specs.Best.{IsBestRun, best_run}

-- Whichever best runs of a corporation are found at a table, the replies tell the same revenue.
abbrev pub BestRunsEarnAlike : Type 0
BestRunsEarnAlike =
    (kit : Kit) (t : Option TableState) (stamp : ℕ) (name : List ℕ) (c : Corp) (sheet certificate other shown : List ℕ)
    → IsBestRun kit t stamp name c sheet certificate → IsBestRun kit t stamp name c other shown
    → earned_words kit (state_after kit t (best_run c sheet certificate)) (best_run c sheet certificate)
    ≡ earned_words kit (state_after kit t (best_run c other shown)) (best_run c other shown)

-- No rule refuses a best run that is found: behind it only memory may be wanted, or the file fail.
abbrev pub BestRunsAreLawful : Type 0
BestRunsAreLawful =
    (kit : Kit) (t : Option TableState) (stamp : ℕ) (name : List ℕ) (c : Corp) (sheet certificate : List ℕ)
    → IsBestRun kit t stamp name c sheet certificate → IsVerdict (step_judgement kit t stamp (best_run c sheet certificate)) None
