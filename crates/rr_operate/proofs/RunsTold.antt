-- A verdict on a run is that of the row.
use Rattle.std.specs.Prelude.{◌≡◌, ◌⊎◌, ℕ, List, None, Some, refl}
use Rattle.std.proofs.Common.{inl, inr}
use Rattle.rr_roster.specs.declared.company.Corp.{Corp}
use Rattle.rr_books.specs.declared.acts.Act.TheVariants as A
use Rattle.rr_books.specs.Book.{Book}
use Rattle.rr_kit.specs.declared.kit.Kit.{Kit}
use Rattle.rr_books.specs.declared.refusal.Refusal.{Refusal}
use Rattle.rr_books.specs.declared.refusal.Refusal.TheVariants as R
use Rattle.rr_running.specs.Running.{IsBestRunVerdict, IsRunVerdict}
use Rattle.rr_operate.specs.Rows.{IsVerdictOfRow, MayJudgeRow}

pub run_refused : (kit : Kit) (book : Book) (c : Corp) (words : List ℕ) (fault : Refusal) → (fault ≡ R.OutOfMemory) ⊎ IsRunVerdict kit book c words (Some fault)
    → MayJudgeRow kit book (A.Run c words) fault
run_refused kit book c words fault (inl want) = inr (refl, want)
run_refused kit book c words fault (inr told) = inl told

pub best_refused : (kit : Kit) (book : Book) (c : Corp) (words certificate : List ℕ) (fault : Refusal) → (fault ≡ R.OutOfMemory) ⊎ IsBestRunVerdict kit book c words certificate (Some fault)
    → MayJudgeRow kit book (A.RunBest c words certificate) fault
best_refused kit book c words certificate fault (inl want) = inr (refl, want)
best_refused kit book c words certificate fault (inr told) = inl told

pub best_allowed : (kit : Kit) (book : Book) (c : Corp) (words certificate : List ℕ) → IsBestRunVerdict kit book c words certificate None → IsVerdictOfRow kit book (A.RunBest c words certificate) None
best_allowed kit book c words certificate told = told
