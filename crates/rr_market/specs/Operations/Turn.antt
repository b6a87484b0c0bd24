-- The steps of a corporation's turn, and which commands each of them takes.
use Rattle.std.specs.Prelude.{ℕ, ◌==◌, Bool, true, false, nat_le}
use Rattle.rr_books.specs.declared.acts.Act.{Act}
use Rattle.rr_books.specs.declared.acts.Act.TheVariants as A
use Rattle.rr_market.specs.declared.operations.turn.TurnStep.{TurnStep}
use Rattle.rr_market.specs.declared.operations.turn.TurnStep.TheVariants as T

-- the order of the steps
abbrev pub rank : TurnStep → ℕ
rank T.Lay = 0
rank T.Station = 1
rank T.Run = 2
rank T.Pay = 3
rank T.Train = 4

-- a step is another one, or comes before it
abbrev pub is_at : TurnStep → TurnStep → Bool
is_at step other = rank step == rank other

abbrev pub is_up_to : TurnStep → TurnStep → Bool
is_up_to step last = nat_le (rank step) (rank last)

-- a step takes a command of a corporation's turn
abbrev pub takes : TurnStep → Act → Bool
takes step (A.Lay c hex tile turn) = is_at step T.Lay
takes step (A.Station c hex centre) = is_up_to step T.Station
takes step (A.Run c sheet) = is_up_to step T.Run
takes step (A.RunBest c sheet certificate) = is_up_to step T.Run
takes step (A.PayOut c) = is_at step T.Pay
takes step (A.Hold c) = is_up_to step T.Pay
takes step (A.BuyTrain c kind source) = is_at step T.Train
takes step (A.BuyTrainFrom c kind seller price s t) = is_at step T.Train
takes step (A.Trade c kind) = is_at step T.Train
takes step (A.Force c) = is_at step T.Train
takes step (A.Raise s c n) = is_at step T.Train
takes step (A.Bankrupt s) = is_at step T.Train
takes step (A.End c) = is_at step T.Train
takes step (A.TakePrivate c p price) = true
takes step (A.Discard c kind) = true
takes step _ = false
