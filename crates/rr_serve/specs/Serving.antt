-- What serving does: which lines the machine takes, and which bytes are written.
use Rattle.std.specs.Prelude.{◌≡◌, ℕ, Bool, false, true, List, [], ◌∷◌, ◌++◌, ◌⊎◌, Option, Result, Ok, Err, IfSome, codes, nat_eq}
use Rattle.std.specs.List.{AllByRecursion, concat, starts_with}
use Rattle.std.specs.Io.KnownBytes.{Appends}
use Rattle.std.proofs.Common.{subst, sym}
use Rattle.rr_serve.specs.Lines.{Splits, taken, line_feed}
use Rattle.rr_serve.specs.Streams.{InputState, OutputState, HasEnded, Gives, FailsToGive, IsCutShort, AreSent}
use Rattle.rr_serve.specs.declared.faults.Fault.{Fault}
use Rattle.rr_serve.specs.declared.faults.Fault.TheVariants.{DeviceFailed, StreamFailed}

-- the machine takes the lines, one after another, and these are its replies
abbrev pub Served : {S : Type 0} → (S → List ℕ → S → Type 0) → (S → List ℕ) → S → List (List ℕ) → List (List ℕ) → S → Type 0
Served Answers reply_of old [] [] new = new ≡ old
Served {S} Answers reply_of old (line ∷ lines) (reply ∷ replies) new =
    (mid : S) × Answers old (taken line) mid × (reply ≡ reply_of mid) × Served Answers reply_of mid lines replies new
Served Answers reply_of old [] (reply ∷ replies) new = ⊥
Served Answers reply_of old (line ∷ lines) [] new = ⊥

-- the reply says that the device failed
abbrev pub tells_failure : List ℕ → Bool
tells_failure reply = starts_with nat_eq reply (codes "no 60 ")

-- no reply says that the device failed
abbrev pub NoneFails : List (List ℕ) → Type 0
NoneFails replies = AllByRecursion (λ reply. tells_failure reply ≡ false) replies

-- the last reply says that the device failed, and none before it does
pub record LastFails (replies : List (List ℕ)) : Type 0 where
  pub before : List (List ℕ)
  pub last : List ℕ
  pub replies_are : replies ≡ before ++ last ∷ []
  pub none_before : NoneFails before
  pub last_fails : tells_failure last ≡ true

-- the reply to bytes at the end of the input that no line feed ends
abbrev pub malformed_line : List ℕ
malformed_line = codes "no 55 malformed line" ++ line_feed ∷ []

-- an empty rest has no reply
abbrev pub replies_to_rest : List ℕ → List (List ℕ)
replies_to_rest [] = []
replies_to_rest (byte ∷ bytes) = malformed_line ∷ []

-- the replies but the last are sent, and the last is cut short
pub record Stops (replies : List (List ℕ)) (writer_old writer_new : OutputState) : Type 0 where
  pub before : List (List ℕ)
  pub last : List ℕ
  pub mid : OutputState
  pub replies_are : replies ≡ before ++ last ∷ []
  pub none_before : NoneFails before
  pub sent : AreSent writer_old before mid
  pub cut_short : IsCutShort mid last writer_new

-- How serving ends, whose input was so behind the last byte that it gave, and then is so.
abbrev pub Ends : Result (Unit {0}) Fault → List (List ℕ) → List ℕ → InputState → InputState → OutputState → OutputState → Type 0
-- at the end of the input: the replies to the lines and to a rest are sent, and nothing failed
Ends (Ok _) replies rest behind reader_new writer_old writer_new =
    NoneFails replies × AreSent writer_old (replies ++ replies_to_rest rest) writer_new × HasEnded reader_new × (reader_new ≡ behind)
-- where the device fails: the replies up to and with the one that says so are sent
Ends (Err DeviceFailed) replies rest behind reader_new writer_old writer_new =
    LastFails replies × (rest ≡ []) × AreSent writer_old replies writer_new × (reader_new ≡ behind)
-- where a read fails: the replies to the lines so far are sent; where a write or a flush fails: those but the last, which is cut short
Ends (Err StreamFailed) replies rest behind reader_new writer_old writer_new =
    (NoneFails replies × AreSent writer_old replies writer_new × FailsToGive behind reader_new)
    ⊎ (Stops (replies ++ replies_to_rest rest) writer_old writer_new × ((rest ≡ []) ⊎ HasEnded reader_new) × (reader_new ≡ behind))

-- Serving reads some bytes, the machine takes just their lines, and the replies are sent as far as it gets.
pub record Session {S : Type 0} (Answers : S → List ℕ → S → Type 0) (reply_of : S → List ℕ) (old new : S)
    (reader_old reader_new : InputState) (writer_old writer_new : OutputState) (result : Result (Unit {0}) Fault) : Type 0 where
  pub read : List ℕ
  pub lines : List (List ℕ)
  pub rest : List ℕ
  pub replies : List (List ℕ)
  pub behind : InputState
  pub gives : Gives reader_old read behind
  pub split : Splits read lines rest
  pub served : Served Answers reply_of old lines replies new
  pub ends : Ends result replies rest behind reader_new writer_old writer_new

-- the whole input is answered: the bytes are the replies to its lines and to a rest, and none says that the device failed
pub record Answered {S : Type 0} (Answers : S → List ℕ → S → Type 0) (reply_of : S → List ℕ) (old new : S) (input bytes : List ℕ) : Type 0 where
  pub lines : List (List ℕ)
  pub rest : List ℕ
  pub replies : List (List ℕ)
  pub split : Splits input lines rest
  pub served : Served Answers reply_of old lines replies new
  pub none_fails : NoneFails replies
  pub bytes_are : bytes ≡ concat (replies ++ replies_to_rest rest)

-- all that the reader has is answered, where its bytes are known, and the writer gains the replies
abbrev pub AnswersAll : {S : Type 0} → (S → List ℕ → S → Type 0) → (S → List ℕ) → S → S → Option (List ℕ) → Option (List ℕ) → Option (List ℕ) → Type 0
AnswersAll Answers reply_of old new remaining contents held =
    IfSome remaining (λ input. (bytes : List ℕ) × Answered Answers reply_of old new input bytes × Appends contents held bytes)

-- what holds from before each answer to after it, and from call to call, holds from before all lines to after them
pub Served-along : {S : Type 0} (Answers : S → List ℕ → S → Type 0) (reply_of : S → List ℕ) (Leads : S → S → Type 0)
    → ((s : S) → Leads s s) → ((s t u : S) → Leads s t → Leads t u → Leads s u) → ((s : S) (line : List ℕ) (t : S) → Answers s line t → Leads s t)
    → (old : S) (lines replies : List (List ℕ)) (new : S) → Served Answers reply_of old lines replies new → Leads old new
Served-along Answers reply_of Leads stays joins steps old [] [] new served =
    subst (Leads old) (sym served) (stays old)
Served-along Answers reply_of Leads stays joins steps old (line ∷ lines) (reply ∷ replies) new served =
    joins old served.0 new (steps old (taken line) served.0 served.1) (Served-along Answers reply_of Leads stays joins steps served.0 lines replies new served.3)
Served-along Answers reply_of Leads stays joins steps old [] (reply ∷ replies) new served = absurd served
Served-along Answers reply_of Leads stays joins steps old (line ∷ lines) [] new served = absurd served
