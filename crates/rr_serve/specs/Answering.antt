-- What writing one reply does.
use Rattle.std.specs.Prelude.{◌≡◌, ℕ, false, true, List, [], ◌∷◌, Result, Ok, Err}
use Rattle.rr_serve.specs.Serving.{tells_failure, malformed_line, replies_to_rest}
use Rattle.rr_serve.specs.Streams.{OutputState, IsSent, IsCutShort, AreSent}
use Rattle.rr_serve.specs.declared.faults.Fault.{Fault}
use Rattle.rr_serve.specs.declared.faults.Fault.TheVariants.{DeviceFailed, StreamFailed}

-- the reply is sent, and says whether the device failed; or it is cut short
abbrev pub Replies : Result (Unit {0}) Fault → List ℕ → OutputState → OutputState → Type 0
Replies (Ok _) reply before after = IsSent before reply after × (tells_failure reply ≡ false)
Replies (Err DeviceFailed) reply before after = IsSent before reply after × (tells_failure reply ≡ true)
Replies (Err StreamFailed) reply before after = IsCutShort before reply after

-- a rest is answered, if there is one; or its reply is cut short
abbrev pub Refuses : Result (Unit {0}) Fault → List ℕ → OutputState → OutputState → Type 0
Refuses (Ok _) rest before after = AreSent before (replies_to_rest rest) after
Refuses (Err DeviceFailed) rest before after = ⊥
Refuses (Err StreamFailed) rest before after =
    (replies_to_rest rest ≡ malformed_line ∷ []) × IsCutShort before malformed_line after
