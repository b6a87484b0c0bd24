-- Facts that hold at one end of a result.
use Rattle.std.proofs.Common.{Result, Ok, Err, IsOk, OnOk}

-- what holds at success, of a result that is one
pub at_ok : {A E : Type 0} (r : Result A E) (P : Type 0) → IsOk r → OnOk r P → P
at_ok (Ok x) P h p = p
at_ok (Err e) P h p = absurd cc

-- what holds at success holds there under any premise
pub under : {A E : Type 0} (r : Result A E) (P Q : Type 0) → OnOk r P → OnOk r (Q → P)
under (Ok x) P Q h = λ q. h
under (Err e) P Q h = tt
