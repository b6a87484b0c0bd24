-- One more call behind those that are replayed.
use Rattle.std.proofs.Common.{◌≡◌, ℕ, ◌+◌, ◌≤◌, List, [], ◌∷◌, ◌++◌, length, drop, refl, ◌∙◌, ap, arith, length-drop}
use Rattle.std.proofs.lemmas.List.{nil_from_length, take-append-le, drop-append-le}
use Rattle.rr_disk.specs.Disk.{DiskState, after_write}
use Rattle.rr_disk.specs.Replay.{bytes_of, length_of, after_call, replayed, passed}
use Rattle.rr_disk.specs.declared.call.Call.{Call}
use Rattle.rr_disk.specs.declared.call.Call.TheVariants.{Write, Sync}

pub length_of-push : (calls : List Call) (call : Call) → length_of (calls ++ call ∷ []) ≡ length_of calls + bytes_of call
length_of-push [] call = omega arith
length_of-push (first ∷ calls) call = omega (arith, length_of-push calls call)

-- a call reads its own bytes alone
after_call-append : (state : DiskState) (call : Call) (bytes more : List ℕ) → bytes_of call ≤ length bytes → after_call state call (bytes ++ more) ≡ after_call state call bytes
after_call-append state (Write at n) bytes more enough = ap (after_write state at) (take-append-le n bytes more enough)
after_call-append state Sync bytes more enough = refl

pub replayed-push : (state : DiskState) (calls : List Call) (call : Call) (bytes more : List ℕ) → length bytes ≡ length_of calls
    → replayed state (calls ++ call ∷ []) (bytes ++ more) ≡ after_call (replayed state calls bytes) call more
replayed-push state [] call bytes more whole = ap (λ (bs : List ℕ). after_call state call (bs ++ more)) (nil_from_length bytes whole)
replayed-push state (first ∷ calls) call bytes more whole =
    let enough : bytes_of first ≤ length bytes = omega arith in
    ap (λ (s : DiskState). replayed s (calls ++ call ∷ []) (drop (bytes_of first) (bytes ++ more))) (after_call-append state first bytes more enough)
    ∙ (ap (λ (bs : List ℕ). replayed (after_call state first bytes) (calls ++ call ∷ []) bs) (drop-append-le (bytes_of first) bytes more enough)
    ∙ replayed-push (after_call state first bytes) calls call (drop (bytes_of first) bytes) more (length-drop (bytes_of first) bytes ∙ omega arith))

pub passed-push : (past : List DiskState) (state : DiskState) (calls : List Call) (call : Call) (bytes more : List ℕ) → length bytes ≡ length_of calls
    → passed past state (calls ++ call ∷ []) (bytes ++ more) ≡ replayed state calls bytes ∷ passed past state calls bytes
passed-push past state [] call bytes more whole = refl
passed-push past state (first ∷ calls) call bytes more whole =
    let enough : bytes_of first ≤ length bytes = omega arith in
    ap (λ (s : DiskState). passed (state ∷ past) s (calls ++ call ∷ []) (drop (bytes_of first) (bytes ++ more))) (after_call-append state first bytes more enough)
    ∙ (ap (λ (bs : List ℕ). passed (state ∷ past) (after_call state first bytes) (calls ++ call ∷ []) bs) (drop-append-le (bytes_of first) bytes more enough)
    ∙ passed-push (state ∷ past) (after_call state first bytes) calls call (drop (bytes_of first) bytes) more (length-drop (bytes_of first) bytes ∙ omega arith))
