-- The purchases, bids and passes, of which an entry is one at most.
use Rattle.std.specs.Prelude.{◌≡◌, ℕ, ◌+◌, ◌≤◌, Bool, true, false, Option, None, Some, is_some, if◌then◌else◌}
use Rattle.std.proofs.Common.{ap, arith}
use Rattle.rr_roster.specs.declared.company.Private.{Private}
use Rattle.rr_roster.specs.declared.company.Corp.{Corp}
use Rattle.rr_books.specs.declared.parties.Seat.{Seat}
use Rattle.rr_books.specs.declared.parties.Place.TheVariants as L
use Rattle.rr_books.specs.declared.certificates.Cert.TheVariants as C
use Rattle.rr_books.specs.declared.entries.Entry.{Entry}
use Rattle.rr_books.specs.declared.entries.Entry.TheVariants as E
use Rattle.rr_books.specs.declared.entries.Marker.TheVariants as M
use Rattle.rr_books.specs.declared.acts.Act.{Act}
use Rattle.rr_books.specs.declared.acts.Act.TheVariants as A
use Rattle.rr_books.specs.Shares.{Holders}
use Rattle.rr_rounds.specs.Bids.Progress.{Progress, after_act, after_bid, after_entry, after_last_pass, after_leaving, after_par, after_pass, after_turn_pass, all_pass, raise_due}
use Rattle.rr_rounds.specs.Bids.Unsold.{cheapest}

bid_once : (n : ℕ) (raising : Bool) (s : Seat) (p : Private) (amount : ℕ) (a : Progress) → (after_bid n raising s p amount a).commands ≤ a.commands + 1
bid_once n true s p amount a = omega arith
bid_once n false s p amount a = omega arith

leaving_once : (s : Seat) (o : Option Private) (a : Progress) → (after_leaving s o a).commands ≤ a.commands + 1
leaving_once s None a = omega arith
leaving_once s (Some p) a = omega arith

pass_once : (n : ℕ) (raising : Bool) (o : Option Private) (s : Seat) (a : Progress) → (after_pass n raising o s a).commands ≤ a.commands + 1
pass_once n true o s a = leaving_once s o a
pass_once n false o s a = by_test (all_pass n a)
  where
    by_test : (b : Bool) → (if b then after_last_pass n s o a else after_turn_pass n s a).commands ≤ a.commands + 1
    by_test true = omega arith
    by_test false = omega arith

par_once : (c : Corp) (a : Progress) → (after_par c a).commands ≤ a.commands + 1
par_once Corp.Bo a = omega arith
par_once _ a = omega arith

act_once : (n : ℕ) (holder : Holders) (a : Progress) (act : Act) → (after_act n holder a act).commands ≤ a.commands + 1
act_once n holder a (A.BuyPrivate s) = omega arith
act_once n holder a (A.Bid s p amount) = bid_once n (is_some (raise_due holder a)) s p amount a
act_once n holder a (A.Pass s) = pass_once n (is_some (raise_due holder a)) (cheapest holder) s a
act_once n holder a (A.Par s c price) = par_once c a
act_once n holder a _ = omega arith

entry_once : (n : ℕ) (holder : Holders) (a : Progress) (e : Entry) → (after_entry n holder a e).commands ≤ a.commands + 1
entry_once n holder a (E.Step (M.Act act)) = act_once n holder a act
entry_once n holder a (E.Move (C.Private p) (L.Seat s)) = omega arith
entry_once n holder a _ = omega arith

-- after an entry there is one more at most
pub commands_by_one : (n : ℕ) (holder : Holders) (a b : Progress) (e : Entry) → b ≡ after_entry n holder a e → b.commands ≤ a.commands + 1
commands_by_one n holder a b e is =
    let same : b.commands ≡ (after_entry n holder a e).commands = ap (λ (x : Progress). x.commands) is in
    let once = entry_once n holder a e in
    omega arith
