-- Bankruptcies over a book.
use Rattle.std.specs.Prelude.{◌≡◌, ℤ, Bool, true, false, ◌||◌, [], ◌∷◌, ◌++◌, if◌then◌else◌}
use Rattle.std.specs.List.{list_any}
use Rattle.std.proofs.Common.{sym, ◌∙◌, ap}
use Rattle.std.proofs.Math.Bool.{or-false, or-true, or_assoc}
use Rattle.rr_roster.specs.declared.company.Kind.{Kind}
use Rattle.rr_books.specs.declared.parties.Party.TheVariants as P
use Rattle.rr_books.specs.declared.entries.Entry.{Entry}
use Rattle.rr_books.specs.declared.entries.Entry.TheVariants as E
use Rattle.rr_books.specs.declared.entries.Marker.TheVariants as M
use Rattle.rr_books.specs.declared.acts.Act.{Act}
use Rattle.rr_books.specs.declared.acts.Act.TheVariants as A
use Rattle.rr_books.specs.Book.{Book, balance, train_holder}
use Rattle.rr_market.specs.Operations.Phases.{phase}
use Rattle.rr_market.specs.Operations.Progress.{Progress, after, after_act, after_entry, after_first_round, after_next_round, beginning, follow, is_operating, progress}
use Rattle.rr_market.specs.Operations.OperatingLaws.{BankruptciesAreRemembered, is_bankruptcy}

act_adds : (act : Act) (p : Progress) → (after_act act p).bankrupt ≡ (p.bankrupt || is_bankruptcy (E.Step (M.Act act)))
act_adds (A.Bankrupt s) p = sym (or-true p.bankrupt)
act_adds (A.Lay c hex tile turn) p = sym (or-false p.bankrupt)
act_adds (A.Station c hex centre) p = sym (or-false p.bankrupt)
act_adds (A.Run c sheet) p = sym (or-false p.bankrupt)
act_adds (A.RunBest c sheet certificate) p = sym (or-false p.bankrupt)
act_adds (A.PayOut c) p = sym (or-false p.bankrupt)
act_adds (A.Hold c) p = sym (or-false p.bankrupt)
act_adds (A.End c) p = sym (or-false p.bankrupt)
act_adds _ p = sym (or-false p.bankrupt)

round_adds : (now : Kind) (p : Progress) (b : Bool) → (if b then after_next_round p else after_first_round now p).bankrupt ≡ (p.bankrupt || false)
round_adds now p true = sym (or-false p.bankrupt)
round_adds now p false = sym (or-false p.bankrupt)

entry_adds : (now : Kind) (bank : ℤ) (p : Progress) (e : Entry) → (after_entry now bank p e).bankrupt ≡ (p.bankrupt || is_bankruptcy e)
entry_adds now bank p (E.Step (M.Act act)) = act_adds act p
entry_adds now bank p (E.Step M.Operating) = round_adds now p (is_operating p.stage)
entry_adds now bank p (E.Step (M.Auction names)) = sym (or-false p.bankrupt)
entry_adds now bank p (E.Step M.Stock) = sym (or-false p.bankrupt)
entry_adds now bank p (E.Step (M.Float c)) = sym (or-false p.bankrupt)
entry_adds now bank p (E.Pay from to amount) = sym (or-false p.bankrupt)
entry_adds now bank p _ = sym (or-false p.bankrupt)

told_through : (book es : Book) (p : Progress) → (follow book p es).bankrupt ≡ (p.bankrupt || list_any is_bankruptcy es)
told_through book [] p = sym (or-false p.bankrupt)
told_through book (e ∷ es) p =
    told_through (book ++ e ∷ []) es (after book p e)
    ∙ ap (λ (b : Bool). b || list_any is_bankruptcy es) (entry_adds (phase (train_holder book)) (balance book P.Bank) p e)
    ∙ or_assoc p.bankrupt (is_bankruptcy e) (list_any is_bankruptcy es)

pub bankruptcies_remembered : BankruptciesAreRemembered
unfolding progress
bankruptcies_remembered book = told_through [] book beginning
