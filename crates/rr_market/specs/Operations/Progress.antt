-- How far the operating rounds have come, from a table's book alone.
use Rattle.std.specs.Prelude.{ℕ, ◌+◌, ◌*◌, ℤ, pos, neg_ℤ, ◌+ℤ◌, int_lt, nat_lt, Bool, true, false, List, [], ◌∷◌, ◌++◌, Option, None, Some, fold, if◌then◌else◌}
use Rattle.std.specs.Int.{int_min}
use Rattle.rr_roster.specs.declared.company.Corp.{Corp}
use Rattle.rr_roster.specs.declared.company.Kind.{Kind}
use Rattle.rr_roster.specs.Terms.{Terms, bank_of}
use Rattle.rr_books.specs.declared.parties.Money.{Money}
use Rattle.rr_books.specs.declared.parties.Party.{Party}
use Rattle.rr_books.specs.declared.parties.Party.TheVariants as P
use Rattle.rr_books.specs.declared.entries.Entry.{Entry}
use Rattle.rr_books.specs.declared.entries.Entry.TheVariants as E
use Rattle.rr_books.specs.declared.entries.Marker.{Marker}
use Rattle.rr_books.specs.declared.entries.Marker.TheVariants as M
use Rattle.rr_books.specs.declared.acts.Act.{Act}
use Rattle.rr_books.specs.declared.acts.Act.TheVariants as A
use Rattle.rr_books.specs.Book.{Book, balance, balance_after, train_holder}
use Rattle.rr_books.specs.Opening.{starting_money}
use Rattle.rr_rounds.specs.Round.{Marks, is_marked, no_marks, with_mark}
use Rattle.rr_market.specs.declared.operations.turn.Stage.{Stage}
use Rattle.rr_market.specs.declared.operations.turn.Stage.TheVariants as G
use Rattle.rr_market.specs.declared.operations.turn.TurnStep.{TurnStep}
use Rattle.rr_market.specs.declared.operations.turn.TurnStep.TheVariants as T
use Rattle.rr_market.specs.Operations.Phases.{phase, rounds_in_set}

-- what is under way; the sets of operating rounds that have begun, the rounds of the last set that have begun, and how
-- many it has; which corporations had their turn in the last round; the step of the turn, and whether the trains ran in
-- it; the least that the bank's balance was after any entry, and 0 before the first; and whether a seat said that it is
-- bankrupt
pub record Progress : Type 0 where
  pub stage : Stage
  pub sets : ℕ
  pub round : ℕ
  pub set_length : ℕ
  pub turns : Marks
  pub step : TurnStep
  pub has_run : Bool
  pub lowest : ℤ
  pub bankrupt : Bool

-- before the first entry
abbrev pub beginning : Progress
beginning = record {
  stage = G.Auction;
  sets = 0;
  round = 0;
  set_length = 0;
  turns = no_marks;
  step = T.Lay;
  has_run = false;
  lowest = pos 0;
  bankrupt = false;
}

-- once a table of so many players has opened: the bank has paid each of them the money for the start
abbrev pub opened : ℕ → Progress
opened players = record beginning { lowest = neg_ℤ (pos (players * starting_money players)) }

abbrev pub is_operating : Stage → Bool
is_operating G.Operating = true
is_operating _ = false

-- the corporation had its turn in the last operating round
abbrev pub had_turn : Progress → Corp → Bool
had_turn p c = is_marked p.turns c

-- the set has another round after this one
abbrev pub has_more_rounds : Progress → Bool
has_more_rounds p = nat_lt p.round p.set_length

-- a set of rounds begins with its first one, and the phase says how many it has
abbrev pub after_first_round : Kind → Progress → Progress
after_first_round now p = record p {
  stage = G.Operating;
  sets = p.sets + 1;
  round = 1;
  set_length = rounds_in_set now;
  turns = no_marks;
  step = T.Lay;
  has_run = false;
}

-- the next round of the set begins
abbrev pub after_next_round : Progress → Progress
after_next_round p = record p { round = p.round + 1; turns = no_marks; step = T.Lay; has_run = false }

-- an operating round begins: it is the first of a set unless it follows on one
abbrev pub after_operating : Kind → Progress → Progress
after_operating now p = if is_operating p.stage then after_next_round p else after_first_round now p

-- the trains ran
abbrev pub after_run : Progress → Progress
after_run p = record p { step = T.Pay; has_run = true }

-- a corporation ended its turn
abbrev pub after_end : Corp → Progress → Progress
after_end c p = record p { turns = with_mark p.turns c; step = T.Lay; has_run = false }

-- a seat said that it is bankrupt
abbrev pub after_bankruptcy : Progress → Progress
after_bankruptcy p = record p { bankrupt = true }

-- a command was given; `best` stands in the book as the run that it found
abbrev pub after_act : Act → Progress → Progress
after_act (A.Lay c hex tile turn) p = record p { step = T.Station }
after_act (A.Station c hex centre) p = record p { step = T.Run }
after_act (A.Run c sheet) p = after_run p
after_act (A.RunBest c sheet certificate) p = after_run p
after_act (A.PayOut c) p = record p { step = T.Train }
after_act (A.Hold c) p = record p { step = T.Train }
after_act (A.End c) p = after_end c p
after_act (A.Bankrupt s) p = after_bankruptcy p
after_act _ p = p

-- after what a step says, in a phase
abbrev pub after_step : Kind → Marker → Progress → Progress
after_step now (M.Auction names) p = record p { stage = G.Auction }
after_step now (M.Act act) p = after_act act p
after_step now (M.Float c) p = p
after_step now M.Stock p = record p { stage = G.Stock }
after_step now M.Operating p = after_operating now p

-- after a payment, at a balance of the bank before it
abbrev pub after_payment : ℤ → Party → Party → Money → Progress → Progress
after_payment bank from to amount p = record p { lowest = int_min p.lowest (balance_after P.Bank bank (E.Pay from to amount)) }

-- after one entry more, in a phase and at a balance of the bank
abbrev pub after_entry : Kind → ℤ → Progress → Entry → Progress
after_entry now bank p (E.Pay from to amount) = after_payment bank from to amount p
after_entry now bank p (E.Step marker) = after_step now marker p
after_entry now bank p _ = p

-- after one entry more, judged by the book before it
abbrev pub after : Book → Progress → Entry → Progress
after book p e = after_entry (phase (train_holder book)) (balance book P.Bank) p e

-- the bank, which began with the roster's, had less than nothing after some entry
abbrev pub bank_owed : Terms → Progress → Bool
bank_owed roster p = int_lt (pos (bank_of roster) +ℤ p.lowest) (pos 0)

-- after the entries that follow on a book, each judged by the book before it
abbrev pub follow : Book → Progress → Book → Progress
follow book p [] = p
follow book p (e ∷ es) = follow (book ++ e ∷ []) (after book p e) es

-- how far the operating rounds of a book have come
unfoldable pub progress : Book → Progress
progress book = follow [] beginning book

-- the sheet by which the trains ran in a turn, after a command
abbrev pub sheet_after_act : Act → Option (List ℕ) → Option (List ℕ)
sheet_after_act (A.Run c sheet) ran = Some sheet
sheet_after_act (A.RunBest c sheet certificate) ran = Some sheet
sheet_after_act (A.End c) ran = None
sheet_after_act _ ran = ran

abbrev pub sheet_after_step : Marker → Option (List ℕ) → Option (List ℕ)
sheet_after_step (M.Act act) ran = sheet_after_act act ran
sheet_after_step M.Operating ran = None
sheet_after_step _ ran = ran

abbrev pub sheet_after : Option (List ℕ) → Entry → Option (List ℕ)
sheet_after ran (E.Step marker) = sheet_after_step marker ran
sheet_after ran _ = ran

-- the words of the sheet by which the trains ran in this turn, if they did
unfoldable pub sheet_run : Book → Option (List ℕ)
sheet_run book = fold sheet_after None book
