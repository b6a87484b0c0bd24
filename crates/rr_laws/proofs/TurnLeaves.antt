-- What a command of a corporation's turn adds: it says itself, and else nothing of the turn; it leaves an auction that is over as it is,
-- and where the trains are told by what was sold.
use Rattle.std.specs.Prelude.{◌≡◌, ℕ, Bool, true, false, List, [], ◌∷◌, Option, None, Some, ◌++◌, ◌&&◌, map, option_and_then, refl, if◌then◌else◌}
use Rattle.std.specs.List.{list_all}
use Rattle.std.proofs.Common.{◌∙◌, ap}
use Rattle.std.proofs.lemmas.Bool.{false≢true, true≢false}
use Rattle.rr_roster.specs.Company as company
use Rattle.rr_roster.specs.declared.company.Private.{Private}
use Rattle.rr_roster.specs.declared.company.Private.TheVariants as V
use Rattle.rr_roster.specs.declared.company.Corp.{Corp}
use Rattle.rr_roster.specs.declared.company.Kind.{Kind}
use Rattle.rr_roster.specs.declared.company.Kind.TheVariants as K
use Rattle.rr_roster.specs.Terms.{Terms, price_of, trade_of}
use Rattle.rr_roster.specs.Chart.Chart.{Row}
use Rattle.rr_books.specs.declared.acts.Act.{Act}
use Rattle.rr_books.specs.declared.acts.Act.TheVariants as A
use Rattle.rr_roster.specs.declared.sources.TrainSource.{TrainSource}
use Rattle.rr_roster.specs.declared.sources.TrainSource.TheVariants as S
use Rattle.rr_books.specs.declared.certificates.Cert.TheVariants as C
use Rattle.rr_books.specs.declared.entries.Cell.{Cell}
use Rattle.rr_books.specs.declared.entries.Entry.TheVariants as E
use Rattle.rr_books.specs.declared.entries.Marker.TheVariants as M
use Rattle.rr_books.specs.declared.parties.Money.{Money}
use Rattle.rr_books.specs.declared.parties.Party.{Party}
use Rattle.rr_books.specs.declared.parties.Party.TheVariants as P
use Rattle.rr_books.specs.declared.parties.Place.{Place}
use Rattle.rr_books.specs.declared.parties.Place.TheVariants as L
use Rattle.rr_books.specs.declared.parties.Seat.{Seat}
use Rattle.rr_books.specs.Book.{Book, holder, players}
use Rattle.rr_kit.specs.Board.Plan.{hex_named}
use Rattle.rr_kit.specs.declared.kit.Kit.{Kit}
use Rattle.rr_desk.specs.Effects.{Effect, adds, in_turn}
use Rattle.rr_operate.specs.Dividends.Dividends.{pays_for, pays_out, pays_seat, pays_seats, seating, withholds}
use Rattle.rr_desk.specs.Layout.Layout.{lays, stations}
use Rattle.rr_lay.specs.Costs.{pays_cost, puts}
use Rattle.rr_lay.specs.Laying.{cost_at}
use Rattle.rr_lay.specs.Placing.{placed_by, token_cost}
use Rattle.rr_market.specs.Marks.{mark_of}
use Rattle.rr_market.specs.Moves.{dividend_marks, moves_token, withholding_marks}
use Rattle.rr_market.specs.Operations.Phases.{TrainHolders}
use Rattle.rr_trains.specs.Effects.{all_close, closes, closes_own_private, first_if, first_of_kind, first_train, is_in_game, moves_lowest_train}
use Rattle.rr_trains.specs.Sales.{source_place}
use Rattle.rr_trains.specs.Depot.Effects.{buys_train, buys_train_from, discards_train, gets_train, is_first_sold, of_bank, of_corporation, pays, pays_player, takes_private, trades_train}
use Rattle.rr_trains.specs.Depot.Effects as depot
use Rattle.rr_trains.specs.Depot.Rules.{deal, owner}
use Rattle.rr_trains.specs.Depot.Situation.{Situation, situation_of}
use Rattle.rr_operate.specs.Effects.{ends_turn, entries_of, runs_best}
use Rattle.rr_operate.specs.Sets.Following.{goes_on_in_operating_round}
use Rattle.rr_laws.proofs.Adding.{each_adds}
use Rattle.rr_laws.proofs.LeavesAuction.{calm_leave, calm_move_none, calm_of_no_turn, has_no_best, is_calm, is_plain, is_still, keeps_step, leaves_auction, leaves_turns, moves_none, none_best, plain_leave, plain_quiet, quiet_of_no_turn, still_move_none, still_plain}
use Rattle.rr_laws.proofs.RoundLeaves.{one_calms, round_goes_on}
use Rattle.rr_laws.proofs.TrainSales.{IsTold, Trades, all_rust_trade, lowest_trades, none_trades, still_trades, three_trade, told_on, two_trade}
use Rattle.rr_laws.proofs.StockLeaves.{Leaves, mark_leaves, none_leaves, three_leave, two_leave}

each_leaves : {X : Type 0} (f : X → Effect) (xs : List X) → ((x : X) → Leaves (f x)) → Leaves (in_turn (map f xs))
each_leaves f xs h = each_adds is_still f xs h

-- what the first train of a kind brings about
close_leaves : (p : Private) → Leaves (closes p)
unfolding closes
close_leaves p book = by_game (is_in_game (holder book (C.Private p)))
  where
    by_game : (b : Bool) → list_all is_still (if b then E.Move (C.Private p) L.Gone ∷ [] else []) ≡ true
    by_game true = refl
    by_game false = refl

all_close_leave : Leaves all_close
unfolding all_close
all_close_leave = each_leaves closes company.privates (λ p. close_leaves p)

kind_trades : (kind : Kind) → Trades (first_of_kind kind)
kind_trades K.Two = none_trades
kind_trades K.Three = none_trades
kind_trades K.Four = all_rust_trade K.Two
kind_trades K.Five = still_trades all_close all_close_leave
kind_trades K.Six = all_rust_trade K.Three
kind_trades K.Diesel = all_rust_trade K.Four

first_trades : (b : Bool) (kind : Kind) → Trades (first_if b kind)
first_trades true kind = kind_trades kind
first_trades false kind = none_trades

own_leaves : (c : Corp) → Leaves (closes_own_private c)
own_leaves Corp.Bo = close_leaves V.Bo
own_leaves Corp.Prr = none_leaves
own_leaves Corp.Nyc = none_leaves
own_leaves Corp.Cpr = none_leaves
own_leaves Corp.Co = none_leaves
own_leaves Corp.Erie = none_leaves
own_leaves Corp.Nynh = none_leaves
own_leaves Corp.Bm = none_leaves

brought_trades : (b : Bool) (kind : Kind) (c : Corp) → Trades (first_train b kind c)
unfolding first_train
brought_trades b kind c = two_trade (first_if b kind) (closes_own_private c) (first_trades b kind) (still_trades (closes_own_private c) (own_leaves c))

pub paid_for : (kind : Kind) (from : Place) (c : Corp) (payee : Party) (m : ℕ) (is_first : Bool)
    → Trades (in_turn (moves_lowest_train kind from (L.Corp c) ∷ pays c payee m ∷ first_train is_first kind c ∷ []))
paid_for kind from c payee m is_first =
    three_trade (moves_lowest_train kind from (L.Corp c)) (pays c payee m) (first_train is_first kind c) (lowest_trades kind from (L.Corp c) (λ same. cc))
    (still_trades (pays c payee m) (λ book. refl)) (brought_trades is_first kind c)

got_of_bank : (trains : TrainHolders) (c : Corp) (kind : Kind) (source : TrainSource) (m : ℕ) → Trades (gets_train (of_bank trains c kind source m))
unfolding gets_train
got_of_bank trains c kind source m = paid_for kind (source_place source) c P.Bank m (is_first_sold trains kind source)

got_of_corporation : (c : Corp) (kind : Kind) (seller : Corp) (m : ℕ) (s s2 : Seat) → Trades (gets_train (of_corporation (deal c kind seller m s s2)))
unfolding gets_train
got_of_corporation c kind seller m s s2 = paid_for kind (L.Corp seller) c (P.Corp seller) m false

player_leaves : (c : Corp) (player : Option Seat) (amount : ℕ) → Leaves (pays_player c player amount)
player_leaves c None amount = none_leaves
player_leaves c (Some s) amount = λ book. refl

said_trades : (act : Act) → is_still (E.Step (M.Act act)) ≡ true → Trades (adds (E.Step (M.Act act)))
said_trades act h = still_trades (adds (E.Step (M.Act act))) (λ book. ap (λ (b : Bool). b && true) h)

-- purchases, and trains given up
purchase_trades : (roster : Terms) (t : Situation) (act : Act) → Trades (depot.row roster t act)
unfolding buys_train buys_train_from trades_train discards_train takes_private
purchase_trades roster t (A.BuyTrain c kind source) =
    two_trade (adds (E.Step (M.Act (A.BuyTrain c kind source)))) (gets_train (of_bank t.trains c kind source (price_of roster kind)))
    (said_trades (A.BuyTrain c kind source) refl) (got_of_bank t.trains c kind source (price_of roster kind))
purchase_trades roster t (A.BuyTrainFrom c kind seller price s s2) =
    two_trade (adds (E.Step (M.Act (A.BuyTrainFrom c kind seller price s s2)))) (gets_train (of_corporation (deal c kind seller price s s2)))
    (said_trades (A.BuyTrainFrom c kind seller price s s2) refl) (got_of_corporation c kind seller price s s2)
purchase_trades roster t (A.Trade c kind) =
    three_trade (adds (E.Step (M.Act (A.Trade c kind)))) (moves_lowest_train kind (L.Corp c) L.Gone) (gets_train (of_bank t.trains c K.Diesel S.Bank (trade_of roster)))
    (said_trades (A.Trade c kind) refl) (lowest_trades kind (L.Corp c) L.Gone (λ same. cc)) (got_of_bank t.trains c K.Diesel S.Bank (trade_of roster))
purchase_trades roster t (A.Discard c kind) =
    two_trade (adds (E.Step (M.Act (A.Discard c kind)))) (moves_lowest_train kind (L.Corp c) L.Pool) (said_trades (A.Discard c kind) refl)
    (lowest_trades kind (L.Corp c) L.Pool (λ same. cc))
purchase_trades roster t (A.TakePrivate c p price) =
    still_trades (takes_private t c p price)
    (three_leave (adds (E.Step (M.Act (A.TakePrivate c p price)))) (adds (E.Move (C.Private p) (L.Corp c))) (pays_player c (owner t p) price) (λ book. refl) (λ book. refl) (player_leaves c (owner t p) price))
purchase_trades roster t _ = none_trades

-- tiles and tokens
cost_leaves : (c : Corp) (cost : Option ℕ) → Leaves (pays_cost c cost)
cost_leaves c None = none_leaves
cost_leaves c (Some m) = λ book. refl

-- A command's entries begin with its words, and those after them leave the auction alone, are of no turn and begin no round, and move
-- no train.
pub record SaysItself (act : Act) (es : Book) : Type 0 where
  pub rest : Book
  pub is : es ≡ E.Step (M.Act act) ∷ rest
  pub still : list_all is_still rest ≡ true

says_first : (act : Act) (fs : List Effect) (book : Book) → Leaves (in_turn fs) → SaysItself act (in_turn (adds (E.Step (M.Act act)) ∷ fs) book)
says_first act fs book h = record { rest = in_turn fs (book ++ E.Step (M.Act act) ∷ []); is = refl; still = h (book ++ E.Step (M.Act act) ∷ []) }

lay_says : (c : Corp) (hex : List ℕ) (tile turn : ℕ) (cost : Option ℕ) (book : Book) → SaysItself (A.Lay c hex tile turn) (puts (A.Lay c hex tile turn) c cost (E.Lay hex tile turn) book)
unfolding puts
lay_says c hex tile turn cost book =
    says_first (A.Lay c hex tile turn) (pays_cost c cost ∷ adds (E.Lay hex tile turn) ∷ []) book
    (two_leave (pays_cost c cost) (adds (E.Lay hex tile turn)) (cost_leaves c cost) (λ later. refl))

station_says : (c : Corp) (hex : List ℕ) (centre : ℕ) (cost : Option ℕ) (book : Book) → SaysItself (A.Station c hex centre) (puts (A.Station c hex centre) c cost (E.Station c hex centre) book)
unfolding puts
station_says c hex centre cost book =
    says_first (A.Station c hex centre) (pays_cost c cost ∷ adds (E.Station c hex centre) ∷ []) book
    (two_leave (pays_cost c cost) (adds (E.Station c hex centre)) (cost_leaves c cost) (λ later. refl))

-- dividends
marks_leave : (target : Cell → Option Cell) (c : Corp) → Leaves (moves_token target c)
marks_leave target c book = mark_leaves c (option_and_then target (mark_of book c))

seats_leave : (c : Corp) (revenue : Money) → Leaves (pays_seats c revenue)
unfolding pays_seats pays_for
seats_leave c revenue book = each_leaves (pays_seat c revenue) (seating (players book)) (λ s b. refl) book

paid_out_says : (rows : List Row) (c : Corp) (revenue : Money) (book : Book) → SaysItself (A.PayOut c) (pays_out rows c revenue book)
unfolding pays_out pays_for
paid_out_says rows c revenue book =
    says_first (A.PayOut c) (pays_seats c revenue ∷ pays_for c revenue L.Pool (P.Corp c) ∷ dividend_marks rows c ∷ []) book
    (three_leave (pays_seats c revenue) (pays_for c revenue L.Pool (P.Corp c)) (dividend_marks rows c) (seats_leave c revenue) (λ later. refl) (marks_leave _ c))

withheld_says : (rows : List Row) (c : Corp) (revenue : Money) (book : Book) → SaysItself (A.Hold c) (withholds rows c revenue book)
unfolding withholds
withheld_says rows c revenue book =
    says_first (A.Hold c) (adds (E.Pay P.Bank (P.Corp c) revenue) ∷ withholding_marks rows c ∷ []) book
    (two_leave (adds (E.Pay P.Bank (P.Corp c) revenue)) (withholding_marks rows c) (λ later. refl) (marks_leave _ c))

-- The end of a turn is said first, and what follows on it leaves the auction alone, is of no turn, and moves no train.
pub record SaysEnd (c : Corp) (es : Book) : Type 0 where
  pub rest : Book
  pub is : es ≡ E.Step (M.Act (A.End c)) ∷ rest
  pub calm : list_all is_calm rest ≡ true

pub end_says : (kit : Kit) (c : Corp) (book : Book) → SaysEnd c (ends_turn kit c book)
unfolding ends_turn
end_says kit c book =
    let said = E.Step (M.Act (A.End c)) in
    record {
      rest = in_turn (goes_on_in_operating_round kit ∷ []) (book ++ said ∷ []);
      is = refl;
      calm = one_calms (goes_on_in_operating_round kit) (round_goes_on kit) (book ++ said ∷ []);
    }

-- a run that is paid as best
abbrev pub is_best_run : Act → Bool
is_best_run (A.RunBest c sheet certificate) = true
is_best_run _ = false

-- behind these entries the auction is as it was, and where the trains are is told by what was sold
pub record GoesOn (book es : Book) : Type 0 where
  pub plain : list_all is_plain es ≡ true
  pub told : IsTold book → IsTold (book ++ es)

pub still_goes : (book es : Book) → list_all is_still es ≡ true → GoesOn book es
still_goes book es still = record { plain = still_plain es still; told = told_on book es (still_move_none es still) }

pub trades_on : (book : Book) (f : Effect) → Trades f → GoesOn book (f book)
trades_on book f trades = record { plain = trades.plain book; told = trades.sells book }

bought : (roster : Terms) (book : Book) (act : Act) → GoesOn book (depot.entries_of roster book act)
bought roster book act = trades_on book (depot.row roster (situation_of book) act) (purchase_trades roster (situation_of book) act)

-- a command that neither moves the step of the turn on nor ends the turn
pub turn_goes : (kit : Kit) (revenue : Money) (book : Book) (act : Act) → keeps_step act ≡ true → GoesOn book (entries_of kit revenue book act)
turn_goes kit revenue book (A.Lay c hex tile turn) keeps = absurd (false≢true keeps)
turn_goes kit revenue book (A.Station c hex centre) keeps = absurd (false≢true keeps)
turn_goes kit revenue book (A.Run c sheet) keeps = absurd (false≢true keeps)
turn_goes kit revenue book (A.RunBest c sheet certificate) keeps = absurd (false≢true keeps)
turn_goes kit revenue book (A.PayOut c) keeps = absurd (false≢true keeps)
turn_goes kit revenue book (A.Hold c) keeps = absurd (false≢true keeps)
turn_goes kit revenue book (A.End c) keeps = absurd (false≢true keeps)
turn_goes kit revenue book (A.BuyTrain c kind source) keeps = bought kit.roster book (A.BuyTrain c kind source)
turn_goes kit revenue book (A.BuyTrainFrom c kind seller price s s2) keeps = bought kit.roster book (A.BuyTrainFrom c kind seller price s s2)
turn_goes kit revenue book (A.Trade c kind) keeps = bought kit.roster book (A.Trade c kind)
turn_goes kit revenue book (A.Discard c kind) keeps = bought kit.roster book (A.Discard c kind)
turn_goes kit revenue book (A.TakePrivate c p price) keeps = bought kit.roster book (A.TakePrivate c p price)
turn_goes kit revenue book _ keeps = still_goes book [] refl

-- a command that moves the step on, except a run as best, and doesn't end the turn
abbrev pub moves_step : Act → Bool
moves_step (A.Lay c hex tile turn) = true
moves_step (A.Station c hex centre) = true
moves_step (A.Run c sheet) = true
moves_step (A.PayOut c) = true
moves_step (A.Hold c) = true
moves_step _ = false

pub turn_says : (kit : Kit) (revenue : Money) (book : Book) (act : Act) → moves_step act ≡ true → SaysItself act (entries_of kit revenue book act)
turn_says kit revenue book (A.Lay c hex tile turn) moves = lay_says c hex tile turn (cost_at (lays book) (hex_named kit.board.hexes hex)) book
turn_says kit revenue book (A.Station c hex centre) moves = station_says c hex centre (Some (token_cost (placed_by (stations book) c))) book
turn_says kit revenue book (A.Run c sheet) moves = record { rest = []; is = refl; still = refl }
turn_says kit revenue book (A.PayOut c) moves = paid_out_says kit.chart c revenue book
turn_says kit revenue book (A.Hold c) moves = withheld_says kit.chart c revenue book
turn_says kit revenue book _ moves = absurd (false≢true moves)

-- so each command but a run as best and the end of a turn leaves the auction alone, and so do these

itself_leaves : (act : Act) (es : Book) → leaves_turns act ≡ true → SaysItself act es → list_all leaves_auction es ≡ true
itself_leaves act es leaves says =
    ap (λ (xs : Book). list_all leaves_auction xs) says.is
    ∙ ap (λ (b : Bool). b && list_all leaves_auction says.rest) leaves
    ∙ plain_leave says.rest (still_plain says.rest says.still)

end_leaves : (kit : Kit) (c : Corp) (book : Book) → list_all leaves_auction (ends_turn kit c book) ≡ true
end_leaves kit c book = let says = end_says kit c book in ap (λ (xs : Book). list_all leaves_auction xs) says.is ∙ calm_leave says.rest says.calm

best_leaves : (c : Corp) (sheet certificate : List ℕ) (book : Book) → list_all leaves_auction (runs_best c sheet certificate book) ≡ true
unfolding runs_best
best_leaves c sheet certificate book = refl

goes_leave : (book es : Book) → GoesOn book es → list_all leaves_auction es ≡ true
goes_leave book es goes = plain_leave es goes.plain

pub turn_leaves : (kit : Kit) (revenue : Money) (book : Book) (act : Act) → list_all leaves_auction (entries_of kit revenue book act) ≡ true
turn_leaves kit revenue book (A.Lay c hex tile turn) = itself_leaves (A.Lay c hex tile turn) _ refl (turn_says kit revenue book (A.Lay c hex tile turn) refl)
turn_leaves kit revenue book (A.Station c hex centre) = itself_leaves (A.Station c hex centre) _ refl (turn_says kit revenue book (A.Station c hex centre) refl)
turn_leaves kit revenue book (A.Run c sheet) = refl
turn_leaves kit revenue book (A.RunBest c sheet certificate) = best_leaves c sheet certificate book
turn_leaves kit revenue book (A.PayOut c) = itself_leaves (A.PayOut c) _ refl (turn_says kit revenue book (A.PayOut c) refl)
turn_leaves kit revenue book (A.Hold c) = itself_leaves (A.Hold c) _ refl (turn_says kit revenue book (A.Hold c) refl)
turn_leaves kit revenue book (A.End c) = end_leaves kit c book
turn_leaves kit revenue book act = goes_leave book _ (turn_goes kit revenue book act refl)

-- and where the trains are is told by what was sold

itself_tells : (act : Act) (book es : Book) → SaysItself act es → IsTold book → IsTold (book ++ es)
itself_tells act book es says h =
    told_on book es (ap (λ (xs : Book). list_all moves_none xs) says.is ∙ still_move_none says.rest says.still) h

end_tells : (kit : Kit) (c : Corp) (book : Book) → IsTold book → IsTold (book ++ ends_turn kit c book)
end_tells kit c book h =
    let says = end_says kit c book in
    told_on book (ends_turn kit c book) (ap (λ (xs : Book). list_all moves_none xs) says.is ∙ calm_move_none says.rest says.calm) h

best_tells : (c : Corp) (sheet certificate : List ℕ) (book : Book) → IsTold book → IsTold (book ++ runs_best c sheet certificate book)
unfolding runs_best
best_tells c sheet certificate book h = told_on book (E.Best c sheet certificate ∷ E.Step (M.Act (A.RunBest c sheet certificate)) ∷ []) refl h

goes_tells : (book es : Book) → GoesOn book es → IsTold book → IsTold (book ++ es)
goes_tells book es goes h = goes.told h

pub turn_tells : (kit : Kit) (revenue : Money) (book : Book) (act : Act) → IsTold book → IsTold (book ++ entries_of kit revenue book act)
turn_tells kit revenue book (A.Lay c hex tile turn) h = itself_tells (A.Lay c hex tile turn) book _ (turn_says kit revenue book (A.Lay c hex tile turn) refl) h
turn_tells kit revenue book (A.Station c hex centre) h = itself_tells (A.Station c hex centre) book _ (turn_says kit revenue book (A.Station c hex centre) refl) h
turn_tells kit revenue book (A.Run c sheet) h = itself_tells (A.Run c sheet) book _ (turn_says kit revenue book (A.Run c sheet) refl) h
turn_tells kit revenue book (A.RunBest c sheet certificate) h = best_tells c sheet certificate book h
turn_tells kit revenue book (A.PayOut c) h = itself_tells (A.PayOut c) book _ (turn_says kit revenue book (A.PayOut c) refl) h
turn_tells kit revenue book (A.Hold c) h = itself_tells (A.Hold c) book _ (turn_says kit revenue book (A.Hold c) refl) h
turn_tells kit revenue book (A.End c) h = end_tells kit c book h
turn_tells kit revenue book act h = goes_tells book _ (turn_goes kit revenue book act refl) h

-- and there is no run as best

itself_has_none : (act : Act) (es : Book) → SaysItself act es → list_all has_no_best es ≡ true
itself_has_none act es says =
    ap (λ (xs : Book). list_all has_no_best xs) says.is
    ∙ none_best says.rest (quiet_of_no_turn says.rest (plain_quiet says.rest (still_plain says.rest says.still)))

end_has_none : (kit : Kit) (c : Corp) (book : Book) → list_all has_no_best (ends_turn kit c book) ≡ true
end_has_none kit c book =
    let says = end_says kit c book in
    ap (λ (xs : Book). list_all has_no_best xs) says.is ∙ none_best says.rest (calm_of_no_turn says.rest says.calm)

pub goes_none : (book es : Book) → GoesOn book es → list_all has_no_best es ≡ true
goes_none book es goes = none_best es (quiet_of_no_turn es (plain_quiet es goes.plain))

pub turn_has_no_best : (kit : Kit) (revenue : Money) (book : Book) (act : Act) → is_best_run act ≡ false → list_all has_no_best (entries_of kit revenue book act) ≡ true
turn_has_no_best kit revenue book (A.Lay c hex tile turn) other = itself_has_none (A.Lay c hex tile turn) _ (turn_says kit revenue book (A.Lay c hex tile turn) refl)
turn_has_no_best kit revenue book (A.Station c hex centre) other = itself_has_none (A.Station c hex centre) _ (turn_says kit revenue book (A.Station c hex centre) refl)
turn_has_no_best kit revenue book (A.Run c sheet) other = refl
turn_has_no_best kit revenue book (A.RunBest c sheet certificate) other = absurd (true≢false other)
turn_has_no_best kit revenue book (A.PayOut c) other = itself_has_none (A.PayOut c) _ (turn_says kit revenue book (A.PayOut c) refl)
turn_has_no_best kit revenue book (A.Hold c) other = itself_has_none (A.Hold c) _ (turn_says kit revenue book (A.Hold c) refl)
turn_has_no_best kit revenue book (A.End c) other = end_has_none kit c book
turn_has_no_best kit revenue book act other = goes_none book _ (turn_goes kit revenue book act refl)
