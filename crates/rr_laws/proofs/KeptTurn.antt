-- What entries of no corporation's turn leave alone: the step of the turn, the corporation due, and the rules in force.
use Rattle.std.specs.Prelude.{◌≡◌, ℤ, Bool, true, false, ◌||◌, List, [], ◌∷◌, ◌++◌, fold, refl, if◌then◌else◌}
use Rattle.std.specs.List.{list_all, list_any}
use Rattle.std.proofs.Common.{◌∙◌, ap, append-nil, append_assoc, sym}
use Rattle.std.proofs.lemmas.Bool.{and_parts, false≢true, or_parts, true≢false}
use Rattle.rr_roster.specs.Chart.Chart.{Row}
use Rattle.rr_roster.specs.declared.company.Kind.{Kind}
use Rattle.rr_books.specs.declared.acts.Act.{Act}
use Rattle.rr_books.specs.declared.acts.Act.TheVariants as A
use Rattle.rr_books.specs.declared.certificates.Cert.TheVariants as C
use Rattle.rr_books.specs.declared.entries.Entry.{Entry}
use Rattle.rr_books.specs.declared.entries.Entry.TheVariants as E
use Rattle.rr_books.specs.declared.entries.Marker.TheVariants as M
use Rattle.rr_books.specs.declared.parties.Party.TheVariants as P
use Rattle.rr_books.specs.declared.parties.Place.TheVariants as L
use Rattle.rr_books.specs.Book.{Book, balance, train_holder}
use Rattle.rr_auction.specs.Effects.{is_over}
use Rattle.rr_auction.specs.Rules as bidding
use Rattle.rr_market.specs.declared.operations.turn.Stage.TheVariants as G
use Rattle.rr_market.specs.declared.operations.turn.TurnStep.{TurnStep}
use Rattle.rr_market.specs.declared.operations.turn.TurnStep.TheVariants as T
use Rattle.rr_market.specs.Operations.Due.{begins_turn, due}
use Rattle.rr_market.specs.Operations.OperatingLaws.{ends_set}
use Rattle.rr_market.specs.Operations.Phases.{phase}
use Rattle.rr_market.specs.Operations.Progress.{Progress, after_act, after_entry, after_first_round, after_next_round, is_operating, progress}
use Rattle.rr_market.specs.Operations.Turn.{is_at}
use Rattle.rr_market.proofs.OperationsLemmas.ProgressLemmas.{progress-push}
use Rattle.rr_market.proofs.OperationsLemmas.StayLemmas.{due_stays}
use Rattle.rr_rounds.specs.Round.{Round, after, after_act as after_trade, begins_stock_round}
use Rattle.rr_rounds.specs.Round as rounds
use Rattle.rr_rounds.specs.RoundLaws.{progress-append}
use Rattle.rr_rules.specs.Judging.{stage, stage_once}
use Rattle.rr_laws.proofs.LeavesAuction.{is_of_no_turn, is_quiet, keeps_step, leaves_auction}
use Rattle.rr_laws.proofs.Leaving.{auction_left}

-- the step of the turn
abbrev pub step_of : Book → TurnStep
step_of book = (progress book).step

pub none_of : (test other : Entry → Bool) → ((e : Entry) → test e ≡ true → other e ≡ false) → (es : Book) → list_all test es ≡ true → list_any other es ≡ false
none_of test other each [] all = refl
none_of test other each (e ∷ es) all =
    let parts = and_parts (test e) (list_all test es) all in
    ap (λ (b : Bool). b || list_any other es) (each e parts.0) ∙ none_of test other each es parts.1

-- quiet entries begin no turn, no set and no round

act_begins : (act : Act) → keeps_step act ≡ true → begins_turn (E.Step (M.Act act)) ≡ false
act_begins (A.End c) h = absurd (false≢true h)
act_begins _ h = refl

quiet_begins : (e : Entry) → is_quiet e ≡ true → begins_turn e ≡ false
quiet_begins (E.Step (M.Act act)) h = act_begins act h
quiet_begins (E.Step M.Operating) h = absurd (false≢true h)
quiet_begins _ h = refl

quiet_ends : (e : Entry) → is_quiet e ≡ true → ends_set e ≡ false
quiet_ends (E.Step M.Stock) h = absurd (false≢true h)
quiet_ends (E.Step (M.Auction names)) h = absurd (false≢true h)
quiet_ends _ h = refl

quiet_trades : (e : Entry) → is_quiet e ≡ true → begins_stock_round e ≡ false
quiet_trades (E.Step M.Stock) h = absurd (false≢true h)
quiet_trades _ h = refl

pub no_stock_round : (es : Book) → list_all is_quiet es ≡ true → list_any begins_stock_round es ≡ false
no_stock_round es all = none_of is_quiet begins_stock_round quiet_trades es all

pub due_kept : (rows : List Row) (book es : Book) → list_all is_quiet es ≡ true → due rows (book ++ es) ≡ due rows book
due_kept rows book es all = due_stays rows book es (none_of is_quiet begins_turn quiet_begins es all) (none_of is_quiet ends_set quiet_ends es all)

-- the step

act_keeps : (act : Act) (p : Progress) → keeps_step act ≡ true → (after_act act p).step ≡ p.step
act_keeps (A.Lay c hex tile turn) p h = absurd (false≢true h)
act_keeps (A.Station c hex centre) p h = absurd (false≢true h)
act_keeps (A.Run c sheet) p h = absurd (false≢true h)
act_keeps (A.RunBest c sheet certificate) p h = absurd (false≢true h)
act_keeps (A.PayOut c) p h = absurd (false≢true h)
act_keeps (A.Hold c) p h = absurd (false≢true h)
act_keeps (A.End c) p h = absurd (false≢true h)
act_keeps (A.Bankrupt s) p h = refl
act_keeps _ p h = refl

entry_keeps : (now : Kind) (bank : ℤ) (p : Progress) (e : Entry) → is_quiet e ≡ true → (after_entry now bank p e).step ≡ p.step
entry_keeps now bank p (E.Step (M.Act act)) h = act_keeps act p h
entry_keeps now bank p (E.Step (M.Float c)) h = refl
entry_keeps now bank p (E.Step M.Stock) h = absurd (false≢true h)
entry_keeps now bank p (E.Step M.Operating) h = absurd (false≢true h)
entry_keeps now bank p (E.Step (M.Auction names)) h = absurd (false≢true h)
entry_keeps now bank p (E.Pay from to amount) h = refl
entry_keeps now bank p _ h = refl

pub step_kept : (book es : Book) → list_all is_quiet es ≡ true → step_of (book ++ es) ≡ step_of book
step_kept book [] all = ap step_of (append-nil book)
step_kept book (e ∷ es) all =
    let parts = and_parts (is_quiet e) (list_all is_quiet es) all in
    ap step_of (sym (append_assoc book (e ∷ []) es))
    ∙ step_kept (book ++ e ∷ []) es parts.1
    ∙ ap (λ (p : Progress). p.step) (progress-push book e)
    ∙ entry_keeps (phase (train_holder book)) (balance book P.Bank) (progress book) e parts.0

-- after entries of no turn no dividend is due that wasn't before

round_not_pay : (now : Kind) (p : Progress) (b : Bool) → is_at (if b then after_next_round p else after_first_round now p).step T.Pay ≡ false
round_not_pay now p true = refl
round_not_pay now p false = refl

entry_not_pay : (now : Kind) (bank : ℤ) (p : Progress) (e : Entry) → is_of_no_turn e ≡ true → is_at p.step T.Pay ≡ false → is_at (after_entry now bank p e).step T.Pay ≡ false
entry_not_pay now bank p (E.Step (M.Act act)) h other = ap (λ (s : TurnStep). is_at s T.Pay) (act_keeps act p h) ∙ other
entry_not_pay now bank p (E.Step M.Operating) h other = round_not_pay now p (is_operating p.stage)
entry_not_pay now bank p (E.Step M.Stock) h other = other
entry_not_pay now bank p (E.Step (M.Float c)) h other = other
entry_not_pay now bank p (E.Step (M.Auction names)) h other = other
entry_not_pay now bank p (E.Pay from to amount) h other = other
entry_not_pay now bank p _ h other = other

pub not_pay_kept : (book es : Book) → list_all is_of_no_turn es ≡ true → is_at (step_of book) T.Pay ≡ false → is_at (step_of (book ++ es)) T.Pay ≡ false
not_pay_kept book [] all other = ap (λ (b : Book). is_at (step_of b) T.Pay) (append-nil book) ∙ other
not_pay_kept book (e ∷ es) all other =
    let parts = and_parts (is_of_no_turn e) (list_all is_of_no_turn es) all in
    let once = entry_not_pay (phase (train_holder book)) (balance book P.Bank) (progress book) e parts.0 other in
    ap (λ (b : Book). is_at (step_of b) T.Pay) (sym (append_assoc book (e ∷ []) es))
    ∙ not_pay_kept (book ++ e ∷ []) es parts.1 (ap (λ (p : Progress). is_at p.step T.Pay) (progress-push book e) ∙ once)

-- the rules of operating rounds stay in force until a stock round begins

round_once : (r : Round) (e : Entry) → r.under_way ≡ false → begins_stock_round e ≡ false → (after r e).under_way ≡ false
round_once r (E.Step (M.Act act)) h none = ap (λ (b : Bool). (if b then after_trade act r else r).under_way) h ∙ h
round_once r (E.Step M.Stock) h none = absurd (true≢false none)
round_once r (E.Step M.Operating) h none = refl
round_once r (E.Step (M.Float c)) h none = h
round_once r (E.Step (M.Auction names)) h none = h
round_once r (E.Pay from to amount) h none = h
round_once r (E.Move (C.Private p) (L.Seat s)) h none = h
round_once r _ h none = h

rounds_kept : (r : Round) (es : Book) → r.under_way ≡ false → list_any begins_stock_round es ≡ false → (fold after r es).under_way ≡ false
rounds_kept r [] h none = h
rounds_kept r (e ∷ es) h none =
    let parts = or_parts (begins_stock_round e) (list_any begins_stock_round es) none in
    rounds_kept (after r e) es (round_once r e h parts.0) parts.1

no_round : (book es : Book) → (rounds.progress book).under_way ≡ false → list_any begins_stock_round es ≡ false → (rounds.progress (book ++ es)).under_way ≡ false
no_round book es h none = ap (λ (r : Round). r.under_way) (progress-append book es) ∙ rounds_kept (rounds.progress book) es h none

operating_is : (over under_way : Bool) → stage_once over under_way ≡ G.Operating → (over ≡ true) × (under_way ≡ false)
operating_is false under_way is = absurd cc
operating_is true true is = absurd cc
operating_is true false is = (refl, refl)

staged : (book : Book) → stage book ≡ stage_once (is_over (bidding.due book)) (rounds.progress book).under_way
unfolding stage
staged book = refl

pub stage_kept : (book es : Book) → list_all leaves_auction es ≡ true → list_any begins_stock_round es ≡ false → stage book ≡ G.Operating → stage (book ++ es) ≡ G.Operating
stage_kept book es leaves none is =
    let parts = operating_is (is_over (bidding.due book)) (rounds.progress book).under_way (sym (staged book) ∙ is) in
    let over = (auction_left book es parts.0 leaves).over in
    staged (book ++ es)
    ∙ ap (λ (b : Bool). stage_once b (rounds.progress (book ++ es)).under_way) over
    ∙ ap (λ (b : Bool). stage_once true b) (no_round book es parts.1 none)
