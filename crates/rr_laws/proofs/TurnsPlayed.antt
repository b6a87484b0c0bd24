-- Whatever commands a table is played with, the turn has come so far as they say.
use Rattle.std.specs.Prelude.{◌≡◌, ℕ, ◌+◌, Bool, true, false, List, [], ◌∷◌, ◌++◌, Option, None, Some, fold, option_and_then, option_map, refl}
use Rattle.std.specs.List.{list_all, list_any}
use Rattle.std.proofs.Common.{◌∙◌, ap, append-nil, append_assoc, arith, subst, sym}
use Rattle.std.proofs.lemmas.Bool.{false≢true, true≢false}
use Rattle.std.proofs.lemmas.Option.{none-some}
use Rattle.rr_roster.specs.declared.company.Corp.{Corp}
use Rattle.rr_books.specs.declared.acts.Act.{Act}
use Rattle.rr_books.specs.declared.acts.Act.TheVariants as A
use Rattle.rr_books.specs.declared.entries.Entry.TheVariants as E
use Rattle.rr_books.specs.declared.entries.Marker.TheVariants as M
use Rattle.rr_books.specs.declared.parties.Seat.{Seat}
use Rattle.rr_books.specs.declared.refusal.Refusal.{Refusal}
use Rattle.rr_books.specs.declared.refusal.Refusal.TheVariants as R
use Rattle.rr_books.specs.Book.{Book}
use Rattle.rr_auction.specs.Effects as auction
use Rattle.rr_auction.specs.Opening.{opened}
use Rattle.rr_code.specs.declared.command.Command.{Command}
use Rattle.rr_code.specs.declared.command.Command.TheVariants.{Open, BuyPrivate, Bid, Pass, Par, BuyShare, Sell, Swap, Done, Order}
use Rattle.rr_orders.specs.declared.order.Order.TheVariants as O
use Rattle.rr_desk.specs.Incomes.{dollars}
use Rattle.rr_kit.specs.declared.kit.Kit.{Kit}
use Rattle.rr_market.specs.declared.operations.turn.Stage.{Stage}
use Rattle.rr_market.specs.declared.operations.turn.Stage.TheVariants as G
use Rattle.rr_market.specs.declared.operations.turn.TurnStep.{TurnStep}
use Rattle.rr_market.specs.declared.operations.turn.TurnStep.TheVariants as T
use Rattle.rr_market.specs.Operations.Due.{due}
use Rattle.rr_market.specs.Operations.Progress.{Progress, after_act, progress}
use Rattle.rr_market.specs.Operations.Turn.{is_at, is_up_to, takes}
use Rattle.rr_market.proofs.OperationsLemmas.ProgressLemmas.{progress-none, progress-push}
use Rattle.rr_market.proofs.OperationsLemmas.StayLemmas.{due_stays}
use Rattle.rr_operate.specs.Effects.{entries_of, keeps_revenue, runs_best}
use Rattle.rr_operate.specs.Order.{actor, is_discard}
use Rattle.rr_operate.specs.Rows as rows
use Rattle.rr_operate.proofs.InOrder.{only_the_corporation_due, steps_are_kept}
use Rattle.rr_routes.specs.Routes.{Optimal}
use Rattle.rr_rounds.specs.Round.{begins_stock_round}
use Rattle.rr_running.specs.Running.{IsRunVerdict, is_broken, is_run, is_unread, net_now, run_revenue}
use Rattle.rr_running.proofs.Judged.{words_earn}
use Rattle.rr_rules.specs.Judging.{judgement, judgement_in, name_verdict, stage}
use Rattle.rr_rules.specs.Playing.{state_in, stock_entries}
use Rattle.rr_rules.specs.State.{GameState}
use Rattle.rr_rules.proofs.Judging.{at_stage}
use Rattle.rr_game.specs.Names.{act_of, seat_of}
use Rattle.rr_game.specs.Play.{opened_state, play, played_on, state_with}
use Rattle.rr_game.specs.Verdict.{act_judgement, command_judgement, command_judgement_in_play, over_verdict}
use Rattle.rr_turns.specs.Judgement.{IsVerdict, Judgement}
use Rattle.rr_turns.proofs.JudgementLemmas.{lawful-behind}
use Rattle.rr_laws.specs.Best.{IsBestRun}
use Rattle.rr_laws.specs.Dividends.{IsLegalRun, runs_in_turn, runs_or_ends}
use Rattle.rr_laws.specs.Sound.{AreAccepted}
use Rattle.rr_laws.proofs.AuctionAdds.{auction_adds}
use Rattle.rr_laws.proofs.BestCommands.{CertifiedAreOptimal, at_its_stage}
use Rattle.rr_laws.proofs.ForcedLeaves.{need_goes}
use Rattle.rr_laws.proofs.KeptTurn.{due_kept, no_stock_round, not_pay_kept, stage_kept, step_kept, step_of}
use Rattle.rr_laws.proofs.LeavesAuction.{bare_of_no_turn, calm_of_no_turn, is_of_no_turn, is_quiet, plain_leave, plain_quiet, still_plain}
use Rattle.rr_laws.proofs.Opened.{opening_meets}
use Rattle.rr_laws.proofs.RoundLeaves.{stock_calms}
use Rattle.rr_laws.proofs.SoundTables.{in_play, row_from, turn_lawful}
use Rattle.rr_laws.proofs.TurnLeaves.{GoesOn, SaysItself, end_says, turn_goes, turn_leaves, turn_says}
use Rattle.rr_laws.proofs.TurnSoFar.{StaysInTurn, TurnSoFar, play-push, runs-push, turn_ends, turn_idles, turn_pays, turn_runs, turn_stays}

-- which steps come before a run

lay_is_early : (s : TurnStep) → is_at s T.Lay ≡ true → is_up_to s T.Run ≡ true
lay_is_early T.Lay h = refl
lay_is_early T.Station h = refl
lay_is_early T.Run h = refl
lay_is_early T.Pay h = absurd (false≢true h)
lay_is_early T.Train h = absurd (false≢true h)

station_is_early : (s : TurnStep) → is_up_to s T.Station ≡ true → is_up_to s T.Run ≡ true
station_is_early T.Lay h = refl
station_is_early T.Station h = refl
station_is_early T.Run h = refl
station_is_early T.Pay h = absurd (false≢true h)
station_is_early T.Train h = absurd (false≢true h)

-- what a command's own words make of the step, and what follows on them leaves alone

quiet_rest : (act : Act) (es : Book) → (says : SaysItself act es) → list_all is_quiet says.rest ≡ true
quiet_rest act es says = plain_quiet says.rest (still_plain says.rest says.still)

itself_steps : (book es : Book) (act : Act) → SaysItself act es → step_of (book ++ es) ≡ (after_act act (progress book)).step
itself_steps book es act says =
    let said = E.Step (M.Act act) in
    ap (λ (xs : Book). step_of (book ++ xs)) says.is
    ∙ ap step_of (sym (append_assoc book (said ∷ []) says.rest))
    ∙ step_kept (book ++ said ∷ []) says.rest (quiet_rest act es says)
    ∙ ap (λ (p : Progress). p.step) (progress-push book said)

itself_trades : (es : Book) (act : Act) → SaysItself act es → list_any begins_stock_round es ≡ false
itself_trades es act says = ap (λ (xs : Book). list_any begins_stock_round xs) says.is ∙ no_stock_round says.rest (quiet_rest act es says)

stage_stays : (kit : Kit) (state : GameState) (act : Act) → SaysItself act (entries_of kit state.revenue state.book act) → stage state.book ≡ G.Operating
    → stage (state.book ++ entries_of kit state.revenue state.book act) ≡ G.Operating
stage_stays kit state act says operating =
    let es = entries_of kit state.revenue state.book act in
    stage_kept state.book es (turn_leaves kit state.revenue state.book act) (itself_trades es act says) operating

goes_stay : (kit : Kit) (state : GameState) (es : Book) → GoesOn state.book es → StaysInTurn kit state (record { book = state.book ++ es; revenue = state.revenue })
goes_stay kit state es goes =
    let quiet = plain_quiet es goes.plain in
    record {
      revenue = refl;
      step = step_kept state.book es quiet;
      is_due = due_kept kit.chart state.book es quiet;
      stage = λ operating. stage_kept state.book es (plain_leave es goes.plain) (no_stock_round es quiet) operating;
    }

-- no dividend is due if no trains have run
unpaid : (kit : Kit) (commands : List Command) (state : GameState) → TurnSoFar kit commands state → runs_in_turn commands ≡ 0 → is_at (step_of state.book) T.Pay ≡ false
unpaid kit commands state h none = by_test (is_at (step_of state.book) T.Pay) refl
  where
    by_test : (b : Bool) → is_at (step_of state.book) T.Pay ≡ b → is_at (step_of state.book) T.Pay ≡ false
    by_test false is = is
    by_test true is = let once : 1 ≡ 0 = sym (h.ran is).once ∙ none in absurd (omega (arith, once))

-- a legal run, by its verdict

none_told : (fault : Refusal) → None ≡ Some fault → ⊥
none_told fault same = none-some fault same

legal_run : (kit : Kit) (book : Book) (c : Corp) (words : List ℕ) → IsRunVerdict kit book c words None → IsLegalRun kit book c words
legal_run kit book c words (is_run sheet earned spelled legal is) =
    let net = net_now kit.board kit.tiles book c in
    record {
      sheet = sheet;
      spelled = spelled;
      run = legal.run;
      is_run = legal.is_run;
      written = legal.is_sheet;
      pays = ap dollars (sym (words_earn net words sheet earned spelled legal) ∙ sym legal.earns);
    }
legal_run kit book c words (is_broken sheet clause spelled breaks is) = absurd (none_told (R.IllegalSheet clause) is)
legal_run kit book c words (is_unread none is) = absurd (none_told _ is)

-- one than which no legal run earns more
record IsOptimalRun (kit : Kit) (book : Book) (c : Corp) (words : List ℕ) : Type 0 where
  legal : IsLegalRun kit book c words
  optimal : Optimal (net_now kit.board kit.tiles book c) legal.run

optimal_run : (kit : Kit) (book : Book) (c : Corp) (words : List ℕ) → IsBestRun kit book c words → IsOptimalRun kit book c words
optimal_run kit book c words best = record {
  legal = record {
    sheet = best.sheet;
    spelled = best.spelled;
    run = best.run;
    is_run = best.optimal.is_run;
    written = best.written;
    pays = ap dollars best.pays;
  };
  optimal = best.optimal;
}

-- a run of the corporation that is due

module _ (kit : Kit) (commands : List Command) (state : GameState) (h : TurnSoFar kit commands state) where
  early : (act : Act) → rows.IsVerdict kit state.book state.revenue act None → (takes (step_of state.book) act ≡ true → is_up_to (step_of state.book) T.Run ≡ true) → runs_in_turn commands ≡ 0
  early act lawful first = h.fresh (first (steps_are_kept kit state.book state.revenue act lawful))

  due_acts : (act : Act) (c : Corp) → rows.IsVerdict kit state.book state.revenue act None → is_discard act ≡ false → actor act ≡ Some c → due kit.chart state.book ≡ Some c
  due_acts act c lawful kept acts =
      let known = only_the_corporation_due kit state.book state.revenue act lawful kept in
      known.1 ∙ sym known.2 ∙ acts

  pub by_run : (c : Corp) (words : List ℕ) → stage state.book ≡ G.Operating → IsVerdict (judgement_in G.Operating kit state (A.Run c words)) None
      → state_in G.Operating kit state (A.Run c words) ≡ play kit (commands ++ Order (O.Run c words) ∷ [])
      → TurnSoFar kit (commands ++ Order (O.Run c words) ∷ []) (state_in G.Operating kit state (A.Run c words))
  by_run c words operating judged is =
      let act = A.Run c words in
      let command = Order (O.Run c words) in
      let said = E.Step (M.Act act) in
      let lawful = turn_lawful kit state act judged in
      let none = early act lawful (λ taken. taken) in
      let row : rows.IsRowVerdict kit state.book act None = row_from (rows.first_verdict kit state.book state.revenue act) (rows.IsRowVerdict kit state.book act) judged in
      turn_runs kit commands (state_in G.Operating kit state act) command is
      (ap (λ (p : Progress). p.step) (progress-push state.book said))
      (stage_kept state.book (said ∷ []) refl refl operating)
      (record {
        corp = c;
        before = commands;
        words = words;
        certificate = None;
        since = [];
        stands = refl;
        none_before = none;
        none_since = refl;
        legal = subst (λ (s : GameState). IsLegalRun kit s.book c words) h.is (legal_run kit state.book c words row);
        best = λ some. absurd (false≢true some);
        earns = ap (λ (s : GameState). run_revenue kit s.book c words) h.is;
        is_due = due_stays kit.chart state.book (said ∷ []) refl refl ∙ due_acts act c lawful refl refl;
        once = runs-push commands command ∙ ap (λ n. n + 1) none;
      })

  pub by_best_run : CertifiedAreOptimal → (c : Corp) (words certificate : List ℕ) → stage state.book ≡ G.Operating → IsVerdict (judgement_in G.Operating kit state (A.RunBest c words certificate)) None
      → state_in G.Operating kit state (A.RunBest c words certificate) ≡ play kit (commands ++ Order (O.RunBest c words certificate) ∷ [])
      → TurnSoFar kit (commands ++ Order (O.RunBest c words certificate) ∷ []) (state_in G.Operating kit state (A.RunBest c words certificate))
  unfolding runs_best
  by_best_run law c words certificate operating judged is =
      let act = A.RunBest c words certificate in
      let command = Order (O.RunBest c words certificate) in
      let best = E.Best c words certificate in
      let said = E.Step (M.Act act) in
      let lawful = turn_lawful kit state act judged in
      let none = early act lawful (λ taken. taken) in
      let ran : IsOptimalRun kit (play kit commands).book c words =
      subst (λ (s : GameState). IsOptimalRun kit s.book c words) h.is (optimal_run kit state.book c words (at_its_stage law G.Operating kit state c words certificate judged)) in
      turn_runs kit commands (state_in G.Operating kit state act) command is
      (ap step_of (sym (append_assoc state.book (best ∷ []) (said ∷ []))) ∙ ap (λ (p : Progress). p.step) (progress-push (state.book ++ best ∷ []) said))
      (stage_kept state.book (best ∷ said ∷ []) refl refl operating)
      (record {
        corp = c;
        before = commands;
        words = words;
        certificate = Some certificate;
        since = [];
        stands = refl;
        none_before = none;
        none_since = refl;
        legal = ran.legal;
        best = λ some. ran.optimal;
        earns = ap (λ (s : GameState). run_revenue kit s.book c words) h.is;
        is_due = due_stays kit.chart state.book (best ∷ said ∷ []) refl refl ∙ due_acts act c lawful refl refl;
        once = runs-push commands command ∙ ap (λ n. n + 1) none;
      })

  pub by_end : (c : Corp) → state_in G.Operating kit state (A.End c) ≡ play kit (commands ++ Order (O.End c) ∷ [])
      → TurnSoFar kit (commands ++ Order (O.End c) ∷ []) (state_in G.Operating kit state (A.End c))
  by_end c is =
      let command = Order (O.End c) in
      let said = E.Step (M.Act (A.End c)) in
      let says = end_says kit c state.book in
      turn_ends kit commands (state_in G.Operating kit state (A.End c)) command is (runs-push commands command) refl
      (ap (λ (xs : Book). is_at (step_of (state.book ++ xs)) T.Pay) says.is
      ∙ ap (λ (b : Book). is_at (step_of b) T.Pay) (sym (append_assoc state.book (said ∷ []) says.rest))
      ∙ not_pay_kept (state.book ++ said ∷ []) says.rest (calm_of_no_turn says.rest says.calm) (ap (λ (p : Progress). is_at p.step T.Pay) (progress-push state.book said)))

  -- any other command

  module _ (command : Command) (other : runs_or_ends command ≡ false) where
    goes_by : (es : Book) → GoesOn state.book es → record { book = state.book ++ es; revenue = state.revenue } ≡ play kit (commands ++ command ∷ [])
        → TurnSoFar kit (commands ++ command ∷ []) (record { book = state.book ++ es; revenue = state.revenue })
    goes_by es goes is = turn_stays kit commands state (record { book = state.book ++ es; revenue = state.revenue }) command other is (goes_stay kit state es goes) h

    by_operation : (act : Act) → keeps_revenue act ≡ true → stage state.book ≡ G.Operating → IsVerdict (judgement_in G.Operating kit state act) None
        → state_in G.Operating kit state act ≡ play kit (commands ++ command ∷ []) → TurnSoFar kit (commands ++ command ∷ []) (state_in G.Operating kit state act)
    by_operation (A.Lay c hex tile turn) keeps operating judged is =
        let act = A.Lay c hex tile turn in
        let lawful = turn_lawful kit state act judged in
        let says = turn_says kit state.revenue state.book act refl in
        turn_idles kit commands state (state_in G.Operating kit state act) command other is (early act lawful (lay_is_early (step_of state.book))) refl
        (ap (λ (s : TurnStep). is_at s T.Pay) (itself_steps state.book _ act says)) h
    by_operation (A.Station c hex centre) keeps operating judged is =
        let act = A.Station c hex centre in
        let lawful = turn_lawful kit state act judged in
        let says = turn_says kit state.revenue state.book act refl in
        turn_idles kit commands state (state_in G.Operating kit state act) command other is (early act lawful (station_is_early (step_of state.book))) refl
        (ap (λ (s : TurnStep). is_at s T.Pay) (itself_steps state.book _ act says)) h
    by_operation (A.Run c sheet) keeps operating judged is = absurd (false≢true keeps)
    by_operation (A.RunBest c sheet certificate) keeps operating judged is = absurd (false≢true keeps)
    by_operation (A.End c) keeps operating judged is = absurd (false≢true keeps)
    by_operation (A.PayOut c) keeps operating judged is =
        let act = A.PayOut c in
        let says = turn_says kit state.revenue state.book act refl in
        turn_pays kit commands state (state_in G.Operating kit state act) command other is refl (itself_steps state.book _ act says) (stage_stays kit state act says operating) h
    by_operation (A.Hold c) keeps operating judged is =
        let act = A.Hold c in
        let says = turn_says kit state.revenue state.book act refl in
        turn_pays kit commands state (state_in G.Operating kit state act) command other is refl (itself_steps state.book _ act says) (stage_stays kit state act says operating) h
    by_operation (A.Force c) keeps operating judged is = goes_by _ (need_goes kit.roster kit.chart state.book (A.Force c)) is
    by_operation (A.Raise s c n) keeps operating judged is = goes_by _ (need_goes kit.roster kit.chart state.book (A.Raise s c n)) is
    by_operation (A.Bankrupt s) keeps operating judged is = goes_by _ (need_goes kit.roster kit.chart state.book (A.Bankrupt s)) is
    by_operation act keeps operating judged is = goes_by _ (turn_goes kit state.revenue state.book act refl) is

    by_stage : (s : Stage) → stage state.book ≡ s → (act : Act) → keeps_revenue act ≡ true → IsVerdict (judgement_in s kit state act) None
        → state_in s kit state act ≡ play kit (commands ++ command ∷ []) → TurnSoFar kit (commands ++ command ∷ []) (state_in s kit state act)
    by_stage G.Auction staged act keeps judged is =
        let es = auction.entries_of kit.roster kit.chart state.book act in
        let none = h.outside (λ operating. let same : G.Auction ≡ G.Operating = sym staged ∙ operating in cc) in
        turn_idles kit commands state (state_in G.Auction kit state act) command other is none refl
        (not_pay_kept state.book es (bare_of_no_turn es (auction_adds kit.roster kit.chart state.book act)) (unpaid kit commands state h none)) h
    by_stage G.Stock staged act keeps judged is =
        let es = stock_entries kit state.book act in
        let none = h.outside (λ operating. let same : G.Stock ≡ G.Operating = sym staged ∙ operating in cc) in
        turn_idles kit commands state (state_in G.Stock kit state act) command other is none refl
        (not_pay_kept state.book es (calm_of_no_turn es (stock_calms kit state.book act)) (unpaid kit commands state h none)) h
    by_stage G.Operating staged act keeps judged is = by_operation act keeps staged judged is

-- what a command stands for, if it runs no trains and ends no turn

abbrev KeepsRevenue : Option Act → Type 0
KeepsRevenue None = Unit {0}
KeepsRevenue (Some act) = keeps_revenue act ≡ true

by_seat : (f : Seat → Act) (seat : Option Seat) → ((s : Seat) → keeps_revenue (f s) ≡ true) → KeepsRevenue (option_map f seat)
by_seat f None each = tt
by_seat f (Some s) each = each s

by_seats : (f : Seat → Seat → Act) (one other : Option Seat) → ((s t : Seat) → keeps_revenue (f s t) ≡ true) → KeepsRevenue (option_and_then (λ s. option_map (f s) other) one)
by_seats f None other each = tt
by_seats f (Some s) other each = by_seat (f s) other (each s)

keeps_named : (players : List (List ℕ)) (command : Command) → runs_or_ends command ≡ false → KeepsRevenue (act_of players command)
keeps_named players (Open others) other = tt
keeps_named players (BuyPrivate player) other = by_seat A.BuyPrivate (seat_of players player) (λ s. refl)
keeps_named players (Bid player private amount) other = by_seat (λ s. A.Bid s private amount) (seat_of players player) (λ s. refl)
keeps_named players (Pass player) other = by_seat A.Pass (seat_of players player) (λ s. refl)
keeps_named players (Par player corp price) other = by_seat (λ s. A.Par s corp price) (seat_of players player) (λ s. refl)
keeps_named players (BuyShare player corp source) other = by_seat (λ s. A.BuyShare s corp source) (seat_of players player) (λ s. refl)
keeps_named players (Sell player corp count) other = by_seat (λ s. A.Sell s corp count) (seat_of players player) (λ s. refl)
keeps_named players (Swap player source) other = by_seat (λ s. A.Swap s source) (seat_of players player) (λ s. refl)
keeps_named players (Done player) other = by_seat A.Done (seat_of players player) (λ s. refl)
keeps_named players (Order (O.Run corp sheet)) other = absurd (true≢false other)
keeps_named players (Order (O.RunBest corp sheet certificate)) other = absurd (true≢false other)
keeps_named players (Order (O.End corp)) other = absurd (true≢false other)
keeps_named players (Order (O.BuyTrainFrom corp kind seller price president seller_president)) other =
    by_seats (λ buys sells. A.BuyTrainFrom corp kind seller price buys sells) (seat_of players president) (seat_of players seller_president) (λ s t. refl)
keeps_named players (Order (O.Raise player corp count)) other = by_seat (λ s. A.Raise s corp count) (seat_of players player) (λ s. refl)
keeps_named players (Order (O.Bankrupt player)) other = by_seat A.Bankrupt (seat_of players player) (λ s. refl)
keeps_named players (Order order) other = refl

-- by the rules in force

in_force : (kit : Kit) (state : GameState) (act : Act) → IsVerdict (judgement kit state act) None → IsVerdict (judgement_in (stage state.book) kit state act) None
in_force kit state act lawful =
    let s = stage state.book in
    let IsLawful : Judgement Refusal → Type 0 = λ j. IsVerdict j None in
    lawful-behind (name_verdict kit act) (judgement_in s kit state act) (subst IsLawful (at_stage s kit state act refl) lawful)

module _ (law : CertifiedAreOptimal) (kit : Kit) (commands : List Command) (state : GameState) (h : TurnSoFar kit commands state) where
  run_in : (s : Stage) → stage state.book ≡ s → (c : Corp) (words : List ℕ) → IsVerdict (judgement_in s kit state (A.Run c words)) None
      → state_in s kit state (A.Run c words) ≡ play kit (commands ++ Order (O.Run c words) ∷ [])
      → TurnSoFar kit (commands ++ Order (O.Run c words) ∷ []) (state_in s kit state (A.Run c words))
  run_in G.Auction staged c words judged is = absurd cc
  run_in G.Stock staged c words judged is = absurd cc
  run_in G.Operating staged c words judged is = by_run kit commands state h c words staged judged is

  best_in : (s : Stage) → stage state.book ≡ s → (c : Corp) (words certificate : List ℕ) → IsVerdict (judgement_in s kit state (A.RunBest c words certificate)) None
      → state_in s kit state (A.RunBest c words certificate) ≡ play kit (commands ++ Order (O.RunBest c words certificate) ∷ [])
      → TurnSoFar kit (commands ++ Order (O.RunBest c words certificate) ∷ []) (state_in s kit state (A.RunBest c words certificate))
  best_in G.Auction staged c words certificate judged is = absurd cc
  best_in G.Stock staged c words certificate judged is = absurd cc
  best_in G.Operating staged c words certificate judged is = by_best_run kit commands state h law c words certificate staged judged is

  end_in : (s : Stage) → (c : Corp) → IsVerdict (judgement_in s kit state (A.End c)) None
      → state_in s kit state (A.End c) ≡ play kit (commands ++ Order (O.End c) ∷ []) → TurnSoFar kit (commands ++ Order (O.End c) ∷ []) (state_in s kit state (A.End c))
  end_in G.Auction c judged is = absurd cc
  end_in G.Stock c judged is = absurd cc
  end_in G.Operating c judged is = by_end kit commands state h c is

  named_on : (command : Command) → runs_or_ends command ≡ false → (named : Option Act) → KeepsRevenue named → IsVerdict (act_judgement kit state named) None
      → state_with kit state named ≡ play kit (commands ++ command ∷ []) → TurnSoFar kit (commands ++ command ∷ []) (state_with kit state named)
  named_on command other None keeps lawful is = absurd (none_told R.NoSuchName lawful)
  named_on command other (Some act) keeps lawful is = by_stage kit commands state h command other (stage state.book) refl act keeps (in_force kit state act lawful) is

  command_on : (players : List (List ℕ)) (command : Command) → IsVerdict (act_judgement kit state (act_of players command)) None
      → played_on kit players state command ≡ play kit (commands ++ command ∷ []) → TurnSoFar kit (commands ++ command ∷ []) (played_on kit players state command)
  command_on players (Order (O.Run c words)) lawful is = run_in (stage state.book) refl c words (in_force kit state (A.Run c words) lawful) is
  command_on players (Order (O.RunBest c words certificate)) lawful is = best_in (stage state.book) refl c words certificate (in_force kit state (A.RunBest c words certificate) lawful) is
  command_on players (Order (O.End c)) lawful is = end_in (stage state.book) c (in_force kit state (A.End c) lawful) is
  command_on players command lawful is = named_on command refl (act_of players command) (keeps_named players command refl) lawful is

-- so it is after whatever commands a table was played with

module _ (law : CertifiedAreOptimal) (kit : Kit) (players : List (List ℕ)) where
  one_on : (played : List Command) (state : GameState) (command : Command) → TurnSoFar kit (Open players ∷ played) state → IsVerdict (command_judgement kit players state command) None
      → TurnSoFar kit (Open players ∷ (played ++ command ∷ [])) (played_on kit players state command)
  one_on played state command h lawful =
      command_on law kit (Open players ∷ played) state h players command
      (in_play kit players state command (lawful-behind (over_verdict kit state) (command_judgement_in_play kit players state command) lawful))
      (ap (λ (s : GameState). played_on kit players s command) h.is ∙ sym (play-push kit players played command))

  all_on : (played commands : List Command) (state : GameState) → TurnSoFar kit (Open players ∷ played) state → AreAccepted kit players state commands
      → TurnSoFar kit (Open players ∷ (played ++ commands)) (fold (played_on kit players) state commands)
  all_on played [] state h lawful = subst (λ (cs : List Command). TurnSoFar kit (Open players ∷ cs) state) (sym (append-nil played)) h
  all_on played (command ∷ commands) state h lawful =
      subst (λ (cs : List Command). TurnSoFar kit (Open players ∷ cs) (fold (played_on kit players) (played_on kit players state command) commands)) (append_assoc played (command ∷ []) commands)
      (all_on (played ++ command ∷ []) commands (played_on kit players state command) (one_on played state command h lawful.0) lawful.1)

  none_ran : runs_in_turn (Open players ∷ []) ≡ 0
  unfolding runs_in_turn
  none_ran = refl

  opened_so : TurnSoFar kit (Open players ∷ []) (opened_state players kit.roster)
  opened_so = record {
    is = refl;
    fresh = λ early. none_ran;
    ran = λ pays. absurd (true≢false (sym pays ∙ not_pay_kept [] (opened players kit.roster) (opening_meets is_of_no_turn (record { payments = λ n seat. refl; moves = λ cert. refl; trains = λ t. refl; begins = λ names. refl }) players kit.roster) (ap (λ (p : Progress). is_at p.step T.Pay) progress-none)));
    outside = λ away. none_ran;
    idle = λ none. refl;
  }

  pub turn_so_far : (commands : List Command) → AreAccepted kit players (opened_state players kit.roster) commands
      → TurnSoFar kit (Open players ∷ commands) (fold (played_on kit players) (opened_state players kit.roster) commands)
  turn_so_far commands lawful = all_on [] commands (opened_state players kit.roster) opened_so lawful
