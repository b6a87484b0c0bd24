-- What trains have earned is what the book says, whatever commands come.
use Rattle.std.specs.Prelude.{◌≡◌, ℕ, Bool, true, false, ◌||◌, List, [], ◌∷◌, ◌++◌, Option, None, Some, fold, refl, unwrap_or}
use Rattle.std.specs.List.{list_all, list_any}
use Rattle.std.specs.Option.{option_or}
use Rattle.std.proofs.Common.{◌∙◌, ap, append-nil, append_assoc, sym}
use Rattle.std.proofs.lemmas.Bool.{and_parts, false≢true, or_parts, true≢false}
use Rattle.rr_roster.specs.declared.company.Corp.{Corp}
use Rattle.rr_books.specs.declared.acts.Act.{Act}
use Rattle.rr_books.specs.declared.acts.Act.TheVariants as A
use Rattle.rr_books.specs.declared.entries.Entry.{Entry}
use Rattle.rr_books.specs.declared.entries.Entry.TheVariants as E
use Rattle.rr_books.specs.declared.entries.Marker.TheVariants as M
use Rattle.rr_books.specs.declared.parties.Money.{Money}
use Rattle.rr_books.specs.Book.{Book}
use Rattle.rr_auction.specs.Effects as auction
use Rattle.rr_auction.specs.Opening.{opened}
use Rattle.rr_code.specs.declared.command.Command.{Command}
use Rattle.rr_code.specs.declared.command.Command.TheVariants.{Open}
use Rattle.rr_desk.specs.Incomes.{dollars}
use Rattle.rr_kit.specs.declared.kit.Kit.{Kit}
use Rattle.rr_market.specs.declared.operations.turn.Stage.{Stage}
use Rattle.rr_market.specs.declared.operations.turn.Stage.TheVariants as G
use Rattle.rr_operate.specs.Effects.{ends_turn, runs_best}
use Rattle.rr_running.specs.Running.{run_revenue}
use Rattle.rr_rules.specs.Judging.{stage}
use Rattle.rr_rules.specs.Playing.{state_in, stock_entries}
use Rattle.rr_rules.specs.State.{GameState}
use Rattle.rr_game.specs.Names.{act_of}
use Rattle.rr_game.specs.Play.{opened_state, played_on, state_with}
use Rattle.rr_laws.specs.Revenue.{RevenueIsOfTheLastRun, RevenuesAreOfTheBook, earned_by, is_run_or_end, last_earned, revenue_of}
use Rattle.rr_laws.proofs.AuctionAdds.{auction_adds}
use Rattle.rr_laws.proofs.ForcedLeaves.{need_goes}
use Rattle.rr_laws.proofs.LeavesAuction.{bare_of_no_turn, calm_of_no_turn, is_of_no_turn, keeps_step, plain_quiet, quiet_of_no_turn, still_plain}
use Rattle.rr_laws.proofs.Opened.{opening_meets}
use Rattle.rr_laws.proofs.RoundLeaves.{stock_calms}
use Rattle.rr_laws.proofs.TurnLeaves.{GoesOn, SaysItself, end_says, turn_goes, turn_says}

-- entries none of which is a run or the end of a turn say nothing

none_or : {X : Type 0} (o : Option X) → option_or o None ≡ o
none_or None = refl
none_or (Some x) = refl

or_assoc : {X : Type 0} (a b c : Option X) → option_or a (option_or b c) ≡ option_or (option_or a b) c
or_assoc None b c = refl
or_assoc (Some x) b c = refl

says_nothing : (kit : Kit) (before : Book) (e : Entry) → is_run_or_end e ≡ false → earned_by kit before e ≡ None
says_nothing kit before (E.Step (M.Act (A.Run c words))) h = absurd (true≢false h)
says_nothing kit before (E.Step (M.Act (A.End c))) h = absurd (true≢false h)
says_nothing kit before (E.Best c words certificate) h = absurd (true≢false h)
says_nothing kit before _ h = refl

say_nothing : (kit : Kit) (before es : Book) → list_any is_run_or_end es ≡ false → last_earned kit before es ≡ None
say_nothing kit before [] h = refl
say_nothing kit before (e ∷ es) h =
    let parts = or_parts (is_run_or_end e) (list_any is_run_or_end es) h in
    ap (λ (o : Option Money). option_or o (earned_by kit before e)) (say_nothing kit (before ++ e ∷ []) es parts.1) ∙ says_nothing kit before e parts.0

earned-append : (kit : Kit) (before xs ys : Book) → last_earned kit before (xs ++ ys) ≡ option_or (last_earned kit (before ++ xs) ys) (last_earned kit before xs)
earned-append kit before [] ys = sym (none_or (last_earned kit (before ++ []) ys) ∙ ap (λ (b : Book). last_earned kit b ys) (append-nil before))
earned-append kit before (e ∷ xs) ys =
    let on = before ++ e ∷ [] in
    ap (λ (o : Option Money). option_or o (earned_by kit before e)) (earned-append kit on xs ys)
    ∙ sym (or_assoc (last_earned kit (on ++ xs) ys) (last_earned kit on xs) (earned_by kit before e))
    ∙ ap (λ (b : Book). option_or (last_earned kit b ys) (last_earned kit before (e ∷ xs))) (append_assoc before (e ∷ []) xs)

-- after such entries the revenue is what it was
pub kept : (kit : Kit) (book es : Book) → list_any is_run_or_end es ≡ false → revenue_of kit (book ++ es) ≡ revenue_of kit book
unfolding revenue_of
kept kit book es silent =
    ap (λ (o : Option Money). unwrap_or o (dollars 0))
    (earned-append kit [] book es ∙ ap (λ (o : Option Money). option_or o (last_earned kit [] book)) (say_nothing kit book es silent))

-- and after one that says something it is that
said : (kit : Kit) (before since : Book) (e : Entry) (earned : Money) → earned_by kit before e ≡ Some earned → list_any is_run_or_end since ≡ false
    → revenue_of kit (before ++ e ∷ since) ≡ earned
unfolding revenue_of
said kit before since e earned says silent =
    ap (λ (o : Option Money). unwrap_or o (dollars 0))
    (earned-append kit [] before (e ∷ since)
    ∙ ap (λ (o : Option Money). option_or (option_or o (earned_by kit before e)) (last_earned kit [] before)) (say_nothing kit (before ++ e ∷ []) since silent)
    ∙ ap (λ (o : Option Money). option_or o (last_earned kit [] before)) says)

pub silent_book : (kit : Kit) (book : Book) → list_any is_run_or_end book ≡ false → revenue_of kit book ≡ dollars 0
unfolding revenue_of
silent_book kit book silent = ap (λ (o : Option Money). unwrap_or o (dollars 0)) (say_nothing kit [] book silent)

pub of_the_last_run : RevenueIsOfTheLastRun
of_the_last_run = record {
  run = λ kit before since c words silent. said kit before since (E.Step (M.Act (A.Run c words))) (run_revenue kit before c words) refl silent;
  best = λ kit before since c words certificate silent. said kit before since (E.Best c words certificate) (run_revenue kit before c words) refl silent;
  ended = λ kit before since c silent. said kit before since (E.Step (M.Act (A.End c))) (dollars 0) refl silent;
  none = silent_book;
}

-- which entries are silent

silent_act : (act : Act) → keeps_step act ≡ true → is_run_or_end (E.Step (M.Act act)) ≡ false
silent_act (A.Run c words) h = absurd (false≢true h)
silent_act (A.End c) h = absurd (false≢true h)
silent_act _ h = refl

silent_once : (e : Entry) → is_of_no_turn e ≡ true → is_run_or_end e ≡ false
silent_once (E.Best c words certificate) h = absurd (false≢true h)
silent_once (E.Step (M.Act act)) h = silent_act act h
silent_once _ h = refl

both_false : (a b : Bool) → a ≡ false → b ≡ false → (a || b) ≡ false
both_false a b h k = ap (λ (x : Bool). x || b) h ∙ k

pub silent : (es : Book) → list_all is_of_no_turn es ≡ true → list_any is_run_or_end es ≡ false
silent [] h = refl
silent (e ∷ es) h =
    let parts = and_parts (is_of_no_turn e) (list_all is_of_no_turn es) h in
    both_false (is_run_or_end e) (list_any is_run_or_end es) (silent_once e parts.0) (silent es parts.1)

goes_silent : (book es : Book) → GoesOn book es → list_any is_run_or_end es ≡ false
goes_silent book es goes = silent es (quiet_of_no_turn es (plain_quiet es goes.plain))

itself_silent : (act : Act) (es : Book) → is_run_or_end (E.Step (M.Act act)) ≡ false → SaysItself act es → list_any is_run_or_end es ≡ false
itself_silent act es h says =
    ap (λ (xs : Book). list_any is_run_or_end xs) says.is
    ∙ both_false (is_run_or_end (E.Step (M.Act act))) (list_any is_run_or_end says.rest) h (silent says.rest (quiet_of_no_turn says.rest (plain_quiet says.rest (still_plain says.rest says.still))))

-- a run, and the end of a turn

best_told : (kit : Kit) (book : Book) (c : Corp) (sheet certificate : List ℕ) → run_revenue kit book c sheet ≡ revenue_of kit (book ++ runs_best c sheet certificate book)
unfolding runs_best
best_told kit book c sheet certificate = sym (of_the_last_run.best kit book (E.Step (M.Act (A.RunBest c sheet certificate)) ∷ []) c sheet certificate refl)

end_told : (kit : Kit) (book : Book) (c : Corp) → dollars 0 ≡ revenue_of kit (book ++ ends_turn kit c book)
end_told kit book c =
    let says = end_says kit c book in
    sym (ap (λ (xs : Book). revenue_of kit (book ++ xs)) says.is ∙ of_the_last_run.ended kit book says.rest c (silent says.rest (calm_of_no_turn says.rest says.calm)))

-- what a state says of its trains is what its book says
abbrev IsTold : Kit → GameState → Type 0
IsTold kit state = state.revenue ≡ revenue_of kit state.book

still_told : (kit : Kit) (state : GameState) (es : Book) → IsTold kit state → list_any is_run_or_end es ≡ false → state.revenue ≡ revenue_of kit (state.book ++ es)
still_told kit state es h quiet = h ∙ sym (kept kit state.book es quiet)

by_operation : (kit : Kit) (state : GameState) (act : Act) → IsTold kit state → IsTold kit (state_in G.Operating kit state act)
by_operation kit state (A.Run c sheet) h = sym (of_the_last_run.run kit state.book [] c sheet refl)
by_operation kit state (A.RunBest c sheet certificate) h = best_told kit state.book c sheet certificate
by_operation kit state (A.End c) h = end_told kit state.book c
by_operation kit state (A.Lay c hex tile turn) h = still_told kit state _ h (itself_silent (A.Lay c hex tile turn) _ refl (turn_says kit state.revenue state.book (A.Lay c hex tile turn) refl))
by_operation kit state (A.Station c hex centre) h = still_told kit state _ h (itself_silent (A.Station c hex centre) _ refl (turn_says kit state.revenue state.book (A.Station c hex centre) refl))
by_operation kit state (A.PayOut c) h = still_told kit state _ h (itself_silent (A.PayOut c) _ refl (turn_says kit state.revenue state.book (A.PayOut c) refl))
by_operation kit state (A.Hold c) h = still_told kit state _ h (itself_silent (A.Hold c) _ refl (turn_says kit state.revenue state.book (A.Hold c) refl))
by_operation kit state (A.Force c) h = still_told kit state _ h (goes_silent state.book _ (need_goes kit.roster kit.chart state.book (A.Force c)))
by_operation kit state (A.Raise s c n) h = still_told kit state _ h (goes_silent state.book _ (need_goes kit.roster kit.chart state.book (A.Raise s c n)))
by_operation kit state (A.Bankrupt s) h = still_told kit state _ h (goes_silent state.book _ (need_goes kit.roster kit.chart state.book (A.Bankrupt s)))
by_operation kit state act h = still_told kit state _ h (goes_silent state.book _ (turn_goes kit state.revenue state.book act refl))

by_stage : (s : Stage) (kit : Kit) (state : GameState) (act : Act) → IsTold kit state → IsTold kit (state_in s kit state act)
by_stage G.Auction kit state act h =
    let es = auction.entries_of kit.roster kit.chart state.book act in
    still_told kit state es h (silent es (bare_of_no_turn es (auction_adds kit.roster kit.chart state.book act)))
by_stage G.Stock kit state act h =
    let es = stock_entries kit state.book act in still_told kit state es h (silent es (calm_of_no_turn es (stock_calms kit state.book act)))
by_stage G.Operating kit state act h = by_operation kit state act h

by_named : (kit : Kit) (state : GameState) (named : Option Act) → IsTold kit state → IsTold kit (state_with kit state named)
by_named kit state None h = h
by_named kit state (Some act) h = by_stage (stage state.book) kit state act h

by_commands : (kit : Kit) (players : List (List ℕ)) (commands : List Command) (state : GameState) → IsTold kit state → IsTold kit (fold (played_on kit players) state commands)
by_commands kit players [] state h = h
by_commands kit players (command ∷ commands) state h =
    by_commands kit players commands (played_on kit players state command) (by_named kit state (act_of players command) h)

told_opened : (players : List (List ℕ)) (kit : Kit) → IsTold kit (opened_state players kit.roster)
told_opened players kit =
    sym (silent_book kit (opened players kit.roster)
    (silent (opened players kit.roster) (opening_meets is_of_no_turn (record { payments = λ n seat. refl; moves = λ cert. refl; trains = λ t. refl; begins = λ names. refl }) players kit.roster)))

pub revenues_are_of_the_book : RevenuesAreOfTheBook
revenues_are_of_the_book kit [] = sym (silent_book kit [] refl)
revenues_are_of_the_book kit (Open players ∷ commands) = by_commands kit players commands (opened_state players kit.roster) (told_opened players kit)
revenues_are_of_the_book kit (command ∷ commands) = sym (silent_book kit [] refl)
