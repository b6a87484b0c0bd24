-- Each run that a table's book has as best was best in the book before it.
use Rattle.std.specs.Prelude.{◌≡◌, ℕ, Bool, true, false, List, [], ◌∷◌, ◌++◌, None, Option, Some, fold, refl}
use Rattle.std.proofs.Common.{append-nil, append_assoc, sym, subst}
use Rattle.std.specs.List.{list_all}
use Rattle.std.proofs.lemmas.Bool.{false≢true}
use Rattle.rr_roster.specs.declared.company.Corp.{Corp}
use Rattle.rr_books.specs.declared.acts.Act.{Act}
use Rattle.rr_books.specs.declared.acts.Act.TheVariants as A
use Rattle.rr_books.specs.declared.entries.Entry.{Entry}
use Rattle.rr_books.specs.declared.entries.Entry.TheVariants as E
use Rattle.rr_books.specs.Book.{Book}
use Rattle.rr_auction.specs.Effects as auction
use Rattle.rr_code.specs.declared.command.Command.{Command}
use Rattle.rr_code.specs.declared.command.Command.TheVariants.{Open}
use Rattle.rr_rules.specs.Forced.Effects as forced
use Rattle.rr_rules.specs.Forced.Rules.{is_forced}
use Rattle.rr_kit.specs.declared.kit.Kit.{Kit}
use Rattle.rr_operate.specs.Effects.{runs_best}
use Rattle.rr_market.specs.declared.operations.turn.Stage.{Stage}
use Rattle.rr_market.specs.declared.operations.turn.Stage.TheVariants as G
use Rattle.rr_books.specs.declared.refusal.Refusal.{Refusal}
use Rattle.rr_rules.specs.Judging.{judgement, judgement_in, name_verdict, stage}
use Rattle.rr_rules.specs.Playing.{operating_entries, state_after, state_in, stock_entries}
use Rattle.rr_rules.specs.State.{GameState}
use Rattle.rr_rules.proofs.Judging.{at_stage}
use Rattle.rr_game.specs.Names.{act_of}
use Rattle.rr_game.specs.Play.{opened_state, play, played_on, state_with}
use Rattle.rr_game.specs.Verdict.{act_judgement, command_judgement_in_play, over_verdict}
use Rattle.rr_turns.specs.Judgement.{IsVerdict, Judgement}
use Rattle.rr_turns.proofs.JudgementLemmas.{lawful-behind}
use Rattle.rr_laws.specs.Best.{HasBestRuns, IsBestRun}
use Rattle.rr_laws.specs.Sound.{AreAccepted, ArePlayed}
use Rattle.rr_laws.proofs.AuctionAdds.{auction_adds}
use Rattle.rr_laws.proofs.BestCommands.{CertifiedAreOptimal, at_its_stage}
use Rattle.rr_laws.proofs.ForcedLeaves.{need_goes}
use Rattle.rr_laws.proofs.LeavesAuction.{bare_of_no_turn, calm_of_no_turn, has_no_best, none_best}
use Rattle.rr_laws.proofs.Opened.{opening_meets}
use Rattle.rr_laws.proofs.RoundLeaves.{stock_calms}
use Rattle.rr_laws.proofs.SoundTables.{in_play}
use Rattle.rr_laws.proofs.TurnLeaves.{goes_none, is_best_run, turn_has_no_best}

-- of these entries, behind those before them, each run as best was best
abbrev WereBest : Kit → Book → Book → Type 0
WereBest kit before [] = Unit {0}
WereBest kit before (E.Best c sheet certificate ∷ after) = IsBestRun kit before c sheet × WereBest kit (before ++ E.Best c sheet certificate ∷ []) after
WereBest kit before (e ∷ after) = WereBest kit (before ++ e ∷ []) after

none_were : (kit : Kit) (es before : Book) → list_all has_no_best es ≡ true → WereBest kit before es
none_were kit [] before none = tt
none_were kit (E.Best c sheet certificate ∷ es) before none = absurd (false≢true none)
none_were kit (e ∷ es) before none = none_were kit es (before ++ e ∷ []) none

-- the entries that follow on one
behind_one : (kit : Kit) (before xs ys : Book) (e : Entry) → WereBest kit (before ++ e ∷ xs) ys → WereBest kit ((before ++ e ∷ []) ++ xs) ys
behind_one kit before xs ys e h = subst (λ (b : Book). WereBest kit b ys) (sym (append_assoc before (e ∷ []) xs)) h

both_were : (kit : Kit) (before xs ys : Book) → WereBest kit before xs → WereBest kit (before ++ xs) ys → WereBest kit before (xs ++ ys)
both_were kit before [] ys h k = subst (λ (b : Book). WereBest kit b ys) (append-nil before) k
both_were kit before (E.Best c sheet certificate ∷ xs) ys h k =
    let e = E.Best c sheet certificate in
    (h.0, both_were kit (before ++ e ∷ []) xs ys h.1 (behind_one kit before xs ys e k))
both_were kit before (e ∷ xs) ys h k = both_were kit (before ++ e ∷ []) xs ys h (behind_one kit before xs ys e k)

found_there : (kit : Kit) (before front after : Book) (c : Corp) (sheet certificate : List ℕ) → WereBest kit before (front ++ E.Best c sheet certificate ∷ after) → IsBestRun kit (before ++ front) c sheet
found_there kit before [] after c sheet certificate h = subst (λ (b : Book). IsBestRun kit b c sheet) (sym (append-nil before)) h.0
found_there kit before (E.Best d words text ∷ front) after c sheet certificate h =
    let e = E.Best d words text in
    subst (λ (b : Book). IsBestRun kit b c sheet) (append_assoc before (e ∷ []) front) (found_there kit (before ++ e ∷ []) front after c sheet certificate h.1)
found_there kit before (e ∷ front) after c sheet certificate h =
    subst (λ (b : Book). IsBestRun kit b c sheet) (append_assoc before (e ∷ []) front) (found_there kit (before ++ e ∷ []) front after c sheet certificate h)

-- entries without one
more_were : (kit : Kit) (book es : Book) → list_all has_no_best es ≡ true → WereBest kit [] book → WereBest kit [] (book ++ es)
more_were kit book es none h = both_were kit [] book es h (none_were kit es book none)

-- a command of an operating round but a run as best
operation_adds : (needs : Bool) (kit : Kit) (state : GameState) (act : Act) → is_best_run act ≡ false → list_all has_no_best (operating_entries needs kit state act) ≡ true
operation_adds true kit state act other = goes_none state.book (forced.entries_of kit.roster kit.chart state.book act) (need_goes kit.roster kit.chart state.book act)
operation_adds false kit state act other = turn_has_no_best kit state.revenue state.book act other

best_first : (kit : Kit) (book : Book) (c : Corp) (sheet certificate : List ℕ) → IsBestRun kit book c sheet → WereBest kit book (runs_best c sheet certificate book)
unfolding runs_best
best_first kit book c sheet certificate best = (best, tt)

module _ (law : CertifiedAreOptimal) where
  by_operation : (kit : Kit) (state : GameState) (act : Act) → IsVerdict (judgement_in G.Operating kit state act) None → WereBest kit [] state.book → WereBest kit [] (state_in G.Operating kit state act).book
  by_operation kit state (A.RunBest c sheet certificate) lawful h =
      both_were kit [] state.book (runs_best c sheet certificate state.book) h
      (best_first kit state.book c sheet certificate (at_its_stage law G.Operating kit state c sheet certificate lawful))
  by_operation kit state act lawful h =
      more_were kit state.book (operating_entries (is_forced act) kit state act) (operation_adds (is_forced act) kit state act refl) h

  by_stage : (s : Stage) (kit : Kit) (state : GameState) (act : Act) → IsVerdict (judgement_in s kit state act) None → WereBest kit [] state.book → WereBest kit [] (state_in s kit state act).book
  by_stage G.Auction kit state act lawful h =
      let es = auction.entries_of kit.roster kit.chart state.book act in
      more_were kit state.book es (none_best es (bare_of_no_turn es (auction_adds kit.roster kit.chart state.book act))) h
  by_stage G.Stock kit state act lawful h =
      let es = stock_entries kit state.book act in
      more_were kit state.book es (none_best es (calm_of_no_turn es (stock_calms kit state.book act))) h
  by_stage G.Operating kit state act lawful h = by_operation kit state act lawful h

  by_act : (kit : Kit) (state : GameState) (act : Act) → IsVerdict (judgement kit state act) None → WereBest kit [] state.book → WereBest kit [] (state_after kit state act).book
  by_act kit state act lawful h =
      let s = stage state.book in
      let IsLawful : Judgement Refusal → Type 0 = λ j. IsVerdict j None in
      by_stage s kit state act (lawful-behind (name_verdict kit act) (judgement_in s kit state act) (subst IsLawful (at_stage s kit state act refl) lawful)) h

  by_named : (kit : Kit) (state : GameState) (named : Option Act) → IsVerdict (act_judgement kit state named) None → WereBest kit [] state.book → WereBest kit [] (state_with kit state named).book
  by_named kit state None lawful h = h
  by_named kit state (Some act) lawful h = by_act kit state act lawful h

  by_commands : (kit : Kit) (players : List (List ℕ)) (commands : List Command) (state : GameState) → AreAccepted kit players state commands
      → WereBest kit [] state.book → WereBest kit [] (fold (played_on kit players) state commands).book
  by_commands kit players [] state lawful h = h
  by_commands kit players (command ∷ commands) state lawful h =
      by_commands kit players commands (played_on kit players state command) lawful.1
      (by_named kit state (act_of players command)
      (in_play kit players state command (lawful-behind (over_verdict kit state) (command_judgement_in_play kit players state command) lawful.0)) h)

  were_along : (kit : Kit) (commands : List Command) → ArePlayed kit commands → WereBest kit [] (play kit commands).book
  were_along kit [] played = absurd played
  were_along kit (Open players ∷ commands) played =
      let state = opened_state players kit.roster in
      by_commands kit players commands state played.2 (none_were kit state.book [] (opening_meets has_no_best (record { payments = λ n seat. refl; moves = λ cert. refl; trains = λ t. refl; begins = λ names. refl }) players kit.roster))
  were_along kit (command ∷ commands) played = absurd played

  pub runs_were_best : (kit : Kit) (commands : List Command) → ArePlayed kit commands → HasBestRuns kit (play kit commands).book
  runs_were_best kit commands played before after c sheet certificate is =
      found_there kit [] before after c sheet certificate (subst (λ (b : Book). WereBest kit [] b) is (were_along kit commands played))
