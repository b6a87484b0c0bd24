-- A command that runs as best, and isn't refused, was a best run.
use Rattle.std.specs.Prelude.{ℕ, List, [], ◌∷◌, ◌++◌, Option, None, Some, fold, refl}
use Rattle.std.proofs.Common.{◌∙◌, sym, subst}
use Rattle.std.proofs.lemmas.Option.{none-some}
use Rattle.rr_roster.specs.declared.company.Corp.{Corp}
use Rattle.rr_books.specs.declared.acts.Act.TheVariants as A
use Rattle.rr_books.specs.Book.{Book}
use Rattle.rr_code.specs.declared.command.Command.{Command}
use Rattle.rr_code.specs.declared.command.Command.TheVariants.{Open, Order}
use Rattle.rr_orders.specs.declared.order.Order.TheVariants.{RunBest}
use Rattle.rr_kit.specs.declared.kit.Kit.{Kit}
use Rattle.rr_books.specs.declared.refusal.Refusal.{Refusal}
use Rattle.rr_operate.specs.Rows.{IsRowVerdict, first_verdict}
use Rattle.rr_market.specs.declared.operations.turn.Stage.{Stage}
use Rattle.rr_market.specs.declared.operations.turn.Stage.TheVariants as G
use Rattle.rr_routes.specs.Certificates.{Accepts}
use Rattle.rr_routes.specs.declared.certificate.CertTree.{CertTree}
use Rattle.rr_routes.specs.Net.{Net}
use Rattle.rr_routes.specs.Routes.{Optimal}
use Rattle.rr_referee.specs.Sheets.{IsLegal}
use Rattle.rr_books.specs.declared.refusal.Refusal.TheVariants as R
use Rattle.rr_running.specs.Running.{IsBestRunVerdict, is_best, is_refused, is_unshown, net_now}
use Rattle.rr_running.proofs.Judged.{words_earn}
use Rattle.rr_routes.specs.declared.sheets.sheet.TrainWord.{TrainWord}
use Rattle.rr_rules.specs.Judging.{judgement, judgement_in, name_verdict, stage, turn_judgement}
use Rattle.rr_rules.specs.State.{GameState}
use Rattle.rr_rules.proofs.Judging.{at_stage}
use Rattle.rr_game.specs.Play.{opened_state, play, played_on}
use Rattle.rr_game.specs.Verdict.{command_judgement, command_judgement_in_play, over_verdict}
use Rattle.rr_turns.specs.Judgement.{IsFirstOrBehind, IsVerdict, Judgement}
use Rattle.rr_turns.proofs.JudgementLemmas.{lawful-behind}
use Rattle.rr_laws.specs.Best.{IsBestRun}
use Rattle.rr_laws.specs.Sound.{AreAccepted, ArePlayed}

-- where a certificate is accepted for what a legal sheet earns, the sheet's run is optimal
abbrev pub CertifiedAreOptimal : Type 0
CertifiedAreOptimal = (net : Net) (sheet : List TrainWord) (claim : ℕ) (tree : CertTree) → Accepts net claim tree → (legal : IsLegal net sheet claim) → Optimal net legal.run

module _ (law : CertifiedAreOptimal) where
  by_referee : (kit : Kit) (book : Book) (c : Corp) (words text : List ℕ) → IsBestRunVerdict kit book c words text None → IsBestRun kit book c words
  by_referee kit book c words text (is_best sheet earned spelled legal shows is) =
      let net = net_now kit.board kit.tiles book c in
      record {
        sheet = sheet;
        spelled = spelled;
        run = legal.run;
        written = legal.is_sheet;
        optimal = law net sheet earned shows.0 shows.2 legal;
        pays = sym (words_earn net words sheet earned spelled legal) ∙ sym legal.earns;
      }
  by_referee kit book c words text (is_unshown sheet earned spelled legal shows is) = absurd (none-some R.CertificateRefused is)
  by_referee kit book c words text (is_refused fault told is) = absurd (none-some fault is)

  behind_first : (first : Option Refusal) (Next : Option Refusal → Type 0) → IsFirstOrBehind first Next None → Next None
  behind_first None Next h = h
  behind_first (Some fault) Next h = absurd cc

  by_turn : (kit : Kit) (state : GameState) (c : Corp) (sheet certificate : List ℕ) → IsVerdict (turn_judgement kit state (A.RunBest c sheet certificate)) None → IsBestRun kit state.book c sheet
  by_turn kit state c sheet certificate lawful =
      let act = A.RunBest c sheet certificate in
      let row : IsRowVerdict kit state.book act None = behind_first (first_verdict kit state.book state.revenue act) (IsRowVerdict kit state.book act) lawful in
      by_referee kit state.book c sheet certificate row

  -- by the rules in force, which are those of a corporation's turn
  pub at_its_stage : (s : Stage) (kit : Kit) (state : GameState) (c : Corp) (sheet certificate : List ℕ) → IsVerdict (judgement_in s kit state (A.RunBest c sheet certificate)) None → IsBestRun kit state.book c sheet
  at_its_stage G.Auction kit state c sheet certificate lawful = absurd cc
  at_its_stage G.Stock kit state c sheet certificate lawful = absurd cc
  at_its_stage G.Operating kit state c sheet certificate lawful =
      by_turn kit state c sheet certificate lawful

  by_rules : (kit : Kit) (state : GameState) (c : Corp) (sheet certificate : List ℕ) → IsVerdict (judgement kit state (A.RunBest c sheet certificate)) None → IsBestRun kit state.book c sheet
  by_rules kit state c sheet certificate lawful =
      let act = A.RunBest c sheet certificate in
      let s = stage state.book in
      let IsLawful : Judgement Refusal → Type 0 = λ j. IsVerdict j None in
      at_its_stage s kit state c sheet certificate
      (lawful-behind (name_verdict kit act) (judgement_in s kit state act) (subst IsLawful (at_stage s kit state act refl) lawful))

  by_game : (kit : Kit) (players : List (List ℕ)) (state : GameState) (c : Corp) (sheet certificate : List ℕ) → IsVerdict (command_judgement kit players state (Order (RunBest c sheet certificate))) None
      → IsBestRun kit state.book c sheet
  by_game kit players state c sheet certificate lawful =
      let act = A.RunBest c sheet certificate in
      let command = Order (RunBest c sheet certificate) in
      by_rules kit state c sheet certificate
      (lawful-behind (over_verdict kit state) (command_judgement_in_play kit players state command) lawful)

  in_turn : (kit : Kit) (players : List (List ℕ)) (state : GameState) (front rest : List Command) (c : Corp) (sheet certificate : List ℕ)
      → AreAccepted kit players state (front ++ Order (RunBest c sheet certificate) ∷ rest) → IsBestRun kit (fold (played_on kit players) state front).book c sheet
  in_turn kit players state [] rest c sheet certificate all = by_game kit players state c sheet certificate all.0
  in_turn kit players state (command ∷ front) rest c sheet certificate all = in_turn kit players (played_on kit players state command) front rest c sheet certificate all.1

  pub command_was_best : (kit : Kit) (front rest : List Command) (c : Corp) (sheet certificate : List ℕ) → ArePlayed kit (front ++ Order (RunBest c sheet certificate) ∷ rest)
      → IsBestRun kit (play kit front).book c sheet
  command_was_best kit [] rest c sheet certificate played = absurd played
  command_was_best kit (Open players ∷ front) rest c sheet certificate played = in_turn kit players (opened_state players kit.roster) front rest c sheet certificate played.2
  command_was_best kit (command ∷ front) rest c sheet certificate played = absurd played
