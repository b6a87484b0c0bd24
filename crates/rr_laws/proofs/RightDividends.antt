-- A table never pays a wrong dividend, nor withholds one.
use Rattle.std.specs.Prelude.{◌≡◌, ◌⊎◌, ℕ, true, List, [], ◌∷◌, ◌++◌, None, Some, refl}
use Rattle.std.proofs.Common.{◌∙◌, inl, inr, subst, sym}
use Rattle.std.proofs.lemmas.Bool.{false≢true}
use Rattle.rr_roster.specs.declared.company.Corp.{Corp}
use Rattle.rr_books.specs.declared.acts.Act.TheVariants as A
use Rattle.rr_code.specs.declared.command.Command.{Command}
use Rattle.rr_code.specs.declared.command.Command.TheVariants.{Open, Order as OfOrder}
use Rattle.rr_orders.specs.declared.order.Order.{Order}
use Rattle.rr_orders.specs.declared.order.Order.TheVariants.{Hold, PayOut}
use Rattle.rr_kit.specs.declared.kit.Kit.{Kit}
use Rattle.rr_market.specs.declared.operations.turn.Stage.{Stage}
use Rattle.rr_market.specs.declared.operations.turn.Stage.TheVariants as G
use Rattle.rr_market.specs.declared.operations.turn.TurnStep.{TurnStep}
use Rattle.rr_market.specs.declared.operations.turn.TurnStep.TheVariants as T
use Rattle.rr_market.specs.Operations.Due.{due}
use Rattle.rr_market.specs.Operations.Turn.{is_at, is_up_to}
use Rattle.rr_operate.specs.Dividends.DividendLaws.{NobodyIsPaidForTheOffering, PaysEachHolder, WithholdingPaysTheCorporation}
use Rattle.rr_operate.specs.Rows as rows
use Rattle.rr_operate.proofs.InOrder.{only_the_corporation_due, steps_are_kept}
use Rattle.rr_rules.specs.Judging.{judgement_in, stage}
use Rattle.rr_rules.specs.State.{GameState}
use Rattle.rr_game.specs.Play.{opened_state, play, played_on, players_of}
use Rattle.rr_turns.specs.Judgement.{IsVerdict}
use Rattle.rr_laws.specs.Dividends.{HasNotRun, HasRunOnce, NeverPaysAWrongDividend}
use Rattle.rr_laws.specs.Sound.{AreAccepted, ArePlayed}
use Rattle.rr_laws.proofs.BestCommands.{CertifiedAreOptimal}
use Rattle.rr_laws.proofs.Dividends.{by_rules, dividend_was_right, held_was_withheld, was_played}
use Rattle.rr_laws.proofs.KeptTurn.{step_of}
use Rattle.rr_laws.proofs.Revenues.{revenues_are_of_the_book}
use Rattle.rr_laws.proofs.SoundTables.{turn_lawful}
use Rattle.rr_laws.proofs.TurnSoFar.{HasRun, TurnSoFar}
use Rattle.rr_laws.proofs.TurnsPlayed.{turn_so_far}

-- the commands before one that was accepted were accepted
accepted_before : (kit : Kit) (players : List (List ℕ)) (state : GameState) (front rest : List Command) → AreAccepted kit players state (front ++ rest) → AreAccepted kit players state front
accepted_before kit players state [] rest all = tt
accepted_before kit players state (command ∷ front) rest all = (all.0, accepted_before kit players (played_on kit players state command) front rest all.1)

so_far : CertifiedAreOptimal → (kit : Kit) (front rest : List Command) (command : Order) → ArePlayed kit (front ++ OfOrder command ∷ rest) → TurnSoFar kit front (play kit front)
so_far law kit [] rest command played = absurd played
so_far law kit (Open players ∷ front) rest command played = turn_so_far law kit players front (accepted_before kit players (opened_state players kit.roster) front (OfOrder command ∷ rest) played.2)
so_far law kit (other ∷ front) rest command played = absurd played

-- a dividend is paid or withheld in an operating round, by the rules of a corporation's turn

pays_in : (s : Stage) (kit : Kit) (state : GameState) (c : Corp) → IsVerdict (judgement_in s kit state (A.PayOut c)) None → rows.IsVerdict kit state.book state.revenue (A.PayOut c) None
pays_in G.Auction kit state c lawful = absurd cc
pays_in G.Stock kit state c lawful = absurd cc
pays_in G.Operating kit state c lawful = turn_lawful kit state (A.PayOut c) lawful

holds_in : (s : Stage) (kit : Kit) (state : GameState) (c : Corp) → IsVerdict (judgement_in s kit state (A.Hold c)) None → rows.IsVerdict kit state.book state.revenue (A.Hold c) None
holds_in G.Auction kit state c lawful = absurd cc
holds_in G.Stock kit state c lawful = absurd cc
holds_in G.Operating kit state c lawful = turn_lawful kit state (A.Hold c) lawful

early_or_pay : (s : TurnStep) → is_up_to s T.Pay ≡ true → (is_up_to s T.Run ≡ true) ⊎ (is_at s T.Pay ≡ true)
early_or_pay T.Lay h = inl refl
early_or_pay T.Station h = inl refl
early_or_pay T.Run h = inl refl
early_or_pay T.Pay h = inr refl
early_or_pay T.Train h = absurd (false≢true h)

-- the corporation whose trains ran is the one that is due

one_corp : (c d : Corp) → Some c ≡ Some d → c ≡ d
one_corp c d same = cc

ran_once : (kit : Kit) (commands : List Command) (c : Corp) → due kit.chart (play kit commands).book ≡ Some c → HasRun kit commands (play kit commands) → HasRunOnce kit commands c
ran_once kit commands c is_due ran =
    let once : HasRunOnce kit commands ran.corp = record {
      before = ran.before;
      words = ran.words;
      certificate = ran.certificate;
      since = ran.since;
      stands = ran.stands;
      none_before = ran.none_before;
      none_since = ran.none_since;
      legal = ran.legal;
      best = ran.best;
      earns = sym (revenues_are_of_the_book kit commands) ∙ ran.earns ∙ ran.legal.pays;
    } in
    subst (λ (d : Corp). HasRunOnce kit commands d) (one_corp ran.corp c (sym ran.is_due ∙ is_due)) once

due_pays : (kit : Kit) (state : GameState) (c : Corp) → rows.IsVerdict kit state.book state.revenue (A.PayOut c) None → due kit.chart state.book ≡ Some c
due_pays kit state c lawful = let known = only_the_corporation_due kit state.book state.revenue (A.PayOut c) lawful refl in known.1 ∙ sym known.2

due_holds : (kit : Kit) (state : GameState) (c : Corp) → rows.IsVerdict kit state.book state.revenue (A.Hold c) None → due kit.chart state.book ≡ Some c
due_holds kit state c lawful = let known = only_the_corporation_due kit state.book state.revenue (A.Hold c) lawful refl in known.1 ∙ sym known.2

module _ (law : CertifiedAreOptimal) (kit : Kit) (front rest : List Command) (c : Corp) where
  pub ran_before_pay : ArePlayed kit (front ++ OfOrder (PayOut c) ∷ rest) → HasRunOnce kit front c
  ran_before_pay played =
      let state = play kit front in
      let was = was_played kit front rest (PayOut c) played in
      let lawful = pays_in (stage state.book) kit state c (by_rules kit (players_of front) state (PayOut c) (A.PayOut c) refl was.lawful) in
      let h = so_far law kit front rest (PayOut c) played in
      ran_once kit front c (due_pays kit state c lawful) (h.ran (steps_are_kept kit state.book state.revenue (A.PayOut c) lawful))

  pub ran_before_hold : ArePlayed kit (front ++ OfOrder (Hold c) ∷ rest) → HasRunOnce kit front c ⊎ HasNotRun kit front
  ran_before_hold played =
      let state = play kit front in
      let was = was_played kit front rest (Hold c) played in
      let lawful = holds_in (stage state.book) kit state c (by_rules kit (players_of front) state (Hold c) (A.Hold c) refl was.lawful) in
      let h = so_far law kit front rest (Hold c) played in
      elim (early_or_pay (step_of state.book) (steps_are_kept kit state.book state.revenue (A.Hold c) lawful)) [
        | inl early ↦ inr (record { none = h.fresh early; earns = sym (revenues_are_of_the_book kit front) ∙ h.idle (h.fresh early) })
        | inr pays ↦ inl (ran_once kit front c (due_holds kit state c lawful) (h.ran pays))
      ]

pub never_wrong : CertifiedAreOptimal → PaysEachHolder → NobodyIsPaidForTheOffering → WithholdingPaysTheCorporation → NeverPaysAWrongDividend
never_wrong law pays spares withholds texts kit commands spelled played = record {
  paid = λ front rest c stands.
      let p : ArePlayed kit (front ++ OfOrder (PayOut c) ∷ rest) = subst (λ (cs : List Command). ArePlayed kit cs) stands played in
      record { ran = ran_before_pay law kit front rest c p; shared = dividend_was_right pays spares texts kit front rest c spelled p };
  held = λ front rest c stands.
      let p : ArePlayed kit (front ++ OfOrder (Hold c) ∷ rest) = subst (λ (cs : List Command). ArePlayed kit cs) stands played in
      record { ran = ran_before_hold law kit front rest c p; withheld = held_was_withheld withholds kit front rest c p };
}
