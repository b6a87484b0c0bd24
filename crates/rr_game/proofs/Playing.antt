-- The state of a table's game that takes one command more.
use Rattle.std.proofs.Common.{◌≡◌, ◌+◌, true, List, [], ◌∷◌, ◌++◌, refl, sym, ap, ◌∙◌, subst, length-append, append-nil, ℕ, Option, None, Some}
use Rattle.std.proofs.lemmas.List.Sums.{fold-append}
use Rattle.rr_code.specs.declared.command.Command.{Command}
use Rattle.rr_code.specs.declared.command.Command.TheVariants.{Open, BuyPrivate, Bid, Pass, Par, BuyShare, Sell, Swap, Done, Order}
use Rattle.rr_books.specs.declared.acts.Act.{Act}
use Rattle.rr_game.specs.declared.game.Game.{Game}
use Rattle.rr_kit.specs.declared.kit.Kit.{Kit}
use Rattle.rr_roster.specs.Terms.{Terms}
use Rattle.rr_books.specs.Book.{Book}
use Rattle.rr_rules.specs.Playing.{entries_after, state_after}
use Rattle.rr_rules.specs.State.{AtTable, GameState, IsStandingOf}
use Rattle.rr_game.specs.Keeping.{IsGameOf}
use Rattle.rr_game.specs.Names.{act_of}
use Rattle.rr_game.specs.Play.{begins_with_opening, entries_of_command, entries_of_act, opened_state, play, played_on, players_of, state_with}
use Rattle.rr_game.specs.Turning.{ends_turn}
use Rattle.rr_turns.specs.Ends.{turn_ends}

-- the commands are an opening and others
pub record Opens (accepted : List Command) : Type 0 where
  pub players : List (List ℕ)
  pub others : List Command
  pub split : accepted ≡ Open players ∷ others

pub opens : (accepted : List Command) → begins_with_opening accepted ≡ true → Opens accepted
opens [] h = absurd (cc)
opens (Open players ∷ commands) h = record { players = players; others = commands; split = refl }
opens (BuyPrivate player ∷ commands) h = absurd (cc)
opens (Bid player private amount ∷ commands) h = absurd (cc)
opens (Pass player ∷ commands) h = absurd (cc)
opens (Par player corp price ∷ commands) h = absurd (cc)
opens (BuyShare player corp source ∷ commands) h = absurd (cc)
opens (Sell player corp count ∷ commands) h = absurd (cc)
opens (Swap player source ∷ commands) h = absurd (cc)
opens (Done player ∷ commands) h = absurd (cc)
opens (Order order ∷ commands) h = absurd (cc)

-- what one command more makes of them
pub record GoesOn (kit : Kit) (accepted : List Command) (c : Command) : Type 0 where
  pub opening : begins_with_opening (accepted ++ c ∷ []) ≡ true
  pub players : players_of (accepted ++ c ∷ []) ≡ players_of accepted
  pub state : play kit (accepted ++ c ∷ []) ≡ played_on kit (players_of accepted) (play kit accepted) c

goes_on_from : (kit : Kit) (players : List (List ℕ)) (commands : List Command) (c : Command) → GoesOn kit (Open players ∷ commands) c
goes_on_from kit players commands c = record {
  opening = refl;
  players = refl;
  state = fold-append (played_on kit players) (opened_state players kit.roster) commands (c ∷ []);
}

pub goes_on : (kit : Kit) (accepted : List Command) (c : Command) → begins_with_opening accepted ≡ true → GoesOn kit accepted c
goes_on kit accepted c h =
    let o = opens accepted h in
    subst (λ (cs : List Command). GoesOn kit cs c) (sym o.split) (goes_on_from kit o.players o.others c)

-- how a table stands behind the act that a command names
pub stands : (kit : Kit) (accepted : List Command) (c : Command) (act : Act) (old : Game) (standing : AtTable) → IsGameOf kit accepted old → act_of old.players c ≡ Some act
    → IsStandingOf (state_after kit (play kit accepted) act) standing
    → IsStandingOf (play kit (accepted ++ c ∷ [])) standing
stands kit accepted c act old standing h named stand =
    let on = goes_on kit accepted c h.opening in
    let state = play kit accepted in
    let by_name : state_with kit state (Some act) ≡ played_on kit (players_of accepted) state c =
    ap (state_with kit state) (sym named) ∙ ap (λ (ps : List (List ℕ)). played_on kit ps state c) h.players in
    let P : GameState → Type 0 = λ s. IsStandingOf s standing in
    subst P (by_name ∙ sym on.state) stand

pub stepped : (kit : Kit) (accepted : List Command) (c : Command) (old new : Game) → IsGameOf kit accepted old
    → new.played ≡ old.played + 1 → new.players ≡ old.players
    → IsStandingOf (play kit (accepted ++ c ∷ [])) new.standing
    → new.ends ≡ turn_ends (ends_turn kit) (accepted ++ c ∷ [])
    → IsGameOf kit (accepted ++ c ∷ []) new
stepped kit accepted c old new h more same standing ends =
    let on = goes_on kit accepted c h.opening in
    record {
      opening = on.opening;
      played = more ∙ ap (λ (n : ℕ). n + 1) h.played ∙ sym (length-append accepted (c ∷ []));
      players = same ∙ h.players ∙ sym on.players;
      standing = standing;
      ends = ends;
    }

-- the entries that a command adds to the book, by the act that it names
pub added : (kit : Kit) (accepted : List Command) (c : Command) (act : Act) (old : Game) (es : Book) → IsGameOf kit accepted old → act_of old.players c ≡ Some act
    → es ≡ entries_after kit (play kit accepted) act → es ≡ entries_of_command kit accepted c
added kit accepted c act old es h named is =
    let state = play kit accepted in
    is ∙ ap (entries_of_act kit state) (sym named) ∙ ap (λ (ps : List (List ℕ)). entries_of_act kit state (act_of ps c)) h.players

with_act : (kit : Kit) (state : GameState) (act : Option Act) → (state_with kit state act).book ≡ state.book ++ entries_of_act kit state act
with_act kit state None = sym (append-nil state.book)
with_act kit state (Some act) = refl

-- the book after a command
pub book_more : (kit : Kit) (accepted : List Command) (c : Command) → begins_with_opening accepted ≡ true
    → (play kit (accepted ++ c ∷ [])).book ≡ (play kit accepted).book ++ entries_of_command kit accepted c
book_more kit accepted c h =
    let on = goes_on kit accepted c h in
    ap (λ (s : GameState). s.book) on.state ∙ with_act kit (play kit accepted) (act_of (players_of accepted) c)

-- how a table stands that opens, by the roster that the kit lends
pub opened_at : (players : List (List ℕ)) (roster terms : Terms) (standing : AtTable) → roster ≡ terms
    → IsStandingOf (opened_state players roster) standing → IsStandingOf (opened_state players terms) standing
opened_at players roster terms standing same h =
    let P : Terms → Type 0 = λ t. IsStandingOf (opened_state players t) standing in subst P same h
