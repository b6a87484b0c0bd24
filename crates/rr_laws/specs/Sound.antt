-- A table that is in order whatever commands it accepted.
use Rattle.std.specs.Prelude.{ℕ, ◌≤◌, List, [], ◌∷◌, ◌++◌, None, length, ⊤}
use Rattle.rr_roster.specs.Terms.{IsOrder, Terms, order_of}
use Rattle.rr_books.specs.Book.{Book}
use Rattle.rr_auction.specs.SoundMoney.{HasSoundMoney}
use Rattle.rr_stock.specs.PoolLimits.{HasHalfAtMost}
use Rattle.rr_laws.specs.Soundness.Presidencies.{HasGreatestPresidents}
use Rattle.rr_laws.specs.Soundness.Sound.{IsDealt}
use Rattle.rr_code.specs.declared.command.Command.{Command}
use Rattle.rr_code.specs.declared.command.Command.TheVariants.{Open}
use Rattle.rr_kit.specs.declared.kit.Kit.{Kit}
use Rattle.rr_kit.specs.Kits.{KitTexts, SpellsKit}
use Rattle.rr_rules.specs.State.{GameState}
use Rattle.rr_game.specs.Play.{opened_state, play, played_on, players_of}
use Rattle.rr_game.specs.Verdict.{command_judgement}
use Rattle.rr_turns.specs.Judgement.{IsVerdict}

-- the book of a table of n that is in order: bank, seats and corporations have together what the bank began with, and no
-- one but the bank has less than nothing; each certificate has a place of the table; each 20% certificate is in the offering, or with a
-- player than whom no other has more of the corporation; and the pool has at most half of each
pub record IsSoundTable (roster : Terms) (n : ℕ) (book : Book) : Type 0 where
  pub money : HasSoundMoney roster n book
  pub dealt : IsDealt n book
  pub presidents : HasGreatestPresidents n book
  pub pool : HasHalfAtMost book

-- none of these commands is refused in the state that those before it made
abbrev pub AreAccepted : Kit → List (List ℕ) → GameState → List Command → Type 0
AreAccepted kit players state [] = ⊤
AreAccepted kit players state (command ∷ others) =
    IsVerdict (command_judgement kit players state command) None × AreAccepted kit players (played_on kit players state command) others

-- two to six players open a table, and then no command is refused
abbrev pub ArePlayed : Kit → List Command → Type 0
ArePlayed kit (Open players ∷ commands) =
    (2 ≤ length players) × (length players ≤ 6) × AreAccepted kit players (opened_state players kit.roster) commands
ArePlayed kit _ = ⊥

-- the kit's roster names each corporation once
abbrev pub NamesCorporations : Kit → Type 0
NamesCorporations kit = IsOrder (order_of kit.roster)

-- so does each right kit's
abbrev pub KitsNameCorporations : Type 0
KitsNameCorporations = (texts : KitTexts) (kit : Kit) → SpellsKit texts kit → NamesCorporations kit

-- with such a kit, a table is in order whatever commands it is played with
abbrev pub TablesStaySound : Type 0
TablesStaySound =
    (kit : Kit) (commands : List Command) → NamesCorporations kit → ArePlayed kit commands
    → IsSoundTable kit.roster (length (players_of commands)) (play kit commands).book

-- a play goes on with each command that isn't refused in its state
abbrev pub PlaysGoOn : Type 0
PlaysGoOn =
    (kit : Kit) (commands : List Command) (command : Command) → ArePlayed kit commands
    → IsVerdict (command_judgement kit (players_of commands) (play kit commands) command) None → ArePlayed kit (commands ++ command ∷ [])
