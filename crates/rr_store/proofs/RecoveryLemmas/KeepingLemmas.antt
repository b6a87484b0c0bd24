-- Commands that are kept again and aren't judged, and the table that stands at its last snapshot behind them.
use Rattle.std.proofs.Common.{◌≡◌, ◌⊎◌, ℕ, ◌+◌, ◌-◌, ◌<◌, ◌≤◌, List, [], ◌∷◌, ◌++◌, All, length, take, get_or, Some, Result, Ok, Err, IfErr, IfOk, OnOk, refl, sym, ap, subst, ◌∙◌, length-append, arith}
use Rattle.std.proofs.lemmas.List.{take-append-le, take_at}
use Rattle.std.specs.List.{Contains}
use Rattle.std.proofs.lemmas.List.Elements.{All-append, All-cons, All-contains, All-nil}
use Rattle.rr_code.specs.Command.{SpellsCommand}
use Rattle.rr_code.specs.declared.command.Command.{Command}
use Rattle.rr_game.specs.declared.game.Game.{Game}
use Rattle.rr_game.specs.declared.history.table.Table.{Table}
use Rattle.rr_game.specs.History.Playing.{ArePlayed, IsPlayOf}
use Rattle.rr_game.specs.History.Snapshots.{IsShown}
use Rattle.rr_game.specs.History.Tables.{HasItsSnapshots, IsPlayed, kept_in}
use Rattle.rr_game.specs.Keeping.{IsGameOf}
use Rattle.rr_kit.specs.declared.kit.Kit.{Kit}
use Rattle.rr_pages.specs.declared.fault.Damage.TheVariants.{Kept as NotPlayed}
use Rattle.rr_reading.specs.declared.lending.commands.Commands.{Commands}
use Rattle.rr_reading.specs.Dir.Kept.{IsShort}
use Rattle.rr_reading.specs.Lending.Commands.{Begins, rest_of}
use Rattle.rr_reading.proofs.LendingLemmas.FrontLemmas.{CountsFront, counts_all, counts_cut, front_more, front_split, next_word}
use Rattle.rr_tables.specs.Records.Words.{SpellCommands}
use Rattle.rr_store.specs.declared.recovery.fault.Fault.{Fault}
use Rattle.rr_store.specs.declared.recovery.fault.Fault.TheVariants as F
use Rattle.rr_store.specs.Recovery.Fault.{IsOrBreaks}
use Rattle.rr_store.specs.Recovery.Kept.{AreWorded, HoldsCommands}
use Rattle.rr_store.specs.Recovery.Playing.{BeginsNoTable, BeginsTable, Cut_off, IsFrontOf, KeepsFront, KeepsNext, KeepsNoMore, No_more, Recalls, Unspelled}
use Rattle.rr_store.specs.Recovery.Shown.{IsLast, IsPlayWithin}
use Rattle.rr_store.proofs.RecoveryLemmas.PlayingLemmas.{begins, begins_otherwise, breaks_so, or_breaks, spells_front}
use Rattle.rr_store.proofs.RecoveryLemmas.WordLemmas.{as_many, cut, spell_push}

-- ---- one command after another

pub keeps_none : (bytes : List ℕ) → KeepsFront bytes [] bytes
keeps_none bytes = record { words = []; short = All-nil IsShort; split = refl; spelled = tt }

pub keeps_more : (file bytes : List ℕ) (old new : Commands) (before after : List Command) → KeepsFront bytes before (rest_of file old) → KeepsNext file old before new after
    → KeepsFront bytes after (rest_of file new)
keeps_more file bytes old new before after keeps next =
    let more = front_more bytes keeps.words (rest_of file old) next.words (rest_of file new) (spells_front bytes (rest_of file old) before keeps) next.passed in
    subst (λ (cs : List Command). KeepsFront bytes cs (rest_of file new)) (sym next.kept)
    (record {
      words = keeps.words ++ next.words ∷ [];
      short = more.short;
      split = more.spelled;
      spelled = spell_push keeps.words next.words before next.command keeps.spelled next.spelled;
    })

-- there are fewer, or the next has other words
pub keeps_no_more : (bytes rest : List ℕ) (total count : ℕ) (before commands : List Command) → KeepsFront bytes before rest → length before < count → count ≤ total → KeepsNoMore rest
    → HoldsCommands bytes total commands → ⊥
keeps_no_more bytes rest total count before commands keeps less within ends holds = by_end ends
  where
    many : length keeps.words ≡ length before
    many = as_many keeps.words before keeps.spelled

    counts : CountsFront bytes rest (total - length before) total
    counts = record { front = keeps.words; spells = spells_front bytes rest before keeps; counted = omega (arith, many, less, within) }

    by_end : KeepsNoMore rest → ⊥
    by_end (No_more end) =
        let none = counts_all bytes rest (total - length before) total counts end (holds.words, holds.kept, holds.counted) in omega (arith, none, less, within)
    by_end (Cut_off is_cut) = counts_cut bytes rest (total - length before) total counts is_cut (holds.words, holds.kept, holds.counted)
    by_end (Unspelled words behind passed none) =
        let split = front_split keeps.words bytes rest holds.words (spells_front bytes rest before keeps) holds.kept in
        let next = next_word rest words behind split.behind passed split.kept in
        let whole : holds.words ≡ keeps.words ++ words ∷ next.0 = split.split ∙ ap (λ (l : List (List ℕ)). keeps.words ++ l) next.1 in
        let parts = cut keeps.words words next.0 commands (subst (λ (ws : List (List ℕ)). SpellCommands ws commands) whole holds.spelled) in
        none parts.command parts.spelled

module _ {H : Type 0} (file words : List ℕ) (old new : Commands) (passed : H → Begins (rest_of file old) words (rest_of file new)) (before after : List Command) where
  pub next_kept : (kept : Result (Unit {0}) Fault) → OnOk kept ((command : Command) × SpellsCommand words command × (after ≡ before ++ command ∷ [])) → OnOk kept (H → KeepsNext file old before new after)
  next_kept (Ok done) is = λ honest. record { words = words; passed = passed honest; command = is.0; spelled = is.1; kept = is.2 }
  next_kept (Err fault) is = tt

  pub next_never : (kept : Result (Unit {0}) Fault)
      → IfErr kept (λ fault. (fault ≡ F.OutOfMemory) ⊎ ((fault ≡ F.Damaged NotPlayed) × (length before < 4096 → (command : Command) → SpellsCommand words command → ⊥)))
      → IfErr kept (IsOrBreaks NotPlayed (H → length before < 4096 → KeepsNoMore (rest_of file old)))
  next_never (Ok done) is = tt
  next_never (Err fault) is = or_breaks fault is (λ none honest room. Unspelled words (rest_of file new) (passed honest) (none room))

module _ (words : List ℕ) (before after : List Command) where
  pub next_counted : (kept : Result (Unit {0}) Fault) → OnOk kept ((command : Command) × SpellsCommand words command × (after ≡ before ++ command ∷ [])) → OnOk kept (length after ≡ length before + 1)
  next_counted (Ok done) is = omega (arith, ap length is.2, length-append before (is.0 ∷ []))
  next_counted (Err fault) is = tt

  pub next_worded : length words ≤ 65535 → (kept : Result (Unit {0}) Fault) → OnOk kept ((command : Command) × SpellsCommand words command × (after ≡ before ++ command ∷ []))
      → OnOk kept (AreWorded before → AreWorded after)
  next_worded short (Ok done) is = λ worded.
      subst (λ (cs : List Command). AreWorded cs) (sym is.2)
      (record {
        words = worded.words ++ words ∷ [];
        short = All-append IsShort worded.words (words ∷ []) worded.short (All-cons IsShort words [] (omega (arith, short)) (All-nil IsShort));
        spelled = spell_push worded.words words before is.0 worded.spelled is.1;
      })
  next_worded short (Err fault) is = tt

pub worded_none : AreWorded []
worded_none = record { words = []; short = All-nil IsShort; spelled = tt }

-- ---- the table at its last snapshot

module _ (kit : Kit) (commands front behind : List Command) (split : commands ≡ front ++ behind) where
  shown_there : (last game : Game) → length front ≡ last.played → IsPlayWithin kit commands game → game.played ≤ last.played → IsShown kit front game
  shown_there last game long is few =
      let within : game.played ≤ length front = omega (arith, long, few) in
      let same : take game.played commands ≡ take game.played front = ap (λ (cs : List Command). take game.played cs) split ∙ take-append-le game.played front behind within in
      record { within = within; stands = subst (λ (cs : List Command). IsGameOf kit cs game) same is.play.played; spelled = is.spelled }

  play_there : (last : Game) → length front ≡ last.played → IsPlayWithin kit commands last → IsPlayOf kit front last
  play_there last long is =
      let same : take last.played commands ≡ front = ap (λ (cs : List Command). take last.played cs) split ∙ take_at front behind last.played long in
      subst (λ (cs : List Command). IsPlayOf kit cs last) same is.play

pub recalled : (kit : Kit) (last : Game) (games : List Game) (table : Table) (commands : List Command) → IsLast games (Some last) → Recalls last games table → IsFrontOf (kept_in table).commands commands
    → All (IsPlayWithin kit commands) games → IsPlayed kit table
recalled kit last games table commands is recalls front all =
    let own = (kept_in table).commands in
    let play = play_there kit commands own front.0 front.1 last recalls.counted (All-contains (IsPlayWithin kit commands) games last all is.0) in
    let shown : All (IsShown kit own) games =
    λ k d within. shown_there kit commands own front.0 front.1 last (get_or games k d) recalls.counted (all k d within) (is.1 k d within) in
    record {
      lawful = play.lawful;
      played = subst (λ (g : Game). IsGameOf kit own g) (sym recalls.at) play.played;
      snapshots = subst (λ (gs : List Game). All (IsShown kit own) gs) (sym recalls.shown) shown;
    }

-- the last game has played no more than the bytes hold
pub last_within : (kit : Kit) (bytes : List ℕ) (count : ℕ) (commands : List Command) (last : Game) (games : List Game) → IsLast games (Some last) → HoldsCommands bytes count commands
    → All (IsPlayWithin kit commands) games → last.played ≤ count
last_within kit bytes count commands last games is holds all =
    let there = All-contains (IsPlayWithin kit commands) games last all is.0 in
    omega (arith, there.within, as_many holds.words commands holds.spelled, holds.counted)

no_last : {A : Type 0} {last : A} → Contains [] last → ⊥
no_last {A} {last} has = omega (arith, has.1)

module _ (kit : Kit) (last : Game) (games : List Game) (is : IsLast games (Some last)) where
  pub last_played : (table : Result Table Fault) → IfOk table (λ t. Recalls last games t)
      → IfOk table (λ t. (commands : List Command) → IsFrontOf (kept_in t).commands commands → All (IsPlayWithin kit commands) games → IsPlayed kit t)
  last_played (Ok table) recalls = λ commands front all. recalled kit last games table commands is recalls front all
  last_played (Err fault) recalls = tt

  -- so there are some
  pub last_named : (table : Result Table Fault) → IfOk table (λ t. games ≡ [] → HasItsSnapshots t)
  last_named (Ok table) = λ none. absurd (no_last (subst (λ (gs : List Game). Contains gs last) none is.0))
  last_named (Err fault) = tt

  pub last_refused : (H : Type 0) (bytes : List ℕ) (table : Result Table Fault)
      → IfErr table (IsOrBreaks NotPlayed (H → (count : ℕ) → count ≤ 4096 → (commands : List Command) → HoldsCommands bytes count commands → last.played ≤ count → ⊥))
      → IfErr table (IsOrBreaks NotPlayed (H → (count : ℕ) → count ≤ 4096 → (commands : List Command) → HoldsCommands bytes count commands → All (IsPlayWithin kit commands) games → ∥ ArePlayed kit commands ∥₁ → ⊥))
  last_refused H bytes (Ok table) refused = tt
  last_refused H bytes (Err fault) refused =
      breaks_so fault refused (λ none honest count few commands holds all played. none honest count few commands holds (last_within kit bytes count commands last games is holds all))

module _ (H : Type 0) (kit : Kit) (file : List ℕ) (old new : Commands) where
  pub begun_front : (begun : Result Table Fault) → IfOk begun (λ table. H → BeginsTable kit file old new table)
      → IfOk begun (λ table. H → KeepsFront (rest_of file old) (kept_in table).commands (rest_of file new))
  begun_front (Ok table) is = λ honest. let there = is honest in begins kit (rest_of file old) (rest_of file new) there.words table there.passed there.begun
  begun_front (Err fault) is = tt

  pub begun_refused : (Q : List Command → Type 0) (begun : Result Table Fault) → IfErr begun (IsOrBreaks NotPlayed (H → BeginsNoTable (rest_of file old)))
      → IfErr begun (IsOrBreaks NotPlayed (H → (count : ℕ) → count ≤ 4096 → (commands : List Command) → HoldsCommands (rest_of file old) count commands → Q commands → ∥ ArePlayed kit commands ∥₁ → ⊥))
  begun_refused Q (Ok table) is = tt
  begun_refused Q (Err fault) is =
      breaks_so fault is (λ none honest count few commands holds other played.
      begins_otherwise kit (rest_of file old) count (none honest) (record { commands = commands; kept = holds; played = played }))
