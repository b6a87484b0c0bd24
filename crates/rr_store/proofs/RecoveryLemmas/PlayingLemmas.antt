-- A table whose kept commands are played again, one after another.
use Rattle.std.proofs.Common.{All, ◌≡◌, ◌⊎◌, ◌≢◌, ℕ, zero, suc, ◌+◌, ◌<◌, ◌≤◌, ◌==◌, Bool, true, false, not, nat_le, if◌then◌else◌, List, [], ◌∷◌, ◌++◌, length, None, Some, inl, inr, refl, sym, ap, subst, ◌∙◌, append_assoc, length-append, arith}
use Rattle.std.proofs.lemmas.Bool.Decides.{nat_tests}
use Rattle.std.proofs.lemmas.List.{append-nil}
use Rattle.std.proofs.lemmas.List.Elements.{All-append, All-cons, All-nil}
use Rattle.std.proofs.Math.Logic.{∥∥₁_elim}
use mathlib.Core.HLevel.{⊥_prop}
use Rattle.rr_code.specs.declared.command.Command.{Command}
use Rattle.rr_code.specs.declared.command.Command.TheVariants.{Open}
use Rattle.rr_code.specs.Command.{SpellsCommand}
use Rattle.rr_pages.specs.declared.fault.Fault.{Fault as OfPages}
use Rattle.rr_pages.specs.declared.fault.Fault.TheVariants as pages
use Rattle.rr_reading.specs.Chains as counting
use Rattle.rr_reading.specs.Dir.Kept.{IsShort, SpellsKept}
use Rattle.rr_reading.specs.Lending.Commands.{Begins, IfCut}
use Rattle.rr_reading.proofs.LendingLemmas.CommandLemmas.{kept_cut}
use Rattle.rr_reading.proofs.LendingLemmas.FrontLemmas.{CountsFront, SpellsFront, counts_all, counts_cut, counts_past, front_more, front_none, front_split, front_whole, kept_nothing, next_word}
use Rattle.rr_game.proofs.Playing.{opens}
use Rattle.rr_game.specs.declared.history.fault.Fault as table
use Rattle.rr_game.specs.declared.history.fault.Fault.TheVariants as H
use Rattle.rr_game.specs.declared.history.table.Table.{Table}
use Rattle.rr_game.specs.History.Laws.{RequestsHaveOneVerdict}
use Rattle.rr_game.specs.History.Playing.{ArePlayed, IsLawfulAfter}
use Rattle.rr_game.specs.History.Tables.{IsPlayed, kept_in}
use Rattle.rr_game.specs.History.Verdict.{request_judgement, stamp_verdict}
use Rattle.rr_game.proofs.HistoryLemmas.Judging.{has_room, lawful_behind_stamp, lawful_with_room}
use Rattle.rr_kit.specs.declared.kit.Kit.{Kit}
use Rattle.rr_tables.specs.Records.Words.{SpellCommands}
use Rattle.rr_turns.specs.declared.request.Request.TheVariants.{Play}
use Rattle.rr_turns.specs.Judgement.{MayFind}
use Rattle.rr_turns.specs.Kept.{Kept}
use Rattle.rr_turns.proofs.JudgementLemmas.{only-wanting}
use Rattle.rr_turns.proofs.LawfulLemmas.{lawful-at}
use Rattle.rr_pages.specs.declared.fault.Damage.TheVariants.{Kept as NotPlayed}
use Rattle.rr_store.specs.declared.recovery.fault.Fault.{Fault}
use Rattle.rr_store.specs.declared.recovery.fault.Fault.TheVariants as F
use Rattle.rr_store.specs.Recovery.Fault.{IsOrBreaks, of_chain, of_table}
use Rattle.rr_store.specs.Recovery.Kept.{AreWorded, HasPlayed, HasRoom, HoldsCommands, IsBegunBy, IsUnlawfulAfter, SpellsNoOpening}
use Rattle.rr_store.specs.Recovery.Shown.{Shown, ShowsPlayOf}
use Rattle.rr_store.specs.Recovery.Playing.{BeginsNoTable, No_command, No_opening, First_cut, IsFrontOf, KeepsFront, PlaysNoMore, None_left, Unlawful, Next_cut}
use Rattle.rr_store.proofs.RecoveryLemmas.ShownLemmas.{show_nothing}
use Rattle.rr_store.proofs.RecoveryLemmas.WordLemmas.{as_many, cut, one_command, one_list, spell_push}

-- the bytes hold commands that were played: an opening and then commands that are lawful, each after those before it
pub record HoldsPlayed (kit : Kit) (bytes : List ℕ) (count : ℕ) : Type 0 where
  pub commands : List Command
  pub kept : HoldsCommands bytes count commands
  pub played : ∥ ArePlayed kit commands ∥₁

-- a table has played the commands with which the bytes begin, and so many of the counted ones are left
pub record IsPlaying (bytes rest : List ℕ) (left count : ℕ) (table : Table) : Type 0 where
  pub counts : CountsFront bytes rest left count
  pub spelled : SpellCommands counts.front (kept_in table).commands
  pub stamped : (kept_in table).stamp ≡ length (kept_in table).commands

-- a table begins behind the front of the bytes
pub begins : (kit : Kit) (bytes rest words : List ℕ) (table : Table) → Begins bytes words rest → IsBegunBy kit words table → KeepsFront bytes (kept_in table).commands rest
begins kit bytes rest words table passed begun =
    let one = front_more bytes [] bytes words rest (front_none bytes) passed in
    record { words = words ∷ []; short = one.short; split = one.spelled; spelled = begun.spelled }

pub spells_front : (bytes rest : List ℕ) (commands : List Command) (keeps : KeepsFront bytes commands rest) → SpellsFront bytes keeps.words rest
spells_front bytes rest commands keeps = record { short = keeps.short; spelled = keeps.split }

pub starts : (bytes rest : List ℕ) (left count : ℕ) (table : Table) → KeepsFront bytes (kept_in table).commands rest → (kept_in table).stamp ≡ length (kept_in table).commands
    → length (kept_in table).commands + left ≡ count → IsPlaying bytes rest left count table
starts bytes rest left count table keeps stamped all =
    record {
      counts = record {
        front = keeps.words;
        spells = spells_front bytes rest (kept_in table).commands keeps;
        counted = omega (arith, as_many keeps.words (kept_in table).commands keeps.spelled, all);
      };
      spelled = keeps.spelled;
      stamped = stamped;
    }

-- what the bytes hold begins with the commands at their front
first_ones : (words behind : List (List ℕ)) (front commands : List Command) → SpellCommands words front → SpellCommands (words ++ behind) commands → IsFrontOf front commands
first_ones [] behind [] commands spelled all = (commands, refl)
first_ones [] behind (c ∷ cs) commands spelled all = absurd spelled
first_ones (w ∷ ws) behind [] commands spelled all = absurd spelled
first_ones (w ∷ ws) behind (c ∷ cs) [] spelled all = absurd all
first_ones (w ∷ ws) behind (c ∷ cs) (d ∷ ds) spelled all =
    let here = one_command w d c all.0 spelled.0 in
    let more = first_ones ws behind cs ds spelled.1 all.1 in (more.0, λ i. here i ∷ more.1 i)

pub front_before : (first second commands : List Command) → IsFrontOf first second → IsFrontOf second commands → IsFrontOf first commands
front_before first second commands one two =
    (one.0 ++ two.0, two.1 ∙ ap (λ (cs : List Command). cs ++ two.0) one.1 ∙ append_assoc first one.0 two.0)

-- from no snapshot a table was played, whatever commands it comes to keep
pub played_whole : (kit : Kit) (shown : List Shown) (table : Table)
    → ((commands : List Command) → IsFrontOf (kept_in table).commands commands → All (ShowsPlayOf kit commands) shown → IsPlayed kit table) → shown ≡ [] → IsPlayed kit table
played_whole kit shown table so none =
    let own = (kept_in table).commands in so own ([], sym (append-nil own)) (show_nothing kit own shown none)

pub held_front : (bytes rest : List ℕ) (count : ℕ) (words : List (List ℕ)) (front commands : List Command) → SpellsFront bytes words rest → SpellCommands words front → HoldsCommands bytes count commands
    → IsFrontOf front commands
held_front bytes rest count words front commands spells spelled holds =
    let split = front_split words bytes rest holds.words spells holds.kept in
    first_ones words split.behind front commands spelled (subst (λ (ws : List (List ℕ)). SpellCommands ws commands) split.split holds.spelled)

-- they aren't more than it holds
pub too_many : (bytes rest : List ℕ) (count : ℕ) (front commands : List Command) → KeepsFront bytes front rest → count < length front → HoldsCommands bytes count commands → ⊥
too_many bytes rest count front commands keeps past holds =
    let split = front_split keeps.words bytes rest holds.words (spells_front bytes rest front keeps) holds.kept in
    omega (arith, as_many keeps.words front keeps.spelled, ap length split.split, length-append keeps.words split.behind, holds.counted, past)

pub goes_on : (kit : Kit) (bytes rest behind words : List ℕ) (left less count : ℕ) (old new : Table) → IsPlaying bytes rest left count old → Begins rest words behind → less + 1 ≡ left → HasPlayed kit old words new
    → IsPlaying bytes behind less count new
goes_on kit bytes rest behind words left less count old new so_far passed one more =
    let commands : (kept_in new).commands ≡ (kept_in old).commands ++ more.command ∷ [] = ap (λ (k : Kept Command). k.commands) more.kept in
    let stamp : (kept_in new).stamp ≡ (kept_in old).stamp + 1 = ap (λ (k : Kept Command). k.stamp) more.kept in
    let counted : length (kept_in new).commands ≡ length ((kept_in old).commands ++ more.command ∷ []) = ap length commands in
    let last = length-append (kept_in old).commands (more.command ∷ []) in
    let stamped = so_far.stamped in
    record {
      counts = record {
        front = so_far.counts.front ++ words ∷ [];
        spells = front_more bytes so_far.counts.front rest words behind so_far.counts.spells passed;
        counted = omega (arith, so_far.counts.counted, one, length-append so_far.counts.front (words ∷ []));
      };
      spelled = subst (λ (cs : List Command). SpellCommands (so_far.counts.front ++ words ∷ []) cs) (sym commands)
          (spell_push so_far.counts.front words (kept_in old).commands more.command so_far.spelled more.spelled);
      stamped = omega (arith, stamp, counted, last, stamped);
    }

-- the commands were read of words that are short
pub worded_first : (kit : Kit) (words : List ℕ) (table : Table) → length words ≤ 65535 → IsBegunBy kit words table → AreWorded (kept_in table).commands
worded_first kit words table short begun = record { words = words ∷ []; short = All-cons IsShort words [] (omega (arith, short)) (All-nil IsShort); spelled = begun.spelled }

pub worded_more : (kit : Kit) (words : List ℕ) (old new : Table) → length words ≤ 65535 → HasPlayed kit old words new → AreWorded (kept_in old).commands → AreWorded (kept_in new).commands
worded_more kit words old new short more worded =
    let commands : (kept_in new).commands ≡ (kept_in old).commands ++ more.command ∷ [] = ap (λ (k : Kept Command). k.commands) more.kept in
    subst (λ (cs : List Command). AreWorded cs) (sym commands)
    (record {
      words = worded.words ++ words ∷ [];
      short = All-append IsShort worded.words (words ∷ []) worded.short (All-cons IsShort words [] (omega (arith, short)) (All-nil IsShort));
      spelled = spell_push worded.words words (kept_in old).commands more.command worded.spelled more.spelled;
    })

-- all were played
pub ends : (bytes rest : List ℕ) (left count : ℕ) (table : Table) → IsPlaying bytes rest left count table → rest ≡ [] → left ≡ 0 → HoldsCommands bytes count (kept_in table).commands
ends bytes rest left count table so_far end none =
    record {
      words = so_far.counts.front;
      kept = front_whole bytes so_far.counts.front rest so_far.counts.spells end;
      counted = omega (arith, so_far.counts.counted, none);
      spelled = so_far.spelled;
    }

room_left : (bytes rest : List ℕ) (left count : ℕ) (old : Table) → IsPlaying bytes rest left count old → 0 < left → count ≤ 4096 → HasRoom old
room_left bytes rest left count old so_far some few =
    let many = as_many so_far.counts.front (kept_in old).commands so_far.spelled in
    let counted = so_far.counts.counted in
    let stamped = so_far.stamped in
    let less : length (kept_in old).commands < 4096 = omega (arith, counted, many, some, few) in
    record { room = less; stamp = omega (arith, less, stamped) }

-- one of them isn't lawful

lawful_there : (kit : Kit) (before : List Command) (command : Command) (behind : List Command) → ArePlayed kit before → ArePlayed kit (before ++ command ∷ behind)
    → IsLawfulAfter kit before command
lawful_there kit [] command behind some played = absurd some
lawful_there kit (opening ∷ others) command behind some played =
    lawful-at (IsLawfulAfter kit) (opening ∷ []) others command behind played.1

unplayed : (kit : Kit) (front : List (List ℕ)) (words : List ℕ) (rest : List (List ℕ)) (before commands : List Command) → SpellCommands front before
    → ∥ ArePlayed kit before ∥₁ → IsUnlawfulAfter kit before words → SpellCommands (front ++ words ∷ rest) commands → ArePlayed kit commands → ⊥
unplayed kit front words rest before commands spelled some unlawful all played =
    let parts = cut front words rest commands all in
    let same = one_list front parts.before before parts.spelled_before spelled in
    let whole : commands ≡ before ++ parts.command ∷ parts.behind = parts.split ∙ ap (λ (l : List Command). l ++ parts.command ∷ parts.behind) same in
    ∥∥₁_elim some ⊥_prop
    (λ first. unlawful parts.command parts.spelled
    (lawful_there kit before parts.command parts.behind first (subst (λ (cs : List Command). ArePlayed kit cs) whole played)))

lt_or_none : (n : ℕ) → (0 < n) ⊎ (n ≡ 0)
lt_or_none zero = inr refl
lt_or_none (suc n) = inl (omega arith)

-- what is held, as so many commands
held_so : (kit : Kit) (bytes : List ℕ) (count : ℕ) → HoldsPlayed kit bytes count → counting.HoldsCommands bytes count
held_so kit bytes count holds = (holds.kept.words, holds.kept.kept, holds.kept.counted)

unlawful_next : (kit : Kit) (bytes rest words behind : List ℕ) (left count : ℕ) (old : Table) → IsPlaying bytes rest left count old → IsPlayed kit old → 0 < left → Begins rest words behind
    → (HasRoom old → IsUnlawfulAfter kit (kept_in old).commands words) → count ≤ 4096 → HoldsPlayed kit bytes count → ⊥
unlawful_next kit bytes rest words behind left count old so_far old_played some passed refused few holds =
    let split = front_split so_far.counts.front bytes rest holds.kept.words so_far.counts.spells holds.kept.kept in
    let next = next_word rest words behind split.behind passed split.kept in
    let whole : holds.kept.words ≡ so_far.counts.front ++ words ∷ next.0 = split.split ∙ ap (λ (l : List (List ℕ)). so_far.counts.front ++ l) next.1 in
    let spelled = subst (λ (ws : List (List ℕ)). SpellCommands ws holds.commands) whole holds.kept.spelled in
    let unlawful = refused (room_left bytes rest left count old so_far some few) in
    ∥∥₁_elim holds.played ⊥_prop
    (λ played. unplayed kit so_far.counts.front words next.0 (kept_in old).commands holds.commands so_far.spelled old_played.lawful unlawful spelled played)

-- the next command isn't played
pub breaks : (kit : Kit) (bytes rest : List ℕ) (left count : ℕ) (old : Table) → IsPlaying bytes rest left count old → IsPlayed kit old → PlaysNoMore kit rest old left → count ≤ 4096 → HoldsPlayed kit bytes count → ⊥
breaks kit bytes rest left count old so_far played (None_left words behind passed none) few holds = counts_past bytes rest behind words left count so_far.counts passed none (held_so kit bytes count holds)
breaks kit bytes rest left count old so_far played (Next_cut is_cut) few holds = counts_cut bytes rest left count so_far.counts is_cut (held_so kit bytes count holds)
breaks kit bytes rest left count old so_far played (Unlawful words behind passed refused) few holds =
    elim (lt_or_none left) [
      | inl some ↦ unlawful_next kit bytes rest words behind left count old so_far played some passed refused few holds
      | inr none ↦ counts_past bytes rest behind words left count so_far.counts passed none (held_so kit bytes count holds)
    ]

-- or there are fewer
pub ends_early : (kit : Kit) (bytes rest : List ℕ) (left count : ℕ) (old : Table) → IsPlaying bytes rest left count old → rest ≡ [] → left ≢ 0 → HoldsPlayed kit bytes count → ⊥
ends_early kit bytes rest left count old so_far end some holds = some (counts_all bytes rest left count so_far.counts end (held_so kit bytes count holds))

-- no opening comes first
no_opening : (kit : Kit) (words : List ℕ) (rest : List (List ℕ)) (commands : List Command) → SpellsNoOpening words → SpellCommands (words ∷ rest) commands → ArePlayed kit commands → ⊥
no_opening kit words rest [] none spelled played = absurd played
no_opening kit words rest (command ∷ commands) none spelled played =
    let opening = opens (command ∷ []) played.0 in
    let same : command ≡ Open opening.players = cc (opening.split) in
    none opening.players (subst (λ (c : Command). SpellsCommand words c) same spelled.0)

nothing_spelled : (kit : Kit) (commands : List Command) → SpellCommands [] commands → ArePlayed kit commands → ⊥
nothing_spelled kit [] spelled played = played
nothing_spelled kit (command ∷ commands) spelled played = spelled

-- no command comes first, or none that opens
none_first : (kit : Kit) (bytes : List ℕ) (count : ℕ) (words : List (List ℕ)) (holds : HoldsPlayed kit bytes count) → words ≡ holds.kept.words → words ≡ [] → ⊥
none_first kit bytes count words holds same none =
    let spelled = subst (λ (ws : List (List ℕ)). SpellCommands ws holds.commands) (sym same ∙ none) holds.kept.spelled in
    ∥∥₁_elim holds.played ⊥_prop (λ played. nothing_spelled kit holds.commands spelled played)

none_counted : (words : List (List ℕ)) → length words ≡ 0 → words ≡ []
none_counted [] same = refl
none_counted (first ∷ words) same = absurd (omega (arith, same))

nothing_kept : (bytes : List ℕ) (words : List (List ℕ)) → bytes ≡ [] → SpellsKept bytes words → words ≡ []
nothing_kept bytes words end kept = none_counted words (kept_nothing bytes words end kept)

pub begins_otherwise : (kit : Kit) (bytes : List ℕ) (count : ℕ) → BeginsNoTable bytes → HoldsPlayed kit bytes count → ⊥
begins_otherwise kit bytes count (No_command end) holds = none_first kit bytes count holds.kept.words holds refl (nothing_kept bytes holds.kept.words end holds.kept.kept)
begins_otherwise kit bytes count (First_cut is_cut) holds = kept_cut bytes holds.kept.words is_cut holds.kept.kept
begins_otherwise kit bytes count (No_opening words behind passed none) holds =
    let next = next_word bytes words behind holds.kept.words passed holds.kept.kept in
    let spelled = subst (λ (ws : List (List ℕ)). SpellCommands ws holds.commands) next.1 holds.kept.spelled in
    ∥∥₁_elim holds.played ⊥_prop (λ played. no_opening kit words next.0 holds.commands none spelled played)

-- a fault that says less
pub or_breaks : {P Q : Type 0} (fault : Fault) → (fault ≡ F.OutOfMemory) ⊎ ((fault ≡ F.Damaged NotPlayed) × P) → (P → Q) → IsOrBreaks NotPlayed Q fault
or_breaks {P} {Q} fault (inl memory) so = subst (λ (f : Fault). IsOrBreaks NotPlayed Q f) (sym memory) tt
or_breaks {P} {Q} fault (inr refused) so = subst (λ (f : Fault). IsOrBreaks NotPlayed Q f) (sym refused.0) (refl, so refused.1)

pub breaks_so : {P Q : Type 0} (fault : Fault) → IsOrBreaks NotPlayed P fault → (P → Q) → IsOrBreaks NotPlayed Q fault
breaks_so (F.Damaged damage) is so = (is.0, so is.1)
breaks_so (F.Disk fault) is so = tt
breaks_so F.OutOfMemory is so = tt

-- a chain that is cut
pub cut_breaks : {P Q : Type 0} (fault : OfPages) → IfCut fault P → (P → Q) → IsOrBreaks NotPlayed Q (of_chain fault)
cut_breaks pages.FileFull is_cut so = tt
cut_breaks pages.HalfFull is_cut so = tt
cut_breaks (pages.Damaged damage) is_cut so = (refl, so is_cut.1)
cut_breaks pages.NotAStore is_cut so = absurd is_cut
cut_breaks (pages.Disk fault) is_cut so = tt
cut_breaks pages.OutOfMemory is_cut so = tt

-- a command that a table refuses

both_passed : {F : Type 0} (same late : Bool) (first second : F) → same ≡ true → late ≡ false → (if not same then Some first else if late then Some second else None) ≡ None
both_passed true false first second h k = refl
both_passed true true first second h k = absurd cc
both_passed false late first second h k = absurd cc

equal_test : (n m : ℕ) → n ≡ m → (n == m) ≡ true
equal_test n m h = grind (arith, nat_tests)

below_test : (m n : ℕ) → n < m → nat_le m n ≡ false
below_test m n h = grind (arith, nat_tests)

present : (stamp : ℕ) (kept : Kept Command) → stamp ≡ kept.stamp → kept.stamp < 4000000000 → stamp_verdict kept stamp ≡ None
present stamp kept same less =
    both_passed (kept.stamp == stamp) (nat_le 4000000000 kept.stamp) (H.StaleStamp kept.stamp) H.TooManyCommands
    (equal_test kept.stamp stamp (sym same)) (below_test 4000000000 kept.stamp less)

only_memory : RequestsHaveOneVerdict → (kit : Kit) (old : Table) (stamp : ℕ) (command : Command) (fault : table.Fault) → stamp ≡ (kept_in old).stamp
    → MayFind (request_judgement kit (kept_in old) stamp (Play command)) H.OutOfMemory fault → HasRoom old → IsLawfulAfter kit (kept_in old).commands command → fault ≡ H.OutOfMemory
only_memory law kit old stamp command fault same found room lawful =
    let kept = kept_in old in
    let with_room = lawful_with_room kit kept command (has_room kept (length kept.commands) refl room.room) lawful in
    let passed = lawful_behind_stamp kit kept stamp (Play command) (present stamp kept same room.stamp) with_room in
    only-wanting (request_judgement kit kept stamp (Play command)) H.OutOfMemory fault (law kit kept stamp (Play command)) passed found

told : (fault : table.Fault) (P : Type 0) → ((fault ≡ H.OutOfMemory → ⊥) → P) → (of_table fault ≡ F.OutOfMemory) ⊎ ((of_table fault ≡ F.Damaged NotPlayed) × P)
told H.OutOfMemory P h = inl refl
told (H.Game fault) P h = inr (refl, h (λ e. absurd cc))
told (H.StaleStamp stamp) P h = inr (refl, h (λ e. absurd cc))
told H.TurnNotKept P h = inr (refl, h (λ e. absurd cc))
told H.TooManyCommands P h = inr (refl, h (λ e. absurd cc))

pub refused : {Q : Type 0} → RequestsHaveOneVerdict → (kit : Kit) (old : Table) (stamp : ℕ) (words : List ℕ) (command : Command) (fault : table.Fault) → SpellsCommand words command
    → stamp ≡ (kept_in old).stamp → (Q → MayFind (request_judgement kit (kept_in old) stamp (Play command)) H.OutOfMemory fault)
    → (of_table fault ≡ F.OutOfMemory) ⊎ ((of_table fault ≡ F.Damaged NotPlayed) × (Q → HasRoom old → IsUnlawfulAfter kit (kept_in old).commands words))
refused {Q} law kit old stamp words command fault spelled same found = told fault _ refused_there
  where
    refused_there : (fault ≡ H.OutOfMemory → ⊥) → Q → HasRoom old → IsUnlawfulAfter kit (kept_in old).commands words
    refused_there other played room there spells lawful =
        let here = subst (λ (c : Command). IsLawfulAfter kit (kept_in old).commands c) (one_command words there command spells spelled) lawful in
        other (only_memory law kit old stamp command fault same (found played) room here)
