-- The commands that words spell: there is one list of them, and it is cut where the words are; and which words are those of lines.
use Rattle.std.proofs.Common.{◌≡◌, ℕ, suc, ◌+◌, List, [], ◌∷◌, ◌++◌, length, inl, refl, sym, ap, subst, ◌∙◌, length-append, arith}
use Rattle.rr_code.specs.declared.command.Command.{Command}
use Rattle.rr_code.specs.Command.{SpellsCommand}
use Rattle.rr_code.proofs.TextLemmas.{command-unique}
use Rattle.rr_reading.specs.declared.dir.directory.TableEntry.{TableEntry}
use Rattle.rr_reading.specs.declared.lending.commands.Commands.{Commands}
use Rattle.rr_reading.specs.Chains as counting
use Rattle.rr_reading.specs.Lending.Commands.{Begins, IsCut}
use Rattle.rr_reading.proofs.LendingLemmas.FrontLemmas.{CountsFront, counts_all, counts_cut, counts_past, front_more, front_none, front_split, front_whole, next_word}
use Rattle.rr_tables.specs.Records.Words.{SpellCommands}
use Rattle.rr_turns.specs.declared.request.Request.TheVariants.{Play}
use Rattle.rr_store.specs.declared.recovery.words.Next.{Next}
use Rattle.rr_store.specs.Recovery.Spelling.{ReadsWords}
use Rattle.rr_store.specs.Recovery.Told.{AreSpelled, IsSpelled, TellsWords}

pub one_command : (words : List ℕ) (first second : Command) → SpellsCommand words first → SpellsCommand words second → first ≡ second
one_command words first second a b = command-unique first second a.command b.command (sym a.spelled ∙ b.spelled)

pub one_list : (words : List (List ℕ)) (first second : List Command) → SpellCommands words first → SpellCommands words second → first ≡ second
one_list [] [] [] a b = refl
one_list [] [] (d ∷ ds) a b = absurd b
one_list [] (c ∷ cs) ds a b = absurd a
one_list (w ∷ ws) [] ds a b = absurd a
one_list (w ∷ ws) (c ∷ cs) [] a b = absurd b
one_list (w ∷ ws) (c ∷ cs) (d ∷ ds) a b =
    let here = one_command w c d a.0 b.0 in
    let more = one_list ws cs ds a.1 b.1 in
    λ i. here i ∷ more i

pub spell_push : (words : List (List ℕ)) (word : List ℕ) (commands : List Command) (command : Command)
    → SpellCommands words commands → SpellsCommand word command → SpellCommands (words ++ word ∷ []) (commands ++ command ∷ [])
spell_push [] word [] command a last = (last, tt)
spell_push [] word (c ∷ cs) command a last = absurd a
spell_push (w ∷ ws) word [] command a last = absurd a
spell_push (w ∷ ws) word (c ∷ cs) command a last = (a.0, spell_push ws word cs command a.1 last)

pub as_many : (words : List (List ℕ)) (commands : List Command) → SpellCommands words commands → length words ≡ length commands
as_many [] [] a = refl
as_many [] (c ∷ cs) a = absurd a
as_many (w ∷ ws) [] a = absurd a
as_many (w ∷ ws) (c ∷ cs) a = ap suc (as_many ws cs a.1)

-- the commands of a front of the words, of the word behind it, and of the others
pub record Cut (front : List (List ℕ)) (word : List ℕ) (back : List (List ℕ)) (commands : List Command) : Type 0 where
  pub before : List Command
  pub command : Command
  pub behind : List Command
  pub split : commands ≡ before ++ command ∷ behind
  pub spelled_before : SpellCommands front before
  pub spelled : SpellsCommand word command
  pub spelled_behind : SpellCommands back behind

pub cut : (front : List (List ℕ)) (word : List ℕ) (back : List (List ℕ)) (commands : List Command)
    → SpellCommands (front ++ word ∷ back) commands → Cut front word back commands
cut [] word back [] a = absurd a
cut [] word back (c ∷ cs) a =
    record {
      before = [];
      command = c;
      behind = cs;
      split = refl;
      spelled_before = tt;
      spelled = a.0;
      spelled_behind = a.1;
    }
cut (w ∷ ws) word back [] a = absurd a
cut (w ∷ ws) word back (c ∷ cs) a =
    let more = cut ws word back cs a.1 in
    record {
      before = c ∷ more.before;
      command = more.command;
      behind = more.behind;
      split = ap (λ (l : List Command). c ∷ l) more.split;
      spelled_before = (a.0, more.spelled_before);
      spelled = more.spelled;
      spelled_behind = more.spelled_behind;
    }

-- of the counted commands so many are left, and the words of the others are those of lines
pub record SpellsSo (bytes rest : List ℕ) (left count : ℕ) : Type 0 where
  pub counts : CountsFront bytes rest left count
  pub spelled : AreSpelled counts.front

pub spells_none : (bytes rest : List ℕ) (count : ℕ) → rest ≡ bytes → SpellsSo bytes rest count count
spells_none bytes rest count same =
    subst (λ (bs : List ℕ). SpellsSo bytes bs count count) (sym same) (record { counts = record { front = []; spells = front_none bytes; counted = omega arith }; spelled = tt })

spelled_last : (front : List (List ℕ)) (words : List ℕ) → AreSpelled front → IsSpelled words → AreSpelled (front ++ words ∷ [])
spelled_last [] words all last = (last, tt)
spelled_last (first ∷ front) words all last = (all.0, spelled_last front words all.1 last)

spelled_at : (front : List (List ℕ)) (words : List ℕ) (behind : List (List ℕ)) → AreSpelled (front ++ words ∷ behind) → IsSpelled words
spelled_at [] words behind all = all.0
spelled_at (first ∷ front) words behind all = spelled_at front words behind all.1

pub spells_more : (bytes rest behind words : List ℕ) (left less count : ℕ) → SpellsSo bytes rest left count → Begins rest words behind → IsSpelled words → less + 1 ≡ left → SpellsSo bytes behind less count
spells_more bytes rest behind words left less count so passed spelled one =
    record {
      counts = record {
        front = so.counts.front ++ words ∷ [];
        spells = front_more bytes so.counts.front rest words behind so.counts.spells passed;
        counted = omega (arith, so.counts.counted, one, length-append so.counts.front (words ∷ []));
      };
      spelled = spelled_last so.counts.front words so.spelled spelled;
    }

counted_so : (entry : TableEntry) (bytes : List ℕ) → TellsWords entry bytes → counting.HoldsCommands bytes entry.kept
counted_so entry bytes tells = (tells.kept_words, tells.kept, tells.counted)

module _ (entry : TableEntry) (bytes rest : List ℕ) (left : ℕ) (so : SpellsSo bytes rest left entry.kept) where
  -- a command too many, or one of other words
  pub words_past : (words behind : List ℕ) → Begins rest words behind → left ≡ 0 → TellsWords entry bytes → ⊥
  words_past words behind passed none tells = counts_past bytes rest behind words left entry.kept so.counts passed none (counted_so entry bytes tells)

  pub words_other : (words behind : List ℕ) → Begins rest words behind → (IsSpelled words → ⊥) → TellsWords entry bytes → ⊥
  words_other words behind passed none tells =
      let split = front_split so.counts.front bytes rest tells.kept_words so.counts.spells tells.kept in
      let next = next_word rest words behind split.behind passed split.kept in
      let whole : tells.kept_words ≡ so.counts.front ++ words ∷ next.0 = split.split ∙ ap (λ (l : List (List ℕ)). so.counts.front ++ l) next.1 in
      none (spelled_at so.counts.front words next.0 (subst (λ (ws : List (List ℕ)). AreSpelled ws) whole tells.spelled))

  -- the end, or within a command
  pub words_end : rest ≡ [] → left ≡ 0 → TellsWords entry bytes
  words_end end none =
      record { kept_words = so.counts.front; kept = front_whole bytes so.counts.front rest so.counts.spells end; counted = omega (arith, so.counts.counted, none); spelled = so.spelled }

  pub words_all : rest ≡ [] → TellsWords entry bytes → left ≡ 0
  words_all end tells = counts_all bytes rest left entry.kept so.counts end (counted_so entry bytes tells)

  pub words_cut : IsCut rest → TellsWords entry bytes → ⊥
  words_cut is_cut tells = counts_cut bytes rest left entry.kept so.counts is_cut (counted_so entry bytes tells)

-- what is read of a file that is the same
pub reads_along : (now file : List ℕ) (old new : Commands) (next : Next) → now ≡ file → ReadsWords now old next new → ReadsWords file old next new
reads_along now file old new next same reads = subst (λ (f : List ℕ). ReadsWords f old next new) same reads

-- a command's words are those of a request
pub commands_spelled : (words : List (List ℕ)) (commands : List Command) → SpellCommands words commands → AreSpelled words
commands_spelled [] [] spelled = tt
commands_spelled [] (c ∷ cs) spelled = absurd spelled
commands_spelled (w ∷ ws) [] spelled = absurd spelled
commands_spelled (w ∷ ws) (c ∷ cs) spelled =
    (inl (Play c, record { request = spelled.0.command; spelled = spelled.0.spelled }), commands_spelled ws cs spelled.1)
