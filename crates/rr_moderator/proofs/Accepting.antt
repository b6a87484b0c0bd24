-- The reply to an accepted request: the table's new stamp, and behind a run what the trains earned.
use Rattle.std.proofs.Common.{◌≡◌, ℕ, ◌++◌, List, [], ◌∷◌, true, false, Some, Result, Ok, refl, sym, ap, ◌∙◌, codes, append-nil}
use Rattle.std.specs.Prelude.{decimal}
use Rattle.std.specs.Fmt.{signed_decimal}
use Rattle.rr_kit.specs.declared.kit.Kit.{Kit}
use Rattle.rr_code.specs.declared.command.Command.{Command}
use Rattle.rr_turns.specs.declared.request.Request.{Request}
use Rattle.rr_game.specs.Play.{play}
use Rattle.rr_orders.specs.Texts.{added}
use Rattle.rr_store.specs.declared.fault.Fault as store
use Rattle.rr_store.specs.Held.{Held, Takes, Accepted, Refused, Wants, NoRoom, Fails, Again, stamp_after}
use Rattle.rr_store.specs.World.{TableState, state_after, table_named}
use Rattle.rr_moderator.specs.Answer.{accepted_text, runs_trains, earned_words}
use Rattle.rr_entries.specs.Words.{spaced}
use Rattle.rr_moderator.proofs.AloneLemmas.{named_after}

one_stamp : {r : Result ℕ store.Fault} (a b : ℕ) → r ≡ Ok a → r ≡ Ok b → a ≡ b
one_stamp a b p q = cc

-- what is held once a request is accepted
abbrev pub Accepts : Held → Held → List ℕ → Request Command → ℕ → Type 0
Accepts old new name c n =
    (table_named new.tables name ≡ Some (state_after old.kit (table_named old.tables name) c)) × (new.kit ≡ old.kit) × (n ≡ stamp_after old.kit old.tables name c)
    × (new.broken ≡ false)

pub accepts : (old new : Held) (stamp : ℕ) (name : List ℕ) (c : Request Command) (n : ℕ) {taking : Result ℕ store.Fault} → Takes old stamp name c new taking → taking ≡ Ok n
    → Accepts old new name c n
accepts old new stamp name c n (Accepted whole lawful after) is = (
  ap (λ (h : Held). table_named h.tables name) after ∙ named_after old.tables name (state_after old.kit (table_named old.tables name) c),
  ap (λ (h : Held). h.kit) after,
  sym (one_stamp (stamp_after old.kit old.tables name c) n refl is),
  ap (λ (h : Held). h.broken) after ∙ whole,
)
accepts old new stamp name c n (Refused fault whole refused same) is = absurd (cc is)
accepts old new stamp name c n (Wants whole first same) is = absurd (cc is)
accepts old new stamp name c n (NoRoom whole lawful same) is = absurd (cc is)
accepts old new stamp name c n (Fails whole lawful after) is = absurd (cc is)
accepts old new stamp name c n (Again broken same) is = absurd (cc is)

earned_when : (kit : Kit) (t : TableState) (c : Request Command) → runs_trains c ≡ true → earned_words kit t c ≡ signed_decimal (play kit t.commands).revenue.0 ∷ []
earned_when kit t c runs = rw runs refl

silent_when : (kit : Kit) (t : TableState) (c : Request Command) → runs_trains c ≡ false → earned_words kit t c ≡ []
silent_when kit t c runs = rw runs refl

-- the reply so far, which a sheet may follow
abbrev pub told_so_far : Kit → List ℕ → TableState → Request Command → List ℕ
told_so_far kit name t c = codes "ok " ++ name ++ codes " " ++ decimal t.stamp ++ spaced (earned_words kit t c)

pub earned_told : (kit : Kit) (name : List ℕ) (t : TableState) (c : Request Command) (n : ℕ) (ok reply : List ℕ) → n ≡ t.stamp
    → ok ≡ codes "ok " ++ name ++ codes " " ++ decimal n → runs_trains c ≡ true
    → reply ≡ ok ++ (codes " " ++ signed_decimal (play kit t.commands).revenue.0)
    → reply ≡ told_so_far kit name t c
earned_told kit name t c n ok reply stamp told runs is =
    let earned = codes " " ++ signed_decimal (play kit t.commands).revenue.0 in
    let words : spaced (earned_words kit t c) ≡ earned = ap spaced (earned_when kit t c runs) ∙ append-nil earned in
    is
    ∙ ap (λ (l : List ℕ). l ++ earned) (told ∙ ap (λ (m : ℕ). codes "ok " ++ name ++ codes " " ++ decimal m) stamp)
    ∙ ap (λ (l : List ℕ). codes "ok " ++ name ++ codes " " ++ decimal t.stamp ++ l) (sym words)

pub stamp_told : (kit : Kit) (name : List ℕ) (t : TableState) (c : Request Command) (n : ℕ) (ok : List ℕ) → n ≡ t.stamp
    → ok ≡ codes "ok " ++ name ++ codes " " ++ decimal n → runs_trains c ≡ false
    → ok ≡ told_so_far kit name t c
stamp_told kit name t c n ok stamp told runs =
    let words : spaced (earned_words kit t c) ≡ [] = ap spaced (silent_when kit t c runs) in
    told
    ∙ ap (λ (m : ℕ). codes "ok " ++ name ++ codes " " ++ decimal m) stamp
    ∙ sym (append-nil (codes "ok " ++ name ++ codes " " ++ decimal t.stamp))
    ∙ ap (λ (l : List ℕ). codes "ok " ++ name ++ codes " " ++ decimal t.stamp ++ l) (sym words)

-- with a sheet and the end of the line behind
pub whole_told : (kit : Kit) (name : List ℕ) (t : TableState) (c : Request Command) (sheet so_far with_sheet reply : List ℕ) → so_far ≡ told_so_far kit name t c
    → with_sheet ≡ so_far ++ added sheet → reply ≡ with_sheet ++ codes "\n" → reply ≡ accepted_text kit name t c sheet
whole_told kit name t c sheet so_far with_sheet reply told behind ends =
    ends ∙ ap (λ (l : List ℕ). l ++ codes "\n") (behind ∙ ap (λ (l : List ℕ). l ++ added sheet) told)
