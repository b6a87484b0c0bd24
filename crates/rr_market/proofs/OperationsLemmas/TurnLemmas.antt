-- Which corporations had their turn, over a stretch of a book.
use Rattle.std.specs.Prelude.{◌≡◌, ◌<◌, ℤ, Bool, true, false, not, ◌||◌, List, [], ◌∷◌, ◌++◌, length, None, Some, find, if◌then◌else◌, refl}
use Rattle.std.specs.List.{list_any}
use Rattle.std.proofs.Common.{sym, ◌∙◌, ap, cond, inl, inr, arith, length-set, get_or-set_other}
use Rattle.std.proofs.Math.Bool.{or-false, or-true, or_assoc}
use Rattle.std.proofs.lemmas.Bool.{false≢true, and_parts, not-true, or_parts}
use Rattle.std.proofs.lemmas.Bool.Decides.{eqb_tells}
use Rattle.std.proofs.lemmas.Grind.{get_or-set_at}
use Rattle.rr_roster.specs.declared.company.Corp.{Corp}
use Rattle.rr_roster.specs.declared.company.Corp.TheVariants as K
use Rattle.rr_roster.specs.declared.company.Kind.{Kind}
use Rattle.rr_roster.specs.Company.{corp_index}
use Rattle.rr_roster.specs.Chart.Chart.{Row}
use Rattle.rr_books.specs.declared.parties.Party.TheVariants as P
use Rattle.rr_books.specs.declared.entries.Entry.{Entry}
use Rattle.rr_books.specs.declared.entries.Entry.TheVariants as E
use Rattle.rr_books.specs.declared.entries.Marker.TheVariants as M
use Rattle.rr_books.specs.declared.acts.Act.{Act}
use Rattle.rr_books.specs.declared.acts.Act.TheVariants as A
use Rattle.rr_books.specs.Book.{Book, balance, train_holder}
use Rattle.rr_books.specs.Same.{same_corp}
use Rattle.rr_market.specs.Order.{operating_order}
use Rattle.rr_rounds.specs.Round.{Marks, is_marked, no_marks, with_mark}
use Rattle.rr_rounds.specs.Round as stock
use Rattle.rr_market.specs.Operations.Phases.{phase}
use Rattle.rr_market.specs.Operations.Progress.{Progress, after, after_act, after_entry, after_first_round, after_next_round, beginning, follow, had_turn, is_operating, progress}
use Rattle.rr_market.specs.Operations.Due.{as_turn_began, due, first_waiting, is_waiting}
use Rattle.rr_market.specs.Operations.OperatingLaws.{TurnsAreOfTheirRound, TurnsComeOnce, begins_operating, end, is_end_of}
use Rattle.rr_market.proofs.OperationsLemmas.ProgressLemmas.{from_first}

corp_below : (c : Corp) → corp_index c < 8
corp_below K.Prr = omega arith
corp_below K.Nyc = omega arith
corp_below K.Cpr = omega arith
corp_below K.Bo = omega arith
corp_below K.Co = omega arith
corp_below K.Erie = omega arith
corp_below K.Nynh = omega arith
corp_below K.Bm = omega arith

marked_after : (row : Marks) (c d : Corp) → length row ≡ 8 → is_marked (with_mark row d) c ≡ (is_marked row c || same_corp c d)
marked_after row c d eight =
    let below = corp_below d in
    elim (eqb_tells (corp_index c) (corp_index d)) [
      | inl same ↦
          let within : corp_index d < length row = omega (arith, below, eight) in
          get_or-set_at row (corp_index d) (corp_index c) true false same.1 within
          ∙ sym (ap (λ (b : Bool). is_marked row c || b) same.0 ∙ or-true (is_marked row c))
      | inr other ↦
          get_or-set_other row (corp_index d) (corp_index c) true false other.1
          ∙ sym (ap (λ (b : Bool). is_marked row c || b) other.0 ∙ or-false (is_marked row c))
    ]

-- what an entry adds to the turns that were had
record Adds (old new : Marks) (ended : Corp → Bool) : Type 0 where
  eight : length old ≡ 8 → length new ≡ 8
  turns : (c : Corp) → length old ≡ 8 → is_marked new c ≡ (is_marked old c || ended c)

nothing_added : (marks : Marks) → Adds marks marks (λ c. false)
nothing_added marks = record { eight = λ h. h; turns = λ c h. sym (or-false (is_marked marks c)) }

act_adds : (act : Act) (p : Progress) → Adds p.turns (after_act act p).turns (λ c. is_end_of c (E.Step (M.Act act)))
act_adds (A.End d) p = record {
  eight = λ h. length-set p.turns (corp_index d) true ∙ h;
  turns = λ c h. marked_after p.turns c d h;
}
act_adds (A.Lay c hex tile turn) p = nothing_added p.turns
act_adds (A.Station c hex centre) p = nothing_added p.turns
act_adds (A.Run c sheet) p = nothing_added p.turns
act_adds (A.RunBest c sheet certificate) p = nothing_added p.turns
act_adds (A.PayOut c) p = nothing_added p.turns
act_adds (A.Hold c) p = nothing_added p.turns
act_adds (A.Bankrupt s) p = nothing_added p.turns
act_adds _ p = nothing_added p.turns

entry_adds : (now : Kind) (bank : ℤ) (p : Progress) (e : Entry) → begins_operating e ≡ false → Adds p.turns (after_entry now bank p e).turns (λ c. is_end_of c e)
entry_adds now bank p (E.Step (M.Act act)) h = act_adds act p
entry_adds now bank p (E.Step M.Operating) h = absurd (false≢true (sym h))
entry_adds now bank p (E.Step (M.Auction names)) h = nothing_added p.turns
entry_adds now bank p (E.Step M.Stock) h = nothing_added p.turns
entry_adds now bank p (E.Step (M.Float c)) h = nothing_added p.turns
entry_adds now bank p (E.Pay from to amount) h = nothing_added p.turns
entry_adds now bank p _ h = nothing_added p.turns

turns_through : (book es : Book) (p : Progress) (c : Corp) → length p.turns ≡ 8 → list_any begins_operating es ≡ false → had_turn (follow book p es) c ≡ (had_turn p c || list_any (is_end_of c) es)
turns_through book [] p c eight h = sym (or-false (had_turn p c))
turns_through book (e ∷ es) p c eight h =
    let parts = or_parts (begins_operating e) (list_any begins_operating es) h in
    let once = entry_adds (phase (train_holder book)) (balance book P.Bank) p e parts.0 in
    turns_through (book ++ e ∷ []) es (after book p e) c (once.eight eight) parts.1
    ∙ ap (λ (b : Bool). b || list_any (is_end_of c) es) (once.turns c eight)
    ∙ or_assoc (had_turn p c) (is_end_of c e) (list_any (is_end_of c) es)

-- no corporation had its turn as a round begins
round_begins : (now : Kind) (p : Progress) (b : Bool) → (if b then after_next_round p else after_first_round now p).turns ≡ no_marks
round_begins now p true = refl
round_begins now p false = refl

none_marked : (c : Corp) → is_marked no_marks c ≡ false
none_marked K.Prr = refl
none_marked K.Nyc = refl
none_marked K.Cpr = refl
none_marked K.Bo = refl
none_marked K.Co = refl
none_marked K.Erie = refl
none_marked K.Nynh = refl
none_marked K.Bm = refl

pub turns_of_their_round : TurnsAreOfTheirRound
turns_of_their_round book since c h =
    let e = E.Step M.Operating in
    let begun = after book (progress book) e in
    let none : begun.turns ≡ no_marks = round_begins (phase (train_holder book)) (progress book) (is_operating (progress book).stage) in
    ap (λ (p : Progress). had_turn p c) (from_first book since e)
    ∙ turns_through (book ++ e ∷ []) since begun c (ap (λ (marks : Marks). length marks) none) h
    ∙ ap (λ (marks : Marks). is_marked marks c || list_any (is_end_of c) since) none
    ∙ ap (λ (b : Bool). b || list_any (is_end_of c) since) (none_marked c)

-- there is a mark for each of the eight
eight_once : (now : Kind) (bank : ℤ) (p : Progress) (e : Entry) → length p.turns ≡ 8 → length (after_entry now bank p e).turns ≡ 8
eight_once now bank p (E.Step M.Operating) h = ap (λ (marks : Marks). length marks) (round_begins now p (is_operating p.stage))
eight_once now bank p (E.Step (M.Act act)) h = (act_adds act p).eight h
eight_once now bank p (E.Step (M.Auction names)) h = h
eight_once now bank p (E.Step M.Stock) h = h
eight_once now bank p (E.Step (M.Float c)) h = h
eight_once now bank p (E.Pay from to amount) h = h
eight_once now bank p _ h = h

eight_through : (book es : Book) (p : Progress) → length p.turns ≡ 8 → length (follow book p es).turns ≡ 8
eight_through book [] p h = h
eight_through book (e ∷ es) p h = eight_through (book ++ e ∷ []) es (after book p e) (eight_once (phase (train_holder book)) (balance book P.Bank) p e h)

eight : (book : Book) → length (progress book).turns ≡ 8
unfolding progress
eight book = eight_through [] book beginning refl

same_as_itself : (c : Corp) → same_corp c c ≡ true
same_as_itself K.Prr = refl
same_as_itself K.Nyc = refl
same_as_itself K.Cpr = refl
same_as_itself K.Bo = refl
same_as_itself K.Co = refl
same_as_itself K.Erie = refl
same_as_itself K.Nynh = refl
same_as_itself K.Bm = refl

-- who said `end` had its turn
had_since : (book since : Book) (c : Corp) → list_any begins_operating since ≡ false → had_turn (progress (book ++ end c ∷ since)) c ≡ true
had_since book since c h =
    let begun = after book (progress book) (end c) in
    let marked : had_turn begun c ≡ true = marked_after (progress book).turns c c (eight book) ∙ ap (λ (b : Bool). had_turn (progress book) c || b) (same_as_itself c) ∙ or-true (had_turn (progress book) c) in
    ap (λ (p : Progress). had_turn p c) (from_first book since (end c))
    ∙ turns_through (book ++ end c ∷ []) since begun c ((act_adds (A.End c) (progress book)).eight (eight book)) h
    ∙ ap (λ (b : Bool). b || list_any (is_end_of c) since) marked

-- what is found passes the test
found_passes : (test : Corp → Bool) (cs : List Corp) (c : Corp) → find test cs ≡ Some c → test c ≡ true
found_passes test [] c h = absurd (cc)
found_passes test (x ∷ xs) c h = by_test (test x) refl (λ k. found_passes test xs c k) h
  where
    by_test : (b : Bool) → test x ≡ b → (find test xs ≡ Some c → test c ≡ true) → cond b (Some x) (find test xs) ≡ Some c → test c ≡ true
    by_test true t later k = let same : x ≡ c = cc in ap test (sym same) ∙ t
    by_test false t later k = later k

no_turn_had : (operating : Bool) (floated turns : Marks) (order : List Corp) (c : Corp) → (if operating then first_waiting floated turns order else None) ≡ Some c → is_marked turns c ≡ false
no_turn_had false floated turns order c h = absurd (cc)
no_turn_had true floated turns order c h = not-true (is_marked turns c) ((and_parts (is_marked floated c) (not (is_marked turns c)) (found_passes (is_waiting floated turns) order c h)).1)

due_had_none : (rows : List Row) (book : Book) (c : Corp) → due rows book ≡ Some c → had_turn (progress book) c ≡ false
unfolding due
due_had_none rows book c h = no_turn_had (is_operating (progress book).stage) (stock.progress (as_turn_began book)).floated (progress book).turns (operating_order rows (as_turn_began book)) c h

pub turns_come_once : TurnsComeOnce
turns_come_once rows book since c h k = false≢true (sym (due_had_none rows (book ++ end c ∷ since) c k) ∙ had_since book since c h)
