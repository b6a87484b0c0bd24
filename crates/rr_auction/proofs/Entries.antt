-- What one entry more makes of an auction.
use Rattle.std.specs.Prelude.{◌≡◌, ℕ, ◌+◌, ◌<◌, Bool, true, false, cond, [], ◌∷◌, ◌++◌, Option, None, Some, length, is_some, slice_index, slice_set, unwrap_or, if◌then◌else◌, ◌==◌, ◌&&◌, refl}
use Rattle.std.specs.Option.{option_map}
use Rattle.std.proofs.Common.{sym, ◌∙◌, ap, arith, inl, inr, zero, suc, get_or, length-set, get_or-set_other}
use Rattle.std.proofs.lemmas.Bool.{false≢true}
use Rattle.std.proofs.lemmas.Bool.Decides.{eqb_tells}
use Rattle.std.proofs.lemmas.Grind.{get_or-set_at}
use Rattle.rr_roster.specs.declared.company.Private.{Private}
use Rattle.rr_roster.specs.declared.company.Corp.{Corp}
use Rattle.rr_roster.specs.Company.{private_index}
use Rattle.rr_books.specs.declared.parties.Seat.{Seat}
use Rattle.rr_books.specs.declared.parties.Place.TheVariants as L
use Rattle.rr_books.specs.declared.certificates.Cert.TheVariants as C
use Rattle.rr_books.specs.declared.entries.Entry.{Entry}
use Rattle.rr_books.specs.declared.entries.Entry.TheVariants as E
use Rattle.rr_books.specs.declared.entries.Marker.{Marker}
use Rattle.rr_books.specs.declared.entries.Marker.TheVariants as M
use Rattle.rr_books.specs.declared.acts.Act.{Act}
use Rattle.rr_books.specs.declared.acts.Act.TheVariants as A
use Rattle.rr_books.specs.Book.{Book, holder, players}
use Rattle.rr_books.specs.Same.{same_seat}
use Rattle.rr_books.specs.Seating.{left_of}
use Rattle.rr_auction.specs.AuctionLaws.{bid_by, bid_told, buys_or_bids, for_sale, is_raised, left_of_buyer, left_of_turn, pass_by, passes, several_bid, trade_by, turn_by}
use Rattle.rr_rounds.specs.Bids.Bids.{Bids, Row, bid_of, bids_on, no_bids, with_bid}
use Rattle.rr_rounds.specs.Bids.Progress.{Progress, after, after_bid, after_last_pass, after_leaving, after_par, after_pass, after_purchase, after_turn_pass, all_pass, progress, raise_due, raise_for}
use Rattle.rr_rounds.specs.Bids.Unsold.{is_private, same_private}
use Rattle.rr_rounds.specs.Bids.ProgressLaws.{progress-none, progress-push}
use Rattle.rr_auction.proofs.Histories.{by_entries}
use Rattle.rr_auction.proofs.Raising.{raiser_several}

-- after a command, where somebody is to raise for what is for sale, or nobody is
abbrev pub once_told : ℕ → Bool → Option Private → Progress → Act → Progress
once_told n raised on a (A.BuyPrivate s) = after_purchase n s a
once_told n raised on a (A.Bid s p m) = after_bid n raised s p m a
once_told n raised on a (A.Pass s) = after_pass n raised on s a
once_told n raised on a (A.Par s c price) = after_par c a
once_told n raised on a _ = a

told : (book : Book) (a : Progress) (act : Act) → after book a (E.Step (M.Act act)) ≡ once_told (players book) (is_some (raise_due (holder book) a)) (for_sale book) a act
told book a (A.BuyPrivate s) = refl
told book a (A.Bid s p m) = refl
told book a (A.Pass s) = refl
told book a (A.Par s c price) = refl
told book a _ = refl

-- a row of six bids for each of the six privates
pub record IsTable (bids : Bids) : Type 0 where
  pub rows : length bids ≡ 6
  pub seats : (k : ℕ) → k < 6 → length (get_or bids k []) ≡ 6

table_none : IsTable no_bids
table_none = record { rows = refl; seats = of }
  where
    of : (k : ℕ) → k < 6 → length (get_or no_bids k []) ≡ 6
    of zero h = refl
    of (suc zero) h = refl
    of (suc (suc zero)) h = refl
    of (suc (suc (suc zero))) h = refl
    of (suc (suc (suc (suc zero)))) h = refl
    of (suc (suc (suc (suc (suc zero))))) h = refl
    of (suc (suc (suc (suc (suc (suc k)))))) h = absurd (omega arith)

table_bid : (bids : Bids) (q : Private) (t : Seat) (m : ℕ) → IsTable bids → IsTable (with_bid bids q t m)
table_bid bids q t m table =
    let row : Row = slice_set (bids_on bids q) t.0 m in
    record {
      rows = length-set bids (private_index q) row ∙ table.rows;
      seats = λ k h.
          elim (eqb_tells k (private_index q)) [
            | inl same ↦
                let within : private_index q < length bids = omega (arith, same.1, table.rows) in
                ap (λ (r : Row). length r) (get_or-set_at bids (private_index q) k row [] same.1 within)
                ∙ length-set (bids_on bids q) t.0 m
                ∙ ap (λ (j : ℕ). length (get_or bids j [])) (sym same.1)
                ∙ table.seats k h
            | inr other ↦ ap (λ (r : Row). length r) (get_or-set_other bids (private_index q) k row [] other.1) ∙ table.seats k h
          ];
    }

pub private_below : (p : Private) → private_index p < 6
private_below Private.Sv = omega arith
private_below Private.Csl = omega arith
private_below Private.Dh = omega arith
private_below Private.Mh = omega arith
private_below Private.Ca = omega arith
private_below Private.Bo = omega arith

-- a bid is that of one seat on one private
bid_after : (bids : Bids) (q : Private) (t : Seat) (m : ℕ) (p : Private) (s : Seat) → IsTable bids → s.0 < 6 → bid_of (with_bid bids q t m) p s ≡ cond (same_seat s t && same_private p q) m (bid_of bids p s)
bid_after bids q t m p s table low =
    let row : Row = slice_set (bids_on bids q) t.0 m in
    let old = bid_of bids p s in
    elim (eqb_tells (private_index p) (private_index q)) [
      | inr other ↦
          ap (λ (r : Row). get_or r s.0 0) (get_or-set_other bids (private_index q) (private_index p) row [] other.1)
          ∙ sym (ap (λ (b : Bool). cond (same_seat s t && b) m old) other.0 ∙ ap (λ (b : Bool). cond b m old) (and-false (same_seat s t)))
      | inl same ↦
          let below = private_below p in
          let within : private_index q < length bids = omega (arith, same.1, table.rows) in
          let here : get_or (slice_set bids (private_index q) row) (private_index p) [] ≡ row = get_or-set_at bids (private_index q) (private_index p) row [] same.1 within in
          elim (eqb_tells s.0 t.0) [
            | inr other ↦
                ap (λ (r : Row). get_or r s.0 0) here
                ∙ get_or-set_other (bids_on bids q) t.0 s.0 m 0 other.1
                ∙ ap (λ (j : ℕ). get_or (get_or bids j []) s.0 0) (sym same.1)
                ∙ sym (ap (λ (b : Bool). cond (b && same_private p q) m old) other.0)
            | inl one ↦
                let six = table.seats (private_index p) below in
                let length_is : length (bids_on bids q) ≡ 6 = ap (λ (j : ℕ). length (get_or bids j [])) (sym same.1) ∙ six in
                let inside : t.0 < length (bids_on bids q) = omega (arith, one.1) in
                ap (λ (r : Row). get_or r s.0 0) here
                ∙ get_or-set_at (bids_on bids q) t.0 s.0 m 0 one.1 inside
                ∙ sym (ap (λ (b : Bool). cond (b && same_private p q) m old) one.0 ∙ ap (λ (b : Bool). cond b m old) same.0)
          ]
    ]
  where
    and-false : (b : Bool) → (b && false) ≡ false
    and-false true = refl
    and-false false = refl

par_bids : (c : Corp) (a : Progress) → (after_par c a).bids ≡ a.bids
par_bids Corp.Bo a = refl
par_bids Corp.Prr a = refl
par_bids Corp.Nyc a = refl
par_bids Corp.Cpr a = refl
par_bids Corp.Co a = refl
par_bids Corp.Erie a = refl
par_bids Corp.Nynh a = refl
par_bids Corp.Bm a = refl

leaving_table : (t : Seat) (on : Option Private) (a : Progress) → IsTable a.bids → IsTable (after_leaving t on a).bids
leaving_table t None a h = h
leaving_table t (Some q) a h = table_bid a.bids q t 0 h

turn_table : (b : Bool) (n : ℕ) (t : Seat) (on : Option Private) (a : Progress) → IsTable a.bids → IsTable (if b then after_last_pass n t on a else after_turn_pass n t a).bids
turn_table true n t on a h = h
turn_table false n t on a h = h

table_told : (n : ℕ) (raised : Bool) (on : Option Private) (a : Progress) (act : Act) → IsTable a.bids → IsTable (once_told n raised on a act).bids
table_told n raised on a (A.BuyPrivate t) h = h
table_told n true on a (A.Bid t q m) h = table_bid a.bids q t m h
table_told n false on a (A.Bid t q m) h = table_bid a.bids q t m h
table_told n true on a (A.Pass t) h = leaving_table t on a h
table_told n false on a (A.Pass t) h = turn_table (all_pass n a) n t on a h
table_told n raised on a (A.Par t c price) h = rw (par_bids c a) h
table_told n raised on a _ h = h

table_once : (book : Book) (e : Entry) (a : Progress) → IsTable a.bids → IsTable (after book a e).bids
table_once book (E.Step marker) a h = by_marker marker
  where
    by_marker : (marker : Marker) → IsTable (after book a (E.Step marker)).bids
    by_marker (M.Act act) = rw (told book a act) (table_told (players book) (is_some (raise_due (holder book) a)) (for_sale book) a act h)
    by_marker _ = h
table_once book (E.Move (C.Private p) (L.Seat s)) a h = h
table_once book _ a h = h

-- the bids of any book are such a table
pub table_of : (book : Book) → IsTable (progress book).bids
table_of book = by_entries (λ b. IsTable (progress b).bids) (rw progress-none table_none) step book
  where
    step : (b : Book) (e : Entry) → IsTable (progress b).bids → IsTable (progress (b ++ e ∷ [])).bids
    step b e h = rw (progress-push b e) (table_once b e (progress b) h)

-- somebody is to raise exactly where two seats or more bid
pub raised-shown : (bids : Bids) (o : Option Private) → IsTable bids → is_some (raise_for bids o) ≡ several_bid bids o
raised-shown bids None table = refl
raised-shown bids (Some p) table = raiser_several (bids_on bids p) (table.seats (private_index p) (private_below p))

pub told_raised : (book : Book) (act : Act) → after book (progress book) (E.Step (M.Act act)) ≡ once_told (players book) (is_raised book) (for_sale book) (progress book) act
told_raised book act =
    told book (progress book) act
    ∙ ap (λ (r : Bool). once_told (players book) r (for_sale book) (progress book) act) (raised-shown (progress book).bids (for_sale book) (table_of book))

unwrap_if : (b : Bool) (m old : ℕ) → unwrap_or (if b then Some m else None) old ≡ cond b m old
unwrap_if true m old = refl
unwrap_if false m old = refl

-- the bids after a command
bids_told : (n : ℕ) (raised : Bool) (on : Option Private) (a : Progress) (act : Act) (p : Private) (s : Seat) → IsTable a.bids → s.0 < 6 → bid_of (once_told n raised on a act).bids p s ≡ unwrap_or (bid_by p s raised on act) (bid_of a.bids p s)
bids_told n raised on a (A.BuyPrivate t) p s h low = refl
bids_told n true on a (A.Bid t q m) p s h low = bid_after a.bids q t m p s h low ∙ sym (unwrap_if (same_seat s t && same_private p q) m (bid_of a.bids p s))
bids_told n false on a (A.Bid t q m) p s h low = bid_after a.bids q t m p s h low ∙ sym (unwrap_if (same_seat s t && same_private p q) m (bid_of a.bids p s))
bids_told n true on a (A.Pass t) p s h low = by_sale on
  where
    none_left : (b : Bool) → bid_of a.bids p s ≡ unwrap_or (if b && false then Some 0 else None) (bid_of a.bids p s)
    none_left true = refl
    none_left false = refl

    by_sale : (o : Option Private) → bid_of (after_leaving t o a).bids p s ≡ unwrap_or (if same_seat s t && is_private p o then Some 0 else None) (bid_of a.bids p s)
    by_sale None = none_left (same_seat s t)
    by_sale (Some q) = bid_after a.bids q t 0 p s h low ∙ sym (unwrap_if (same_seat s t && same_private p q) 0 (bid_of a.bids p s))
bids_told n false on a (A.Pass t) p s h low = by_test (all_pass n a)
  where
    by_test : (b : Bool) → bid_of (if b then after_last_pass n t on a else after_turn_pass n t a).bids p s ≡ bid_of a.bids p s
    by_test true = refl
    by_test false = refl
bids_told n raised on a (A.Par t c price) p s h low = ap (λ (b : Bids). bid_of b p s) (par_bids c a)
bids_told n raised on a _ p s h low = refl

-- the bids after an entry
pub bids_once : (book : Book) (e : Entry) (p : Private) (s : Seat) → s.0 < 6 → bid_of (after book (progress book) e).bids p s ≡ unwrap_or (bid_told p s book e) (bid_of (progress book).bids p s)
bids_once book (E.Step marker) p s low = by_marker marker
  where
    by_marker : (marker : Marker) → bid_of (after book (progress book) (E.Step marker)).bids p s ≡ unwrap_or (bid_told p s book (E.Step marker)) (bid_of (progress book).bids p s)
    by_marker (M.Act act) =
        ap (λ (x : Progress). bid_of x.bids p s) (told_raised book act)
        ∙ bids_told (players book) (is_raised book) (for_sale book) (progress book) act p s (table_of book) low
    by_marker _ = refl
bids_once book (E.Move (C.Private q) (L.Seat t)) p s low = refl
bids_once book _ p s low = refl

par_turn : (c : Corp) (a : Progress) → (after_par c a).turn ≡ a.turn
par_turn Corp.Bo a = refl
par_turn Corp.Prr a = refl
par_turn Corp.Nyc a = refl
par_turn Corp.Cpr a = refl
par_turn Corp.Co a = refl
par_turn Corp.Erie a = refl
par_turn Corp.Nynh a = refl
par_turn Corp.Bm a = refl

-- the next turn after a command
turn_told : (n : ℕ) (raised : Bool) (on : Option Private) (a : Progress) (act : Act) → (once_told n raised on a act).turn ≡ unwrap_or (option_map (left_of n) (turn_by raised act)) a.turn
turn_told n raised on a (A.BuyPrivate t) = refl
turn_told n true on a (A.Bid t q m) = refl
turn_told n false on a (A.Bid t q m) = refl
turn_told n true on a (A.Pass t) = by_sale on
  where
    by_sale : (o : Option Private) → (after_leaving t o a).turn ≡ a.turn
    by_sale None = refl
    by_sale (Some q) = refl
turn_told n false on a (A.Pass t) = by_test (all_pass n a)
  where
    by_test : (b : Bool) → (if b then after_last_pass n t on a else after_turn_pass n t a).turn ≡ left_of n t
    by_test true = refl
    by_test false = refl
turn_told n raised on a (A.Par t c price) = par_turn c a
turn_told n raised on a _ = refl

pub turn_once : (book : Book) (e : Entry) → (after book (progress book) e).turn ≡ unwrap_or (left_of_turn book e) (progress book).turn
turn_once book (E.Step marker) = by_marker marker
  where
    by_marker : (marker : Marker) → (after book (progress book) (E.Step marker)).turn ≡ unwrap_or (left_of_turn book (E.Step marker)) (progress book).turn
    by_marker (M.Act act) = ap (λ (x : Progress). x.turn) (told_raised book act) ∙ turn_told (players book) (is_raised book) (for_sale book) (progress book) act
    by_marker _ = refl
turn_once book (E.Move (C.Private q) (L.Seat t)) = refl
turn_once book _ = refl

par_priority : (c : Corp) (a : Progress) → (after_par c a).priority ≡ a.priority
par_priority Corp.Bo a = refl
par_priority Corp.Prr a = refl
par_priority Corp.Nyc a = refl
par_priority Corp.Cpr a = refl
par_priority Corp.Co a = refl
par_priority Corp.Erie a = refl
par_priority Corp.Nynh a = refl
par_priority Corp.Bm a = refl

-- no command alone moves priority
priority_told : (n : ℕ) (raised : Bool) (on : Option Private) (a : Progress) (act : Act) → (once_told n raised on a act).priority ≡ a.priority
priority_told n raised on a (A.BuyPrivate t) = refl
priority_told n true on a (A.Bid t q m) = refl
priority_told n false on a (A.Bid t q m) = refl
priority_told n true on a (A.Pass t) = by_sale on
  where
    by_sale : (o : Option Private) → (after_leaving t o a).priority ≡ a.priority
    by_sale None = refl
    by_sale (Some q) = refl
priority_told n false on a (A.Pass t) = by_test (all_pass n a)
  where
    by_test : (b : Bool) → (if b then after_last_pass n t on a else after_turn_pass n t a).priority ≡ a.priority
    by_test true = refl
    by_test false = refl
priority_told n raised on a (A.Par t c price) = par_priority c a
priority_told n raised on a _ = refl

pub priority_once : (book : Book) (e : Entry) → (after book (progress book) e).priority ≡ unwrap_or (left_of_buyer book e) (progress book).priority
priority_once book (E.Step marker) = by_marker marker
  where
    by_marker : (marker : Marker) → (after book (progress book) (E.Step marker)).priority ≡ (progress book).priority
    by_marker (M.Act act) = ap (λ (x : Progress). x.priority) (told_raised book act) ∙ priority_told (players book) (is_raised book) (for_sale book) (progress book) act
    by_marker _ = refl
priority_once book (E.Move (C.Private q) (L.Seat t)) = refl
priority_once book _ = refl

par_passes : (c : Corp) (a : Progress) → (after_par c a).passes ≡ a.passes
par_passes Corp.Bo a = refl
par_passes Corp.Prr a = refl
par_passes Corp.Nyc a = refl
par_passes Corp.Cpr a = refl
par_passes Corp.Co a = refl
par_passes Corp.Erie a = refl
par_passes Corp.Nynh a = refl
par_passes Corp.Bm a = refl

par_falls : (c : Corp) (a : Progress) → (after_par c a).falls ≡ a.falls
par_falls Corp.Bo a = refl
par_falls Corp.Prr a = refl
par_falls Corp.Nyc a = refl
par_falls Corp.Cpr a = refl
par_falls Corp.Co a = refl
par_falls Corp.Erie a = refl
par_falls Corp.Nynh a = refl
par_falls Corp.Bm a = refl

-- what an entry makes of the passes in a row and of the falls of the first price: it may break the row, or be a pass
pub record IsCounted (n : ℕ) (breaks pass first : Bool) (old new : Progress) : Type 0 where
  pub passes : new.passes ≡ cond breaks 0 (cond pass (cond (old.passes + 1 == n) 0 (old.passes + 1)) old.passes)
  pub falls : new.falls ≡ old.falls + cond (pass && (old.passes + 1 == n) && first) 1 0

counted_none : (n : ℕ) (first : Bool) (a : Progress) → IsCounted n false false first a a
counted_none n first a = record { passes = refl; falls = omega arith }

counted_told : (n : ℕ) (raised : Bool) (on : Option Private) (a : Progress) (act : Act) → IsCounted n (trade_by raised act) (pass_by raised act) (is_private Private.Sv on) a (once_told n raised on a act)
counted_told n raised on a (A.BuyPrivate t) = record { passes = refl; falls = omega arith }
counted_told n true on a (A.Bid t q m) = record { passes = refl; falls = omega arith }
counted_told n false on a (A.Bid t q m) = record { passes = refl; falls = omega arith }
counted_told n true on a (A.Pass t) = by_sale on
  where
    by_sale : (o : Option Private) → IsCounted n false false (is_private Private.Sv o) a (after_leaving t o a)
    by_sale None = record { passes = refl; falls = omega arith }
    by_sale (Some q) = record { passes = refl; falls = omega arith }
counted_told n false on a (A.Pass t) = by_test (all_pass n a) refl
  where
    falls_if : (b : Bool) (k : ℕ) → (if b then k + 1 else k) ≡ k + cond b 1 0
    falls_if true k = refl
    falls_if false k = omega arith

    by_test : (b : Bool) → all_pass n a ≡ b → IsCounted n false true (is_private Private.Sv on) a (if b then after_last_pass n t on a else after_turn_pass n t a)
    by_test true e = record {
      passes = sym (ap (λ (b : Bool). cond b 0 (a.passes + 1)) e);
      falls = falls_if (is_private Private.Sv on) a.falls ∙ sym (ap (λ (b : Bool). a.falls + cond (b && is_private Private.Sv on) 1 0) e);
    }
    by_test false e = record {
      passes = sym (ap (λ (b : Bool). cond b 0 (a.passes + 1)) e);
      falls = none a.falls ∙ sym (ap (λ (b : Bool). a.falls + cond (b && is_private Private.Sv on) 1 0) e);
    }
      where
        none : (k : ℕ) → k ≡ k + 0
        none k = omega arith
counted_told n raised on a (A.Par t c price) =
    let same = par_falls c a in
    record { passes = par_passes c a; falls = omega arith }
counted_told n raised on a _ = counted_none n (is_private Private.Sv on) a

pub counted_once : (book : Book) (e : Entry) → IsCounted (players book) (buys_or_bids book e) (passes book e) (is_private Private.Sv (for_sale book)) (progress book) (after book (progress book) e)
counted_once book (E.Step marker) = by_marker marker
  where
    by_marker : (marker : Marker) → IsCounted (players book) (buys_or_bids book (E.Step marker)) (passes book (E.Step marker)) (is_private Private.Sv (for_sale book)) (progress book) (after book (progress book) (E.Step marker))
    by_marker (M.Act act) =
        let told = counted_told (players book) (is_raised book) (for_sale book) (progress book) act in
        let same = told_raised book act in
        record {
          passes = ap (λ (x : Progress). x.passes) same ∙ told.passes;
          falls = ap (λ (x : Progress). x.falls) same ∙ told.falls;
        }
    by_marker _ = counted_none (players book) (is_private Private.Sv (for_sale book)) (progress book)
counted_once book (E.Move (C.Private q) (L.Seat t)) = record { passes = refl; falls = omega arith }
counted_once book _ = counted_none (players book) (is_private Private.Sv (for_sale book)) (progress book)

-- an entry that breaks the row of passes is none
pub no_pass : (book : Book) (e : Entry) → buys_or_bids book e ≡ true → passes book e ≡ false
no_pass book (E.Step marker) h = by_marker marker h
  where
    by_act : (raised : Bool) (act : Act) → trade_by raised act ≡ true → pass_by raised act ≡ false
    by_act raised (A.Pass t) k = absurd (false≢true k)
    by_act raised _ k = refl

    by_marker : (marker : Marker) → buys_or_bids book (E.Step marker) ≡ true → passes book (E.Step marker) ≡ false
    by_marker (M.Act act) k = by_act (is_raised book) act k
    by_marker _ k = refl
no_pass book _ h = refl

zeros : (k : ℕ) → slice_index (0 ∷ 0 ∷ 0 ∷ 0 ∷ 0 ∷ 0 ∷ []) k ≡ 0
zeros zero = refl
zeros (suc zero) = refl
zeros (suc (suc zero)) = refl
zeros (suc (suc (suc zero))) = refl
zeros (suc (suc (suc (suc zero)))) = refl
zeros (suc (suc (suc (suc (suc zero))))) = refl
zeros (suc (suc (suc (suc (suc (suc k)))))) = refl

-- nobody has bid at first
pub no_bid_at_first : (p : Private) (s : Seat) → bid_of no_bids p s ≡ 0
no_bid_at_first Private.Sv s = zeros s.0
no_bid_at_first Private.Csl s = zeros s.0
no_bid_at_first Private.Dh s = zeros s.0
no_bid_at_first Private.Mh s = zeros s.0
no_bid_at_first Private.Ca s = zeros s.0
no_bid_at_first Private.Bo s = zeros s.0
