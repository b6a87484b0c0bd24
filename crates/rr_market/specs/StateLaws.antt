-- How the market's tables go on standing for a book as it grows.
use Rattle.std.specs.Prelude.{◌≡◌, ℕ, ◌+◌, Bool, true, false, not, nat_lt, List, [], ◌∷◌, ◌++◌, length, Option, None, Some, is_some, option_map, option_and_then, unwrap_or, slice_index, slice_index_or, MatchOption, if◌then◌else◌, refl}
use Rattle.std.proofs.Common.{sym, ◌∙◌, ap, subst, append_assoc, append-nil, inl, inr, arith}
use Rattle.std.proofs.lemmas.Bool.{false≢true, cases_Bool, and_parts, not-true, eqb-true, lt-ltb, le-ltb, ltb-true}
use Rattle.rr_roster.specs.declared.company.Corp.{Corp}
use Rattle.rr_roster.specs.declared.company.Corp.TheVariants as C
use Rattle.rr_roster.specs.Company.{corp_index}
use Rattle.rr_books.specs.declared.entries.Cell.{Cell}
use Rattle.rr_books.specs.declared.entries.Entry.{Entry}
use Rattle.rr_books.specs.declared.entries.Entry.TheVariants as E
use Rattle.rr_books.specs.Book.{Book}
use Rattle.rr_books.specs.Same.{same_corp}
use Rattle.rr_market.specs.declared.market.Token.{Token}
use Rattle.rr_market.specs.Marks.{is_mark_of, mark_of, first_mark_of, arrival}
use Rattle.rr_market.specs.MarkLaws.{IsOther-from, is_mark, has_no_mark, mark_of-push, first_mark_of-push, arrival-push, arrival-le}
use Rattle.rr_market.specs.Moves.{mark_at, moves_token}
use Rattle.rr_market.specs.State.{State, IsMarketOf, Follows, IsMarked, token_in, cell_in, arrival_in, token_on}

-- no token anywhere
abbrev pub no_tokens : List (Option Token)
no_tokens = None ∷ None ∷ None ∷ None ∷ None ∷ None ∷ None ∷ None ∷ []

pub no_tokens-none : (c : Corp) → slice_index_or no_tokens (corp_index c) None ≡ None
no_tokens-none C.Prr = refl
no_tokens-none _ = refl

-- the market before the first mark
pub empty_market : (ranks : List ℕ) → IsMarketOf [] (record { tokens = no_tokens; arrivals = ranks })
unfolding mark_of first_mark_of
empty_market ranks = record {
  cells = λ c. ap (λ (t : Option Token). option_map (λ (x : Token). x.cell) t) (sym (no_tokens-none c));
  firsts = λ c. ap (λ (t : Option Token). option_map (λ (x : Token). x.first) t) (sym (no_tokens-none c));
  arrivals = λ c d h k. absurd (false≢true h);
}

if_false : (b : Bool) (m n : ℕ) → b ≡ false → (if b then m else n) ≡ n
if_false b m n e = rw e refl

if_true : (b : Bool) (m n : ℕ) → b ≡ true → (if b then m else n) ≡ m
if_true b m n e = rw e refl

-- the tables stand as well for the book with an entry more that is no mark
pub stays : (book : Book) (e : Entry) (s : State) → is_mark e ≡ false → IsMarketOf book s → IsMarketOf (book ++ e ∷ []) s
stays book e s other h =
    let o = IsOther-from e other in
    let same : (c : Corp) → mark_of (book ++ e ∷ []) c ≡ mark_of book c = λ c. mark_of-push book e c ∙ o.cells c (mark_of book c) in
    let same_arrival : (c : Corp) → arrival (book ++ e ∷ []) c ≡ arrival book c = λ c. arrival-push book e c ∙ if_false (is_mark_of c e) (length book + 1) (arrival book c) (o.arrivals c) in
    let is_marked : (c : Corp) → is_some (mark_of (book ++ e ∷ []) c) ≡ true → is_some (mark_of book c) ≡ true = λ c m. ap (λ (x : Option Cell). is_some x) (sym (same c)) ∙ m in
    record {
      cells = λ c. same c ∙ h.cells c;
      firsts = λ c. first_mark_of-push book e c ∙ o.firsts c (first_mark_of book c) ∙ h.firsts c;
      arrivals = λ c d m n. ap (λ (k : ℕ). nat_lt k (arrival (book ++ e ∷ []) d)) (same_arrival c) ∙ ap (λ (k : ℕ). nat_lt (arrival book c) k) (same_arrival d) ∙ h.arrivals c d (is_marked c m) (is_marked d n);
    }

-- and with any number of entries of which none is a mark
pub stays_through : (book more : Book) (s : State) → has_no_mark more ≡ true → IsMarketOf book s → IsMarketOf (book ++ more) s
stays_through book [] s none h = subst (λ (b : Book). IsMarketOf b s) (sym (append-nil book)) h
stays_through book (e ∷ es) s none h =
    let parts = and_parts (not (is_mark e)) (has_no_mark es) none in
    subst (λ (b : Book). IsMarketOf b s) (append_assoc book (e ∷ []) es)
    (stays_through (book ++ e ∷ []) es s parts.1 (stays book e s (not-true (is_mark e) parts.0) h))

cell_if : (b : Bool) (token other : Option Token) (cell : Cell) → option_map (λ (x : Token). x.cell) (if b then Some (token_on token cell) else other) ≡ (if b then Some cell else option_map (λ (x : Token). x.cell) other)
cell_if true None other cell = refl
cell_if true (Some token) other cell = refl
cell_if false token other cell = refl

first_if : (b : Bool) (token other : Option Token) (cell : Cell) → (b ≡ true → other ≡ token) → option_map (λ (x : Token). x.first) (if b then Some (token_on token cell) else other) ≡ (if b then Some (unwrap_or (option_map (λ (x : Token). x.first) other) cell) else option_map (λ (x : Token). x.first) other)
first_if true None other cell same = rw (same refl) refl
first_if true (Some token) other cell same = rw (same refl) refl
first_if false token other cell same = refl

same_order : (a b m n : ℕ) → a ≡ b → m ≡ n → nat_lt a b ≡ nat_lt m n
same_order a b m n e f = le-ltb a b (omega arith) ∙ sym (le-ltb m n (omega arith))

-- the order of the arrivals of two corporations after a mark
arrivals-marked : (old new : State) (corp : Corp) (cell : Cell) (book : Book) → IsMarked old new corp cell → IsMarketOf book old → (c d : Corp) → (same_corp c corp ≡ false → is_some (mark_of book c) ≡ true) → (same_corp d corp ≡ false → is_some (mark_of book d) ≡ true) → nat_lt (if same_corp c corp then length book + 1 else arrival book c) (if same_corp d corp then length book + 1 else arrival book d) ≡ nat_lt (arrival_in new c) (arrival_in new d)
arrivals-marked old new corp cell book m h c d mc md =
    let there : (x : Corp) → same_corp x corp ≡ true → arrival_in new x ≡ arrival_in new corp = λ x e. ap (λ (k : ℕ). slice_index new.arrivals k) (eqb-true (corp_index x) (corp_index corp) e) in
    elim (cases_Bool (same_corp c corp)) [
      | inl ce ↦
          elim (cases_Bool (same_corp d corp)) [
            | inl de ↦ rw (ce, de) (same_order (length book + 1) (length book + 1) (arrival_in new c) (arrival_in new d) refl (there c ce ∙ sym (there d de)))
            | inr de ↦
                let late = arrival-le book d in
                let before = ltb-true (arrival_in new d) (arrival_in new corp) (m.last d de) in
                let at = there c ce in
                rw (ce, de) (le-ltb (length book + 1) (arrival book d) (omega arith) ∙ sym (le-ltb (arrival_in new c) (arrival_in new d) (omega arith)))
          ]
      | inr ce ↦
          elim (cases_Bool (same_corp d corp)) [
            | inl de ↦
                let late = arrival-le book c in
                let before = ltb-true (arrival_in new c) (arrival_in new corp) (m.last c ce) in
                let at = there d de in
                rw (ce, de) (lt-ltb (arrival book c) (length book + 1) (omega arith) ∙ sym (lt-ltb (arrival_in new c) (arrival_in new d) (omega arith)))
            | inr de ↦ rw (ce, de) (h.arrivals c d (mc ce) (md de) ∙ sym (m.others c d ce de))
          ]
    ]

-- the tables stand for the book with the mark of a token more
pub marked : (old new : State) (corp : Corp) (cell : Cell) (book : Book) → IsMarked old new corp cell → IsMarketOf book old → IsMarketOf (book ++ E.Mark corp cell ∷ []) new
marked old new corp cell book m h =
    let e = E.Mark corp cell in
    let same : (c : Corp) → same_corp c corp ≡ true → token_in old c ≡ token_in old corp = λ c t. ap (λ (k : ℕ). slice_index_or old.tokens k None) (eqb-true (corp_index c) (corp_index corp) t) in
    let stood : (c : Corp) → is_some (mark_of (book ++ e ∷ []) c) ≡ true → same_corp c corp ≡ false → is_some (mark_of book c) ≡ true =
    λ c some other. ap (λ (b : Bool). is_some (if b then Some cell else mark_of book c)) (sym other) ∙ ap (λ (x : Option Cell). is_some x) (sym (mark_of-push book e c)) ∙ some in
    record {
      cells = λ c. mark_of-push book e c ∙ ap (λ (x : Option Cell). if same_corp c corp then Some cell else x) (h.cells c) ∙ sym (cell_if (same_corp c corp) (token_in old corp) (token_in old c) cell) ∙ ap (λ (t : Option Token). option_map (λ (x : Token). x.cell) t) (sym (m.tokens c));
      firsts = λ c. first_mark_of-push book e c ∙ ap (λ (x : Option Cell). if same_corp c corp then Some (unwrap_or x cell) else x) (h.firsts c) ∙ sym (first_if (same_corp c corp) (token_in old corp) (token_in old c) cell (same c)) ∙ ap (λ (t : Option Token). option_map (λ (x : Token). x.first) t) (sym (m.tokens c));
      arrivals = λ c d mc md. ap (λ (k : ℕ). nat_lt k (arrival (book ++ e ∷ []) d)) (arrival-push book e c) ∙ ap (λ (k : ℕ). nat_lt (if same_corp c corp then length book + 1 else arrival book c) k) (arrival-push book e d) ∙ arrivals-marked old new corp cell book m h c d (stood c mc) (stood d md);
    }

follows_if : (old new : State) (corp : Corp) (result : Option Cell) (book : Book) → MatchOption result (new ≡ old) (λ cell. IsMarked old new corp cell) → IsMarketOf book old → IsMarketOf (book ++ mark_at corp result) new
follows_if old new corp None book same h = subst (λ (s : State). IsMarketOf (book ++ []) s) (sym same) (subst (λ (b : Book). IsMarketOf b old) (sym (append-nil book)) h)
follows_if old new corp (Some cell) book m h = marked old new corp cell book m h

-- the mark of a move from the cell in the tables is that from the cell in the book
pub moved_entries : (target : Cell → Option Cell) (corp : Corp) (old : State) (result : Option Cell) (book : Book) → result ≡ option_and_then target (cell_in old corp) → IsMarketOf book old → mark_at corp result ≡ moves_token target corp book
moved_entries target corp old result book is h = ap (mark_at corp) (is ∙ ap (λ (cell : Option Cell). option_and_then target cell) (sym (h.cells corp)))

-- the tables follow the book as a token moves
pub moved : (target : Cell → Option Cell) (corp : Corp) (old new : State) (result : Option Cell) → result ≡ option_and_then target (cell_in old corp) → MatchOption result (new ≡ old) (λ cell. IsMarked old new corp cell) → Follows old new (moves_token target corp)
moved target corp old new result is m book h =
    subst (λ (es : Book). IsMarketOf (book ++ es) new) (moved_entries target corp old result book is h) (follows_if old new corp result book m h)
