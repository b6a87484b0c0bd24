-- A handover leaves each seat with the percentage that it had, and the heir is president then.
use Rattle.std.proofs.Common.{◌≡◌, ℕ, ◌+◌, ◌*◌, ◌<◌, ◌≤◌, Bool, true, false, cond, ◌⊎◌, inl, inr, eqb, [], ◌∷◌, ◌++◌, zero, suc, length, get_or, Option, None, Some, MatchOption, sym, ◌∙◌, ap, refl, subst, arith, append-nil}
use Rattle.std.proofs.Math.Path.{fun_ext}
use Rattle.std.proofs.lemmas.Bool.{eq-eqb, lt-ltb}
use Rattle.std.proofs.lemmas.Bool.Decides.{eqb_tells}
use Rattle.rr_roster.specs.declared.company.Corp.{Corp}
use Rattle.rr_books.specs.declared.parties.Seat.{Seat}
use Rattle.rr_books.specs.declared.parties.Place.{Place}
use Rattle.rr_books.specs.declared.parties.Place.TheVariants as L
use Rattle.rr_books.specs.declared.certificates.ShareNumber.{ShareNumber}
use Rattle.rr_books.specs.declared.certificates.Cert.TheVariants as C
use Rattle.rr_books.specs.declared.entries.Entry.TheVariants as E
use Rattle.rr_books.specs.Same.{same_place}
use Rattle.rr_books.specs.Book.{Book, holder, players, holder-push}
use Rattle.rr_books.specs.Shares.{Holders, is_at, seat_of, share}
use Rattle.rr_books.specs.ShareLaws.{share-parts}
use Rattle.rr_desk.specs.Effects.{adds, moves_lowest_share}
use Rattle.rr_shares.specs.declared.succession.Handover.{Handover}
use Rattle.rr_shares.specs.Holdings.{Percents, heir, percent_in, percents}
use Rattle.rr_shares.specs.Succession.{at_table, handover_by, handover_due, handover_from}
use Rattle.rr_shares.specs.Effects.{hands_over, hands_over_if, moves_lowest_shares, presidency}
use Rattle.rr_shares.specs.Presidents.{HasTheMost, IsPresident, NobodyHasMore}
use Rattle.rr_shares.proofs.Counting.{Numbered, numbered, tens, tens_after_one}
use Rattle.rr_shares.proofs.Keeping.{after_two, taken_over}
use Rattle.rr_shares.proofs.Heirs.{heir_has_most}

-- how many a place has after a seat with two gave its two lowest to another seat
pub tens_after_two : (book : Book) (c : Corp) (giver taker : Seat) (place : Place) → eqb taker.0 giver.0 ≡ false → 2 ≤ tens (numbered (holder book) c) (L.Seat giver)
    → tens (numbered (holder (book ++ moves_lowest_shares c 2 (L.Seat giver) (L.Seat taker) book)) c) place + 2 * cond (same_place (L.Seat giver) place) 1 0 ≡ tens (numbered (holder book) c) place + 2 * cond (same_place (L.Seat taker) place) 1 0
unfolding moves_lowest_shares
tens_after_two book c giver taker place apart two =
    let one_more = moves_lowest_share c (L.Seat giver) (L.Seat taker) in
    let first = moves_lowest_shares c 1 (L.Seat giver) (L.Seat taker) in
    let middle : book ++ first book ≡ book ++ one_more book =
    after_two (moves_lowest_shares c 0 (L.Seat giver) (L.Seat taker)) one_more book ∙ ap (λ (b : Book). b ++ one_more b) (append-nil book) in
    let last : book ++ moves_lowest_shares c 2 (L.Seat giver) (L.Seat taker) book ≡ (book ++ one_more book) ++ one_more (book ++ one_more book) =
    after_two first one_more book ∙ ap (λ (b : Book). b ++ one_more b) middle in
    let same : cond {A = ℕ} (same_place (L.Seat giver) (L.Seat giver)) 1 0 ≡ 1 = ap (λ (b : Bool). cond {A = ℕ} b 1 0) (eq-eqb giver.0 giver.0 refl) in
    let other : cond {A = ℕ} (same_place (L.Seat taker) (L.Seat giver)) 1 0 ≡ 0 = ap (λ (b : Bool). cond {A = ℕ} b 1 0) apart in
    let giver_first = tens_after_one book c giver (L.Seat taker) (L.Seat giver) (omega arith) in
    let still : 0 < tens (numbered (holder (book ++ one_more book)) c) (L.Seat giver) = omega arith in
    let place_first = tens_after_one book c giver (L.Seat taker) place (omega arith) in
    let place_then = tens_after_one (book ++ one_more book) c giver (L.Seat taker) place still in
    let e : tens (numbered (holder (book ++ moves_lowest_shares c 2 (L.Seat giver) (L.Seat taker) book)) c) place ≡ tens (numbered (holder ((book ++ one_more book) ++ one_more (book ++ one_more book))) c) place =
    ap (λ (b : Book). tens (numbered (holder b) c) place) last in
    omega arith

twenty : (b : Bool) → cond b 20 0 ≡ 20 * cond b 1 0
twenty true = refl
twenty false = refl

-- a seat's percentage by parts, where the president is known
pub parts_of : (H : Holders) (c : Corp) (p s : Seat) → H (C.President c) ≡ Some (L.Seat p) → share H (L.Seat s) c ≡ 20 * cond (same_place (L.Seat p) (L.Seat s)) 1 0 + 10 * tens (numbered H c) (L.Seat s)
parts_of H c p s e =
    share-parts H (L.Seat s) c
    ∙ ap (λ (x : Option Place). cond (is_at x (L.Seat s)) 20 0 + 10 * tens (numbered H c) (L.Seat s)) e
    ∙ ap (λ k. k + 10 * tens (numbered H c) (L.Seat s)) (twenty (same_place (L.Seat p) (L.Seat s)))

-- the 10% certificates stay as the 20% moves
pub shares_stay : (book : Book) (c : Corp) (to : Place) → numbered (holder (book ++ E.Move (C.President c) to ∷ [])) c ≡ numbered (holder book) c
shares_stay book c to = fun_ext (λ (k : ShareNumber). holder-push book (E.Move (C.President c) to) (C.Share c k))

pub shares_kept : (book : Book) (c : Corp) (h : Handover) → holder book (C.President c) ≡ Some (L.Seat h.from) → eqb h.from.0 h.to.0 ≡ false → 2 ≤ tens (numbered (holder book) c) (L.Seat h.to) → (s : Seat)
    → share (holder (book ++ hands_over c h book)) (L.Seat s) c ≡ share (holder book) (L.Seat s) c
unfolding hands_over
shares_kept book c h e apart two s =
    let shares = moves_lowest_shares c 2 (L.Seat h.to) (L.Seat h.from) in
    let after = parts_of (holder (book ++ hands_over c h book)) c h.to s (taken_over c h book) in
    let before = parts_of (holder book) c h.from s e in
    let count : tens (numbered (holder (book ++ hands_over c h book)) c) (L.Seat s) ≡ tens (numbered (holder (book ++ shares book)) c) (L.Seat s) =
    ap (λ (b : Book). tens (numbered (holder b) c) (L.Seat s)) (after_two shares (adds (E.Move (C.President c) (L.Seat h.to))) book)
    ∙ ap (λ (x : Numbered). tens x (L.Seat s)) (shares_stay (book ++ shares book) c (L.Seat h.to)) in
    let moves = tens_after_two book c h.to h.from (L.Seat s) apart two in
    omega arith

-- what the row has of a seat
row_at : (H : Holders) (c : Corp) (k : ℕ) → k < 6 → get_or (percents H c) k 0 ≡ share H (L.Seat (record { 0 = k })) c
unfolding percents
row_at H c zero h = refl
row_at H c (suc zero) h = refl
row_at H c (suc (suc zero)) h = refl
row_at H c (suc (suc (suc zero))) h = refl
row_at H c (suc (suc (suc (suc zero)))) h = refl
row_at H c (suc (suc (suc (suc (suc zero))))) h = refl
row_at H c (suc (suc (suc (suc (suc (suc k)))))) h = absurd (omega arith)

row_long : (H : Holders) (c : Corp) → length (percents H c) ≡ 6
unfolding percents
row_long H c = refl

-- who hands over, where a seat of the table is president
due_of : (book : Book) (c : Corp) (p : Seat) → IsPresident book c p → p.0 < players book → handover_due (holder book) (players book) c ≡ handover_from p (heir (percents (holder book) c) (players book) p)
unfolding handover_due
due_of book c p e seated =
    ap (λ (x : Option Place). handover_by (percents (holder book) c) (players book) (at_table (players book) (seat_of x))) e
    ∙ ap (λ (b : Bool). handover_by (percents (holder book) c) (players book) (cond b (Some p) None)) (lt-ltb p.0 (players book) seated)

-- who has the most of a row has the most shares
most_shares : (book : Book) (c : Corp) (n : ℕ) (p : Seat) → n ≤ 6 → p.0 < n → HasTheMost (percents (holder book) c) n p → NobodyHasMore book c n p
most_shares book c n p few seated most s at =
    let le = most s.0 at in
    let own : get_or (percents (holder book) c) p.0 0 ≡ share (holder book) (L.Seat p) c = row_at (holder book) c p.0 (omega arith) in
    let its : get_or (percents (holder book) c) s.0 0 ≡ share (holder book) (L.Seat s) c = row_at (holder book) c s.0 (omega arith) in
    omega arith

-- an heir isn't the president, and has two 10% certificates at least
pub heir_apart : (row : Percents) (p s : Seat) → percent_in row p < percent_in row s → ((eqb p.0 s.0 ≡ true) × (p.0 ≡ s.0)) ⊎ ((eqb p.0 s.0 ≡ false) × (p.0 ≡ s.0 → ⊥)) → eqb p.0 s.0 ≡ false
heir_apart row p s more (inl one) =
    let same : get_or row p.0 0 ≡ get_or row s.0 0 = ap (λ j. get_or row j 0) one.1 in absurd (omega arith)
heir_apart row p s more (inr two) = two.0

heir_has_two : (H : Holders) (c : Corp) (p s : Seat) → H (C.President c) ≡ Some (L.Seat p) → eqb p.0 s.0 ≡ false → share H (L.Seat p) c < share H (L.Seat s) c → 2 ≤ tens (numbered H c) (L.Seat s)
heir_has_two H c p s e apart more =
    let its = parts_of H c p s e in
    let own = parts_of H c p p e in
    let same : cond {A = ℕ} (same_place (L.Seat p) (L.Seat p)) 1 0 ≡ 1 = ap (λ (b : Bool). cond {A = ℕ} b 1 0) (eq-eqb p.0 p.0 refl) in
    let other : cond {A = ℕ} (same_place (L.Seat p) (L.Seat s)) 1 0 ≡ 0 = ap (λ (b : Bool). cond {A = ℕ} b 1 0) apart in
    omega arith

abbrev SettledBy : Corp → ℕ → Book → Type 0
SettledBy c n after = (q : Seat) × IsPresident after c q × NobodyHasMore after c n q

settled_by : (book : Book) (c : Corp) (p : Seat) → IsPresident book c p → p.0 < players book → players book ≤ 6 → (o : Option Seat)
    → MatchOption o (HasTheMost (percents (holder book) c) (players book) p) (λ s. (s.0 < players book) × (percent_in (percents (holder book) c) p < percent_in (percents (holder book) c) s) × HasTheMost (percents (holder book) c) (players book) s)
    → SettledBy c (players book) (book ++ hands_over_if c (handover_from p o) book)
settled_by book c p e seated few None most =
    let So : Book → Type 0 = λ after. SettledBy c (players book) after in
    subst So (sym (append-nil book)) (p, e, most_shares book c (players book) p few seated most)
settled_by book c p e seated few (Some s) heir_is =
    let h : Handover = record { from = p; to = s } in
    let at : s.0 < players book = heir_is.0 in
    let more = heir_is.1 in
    let own : percent_in (percents (holder book) c) p ≡ share (holder book) (L.Seat p) c = row_at (holder book) c p.0 (omega arith) in
    let its : percent_in (percents (holder book) c) s ≡ share (holder book) (L.Seat s) c = row_at (holder book) c s.0 (omega arith) in
    let apart = heir_apart (percents (holder book) c) p s more (eqb_tells p.0 s.0) in
    let two = heir_has_two (holder book) c p s e apart (omega arith) in
    let most = most_shares book c (players book) s few at heir_is.2 in (
      s,
      taken_over c h book,
      λ (t : Seat) (t_at : t.0 < players book).
          let kept = shares_kept book c h e apart two t in
          let kept_of_heir = shares_kept book c h e apart two s in
          let le = most t t_at in
          omega arith,
    )

pub president_has_most : (c : Corp) (book : Book) (p : Seat) → IsPresident book c p → p.0 < players book → players book ≤ 6 → (q : Seat) × IsPresident (book ++ presidency c book) c q × NobodyHasMore (book ++ presidency c book) c (players book) q
unfolding presidency
president_has_most c book p e seated few =
    let So : Option Handover → Type 0 = λ due. SettledBy c (players book) (book ++ hands_over_if c due book) in
    let long : players book ≤ length (percents (holder book) c) = let six = row_long (holder book) c in omega arith in
    subst So (sym (due_of book c p e seated))
    (settled_by book c p e seated few (heir (percents (holder book) c) (players book) p) (heir_has_most (percents (holder book) c) (players book) p seated long))
