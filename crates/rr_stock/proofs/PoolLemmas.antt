-- What the pool has of a corporation, as entries follow on a book.
use Rattle.std.specs.Prelude.{◌≡◌, ℕ, zero, suc, ◌+◌, ◌*◌, ◌≤◌, Bool, true, false, cond, ◌&&◌, ◌==◌, List, [], ◌∷◌, ◌++◌, Option, Some, find, map, count_by, refl}
use Rattle.std.proofs.Common.{sym, ◌∙◌, ap, arith, append_assoc, append-nil}
use Rattle.std.proofs.lemmas.List.Sums.{sum_by-cons}
use Rattle.rr_roster.specs.declared.company.Corp.{Corp}
use Rattle.rr_books.specs.declared.parties.Place.{Place}
use Rattle.rr_books.specs.declared.parties.Place.TheVariants as L
use Rattle.rr_books.specs.declared.certificates.ShareNumber.{ShareNumber}
use Rattle.rr_books.specs.declared.certificates.ShareNumber.TheVariants as N
use Rattle.rr_books.specs.declared.certificates.Cert.{Cert}
use Rattle.rr_books.specs.declared.certificates.Cert.TheVariants as C
use Rattle.rr_books.specs.declared.entries.Entry.{Entry}
use Rattle.rr_books.specs.declared.entries.Entry.TheVariants as E
use Rattle.rr_books.specs.Book.{Book, holder, holder-push, holder_after}
use Rattle.rr_books.specs.Same.{same_cert, same_corp, same_place, share_number}
use Rattle.rr_books.specs.Shares.{Holders, is_at, share, share_numbers}
use Rattle.rr_books.specs.ShareLaws.{share-parts}
use Rattle.rr_desk.specs.Effects.{Effect, in_turn, moves_if, moves_lowest_share}
use Rattle.rr_shares.specs.Effects.{moves_lowest_shares}
use Rattle.rr_stock.proofs.TurnLemmas.{IsFree}

-- what the pool has of a corporation, in percent
unfoldable pub pool : Book → Corp → ℕ
pool book c = share (holder book) L.Pool c

-- 1 for a certificate in the pool
abbrev in_pool : Option Place → ℕ
in_pool x = cond (is_at x L.Pool) 1 0

-- the entry moves a certificate to the pool
abbrev pub moves_to_pool : Entry → Bool
moves_to_pool (E.Move cert to) = same_place to L.Pool
moves_to_pool _ = false

twenty : (b : Bool) → cond b 20 0 ≡ 20 * cond b 1 0
twenty true = refl
twenty false = refl

-- where no certificate comes to the pool, the pool has no more
no_more : (H K : Holders) (c : Corp) → ((x : Cert) → in_pool (K x) ≤ in_pool (H x)) → share K L.Pool c ≤ share H L.Pool c
no_more H K c h =
    let after = share-parts K L.Pool c in
    let before = share-parts H L.Pool c in
    let a = twenty (is_at (K (C.President c)) L.Pool) in
    let b = twenty (is_at (H (C.President c)) L.Pool) in
    omega (
      arith,
      h (C.President c),
      h (C.Share c N.One),
      h (C.Share c N.Two),
      h (C.Share c N.Three),
      h (C.Share c N.Four),
      h (C.Share c N.Five),
      h (C.Share c N.Six),
      h (C.Share c N.Seven),
      h (C.Share c N.Eight),
    )

away : (b : Bool) (to : Place) (x : Option Place) → same_place to L.Pool ≡ false → in_pool (cond b (Some to) x) ≤ in_pool x
away true to x e = let none : cond {A = ℕ} (same_place to L.Pool) 1 0 ≡ 0 = ap (λ (b : Bool). cond {A = ℕ} b 1 0) e in omega arith
away false to x e = omega arith

elsewhere : (e : Entry) (cert : Cert) (x : Option Place) → moves_to_pool e ≡ false → in_pool (holder_after cert x e) ≤ in_pool x
elsewhere (E.Move moved to) cert x h = away (same_cert cert moved) to x h
elsewhere (E.Pay from to amount) cert x h = omega arith
elsewhere (E.Mark corp cell) cert x h = omega arith
elsewhere (E.Lay hex tile turn) cert x h = omega arith
elsewhere (E.Station corp hex centre) cert x h = omega arith
elsewhere (E.Train train to) cert x h = omega arith
elsewhere (E.Best corp sheet certificate) cert x h = omega arith
elsewhere (E.Step marker) cert x h = omega arith

no_more_by_one : (book : Book) (e : Entry) (c : Corp) → moves_to_pool e ≡ false → pool (book ++ e ∷ []) c ≤ pool book c
unfolding pool
no_more_by_one book e c h =
    no_more (holder book) (holder (book ++ e ∷ [])) c
    (λ x. let is = ap in_pool (holder-push book e x) in let low = elsewhere e x (holder book x) h in omega arith)

of_none : (b : Bool) (n : ℕ) → cond b 1 0 + n ≡ 0 → b ≡ false
of_none true n h = absurd (omega arith)
of_none false n h = refl

-- entries that move nothing to the pool
pub no_more_by : (book es : Book) (c : Corp) → count_by moves_to_pool es ≡ 0 → pool (book ++ es) c ≤ pool book c
no_more_by book [] c h = let same = ap (λ (b : Book). pool b c) (append-nil book) in omega arith
no_more_by book (e ∷ es) c h =
    let both = sum_by-cons (λ (x : Entry). cond (moves_to_pool x) 1 0) e es in
    let first = of_none (moves_to_pool e) (count_by moves_to_pool es) (sym both ∙ h) in
    let others : count_by moves_to_pool es ≡ 0 = omega arith in
    let same = ap (λ (b : Book). pool b c) (append_assoc book (e ∷ []) es) in
    let one = no_more_by_one book e c first in
    let more = no_more_by (book ++ e ∷ []) es c others in
    omega arith

-- 1 where it is the certificate that moves
abbrev is_moved : Corp → ShareNumber → Cert → ℕ
is_moved c m x = cond (same_cert x (C.Share c m)) 1 0

came : (b : Bool) (x : Option Place) → in_pool (cond b (Some L.Pool) x) ≤ in_pool x + cond b 1 0
came true x = omega arith
came false x = omega arith

-- one 10% certificate moves
moved_once : (b : Bool) (m : ShareNumber) → count_by (λ n. b && (share_number n == share_number m)) share_numbers ≡ cond b 1 0
moved_once false m = refl
moved_once true N.One = refl
moved_once true N.Two = refl
moved_once true N.Three = refl
moved_once true N.Four = refl
moved_once true N.Five = refl
moved_once true N.Six = refl
moved_once true N.Seven = refl
moved_once true N.Eight = refl

ten : (b : Bool) → cond b 10 0 ≡ 10 * cond b 1 0
ten true = refl
ten false = refl

-- where one 10% certificate of a corporation comes to the pool, that has ten percent more of it, and no more of another
one_more : (H K : Holders) (c d : Corp) (m : ShareNumber) → ((x : Cert) → in_pool (K x) ≤ in_pool (H x) + is_moved c m x) → share K L.Pool d ≤ share H L.Pool d + cond (same_corp d c) 10 0
one_more H K c d m h =
    let after = share-parts K L.Pool d in
    let before = share-parts H L.Pool d in
    let a = twenty (is_at (K (C.President d)) L.Pool) in
    let b = twenty (is_at (H (C.President d)) L.Pool) in
    let moved = moved_once (same_corp d c) m in
    let t = ten (same_corp d c) in
    omega (
      arith,
      h (C.President d),
      h (C.Share d N.One),
      h (C.Share d N.Two),
      h (C.Share d N.Three),
      h (C.Share d N.Four),
      h (C.Share d N.Five),
      h (C.Share d N.Six),
      h (C.Share d N.Seven),
      h (C.Share d N.Eight),
    )

more_by_one : (book : Book) (c d : Corp) (m : ShareNumber) → pool (book ++ E.Move (C.Share c m) L.Pool ∷ []) d ≤ pool book d + cond (same_corp d c) 10 0
unfolding pool
more_by_one book c d m =
    let e = E.Move (C.Share c m) L.Pool in
    one_more (holder book) (holder (book ++ e ∷ [])) c d m
    (λ x. let is = ap in_pool (holder-push book e x) in let high = came (same_cert x (C.Share c m)) (holder book x) in omega arith)

-- by the effect, whatever the book, the pool has at most so much more of the corporation
abbrev pub Raises : Effect → Corp → ℕ → Type 0
Raises f c k = (book : Book) → pool (book ++ f book) c ≤ pool book c + k

pub raises_nothing : (c : Corp) → Raises (in_turn []) c 0
raises_nothing c book = let same = ap (λ (b : Book). pool b c) (append-nil book) in omega arith

pub raises_then : (f : Effect) (fs : List Effect) (c : Corp) (k m : ℕ) → Raises f c k → Raises (in_turn fs) c m → Raises (in_turn (f ∷ fs)) c (k + m)
raises_then f fs c k m h others book =
    let same = ap (λ (b : Book). pool b c) (append_assoc book (f book) (in_turn fs (book ++ f book))) in
    let one = h book in
    let more = others (book ++ f book) in
    omega arith

pub raises_one : (f : Effect) (c : Corp) (k : ℕ) → Raises f c k → Raises (in_turn (f ∷ [])) c k
raises_one f c k h book = let all = raises_then f [] c k 0 h (raises_nothing c) book in omega arith

-- an effect that moves nothing to the pool
pub raises_no_more : (f : Effect) (c : Corp) → IsFree moves_to_pool f → Raises f c 0
raises_no_more f c free book = let low = no_more_by book (f book) c (free book) in omega arith

-- the first of some 10% certificates, if there is one
raises_by_first : (test : Cert → Bool) (c d : Corp) (ns : List ShareNumber) (book : Book) → pool (book ++ moves_if (find test (map (λ n. C.Share c n) ns)) L.Pool) d ≤ pool book d + cond (same_corp d c) 10 0
raises_by_first test c d [] book = let same = raises_nothing d book in omega arith
raises_by_first test c d (n ∷ ns) book =
    elim (test (C.Share c n)) as (λ b. pool (book ++ moves_if (cond b (Some (C.Share c n)) (find test (map (λ k. C.Share c k) ns))) L.Pool) d ≤ pool book d + cond (same_corp d c) 10 0) [
      | true ↦ more_by_one book c d n
      | false ↦ raises_by_first test c d ns book
    ]

-- n of the lowest 10% certificates of a place
pub raises_by_shares : (c d : Corp) (n : ℕ) (from : Place) → Raises (moves_lowest_shares c n from L.Pool) d (n * cond (same_corp d c) 10 0)
unfolding moves_lowest_shares
raises_by_shares c d zero from book = let same = raises_nothing d book in omega arith
raises_by_shares c d (suc n) from book =
    let several = moves_lowest_shares c n from L.Pool in
    let one = moves_lowest_share c from L.Pool in
    let k : ℕ = cond (same_corp d c) 10 0 in
    let last : Raises one d k = λ b. raises_by_first (λ cert. is_at (holder b cert) from) c d share_numbers b in
    let all = raises_then several (one ∷ []) d (n * k) k (raises_by_shares c d n from) (raises_one one d k last) book in
    omega arith
