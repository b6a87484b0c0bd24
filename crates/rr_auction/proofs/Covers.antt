-- The money that covers the bids, as entries follow on a book.
use Rattle.std.specs.Prelude.{◌≡◌, ℕ, length, ◌<◌, ◌≤◌, ℤ, pos, ◌+ℤ◌, ◌-ℤ◌, ◌≤ℤ◌, Bool, true, false, ◌&&◌, List, [], ◌∷◌, ◌++◌, ◌⊎◌, refl, sum_by}
use Rattle.std.specs.List.{list_all}
use Rattle.std.proofs.Common.{sym, ◌∙◌, ap, subst, arith, set, get_or, inl, inr, append_assoc, append-nil}
use Rattle.std.proofs.Math.Path.{fun_ext}
use Rattle.std.proofs.lemmas.Bool.{cases_eq, cases_lt}
use Rattle.std.proofs.lemmas.Int.{ints}
use Rattle.std.proofs.lemmas.List.{get_or-set_other, set_past}
use Rattle.std.proofs.lemmas.List.Folds.{list_all-append}
use Rattle.std.proofs.lemmas.Grind.{get_or-set_at}
use Rattle.rr_roster.specs.declared.company.Private.{Private}
use Rattle.rr_roster.specs.declared.company.Corp.{Corp}
use Rattle.rr_roster.specs.Company.{private_index}
use Rattle.rr_books.specs.declared.parties.Seat.{Seat}
use Rattle.rr_books.specs.declared.parties.Party.{Party}
use Rattle.rr_books.specs.declared.parties.Party.TheVariants as P
use Rattle.rr_books.specs.declared.certificates.Cert.{Cert}
use Rattle.rr_books.specs.declared.entries.Entry.{Entry}
use Rattle.rr_books.specs.declared.entries.Entry.TheVariants as E
use Rattle.rr_books.specs.declared.entries.Marker.{Marker}
use Rattle.rr_books.specs.Book.{Book, balance, balance-push, balance_after, holder, holder-push, holder_after, players, players-push, players_after}
use Rattle.rr_books.specs.Shares.{Holders, privates}
use Rattle.rr_books.specs.Totals.{pays_among}
use Rattle.rr_desk.specs.Effects.{Effect, in_turn}
use Rattle.rr_rounds.specs.Bids.Bids.{Bids, bid_of, with_bid}
use Rattle.rr_auction.specs.Dealt.{moves_within}
use Rattle.rr_auction.proofs.AllBids.{all_bids}
use Rattle.rr_rounds.specs.Bids.Progress.{Progress, after, progress}
use Rattle.rr_auction.specs.Rules.{Accounts}
use Rattle.rr_rounds.specs.Bids.ProgressLaws.{progress-append}

-- a seat of the table is next, only seats of the table bid, each has the money for its bids, and no corporation owes
pub record IsCovered (n : ℕ) (H : Holders) (money : Accounts) (a : Progress) : Type 0 where
  pub turn : a.turn.0 < n
  pub bidders : (p : Private) (s : Seat) → n ≤ s.0 → bid_of a.bids p s ≡ 0
  pub seats : (s : Seat) → pos (all_bids H a.bids s) ≤ℤ money (P.Seat s)
  pub corporations : (c : Corp) → pos 0 ≤ℤ money (P.Corp c)

-- so it is at a table of n players with this book
pub record IsCoveredBook (n : ℕ) (book : Book) : Type 0 where
  pub players : players book ≡ n
  pub covered : IsCovered n (holder book) (balance book) (progress book)

-- further entries pay and move among those of the table, and lead to a book in which it is so
pub record GoesOn (n : ℕ) (book more : Book) : Type 0 where
  pub among : list_all (pays_among n) more ≡ true
  pub within : list_all (moves_within n) more ≡ true
  pub later : IsCoveredBook n (book ++ more)

-- the same, said of equal holders, money and progress
pub covered_moved : (n : ℕ) (H K : Holders) (x y : Accounts) (a b : Progress) → ((c : Cert) → K c ≡ H c) → ((p : Party) → y p ≡ x p) → b ≡ a → IsCovered n H x a → IsCovered n K y b
covered_moved n H K x y a b held had e covered =
    let OfHolders : Holders → Type 0 = λ J. IsCovered n J x a in
    let OfMoney : Accounts → Type 0 = λ z. IsCovered n K z a in
    let OfProgress : Progress → Type 0 = λ d. IsCovered n K y d in
    subst OfProgress (sym e) (subst OfMoney (sym (fun_ext (λ (p : Party). had p))) (subst OfHolders (sym (fun_ext (λ (c : Cert). held c))) covered))

both : (b d : Bool) → b ≡ true → d ≡ true → (b && d) ≡ true
both true d h g = g
both false d h g = h

-- no entry
pub goes_nowhere : (n : ℕ) (book : Book) → IsCoveredBook n book → GoesOn n book []
goes_nowhere n book covered =
    let Covered : Book → Type 0 = λ b. IsCoveredBook n b in
    record { among = refl; within = refl; later = subst Covered (sym (append-nil book)) covered }

-- some entries, and then others
pub goes_further : (n : ℕ) (book xs ys : Book) → GoesOn n book xs → GoesOn n (book ++ xs) ys → GoesOn n book (xs ++ ys)
goes_further n book xs ys first others =
    let Covered : Book → Type 0 = λ b. IsCoveredBook n b in
    record {
      among = list_all-append (pays_among n) xs ys ∙ both _ _ first.among others.among;
      within = list_all-append (moves_within n) xs ys ∙ both _ _ first.within others.within;
      later = subst Covered (append_assoc book xs ys) others.later;
    }

-- an effect, and then the others
pub goes_then : (n : ℕ) (f : Effect) (fs : List Effect) (book : Book) → GoesOn n book (f book) → (IsCoveredBook n (book ++ f book) → GoesOn n (book ++ f book) (in_turn fs (book ++ f book))) → GoesOn n book (in_turn (f ∷ fs) book)
goes_then n f fs book first others = goes_further n book (f book) (in_turn fs (book ++ f book)) first (others first.later)

-- one effect alone
pub goes_once : (n : ℕ) (f : Effect) (book : Book) → GoesOn n book (f book) → GoesOn n book (in_turn (f ∷ []) book)
goes_once n f book first = goes_then n f [] book first (λ covered. goes_nowhere n (book ++ f book) covered)

-- one entry
pub goes_by : (n : ℕ) (book : Book) (e : Entry) → IsCoveredBook n book → players_after n e ≡ n → pays_among n e ≡ true → moves_within n e ≡ true → IsCovered n (λ c. holder_after c (holder book c) e) (λ p. balance_after p (balance book p) e) (after book (progress book) e) → GoesOn n book (e ∷ [])
goes_by n book e before same among within covered = record {
  among = both _ _ among refl;
  within = both _ _ within refl;
  later = record {
    players = players-push book e ∙ ap (λ (m : ℕ). players_after m e) before.players ∙ same;
    covered = covered_moved n _ _ _ _ _ _ (λ c. holder-push book e c) (λ p. balance-push book e p) (progress-append book (e ∷ [])) covered;
  };
}

pub nothing_paid : (x : ℤ) → (x +ℤ pos 0) -ℤ pos 0 ≡ x
nothing_paid x = omega (arith, ints)

-- a step of the game
pub goes_by_step : (n : ℕ) (book : Book) (marker : Marker) → IsCoveredBook n book → IsCovered n (holder book) (balance book) (after book (progress book) (E.Step marker)) → GoesOn n book (E.Step marker ∷ [])
goes_by_step n book marker before covered =
    goes_by n book (E.Step marker) before refl refl refl
    (covered_moved n (holder book) (holder book) (balance book) (λ p. balance_after p (balance book p) (E.Step marker)) _ _ (λ c. refl) (λ p. nothing_paid _) refl covered)

-- sums over the privates
pub same_sum : (f g : Private → ℕ) → ((p : Private) → f p ≡ g p) → sum_by f privates ≡ sum_by g privates
same_sum f g h = omega (arith, h Private.Sv, h Private.Csl, h Private.Dh, h Private.Mh, h Private.Ca, h Private.Bo)

-- a write to a list changes at most that place
written : {X : Type 0} (xs : List X) (i k : ℕ) (x d : X) → (get_or (set xs i x) k d ≡ get_or xs k d) ⊎ ((k ≡ i) × (get_or (set xs i x) k d ≡ x))
written xs i k x d = elim (cases_eq k i) [
  | inr other ↦ inl (get_or-set_other xs i k x d other)
  | inl e ↦ elim (cases_lt i (length xs)) [
    | inr past ↦ inl (ap (λ (ys : List _). get_or ys k d) (set_past xs i x past))
    | inl within ↦ inr (e, get_or-set_at xs i k x d e within)
  ]
]

-- one more bid changes at most that one
pub bid_written : (b : Bids) (p : Private) (s : Seat) (m : ℕ) (q : Private) (t : Seat) → (bid_of (with_bid b p s m) q t ≡ bid_of b q t) ⊎ ((private_index q ≡ private_index p) × (t.0 ≡ s.0) × (bid_of (with_bid b p s m) q t ≡ m))
bid_written b p s m q t =
    let i = private_index p in
    let k = private_index q in
    let old : List ℕ = get_or b i [] in
    elim (written b i k (set old s.0 m) []) [
      | inl same ↦ inl (ap (λ (r : List ℕ). get_or r t.0 0) same)
      | inr w ↦ elim (written old s.0 t.0 m 0) [
        | inl same ↦ inl (ap (λ (r : List ℕ). get_or r t.0 0) w.1 ∙ same ∙ ap (λ (x : ℕ). get_or (get_or b x []) t.0 0) (sym w.0))
        | inr v ↦ inr (w.0, v.0, ap (λ (r : List ℕ). get_or r t.0 0) w.1 ∙ v.1)
      ]
    ]
