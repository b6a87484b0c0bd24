-- How the progress of an auction grows with its book.
use Rattle.std.specs.Prelude.{◌≡◌, ℕ, List, [], ◌∷◌, ◌++◌, map, refl}
use Rattle.std.proofs.Common.{sym, ◌∙◌, ap, append_assoc, append-nil}
use Rattle.rr_books.specs.declared.entries.Entry.{Entry}
use Rattle.rr_books.specs.Book.{Book, holder}
use Rattle.rr_books.specs.Shares.{Holders}
use Rattle.rr_books.specs.ShareLaws.{holder-of_state}
use Rattle.rr_books.specs.State.{State, IsStateOf, holder_in}
use Rattle.rr_rounds.specs.Bids.Progress.{Progress, IsBiddingOf, after, after_entry, beginning, follow, progress}

-- after further entries, after one more, and before the first
pub follow-append : (book xs ys : Book) (a : Progress) → follow book a (xs ++ ys) ≡ follow (book ++ xs) (follow book a xs) ys
follow-append book [] ys a = ap (λ (b : Book). follow b a ys) (sym (append-nil book))
follow-append book (e ∷ es) ys a =
    follow-append (book ++ e ∷ []) es ys (after book a e)
    ∙ ap (λ (b : Book). follow b (follow (book ++ e ∷ []) (after book a e) es) ys) (append_assoc book (e ∷ []) es)

pub progress-append : (book more : Book) → progress (book ++ more) ≡ follow book (progress book) more
unfolding progress
progress-append book more = follow-append [] book more beginning

pub progress-push : (book : Book) (e : Entry) → progress (book ++ e ∷ []) ≡ after book (progress book) e
progress-push book e = progress-append book (e ∷ [])

pub progress-none : progress [] ≡ beginning
unfolding progress
progress-none = refl

-- entries that each leave the auction where it is leave it so together
pub follow_still : {X : Type 0} (g : X → Entry) → ((book : Book) (a : Progress) (x : X) → after book a (g x) ≡ a) → (book : Book) (a : Progress) (xs : List X) → follow book a (map g xs) ≡ a
follow_still g h book a [] = refl
follow_still g h book a (x ∷ xs) = ap (λ (b : Progress). follow (book ++ g x ∷ []) b (map g xs)) (h book a x) ∙ follow_still g h (book ++ g x ∷ []) a xs

-- what has come so far, by the tables of the book, stands for the book with the entry that was followed
pub stands_once : (book : Book) (e : Entry) (s : State) (old new : Progress) → new ≡ after_entry s.players (holder_in s) old e → IsStateOf book s → IsBiddingOf book old → IsBiddingOf (book ++ e ∷ []) new
stands_once book e s old new is h k =
    progress-push book e
    ∙ ap (λ (n : ℕ). after_entry n (holder book) (progress book) e) h.players
    ∙ ap (λ (H : Holders). after_entry s.players H (progress book) e) (sym (holder-of_state book s h))
    ∙ ap (λ (a : Progress). after_entry s.players (holder_in s) a e) k
    ∙ sym is
