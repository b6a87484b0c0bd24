-- Certificates keep places of the table as entries follow on a book.
use Rattle.std.specs.Prelude.{◌≡◌, ℕ, Bool, true, false, List, [], ◌∷◌, ◌++◌, Option, Some, length}
use Rattle.std.specs.List.{flat_map, list_all}
use Rattle.std.proofs.Common.{sym, ◌∙◌, ap, subst, cond, append_assoc, append-nil}
use Rattle.std.proofs.lemmas.Bool.{and_parts}
use Rattle.rr_roster.specs.Terms.{IsOrder, Terms, order_of}
use Rattle.rr_books.specs.declared.parties.Place.{Place}
use Rattle.rr_books.specs.declared.parties.Place.TheVariants as L
use Rattle.rr_books.specs.declared.certificates.Cert.{Cert}
use Rattle.rr_books.specs.declared.entries.Entry.{Entry}
use Rattle.rr_books.specs.declared.entries.Entry.TheVariants as E
use Rattle.rr_books.specs.declared.entries.Marker.TheVariants as M
use Rattle.rr_books.specs.Book.{Book, holder, holder-append, holder-push, holder_after}
use Rattle.rr_books.specs.Opening.{kinds, opening_entries, opening_moves, opening_payments, opening_trains, trains_of}
use Rattle.rr_books.specs.Same.{same_cert}
use Rattle.rr_books.specs.Shares.{certificates}
use Rattle.rr_books.proofs.OpeningPlaces.{certificate_among, moves-holder, trains-holder}
use Rattle.rr_auction.specs.Dealt.{IsDealt, is_placed, moves_within}
use Rattle.rr_auction.specs.Opening.{opened}
use Rattle.rr_auction.proofs.Covers.{GoesOn}

either_placed : (n : ℕ) (b : Bool) (to : Place) (x : Option Place) → is_placed n (Some to) ≡ true → is_placed n x ≡ true → is_placed n (cond b (Some to) x) ≡ true
either_placed n true to x there h = there
either_placed n false to x there h = h

placed_by : (n : ℕ) (e : Entry) (cert : Cert) (x : Option Place) → moves_within n e ≡ true → is_placed n x ≡ true → is_placed n (holder_after cert x e) ≡ true
placed_by n (E.Move moved to) cert x there h = either_placed n (same_cert cert moved) to x there h
placed_by n _ cert x there h = h

-- entries that move certificates to places of the table alone leave each at one
pub dealt_by : (n : ℕ) (es book : Book) → list_all (moves_within n) es ≡ true → IsDealt n book → IsDealt n (book ++ es)
dealt_by n [] book all h =
    let So : Book → Type 0 = λ b. IsDealt n b in
    subst So (sym (append-nil book)) h
dealt_by n (e ∷ es) book all h =
    let So : Book → Type 0 = λ b. IsDealt n b in
    let Placed : Option Place → Type 0 = λ x. is_placed n x ≡ true in
    let parts = and_parts (moves_within n e) (list_all (moves_within n) es) all in
    let one : IsDealt n (book ++ e ∷ []) = λ cert. subst Placed (sym (holder-push book e cert)) (placed_by n e cert (holder book cert) parts.0 (h cert)) in
    subst So (append_assoc book (e ∷ []) es) (dealt_by n es (book ++ e ∷ []) parts.1 one)

-- so do those that lawful acts of the auction add
pub dealt_after : (n : ℕ) (book more : Book) → GoesOn n book more → IsDealt n book → IsDealt n (book ++ more)
dealt_after n book more goes dealt = dealt_by n more book goes.within dealt

-- where the roster names each corporation, a table opens with every certificate on offer
offered : (names : List (List ℕ)) (roster : Terms) (cert : Cert) → IsOrder (order_of roster) → holder (opened names roster) cert ≡ Some L.Offer
unfolding opening_payments opening_moves opening_trains
offered names roster cert order =
    let n = length names in
    let certs = certificates (order_of roster) in
    let before = opening_payments n ++ opening_moves roster in
    holder-push (opening_entries n roster) (E.Step (M.Auction names)) cert
    ∙ holder-append before (opening_trains roster) cert
    ∙ trains-holder cert (flat_map (trains_of roster) kinds) _
    ∙ holder-append (opening_payments n) (opening_moves roster) cert
    ∙ moves-holder cert certs _
    ∙ ap (λ (b : Bool). cond b (Some L.Offer) (holder (opening_payments n) cert)) (certificate_among cert (order_of roster) order)

pub dealt_opened : (names : List (List ℕ)) (roster : Terms) → IsOrder (order_of roster) → IsDealt (length names) (opened names roster)
dealt_opened names roster order cert = ap (λ (x : Option Place). is_placed (length names) x) (offered names roster cert order)
