-- An auction that is over stays as it is.
use Rattle.std.proofs.Common.{◌≡◌, ℕ, Bool, true, false, cond, List, [], ◌∷◌, ◌++◌, Option, None, Some, find, refl, sym, ◌∙◌, ap, subst, append_assoc, append-nil}
use Rattle.std.specs.List.{list_all}
use Rattle.std.proofs.lemmas.Bool.{false≢true, and_parts}
use Rattle.rr_roster.specs.declared.company.Private.{Private}
use Rattle.rr_roster.specs.declared.company.Corp.{Corp}
use Rattle.rr_books.specs.declared.parties.Seat.{Seat}
use Rattle.rr_books.specs.declared.parties.Place.{Place}
use Rattle.rr_books.specs.declared.parties.Place.TheVariants as L
use Rattle.rr_books.specs.declared.certificates.Cert.TheVariants as C
use Rattle.rr_books.specs.declared.entries.Entry.{Entry}
use Rattle.rr_books.specs.declared.entries.Entry.TheVariants as E
use Rattle.rr_books.specs.declared.entries.Marker.{Marker}
use Rattle.rr_books.specs.declared.entries.Marker.TheVariants as M
use Rattle.rr_books.specs.declared.acts.Act.{Act}
use Rattle.rr_books.specs.declared.acts.Act.TheVariants as A
use Rattle.rr_books.specs.Book.{Book, holder, holder-push, holder_after, players}
use Rattle.rr_books.specs.Shares.{Holders, is_at, privates}
use Rattle.rr_books.specs.Same.{same_cert}
use Rattle.rr_rounds.specs.Bids.Progress.{Progress, after, after_act, after_par, follow, progress, raise_due}
use Rattle.rr_auction.specs.Effects.{is_over}
use Rattle.rr_auction.specs.Rules.{due, due_by}
use Rattle.rr_rounds.specs.Bids.Unsold.{cheapest, is_unsold}
use Rattle.rr_rounds.specs.Bids.ProgressLaws.{progress-append}
use Rattle.rr_laws.proofs.LeavesAuction.{leaves_auction, leaves_sales, leaves_step, leaves_turns}

par_left : (c : Corp) (a : Progress) → a.par_due ≡ None → after_par c a ≡ a
par_left Corp.Bo a none = ap (λ (owing : Option Seat). record a { par_due = owing }) (sym none)
par_left _ a none = refl

act_left : (act : Act) (n : ℕ) (holders : Holders) (a : Progress) → a.par_due ≡ None → leaves_turns act ≡ true → after_act n holders a act ≡ a
act_left (A.BuyPrivate s) n holders a none h = absurd (false≢true h)
act_left (A.Bid s p amount) n holders a none h = absurd (false≢true h)
act_left (A.Pass s) n holders a none h = absurd (false≢true h)
act_left (A.Par s c price) n holders a none h = par_left c a none
act_left _ n holders a none h = refl

step_left : (marker : Marker) (book : Book) (a : Progress) → a.par_due ≡ None → leaves_step marker ≡ true → after book a (E.Step marker) ≡ a
step_left (M.Act act) book a none h = act_left act (players book) (holder book) a none h
step_left _ book a none h = refl

private_left : (p : Private) (to : Place) (book : Book) (a : Progress) → leaves_sales to ≡ true → after book a (E.Move (C.Private p) to) ≡ a
private_left p (L.Seat s) book a h = absurd (false≢true h)
private_left p _ book a h = refl

after_left : (e : Entry) (book : Book) (a : Progress) → a.par_due ≡ None → leaves_auction e ≡ true → after book a e ≡ a
after_left (E.Step marker) book a none h = step_left marker book a none h
after_left (E.Move (C.Private p) to) book a none h = private_left p to book a h
after_left _ book a none h = refl

follow_left : (es book : Book) (a : Progress) → a.par_due ≡ None → list_all leaves_auction es ≡ true → follow book a es ≡ a
follow_left [] book a none h = refl
follow_left (e ∷ es) book a none h =
    let parts = and_parts (leaves_auction e) (list_all leaves_auction es) h in
    ap (λ (b : Progress). follow (book ++ e ∷ []) b es) (after_left e book a none parts.0) ∙ follow_left es (book ++ e ∷ []) a none parts.1

-- a private that isn't on offer

moved_off : (b : Bool) (to : Place) (place : Option Place) → leaves_sales to ≡ true → is_at place L.Offer ≡ false → is_at (cond b (Some to) place) L.Offer ≡ false
moved_off false to place h off = off
moved_off true L.Offer place h off = absurd (false≢true h)
moved_off true (L.Seat s) place h off = absurd (false≢true h)
moved_off true _ place h off = refl

off_once : (e : Entry) (p : Private) (place : Option Place) → leaves_auction e ≡ true → is_at place L.Offer ≡ false → is_at (holder_after (C.Private p) place e) L.Offer ≡ false
off_once (E.Move (C.Private q) to) p place h off = moved_off (same_cert (C.Private p) (C.Private q)) to place h off
off_once (E.Move (C.President c) to) p place h off = off
off_once (E.Move (C.Share c n) to) p place h off = off
off_once _ p place h off = off

stays_off : (es book : Book) (p : Private) → list_all leaves_auction es ≡ true → is_unsold (holder book) p ≡ false → is_unsold (holder (book ++ es)) p ≡ false
stays_off [] book p h off = subst (λ (b : Book). is_unsold (holder b) p ≡ false) (sym (append-nil book)) off
stays_off (e ∷ es) book p h off =
    let parts = and_parts (leaves_auction e) (list_all leaves_auction es) h in
    let once = ap (λ (at : Option Place). is_at at L.Offer) (holder-push book e (C.Private p)) ∙ off_once e p (holder book (C.Private p)) parts.0 off in
    subst (λ (b : Book). is_unsold (holder b) p ≡ false) (append_assoc book (e ∷ []) es) (stays_off es (book ++ e ∷ []) p parts.1 once)

none_found : {X : Type 0} (x : X) (b d : Bool) (r s : Option X) → (b ≡ false → d ≡ false) → (r ≡ None → s ≡ None) → cond b (Some x) r ≡ None → cond d (Some x) s ≡ None
none_found x true d r s i j k = absurd (cc)
none_found x false d r s i j k = rw (i refl) (j k)

finds_none : {X : Type 0} (f g : X → Bool) (xs : List X) → ((x : X) → f x ≡ false → g x ≡ false) → find f xs ≡ None → find g xs ≡ None
finds_none f g [] h k = refl
finds_none f g (x ∷ xs) h k = none_found x (f x) (g x) (find f xs) (find g xs) (h x) (finds_none f g xs h) k

cheapest_left : (book es : Book) → list_all leaves_auction es ≡ true → cheapest (holder book) ≡ None → cheapest (holder (book ++ es)) ≡ None
unfolding cheapest
cheapest_left book es h k = finds_none (is_unsold (holder book)) (is_unsold (holder (book ++ es))) privates (λ p. stays_off es book p h) k

-- nobody owes a par and nothing is for sale
record IsDone (owing : Option Seat) (for_sale : Option Private) : Type 0 where
  par : owing ≡ None
  sales : for_sale ≡ None

is_done : (owing : Option Seat) (for_sale : Option Private) (raising : Option Seat) (a : Progress) → is_over (due_by owing for_sale raising a) ≡ true → IsDone owing for_sale
is_done (Some s) for_sale raising a h = absurd (false≢true h)
is_done None (Some p) (Some s) a h = absurd (false≢true h)
is_done None (Some p) None a h = absurd (false≢true h)
is_done None None raising a h = record { par = refl; sales = refl }

still_over : (owing : Option Seat) (for_sale : Option Private) (raising : Option Seat) (a : Progress) → owing ≡ None → for_sale ≡ None → is_over (due_by owing for_sale raising a) ≡ true
still_over owing for_sale raising a e f = rw (e, f) refl

-- the auction stays as it is, and over
pub record IsLeft (book es : Book) : Type 0 where
  pub progress : progress (book ++ es) ≡ progress book
  pub over : is_over (due (book ++ es)) ≡ true

pub auction_left : (book es : Book) → is_over (due book) ≡ true → list_all leaves_auction es ≡ true → IsLeft book es
auction_left book es over h =
    let a = progress book in
    let done = is_done a.par_due (cheapest (holder book)) (raise_due (holder book) a) a over in
    let same = progress-append book es ∙ follow_left es book a done.par h in
    let b = progress (book ++ es) in
    record {
      progress = same;
      over = still_over b.par_due (cheapest (holder (book ++ es))) (raise_due (holder (book ++ es)) b) b (ap (λ (x : Progress). x.par_due) same ∙ done.par) (cheapest_left book es h done.sales);
    }
