-- Which entries leave an auction that is over as it is, which are of no corporation's turn, and which move no train.
use Rattle.std.specs.Prelude.{◌≡◌, Bool, true, false, ◌&&◌, refl}
use Rattle.std.specs.List.{list_all}
use Rattle.std.proofs.Common.{◌∙◌, ap}
use Rattle.std.proofs.lemmas.Bool.{and_parts, false≢true}
use Rattle.rr_books.specs.declared.parties.Place.{Place}
use Rattle.rr_books.specs.declared.parties.Place.TheVariants as L
use Rattle.rr_books.specs.declared.certificates.Cert.TheVariants as C
use Rattle.rr_books.specs.declared.entries.Entry.{Entry}
use Rattle.rr_books.specs.declared.entries.Entry.TheVariants as E
use Rattle.rr_books.specs.declared.entries.Marker.{Marker}
use Rattle.rr_books.specs.declared.entries.Marker.TheVariants as M
use Rattle.rr_books.specs.declared.acts.Act.{Act}
use Rattle.rr_books.specs.declared.acts.Act.TheVariants as A
use Rattle.rr_books.specs.Book.{Book}
use Rattle.rr_laws.proofs.Adding.{all_weaker}

-- the act is none that counts in the auction alone
abbrev pub leaves_turns : Act → Bool
leaves_turns (A.BuyPrivate s) = false
leaves_turns (A.Bid s p amount) = false
leaves_turns (A.Pass s) = false
leaves_turns _ = true

abbrev pub leaves_step : Marker → Bool
leaves_step (M.Act act) = leaves_turns act
leaves_step _ = true

-- a private that goes there is neither sold nor for sale
abbrev pub leaves_sales : Place → Bool
leaves_sales (L.Seat s) = false
leaves_sales L.Offer = false
leaves_sales _ = true

-- the entry leaves alone an auction that is over
abbrev pub leaves_auction : Entry → Bool
leaves_auction (E.Step marker) = leaves_step marker
leaves_auction (E.Move (C.Private p) to) = leaves_sales to
leaves_auction _ = true

-- the act neither moves the step of a corporation's turn on nor ends the turn
abbrev pub keeps_step : Act → Bool
keeps_step (A.Lay c hex tile turn) = false
keeps_step (A.Station c hex centre) = false
keeps_step (A.Run c sheet) = false
keeps_step (A.RunBest c sheet certificate) = false
keeps_step (A.PayOut c) = false
keeps_step (A.Hold c) = false
keeps_step (A.End c) = false
keeps_step _ = true

abbrev pub tells_no_turn : Marker → Bool
tells_no_turn (M.Act act) = keeps_step act
tells_no_turn _ = true

abbrev pub begins_none : Marker → Bool
begins_none (M.Act act) = keeps_step act
begins_none (M.Float c) = true
begins_none _ = false

-- the entry has no run as best
abbrev pub has_no_best : Entry → Bool
has_no_best (E.Best c sheet certificate) = false
has_no_best _ = true

-- the entry is no run, no step and no end of a corporation's turn
abbrev pub is_of_no_turn : Entry → Bool
is_of_no_turn (E.Best c sheet certificate) = false
is_of_no_turn (E.Step marker) = tells_no_turn marker
is_of_no_turn _ = true

-- nor that an auction or a round begins
abbrev pub is_quiet : Entry → Bool
is_quiet (E.Best c sheet certificate) = false
is_quiet (E.Step marker) = begins_none marker
is_quiet _ = true

-- the entry moves no train
abbrev pub moves_none : Entry → Bool
moves_none (E.Train t to) = false
moves_none _ = true

-- it is quiet, and leaves the auction alone
abbrev pub is_plain : Entry → Bool
is_plain e = is_quiet e && leaves_auction e

-- and moves no train
abbrev pub is_still : Entry → Bool
is_still e = moves_none e && is_plain e

-- the same, except that a round may begin
abbrev pub is_calm : Entry → Bool
is_calm e = moves_none e && (is_of_no_turn e && leaves_auction e)

-- it is of no turn, and moves no train
abbrev pub is_bare : Entry → Bool
is_bare e = moves_none e && is_of_no_turn e

-- which of these tests are weaker than others

quiet_once : (e : Entry) → is_quiet e ≡ true → is_of_no_turn e ≡ true
quiet_once (E.Best c sheet certificate) h = absurd (false≢true h)
quiet_once (E.Step (M.Act act)) h = h
quiet_once _ h = refl

best_once : (e : Entry) → is_of_no_turn e ≡ true → has_no_best e ≡ true
best_once (E.Best c sheet certificate) h = absurd (false≢true h)
best_once _ h = refl

pub plain_leave : (es : Book) → list_all is_plain es ≡ true → list_all leaves_auction es ≡ true
plain_leave es all = all_weaker is_plain leaves_auction (λ e h. (and_parts (is_quiet e) (leaves_auction e) h).1) es all

pub plain_quiet : (es : Book) → list_all is_plain es ≡ true → list_all is_quiet es ≡ true
plain_quiet es all = all_weaker is_plain is_quiet (λ e h. (and_parts (is_quiet e) (leaves_auction e) h).0) es all

pub quiet_of_no_turn : (es : Book) → list_all is_quiet es ≡ true → list_all is_of_no_turn es ≡ true
quiet_of_no_turn es all = all_weaker is_quiet is_of_no_turn quiet_once es all

pub none_best : (es : Book) → list_all is_of_no_turn es ≡ true → list_all has_no_best es ≡ true
none_best es all = all_weaker is_of_no_turn has_no_best best_once es all

pub still_plain : (es : Book) → list_all is_still es ≡ true → list_all is_plain es ≡ true
still_plain es all = all_weaker is_still is_plain (λ e h. (and_parts (moves_none e) (is_plain e) h).1) es all

pub still_move_none : (es : Book) → list_all is_still es ≡ true → list_all moves_none es ≡ true
still_move_none es all = all_weaker is_still moves_none (λ e h. (and_parts (moves_none e) (is_plain e) h).0) es all

calm_once : (e : Entry) → is_still e ≡ true → is_calm e ≡ true
calm_once e h =
    let parts = and_parts (moves_none e) (is_plain e) h in
    let plain = and_parts (is_quiet e) (leaves_auction e) parts.1 in
    ap (λ (b : Bool). b && (is_of_no_turn e && leaves_auction e)) parts.0 ∙ ap (λ (b : Bool). b && leaves_auction e) (quiet_once e plain.0) ∙ plain.1

pub still_calm : (es : Book) → list_all is_still es ≡ true → list_all is_calm es ≡ true
still_calm es all = all_weaker is_still is_calm calm_once es all

pub calm_move_none : (es : Book) → list_all is_calm es ≡ true → list_all moves_none es ≡ true
calm_move_none es all = all_weaker is_calm moves_none (λ e h. (and_parts (moves_none e) (is_of_no_turn e && leaves_auction e) h).0) es all

calm_parts : (e : Entry) → is_calm e ≡ true → (is_of_no_turn e ≡ true) × (leaves_auction e ≡ true)
calm_parts e h = and_parts (is_of_no_turn e) (leaves_auction e) ((and_parts (moves_none e) (is_of_no_turn e && leaves_auction e) h).1)

pub calm_of_no_turn : (es : Book) → list_all is_calm es ≡ true → list_all is_of_no_turn es ≡ true
calm_of_no_turn es all = all_weaker is_calm is_of_no_turn (λ e h. (calm_parts e h).0) es all

pub calm_leave : (es : Book) → list_all is_calm es ≡ true → list_all leaves_auction es ≡ true
calm_leave es all = all_weaker is_calm leaves_auction (λ e h. (calm_parts e h).1) es all

bare_once : (e : Entry) → is_still e ≡ true → is_bare e ≡ true
bare_once e h =
    let parts = and_parts (moves_none e) (is_plain e) h in
    ap (λ (b : Bool). b && is_of_no_turn e) parts.0 ∙ quiet_once e (and_parts (is_quiet e) (leaves_auction e) parts.1).0

pub still_bare : (es : Book) → list_all is_still es ≡ true → list_all is_bare es ≡ true
still_bare es all = all_weaker is_still is_bare bare_once es all

pub bare_of_no_turn : (es : Book) → list_all is_bare es ≡ true → list_all is_of_no_turn es ≡ true
bare_of_no_turn es all = all_weaker is_bare is_of_no_turn (λ e h. (and_parts (moves_none e) (is_of_no_turn e) h).1) es all

pub bare_move_none : (es : Book) → list_all is_bare es ≡ true → list_all moves_none es ≡ true
bare_move_none es all = all_weaker is_bare moves_none (λ e h. (and_parts (moves_none e) (is_of_no_turn e) h).0) es all
