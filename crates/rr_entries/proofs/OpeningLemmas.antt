-- The entries of an opening, joined in order.
use Rattle.std.proofs.Common.{◌≡◌, ℕ, ◌+◌, ◌<◌, List, [], ◌∷◌, ◌++◌, length, map, take, get_or, refl, sym, ap, ◌∙◌, append_assoc}
use Rattle.std.specs.List.{flat_map, range_with_len}
use Rattle.std.proofs.lemmas.List.{flat_map_more, map-append, take_more}
use Rattle.std.proofs.lemmas.List.FromFn.{map-range_with_len_more}
use Rattle.rr_roster.specs.declared.company.Corp.{Corp}
use Rattle.rr_roster.specs.declared.company.Kind.{Kind}
use Rattle.rr_roster.specs.Terms.{Terms, count_of, order_of}
use Rattle.rr_books.specs.Book.{Book}
use Rattle.rr_books.specs.Opening.{kinds, opening_moves, opening_payments, opening_trains, trains_of}
use Rattle.rr_books.specs.Shares.{certificates_of, privates}
use Rattle.rr_books.specs.declared.certificates.Cert.TheVariants as C
use Rattle.rr_books.specs.declared.certificates.Train.{Train}
use Rattle.rr_books.specs.declared.entries.Entry.{Entry}
use Rattle.rr_books.specs.declared.entries.Entry.TheVariants as E
use Rattle.rr_books.specs.declared.parties.Place.TheVariants as L
use Rattle.rr_books.specs.declared.entries.Marker.TheVariants as M
use Rattle.rr_auction.specs.Opening.{opened}
use Rattle.rr_entries.specs.Opening.{train_offered, offered}

map-flat_map : {X Y Z : Type 0} (f : Y → Z) (g : X → List Y) (xs : List X) → map f (flat_map g xs) ≡ flat_map (λ x. map f (g x)) xs
map-flat_map f g [] = refl
map-flat_map f g (x ∷ xs) = map-append f (g x) (flat_map g xs) ∙ ap (λ l. map f (g x) ++ l) (map-flat_map f g xs)

map-map : {X Y Z : Type 0} (f : Y → Z) (g : X → Y) (xs : List X) → map f (map g xs) ≡ map (λ x. f (g x)) xs
map-map f g [] = refl
map-map f g (x ∷ xs) = ap (λ l. f (g x) ∷ l) (map-map f g xs)

flat_map-same : {X Y : Type 0} (f g : X → List Y) (xs : List X) → ((x : X) → f x ≡ g x) → flat_map f xs ≡ flat_map g xs
flat_map-same f g [] same = refl
flat_map-same f g (x ∷ xs) same = ap (λ l. l ++ flat_map f xs) (same x) ∙ ap (λ l. g x ++ l) (flat_map-same f g xs same)

-- all certificates
pub all_offered : (roster : Terms) → opening_moves roster
    ≡ flat_map (λ p. offered (C.Private p) ∷ []) privates ++ flat_map (λ c. map offered (certificates_of c)) (order_of roster)
unfolding opening_moves
all_offered roster =
    map-append offered (map (λ p. C.Private p) privates) (flat_map certificates_of (order_of roster))
    ∙ ap (λ (l : Book). map offered (map (λ p. C.Private p) privates) ++ l) (map-flat_map offered certificates_of (order_of roster))

-- all trains
pub all_trains : (roster : Terms) → opening_trains roster ≡ flat_map (λ k. map (train_offered k) (range_with_len 1 (count_of roster k))) kinds
unfolding opening_trains
all_trains roster =
    let on_offer : Train → Entry = λ t. E.Train t L.Offer in
    map-flat_map on_offer (trains_of roster) kinds
    ∙ flat_map-same (λ (k : Kind). map on_offer (trains_of roster k)) (λ (k : Kind). map (train_offered k) (range_with_len 1 (count_of roster k))) kinds
    (λ k. map-map on_offer (λ (n : ℕ). record { kind = k; number = n }) (range_with_len 1 (count_of roster k)))

-- entries with one more, and with those of one more
pub range_more : (f : ℕ → Entry) (a n j : ℕ) (before old new : Book) → a + n ≡ j → old ≡ before ++ map f (range_with_len a n)
    → new ≡ old ++ f j ∷ [] → new ≡ before ++ map f (range_with_len a (n + 1))
range_more f a n j before old new at so_far step =
    step
    ∙ ap (λ (l : Book). l ++ f j ∷ []) so_far
    ∙ append_assoc before (map f (range_with_len a n)) (f j ∷ [])
    ∙ ap (λ (l : Book). before ++ l) (sym (map-range_with_len_more f a n j at))

pub offered_more : {X : Type 0} (f : X → Book) (xs : List X) (i : ℕ) (d : X) (before old new : Book) → i < length xs
    → old ≡ before ++ flat_map f (take i xs) → new ≡ old ++ f (get_or xs i d) → new ≡ before ++ flat_map f (take (i + 1) xs)
offered_more {X} f xs i d before old new h so_far step =
    step
    ∙ ap (λ (l : Book). l ++ f (get_or xs i d)) so_far
    ∙ flat_map_more f before (take i xs) (get_or xs i d)
    ∙ ap (λ (l : List X). before ++ flat_map f l) (sym (take_more xs i d h))

-- the whole opening
pub whole_opening : (players names : List (List ℕ)) (roster : Terms) (n : ℕ) (order : List Corp) (begun paid private shared trained all : Book)
    → n ≡ length players → names ≡ players → order ≡ order_of roster → begun ≡ [] → paid ≡ begun ++ opening_payments n
    → private ≡ paid ++ flat_map (λ p. offered (C.Private p) ∷ []) privates
    → shared ≡ private ++ flat_map (λ c. map offered (certificates_of c)) order
    → trained ≡ shared ++ opening_trains roster → all ≡ trained ++ E.Step (M.Auction names) ∷ []
    → all ≡ opened players roster
whole_opening players names roster n order begun paid private shared trained all count named ordered none pays privately sharing trains steps =
    let payments = opening_payments (length players) in
    let first : Book = flat_map (λ p. offered (C.Private p) ∷ []) privates in
    let second : Book = flat_map (λ c. map offered (certificates_of c)) (order_of roster) in
    let one : paid ≡ payments = pays ∙ ap (λ (l : Book). l ++ opening_payments n) none ∙ ap opening_payments count in
    let two : private ≡ payments ++ first = privately ∙ ap (λ (l : Book). l ++ first) one in
    let three : shared ≡ (payments ++ first) ++ second =
    sharing ∙ ap (λ (l : Book). l ++ flat_map (λ c. map offered (certificates_of c)) order) two
    ∙ ap (λ (cs : List Corp). (payments ++ first) ++ flat_map (λ c. map offered (certificates_of c)) cs) ordered in
    let moves : shared ≡ payments ++ opening_moves roster =
    three ∙ append_assoc payments first second ∙ ap (λ (l : Book). payments ++ l) (sym (all_offered roster)) in
    let four : trained ≡ payments ++ opening_moves roster ++ opening_trains roster =
    trains ∙ ap (λ (l : Book). l ++ opening_trains roster) moves in
    steps ∙ ap (λ (l : Book). l ++ E.Step (M.Auction names) ∷ []) four
    ∙ ap (λ (ps : List (List ℕ)). (payments ++ opening_moves roster ++ opening_trains roster) ++ E.Step (M.Auction ps) ∷ []) named
