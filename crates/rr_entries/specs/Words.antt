-- The entries of a table's book as words.
use Rattle.std.specs.Prelude.{ℕ, Bool, true, false, pos, List, [], ◌∷◌, ◌++◌, codes, decimal, filter, get_or, map, if◌then◌else◌}
use Rattle.std.specs.Fmt.{signed_decimal}
use Rattle.std.specs.List.{flat_map}
use Rattle.std.specs.Ordering.{int_eq}
use Rattle.rr_roster.specs.Company.{corp_name, kind_name, private_name}
use Rattle.rr_books.specs.Book.{Book}
use Rattle.rr_books.specs.Same.{share_number}
use Rattle.rr_books.specs.declared.certificates.Cert.{Cert}
use Rattle.rr_books.specs.declared.certificates.Cert.TheVariants as C
use Rattle.rr_books.specs.declared.certificates.Train.{Train}
use Rattle.rr_books.specs.declared.entries.Entry.{Entry}
use Rattle.rr_books.specs.declared.entries.Entry.TheVariants as E
use Rattle.rr_books.specs.declared.parties.Party.{Party}
use Rattle.rr_books.specs.declared.parties.Party.TheVariants as P
use Rattle.rr_books.specs.declared.parties.Place.{Place}
use Rattle.rr_books.specs.declared.parties.Place.TheVariants as L
use Rattle.rr_books.specs.declared.parties.Seat.{Seat}

-- words, each after a space
abbrev pub spaced : List (List ℕ) → List ℕ
spaced words = flat_map (λ word. codes " " ++ word) words

-- the entries of several commands, in order
abbrev pub joined : List Book → Book
joined books = flat_map (λ book. book) books

-- the name of the player at a seat; no bytes if the table has no such seat
abbrev pub player_word : List (List ℕ) → Seat → List ℕ
player_word players seat = get_or players seat.0 []

-- who pays or is paid
abbrev pub party_word : List (List ℕ) → Party → List ℕ
party_word players P.Bank = codes "bank"
party_word players (P.Seat seat) = player_word players seat
party_word players (P.Corp corp) = corp_name corp

-- the place to which a certificate or a train goes
abbrev pub place_word : List (List ℕ) → Place → List ℕ
place_word players (L.Seat seat) = player_word players seat
place_word players (L.Corp corp) = corp_name corp
place_word players L.Offer = codes "offer"
place_word players L.Pool = codes "pool"
place_word players L.Gone = codes "gone"

-- a certificate: a private's name, or its corporation's name with `P` for the president's
-- certificate (20%) and a number from 1 for one of 10%
abbrev pub certificate_word : Cert → List ℕ
certificate_word (C.Private private) = private_name private
certificate_word (C.President corp) = corp_name corp ++ codes "-" ++ codes "P"
certificate_word (C.Share corp number) = corp_name corp ++ codes "-" ++ decimal (share_number number)

-- a train: its kind and its number among the trains of the kind, from 1
abbrev pub train_word : Train → List ℕ
train_word train = kind_name train.kind ++ codes "-" ++ decimal train.number

-- the words of a sheet as one word, or none if the sheet is empty
abbrev pub sheet_words : List ℕ → List (List ℕ)
sheet_words [] = []
sheet_words (c ∷ rest) = (c ∷ rest) ∷ []

-- the words of an entry; a step and a payment of 0 have none
abbrev pub entry_words : List (List ℕ) → Entry → List (List ℕ)
entry_words players (E.Pay from to amount) =
    if int_eq amount.0 (pos 0) then []
    else codes "pay" ∷ party_word players from ∷ party_word players to ∷ signed_decimal amount.0 ∷ []
entry_words players (E.Move cert to) = codes "move" ∷ certificate_word cert ∷ place_word players to ∷ []
entry_words players (E.Mark corp cell) = codes "mark" ∷ corp_name corp ∷ decimal cell.row ∷ decimal cell.column ∷ []
entry_words players (E.Lay hex tile turn) = codes "lay" ∷ hex ∷ decimal tile ∷ decimal turn ∷ []
entry_words players (E.Station corp hex centre) = codes "station" ∷ corp_name corp ∷ hex ∷ decimal centre ∷ []
entry_words players (E.Train train to) = codes "train" ∷ train_word train ∷ place_word players to ∷ []
entry_words players (E.Best corp sheet certificate) = codes "best" ∷ corp_name corp ∷ sheet_words sheet
entry_words players (E.Step marker) = []

-- whether there is a word
abbrev pub has_words : List (List ℕ) → Bool
has_words [] = false
has_words (word ∷ words) = true

-- all these words, with the word `;` between each two lists of them
abbrev pub separated : List (List (List ℕ)) → List (List ℕ)
separated [] = []
separated (words ∷ []) = words
separated (words ∷ next ∷ rest) = words ++ codes ";" ∷ separated (next ∷ rest)

-- the words of the entries that have any, with the word `;` between each two entries
abbrev pub book_words : List (List ℕ) → Book → List (List ℕ)
book_words players entries = separated (filter has_words (map (entry_words players) entries))
