-- How what was put on a board goes on standing for a book that grows.
use Rattle.std.specs.Prelude.{◌≡◌, ℕ, Bool, true, false, List, [], ◌∷◌, ◌++◌, None, refl, filter_map}
use Rattle.std.proofs.Common.{sym, ◌∙◌, ap, subst, append_assoc, append-nil}
use Rattle.std.proofs.lemmas.Bool.{and_parts, false≢true}
use Rattle.std.proofs.lemmas.List.Elements.{filter_map-append}
use Rattle.std.specs.List.{list_all}
use Rattle.rr_roster.specs.declared.company.Corp.{Corp}
use Rattle.rr_books.specs.Book.{Book}
use Rattle.rr_books.specs.declared.entries.Entry.{Entry}
use Rattle.rr_books.specs.declared.entries.Entry.TheVariants as E
use Rattle.rr_desk.specs.declared.layout.layout.Lay.{Lay}
use Rattle.rr_desk.specs.declared.layout.layout.Station.{Station}
use Rattle.rr_desk.specs.Layout.Layout.{Extends, IsLayoutOf, Placed, lay_in, lays, puts_nothing, station_in, stations}

pub lays-append : (book more : Book) → lays (book ++ more) ≡ lays book ++ lays more
unfolding lays
lays-append book more = filter_map-append lay_in book more

pub stations-append : (book more : Book) → stations (book ++ more) ≡ stations book ++ stations more
unfolding stations
stations-append book more = filter_map-append station_in book more

-- nothing was put on the board before the first entry
pub nothing_put : (placed : Placed) → placed.lays ≡ [] → placed.stations ≡ [] → IsLayoutOf [] placed
unfolding lays stations
nothing_put placed e f = record { tiles = sym e; tokens = sym f }

-- a tile more
pub extends_lay : (old new : Placed) (lay : Lay) → new.lays ≡ old.lays ++ lay ∷ [] → new.stations ≡ old.stations → Extends old new (E.Lay lay.hex lay.tile lay.turn ∷ [])
unfolding lays stations
extends_lay old new lay e f book h =
    let entry : Book = E.Lay lay.hex lay.tile lay.turn ∷ [] in
    record {
      tiles = filter_map-append lay_in book entry ∙ ap (λ (ls : List Lay). ls ++ lay ∷ []) h.tiles ∙ sym e;
      tokens = filter_map-append station_in book entry ∙ append-nil (filter_map station_in book) ∙ h.tokens ∙ sym f;
    }

-- a token more
pub extends_station : (old new : Placed) (station : Station) → new.lays ≡ old.lays → new.stations ≡ old.stations ++ station ∷ [] → Extends old new (E.Station station.corp station.hex station.centre ∷ [])
unfolding lays stations
extends_station old new station e f book h =
    let entry : Book = E.Station station.corp station.hex station.centre ∷ [] in
    record {
      tiles = filter_map-append lay_in book entry ∙ append-nil (filter_map lay_in book) ∙ h.tiles ∙ sym e;
      tokens = filter_map-append station_in book entry ∙ ap (λ (ss : List Station). ss ++ station ∷ []) h.tokens ∙ sym f;
    }

none_by : (book : Book) (entry : Entry) (placed : Placed) → lay_in entry ≡ None → station_in entry ≡ None → IsLayoutOf book placed → IsLayoutOf (book ++ entry ∷ []) placed
unfolding lays stations
none_by book entry placed e f h = record {
  tiles = filter_map-append lay_in book (entry ∷ []) ∙ rw e (append-nil (filter_map lay_in book)) ∙ h.tiles;
  tokens = filter_map-append station_in book (entry ∷ []) ∙ rw f (append-nil (filter_map station_in book)) ∙ h.tokens;
}

-- the state stands as well for the book with an entry more that puts nothing on the board
pub stays : (book : Book) (entry : Entry) (placed : Placed) → puts_nothing entry ≡ true → IsLayoutOf book placed → IsLayoutOf (book ++ entry ∷ []) placed
stays book (E.Pay from to amount) placed m h = none_by book (E.Pay from to amount) placed refl refl h
stays book (E.Move cert to) placed m h = none_by book (E.Move cert to) placed refl refl h
stays book (E.Mark corp cell) placed m h = none_by book (E.Mark corp cell) placed refl refl h
stays book (E.Lay hex tile turn) placed m h = absurd (false≢true m)
stays book (E.Station corp hex centre) placed m h = absurd (false≢true m)
stays book (E.Train train to) placed m h = none_by book (E.Train train to) placed refl refl h
stays book (E.Best corp sheet certificate) placed m h = none_by book (E.Best corp sheet certificate) placed refl refl h
stays book (E.Step marker) placed m h = none_by book (E.Step marker) placed refl refl h

-- an entry that is neither a tile nor a token puts nothing on the board
nothing_put_by : (e : Entry) → ((hex : List ℕ) (tile turn : ℕ) → e ≡ E.Lay hex tile turn → ⊥) → ((corp : Corp) (hex : List ℕ) (centre : ℕ) → e ≡ E.Station corp hex centre → ⊥) → puts_nothing e ≡ true
nothing_put_by (E.Lay hex tile turn) l s = absurd (l hex tile turn refl)
nothing_put_by (E.Station corp hex centre) l s = absurd (s corp hex centre refl)
nothing_put_by (E.Pay from to amount) l s = refl
nothing_put_by (E.Move cert to) l s = refl
nothing_put_by (E.Mark corp cell) l s = refl
nothing_put_by (E.Train train to) l s = refl
nothing_put_by (E.Best corp sheet certificate) l s = refl
nothing_put_by (E.Step marker) l s = refl

-- so the state stands as well for the book with it
pub stays_by : (e : Entry) (placed : Placed) → ((hex : List ℕ) (tile turn : ℕ) → e ≡ E.Lay hex tile turn → ⊥) → ((corp : Corp) (hex : List ℕ) (centre : ℕ) → e ≡ E.Station corp hex centre → ⊥) → Extends placed placed (e ∷ [])
stays_by e placed l s book h = stays book e placed (nothing_put_by e l s) h

-- and as well for the book with several
pub puts_nothing_through : (book more : Book) (placed : Placed) → list_all puts_nothing more ≡ true → IsLayoutOf book placed → IsLayoutOf (book ++ more) placed
puts_nothing_through book [] placed h k = subst (λ (b : Book). IsLayoutOf b placed) (sym (append-nil book)) k
puts_nothing_through book (e ∷ es) placed h k =
    let parts = and_parts (puts_nothing e) (list_all puts_nothing es) h in
    subst (λ (b : Book). IsLayoutOf b placed) (append_assoc book (e ∷ []) es) (puts_nothing_through (book ++ e ∷ []) es placed parts.1 (stays book e placed parts.0 k))
