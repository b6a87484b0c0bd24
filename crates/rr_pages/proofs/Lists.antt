-- Laying bytes into pages, piece by piece.
use Rattle.std.proofs.Common.{◌≡◌, ℕ, suc, ◌+◌, ◌-◌, ◌*◌, ◌<◌, ◌≤◌, Bool, List, [], ◌∷◌, ◌++◌, length, map, take, drop, refl, sym, ◌∙◌, ap, arith, length-append, length-drop}
use Rattle.std.proofs.lemmas.List.{append_assoc, append-nil, map-append, take-append-drop, take_all, length-take}
use Rattle.rr_pages.specs.declared.chain.FreshPage.{FreshPage}
use Rattle.rr_pages.specs.Laying.{page_spelling, head_of, laid, joined, FitEach, FillPages, pages_for}
use Rattle.rr_pages.specs.Sets.{marked, IsFirstFree, NoneFree, TakesFree, TooFewFree}
use Rattle.rr_pages.specs.Writing.{fresh_of, IsLaid}
use Rattle.rr_pages.proofs.SetLemmas.{takes_last}

-- pages with a piece each, the last of which leads to this page
abbrev pub laid_to : List ℕ → ℕ → List (List ℕ) → List (ℕ × List ℕ)
laid_to [] last pieces = []
laid_to (page ∷ pages) last [] = []
laid_to (page ∷ pages) last (piece ∷ pieces) = (page, page_spelling (head_of (pages ++ last ∷ [])) piece) ∷ laid_to pages last pieces

-- each piece fills a page
abbrev pub AllFull : List (List ℕ) → Type 0
AllFull [] = Unit {0}
AllFull (piece ∷ pieces) = (length piece ≡ 4086) × AllFull pieces

head_front : (pages : List ℕ) (page next : ℕ) → head_of ((pages ++ page ∷ []) ++ next ∷ []) ≡ head_of (pages ++ page ∷ [])
head_front [] page next = refl
head_front (p ∷ pages) page next = refl

laid_to_last : (pages : List ℕ) (pieces : List (List ℕ)) (page next : ℕ) (piece : List ℕ) → FitEach pages pieces
    → laid_to (pages ++ page ∷ []) next (pieces ++ piece ∷ []) ≡ laid_to pages page pieces ++ (page, page_spelling next piece) ∷ []
laid_to_last [] [] page next piece fit = refl
laid_to_last [] (x ∷ pieces) page next piece fit = absurd fit
laid_to_last (p ∷ pages) [] page next piece fit = absurd fit
laid_to_last (p ∷ pages) (x ∷ pieces) page next piece fit = λ i. (p, page_spelling (head_front pages page next i) x) ∷ laid_to_last pages pieces page next piece fit.3 i

laid_last : (pages : List ℕ) (pieces : List (List ℕ)) (page : ℕ) (piece : List ℕ) → FitEach pages pieces
    → laid (pages ++ page ∷ []) (pieces ++ piece ∷ []) ≡ laid_to pages page pieces ++ (page, page_spelling 0 piece) ∷ []
laid_last [] [] page piece fit = refl
laid_last [] (x ∷ pieces) page piece fit = absurd fit
laid_last (p ∷ pages) [] page piece fit = absurd fit
laid_last (p ∷ pages) (x ∷ pieces) page piece fit = ap (λ (xs : List (ℕ × List ℕ)). (p, page_spelling (head_of (pages ++ page ∷ [])) x) ∷ xs) (laid_last pages pieces page piece fit.3)

fit_last : (pages : List ℕ) (pieces : List (List ℕ)) (page : ℕ) (piece : List ℕ) → FitEach pages pieces → 0 < page → page < 65536 → length piece ≤ 4086 → FitEach (pages ++ page ∷ []) (pieces ++ piece ∷ [])
fit_last [] [] page piece fit some low short = (some, low, short, tt)
fit_last [] (x ∷ pieces) page piece fit some low short = absurd fit
fit_last (p ∷ pages) [] page piece fit some low short = absurd fit
fit_last (p ∷ pages) (x ∷ pieces) page piece fit some low short = (fit.0, fit.1, fit.2, fit_last pages pieces page piece fit.3 some low short)

full_last : (pieces : List (List ℕ)) (piece : List ℕ) → AllFull pieces → length piece ≡ 4086 → AllFull (pieces ++ piece ∷ [])
full_last [] piece full here = (here, tt)
full_last (x ∷ pieces) piece full here = (full.0, full_last pieces piece full.1 here)

fill_last : (pieces : List (List ℕ)) (piece : List ℕ) → AllFull pieces → FillPages (pieces ++ piece ∷ [])
fill_last [] piece full = tt
fill_last (x ∷ []) piece full = (full.0, tt)
fill_last (x ∷ y ∷ pieces) piece full = (full.0, fill_last (y ∷ pieces) piece full.1)

joined_last : (pieces : List (List ℕ)) (piece : List ℕ) → joined (pieces ++ piece ∷ []) ≡ joined pieces ++ piece
joined_last [] piece = append-nil piece
joined_last (x ∷ pieces) piece = ap (λ (xs : List ℕ). x ++ xs) (joined_last pieces piece) ∙ sym (append_assoc x (joined pieces) piece)

same_count : (pages : List ℕ) (pieces : List (List ℕ)) → FitEach pages pieces → length pages ≡ length pieces
same_count [] [] fit = refl
same_count [] (x ∷ pieces) fit = absurd fit
same_count (p ∷ pages) [] fit = absurd fit
same_count (p ∷ pages) (x ∷ pieces) fit = ap suc (same_count pages pieces fit.3)

length-joined : (pieces : List (List ℕ)) → AllFull pieces → length (joined pieces) ≡ 4086 * length pieces
length-joined [] full = refl
length-joined (x ∷ pieces) full = omega (arith, length-append x (joined pieces), full.0, length-joined pieces full.1)

-- Some pages are laid and the next one is taken; the rest of the bytes is still to be laid.
pub record LaysOn (present coming after : List Bool) (bytes : List ℕ) (old new : List FreshPage) (head page : ℕ) (rest : List ℕ) : Type 0 where
  pub done : List ℕ
  pub pieces : List (List ℕ)
  pub whole : bytes ≡ joined pieces ++ rest
  pub full : AllFull pieces
  pub fit : FitEach done pieces
  pub first : head ≡ head_of (done ++ page ∷ [])
  pub fresh : map fresh_of new ≡ map fresh_of old ++ laid_to done page pieces
  pub taken : TakesFree present coming (done ++ page ∷ []) after
  pub data_page : 514 ≤ page
  pub under : page < 65536

module _ (present coming : List Bool) (bytes : List ℕ) (old : List FreshPage) where
  -- with the first page
  pub lays_first : (page : ℕ) → IsFirstFree present coming page → LaysOn present coming (marked coming page) bytes old old page page bytes
  lays_first page free =
      record {
        done = [];
        pieces = [];
        whole = refl;
        full = tt;
        fit = tt;
        first = refl;
        fresh = sym (append-nil (map fresh_of old));
        taken = (free, refl);
        data_page = free.free.data_page;
        under = free.free.under;
      }

  module _ (after : List Bool) (new then : List FreshPage) (head page : ℕ) (rest : List ℕ) (lays : LaysOn present coming after bytes old new head page rest) (added : FreshPage) (pushed : then ≡ new ++ added ∷ []) (there : added.page ≡ page) where
    fresh_then : (next : ℕ) (piece : List ℕ) → added.bytes.items ≡ page_spelling next piece → map fresh_of then ≡ (map fresh_of old ++ laid_to lays.done page lays.pieces) ++ (page, page_spelling next piece) ∷ []
    fresh_then next piece spelled =
        ap (λ (xs : List FreshPage). map fresh_of xs) pushed ∙ (map-append fresh_of new (added ∷ [])
        ∙ (λ i. lays.fresh i ++ (there i, spelled i) ∷ []))

    -- a full page more, and the page that it leads to
    pub lays_more : (next : ℕ) (piece more : List ℕ) → IsFirstFree present after next → added.bytes.items ≡ page_spelling next piece → rest ≡ piece ++ more → length piece ≡ 4086
        → LaysOn present coming (marked after next) bytes old then head next more
    lays_more next piece more free spelled cut full =
        record {
          done = lays.done ++ page ∷ [];
          pieces = lays.pieces ++ piece ∷ [];
          whole = lays.whole ∙ (ap (λ (xs : List ℕ). joined lays.pieces ++ xs) cut ∙ (sym (append_assoc (joined lays.pieces) piece more) ∙ ap (λ (xs : List ℕ). xs ++ more) (sym (joined_last lays.pieces piece))));
          full = full_last lays.pieces piece lays.full full;
          fit = fit_last lays.done lays.pieces page piece lays.fit (omega (arith, lays.data_page)) lays.under (omega arith);
          first = lays.first ∙ sym (head_front lays.done page next);
          fresh = fresh_then next piece spelled ∙ (append_assoc (map fresh_of old) (laid_to lays.done page lays.pieces) ((page, page_spelling next piece) ∷ [])
              ∙ ap (λ (xs : List (ℕ × List ℕ)). map fresh_of old ++ xs) (sym (laid_to_last lays.done lays.pieces page next piece lays.fit)));
          taken = takes_last present coming after (lays.done ++ page ∷ []) next lays.taken free;
          data_page = free.free.data_page;
          under = free.free.under;
        }

    -- the last page
    pub lays_last : added.bytes.items ≡ page_spelling 0 rest → length rest ≤ 4086 → length coming ≡ 65536 → IsLaid present coming after bytes old then head
    lays_last spelled short marks =
        record {
          pages = lays.done ++ page ∷ [];
          pieces = lays.pieces ++ rest ∷ [];
          whole = joined_last lays.pieces rest ∙ sym lays.whole;
          fit = record { some = omega (arith, length-append lays.done (page ∷ [])); each = fit_last lays.done lays.pieces page rest lays.fit (omega (arith, lays.data_page)) lays.under short };
          fill = fill_last lays.pieces rest lays.full;
          first = lays.first;
          fresh = fresh_then 0 rest spelled ∙ (append_assoc (map fresh_of old) (laid_to lays.done page lays.pieces) ((page, page_spelling 0 rest) ∷ [])
              ∙ ap (λ (xs : List (ℕ × List ℕ)). map fresh_of old ++ xs) (sym (laid_last lays.done lays.pieces page rest lays.fit)));
          taken = lays.taken;
          marks = marks;
        }

  -- no page is left while there is more than one page of bytes
  pub lays_none : (after : List Bool) (new : List FreshPage) (head page : ℕ) (rest : List ℕ) → LaysOn present coming after bytes old new head page rest → 4086 < length rest → NoneFree present after → TooFewFree present coming (pages_for (length bytes))
  lays_none after new head page rest lays long none =
      record {
        all = lays.done ++ page ∷ [];
        after = after;
        taken = lays.taken;
        none_left = none;
        fewer = omega (arith, length-append lays.done (page ∷ []), same_count lays.done lays.pieces lays.fit, ap length lays.whole, length-append (joined lays.pieces) rest, length-joined lays.pieces lays.full);
      }

  -- no page is free at all
  pub none_first : NoneFree present coming → TooFewFree present coming (pages_for (length bytes))
  none_first none = record { all = []; after = coming; taken = refl; none_left = none; fewer = omega arith }

-- a full page's bytes in front
pub cut_front : (rest : List ℕ) → 4086 < length rest → (rest ≡ take 4086 rest ++ take (length rest - 4086) (drop 4086 rest)) × (length (take 4086 rest) ≡ 4086)
cut_front rest long =
    let all : take (length rest - 4086) (drop 4086 rest) ≡ drop 4086 rest = take_all (length rest - 4086) (drop 4086 rest) (omega (arith, length-drop 4086 rest)) in
    (sym (take-append-drop 4086 rest) ∙ ap (λ (xs : List ℕ). take 4086 rest ++ xs) (sym all), omega (arith, length-take 4086 rest))

-- a full page more leaves a page less to be laid, and the last one none
pub count_on : (old new : List FreshPage) (page : FreshPage) (rest : List ℕ) (all : ℕ) → new ≡ old ++ page ∷ [] → 4086 < length rest → length old + pages_for (length rest) ≡ all
    → length new + pages_for (length (take (length rest - 4086) (drop 4086 rest))) ≡ all
count_on old new page rest all is long so_far =
    omega (arith, ap (λ (xs : List FreshPage). length xs) is, length-append old (page ∷ []), length-take (length rest - 4086) (drop 4086 rest), length-drop 4086 rest, long, so_far)

pub count_last : (old new : List FreshPage) (page : FreshPage) (rest : List ℕ) (all : ℕ) → new ≡ old ++ page ∷ [] → length rest ≤ 4086 → length old + pages_for (length rest) ≡ all → length new ≡ all
count_last old new page rest all is short so_far =
    omega (arith, ap (λ (xs : List FreshPage). length xs) is, length-append old (page ∷ []), short, so_far)
