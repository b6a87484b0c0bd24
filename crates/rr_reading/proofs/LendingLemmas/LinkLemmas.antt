-- The bytes of the pages that links lead over.
use Rattle.std.proofs.Common.{◌≡◌, inl, inr, ℕ, zero, suc, ◌+◌, ◌*◌, ◌<◌, ◌≤◌, Bool, true, false, List, [], ◌∷◌, ◌++◌, length, take, drop, get_or, Option, None, Result, Ok, Err, OnErr, refl, sym, ap, ◌∙◌, subst, arith}
use Rattle.std.proofs.lemmas.Bool.{and_parts, cases_eq}
use Rattle.std.proofs.lemmas.List.{take_at, length-set, get_or-set_same, get_or-set_other}
use Rattle.std.proofs.lemmas.List.FromFn.{fill_by_all, length-map-range_with_len, get_or-map-range_with_len}
use Rattle.rr_disk.specs.Disk.{IsAt}
use Rattle.rr_pages.specs.declared.reading.FollowedChain.{FollowedChain}
use Rattle.rr_pages.specs.declared.reading.Link.{Link}
use Rattle.rr_pages.specs.declared.fault.Fault.{Fault as OfPages}
use Rattle.rr_pages.specs.declared.fault.Fault.TheVariants.{FileFull, HalfFull, Damaged, NotAStore, Disk, OutOfMemory}
use Rattle.rr_pages.specs.Faults.{OnDeviceFault as OnPagesFault}
use Rattle.rr_pages.specs.Links.{all_fit, pages_of, EndsPast, Gathers}
use Rattle.rr_pages.specs.Chains.{next_of}
use Rattle.rr_pages.specs.Pages.{AllApart, IsIn, StandsAt}
use Rattle.rr_pages.specs.Sets.{IsMarked, marked}
use Rattle.rr_pages.specs.Walk.{Walk}
use Rattle.rr_pages.specs.Reading.{IsUnbroken, IsWhole}
use Rattle.rr_pages.proofs.Bytes.{at_index}
use Rattle.rr_pages.proofs.Walks.{fit_first, past_fit, read_unbroken}
use Rattle.rr_reading.specs.declared.fault.Fault.{Fault}
use Rattle.rr_reading.specs.declared.lending.chains.Chains.{Chains}
use Rattle.rr_reading.specs.Faults.{OnDeviceFault, of_pages}
use Rattle.rr_reading.specs.Lending.Chains.{left_of, piece_of, StepsOn}
use Rattle.rr_reading.specs.Lending.Fitting.{each_fits, links_at}
use Rattle.rr_reading.specs.Lending.Pages.{bytes_in, joined}

module _ (file : List ℕ) where
  -- what was read of a page are its used bytes
  pub bytes_read : (link : Link) (bytes : List ℕ) → IsAt file (4096 * link.page + 10) bytes → length bytes ≡ link.used → bytes ≡ bytes_in file link
  unfolding bytes_in
  bytes_read link bytes is long =
      fill_by_all (λ i. get_or file (4096 * link.page + 10 + i) 0) bytes link.used 0 long (λ k lt. at_index file (4096 * link.page + 10) bytes is k (omega (arith, long)))

  length-bytes_in : (link : Link) → length (bytes_in file link) ≡ link.used
  unfolding bytes_in
  length-bytes_in link = length-map-range_with_len (λ i. get_or file (4096 * link.page + 10 + i) 0) 0 link.used

  bytes_stand : (link : Link) → StandsAt file (4096 * link.page + 10) (bytes_in file link)
  unfolding bytes_in
  bytes_stand link i lt =
      sym (get_or-map-range_with_len (λ i. get_or file (4096 * link.page + 10 + i) 0) 0 link.used i i 0 (omega (arith, length-bytes_in link)) (omega arith))

  gathers_joined : (links : List Link) → Gathers file links (joined file links)
  gathers_joined [] = refl
  gathers_joined (link ∷ links) = (bytes_in file link, joined file links, refl, length-bytes_in link, bytes_stand link, gathers_joined links)

  -- and no other bytes are gathered
  own_bytes : (link : Link) (own : List ℕ) → length own ≡ link.used → StandsAt file (4096 * link.page + 10) own → own ≡ bytes_in file link
  unfolding bytes_in
  own_bytes link own long stands =
      fill_by_all (λ i. get_or file (4096 * link.page + 10 + i) 0) own link.used 0 long (λ k lt. sym (stands k (omega (arith, long))))

  pub gathers_are : (links : List Link) (bytes : List ℕ) → Gathers file links bytes → bytes ≡ joined file links
  gathers_are [] bytes gathers = gathers
  gathers_are (link ∷ links) bytes gathers =
      let own = own_bytes link gathers.0 gathers.3 gathers.4 in
      let rest = gathers_are links gathers.1 gathers.5 in
      gathers.2 ∙ (λ i. own i ++ rest i)

  -- a chain that was followed is whole with the bytes of its pages
  pub whole_joined : (count : ℕ) (reached : List Bool) (head : ℕ) (stated : Option ℕ) (after : List Bool) (links : List Link) → IsUnbroken file count reached head stated after links
      → IsWhole file count reached head stated after (pages_of links) (joined file links)
  whole_joined count reached head stated after links is =
      read_unbroken file count reached head stated after links (pages_of links) (joined file links) is (gathers_joined links) refl

-- a page more: what was left is its piece and what is left now
pub steps_lend : (file : List ℕ) (old new : Chains) → StepsOn file old new → left_of file old ≡ piece_of new ++ left_of file new
steps_lend file old new steps = ap (joined file) steps.first ∙ ap (λ (xs : List ℕ). xs ++ left_of file new) (sym steps.piece)

-- what a read leaves in a buffer that it fills
pub left : (old new : List ℕ) (n : ℕ) → length new ≡ n → take n (new ++ drop (length new) old) ≡ new
left old new n long = take_at new (drop (length new) old) n long

-- what is said where a call fails, of a fact that holds anyway
pub on_err : {T E P : Type 0} (result : Result T E) → P → OnErr result P
on_err (Ok value) fact = tt
on_err (Err error) fact = fact

-- the links of the chain at a place, as far as they are left
each_fit_at : (count : ℕ) (all : List FollowedChain) (index : ℕ) → each_fits count all ≡ true → all_fit count (links_at all index) ≡ true
each_fit_at count [] index fit = refl
each_fit_at count (chain ∷ chains) zero fit = (and_parts (all_fit count chain.links.items) (each_fits count chains) fit).0
each_fit_at count (chain ∷ chains) (suc index) fit = each_fit_at count chains index (and_parts (all_fit count chain.links.items) (each_fits count chains) fit).1

fit_behind : (count passed : ℕ) (links : List Link) → all_fit count links ≡ true → all_fit count (drop passed links) ≡ true
fit_behind count zero links fit = fit
fit_behind count (suc passed) [] fit = fit
fit_behind count (suc passed) (link ∷ links) fit = fit_behind count passed links (fit_first count link links fit).2

pub fit_left : (count : ℕ) (all : List FollowedChain) (index passed : ℕ) (link : Link) (rest : List Link) → each_fits count all ≡ true → drop passed (links_at all index) ≡ link ∷ rest
    → (link.page < count) × (link.used < 4087)
fit_left count all index passed link rest fit is =
    let left = fit_behind count passed (links_at all index) (each_fit_at count all index fit) in
    let first = fit_first count link rest (subst (λ (ls : List Link). all_fit count ls ≡ true) is left) in
    (first.0, first.1)

-- the links of a chain that is there, and past the last chain none
pub links_there : (all : List FollowedChain) (index : ℕ) (chain : FollowedChain) → index < length all → chain ≡ get_or all index chain → links_at all index ≡ chain.links.items
links_there [] index chain within is = absurd (omega arith)
links_there (first ∷ all) zero chain within is = ap (λ (c : FollowedChain). c.links.items) (sym is)
links_there (first ∷ all) (suc index) chain within is = links_there all index chain (omega (arith, within)) is

pub links_past : (all : List FollowedChain) (index : ℕ) → length all ≤ index → links_at all index ≡ []
links_past [] index past = refl
links_past (first ∷ all) zero past = absurd (omega (arith, past))
links_past (first ∷ all) (suc index) past = links_past all index (omega (arith, past))

-- what is marked stays so, and the page that is marked too is
stays_marked : (reached : List Bool) (first page : ℕ) → first < length reached → IsMarked reached page → IsMarked (marked reached first) page
stays_marked reached first page within is = elim (cases_eq page first) [
  | inl same ↦ subst (λ (p : ℕ). IsMarked (marked reached first) p) (sym same) (get_or-set_same reached first true false within)
  | inr differs ↦ get_or-set_other reached first page true false differs ∙ is
]

-- no page among these is the same as another, or was reached before
abbrev AreOnce : List Bool → List ℕ → Type 0
AreOnce reached pages = AllApart pages × ((page : ℕ) → IsMarked reached page → IsIn page pages → ⊥)

once_more : (reached : List Bool) (first : ℕ) (pages : List ℕ) → first < length reached → (IsMarked reached first → ⊥) → AreOnce (marked reached first) pages → AreOnce reached (first ∷ pages)
once_more reached first pages within new rest = ((rest.1 first (get_or-set_same reached first true false within), rest.0), before)
  where
    before : (page : ℕ) → IsMarked reached page → IsIn page (first ∷ pages) → ⊥
    before page is (inl same) = new (subst (λ (p : ℕ). IsMarked reached p) same is)
    before page is (inr later) = rest.1 page (stays_marked reached first page within is) later

-- so are the pages of a chain that was followed to its end
pub apart_walk : (file : List ℕ) (count : ℕ) (reached : List Bool) (head : ℕ) (pages : List ℕ) → count ≤ length reached → Walk file count reached head pages None → AreOnce reached pages
apart_walk file count reached head [] fits walk = (tt, λ page is inside. absurd inside)
apart_walk file count reached head (first ∷ pages) fits walk =
    once_more reached first pages (omega (arith, fits, walk.1.1)) walk.2
    (elim walk.3 [
      | inl ends ↦ subst (λ (ps : List ℕ). AreOnce (marked reached first) ps) (sym ends.1) (tt, λ page is inside. absurd inside)
      | inr goes ↦ apart_walk file count (marked reached first) (next_of file first) pages (omega (arith, fits, length-set reached first true)) goes.1
    ])

-- where a page of chains that fit ends past a file, that is shorter than its page count
pub read_past : (P : Type 0) {T : Type 0} (result : Result T Fault) (fault : OfPages) (len count : ℕ) (links : List Link) → result ≡ Err (of_pages fault) → OnPagesFault {T = Unit {0}} (Err fault) (P → EndsPast len links) → all_fit count links ≡ true
    → OnDeviceFault result (P → len < 4096 * count)
read_past P {T} result fault len count links is given fit = subst (λ (r : Result T Fault). OnDeviceFault r (P → len < 4096 * count)) (sym is) (by_fault fault given)
  where
    by_fault : (fault : OfPages) → OnPagesFault {T = Unit {0}} (Err fault) (P → EndsPast len links) → OnDeviceFault {T = T} (Err (of_pages fault)) (P → len < 4096 * count)
    by_fault FileFull past = tt
    by_fault HalfFull past = tt
    by_fault (Damaged damage) past = tt
    by_fault NotAStore past = tt
    by_fault (Disk cause) past = λ works. past_fit len count links fit (past works)
    by_fault OutOfMemory past = tt
