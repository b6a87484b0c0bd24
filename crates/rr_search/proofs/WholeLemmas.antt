-- The whole tree, and the fates at its nodes.
use Rattle.std.proofs.Common.{◌≡◌, ◌≢◌, ℕ, zero, suc, ◌+◌, ◌-◌, ◌*◌, ◌<◌, ◌≤◌, ◌==◌, ◌⊎◌, if◌then◌else◌, Bool, true, false, List, [], ◌∷◌, ◌++◌, length, leb, get_or, map, set, replicate, Vec, Global, refl, sym, ◌∙◌, ap, subst, inl, inr, arith}
use Rattle.std.specs.List.{range_with_len, sum_by}
use Rattle.std.specs.Bool.{Decides}
use Rattle.std.proofs.lemmas.Bool.{false≢true, cases_eq, cases_lt}
use Rattle.std.proofs.lemmas.Bool.Decides.{nat_tests, leb_tells}
use Rattle.std.proofs.lemmas.List.{get_or_past, get_or-replicate, length-replicate, get_or-set_same, get_or-set_other, length-set, get_or_append_left, get_or_push, length_push}
use Rattle.std.proofs.lemmas.List.Sums.{sum_by-cons, sum_by-append}
use Rattle.rr_routes.specs.declared.certificate.Fate.{Fate}
use Rattle.rr_routes.specs.declared.certificate.Fate.TheVariants.{Open, Denied, Of}
use Rattle.rr_routes.specs.declared.certificate.CertTree.{CertTree, Full, Split}
use Rattle.rr_routes.specs.Net.{Net}
use Rattle.rr_routes.specs.Routes.{Trip, Run, earned}
use Rattle.rr_routes.specs.Certificates.{fate_of, Keeps, choices, AcceptsUnder, node_count, all_open}
use Rattle.rr_routes.proofs.Children.{node_count-Split}
use Rattle.rr_routes.proofs.Fates.{SomeOf, Keeps-chosen}
use Rattle.rr_checker.specs.Choices.{choice_at}
use Rattle.rr_checker.proofs.StepLemmas.{yes, Decides-never}
use Rattle.rr_checker.proofs.JudgeLemmas.{split_all}
use Rattle.rr_search.specs.Whole.{whole_size, IsDecidedTo, IsMost, ShowsFrom}

pub whole_size-none : (trains : ℕ) → whole_size trains 0 ≡ 1
unfolding whole_size
whole_size-none trains = refl

pub whole_size-next : (trains links : ℕ) → whole_size trains (links + 1) ≡ whole_size trains links * (trains + 1) + 1
unfolding whole_size
whole_size-next trains links = let next : links + 1 ≡ suc links = omega arith in rw next refl

grows_once : (trains links : ℕ) → whole_size trains links ≤ whole_size trains (links + 1)
grows_once trains links = let next = whole_size-next trains links in omega (arith, next)

grows_by : (trains links more : ℕ) → whole_size trains links ≤ whole_size trains (links + more)
grows_by trains links zero = let same : links + 0 ≡ links = omega arith in rw same (omega arith)
grows_by trains links (suc more) =
    let next : links + suc more ≡ links + more + 1 = omega arith in
    let before = grows_by trains links more in
    let once = grows_once trains (links + more) in
    rw next (omega (arith, before, once))

pub whole_size-grows : (trains links further : ℕ) → links ≤ further → whole_size trains links ≤ whole_size trains further
whole_size-grows trains links further less =
    let same : links + (further - links) ≡ further = omega arith in
    subst (λ n. whole_size trains links ≤ whole_size trains n) same (grows_by trains links (further - links))

choice_at-first : choice_at 0 ≡ Denied
choice_at-first = refl

choice_at-suc : (t : ℕ) → choice_at (suc t) ≡ Of t
choice_at-suc t =
    let test : (suc t == 0) ≡ false = grind (arith, nat_tests) in
    let less : suc t - 1 ≡ t = omega arith in
    rw (test, less) refl

-- a choice decides the link, and is of a train of the net
choice_decided : (place : ℕ) → choice_at place ≢ Open
choice_decided zero is = cc
choice_decided (suc t) is = let f : Of t ≡ Open = sym (choice_at-suc t) ∙ is in cc

choice_owned : (place trains train : ℕ) → place < trains + 1 → choice_at place ≡ Of train → train < trains
choice_owned zero trains train less is = cc
choice_owned (suc t) trains train less is =
    let f : Of t ≡ Of train = sym (choice_at-suc t) ∙ is in
    let same : t ≡ train = cc in omega arith

module _ (net : Net) (fates : List Fate) where
  pub decided_none : fates ≡ all_open net → IsDecidedTo net fates 0
  decided_none is = subst (λ fs. IsDecidedTo net fs 0) (sym is) (record {
    as_long = length-replicate (length net.links) Open;
    decided = λ link less. absurd (omega arith);
    owned = λ link train owned. elim (cases_lt link (length net.links)) [
      | inl inside ↦ let opened : fate_of (all_open net) link ≡ Open = get_or-replicate (length net.links) link Open Denied inside in cc
      | inr past ↦ let denied : fate_of (all_open net) link ≡ Denied = get_or_past (all_open net) link Denied (omega (arith, length-replicate (length net.links) Open)) in cc
    ];
    opened = λ link low inside. get_or-replicate (length net.links) link Open Denied inside;
  })

  pub decided_all : IsDecidedTo net fates (length net.links) → (link : ℕ) → fate_of fates link ≢ Open
  decided_all d link is =
      elim (cases_lt link (length net.links)) [
        | inl inside ↦ d.decided link inside is
        | inr past ↦ let denied : fate_of fates link ≡ Denied = get_or_past fates link Denied (omega (arith, d.as_long)) in cc
      ]

  module _ (link : ℕ) (d : IsDecidedTo net fates link) (inside : link < length net.links) where
    pub next_open : fate_of fates link ≡ Open
    next_open = d.opened link (omega arith) inside

    in_fates : link < length fates
    in_fates = let same = d.as_long in omega (arith, same)

    here : (choice : Fate) (other : ℕ) → other ≡ link → fate_of (set fates link choice) other ≡ choice
    here choice other same = ap (fate_of (set fates link choice)) same ∙ get_or-set_same fates link choice Denied in_fates

    beside : (choice : Fate) (other : ℕ) → (other ≡ link → ⊥) → fate_of (set fates link choice) other ≡ fate_of fates other
    beside choice other differ = get_or-set_other fates link other choice Denied differ

    pub decided_next : (place : ℕ) → place < length net.trains + 1 → IsDecidedTo net (set fates link (choice_at place)) (link + 1)
    decided_next place less = record {
      as_long = length-set fates link (choice_at place) ∙ d.as_long;
      decided = λ other below is. elim (cases_eq other link) [
        | inl same ↦ choice_decided place (sym (here (choice_at place) other same) ∙ is)
        | inr differ ↦ d.decided other (omega arith) (sym (beside (choice_at place) other differ) ∙ is)
      ];
      owned = λ other train owned. elim (cases_eq other link) [
        | inl same ↦ choice_owned place (length net.trains) train less (sym (here (choice_at place) other same) ∙ owned)
        | inr differ ↦ d.owned other train (sym (beside (choice_at place) other differ) ∙ owned)
      ];
      opened = λ other low within. elim (cases_eq other link) [
        | inl same ↦ absurd (omega arith)
        | inr differ ↦ beside (choice_at place) other differ ∙ d.opened other (omega arith) within
      ];
    }

-- a full leaf stands where every link is decided
pub shows_full : (net : Net) (link : ℕ) → link ≡ length net.links → ShowsFrom net link Full
shows_full net link same claim fates d most = record {
  decided = decided_all net fates (subst (λ n. IsDecidedTo net fates n) same d);
  most = λ run is_run keeps. most run is_run;
}

pub shows_split : (net : Net) (link : ℕ) (children : Vec CertTree Global) → link < length net.links → length children.items ≡ length net.trains + 1
    → ((k : ℕ) (d : CertTree) → k < length children.items → ShowsFrom net (link + 1) (get_or children.items k d)) → ShowsFrom net link (Split link children)
shows_split net link children inside same each claim fates d most =
    yes (split_all net claim fates link children (next_open net fates link d inside) same
    (λ k dflt less. each k dflt less claim (set fates link (choice_at k)) (decided_next net fates link d inside k (omega (arith, less, same))) most)) refl

pub counted_split : (trains link links : ℕ) (children : Vec CertTree Global) → link < links → sum_by node_count children.items ≡ (trains + 1) * whole_size trains (links - (link + 1))
    → node_count (Split link children) ≡ whole_size trains (links - link)
counted_split trains link links children inside sum =
    let left : links - link ≡ links - (link + 1) + 1 = omega arith in
    let next = whole_size-next trains (links - (link + 1)) in
    let nodes = node_count-Split link children in
    rw left (omega (arith, sum, next, nodes))

-- one of the choices that hold is at a place
place_of_train : (P : Fate → Type 0) (first count : ℕ) → SomeOf P (map Of (range_with_len first count)) → (t : ℕ) × (t < count) × P (Of (first + t))
place_of_train P first zero some = absurd some
place_of_train P first (suc count) (inl holds) =
    let same : first ≡ first + 0 = omega arith in (0, omega arith, subst (λ t. P (Of t)) same holds)
place_of_train P first (suc count) (inr later) =
    let rest = place_of_train P (first + 1) count later in
    let same : first + 1 + rest.0 ≡ first + suc rest.0 = omega arith in
    (suc rest.0, omega (arith, rest.1), subst (λ t. P (Of t)) same rest.2)

place_of_choice : (P : Fate → Type 0) (net : Net) → SomeOf P (choices net) → (k : ℕ) × (k < length net.trains + 1) × P (choice_at k)
place_of_choice P net (inl holds) = (0, omega arith, holds)
place_of_choice P net (inr later) =
    let found = place_of_train P 0 (length net.trains) later in
    let same : 0 + found.0 ≡ found.0 = omega arith in
    (suc found.0, omega (arith, found.1), subst P (ap Of same ∙ sym (choice_at-suc found.0)) found.2)

-- a run that keeps the fates keeps one of the choices of an open link
pub kept_choice : (net : Net) (run : List Trip) → Run net run → (fates : List Fate) → Keeps fates run → (link : ℕ) → fate_of fates link ≡ Open
    → (k : ℕ) × (k < length net.trains + 1) × Keeps (set fates link (choice_at k)) run
kept_choice net run is_run fates keeps link opened =
    place_of_choice (λ choice. Keeps (set fates link choice) run) net (Keeps-chosen net run is_run fates keeps link opened)

Decides-leb : (a b : ℕ) → Decides (leb a b) (a ≤ b)
Decides-leb a b =
    elim (leb_tells a b) [
      | inl h ↦ (λ e. h.1, λ less. h.0)
      | inr h ↦ (λ e. absurd (false≢true (sym h.0 ∙ e)), λ less. absurd (omega arith))
    ]

-- whether it fits
pub fits_not : (trains link links limit size : ℕ) → size ≡ whole_size trains link → link ≤ links → limit < size → Decides false (whole_size trains links ≤ limit)
fits_not trains link links limit size is less more =
    Decides-never (λ fits. let grows = whole_size-grows trains link links less in omega (arith, is, grows, fits, more))

pub fits_tested : (trains link links limit size : ℕ) → size ≡ whole_size trains link → link ≡ links → Decides (leb size limit) (whole_size trains links ≤ limit)
fits_tested trains link links limit size is same =
    let now : size ≡ whole_size trains links = is ∙ ap (whole_size trains) same in
    subst (λ n. Decides (leb size limit) (n ≤ limit)) now (Decides-leb size limit)

-- one more child
pub shown_next : (net : Net) (link : ℕ) (children new : List CertTree) (child : CertTree) → new ≡ children ++ child ∷ [] → ShowsFrom net link child
    → ((k : ℕ) (d : CertTree) → k < length children → ShowsFrom net link (get_or children k d)) → (k : ℕ) (d : CertTree) → k < length new → ShowsFrom net link (get_or new k d)
shown_next net link children new child pushed shows each k d less =
    let many = length_push children child in
    let within : k < length (children ++ child ∷ []) = subst (λ (xs : List CertTree). k < length xs) pushed less in
    subst (λ (xs : List CertTree). ShowsFrom net link (get_or xs k d)) (sym pushed) (elim (cases_lt k (length children)) [
      | inl before ↦ subst (λ tree. ShowsFrom net link tree) (sym (get_or_append_left children (child ∷ []) d k before)) (each k d before)
      | inr past ↦
          let last : length children ≡ k = omega (arith, many, within, past) in
          subst (λ tree. ShowsFrom net link tree) (sym (get_or_push children child d k last)) shows
    ])

pub counted_next : (children new : List CertTree) (child : CertTree) (count size : ℕ) → new ≡ children ++ child ∷ [] → node_count child ≡ size
    → sum_by node_count children ≡ count * size → sum_by node_count new ≡ (count + 1) * size
counted_next children new child count size pushed is so_far =
    let both = sum_by-append node_count children (child ∷ []) in
    let one = sum_by-cons node_count child [] in
    let all = ap (sum_by node_count) pushed in
    omega (arith, both, one, all, is, so_far)
