-- The cases of a split, one after the other.
use Rattle.std.proofs.Common.{◌≡◌, ◌≢◌, ℕ, zero, suc, ◌+◌, ◌-◌, ◌<◌, ◌≤◌, ◌==◌, Bool, true, false, List, [], ◌∷◌, length, get_or, map, set, Vec, Global, refl, sym, ◌∙◌, ap, subst, inl, inr, arith}
use Rattle.std.specs.Bool.{Decides}
use Rattle.std.specs.List.{AllZip, range_with_len, sum_by}
use Rattle.std.proofs.lemmas.Bool.{cases_eq, cases_lt}
use Rattle.std.proofs.lemmas.Bool.Decides.{nat_tests, Decides-like}
use Rattle.std.proofs.lemmas.List.{get_or_default, get_or_past, set-get_or}
use Rattle.std.proofs.lemmas.List.Sums.{get_or-le-sum_by}
use Rattle.rr_routes.specs.declared.certificate.Fate.{Fate}
use Rattle.rr_routes.specs.declared.certificate.Fate.TheVariants.{Open, Denied, Of}
use Rattle.rr_routes.specs.declared.certificate.CertTree.{CertTree, Split}
use Rattle.rr_routes.specs.declared.certificate.TheConstants.{MOST_NODES}
use Rattle.rr_routes.specs.Net.{Net}
use Rattle.rr_routes.specs.Certificates.{fate_of, choices, AcceptsUnder, node_count, all_open, Accepts}
use Rattle.rr_routes.proofs.Children.{AcceptsUnder-Split, AcceptsChild, node_count-Split}
use Rattle.rr_checker.specs.Choices.{choice_at}
use Rattle.rr_checker.proofs.StepLemmas.{yes, no, Decides-never, Decides-always}

pub choice_at-suc : (t : ℕ) → choice_at (suc t) ≡ Of t
choice_at-suc t =
    let test : (suc t == 0) ≡ false = grind (arith, nat_tests) in
    let less : suc t - 1 ≡ t = omega arith in
    rw (test, less) refl

-- an open link is one of those that have a fate
pub open_inside : (fates : List Fate) (link : ℕ) → fate_of fates link ≡ Open → link < length fates
open_inside fates link opened =
    elim (cases_lt link (length fates)) [
      | inl inside ↦ inside
      | inr past ↦ let denied : fate_of fates link ≡ Denied = get_or_past fates link Denied past in cc
    ]

pub set_back : (fates : List Fate) (link : ℕ) → fate_of fates link ≡ Open → set fates link Open ≡ fates
set_back fates link opened = ap (λ (fate : Fate). set fates link fate) (sym opened) ∙ set-get_or fates link Denied

module _ (R : Fate → CertTree → Type 0) where
  zip_trains : (first count : ℕ) (items : List CertTree) → length items ≡ count → ((k : ℕ) (d : CertTree) → k < count → R (Of (first + k)) (get_or items k d))
      → AllZip R (map Of (range_with_len first count)) items
  zip_trains first zero [] same each = tt
  zip_trains first zero (item ∷ items) same each = absurd (omega arith)
  zip_trains first (suc count) [] same each = absurd (omega arith)
  zip_trains first (suc count) (item ∷ items) same each =
      let here : first + 0 ≡ first = omega arith in (
        subst (λ t. R (Of t) item) here (each 0 item (omega arith)),
        zip_trains (first + 1) count items (omega arith) (λ k d less.
            let next : first + suc k ≡ first + 1 + k = omega arith in
            subst (λ t. R (Of t) (get_or items k d)) next (each (suc k) d (omega arith))),
      )

  trains_zipped : (first count : ℕ) (items : List CertTree) → AllZip R (map Of (range_with_len first count)) items
      → (length items ≡ count) × ((k : ℕ) (d : CertTree) → k < count → R (Of (first + k)) (get_or items k d))
  trains_zipped first zero [] zipped = (refl, λ k d less. absurd (omega arith))
  trains_zipped first zero (item ∷ items) zipped = absurd zipped
  trains_zipped first (suc count) [] zipped = absurd zipped
  trains_zipped first (suc count) (item ∷ items) zipped =
      let rest = trains_zipped (first + 1) count items zipped.1 in
      (omega (arith, rest.0), at item items zipped.0 rest.1)
    where
      at : (one : CertTree) (others : List CertTree) → R (Of first) one → ((k : ℕ) (d : CertTree) → k < count → R (Of (first + 1 + k)) (get_or others k d))
          → (k : ℕ) (d : CertTree) → k < suc count → R (Of (first + k)) (get_or (one ∷ others) k d)
      at one others here later zero d less = let same : first ≡ first + 0 = omega arith in subst (λ t. R (Of t) one) same here
      at one others here later (suc k) d less =
          let next : first + 1 + k ≡ first + suc k = omega arith in subst (λ t. R (Of t) (get_or others k d)) next (later k d (omega arith))

  zip_choices : (net : Net) (items : List CertTree) → length items ≡ length net.trains + 1 → ((k : ℕ) (d : CertTree) → k < length items → R (choice_at k) (get_or items k d))
      → AllZip R (choices net) items
  zip_choices net [] same each = absurd (omega arith)
  zip_choices net (item ∷ items) same each = (
    each 0 item (omega arith),
    zip_trains 0 (length net.trains) items (omega arith) (λ k d less.
        let same_train : 0 + k ≡ k = omega arith in
        subst (λ fate. R fate (get_or items k d)) (choice_at-suc k ∙ ap Of (sym same_train)) (each (suc k) d (omega (arith, less, same)))),
  )

  choices_zipped : (net : Net) (items : List CertTree) → AllZip R (choices net) items
      → (length items ≡ length net.trains + 1) × ((k : ℕ) (d : CertTree) → k < length items → R (choice_at k) (get_or items k d))
  choices_zipped net [] zipped = absurd zipped
  choices_zipped net (item ∷ items) zipped =
      let rest = trains_zipped 0 (length net.trains) items zipped.1 in
      (omega (arith, rest.0), at item items zipped.0 rest.0 rest.1)
    where
      at : (one : CertTree) (others : List CertTree) → R Denied one → length others ≡ length net.trains
          → ((k : ℕ) (d : CertTree) → k < length net.trains → R (Of (0 + k)) (get_or others k d)) → (k : ℕ) (d : CertTree) → k < length (one ∷ others) → R (choice_at k) (get_or (one ∷ others) k d)
      at one others here same later zero d less = here
      at one others here same later (suc k) d less =
          let same_train : 0 + k ≡ k = omega arith in
          subst (λ fate. R fate (get_or others k d)) (sym (choice_at-suc k ∙ ap Of (sym same_train))) (later k d (omega (arith, less, same)))

module _ (net : Net) (claim : ℕ) (fates : List Fate) (link : ℕ) (children : Vec CertTree Global) where
  pub split_closed : (fate_of fates link ≡ Open → ⊥) → Decides false (AcceptsUnder net claim fates (Split link children))
  split_closed closed = Decides-never (λ a. closed ((AcceptsUnder-Split net claim fates link children).0 a).0)

  pub split_count : (length children.items ≢ length net.trains + 1) → Decides false (AcceptsUnder net claim fates (Split link children))
  split_count differ =
      Decides-never (λ a. differ (choices_zipped (AcceptsChild net claim fates link) net children.items ((AcceptsUnder-Split net claim fates link children).0 a).1).0)

  pub split_child : (k : ℕ) (d : CertTree) → k < length children.items → (AcceptsUnder net claim (set fates link (choice_at k)) (get_or children.items k d) → ⊥)
      → Decides false (AcceptsUnder net claim fates (Split link children))
  split_child k d less refused =
      Decides-never (λ a. refused ((choices_zipped (AcceptsChild net claim fates link) net children.items ((AcceptsUnder-Split net claim fates link children).0 a).1).1 k d less))

  pub split_all : fate_of fates link ≡ Open → length children.items ≡ length net.trains + 1
      → ((k : ℕ) (d : CertTree) → k < length children.items → AcceptsUnder net claim (set fates link (choice_at k)) (get_or children.items k d))
      → Decides true (AcceptsUnder net claim fates (Split link children))
  split_all opened same each =
      Decides-always ((AcceptsUnder-Split net claim fates link children).1 (opened, zip_choices (AcceptsChild net claim fates link) net children.items same each))

module _ (net : Net) (claim : ℕ) (fates : List Fate) (link : ℕ) (children : Vec CertTree Global) (items : List CertTree) (all : items ≡ children.items) where
  -- a child that isn't accepted
  pub child_refused : (now : List Fate) (place : ℕ) (child : CertTree) (shown : Bool) → place < length items → child ≡ get_or items place child
      → now ≡ set fates link (choice_at place) → Decides shown (AcceptsUnder net claim now child) → shown ≡ false
      → Decides false (AcceptsUnder net claim fates (Split link children))
  child_refused now place child shown less here set_now d fails =
      split_child net claim fates link children place child (subst (λ xs. place < length xs) all less)
      (λ a. no d fails (rw set_now (subst (λ tree. AcceptsUnder net claim (set fates link (choice_at place)) tree)
      (sym (here ∙ ap (λ (xs : List CertTree). get_or xs place child) all)) a)))

  -- the children so far, with one more
  pub child_accepted : (now : List Fate) (place : ℕ) (child : CertTree) (shown : Bool) → place < length items → child ≡ get_or items place child
      → now ≡ set fates link (choice_at place) → Decides shown (AcceptsUnder net claim now child) → shown ≡ true
      → ((k : ℕ) (d : CertTree) → k < place → AcceptsUnder net claim (set fates link (choice_at k)) (get_or items k d))
      → (k : ℕ) (d : CertTree) → k < place + 1 → AcceptsUnder net claim (set fates link (choice_at k)) (get_or items k d)
  child_accepted now place child shown less here set_now d passes before k dflt most =
      elim (cases_eq k place) [
        | inl same ↦ rw same (subst (λ tree. AcceptsUnder net claim (set fates link (choice_at place)) tree)
            (here ∙ get_or_default items place child dflt less) (rw set_now at (yes d passes)))
        | inr differ ↦ before k dflt (omega arith)
      ]

  -- all children
  pub children_accepted : (place : ℕ) → length items ≤ place → fate_of fates link ≡ Open → length items ≡ length net.trains + 1
      → ((k : ℕ) (d : CertTree) → k < place → AcceptsUnder net claim (set fates link (choice_at k)) (get_or items k d))
      → Decides true (AcceptsUnder net claim fates (Split link children))
  children_accepted place most opened same each =
      split_all net claim fates link children opened (subst (λ (xs : List CertTree). length xs ≡ length net.trains + 1) all same)
      (λ k d less. subst (λ (xs : List CertTree). AcceptsUnder net claim (set fates link (choice_at k)) (get_or xs k d)) all
      (each k d (omega (arith, less, most, ap (λ (xs : List CertTree). length xs) all))))

pub too_large : (net : Net) (claim : ℕ) (tree : CertTree) → MOST_NODES < node_count tree → Decides false (Accepts net claim tree)
too_large net claim tree more = Decides-never (λ a. let most = a.small in omega (arith, more, most))

pub judged : (net : Net) (claim : ℕ) (tree : CertTree) (fates : List Fate) (shown : Bool) → node_count tree ≤ MOST_NODES → fates ≡ all_open net
    → Decides shown (AcceptsUnder net claim fates tree) → Decides shown (Accepts net claim tree)
judged net claim tree fates shown small none_decided d =
    Decides-like shown (λ a. record { small = small; shown = subst (λ fs. AcceptsUnder net claim fs tree) none_decided a })
    (λ a. subst (λ fs. AcceptsUnder net claim fs tree) (sym none_decided) a.shown) d

-- a child has fewer nodes than the split
pub child_fewer : (tree : CertTree) (link : ℕ) (children : Vec CertTree Global) (items : List CertTree) (place : ℕ) (child : CertTree)
    → tree ≡ Split link children → items ≡ children.items → place < length items → child ≡ get_or items place child → node_count child < node_count tree
child_fewer tree link children items place child is all less here =
    let counted : node_count tree ≡ 1 + sum_by node_count children.items = ap (λ (t : CertTree). node_count t) is ∙ node_count-Split link children in
    let sums : sum_by node_count items ≡ sum_by node_count children.items = ap (λ (xs : List CertTree). sum_by node_count xs) all in
    let one : node_count child ≡ node_count (get_or items place child) = ap (λ (t : CertTree). node_count t) here in
    omega (arith, counted, sums, one, get_or-le-sum_by node_count items place child less)
