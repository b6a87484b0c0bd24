-- How many bytes the command of a legal sheet with an accepted certificate has.
use Rattle.std.proofs.Common.{◌≡◌, ◌≢◌, ℕ, zero, suc, ◌+◌, ◌*◌, ◌^◌, ◌<◌, ◌≤◌, ◌⊎◌, Some, List, [], ◌∷◌, ◌++◌, length, length-append, map, set, refl, sym, ap, subst, ◌∙◌, inl, inr, arith, Result, Ok}
use Rattle.std.specs.Prelude.{codes, decimal}
use Rattle.std.specs.List.{Contains, flat_map, join_with_byte, range_with_len, slice_get, sum_by}
use Rattle.std.proofs.lemmas.Bool.{cases_eq, cases_lt}
use Rattle.std.proofs.lemmas.Fmt.{length-decimal-le}
use Rattle.std.proofs.lemmas.List.{get_or_past, length-replicate, length-set}
use Rattle.std.proofs.lemmas.List.Elements.{Contains-append_cases}
use Rattle.std.proofs.lemmas.List.FromFn.{get_or-range_with_len, length-map-range_with_len, length-range_with_len}
use Rattle.std.proofs.lemmas.List.Sums.{sum_by-append, sum_by-cons}
use Rattle.rr_orders.specs.Order.{text}
use Rattle.rr_orders.specs.Texts.{added}
use Rattle.rr_orders.specs.declared.order.Order.TheVariants.{Run as RunOf, RunBest}
use Rattle.rr_orders.proofs.WrittenLemmas.{best-written, run-written}
use Rattle.rr_roster.specs.Company.{corp_name, kind_name}
use Rattle.rr_roster.specs.declared.company.Corp.{Corp}
use Rattle.rr_roster.specs.declared.company.Corp.TheVariants as C
use Rattle.rr_roster.specs.declared.company.Kind.{Kind}
use Rattle.rr_roster.specs.declared.company.Kind.TheVariants as K
use Rattle.rr_routes.specs.declared.certificate.TheConstants.{MOST_NODES}
use Rattle.rr_routes.specs.declared.certificate.CertTree.{CertTree, Bound, Bad, Full, Split', Row_of-CertTree, end_of-CertTree, more_of-CertTree}
use Rattle.rr_routes.specs.declared.certificate.Fate.{Fate}
use Rattle.rr_routes.specs.declared.certificate.Fate.TheVariants.{Open, Denied, Of}
use Rattle.rr_routes.specs.declared.net.Node.{Node}
use Rattle.rr_routes.specs.declared.net.Node.TheVariants.{Hexside}
use Rattle.rr_routes.specs.declared.sheets.sheet.TrainWord.{TrainWord}
use Rattle.rr_routes.specs.declared.sheets.word.CertWord.{CertWord}
use Rattle.rr_routes.specs.declared.sheets.word.CertWord.TheVariants as W
use Rattle.rr_routes.specs.Net.{Net, Touches}
use Rattle.rr_routes.specs.Routes.{Apart, NoneTwice, Run, Trip, Walk, one_link, goes_on, trip_of}
use Rattle.rr_routes.specs.Certificates.{AcceptsEach, AcceptsUnder, all_open, choices, fate_of, node_count, row_count}
use Rattle.rr_routes.specs.Sheets.Certificate.{certificate_text, word_text, words_of, words_of_row}
use Rattle.rr_routes.specs.Sheets.Sheet.{links_text, text_of, train_text}
use Rattle.rr_routes.proofs.Elements.{Contains-here, Contains-nil, Contains-there, length_within, sum_by-map}
use Rattle.rr_routes.proofs.Walks.{Joins-at_from, Walk-Joins, Walk-in_net, Walk-touched}
use Rattle.rr_search.specs.BestRun.Lengths.{ElevenLinksNeverLack, FewLinksFit, HasFewLinks, OnlyLargeTreesLack}
use Rattle.rr_search.specs.BestRun.Worded.{HasLargeTree, HasLongRun, MayLackRun, command_text}
use Rattle.rr_search.specs.Whole.{whole_size}

-- a text, and the byte that stands before it or behind it
abbrev sized : List ℕ → ℕ
sized word = length word + 1

-- joined words have a byte between each two
joined_length : (byte : ℕ) (word : List ℕ) (words : List (List ℕ)) → length (join_with_byte byte (word ∷ words)) + 1 ≡ sum_by sized (word ∷ words)
joined_length byte word [] = let whole = sum_by-cons sized word [] in omega (arith, whole)
joined_length byte word (next ∷ words) =
    let more = joined_length byte next words in
    let whole = sum_by-cons sized word (next ∷ words) in
    let put = length-append word (byte ∷ join_with_byte byte (next ∷ words)) in
    omega (arith, more, whole, put)

added_length : (words : List ℕ) → length (added words) ≤ length words + 1
added_length [] = omega arith
added_length (c ∷ rest) = omega arith

four_digits : (n : ℕ) → n < 10000 → length (decimal n) ≤ 4
four_digits n small = length-decimal-le 4 n (omega arith) small (omega (arith, small))

one_digit : (n : ℕ) → n < 10 → length (decimal n) ≤ 1
one_digit n small = length-decimal-le 1 n (omega arith) small (omega (arith, small))

-- the links of a sheet

NoneTwice-append : {X : Type 0} (xs ys : List X) → NoneTwice xs → NoneTwice ys → ((x : X) → Contains xs x → Contains ys x → ⊥) → NoneTwice (xs ++ ys)
NoneTwice-append [] ys first second apart = second
NoneTwice-append (x ∷ xs) ys first second apart = (
  λ c. elim (Contains-append_cases xs ys x c) [ inl before ↦ first.0 before | inr behind ↦ apart x (Contains-here x xs) behind ],
  NoneTwice-append xs ys first.1 second (λ y c d. apart y (Contains-there x xs y c) d),
)

-- the links of trips, one trip behind another
abbrev all_links : List Trip → List ℕ
all_links run = flat_map (λ (trip : Trip). trip.links) run

no_links : (run : List Trip) → length run ≡ 0 → length (all_links run) ≡ 0
no_links [] none = refl
no_links (trip ∷ run) none = absurd (omega (arith, none))

-- each of them is of a trip
trip_with : (run : List Trip) (link : ℕ) → Contains (all_links run) link → (train : ℕ) × Contains (trip_of run train).links link
trip_with [] link c = absurd (Contains-nil link c)
trip_with (trip ∷ run) link c =
    elim (Contains-append_cases trip.links (all_links run) link c) [
      | inl here ↦ (0, here)
      | inr later ↦ let at = trip_with run link later in (suc at.0, at.1)
    ]

abbrev AreOnce : List Trip → Type 0
AreOnce run = (train : ℕ) → NoneTwice (trip_of run train).links

abbrev AreLinksApart : List Trip → Type 0
AreLinksApart run = (one other : ℕ) → one ≢ other → (link : ℕ) → Contains (trip_of run one).links link → Contains (trip_of run other).links link → ⊥

all_once : (run : List Trip) → AreOnce run → AreLinksApart run → NoneTwice (all_links run)
all_once [] once apart = tt
all_once (trip ∷ run) once apart =
    NoneTwice-append trip.links (all_links run) (once 0)
    (all_once run (λ train. once (suc train)) (λ one other differ. apart (suc one) (suc other) (λ same. differ (omega (arith, same)))))
    (λ link c d. let at = trip_with run link d in apart 0 (suc at.0) (λ same. omega (arith, same)) link c at.1)

module _ (net : Net) where
  -- a path goes over no link twice
  path_links : {links : List ℕ} {nodes : List Node} → Walk net links nodes → NoneTwice nodes → NoneTwice links
  path_links (one_link link from to joins) none = (Contains-nil link, tt)
  path_links (goes_on link next links from to nodes joins passes rest) none = (
    λ c. none.0 (Walk-touched net rest link from c (Joins-at_from net link from to joins)),
    path_links rest none.1,
  )

  -- two walks without a common hexside have no common link
  walks_apart : (one other : Trip) → Walk net one.links one.nodes → Walk net other.links other.nodes → Apart one other → (link : ℕ)
      → Contains one.links link → Contains other.links link → ⊥
  walks_apart one other first second apart link c d =
      let joins = (Walk-Joins net first link c).2 in
      let side : ℕ = joins.0.side in
      let touches : Touches net link (Hexside side) = (joins.0, joins.1, inl refl) in
      apart side (Walk-touched net first link (Hexside side) c touches) (Walk-touched net second link (Hexside side) d touches)

  module _ (run : List Trip) (is_run : Run net run) where
    trips_once : AreOnce run
    trips_once train =
        elim (is_run.lawful train) [
          | inl none ↦ subst (λ (trip : Trip). NoneTwice trip.links) (sym none) tt
          | inr route ↦ path_links route.path.0 route.path.1
        ]

    trips_apart : AreLinksApart run
    trips_apart one other differ link c d =
        elim (is_run.lawful one) [
          | inl none ↦ Contains-nil link (subst (λ (trip : Trip). Contains trip.links link) none c)
          | inr first ↦ elim (is_run.lawful other) [
            | inl none ↦ Contains-nil link (subst (λ (trip : Trip). Contains trip.links link) none d)
            | inr second ↦ walks_apart (trip_of run one) (trip_of run other) first.path.0 second.path.0 (is_run.apart one other differ) link c d
          ]
        ]

    links_inside : (train link : ℕ) → Contains (trip_of run train).links link → link < length net.links
    links_inside train link c =
        elim (is_run.lawful train) [
          | inl none ↦ absurd (Contains-nil link (subst (λ (trip : Trip). Contains trip.links link) none c))
          | inr route ↦ Walk-in_net net route.path.0 link c
        ]

    -- so a run has no more links than the net
    few_links : length (all_links run) ≤ length net.links
    few_links =
        let count = length net.links in
        let counted = length-range_with_len 0 count in
        let within = length_within (all_links run) (range_with_len 0 count) (all_once run trips_once trips_apart) (λ link c.
        let at = trip_with run link c in
        let inside = links_inside at.0 link at.1 in
        let same : 0 + link ≡ link = omega arith in
        (link, omega (arith, counted, inside), get_or-range_with_len 0 count link link inside ∙ same)) in
        omega (arith, within, counted)

-- the words of a sheet

abbrev AreShort : List ℕ → Type 0
AreShort links = (link : ℕ) → Contains links link → suc link < 10000

numbers_length : (links : List ℕ) → AreShort links → sum_by sized (map decimal (map suc links)) ≤ 5 * length links
numbers_length [] short = omega arith
numbers_length (link ∷ links) short =
    let first = four_digits (suc link) (short link (Contains-here link links)) in
    let rest = numbers_length links (λ l c. short l (Contains-there link links l c)) in
    let whole = sum_by-cons sized (decimal (suc link)) (map decimal (map suc links)) in
    omega (arith, first, rest, whole)

links_length : (links : List ℕ) → AreShort links → length (links_text (map suc links)) ≤ 5 * length links + 1
links_length [] short = omega arith
links_length (link ∷ links) short =
    let joined = joined_length 45 (decimal (suc link)) (map decimal (map suc links)) in
    let numbers = numbers_length (link ∷ links) short in
    omega (arith, joined, numbers)

kind_length : (kind : Kind) → length (kind_name kind) ≡ 1
kind_length K.Two = refl
kind_length K.Three = refl
kind_length K.Four = refl
kind_length K.Five = refl
kind_length K.Six = refl
kind_length K.Diesel = refl

-- the word of a train, and the space before it
abbrev train_size : TrainWord → ℕ
train_size word = length (train_text word) + 1

train_length : (word : TrainWord) (links : List ℕ) → word.links ≡ map suc links → AreShort links → train_size word ≤ 5 * length links + 4
train_length word links numbers short =
    let named : length (links_text word.links) ≡ length (links_text (map suc links)) = ap (λ (ns : List ℕ). length (links_text ns)) numbers in
    let few = links_length links short in
    let kind = kind_length word.kind in
    let joined = length-append (kind_name word.kind) (61 ∷ links_text word.links) in
    omega (arith, named, few, kind, joined)

sheet_length : (sheet : List TrainWord) (run : List Trip) → length sheet ≡ length run
    → ((train : ℕ) (word : TrainWord) → slice_get sheet train ≡ Some word → word.links ≡ map suc (trip_of run train).links)
    → ((train : ℕ) → AreShort (trip_of run train).links) → sum_by train_size sheet ≤ 5 * length (all_links run) + 4 * length sheet
sheet_length [] run same numbers short = omega arith
sheet_length (word ∷ sheet) [] same numbers short = absurd (omega (arith, same))
sheet_length (word ∷ sheet) (trip ∷ run) same numbers short =
    let first = train_length word trip.links (numbers 0 word refl) (short 0) in
    let rest = sheet_length sheet run (omega (arith, same)) (λ train. numbers (suc train)) (λ train. short (suc train)) in
    let whole = sum_by-cons train_size word sheet in
    let links = length-append trip.links (all_links run) in
    omega (arith, first, rest, whole, links)

sheet_added : (sheet : List TrainWord) → length (added (text_of sheet)) ≤ sum_by train_size sheet
unfolding text_of
sheet_added [] = omega arith
sheet_added (word ∷ sheet) =
    let joined = joined_length 32 (train_text word) (map train_text sheet) in
    let same : sum_by sized (map train_text (word ∷ sheet)) ≡ sum_by train_size (word ∷ sheet) = sum_by-map sized train_text (word ∷ sheet) in
    let more = added_length (join_with_byte 32 (map train_text (word ∷ sheet))) in
    omega (arith, joined, same, more)

-- the words of a certificate

-- a word of a certificate, and the space before it
abbrev word_size : CertWord → ℕ
word_size word = length (word_text word) + 1

abbrev tree_size : CertTree → ℕ
tree_size tree = sum_by word_size (words_of tree)

tree_added : (tree : CertTree) → length (added (certificate_text tree)) ≤ tree_size tree
unfolding certificate_text
tree_added tree = words_added (words_of tree)
  where
    words_added : (words : List CertWord) → length (added (join_with_byte 32 (map word_text words))) ≤ sum_by word_size words
    words_added [] = omega arith
    words_added (word ∷ words) =
        let joined = joined_length 32 (word_text word) (map word_text words) in
        let same : sum_by sized (map word_text (word ∷ words)) ≡ sum_by word_size (word ∷ words) = sum_by-map sized word_text (word ∷ words) in
        let more = added_length (join_with_byte 32 (map word_text (word ∷ words))) in
        omega (arith, joined, same, more)

abbrev row_size : {m : _} → Row_of-CertTree m → ℕ
row_size row = sum_by word_size (words_of_row row)

module _ (net : Net) (claim : ℕ) (few : HasFewLinks net) where
  open_inside : (fates : List Fate) (link : ℕ) → length fates ≡ length net.links → fate_of fates link ≡ Open → link < length net.links
  open_inside fates link long opened =
      elim (cases_lt link (length net.links)) [
        | inl within ↦ within
        | inr past ↦ let denied : fate_of fates link ≡ Denied = get_or_past fates link Denied (omega (arith, long, past)) in cc
      ]

  split_size : (link : ℕ) → link < length net.links → word_size (W.Split (link + 1)) ≤ 6
  split_size link inside = let digits = four_digits (link + 1) (omega (arith, inside, few.together)) in omega (arith, digits)

  bad_size : (train : ℕ) → train < length net.trains → word_size (W.Bad (train + 1)) ≤ 3
  bad_size train inside = let digits = one_digit (train + 1) (omega (arith, inside, few.trains)) in omega (arith, digits)

  leaf_size : (word : CertWord) → sum_by word_size (word ∷ []) ≡ word_size word
  leaf_size word = let whole = sum_by-cons word_size word [] in omega (arith, whole)

  -- at most six bytes a node, and with trains fewer than five, since at most half of the nodes are splits
  mutual
    under_size : (fates : List Fate) (tree : CertTree) → length fates ≡ length net.links → AcceptsUnder net claim fates tree
        → (tree_size tree ≤ 6 * node_count tree) × (1 ≤ length net.trains → tree_size tree + 1 ≤ 5 * node_count tree)
    under_size fates Bound long accepted = let is = leaf_size W.Bound in (omega (arith, is), λ some. omega (arith, is))
    under_size fates (Bad train) long accepted =
        let is = leaf_size (W.Bad (train + 1)) in
        let bad = bad_size train accepted.0 in
        (omega (arith, is, bad), λ some. omega (arith, is, bad))
    under_size fates Full long accepted = let is = leaf_size W.Full in (omega (arith, is), λ some. omega (arith, is))
    under_size fates (Split' link shape row) long accepted =
        let first = split_size link (open_inside fates link long accepted.0) in
        let whole = sum_by-cons word_size (W.Split (link + 1)) (words_of_row row) in
        let rest = each_size fates link (choices net) row long accepted.1 in
        let rest_six = rest.0 in
        let counted = length-map-range_with_len Of 0 (length net.trains) in (
          omega (arith, first, whole, rest_six),
          λ some. let rest_five = rest.1 some in omega (arith, first, whole, rest_five, counted, some),
        )

    each_size : (fates : List Fate) (link : ℕ) (options : List Fate) {m : _} (row : Row_of-CertTree m) → length fates ≡ length net.links
        → AcceptsEach net claim fates link options row
        → (row_size row ≤ 6 * row_count row) × (1 ≤ length net.trains → row_size row + length options ≤ 5 * row_count row)
    each_size fates link [] end_of-CertTree long each = (omega arith, λ some. omega arith)
    each_size fates link [] (more_of-CertTree child children) long each = absurd each
    each_size fates link (choice ∷ options) end_of-CertTree long each = absurd each
    each_size fates link (choice ∷ options) (more_of-CertTree child children) long each =
        let first = under_size (set fates link choice) child (length-set fates link choice ∙ long) each.0 in
        let rest = each_size fates link options children long each.1 in
        let both = sum_by-append word_size (words_of child) (words_of_row children) in
        let first_six = first.0 in
        let rest_six = rest.0 in (
          omega (arith, first_six, rest_six, both),
          λ some.
              let first_five = first.1 some in
              let rest_five = rest.1 some in
              omega (arith, first_five, rest_five, both),
        )

-- the words of a command

done : Result (Unit {0}) (Unit {0})
done = Ok tt

abbrev run_words : Corp → List ℕ → List ℕ
run_words c sheet = (codes "run" ++ 32 ∷ corp_name c) ++ added sheet

run_text : (c : Corp) (sheet : List ℕ) → run_words c sheet ≡ text (RunOf c sheet)
unfolding done
run_text c sheet = run-written done c [] (codes "run") (codes "run" ++ 32 ∷ corp_name c) (run_words c sheet) (corp_name c) sheet sheet refl refl refl refl refl

best_text : (c : Corp) (sheet certificate : List ℕ) → (text (RunOf c sheet) ++ 32 ∷ codes "best") ++ added certificate ≡ text (RunBest c sheet certificate)
unfolding done
best_text c sheet certificate =
    best-written done c [] (text (RunOf c sheet)) (text (RunOf c sheet) ++ 32 ∷ codes "best") ((text (RunOf c sheet) ++ 32 ∷ codes "best") ++ added certificate)
    certificate sheet certificate refl refl refl refl

corp_length : (c : Corp) → length (corp_name c) ≤ 4
corp_length C.Prr = omega arith
corp_length C.Nyc = omega arith
corp_length C.Cpr = omega arith
corp_length C.Bo = omega arith
corp_length C.Co = omega arith
corp_length C.Erie = omega arith
corp_length C.Nynh = omega arith
corp_length C.Bm = omega arith

-- at most 13 bytes beside the sheet, the certificate and the spaces before them
command_length : (c : Corp) (sheet certificate : List ℕ)
    → length (text (RunBest c sheet certificate)) ≤ 13 + length (added sheet) + length (added certificate)
command_length c sheet certificate =
    let run = text (RunOf c sheet) in
    let name = corp_length c in
    let a = ap (λ (l : List ℕ). length l) (run_text c sheet) in
    let b = length-append (codes "run" ++ 32 ∷ corp_name c) (added sheet) in
    let d = ap (λ (l : List ℕ). length l) (best_text c sheet certificate) in
    let e = length-append (run ++ 32 ∷ codes "best") (added certificate) in
    let f = length-append run (32 ∷ codes "best") in
    omega (arith, name, a, b, d, e, f)

pub few_links_fit : FewLinksFit
few_links_fit net c most few room long =
    let legal = long.certified.legal in
    let run = legal.run in
    let tree = long.tree in
    let small : node_count tree ≤ MOST_NODES = long.certified.accepted.small in
    let accepted = under_size net long.certified.revenue few (all_open net) tree (length-replicate (length net.links) Open) long.certified.accepted.shown in
    let six = accepted.0 in
    let named = few_links net run legal.is_run in
    let short : (train : ℕ) → AreShort (trip_of run train).links = λ train. inside_short train in
    let sheet = sheet_length long.sheet run legal.is_sheet.complete (λ train word at. (legal.is_sheet.each train word at).numbers) short in
    let words = sheet_added long.sheet in
    let nodes = tree_added tree in
    let whole = command_length c (text_of long.sheet) (certificate_text tree) in
    let over : most < length (text (RunBest c (text_of long.sheet) (certificate_text tree))) = long.long in
    let complete = legal.is_sheet.complete in
    let trains = legal.is_run.complete in
    elim (cases_lt 0 (length net.trains)) [
      | inl some ↦
          let five = accepted.1 (omega (arith, some)) in
          omega (arith, small, five, named, sheet, words, nodes, whole, over, complete, trains, few.together, room)
      | inr none ↦
          let nothing = no_links run (omega (arith, trains, none)) in
          omega (arith, nothing, small, six, named, sheet, words, nodes, whole, over, complete, trains, few.together, room, none)
    ]
  where
    inside_short : (train : ℕ) → AreShort (trip_of long.certified.legal.run train).links
    inside_short train link c =
        let inside = links_inside net long.certified.legal.run long.certified.legal.is_run train link c in
        omega (arith, inside, few.together)

pub only_large_trees_lack : OnlyLargeTreesLack
only_large_trees_lack net c most few room (inl large) = large
only_large_trees_lack net c most few room (inr long) = absurd (few_links_fit net c most few room long)

-- a tree of one train that splits more links has more nodes
more_links : (fewer links : ℕ) → fewer ≤ links → whole_size 1 fewer ≤ whole_size 1 links
unfolding whole_size
more_links fewer zero less = let none : fewer ≡ 0 = omega (arith, less) in let same = ap (whole_size 1) none in omega (arith, same)
more_links fewer (suc links) less =
    elim (cases_eq fewer (suc links)) [
      | inl is ↦ let same = ap (whole_size 1) is in omega (arith, same)
      | inr differ ↦ let before = more_links fewer links (omega (arith, less, differ)) in omega (arith, before)
    ]

eleven_links : whole_size 1 11 ≡ 4095
unfolding whole_size
eleven_links = refl

pub eleven_links_never_lack : ElevenLinksNeverLack
eleven_links_never_lack net c most one eleven room lacks =
    let few : HasFewLinks net = record { together = omega (arith, one, eleven); trains = omega (arith, one) } in
    let large : MOST_NODES < whole_size (length net.trains) (length net.links) = only_large_trees_lack net c most few room lacks in
    let same = ap (λ trains. whole_size trains (length net.links)) one in
    let nodes = more_links (length net.links) 11 eleven in
    let all = eleven_links in
    omega (arith, large, same, nodes, all)
