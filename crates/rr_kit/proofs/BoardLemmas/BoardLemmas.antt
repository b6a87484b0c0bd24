-- A board with one hex, home or block more.
use Rattle.std.proofs.Common.{◌≡◌, ◌≢◌, ℕ, ◌+◌, ◌<◌, ◌≤◌, zero, suc, refl, sym, ap, ◌∙◌, subst, Bool, true, false, List, [], ◌∷◌, ◌++◌, length, get_or, append_assoc, length-append, Option, None, Some, inl, inr, arith}
use Rattle.std.specs.Prelude.{◌==◌, ◌&&◌, ◌||◌, not, nat_lt, All, AllPairs, Any, Contains, bytes_eq, find, count_by, cond}
use Rattle.std.specs.List.{list_any}
use Rattle.std.proofs.Math.Seq.{get_or-append_seam}
use Rattle.std.proofs.lemmas.Bool.{and_from, and_parts, cases_Bool, cases_order, eq-eqb, eqb-true, false_from_ne_true, lt-ltb, ltb-true, not-true, not_from_false, or_cases, or_left, or_right}
use Rattle.std.proofs.lemmas.List.{get_or_append_left, get_or_default}
use Rattle.std.proofs.lemmas.List.Elements.{All-cons, All-contains, All-nil, All-push, All-weaker, Contains-append_left}
use Rattle.std.proofs.lemmas.List.Folds.{list_any_at, Any-from_list_any}
use Rattle.std.proofs.lemmas.List.Quantifiers.{all_pairs_push}
use Rattle.std.proofs.lemmas.List.Sums.{sum_by-append}
use Rattle.std.proofs.lemmas.Option.{none-some, same_Some}
use Rattle.std.proofs.lemmas.Slice.Eq.{bytes_eq-Decides}
use Rattle.rr_roster.specs.Company.{corp_index}
use Rattle.rr_roster.proofs.Orders.{corp_index-injective}
use Rattle.rr_tiles.proofs.EdgeLemmas.{AllPairs-none, All-tail_of}
use Rattle.rr_kit.specs.declared.board.hex.TheConstants.{GREATEST_CENTRE}
use Rattle.rr_kit.specs.declared.board.hex.Hex.{Hex}
use Rattle.rr_kit.specs.declared.board.hex.Home.{Home}
use Rattle.rr_kit.specs.declared.board.hex.Block.{Block}
use Rattle.rr_kit.specs.Board.Plan.{Plan, bare, has_name, has_same_name_or_place, hex_named, is_coloured_right, is_home_at, is_home_of, may_take_hex, may_take_home, same_place, slots_at}
use Rattle.rr_kit.specs.Board.Sound.{AreOfDifferentCorps, HasHex, HaveDifferentNames, HaveDifferentPlaces, IsBoard, IsFairHome, IsHex}
use Rattle.rr_kit.proofs.BoardLemmas.HexLemmas.{coloured_right, same_place-one, same_place-self}

-- the first item that passes a test
pub record IsFound {X : Type 0} (test : X → Bool) (items : List X) (item : X) : Type 0 where
  pub among : Contains items item
  pub passes : test item ≡ true

pub find-found : {X : Type 0} (test : X → Bool) (items : List X) (item : X) → find test items ≡ Some item → IsFound test items item
find-found test [] item is = absurd (none-some item is)
find-found test (x ∷ xs) item is =
    elim (cases_Bool (test x)) [
      | inl passes ↦
          let same : x ≡ item = same_Some x item (rw passes at is) in
          record { among = (0, omega arith, same); passes = subst (λ y. test y ≡ true) same passes }
      | inr fails ↦
          let rest = find-found test xs item (rw fails at is) in
          record { among = (suc rest.among.0, omega (arith, rest.among.1), rest.among.2); passes = rest.passes }
    ]

pub find-some : {X : Type 0} (test : X → Bool) (items : List X) → list_any test items ≡ true → (item : X) × (find test items ≡ Some item)
find-some test [] there = absurd (cc)
find-some test (x ∷ xs) there =
    elim (cases_Bool (test x)) [
      | inl passes ↦ (x, rw passes refl)
      | inr fails ↦
          let rest = find-some test xs (rw fails at there) in
          (rest.0, rw fails rest.1)
    ]

-- two items that no pair tells apart are one
one_of_pairs : {X : Type 0} (R : X → X → Type 0) (items : List X) (a b : X) → AllPairs R items → Contains items a → Contains items b → (R a b → ⊥) → (R b a → ⊥) → a ≡ b
one_of_pairs R items a b pairs first second not_ab not_ba =
    elim (cases_order first.0 second.0) [
      | inl same ↦ sym first.2 ∙ ap (λ k. get_or items k a) same ∙ get_or_default items second.0 a b second.1 ∙ second.2
      | inr other ↦ elim other [
        | inl before ↦
            let pair = pairs first.0 second.0 a before second.1 in
            absurd (not_ab (subst (λ x. R x b) first.2 (subst (R (get_or items first.0 a)) (get_or_default items second.0 a b second.1 ∙ second.2) pair)))
        | inr behind ↦
            let pair = pairs second.0 first.0 b behind first.1 in
            absurd (not_ba (subst (λ x. R x a) second.2 (subst (R (get_or items second.0 b)) (get_or_default items first.0 b a first.1 ∙ first.2) pair)))
      ]
    ]

pub hex_of_name : (hexes : List Hex) (hex other : Hex) → AllPairs HaveDifferentNames hexes → Contains hexes hex → Contains hexes other → hex.name ≡ other.name → hex ≡ other
hex_of_name hexes hex other once first second same = one_of_pairs HaveDifferentNames hexes hex other once first second (λ apart. apart same) (λ apart. apart (sym same))

-- the hex of a name
pub record IsNamed (hexes : List Hex) (name : List ℕ) (hex : Hex) : Type 0 where
  pub among : Contains hexes hex
  pub named : hex.name ≡ name

pub hex_named-found : (hexes : List Hex) (name : List ℕ) (hex : Hex) → hex_named hexes name ≡ Some hex → IsNamed hexes name hex
hex_named-found hexes name hex is =
    let found = find-found (has_name name) hexes hex is in
    record { among = found.among; named = (bytes_eq-Decides hex.name name).0 found.passes }

pub HasHex-named : (hexes : List Hex) (name : List ℕ) (hex : Hex) → IsNamed hexes name hex → HasHex hexes name
HasHex-named hexes name hex found = (found.among.0, hex, found.among.1, found.among.2, found.named)

pub hex_named-some : (hexes : List Hex) (name : List ℕ) → HasHex hexes name → (hex : Hex) × (hex_named hexes name ≡ Some hex)
hex_named-some hexes name has =
    let hex : Hex = has.1 in
    let test : has_name name (get_or hexes has.0 hex) ≡ true = rw has.3 ((bytes_eq-Decides hex.name name).1 has.4) in
    find-some (has_name name) hexes (list_any_at (has_name name) hexes has.0 hex has.2 test)

-- nothing is a board
pub IsBoard-bare : IsBoard bare
IsBoard-bare = record {
  to_200 = omega arith;
  sound_hexes = All-nil IsHex;
  names_once = AllPairs-none HaveDifferentNames;
  places_once = AllPairs-none HaveDifferentPlaces;
  fair_homes = All-nil (IsFairHome bare);
  one_home_each = AllPairs-none AreOfDifferentCorps;
}

abbrev pub and_hex : Plan → Hex → Plan
and_hex plan hex = record { hexes = plan.hexes ++ hex ∷ []; homes = plan.homes; blocks = plan.blocks }

abbrev pub and_home : Plan → Home → Plan
and_home plan home = record { hexes = plan.hexes; homes = plan.homes ++ home ∷ []; blocks = plan.blocks }

abbrev pub and_block : Plan → Block → Plan
and_block plan block = record { hexes = plan.hexes; homes = plan.homes; blocks = plan.blocks ++ block ∷ [] }

-- the home is as fair on a board with more hexes
IsFairHome-hex : (plan : Plan) (hex : Hex) (home : Home) → IsFairHome plan home → IsFairHome (and_hex plan hex) home
IsFairHome-hex plan hex home fair = record {
  hex = fair.hex;
  slots = fair.slots;
  on_board = Contains-append_left plan.hexes (hex ∷ []) fair.hex fair.on_board;
  named = fair.named;
  from_1 = fair.from_1;
  to_greatest = fair.to_greatest;
  city = fair.city;
  room = fair.room;
}

-- the tests of a hex come apart
record IsNewHex (hexes : List Hex) (hex : Hex) : Type 0 where
  room : length hexes < 200
  coloured : is_coloured_right hex ≡ true
  none : list_any (has_same_name_or_place hex) hexes ≡ false

IsNewHex-tested : (hexes : List Hex) (hex : Hex) → may_take_hex hexes hex ≡ true → IsNewHex hexes hex
IsNewHex-tested hexes hex may =
    let outer = and_parts (nat_lt (length hexes) 200) (is_coloured_right hex && not (list_any (has_same_name_or_place hex) hexes)) may in
    let inner = and_parts (is_coloured_right hex) (not (list_any (has_same_name_or_place hex) hexes)) outer.1 in
    record { room = ltb-true (length hexes) 200 outer.0; coloured = inner.0; none = not-true (list_any (has_same_name_or_place hex) hexes) inner.1 }

pub coloured-tested : (hexes : List Hex) (hex : Hex) → may_take_hex hexes hex ≡ true → is_coloured_right hex ≡ true
coloured-tested hexes hex may = (IsNewHex-tested hexes hex may).coloured

pub IsBoard-hex : (plan : Plan) (hex : Hex) → IsBoard plan → IsHex hex → may_take_hex plan.hexes hex ≡ true → IsBoard (and_hex plan hex)
IsBoard-hex plan hex board sound may =
    let new = IsNewHex-tested plan.hexes hex may in
    let room : length plan.hexes < 200 = new.room in
    let test = has_same_name_or_place hex in
    record {
      to_200 = omega (arith, length-append plan.hexes (hex ∷ []));
      sound_hexes = All-push IsHex plan.hexes hex board.sound_hexes sound;
      names_once = all_pairs_push HaveDifferentNames plan.hexes hex board.names_once (λ k d within same.
          let there : list_any test plan.hexes ≡ true = list_any_at test plan.hexes k d within (or_left _ _ ((bytes_eq-Decides (get_or plan.hexes k d).name hex.name).1 same)) in
          let none = new.none in cc);
      places_once = all_pairs_push HaveDifferentPlaces plan.hexes hex board.places_once (λ k d within same.
          let there : list_any test plan.hexes ≡ true = list_any_at test plan.hexes k d within (or_right _ _ (same_place-self (get_or plan.hexes k d).place hex.place same)) in
          let none = new.none in cc);
      fair_homes = All-weaker (IsFairHome plan) (IsFairHome (and_hex plan hex)) (IsFairHome-hex plan hex) plan.homes board.fair_homes;
      one_home_each = board.one_home_each;
    }

-- a hex of a board is new to the hexes before it
name_new : (front : List Hex) (hex : Hex) (rest : List Hex) → AllPairs HaveDifferentNames (front ++ hex ∷ rest) → (k : ℕ) (d : Hex) → k < length front → (get_or front k d).name ≢ hex.name
name_new front hex rest once k d within =
    let last : length front < length (front ++ hex ∷ rest) = omega (arith, length-append front (hex ∷ rest)) in
    let pair : HaveDifferentNames (get_or (front ++ hex ∷ rest) k d) (get_or (front ++ hex ∷ rest) (length front) d) = once k (length front) d within last in
    rw (get_or_append_left front (hex ∷ rest) d k within, get_or-append_seam front hex rest d) at pair

place_new : (front : List Hex) (hex : Hex) (rest : List Hex) → AllPairs HaveDifferentPlaces (front ++ hex ∷ rest) → (k : ℕ) (d : Hex) → k < length front → (get_or front k d).place ≢ hex.place
place_new front hex rest once k d within =
    let last : length front < length (front ++ hex ∷ rest) = omega (arith, length-append front (hex ∷ rest)) in
    let pair : HaveDifferentPlaces (get_or (front ++ hex ∷ rest) k d) (get_or (front ++ hex ∷ rest) (length front) d) = once k (length front) d within last in
    rw (get_or_append_left front (hex ∷ rest) d k within, get_or-append_seam front hex rest d) at pair

pub may_take_hex-next : (front : List Hex) (hex : Hex) (rest : List Hex) → length (front ++ hex ∷ rest) ≤ 200 → All IsHex (front ++ hex ∷ rest) → AllPairs HaveDifferentNames (front ++ hex ∷ rest) → AllPairs HaveDifferentPlaces (front ++ hex ∷ rest) → may_take_hex front hex ≡ true
may_take_hex-next front hex rest few sound names places =
    let room : length front < 200 = omega (arith, length-append front (hex ∷ rest)) in
    let test = has_same_name_or_place hex in
    let none : list_any test front ≡ false = false_from_ne_true (list_any test front) (λ there.
    let found = Any-from_list_any test front there in
    let other : Hex = found.1 in
    elim (or_cases (bytes_eq other.name hex.name) (same_place other.place hex.place) found.4) [
      | inl name ↦ name_new front hex rest names found.0 other found.2 (ap (λ h. h.name) found.3 ∙ (bytes_eq-Decides other.name hex.name).0 name)
      | inr place ↦ place_new front hex rest places found.0 other found.2 (ap (λ h. h.place) found.3 ∙ same_place-one other.place hex.place place)
    ]) in
    and_from (nat_lt (length front) 200) _ (lt-ltb (length front) 200 room) (and_from (is_coloured_right hex) _ (coloured_right hex (All-tail_of IsHex front hex rest sound)) (not_from_false (list_any test front) none))

-- homes
record IsNewHome (homes : List Home) (home : Home) (slots : ℕ) : Type 0 where
  none : list_any (is_home_of home.corp) homes ≡ false
  room : count_by (is_home_at home.hex home.centre) homes < slots

IsNewHome-tested : (homes : List Home) (home : Home) (slots : ℕ) → may_take_home homes home slots ≡ true → IsNewHome homes home slots
IsNewHome-tested homes home slots may =
    let both = and_parts (not (list_any (is_home_of home.corp) homes)) (nat_lt (count_by (is_home_at home.hex home.centre) homes) slots) may in
    record { none = not-true (list_any (is_home_of home.corp) homes) both.0; room = ltb-true (count_by (is_home_at home.hex home.centre) homes) slots both.1 }

count_more : (test : Home → Bool) (homes : List Home) (home : Home) → count_by test (homes ++ home ∷ []) ≡ count_by test homes + cond (test home) 1 0
count_more test homes home = sum_by-append (λ x. cond (test x) 1 0) homes (home ∷ []) ∙ ap (λ n. count_by test homes + n) (omega arith)

-- the city of the home that was added
record IsCityFor (plan : Plan) (home : Home) (hex : Hex) (slots : ℕ) : Type 0 where
  on_board : Contains plan.hexes hex
  named : hex.name ≡ home.hex
  from_1 : 1 ≤ home.centre
  to_greatest : home.centre ≤ GREATEST_CENTRE
  city : slots_at hex.tile.parts home.centre ≡ Some slots
  room : count_by (is_home_at home.hex home.centre) plan.homes < slots

at_itself : (home : Home) → is_home_at home.hex home.centre home ≡ true
at_itself home = and_from (bytes_eq home.hex home.hex) (home.centre == home.centre) ((bytes_eq-Decides home.hex home.hex).1 refl) (eq-eqb home.centre home.centre refl)

-- a home of the board, or the new one, where it is at the new one's city
IsFairHome-there : (plan : Plan) (home other : Home) (hex : Hex) (slots : ℕ) → IsCityFor plan home hex slots → home.hex ≡ other.hex → home.centre ≡ other.centre → IsFairHome (and_home plan home) other
IsFairHome-there plan home other hex slots city same_hex same_centre =
    let room : count_by (is_home_at home.hex home.centre) (plan.homes ++ home ∷ []) ≤ slots = rw (count_more (is_home_at home.hex home.centre) plan.homes home, at_itself home) (omega (arith, city.room)) in
    record {
      hex = hex;
      slots = slots;
      on_board = city.on_board;
      named = city.named ∙ same_hex;
      from_1 = subst (λ n. 1 ≤ n) same_centre city.from_1;
      to_greatest = subst (λ n. n ≤ GREATEST_CENTRE) same_centre city.to_greatest;
      city = subst (λ n. slots_at hex.tile.parts n ≡ Some slots) same_centre city.city;
      room = subst (λ n. count_by (is_home_at other.hex n) (plan.homes ++ home ∷ []) ≤ slots) same_centre (subst (λ h. count_by (is_home_at h home.centre) (plan.homes ++ home ∷ []) ≤ slots) same_hex room);
    }

IsFairHome-home : (plan : Plan) (home : Home) (hex : Hex) (slots : ℕ) → IsCityFor plan home hex slots → (other : Home) → IsFairHome plan other → IsFairHome (and_home plan home) other
IsFairHome-home plan home hex slots city other fair =
    elim (cases_Bool (is_home_at other.hex other.centre home)) [
      | inl there ↦
          let both = and_parts (bytes_eq home.hex other.hex) (home.centre == other.centre) there in
          IsFairHome-there plan home other hex slots city ((bytes_eq-Decides home.hex other.hex).0 both.0) (eqb-true home.centre other.centre both.1)
      | inr elsewhere ↦ record {
        hex = fair.hex;
        slots = fair.slots;
        on_board = fair.on_board;
        named = fair.named;
        from_1 = fair.from_1;
        to_greatest = fair.to_greatest;
        city = fair.city;
        room = rw (count_more (is_home_at other.hex other.centre) plan.homes home, elsewhere) (omega (arith, fair.room));
      }
    ]

pub IsBoard-home : (plan : Plan) (home : Home) (hex : Hex) (slots : ℕ) → IsBoard plan → IsNamed plan.hexes home.hex hex → 1 ≤ home.centre → home.centre ≤ GREATEST_CENTRE → slots_at hex.tile.parts home.centre ≡ Some slots → may_take_home plan.homes home slots ≡ true → IsBoard (and_home plan home)
IsBoard-home plan home hex slots board named from_1 to_greatest city may =
    let new = IsNewHome-tested plan.homes home slots may in
    let its : IsCityFor plan home hex slots = record { on_board = named.among; named = named.named; from_1 = from_1; to_greatest = to_greatest; city = city; room = new.room } in
    record {
      to_200 = board.to_200;
      sound_hexes = board.sound_hexes;
      names_once = board.names_once;
      places_once = board.places_once;
      fair_homes = All-push (IsFairHome (and_home plan home)) plan.homes home (All-weaker (IsFairHome plan) (IsFairHome (and_home plan home)) (IsFairHome-home plan home hex slots its) plan.homes board.fair_homes) (IsFairHome-there plan home home hex slots its refl refl);
      one_home_each = all_pairs_push AreOfDifferentCorps plan.homes home board.one_home_each (λ k d within same.
          let there : list_any (is_home_of home.corp) plan.homes ≡ true = list_any_at (is_home_of home.corp) plan.homes k d within (eq-eqb _ _ (ap corp_index same)) in
          let none = new.none in cc);
    }

pub IsBoard-block : (plan : Plan) (block : Block) → IsBoard plan → IsBoard (and_block plan block)
IsBoard-block plan block board = record {
  to_200 = board.to_200;
  sound_hexes = board.sound_hexes;
  names_once = board.names_once;
  places_once = board.places_once;
  fair_homes = All-weaker (IsFairHome plan) (IsFairHome (and_block plan block)) (λ home fair. record {
    hex = fair.hex;
    slots = fair.slots;
    on_board = fair.on_board;
    named = fair.named;
    from_1 = fair.from_1;
    to_greatest = fair.to_greatest;
    city = fair.city;
    room = fair.room;
  }) plan.homes board.fair_homes;
  one_home_each = board.one_home_each;
}

corp_new : (front : List Home) (home : Home) (rest : List Home) → AllPairs AreOfDifferentCorps (front ++ home ∷ rest) → (k : ℕ) (d : Home) → k < length front → (get_or front k d).corp ≢ home.corp
corp_new front home rest once k d within =
    let last : length front < length (front ++ home ∷ rest) = omega (arith, length-append front (home ∷ rest)) in
    let pair : AreOfDifferentCorps (get_or (front ++ home ∷ rest) k d) (get_or (front ++ home ∷ rest) (length front) d) = once k (length front) d within last in
    rw (get_or_append_left front (home ∷ rest) d k within, get_or-append_seam front home rest d) at pair

pub may_take_home-next : (front : List Home) (home : Home) (rest : List Home) (slots : ℕ) → AllPairs AreOfDifferentCorps (front ++ home ∷ rest) → count_by (is_home_at home.hex home.centre) (front ++ home ∷ rest) ≤ slots → may_take_home front home slots ≡ true
may_take_home-next front home rest slots once room =
    let test = is_home_at home.hex home.centre in
    let none : list_any (is_home_of home.corp) front ≡ false = false_from_ne_true (list_any (is_home_of home.corp) front) (λ there.
    let found = Any-from_list_any (is_home_of home.corp) front there in
    let other : Home = found.1 in
    corp_new front home rest once found.0 other found.2 (ap (λ h. h.corp) found.3 ∙ corp_index-injective other.corp home.corp (eqb-true (corp_index other.corp) (corp_index home.corp) found.4))) in
    let split : count_by test (front ++ home ∷ rest) ≡ count_by test ((front ++ home ∷ []) ++ rest) = ap (count_by test) (sym (append_assoc front (home ∷ []) rest)) in
    let count : count_by test ((front ++ home ∷ []) ++ rest) ≡ count_by test (front ++ home ∷ []) + count_by test rest = sum_by-append (λ x. cond (test x) 1 0) (front ++ home ∷ []) rest in
    let one : cond {A = ℕ} (test home) 1 0 ≡ 1 = rw (at_itself home) refl in
    let fits : count_by test front < slots = omega (arith, split, count, one, count_more test front home) in
    and_from (not (list_any (is_home_of home.corp) front)) _ (not_from_false (list_any (is_home_of home.corp) front) none) (lt-ltb (count_by test front) slots fits)
