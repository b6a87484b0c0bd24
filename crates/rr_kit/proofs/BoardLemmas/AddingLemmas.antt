-- What a line adds to a board is what it spells.
use Rattle.std.proofs.Common.{◌≡◌, ℕ, ◌+◌, ◌^◌, ◌<◌, ◌≤◌, refl, sym, ap, ◌∙◌, subst, Bool, true, false, List, [], ◌∷◌, ◌++◌, length, Option, None, Some, option_map, option_and_then, inl, inr, arith, filter_map, append-nil}
use Rattle.std.specs.Prelude.{◌⊎◌, All, AllPairs, Contains, bytes_eq, codes, decimal, count_by}
use Rattle.std.proofs.lemmas.Bool.{cases_Bool}
use Rattle.std.proofs.lemmas.List.Elements.{All-contains, Contains-append_left, filter_map-append}
use Rattle.std.proofs.lemmas.Option.{none-some, same_Some}
use Rattle.std.proofs.lemmas.Slice.Eq.{bytes_eq-Decides}
use Rattle.rr_words.specs.Numeral.{small_number_of}
use Rattle.rr_words.proofs.NumeralLemmas.{small_number_of-decimal}
use Rattle.rr_roster.specs.declared.company.Corp.{Corp}
use Rattle.rr_roster.specs.declared.company.Corp.TheVariants as C
use Rattle.rr_roster.specs.declared.company.Private.{Private}
use Rattle.rr_roster.specs.declared.company.Private.TheVariants as P
use Rattle.rr_roster.specs.Company.{corp_name, private_name}
use Rattle.rr_tiles.proofs.CentreLemmas.{small_number-found}
use Rattle.rr_tiles.proofs.EdgeLemmas.{All-tail_of}
use Rattle.rr_tiles.proofs.OptionLemmas.{and_then-some, if-some, map-some}
use Rattle.rr_kit.specs.declared.board.hex.TheConstants.{GREATEST_CENTRE}
use Rattle.rr_kit.specs.declared.board.hex.Hex.{Hex}
use Rattle.rr_kit.specs.declared.board.hex.Home.{Home}
use Rattle.rr_kit.specs.declared.board.hex.Block.{Block}
use Rattle.rr_kit.specs.Board.Lines.{add_block, add_hex, add_home, add_line, block_in as with_block, hex_of, home_in as home_at, home_of, with_hex, with_home}
use Rattle.rr_kit.specs.Board.Plan.{Plan, bare, hex_named, is_home_at, may_take_hex, may_take_home, slots_at}
use Rattle.rr_kit.specs.Board.Sound.{AreOfDifferentCorps, HasHex, HaveDifferentNames, HaveDifferentPlaces, IsBoard, IsFairHome, IsHex}
use Rattle.rr_kit.specs.Board.Spelling.{HasItsHexIn, Line, SpellsHex, SpellsLine, block_in, block_words, blocks_in, hex_in, hexes_in, home_in, home_words, homes_in}
use Rattle.rr_kit.specs.Board.Spelling.Line.{HexLine, HomeLine, BlockLine}
use Rattle.rr_kit.specs.Board.Words.{corp_of, private_of}
use Rattle.rr_kit.proofs.BoardLemmas.BoardLemmas.{HasHex-named, IsBoard-block, IsBoard-hex, IsBoard-home, IsNamed, and_block, and_hex, and_home, coloured-tested, hex_named-found, hex_named-some, hex_of_name, may_take_hex-next, may_take_home-next}
use Rattle.rr_kit.proofs.BoardLemmas.HexLemmas.{SpellsHex-read, hex_of-spelled}
use Rattle.rr_kit.proofs.BoardLemmas.NameLemmas.{corp_named, private_named}
use Rattle.rr_kit.proofs.BoardLemmas.WordLemmas.{name-or_rest}

-- names
corp_of-found : (word : List ℕ) (corp : Corp) → corp_of word ≡ Some corp → word ≡ corp_name corp
corp_of-found word corp is =
    elim (name-or_rest word (corp_name C.Prr) C.Prr corp _ is) [
      | inl p ↦ p.0 ∙ ap corp_name p.1
      | inr r1 ↦
          elim (name-or_rest word (corp_name C.Nyc) C.Nyc corp _ r1) [
            | inl p ↦ p.0 ∙ ap corp_name p.1
            | inr r2 ↦
                elim (name-or_rest word (corp_name C.Cpr) C.Cpr corp _ r2) [
                  | inl p ↦ p.0 ∙ ap corp_name p.1
                  | inr r3 ↦
                      elim (name-or_rest word (corp_name C.Bo) C.Bo corp _ r3) [
                        | inl p ↦ p.0 ∙ ap corp_name p.1
                        | inr r4 ↦
                            elim (name-or_rest word (corp_name C.Co) C.Co corp _ r4) [
                              | inl p ↦ p.0 ∙ ap corp_name p.1
                              | inr r5 ↦
                                  elim (name-or_rest word (corp_name C.Erie) C.Erie corp _ r5) [
                                    | inl p ↦ p.0 ∙ ap corp_name p.1
                                    | inr r6 ↦
                                        elim (name-or_rest word (corp_name C.Nynh) C.Nynh corp _ r6) [
                                          | inl p ↦ p.0 ∙ ap corp_name p.1
                                          | inr r7 ↦
                                              elim (name-or_rest word (corp_name C.Bm) C.Bm corp _ r7) [
                                                | inl p ↦ p.0 ∙ ap corp_name p.1
                                                | inr r8 ↦
                                                    absurd (none-some corp r8)
                                              ]
                                        ]
                                  ]
                            ]
                      ]
                ]
          ]
    ]

private_of-found : (word : List ℕ) (private : Private) → private_of word ≡ Some private → word ≡ private_name private
private_of-found word private is =
    elim (name-or_rest word (private_name P.Sv) P.Sv private _ is) [
      | inl p ↦ p.0 ∙ ap private_name p.1
      | inr r1 ↦
          elim (name-or_rest word (private_name P.Csl) P.Csl private _ r1) [
            | inl p ↦ p.0 ∙ ap private_name p.1
            | inr r2 ↦
                elim (name-or_rest word (private_name P.Dh) P.Dh private _ r2) [
                  | inl p ↦ p.0 ∙ ap private_name p.1
                  | inr r3 ↦
                      elim (name-or_rest word (private_name P.Mh) P.Mh private _ r3) [
                        | inl p ↦ p.0 ∙ ap private_name p.1
                        | inr r4 ↦
                            elim (name-or_rest word (private_name P.Ca) P.Ca private _ r4) [
                              | inl p ↦ p.0 ∙ ap private_name p.1
                              | inr r5 ↦
                                  elim (name-or_rest word (private_name P.Bo) P.Bo private _ r5) [
                                    | inl p ↦ p.0 ∙ ap private_name p.1
                                    | inr r6 ↦
                                        absurd (none-some private r6)
                                  ]
                            ]
                      ]
                ]
          ]
    ]

-- the board with what a line names more
abbrev pub and_line : Plan → Line → Plan
and_line plan (HexLine hex) = and_hex plan hex
and_line plan (HomeLine home) = and_home plan home
and_line plan (BlockLine block) = and_block plan block

-- the words spell a line that may stand there, and it is added
pub record IsTaken (plan : Plan) (words : List (List ℕ)) (next : Plan) : Type 0 where
  pub line : Line
  pub spelled : SpellsLine words line
  pub behind : HasItsHexIn plan.hexes line
  pub next_is : and_line plan line ≡ next
  pub keeps_board : IsBoard plan → IsBoard (and_line plan line)

add_hex-found : (plan : Plan) (rest : List (List ℕ)) (next : Plan) → add_hex plan rest ≡ Some next → IsTaken plan (codes "hex" ∷ rest) next
add_hex-found plan [] next is = absurd (none-some next is)
add_hex-found plan (name ∷ []) next is = absurd (none-some next is)
add_hex-found plan (name ∷ place ∷ []) next is = absurd (none-some next is)
add_hex-found plan (name ∷ place ∷ colour ∷ rest) next is =
    let hex = and_then-some (with_hex plan) (hex_of name place colour rest) next is in
    let kept = if-some (may_take_hex plan.hexes hex.0) (Some (and_hex plan hex.0)) next hex.2 in
    let spelled : SpellsHex (codes "hex" ∷ name ∷ place ∷ colour ∷ rest) hex.0 = SpellsHex-read name place colour rest hex.0 hex.1 (coloured-tested plan.hexes hex.0 kept.0) in
    record {
      line = HexLine hex.0;
      spelled = spelled;
      behind = tt;
      next_is = same_Some (and_hex plan hex.0) next kept.1;
      keeps_board = λ board. IsBoard-hex plan hex.0 board spelled.is_hex kept.0;
    }

add_home-found : (plan : Plan) (rest : List (List ℕ)) (next : Plan) → add_home plan rest ≡ Some next → IsTaken plan (codes "home" ∷ rest) next
add_home-found plan [] next is = absurd (none-some next is)
add_home-found plan (corp ∷ []) next is = absurd (none-some next is)
add_home-found plan (corp ∷ hex ∷ []) next is = absurd (none-some next is)
add_home-found plan (corp ∷ hex ∷ centre ∷ []) next is =
    let c = and_then-some (λ x. option_and_then (λ n. option_and_then (home_at plan x n) (hex_named plan.hexes hex)) (small_number_of centre 1 GREATEST_CENTRE)) (corp_of corp) next is in
    let n = and_then-some (λ x. option_and_then (home_at plan c.0 x) (hex_named plan.hexes hex)) (small_number_of centre 1 GREATEST_CENTRE) next c.2 in
    let h = and_then-some (home_at plan c.0 n.0) (hex_named plan.hexes hex) next n.2 in
    let home : Home = record { corp = c.0; hex = h.0.name; centre = n.0 } in
    let slots = and_then-some (with_home plan home) (slots_at h.0.tile.parts n.0) next h.2 in
    let kept = if-some (may_take_home plan.homes home slots.0) (Some (and_home plan home)) next slots.2 in
    let number = small_number-found centre 1 GREATEST_CENTRE n.0 n.1 in
    let named = hex_named-found plan.hexes hex h.0 h.1 in
    let its : IsNamed plan.hexes home.hex h.0 = record { among = named.among; named = refl } in
    record {
      line = HomeLine home;
      spelled = ap (λ w. codes "home" ∷ w ∷ hex ∷ centre ∷ []) (corp_of-found corp c.0 c.1) ∙ ap (λ w. codes "home" ∷ corp_name c.0 ∷ w ∷ centre ∷ []) (sym named.named) ∙ ap (λ w. codes "home" ∷ corp_name c.0 ∷ h.0.name ∷ w ∷ []) number.digits;
      behind = HasHex-named plan.hexes home.hex h.0 its;
      next_is = same_Some (and_home plan home) next kept.1;
      keeps_board = λ board. IsBoard-home plan home h.0 slots.0 board its number.from_low number.to_high slots.1 kept.0;
    }
add_home-found plan (corp ∷ hex ∷ centre ∷ more ∷ rest) next is = absurd (none-some next is)

add_block-found : (plan : Plan) (rest : List (List ℕ)) (next : Plan) → add_block plan rest ≡ Some next → IsTaken plan (codes "block" ∷ rest) next
add_block-found plan [] next is = absurd (none-some next is)
add_block-found plan (private ∷ []) next is = absurd (none-some next is)
add_block-found plan (private ∷ hex ∷ []) next is =
    let p = and_then-some (λ x. option_map (with_block plan x) (hex_named plan.hexes hex)) (private_of private) next is in
    let h = map-some (with_block plan p.0) (hex_named plan.hexes hex) next p.2 in
    let block : Block = record { private = p.0; hex = h.0.name } in
    let named = hex_named-found plan.hexes hex h.0 h.1 in
    record {
      line = BlockLine block;
      spelled = ap (λ w. codes "block" ∷ w ∷ hex ∷ []) (private_of-found private p.0 p.1) ∙ ap (λ w. codes "block" ∷ private_name p.0 ∷ w ∷ []) (sym named.named);
      behind = HasHex-named plan.hexes block.hex h.0 (record { among = named.among; named = refl });
      next_is = h.2;
      keeps_board = IsBoard-block plan block;
    }
add_block-found plan (private ∷ hex ∷ more ∷ rest) next is = absurd (none-some next is)

headed : (plan next : Plan) (head name : List ℕ) (rest : List (List ℕ)) → bytes_eq head name ≡ true → IsTaken plan (name ∷ rest) next → IsTaken plan (head ∷ rest) next
headed plan next head name rest same taken = subst (λ w. IsTaken plan (w ∷ rest) next) (sym ((bytes_eq-Decides head name).0 same)) taken

pub add_line-found : (plan : Plan) (words : List (List ℕ)) (next : Plan) → add_line plan words ≡ Some next → IsTaken plan words next
add_line-found plan [] next is = absurd (none-some next is)
add_line-found plan (head ∷ rest) next is =
    elim (cases_Bool (bytes_eq head (codes "hex"))) [
      | inl hex ↦ headed plan next head (codes "hex") rest hex (add_hex-found plan rest next (rw hex at is))
      | inr no_hex ↦ elim (cases_Bool (bytes_eq head (codes "home"))) [
        | inl home ↦ headed plan next head (codes "home") rest home (add_home-found plan rest next (rw (no_hex, home) at is))
        | inr no_home ↦ elim (cases_Bool (bytes_eq head (codes "block"))) [
          | inl block ↦ headed plan next head (codes "block") rest block (add_block-found plan rest next (rw (no_hex, no_home, block) at is))
          | inr no_block ↦ absurd (none-some next (rw (no_hex, no_home, no_block) at is))
        ]
      ]
    ]

-- the board of lines
abbrev pub plan_for : List Line → Plan
plan_for lines = record { hexes = hexes_in lines; homes = homes_in lines; blocks = blocks_in lines }

pub hexes_in-append : (front : List Line) (rest : List Line) → hexes_in (front ++ rest) ≡ hexes_in front ++ hexes_in rest
hexes_in-append front rest = filter_map-append hex_in front rest

pub homes_in-append : (front : List Line) (rest : List Line) → homes_in (front ++ rest) ≡ homes_in front ++ homes_in rest
homes_in-append front rest = filter_map-append home_in front rest

blocks_in-append : (front : List Line) (rest : List Line) → blocks_in (front ++ rest) ≡ blocks_in front ++ blocks_in rest
blocks_in-append front rest = filter_map-append block_in front rest

same_plan : (plan other : Plan) → plan.hexes ≡ other.hexes → plan.homes ≡ other.homes → plan.blocks ≡ other.blocks → plan ≡ other
same_plan plan other hexes homes blocks = λ i. record { hexes = hexes i; homes = homes i; blocks = blocks i }

pub plan_for-more : (lines : List Line) (line : Line) → plan_for (lines ++ line ∷ []) ≡ and_line (plan_for lines) line
plan_for-more lines (HexLine hex) = same_plan _ _ (hexes_in-append lines (HexLine hex ∷ [])) (homes_in-append lines (HexLine hex ∷ []) ∙ append-nil (homes_in lines)) (blocks_in-append lines (HexLine hex ∷ []) ∙ append-nil (blocks_in lines))
plan_for-more lines (HomeLine home) = same_plan _ _ (hexes_in-append lines (HomeLine home ∷ []) ∙ append-nil (hexes_in lines)) (homes_in-append lines (HomeLine home ∷ [])) (blocks_in-append lines (HomeLine home ∷ []) ∙ append-nil (blocks_in lines))
plan_for-more lines (BlockLine block) = same_plan _ _ (hexes_in-append lines (BlockLine block ∷ []) ∙ append-nil (hexes_in lines)) (homes_in-append lines (BlockLine block ∷ []) ∙ append-nil (homes_in lines)) (blocks_in-append lines (BlockLine block ∷ []))

pub plan_is : (plan : Plan) (lines : List Line) → plan.hexes ≡ hexes_in lines → plan.homes ≡ homes_in lines → plan.blocks ≡ blocks_in lines → plan ≡ plan_for lines
plan_is plan lines hexes homes blocks = same_plan plan (plan_for lines) hexes homes blocks

-- a line that a board's lines go on with may be added
record IsPart (plan : Plan) (whole : Plan) (hexes : List Hex) (homes : List Home) : Type 0 where
  hexes_are : whole.hexes ≡ plan.hexes ++ hexes
  homes_are : whole.homes ≡ plan.homes ++ homes

add_hex-spelled : (plan whole : Plan) (hex : Hex) (words : List (List ℕ)) (hexes : List Hex) (homes : List Home) → IsPart plan whole (hex ∷ hexes) homes → IsBoard whole → SpellsHex words hex → add_line plan words ≡ Some (and_hex plan hex)
add_hex-spelled plan whole hex words hexes homes part board spelled =
    let all = part.hexes_are in
    let may : may_take_hex plan.hexes hex ≡ true = may_take_hex-next plan.hexes hex hexes (subst (λ hs. length hs ≤ 200) all board.to_200) (subst (All IsHex) all board.sound_hexes) (subst (AllPairs HaveDifferentNames) all board.names_once) (subst (AllPairs HaveDifferentPlaces) all board.places_once) in
    ap (add_line plan) spelled.words_are
    ∙ ap (option_and_then (with_hex plan)) (hex_of-spelled hex spelled.cost_words spelled.tile_words spelled.cost_spelled spelled.tile_spelled spelled.is_hex)
    ∙ rw may refl

-- the hex of a home, found among the hexes before it
add_home-spelled : (plan whole : Plan) (home : Home) (words : List (List ℕ)) (hexes : List Hex) (homes : List Home) → IsPart plan whole hexes (home ∷ homes) → IsBoard whole → HasHex plan.hexes home.hex → words ≡ home_words home → add_line plan words ≡ Some (and_home plan home)
add_home-spelled plan whole home words hexes homes part board behind spelled =
    let found = hex_named-some plan.hexes home.hex behind in
    let named = hex_named-found plan.hexes home.hex found.0 found.1 in
    let on_board : Contains whole.hexes found.0 = subst (λ hs. Contains hs found.0) (sym part.hexes_are) (Contains-append_left plan.hexes hexes found.0 named.among) in
    let fair : IsFairHome whole home = All-tail_of (IsFairHome whole) plan.homes home homes (subst (All (IsFairHome whole)) part.homes_are board.fair_homes) in
    let same : fair.hex ≡ found.0 = hex_of_name whole.hexes fair.hex found.0 board.names_once fair.on_board on_board (fair.named ∙ sym named.named) in
    let city : slots_at found.0.tile.parts home.centre ≡ Some fair.slots = subst (λ h. slots_at h.tile.parts home.centre ≡ Some fair.slots) same fair.city in
    let may : may_take_home plan.homes home fair.slots ≡ true = may_take_home-next plan.homes home homes fair.slots (subst (AllPairs AreOfDifferentCorps) part.homes_are board.one_home_each) (subst (λ hs. count_by (is_home_at home.hex home.centre) hs ≤ fair.slots) part.homes_are fair.room) in
    let number : small_number_of (decimal home.centre) 1 GREATEST_CENTRE ≡ Some home.centre = small_number_of-decimal home.centre 1 GREATEST_CENTRE (omega (arith, fair.to_greatest)) fair.from_1 fair.to_greatest in
    let of : List ℕ → Home = λ name. record { corp = home.corp; hex = name; centre = home.centre } in
    ap (add_line plan) spelled
    ∙ ap (option_and_then (λ c. option_and_then (λ n. option_and_then (home_at plan c n) (hex_named plan.hexes home.hex)) (small_number_of (decimal home.centre) 1 GREATEST_CENTRE))) (sym (corp_named home.corp))
    ∙ ap (option_and_then (λ n. option_and_then (home_at plan home.corp n) (hex_named plan.hexes home.hex))) number
    ∙ ap (option_and_then (home_at plan home.corp home.centre)) found.1
    ∙ ap (option_and_then (with_home plan (of found.0.name))) city
    ∙ ap (λ name. with_home plan (of name) fair.slots) named.named
    ∙ rw may refl

add_block-spelled : (plan : Plan) (block : Block) (words : List (List ℕ)) → HasHex plan.hexes block.hex → words ≡ block_words block → add_line plan words ≡ Some (and_block plan block)
add_block-spelled plan block words behind spelled =
    let found = hex_named-some plan.hexes block.hex behind in
    let named = hex_named-found plan.hexes block.hex found.0 found.1 in
    let of : List ℕ → Block = λ name. record { private = block.private; hex = name } in
    ap (add_line plan) spelled
    ∙ ap (option_and_then (λ p. option_map (with_block plan p) (hex_named plan.hexes block.hex))) (sym (private_named block.private))
    ∙ ap (option_map (with_block plan block.private)) found.1
    ∙ ap (λ name. Some (and_block plan (of name))) named.named

pub add_line-spelled : (front : List Line) (line : Line) (rest : List Line) (words : List (List ℕ)) → IsBoard (plan_for (front ++ line ∷ rest)) → HasItsHexIn (hexes_in front) line → SpellsLine words line → add_line (plan_for front) words ≡ Some (and_line (plan_for front) line)
add_line-spelled front (HexLine hex) rest words board behind spelled =
    add_hex-spelled (plan_for front) (plan_for (front ++ HexLine hex ∷ rest)) hex words (hexes_in rest) (homes_in rest) (record { hexes_are = hexes_in-append front (HexLine hex ∷ rest); homes_are = homes_in-append front (HexLine hex ∷ rest) }) board spelled
add_line-spelled front (HomeLine home) rest words board behind spelled =
    add_home-spelled (plan_for front) (plan_for (front ++ HomeLine home ∷ rest)) home words (hexes_in rest) (homes_in rest) (record { hexes_are = hexes_in-append front (HomeLine home ∷ rest); homes_are = homes_in-append front (HomeLine home ∷ rest) }) board behind spelled
add_line-spelled front (BlockLine block) rest words board behind spelled = add_block-spelled (plan_for front) block words behind spelled
