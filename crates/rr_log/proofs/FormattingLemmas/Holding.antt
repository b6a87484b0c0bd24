-- What the chains of a new file spell.
use Rattle.std.proofs.Common.{◌≡◌, inl, inr, Option, None, Some, ℕ, zero, suc, ◌+◌, ◌^◌, ◌<◌, ◌≤◌, Bool, false, List, [], ◌∷◌, ◌++◌, length, map, refl, sym, ◌∙◌, ap, subst, arith, length-append}
use Rattle.std.proofs.lemmas.List.{length-map}
use Rattle.std.proofs.lemmas.List.Elements.{All-nil}
use Rattle.rr_reading.specs.Dir.Directory.{FitsVersion, IsDirectory, IsSnapshot, IsText, IsTable, spelling, spelled_bank, spelled_chain, spelled_rest}
use Rattle.rr_words.specs.Spelling.Number.{spelled_number}
use Rattle.rr_words.proofs.SpellingLemmas.NumberLemmas.{length-spelled_number}
use Rattle.rr_reading.specs.declared.dir.directory.ChainRef.{ChainRef}
use Rattle.rr_reading.specs.declared.dir.directory.KitChains.{KitChains}
use Rattle.rr_pages.specs.Roots.{IsKnownVersion}
use Rattle.rr_reading.specs.Dir.Version.{version_number}
use Rattle.rr_reading.specs.declared.dir.version.Version.{Version}
use Rattle.rr_reading.specs.declared.dir.version.Version.TheVariants.{One, Two}
use Rattle.rr_reading.specs.Dir.Heads.{Heads}
use Rattle.rr_images.specs.Holding.{heads_of, texts_of}
use Rattle.rr_images.specs.Layout.{Layout, formatted}
use Rattle.rr_images.specs.Laws.{OneLaid}
use Rattle.rr_images.specs.Progress.{AreSpare}
use Rattle.rr_images.specs.Plans.{LaidChain, Fresh, laid_as, all_laid, laid_pages, AllFit, AreLaid, pages_up_to, plan_made, IsMade}
use Rattle.rr_images.proofs.Laid.{nothing_laid, one_more_laid, laid_are_free}
use Rattle.rr_images.proofs.Plans.{made_is_plan}
use Rattle.rr_pages.specs.declared.chain.FreshPage.{FreshPage}
use Rattle.rr_pages.specs.declared.root.Root.{Root}
use Rattle.rr_pages.specs.Laying.{AllStand, head_of, laid, joined, FitEach, FitPages, pages_for}
use Rattle.rr_pages.specs.Writing.{fresh_of, IsLaid}
use Rattle.rr_pages.proofs.SetLemmas.{empty_has}
use Rattle.rr_reading.specs.Held.{TextChains}
use Rattle.rr_reading.specs.Worlds.Spelling.{HoldTexts, Spells, TableChains, bytes_for, directory_for, ref_of, worlds}
use Rattle.rr_reading.specs.Worlds.World.{IsShown, Snapshot, World, WorldRules}
use Rattle.rr_reading.proofs.WorldLemmas.ReadBack.{read_back}
use Rattle.rr_log.specs.Formatting.InTurn.{pages_from, AreInTurn}
use Rattle.rr_log.specs.Formatting.Kit.{IsRefTo, IsKitLaid}
use Rattle.rr_log.specs.Formatting.NewFile.{empty_world, page_of, IsNewFile}
use Rattle.rr_log.proofs.FormattingLemmas.InTurn.{took_in_turn}
use Rattle.rr_log.proofs.FormattingLemmas.OneChain.{laid_length}
use Rattle.rr_pages.specs.declared.journal.layout.HalfIndex.TheVariants.{First, Second}

-- the reference to a chain that was laid
ref_to : (chain : LaidChain) (bytes : List ℕ) (ref : ChainRef) → joined chain.pieces ≡ bytes → ref.head ≡ head_of chain.pages → ref.length ≡ length bytes → IsRefTo chain bytes ref
ref_to chain bytes ref whole first counted =
    record { whole = whole; named = λ i. record { head = first i; length = (counted ∙ ap (λ (xs : List ℕ). length xs) (sym whole)) i } }

pub kit_laid : (present a b c d e : List Bool) (old one two three four : List FreshPage) (chart roster tiles board : List ℕ) (kit : KitChains) → old ≡ []
    → IsLaid present a b chart old one kit.chart.head → kit.chart.length ≡ length chart
    → IsLaid present b c roster one two kit.roster.head → kit.roster.length ≡ length roster
    → IsLaid present c d tiles two three kit.tiles.head → kit.tiles.length ≡ length tiles
    → IsLaid present d e board three four kit.board.head → kit.board.length ≡ length board
    → IsKitLaid present a e four (empty_world chart roster tiles board) kit
kit_laid present a b c d e old one two three four chart roster tiles board kit none first n1 second n2 third n3 fourth n4 =
    let started : AreLaid present a a old [] = subst (λ (fresh : List FreshPage). AreLaid present a a fresh []) (sym none) (nothing_laid present a) in
    let l1 : OneLaid present a b one [] chart kit.chart.head = one_more_laid present a a b old one [] chart kit.chart.head started first in
    let l2 : OneLaid present a c two (l1.chain ∷ []) roster kit.roster.head = one_more_laid present a b c one two (l1.chain ∷ []) roster kit.roster.head l1.laid second in
    let l3 : OneLaid present a d three (l1.chain ∷ l2.chain ∷ []) tiles kit.tiles.head = one_more_laid present a c d two three (l1.chain ∷ l2.chain ∷ []) tiles kit.tiles.head l2.laid third in
    let l4 : OneLaid present a e four (l1.chain ∷ l2.chain ∷ l3.chain ∷ []) board kit.board.head = one_more_laid present a d e three four (l1.chain ∷ l2.chain ∷ l3.chain ∷ []) board kit.board.head l3.laid fourth in
    record {
      chart = l1.chain;
      roster = l2.chain;
      tiles = l3.chain;
      board = l4.chain;
      to_chart = ref_to l1.chain chart kit.chart l1.whole l1.first n1;
      to_roster = ref_to l2.chain roster kit.roster l2.whole l2.first n2;
      to_tiles = ref_to l3.chain tiles kit.tiles l3.whole l3.first n3;
      to_board = ref_to l4.chain board kit.board l4.whole l4.first n4;
      laid = l4.laid;
    }

-- the first page of a chain that was laid
head_under : (pages : List ℕ) (pieces : List (List ℕ)) → FitEach pages pieces → head_of pages < 2 ^ 64
head_under [] pieces fit = omega arith
head_under (page ∷ pages) [] fit = absurd fit
head_under (page ∷ pages) (piece ∷ pieces) fit = omega (arith, fit.1)

is_text : (chain : LaidChain) (bytes : List ℕ) → FitPages chain.pages chain.pieces → joined chain.pieces ≡ bytes → length bytes ≤ 65536 → IsText (ref_of (laid_as chain))
is_text chain bytes fit whole short =
    record { page = head_under chain.pages chain.pieces fit.each; short = omega (arith, short, ap (λ (xs : List ℕ). length xs) whole) }

-- the pages of what was laid
abbrev places : List (ℕ × List ℕ) → List ℕ
places xs = map (λ (x : ℕ × List ℕ). x.0) xs

places_laid : (pages : List ℕ) (pieces : List (List ℕ)) → FitEach pages pieces → places (laid pages pieces) ≡ pages
places_laid [] pieces fit = refl
places_laid (page ∷ pages) [] fit = absurd fit
places_laid (page ∷ pages) (piece ∷ pieces) fit = ap (λ (later : List ℕ). page ∷ later) (places_laid pages pieces fit.3)

places_both : (xs ys : List (ℕ × List ℕ)) → places (xs ++ ys) ≡ places xs ++ places ys
places_both [] ys = refl
places_both (x ∷ xs) ys = ap (λ (pages : List ℕ). x.0 ∷ pages) (places_both xs ys)

places_all : (chains : List LaidChain) → AllFit chains → places (all_laid chains) ≡ laid_pages chains
places_all [] fit = refl
places_all (chain ∷ chains) fit = places_both (laid chain.pages chain.pieces) (all_laid chains) ∙ (λ i. places_laid chain.pages chain.pieces fit.0.each i ++ places_all chains fit.1 i)

places_fresh : (fresh : List FreshPage) → map page_of fresh ≡ places (map fresh_of fresh)
places_fresh [] = refl
places_fresh (f ∷ fresh) = ap (λ (pages : List ℕ). f.page ∷ pages) (places_fresh fresh)

pages_written : (present coming after : List Bool) (fresh : List FreshPage) (chains : List LaidChain) → AreLaid present coming after fresh chains → map page_of fresh ≡ laid_pages chains
pages_written present coming after fresh chains are =
    places_fresh fresh ∙ (ap (λ (xs : List (ℕ × List ℕ)). places xs) are.to_write ∙ places_all chains are.fit)

up_to : (page count : ℕ) → pages_up_to (pages_from page (suc count)) ≡ page + suc count
up_to page zero = omega arith
up_to page (suc count) = omega (arith, up_to (page + 1) count)

counted_up : (page n : ℕ) → 1 ≤ n → pages_up_to (pages_from page n) ≡ page + n
counted_up page zero some = absurd (omega (arith, some))
counted_up page (suc n) some = up_to page n

-- there is no table, and so no snapshot
abbrev no_chains : TableChains
no_chains = record { tables = []; snapshots = [] }

-- what stands before the first root: nothing
abbrev before : (rules : WorldRules) → World → Layout (worlds rules)
before rules world =
    formatted false (record { number = 0; directory = 0; half = Second; first = 1; pages = 0; version = 1 })
    (record { version = 1; directory = record { pages = []; text = [] }; chains = [] }) world

abbrev pub first_root : Version → ℕ → ℕ → Root
first_root version directory count = record { number = 1; directory = directory; half = First; first = 1; pages = 514 + count; version = version_number version }

-- files of each version are read
version_known : (version : Version) → IsKnownVersion (version_number version)
unfolding IsKnownVersion
version_known One = inl refl
version_known Two = inr refl

module _ (rules : WorldRules) (version : Version) (present coming between after : List Bool) (fresh more : List FreshPage)
    (chart roster tiles board bytes : List ℕ) (kit : KitChains) (head : ℕ)
    (is_kit : IsKitLaid present coming between fresh (empty_world chart roster tiles board) kit)
    (is : IsLaid present between after bytes fresh more head)
    (bank : Option ℕ) (said : FitsVersion version bank) (banked : rules.banks roster bank)
    (spelled : bytes ≡ spelling version (record { bank = bank; kit = kit; tables = []; snapshots = [] })) (turn : AreInTurn present coming 0)
    (chart_short : length chart ≤ 65536) (roster_short : length roster ≤ 65536) (tiles_short : length tiles ≤ 65536)
    (board_short : length board ≤ 65536) (few : length more ≤ 1000) where
  abbrev world : World
  world = empty_world chart roster tiles board

  abbrev texts : TextChains
  texts = record { chart = laid_as is_kit.chart; roster = laid_as is_kit.roster; tiles = laid_as is_kit.tiles; board = laid_as is_kit.board }

  abbrev kit_chains : List LaidChain
  kit_chains = is_kit.chart ∷ is_kit.roster ∷ is_kit.tiles ∷ is_kit.board ∷ []

  last : OneLaid present coming after more kit_chains bytes head
  last = one_more_laid present coming between after fresh more kit_chains bytes head is_kit.laid is

  same_kit : kit ≡ (directory_for bank texts no_chains world []).kit
  same_kit = λ i. record { chart = is_kit.to_chart.named i; roster = is_kit.to_roster.named i; tiles = is_kit.to_tiles.named i; board = is_kit.to_board.named i }

  same_bytes : joined last.chain.pieces ≡ bytes_for version bank texts no_chains world []
  same_bytes = last.whole ∙ (spelled ∙ ap (λ (k : KitChains). spelling version (record { bank = bank; kit = k; tables = []; snapshots = [] })) same_kit)

  is_directory : IsDirectory (directory_for bank texts no_chains world [])
  is_directory =
      let fit = is_kit.laid.fit in
      record {
        is_kit = record {
          is_chart = is_text is_kit.chart chart fit.0 is_kit.to_chart.whole chart_short;
          is_roster = is_text is_kit.roster roster fit.1.0 is_kit.to_roster.whole roster_short;
          is_tiles = is_text is_kit.tiles tiles fit.1.1.0 is_kit.to_tiles.whole tiles_short;
          is_board = is_text is_kit.board board fit.1.1.1.0 is_kit.to_board.whole board_short;
        };
        are_tables = record { each = All-nil IsTable; own_names = λ i j d order within. absurd (omega (arith, within)); few = omega arith };
        are_snapshots = record { each = All-nil (IsSnapshot []); rising = λ i j d order within. absurd (omega (arith, within)); few = omega arith };
      }

  holds_texts : HoldTexts texts no_chains world []
  holds_texts =
      record { of_chart = is_kit.to_chart.whole; of_roster = is_kit.to_roster.whole; of_tiles = is_kit.to_tiles.whole; of_board = is_kit.to_board.whole; of_tables = refl; of_snapshots = refl }

  abbrev chains : List LaidChain
  chains = kit_chains ++ last.chain ∷ []

  laid_turn : laid_pages chains ≡ pages_from 514 (length more)
  laid_turn =
      let took = took_in_turn present coming after 0 (laid_pages chains) turn last.laid.taken in
      let count : length more ≡ length (laid_pages chains) =
      sym (length-map more page_of) ∙ ap (λ (pages : List ℕ). length pages) (pages_written present coming after more chains last.laid) in
      took.are ∙ ap (λ (n : ℕ). pages_from 514 n) (sym count)

  some_pages : 1 ≤ length more
  some_pages = omega (arith, laid_length present between after bytes fresh more head is, is.fit.some)

  is_made : IsMade (worlds rules) (before rules world) (first_root version head (length more)) last.chain
      (Fresh is_kit.chart ∷ Fresh is_kit.roster ∷ Fresh is_kit.tiles ∷ Fresh is_kit.board ∷ [])
  is_made =
      let read = read_back rules version bank texts no_chains world [] holds_texts tt (All-nil (λ (snapshot : Snapshot). IsShown rules world snapshot.table snapshot.kept snapshot.bytes)) said banked is_directory in
      let up : pages_up_to (laid_pages chains) ≡ 514 + length more = ap (λ (pages : List ℕ). pages_up_to pages) laid_turn ∙ counted_up 514 (length more) some_pages in
      record {
        next = record { number = omega arith; half = refl; first = refl };
        number = omega arith;
        first_low = omega arith;
        first_high = omega arith;
        version = version_known version;
        pages = omega (arith, up);
        pages_low = omega (arith, some_pages);
        pages_high = omega (arith, few);
        head = last.first;
        fit = last.laid.fit;
        free = (laid_are_free present coming after [] [] more chains turn.marks (empty_has present turn.no_root) turn.taken last.laid).0;
        kept = tt;
        named = subst (λ (b : List ℕ). Heads (version_number version) b (heads_of (laid_as is_kit.chart ∷ laid_as is_kit.roster ∷ laid_as is_kit.tiles ∷ laid_as is_kit.board ∷ []))) (sym same_bytes) read.named;
        spells = subst (λ (b : List ℕ). Spells rules (version_number version) b (texts_of (laid_as is_kit.chart ∷ laid_as is_kit.roster ∷ laid_as is_kit.tiles ∷ laid_as is_kit.board ∷ [])) world) (sym same_bytes) read.spells;
      }

  pub is_new_file : IsNewFile rules (first_root version head (length more)) more world
  is_new_file =
      let drafts = Fresh is_kit.chart ∷ Fresh is_kit.roster ∷ Fresh is_kit.tiles ∷ Fresh is_kit.board ∷ [] in
      let plan = made_is_plan (worlds rules) (before rules world) (first_root version head (length more)) last.chain drafts is_made tt tt in
      record {
        holding = (plan_made (first_root version head (length more)) last.chain drafts).holding;
        first_root = record { number = refl; half = refl; first = refl; version = version_known version };
        in_turn = pages_written present coming after more chains last.laid ∙ laid_turn;
        count = refl;
        spare = subst (λ (xs : List (ℕ × List ℕ)). AreSpare [] xs) (sym last.laid.to_write) plan.spare;
        sound = plan.sound;
        spells = λ file stand. plan.spells file tt (subst (λ (xs : List (ℕ × List ℕ)). AllStand file xs) last.laid.to_write stand);
      }

-- a directory without tables has 50 bytes, and eight of its bank
chain_bytes : (chain : ChainRef) → length (spelled_chain chain) ≡ 12
chain_bytes chain = omega (arith, length-append (spelled_number 8 chain.head) (spelled_number 4 chain.length), length-spelled_number 8 chain.head, length-spelled_number 4 chain.length)

rest_bytes : (bank : Option ℕ) (kit : KitChains) → length (spelled_rest (record { bank = bank; kit = kit; tables = []; snapshots = [] })) ≡ 50
rest_bytes bank kit =
    let a = spelled_chain kit.chart in
    let b = spelled_chain kit.roster in
    let c = spelled_chain kit.tiles in
    let d = spelled_chain kit.board in
    let n = spelled_number 2 0 ++ [] in
    let t = n ++ [] in
    omega (arith, length-append (a ++ (b ++ (c ++ d))) t, length-append a (b ++ (c ++ d)), length-append b (c ++ d), length-append c d, chain_bytes kit.chart, chain_bytes kit.roster, chain_bytes kit.tiles, chain_bytes kit.board, length-append n [], length-append (spelled_number 2 0) [], length-spelled_number 2 0)

bank_bytes : (bank : Option ℕ) → length (spelled_bank bank) ≤ 8
bank_bytes None = omega arith
bank_bytes (Some bank) = omega (arith, length-spelled_number 8 bank)

directory_bytes : (version : Version) (bank : Option ℕ) (kit : KitChains) (bytes : List ℕ) → bytes ≡ spelling version (record { bank = bank; kit = kit; tables = []; snapshots = [] })
    → (50 ≤ length bytes) × (length bytes ≤ 58)
directory_bytes One bank kit bytes is =
    let all = ap (λ (xs : List ℕ). length xs) is in
    (omega (arith, all, rest_bytes bank kit), omega (arith, all, rest_bytes bank kit))
directory_bytes Two bank kit bytes is =
    let all = ap (λ (xs : List ℕ). length xs) is in
    let both = length-append (spelled_bank bank) (spelled_rest (record { bank = bank; kit = kit; tables = []; snapshots = [] })) in
    (omega (arith, all, both, rest_bytes bank kit), omega (arith, all, both, rest_bytes bank kit, bank_bytes bank))

pub directory_few : (version : Version) (bank : Option ℕ) (kit : KitChains) (bytes : List ℕ) → bytes ≡ spelling version (record { bank = bank; kit = kit; tables = []; snapshots = [] }) → length bytes ≤ 65536
directory_few version bank kit bytes is = omega (arith, (directory_bytes version bank kit bytes is).1)

-- and so one page
pub directory_page : (version : Version) (bank : Option ℕ) (kit : KitChains) (bytes : List ℕ) → bytes ≡ spelling version (record { bank = bank; kit = kit; tables = []; snapshots = [] }) → pages_for (length bytes) ≡ 1
directory_page version bank kit bytes is =
    let most = (directory_bytes version bank kit bytes is).1 in
    let least = (directory_bytes version bank kit bytes is).0 in
    omega (arith, most, least)
