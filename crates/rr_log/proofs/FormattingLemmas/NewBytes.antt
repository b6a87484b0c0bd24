-- How the bytes of a new file come to stand, write by write.
use Rattle.std.proofs.Common.{◌≡◌, inl, inr, ℕ, zero, suc, ◌+◌, ◌-◌, ◌*◌, ◌<◌, ◌≤◌, List, [], ◌∷◌, ◌++◌, length, map, drop, slice_index, get_or, replicate, refl, sym, ◌∙◌, ap, subst, arith, length-append, length-drop}
use Rattle.std.specs.List.{flat_map}
use Rattle.std.proofs.lemmas.Bool.{cases_lt}
use Rattle.std.proofs.lemmas.List.{append_assoc, append-nil, get_or_past, get_or_append_left, get_or-append_right, get_or-drop, get_or-replicate, length-replicate}
use Rattle.rr_disk.specs.Calls.{Write, Account, after_step, after_steps}
use Rattle.rr_disk.specs.Disk.{Torn, written, after_write}
use Rattle.rr_disk.proofs.ImageLemmas.{length-written, written_before, written_inside, written_behind}
use Rattle.rr_images.specs.Progress.{AreSpare}
use Rattle.rr_images.proofs.Ticks.{stands_written}
use Rattle.rr_pages.proofs.JournalLemmas.Appends.{content_written}
use Rattle.rr_pages.specs.declared.chain.FreshPage.{FreshPage}
use Rattle.rr_pages.specs.declared.root.Root.{Root}
use Rattle.rr_pages.specs.Laying.{AllStand}
use Rattle.rr_pages.specs.Pages.{StandsAt}
use Rattle.rr_pages.specs.Roots.{root_bytes}
use Rattle.rr_pages.specs.Writing.{fresh_of}
use Rattle.rr_pages.proofs.Bytes.{at_same}
use Rattle.rr_pages.proofs.RootSpelling.{length-root}
use Rattle.rr_log.specs.Formatting.Calls.{page_call, zero_calls, zero_page, zeros_from}
use Rattle.rr_log.specs.Formatting.Formatted.{HasNewBytes}
use Rattle.rr_log.specs.Formatting.InTurn.{pages_from}
use Rattle.rr_log.specs.Formatting.NewFile.{page_of}
use Rattle.rr_log.proofs.FormattingLemmas.Blank.{AreGatesShut}
use Rattle.rr_log.proofs.FormattingLemmas.Calls.{length-zero_page, zero_page_is}

-- the bytes of pages, one page after another
abbrev bytes_of : FreshPage → List ℕ
bytes_of fresh = fresh.bytes.items

abbrev pub all_bytes : List FreshPage → List ℕ
all_bytes fresh = flat_map bytes_of fresh

-- pages that follow one another
abbrev tail_of : List ℕ → List ℕ
tail_of [] = []
tail_of (x ∷ xs) = xs

pub length-all : (reached : List ℕ) (fresh : List FreshPage) → AreSpare reached (map fresh_of fresh) → length (all_bytes fresh) ≡ 4096 * length fresh
length-all reached [] spare = refl
length-all reached (x ∷ fresh) spare =
    omega (arith, length-append (bytes_of x) (all_bytes fresh), spare.1, length-all (x.page ∷ reached) fresh spare.3)

pub stand_in_turn : (file : List ℕ) (page : ℕ) (reached : List ℕ) (fresh : List FreshPage) → map page_of fresh ≡ pages_from page (length fresh)
    → AreSpare reached (map fresh_of fresh) → 4096 * (page + length fresh) ≤ length file → StandsAt file (4096 * page) (all_bytes fresh)
    → AllStand file (map fresh_of fresh)
stand_in_turn file page reached [] turn spare long stands = tt
stand_in_turn file page reached (x ∷ fresh) turn spare long stands =
    let here : x.page ≡ page = ap (λ (pages : List ℕ). get_or pages 0 0) turn in
    let later : map page_of fresh ≡ pages_from (page + 1) (length fresh) = ap tail_of turn in
    let whole : length (bytes_of x) ≡ 4096 = spare.1 in
    let rest = all_bytes fresh in (
      (
        omega (arith, here, long),
        λ i h. at_same file (4096 * x.page + i) (4096 * page + i) (omega (arith, here))
            ∙ (stands i (omega (arith, h, length-append (bytes_of x) rest)) ∙ get_or_append_left (bytes_of x) rest 0 i h),
      ),
      stand_in_turn file (page + 1) (x.page ∷ reached) fresh later spare.3 (omega (arith, long))
          (λ i h. at_same file (4096 * (page + 1) + i) (4096 * page + (4096 + i)) (omega arith)
          ∙ (stands (4096 + i) (omega (arith, h, whole, length-append (bytes_of x) rest))
          ∙ (get_or-append_right (bytes_of x) rest 4096 (4096 + i) 0 whole (omega arith) ∙ at_same rest (4096 + i - 4096) i (omega arith)))),
    )

-- first zeros up to the data pages
pub record HasHeader (file : List ℕ) : Type 0 where
  pub ends : length file ≡ 4096 * 514
  pub zeros : (i : ℕ) → i < 4096 * 514 → slice_index file i ≡ 0

pub header_written : (file : List ℕ) (at : ℕ) → length file ≡ 0 → at + 1 ≡ 4096 * 514 → HasHeader (written file at (0 ∷ []))
header_written file at empty last =
    record {
      ends = omega (arith, length-written file at (0 ∷ []), empty, last);
      zeros = λ i h. elim (cases_lt i at) [
        | inl before ↦ written_before file at (0 ∷ []) i before ∙ get_or_past file i 0 (omega (arith, empty))
        | inr behind ↦ written_inside file at (0 ∷ []) i behind (omega (arith, last, h)) ∙ at_same (0 ∷ []) (i - at) 0 (omega (arith, last, h))
      ];
    }

-- and zeros among them written once more, so that no hole is left
zero_in : (zeros : List ℕ) (n : ℕ) → zeros ≡ replicate n 0 → (i : ℕ) → get_or zeros i 0 ≡ 0
zero_in zeros n same i = elim (cases_lt i n) [
  | inl inside ↦ ap (λ (bytes : List ℕ). get_or bytes i 0) same ∙ get_or-replicate n i 0 0 inside
  | inr past ↦ get_or_past zeros i 0 (omega (arith, past, ap (λ (bytes : List ℕ). length bytes) same, length-replicate {A = ℕ} n 0))
]

zero_at : (i : ℕ) → get_or zero_page i 0 ≡ 0
zero_at i = zero_in zero_page 4096 (sym zero_page_is) i

pub zeros_written : (file : List ℕ) (at : ℕ) (zeros : List ℕ) → HasHeader file → at + length zeros ≤ 4096 * 514 → ((i : ℕ) → get_or zeros i 0 ≡ 0) → HasHeader (written file at zeros)
zeros_written file at zeros has within none =
    record {
      ends = omega (arith, length-written file at zeros, has.ends, within);
      zeros = λ i h. elim (cases_lt i at) [
        | inl before ↦ written_before file at zeros i before ∙ has.zeros i h
        | inr low ↦ elim (cases_lt i (at + length zeros)) [
          | inl high ↦ written_inside file at zeros i low high ∙ none (i - at)
          | inr behind ↦ written_behind file at zeros i behind ∙ has.zeros i h
        ]
      ];
    }

-- page by page
zero_pages_there : (page count : ℕ) (old : Account) → page + count ≤ 514 → HasHeader old.state.content → HasHeader (after_steps old (zeros_from page count)).state.content
unfolding zeros_from
zero_pages_there page zero old few has = has
zero_pages_there page (suc count) old few has =
    let first : HasHeader (after_write old.state (4096 * page) zero_page).content =
    subst (λ (file : List ℕ). HasHeader file) (sym (content_written old.state (4096 * page) zero_page (omega (arith, length-zero_page))))
    (zeros_written old.state.content (4096 * page) zero_page has (omega (arith, few, length-zero_page)) zero_at) in
    zero_pages_there (page + 1) count (after_step old (Write (4096 * page) zero_page)) (omega (arith, few)) first

pub zeros_there : (old : Account) → HasHeader old.state.content → HasHeader (after_steps old zero_calls).state.content
zeros_there old has =
    let first : HasHeader (after_write old.state 4097 (drop 1 zero_page)).content =
    subst (λ (file : List ℕ). HasHeader file) (sym (content_written old.state 4097 (drop 1 zero_page) (omega (arith, length-drop 1 zero_page, length-zero_page))))
    (zeros_written old.state.content 4097 (drop 1 zero_page) has (omega (arith, length-drop 1 zero_page, length-zero_page))
    (λ i. get_or-drop 1 zero_page i 0 ∙ zero_at (1 + i))) in
    zero_pages_there 2 512 (after_step old (Write 4097 (drop 1 zero_page))) (omega arith) first

pub header_shut : (file : List ℕ) → HasHeader file → AreGatesShut file
header_shut file has =
    record { long = omega (arith, has.ends); first = has.zeros 0 (omega arith); second = has.zeros 4096 (omega arith) }

-- then the data pages behind them
pub record HasPages (bytes file : List ℕ) : Type 0 where
  pub ends : length file ≡ 4096 * 514 + length bytes
  pub zeros : (i : ℕ) → i < 4096 * 514 → slice_index file i ≡ 0
  pub there : StandsAt file (4096 * 514) bytes

no_pages : (file : List ℕ) → HasHeader file → HasPages [] file
no_pages file has = record { ends = omega (arith, has.ends); zeros = has.zeros; there = λ i h. absurd (omega (arith, h)) }

page_written : (file bytes more : List ℕ) (at : ℕ) → at ≡ 4096 * 514 + length bytes → HasPages bytes file → HasPages (bytes ++ more) (written file at more)
page_written file bytes more at place has =
    record {
      ends = omega (arith, length-written file at more, has.ends, place, length-append bytes more);
      zeros = λ i h. written_before file at more i (omega (arith, h, place)) ∙ has.zeros i h;
      there = λ i h. elim (cases_lt i (length bytes)) [
        | inl before ↦
            written_before file at more (4096 * 514 + i) (omega (arith, before, place))
            ∙ (has.there i before ∙ sym (get_or_append_left bytes more 0 i before))
        | inr behind ↦
            written_inside file at more (4096 * 514 + i) (omega (arith, behind, place)) (omega (arith, h, place, length-append bytes more))
            ∙ (at_same more (4096 * 514 + i - at) (i - length bytes) (omega (arith, place, behind)) ∙ sym (get_or-append_right bytes more (length bytes) i 0 refl behind))
      ];
    }

pages_from_there : (page : ℕ) (reached : List ℕ) (bytes : List ℕ) (fresh : List FreshPage) (old : Account) → map page_of fresh ≡ pages_from page (length fresh) → AreSpare reached (map fresh_of fresh)
    → 4096 * page ≡ 4096 * 514 + length bytes → HasPages bytes old.state.content → HasPages (bytes ++ all_bytes fresh) (after_steps old (map page_call fresh)).state.content
pages_from_there page reached bytes [] old turn spare place has = subst (λ (all : List ℕ). HasPages all old.state.content) (sym (append-nil bytes)) has
pages_from_there page reached bytes (x ∷ fresh) old turn spare place has =
    let here : x.page ≡ page = ap (λ (pages : List ℕ). get_or pages 0 0) turn in
    let later : map page_of fresh ≡ pages_from (page + 1) (length fresh) = ap tail_of turn in
    let whole : length (bytes_of x) ≡ 4096 = spare.1 in
    let first : HasPages (bytes ++ bytes_of x) (after_write old.state (4096 * x.page) (bytes_of x)).content =
    subst (λ (file : List ℕ). HasPages (bytes ++ bytes_of x) file) (sym (content_written old.state (4096 * x.page) (bytes_of x) (omega (arith, whole))))
    (page_written old.state.content bytes (bytes_of x) (4096 * x.page) (omega (arith, here, place)) has) in
    let rest : HasPages ((bytes ++ bytes_of x) ++ all_bytes fresh) (after_steps old (map page_call (x ∷ fresh))).state.content =
    pages_from_there (page + 1) (x.page ∷ reached) (bytes ++ bytes_of x) fresh (after_step old (page_call x)) later spare.3
    (omega (arith, place, whole, length-append bytes (bytes_of x))) first in
    subst (λ (all : List ℕ). HasPages all (after_steps old (map page_call (x ∷ fresh))).state.content) (append_assoc bytes (bytes_of x) (all_bytes fresh)) rest

pub pages_there : (fresh : List FreshPage) (old : Account) → map page_of fresh ≡ pages_from 514 (length fresh) → AreSpare [] (map fresh_of fresh) → HasHeader old.state.content
    → HasPages (all_bytes fresh) (after_steps old (map page_call fresh)).state.content
pages_there fresh old turn spare has = pages_from_there 514 [] [] fresh old turn spare (omega arith) (no_pages old.state.content has)

-- then the root behind its shut gate
pub record HasRoot (root : Root) (bytes file : List ℕ) : Type 0 where
  pub ends : length file ≡ 4096 * 514 + length bytes
  pub root_there : StandsAt file 1 (root_bytes root)
  pub zeros : (i : ℕ) → 36 ≤ i → i < 4096 * 514 → slice_index file i ≡ 0
  pub there : StandsAt file (4096 * 514) bytes

pub root_written : (file bytes : List ℕ) (root : Root) → HasPages bytes file → HasRoot root bytes (written file 1 (root_bytes root))
root_written file bytes root has =
    let size = length-root root in
    record {
      ends = omega (arith, length-written file 1 (root_bytes root), size, has.ends);
      root_there = stands_written file 1 (root_bytes root);
      zeros = λ i low high. written_behind file 1 (root_bytes root) i (omega (arith, size, low)) ∙ has.zeros i high;
      there = λ i h. written_behind file 1 (root_bytes root) (4096 * 514 + i) (omega (arith, size)) ∙ has.there i h;
    }

-- and last the gate, whether a stop tears it or not
pub gate_opened : (old new : List ℕ) (root : Root) (fresh : List FreshPage) → map page_of fresh ≡ pages_from 514 (length fresh) → root.pages ≡ 514 + length fresh
    → AreSpare [] (map fresh_of fresh) → HasRoot root (all_bytes fresh) old → Torn 0 1 old new → slice_index new 0 ≡ 0xa5 → HasNewBytes root fresh new
gate_opened old new root fresh turn count spare has torn open_gate =
    let size = length-root root in
    let all = length-all [] fresh spare in
    let long : length new ≡ length old = omega (arith, torn.no_shorter, torn.no_longer, has.ends) in
    record {
      open_gate = open_gate;
      root_there = λ i h. torn.same (1 + i) (omega (arith, h, size, has.ends)) (inr (omega arith)) ∙ has.root_there i h;
      zeros = λ i low high. torn.same i (omega (arith, high, has.ends)) (inr (omega (arith, low))) ∙ has.zeros i low high;
      pages = stand_in_turn new 514 [] fresh turn spare (omega (arith, long, has.ends, all))
          (λ i h. torn.same (4096 * 514 + i) (omega (arith, h, has.ends)) (inr (omega arith)) ∙ has.there i h);
      ends = omega (arith, long, has.ends, all, count);
    }
