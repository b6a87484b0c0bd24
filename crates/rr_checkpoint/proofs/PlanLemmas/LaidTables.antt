-- Chains of tables that are laid one after another.
use Rattle.std.proofs.Common.{◌≡◌, inl, inr, ℕ, suc, ◌+◌, ◌^◌, ◌<◌, ◌≤◌, Bool, List, [], ◌∷◌, ◌++◌, length, map, take, get_or, refl, sym, ◌∙◌, ap, subst, arith, length-append}
use Rattle.std.proofs.lemmas.List.{length-map, map_more, map-append, take-map}
use Rattle.std.proofs.lemmas.List.Sums.{sum_by_push, sum_by-take-le}
use Rattle.std.proofs.lemmas.Bool.{cases_lt}
use Rattle.rr_reading.specs.declared.dir.directory.TableEntry.{TableEntry}
use Rattle.rr_images.specs.Holding.{texts_of}
use Rattle.rr_images.specs.Laws.{OneLaid}
use Rattle.rr_images.specs.Plans.{LaidChain, laid_as, all_laid, laid_pages, AllFit, AreLaid}
use Rattle.rr_images.proofs.Laid.{nothing_laid, one_more_laid}
use Rattle.rr_pages.specs.declared.chain.FreshPage.{FreshPage}
use Rattle.rr_pages.specs.Laying.{head_of, laid, joined, FitEach, pages_for}
use Rattle.rr_pages.specs.Sets.{marked, IsFirstFree, IsFree, NoneFree, TakesFree, TooFewFree}
use Rattle.rr_pages.specs.Writing.{fresh_of, IsLaid}
use Rattle.rr_checkpoint.specs.declared.plan.table.TableTranscript.{TableTranscript}
use Rattle.rr_checkpoint.specs.Plan.Laying.{entry_at, table_pages, AreTablesLaid}
use Rattle.rr_checkpoint.specs.Plan.Transcript.{table_of}
use Rattle.rr_reading.specs.Worlds.Spelling.{entry_for, entries_for}
use Rattle.rr_reading.specs.Worlds.World.{Table, text_for}

-- how many pages a chain takes
laid_count : (pages : List ℕ) (pieces : List (List ℕ)) → FitEach pages pieces → length (laid pages pieces) ≡ length pages
laid_count [] pieces fit = refl
laid_count (page ∷ pages) [] fit = absurd fit
laid_count (page ∷ pages) (piece ∷ pieces) fit = ap suc (laid_count pages pieces fit.3)

pub laid_length : (present coming after : List Bool) (bytes : List ℕ) (old new : List FreshPage) (head : ℕ) → (is : IsLaid present coming after bytes old new head) → length new ≡ length old + length is.pages
laid_length present coming after bytes old new head is =
    sym (length-map new fresh_of) ∙ (ap (λ (xs : List (ℕ × List ℕ)). length xs) is.fresh ∙ (length-append (map fresh_of old) (laid is.pages is.pieces)
    ∙ (λ i. length-map old fresh_of i + laid_count is.pages is.pieces is.fit.each i)))

pub some_laid : (present coming after : List Bool) (bytes : List ℕ) (old new : List FreshPage) (head : ℕ) → IsLaid present coming after bytes old new head → 0 < length new
some_laid present coming after bytes old new head is = omega (arith, laid_length present coming after bytes old new head is, is.fit.some)

-- the first page of a chain that was laid
pub head_under : (pages : List ℕ) (pieces : List (List ℕ)) → FitEach pages pieces → head_of pages < 2 ^ 64
head_under [] pieces fit = omega arith
head_under (page ∷ pages) [] fit = absurd fit
head_under (page ∷ pages) (piece ∷ pieces) fit = omega (arith, fit.1)

-- how many all chains take
all_count : (chains : List LaidChain) → AllFit chains → length (all_laid chains) ≡ length (laid_pages chains)
all_count [] fit = refl
all_count (chain ∷ chains) fit =
    omega (arith, length-append (laid chain.pages chain.pieces) (all_laid chains), length-append chain.pages (laid_pages chains), laid_count chain.pages chain.pieces fit.0.each, all_count chains fit.1)

pub fresh_count : (present coming after : List Bool) (fresh : List FreshPage) (chains : List LaidChain) → AreLaid present coming after fresh chains → length fresh ≡ length (laid_pages chains)
fresh_count present coming after fresh chains are =
    sym (length-map fresh fresh_of) ∙ (ap (λ (xs : List (ℕ × List ℕ)). length xs) are.to_write ∙ all_count chains are.fit)

pub texts_last : (chains : List LaidChain) (chain : LaidChain) → texts_of (map laid_as (chains ++ chain ∷ [])) ≡ texts_of (map laid_as chains) ++ joined chain.pieces ∷ []
texts_last [] chain = refl
texts_last (first ∷ chains) chain = ap (λ (texts : List (List ℕ)). joined first.pieces ∷ texts) (texts_last chains chain)

entries_last : (chains : List LaidChain) (chain : LaidChain) (tables : List Table) (table : Table) → texts_of (map laid_as chains) ≡ map text_for tables
    → entries_for (map laid_as (chains ++ chain ∷ [])) (tables ++ table ∷ []) ≡ entries_for (map laid_as chains) tables ++ entry_for (laid_as chain) table ∷ []
entries_last [] chain [] table same = refl
entries_last [] chain (other ∷ tables) table same = absurd (cc)
entries_last (first ∷ chains) chain [] table same = absurd (cc)
entries_last (first ∷ chains) chain (other ∷ tables) table same =
    let rest : texts_of (map laid_as chains) ≡ map text_for tables = cc in
    ap (λ (entries : List TableEntry). entry_for (laid_as first) other ∷ entries) (entries_last chains chain tables table rest)

entry_is : (chain : LaidChain) (table : Table) (entry : TableEntry) → joined chain.pieces ≡ text_for table → entry.chain.head ≡ head_of chain.pages → entry ≡ entry_at entry.chain.head table → entry ≡ entry_for (laid_as chain) table
entry_is chain table entry whole first is =
    is ∙ (λ i. record { name = table.name; stamp = table.kept.stamp; floor = table.kept.floor; kept = length table.kept.commands; chain = record { head = first i; length = length (sym whole i) } })

-- no table
pub none_laid : (present coming : List Bool) (fresh : List FreshPage) (entries : List TableEntry) → fresh ≡ [] → entries ≡ [] → AreTablesLaid present coming coming fresh [] entries
none_laid present coming fresh entries nothing none =
    record {
      laid = [];
      in_turn = subst (λ (pages : List FreshPage). AreLaid present coming coming pages []) (sym nothing) (nothing_laid present coming);
      texts = refl;
      named = none;
      counted = omega arith;
    }

-- one table more
pub one_more : (present coming between after : List Bool) (fresh more : List FreshPage) (tables : List Table) (table : Table) (entries : List TableEntry) (entry : TableEntry)
    → AreTablesLaid present coming between fresh tables entries → IsLaid present between after (text_for table) fresh more entry.chain.head → entry ≡ entry_at entry.chain.head table
    → length more ≡ length fresh + pages_for (length (text_for table)) → AreTablesLaid present coming after more (tables ++ table ∷ []) (entries ++ entry ∷ [])
one_more present coming between after fresh more tables table entries entry so_far is named count =
    let chains = so_far.laid in
    let one : OneLaid present coming after more chains (text_for table) entry.chain.head = one_more_laid present coming between after fresh more chains (text_for table) entry.chain.head so_far.in_turn is in
    record {
      laid = chains ++ one.chain ∷ [];
      in_turn = one.laid;
      texts = texts_last chains one.chain ∙ ((λ i. so_far.texts i ++ one.whole i ∷ []) ∙ sym (map-append text_for tables (table ∷ [])));
      named = (λ i. so_far.named i ++ entry_is one.chain table entry one.whole one.first named i ∷ []) ∙ sym (entries_last chains one.chain tables table so_far.texts);
      counted = omega (
        arith,
        so_far.counted,
        sum_by_push (λ (t : Table). pages_for (length (text_for t))) tables table,
        fresh_count present coming between fresh chains so_far.in_turn,
        fresh_count present coming after more (chains ++ one.chain ∷ []) one.laid,
        count,
      );
    }

-- the tables of a transcript, as far as they are laid
pub tables_more : (parts : List TableTranscript) (n : ℕ) (part : TableTranscript) → n < length parts → part ≡ get_or parts n part → map table_of (take (n + 1) parts) ≡ map table_of (take n parts) ++ table_of part ∷ []
tables_more parts n part within item =
    map_more table_of parts n part within ∙ ap (λ (p : TableTranscript). map table_of (take n parts) ++ table_of p ∷ []) (sym item)

map_take : (parts : List TableTranscript) (n : ℕ) → table_pages (map table_of (take n parts)) ≤ table_pages (map table_of parts)
map_take parts n =
    subst (λ (ts : List Table). table_pages ts ≤ table_pages (map table_of parts)) (take-map table_of n parts) (sum_by-take-le (λ (t : Table). pages_for (length (text_for t))) (map table_of parts) n)

-- pages that are taken behind others
pub takes_on : (present coming between after : List Bool) (xs ys : List ℕ) → TakesFree present coming xs between → TakesFree present between ys after → TakesFree present coming (xs ++ ys) after
takes_on present coming between after [] ys first then = subst (λ (marks : List Bool). TakesFree present marks ys after) first then
takes_on present coming between after (x ∷ xs) ys first then = (first.0, takes_on present (marked coming x) between after xs ys first.1 then)

-- where too few pages are free behind some that were taken, they were too few for all
pub too_few_behind : (present coming between : List Bool) (pages : List ℕ) (needed all : ℕ) → TakesFree present coming pages between → TooFewFree present between needed → length pages + needed ≤ all → TooFewFree present coming all
too_few_behind present coming between pages needed all takes few within =
    record {
      all = pages ++ few.all;
      after = few.after;
      taken = takes_on present coming between few.after pages few.all takes few.taken;
      none_left = few.none_left;
      fewer = omega (arith, few.fewer, within, length-append pages few.all);
    }

pub too_few_tables : (present coming between : List Bool) (fresh : List FreshPage) (parts : List TableTranscript) (n : ℕ) (part : TableTranscript) (entries : List TableEntry) → n < length parts → part ≡ get_or parts n part
    → AreTablesLaid present coming between fresh (map table_of (take n parts)) entries → TooFewFree present between (pages_for (length (text_for (table_of part)))) → TooFewFree present coming (table_pages (map table_of parts))
too_few_tables present coming between fresh parts n part entries within item so_far few =
    let count = length (text_for (table_of part)) in
    too_few_behind present coming between (laid_pages so_far.laid) (pages_for count) (table_pages (map table_of parts)) so_far.in_turn.taken few
    (omega (
      arith,
      so_far.counted,
      map_take parts (n + 1),
      ap (λ (ts : List Table). table_pages ts) (tables_more parts n part within item),
      sum_by_push (λ (t : Table). pages_for (length (text_for t))) (map table_of (take n parts)) (table_of part),
    ))

-- and where some were taken, they weren't
one_first : (present coming : List Bool) (x y : ℕ) → IsFirstFree present coming x → IsFirstFree present coming y → x ≡ y
one_first present coming x y first other = elim (cases_lt x y) [
  | inl below ↦ absurd (other.first x below first.free)
  | inr behind ↦ elim (cases_lt y x) [
    | inl above ↦ absurd (first.first y above other.free)
    | inr same ↦ omega (arith, behind, same)
  ]
]

all_fit : (present coming after end : List Bool) (xs ys : List ℕ) → TakesFree present coming xs after → TakesFree present coming ys end → NoneFree present end → length xs ≤ length ys
all_fit present coming after end [] ys takes all none = omega arith
all_fit present coming after end (x ∷ xs) [] takes all none = absurd (none x (subst (λ (marks : List Bool). IsFree present marks x) (sym all) takes.0.free))
all_fit present coming after end (x ∷ xs) (y ∷ ys) takes all none =
    let same : y ≡ x = one_first present coming y x all.0 takes.0 in
    let rest = all_fit present (marked coming x) after end xs ys takes.1 (subst (λ (page : ℕ). TakesFree present (marked coming page) ys end) same all.1) none in
    omega (arith, rest)

pub never_too_few : (present coming after : List Bool) (pages : List ℕ) (needed : ℕ) → TakesFree present coming pages after → length pages ≡ needed → TooFewFree present coming needed → ⊥
never_too_few present coming after pages needed takes counted few =
    omega (arith, few.fewer, counted, all_fit present coming after few.after pages few.all takes few.taken few.none_left)

-- the same, told otherwise
pub laid_same : (present other coming start after : List Bool) (fresh : List FreshPage) (tables same : List Table) (entries : List TableEntry) → present ≡ other → coming ≡ start → tables ≡ same
    → AreTablesLaid present coming after fresh tables entries → AreTablesLaid other start after fresh same entries
laid_same present other coming start after fresh tables same entries p q r laid =
    subst (λ (ts : List Table). AreTablesLaid other start after fresh ts entries) r
    (subst (λ (ms : List Bool). AreTablesLaid other ms after fresh tables entries) q (subst (λ (ms : List Bool). AreTablesLaid ms coming after fresh tables entries) p laid))

pub too_few_same : (present other coming start : List Bool) (needed : ℕ) → present ≡ other → coming ≡ start → TooFewFree present coming needed → TooFewFree other start needed
too_few_same present other coming start needed p q few =
    subst (λ (ms : List Bool). TooFewFree other ms needed) q (subst (λ (ms : List Bool). TooFewFree ms coming needed) p few)

-- the next table of a transcript
pub next_laid : (present other coming between after : List Bool) (fresh more : List FreshPage) (parts : List TableTranscript) (n : ℕ) (part : TableTranscript) (entries new : List TableEntry) (entry : TableEntry) → n < length parts → part ≡ get_or parts n part
    → other ≡ present → AreTablesLaid present coming between fresh (map table_of (take n parts)) entries → IsLaid other between after (text_for (table_of part)) fresh more entry.chain.head → entry ≡ entry_at entry.chain.head (table_of part)
    → length more ≡ length fresh + pages_for (length (text_for (table_of part))) → new ≡ entries ++ entry ∷ [] → AreTablesLaid present coming after more (map table_of (take (n + 1) parts)) new
next_laid present other coming between after fresh more parts n part entries new entry within item p so_far is named count grown =
    let here : IsLaid present between after (text_for (table_of part)) fresh more entry.chain.head =
    subst (λ (ms : List Bool). IsLaid ms between after (text_for (table_of part)) fresh more entry.chain.head) p is in
    subst (λ (es : List TableEntry). AreTablesLaid present coming after more (map table_of (take (n + 1) parts)) es) (sym grown)
    (subst (λ (ts : List Table). AreTablesLaid present coming after more ts (entries ++ entry ∷ [])) (sym (tables_more parts n part within item))
    (one_more present coming between after fresh more (map table_of (take n parts)) (table_of part) entries entry so_far here named count))
