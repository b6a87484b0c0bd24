-- The form of what the tables' chains hold, table by table.
use Rattle.std.proofs.Common.{◌≡◌, ◌↔◌, ℕ, zero, suc, ◌+◌, ◌<◌, ◌≤◌, true, List, [], ◌∷◌, ◌++◌, length, take, drop, get_or, refl, sym, ap, ◌∙◌, subst, arith}
use Rattle.std.proofs.lemmas.List.{drop_more, drop_all, length-map, length-take-le, map-append, take-append-drop}
use Rattle.std.proofs.lemmas.Bool.{and_from, and_parts}
use Rattle.rr_images.specs.Holding.{HeldChain}
use Rattle.rr_pages.specs.declared.fault.Damage.{Damage}
use Rattle.rr_pages.specs.declared.fault.Damage.TheVariants.{Form}
use Rattle.rr_pages.specs.declared.reading.FollowedChain.{FollowedChain}
use Rattle.rr_pages.specs.Links.{all_fit, pages_of}
use Rattle.rr_reading.specs.declared.dir.directory.TableEntry.{TableEntry}
use Rattle.rr_reading.specs.declared.fault.Fault.{Fault}
use Rattle.rr_reading.specs.declared.fault.Fault.TheVariants as F
use Rattle.rr_reading.specs.declared.named.FollowedTexts.{FollowedTexts}
use Rattle.rr_reading.specs.Chains.{all_held_in, held_in, HoldsCommands, AreOfForm}
use Rattle.rr_reading.specs.Held.{TextChains, chains_of}
use Rattle.rr_reading.specs.Reading.{HasRoot, IsDamage, Refuses}
use Rattle.rr_reading.specs.Texts.{TextsFit, named_after, texts_held_in}
use Rattle.rr_reading.specs.Told.{RefusesForm}
use Rattle.rr_reading.specs.Lending.Fitting.{each_fits, links_at}
use Rattle.rr_reading.specs.Lending.Pages.{joined}

-- the chain at a place
abbrev pub held_at : List ℕ → List FollowedChain → ℕ → HeldChain
held_at file all index = record { pages = pages_of (links_at all index); text = joined file (links_at all index) }

drop_there : (file : List ℕ) (all : List FollowedChain) (index : ℕ) → index < length all → drop index (all_held_in file all) ≡ held_at file all index ∷ drop (suc index) (all_held_in file all)
drop_there file [] index within = absurd (omega (arith, within))
drop_there file (chain ∷ all) zero within = refl
drop_there file (chain ∷ all) (suc index) within = drop_there file all index (omega (arith, within))

pub drop_held : (file : List ℕ) (all : List FollowedChain) (index : ℕ) → index < length all → drop index (all_held_in file all) ≡ held_at file all index ∷ drop (index + 1) (all_held_in file all)
drop_held file all index within =
    let next : suc index ≡ index + 1 = omega arith in
    drop_there file all index within ∙ ap (λ (n : ℕ). held_at file all index ∷ drop n (all_held_in file all)) next

pub get_held : (file : List ℕ) (all : List FollowedChain) (index : ℕ) (default : HeldChain) → index < length all → held_at file all index ≡ get_or (all_held_in file all) index default
get_held file [] index default within = absurd (omega (arith, within))
get_held file (chain ∷ all) zero default within = refl
get_held file (chain ∷ all) (suc index) default within = get_held file all index default (omega (arith, within))

-- that those from one place on are of their form decides that all are
abbrev pub LeftDecide : List TableEntry → List HeldChain → ℕ → Type 0
LeftDecide entries chains n = AreOfForm (drop n entries) (drop n chains) ↔ AreOfForm entries chains

module _ (file : List ℕ) (entries : List TableEntry) (all : List FollowedChain) (n : ℕ) (entry : TableEntry) (entry_in : n < length entries) (chain_in : n < length all) (entry_is : entry ≡ get_or entries n entry) where
  entries_are : drop n entries ≡ entry ∷ drop (n + 1) entries
  entries_are = subst (λ (e : TableEntry). drop n entries ≡ e ∷ drop (n + 1) entries) (sym entry_is) (drop_more entries n entry entry_in)

  parted : AreOfForm (drop n entries) (drop n (all_held_in file all)) ≡ AreOfForm (entry ∷ drop (n + 1) entries) (held_at file all n ∷ drop (n + 1) (all_held_in file all))
  parted = λ i. AreOfForm (entries_are i) (drop_held file all n chain_in i)

  pub left_more : LeftDecide entries (all_held_in file all) n → HoldsCommands (joined file (links_at all n)) entry.kept → LeftDecide entries (all_held_in file all) (n + 1)
  left_more decide here = (
    λ rest. decide.0 (subst (λ (P : Type 0). P) (sym parted) (here, rest)),
    λ whole. (subst (λ (P : Type 0). P) parted (decide.1 whole)).1,
  )

  pub left_none : LeftDecide entries (all_held_in file all) n → (HoldsCommands (joined file (links_at all n)) entry.kept → ⊥) → AreOfForm entries (all_held_in file all) → ⊥
  left_none decide none whole = none (subst (λ (P : Type 0). P) parted (decide.1 whole)).0

pub all_left : (entries : List TableEntry) (chains : List HeldChain) (n : ℕ) → length entries ≤ n → LeftDecide entries chains n → AreOfForm entries chains
all_left entries chains n past decide = decide.0 (subst (λ (es : List TableEntry). AreOfForm es (drop n chains)) (sym (drop_all n entries past)) tt)

-- what stands behind the chains of tables says nothing of their form
pub forms_behind : (entries : List TableEntry) (tables more : List HeldChain) → AreOfForm entries tables → AreOfForm entries (tables ++ more)
forms_behind [] tables more are = tt
forms_behind (entry ∷ entries) [] more are = absurd are
forms_behind (entry ∷ entries) (table ∷ tables) more are = (are.0, forms_behind entries tables more are.1)

pub forms_before : (entries : List TableEntry) (tables more : List HeldChain) → length entries ≤ length tables → AreOfForm entries (tables ++ more) → AreOfForm entries tables
forms_before [] tables more few are = tt
forms_before (entry ∷ entries) [] more few are = absurd (omega (arith, few))
forms_before (entry ∷ entries) (table ∷ tables) more few are = (are.0, forms_before entries tables more (omega (arith, few)) are.1)

-- chains of texts in front of the others
pub record FourFirst (file : List ℕ) (chains : List FollowedChain) : Type 0 where
  pub texts : TextChains
  pub halves : all_held_in file chains ≡ chains_of texts (all_held_in file (drop 4 chains))

pub four_first : (file : List ℕ) (chains : List FollowedChain) → 4 ≤ length chains → FourFirst file chains
four_first file [] some = absurd (omega (arith, some))
four_first file (a ∷ []) some = absurd (omega (arith, some))
four_first file (a ∷ b ∷ []) some = absurd (omega (arith, some))
four_first file (a ∷ b ∷ c ∷ []) some = absurd (omega (arith, some))
four_first file (a ∷ b ∷ c ∷ d ∷ chains) some = record { texts = record { chart = held_in file a; roster = held_in file b; tiles = held_in file c; board = held_in file d }; halves = refl }

-- each of them lies within the file
pub record PartsFit (count : ℕ) (texts : FollowedTexts) (tables : List FollowedChain) : Type 0 where
  pub texts_fit : TextsFit count texts
  pub tables_fit : each_fits count tables ≡ true

pub parts_fit : (count : ℕ) (texts : FollowedTexts) (tables chains : List FollowedChain) → chains ≡ named_after texts tables → each_fits count chains ≡ true → PartsFit count texts tables
parts_fit count texts tables chains is fit =
    let all : each_fits count (named_after texts tables) ≡ true = ap (each_fits count) (sym is) ∙ fit in
    let a = and_parts (all_fit count texts.chart.links.items) (each_fits count (texts.roster ∷ texts.tiles ∷ texts.board ∷ tables)) all in
    let b = and_parts (all_fit count texts.roster.links.items) (each_fits count (texts.tiles ∷ texts.board ∷ tables)) a.1 in
    let c = and_parts (all_fit count texts.tiles.links.items) (each_fits count (texts.board ∷ tables)) b.1 in
    let d = and_parts (all_fit count texts.board.links.items) (each_fits count tables) c.1 in
    record { texts_fit = record { chart = a.0; roster = b.0; tiles = c.0; board = d.0 }; tables_fit = d.1 }

-- of those at a place, before one and behind one
pub fits_at : (count : ℕ) (chains : List FollowedChain) (n : ℕ) (default : FollowedChain) → each_fits count chains ≡ true → n < length chains → all_fit count (get_or chains n default).links.items ≡ true
fits_at count [] n default fit within = absurd (omega (arith, within))
fits_at count (chain ∷ chains) zero default fit within = (and_parts (all_fit count chain.links.items) (each_fits count chains) fit).0
fits_at count (chain ∷ chains) (suc n) default fit within = fits_at count chains n default (and_parts (all_fit count chain.links.items) (each_fits count chains) fit).1 (omega (arith, within))

pub fits_before : (count : ℕ) (chains : List FollowedChain) (n : ℕ) → each_fits count chains ≡ true → each_fits count (take n chains) ≡ true
fits_before count chains zero fit = refl
fits_before count [] (suc n) fit = refl
fits_before count (chain ∷ chains) (suc n) fit =
    let parts = and_parts (all_fit count chain.links.items) (each_fits count chains) fit in
    and_from (all_fit count chain.links.items) (each_fits count (take n chains)) parts.0 (fits_before count chains n parts.1)

pub fits_behind : (count : ℕ) (chains : List FollowedChain) (n : ℕ) → each_fits count chains ≡ true → each_fits count (drop n chains) ≡ true
fits_behind count chains zero fit = fit
fits_behind count [] (suc n) fit = refl
fits_behind count (chain ∷ chains) (suc n) fit = fits_behind count chains n (and_parts (all_fit count chain.links.items) (each_fits count chains) fit).1

-- chains that were parted behind those of tables
pub held_parted : (file : List ℕ) (chains tables more : List FollowedChain) (n : ℕ) → tables ≡ take n chains → more ≡ drop n chains → all_held_in file chains ≡ all_held_in file tables ++ all_held_in file more
held_parted file chains tables more n before behind =
    let all : chains ≡ tables ++ more = sym (take-append-drop n chains) ∙ (λ i. sym before i ++ sym behind i) in
    ap (all_held_in file) all ∙ map-append (held_in file) tables more

-- of a disk that has later what it had: the chains behind those of tables needn't be of any form
pub forms_parted : (file now : List ℕ) (entries judged : List TableEntry) (rest tables : List FollowedChain) (n : ℕ) → now ≡ file → judged ≡ entries → tables ≡ take n rest → n ≡ length entries → n ≤ length rest → AreOfForm entries (all_held_in file rest)
    → AreOfForm judged (all_held_in now tables)
forms_parted file now entries judged rest tables n same same_entries before few within are =
    let more = all_held_in file (drop n rest) in
    let there : AreOfForm entries (all_held_in file tables ++ more) = subst (λ (cs : List HeldChain). AreOfForm entries cs) (held_parted file rest tables (drop n rest) n before refl) are in
    let long : length tables ≡ n = ap (λ (cs : List FollowedChain). length cs) before ∙ length-take-le n rest within in
    let here = forms_before entries (all_held_in file tables) more (omega (arith, few, long, length-map tables (held_in file))) there in
    subst (λ (P : Type 0). P) (λ i. AreOfForm (sym same_entries i) (all_held_in (sym same i) tables)) here

-- all chains that a directory names, by what was read of each part
pub held_named : (file now : List ℕ) (chains rest tables lent more read : List FollowedChain) (followed : FollowedTexts) (n : ℕ) (texts : TextChains) (snapshots : List HeldChain) → chains ≡ named_after followed rest → tables ≡ take n rest → lent ≡ tables → more ≡ drop n rest → read ≡ more
    → now ≡ file → texts ≡ texts_held_in file followed → snapshots ≡ all_held_in now read → all_held_in file chains ≡ chains_of texts (all_held_in file lent ++ snapshots)
held_named file now chains rest tables lent more read followed n texts snapshots named before lent_are behind read_are same texts_are snapshots_are =
    let of_lent : all_held_in file tables ≡ all_held_in file lent = ap (all_held_in file) (sym lent_are) in
    let of_read : all_held_in file more ≡ snapshots = (λ i. all_held_in (sym same i) (sym read_are i)) ∙ sym snapshots_are in
    let others : all_held_in file rest ≡ all_held_in file lent ++ snapshots = held_parted file rest tables more n before behind ∙ (λ i. of_lent i ++ of_read i) in
    ap (all_held_in file) named ∙ (λ i. chains_of (sym texts_are i) (others i))

-- what is told of the form of tables
pub refuses_form : (file : List ℕ) (fault : Fault) (P : Type 0) → RefusesForm fault P → ((P → ⊥) → IsDamage file Form) → HasRoot file → Refuses file fault
refuses_form file (F.Damaged damage) P told damaged has = subst (λ (d : Damage). IsDamage file d) (sym told.0) (damaged told.1)
refuses_form file F.NotAStore P told damaged has = absurd told
refuses_form file (F.Disk fault) P told damaged has = tt
refuses_form file F.OutOfMemory P told damaged has = has

-- what refuses a form refuses each that needs it
pub forms_along : (fault : Fault) (P Q : Type 0) → (Q → P) → RefusesForm fault P → RefusesForm fault Q
forms_along (F.Damaged damage) P Q so told = (told.0, λ q. told.1 (so q))
forms_along F.NotAStore P Q so told = told
forms_along (F.Disk fault) P Q so told = tt
forms_along F.OutOfMemory P Q so told = tt
