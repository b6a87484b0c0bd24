-- Following a chain from page to page.
use Rattle.std.proofs.Common.{◌≡◌, ◌≢◌, ◌⊎◌, inl, inr, ℕ, zero, suc, ◌+◌, ◌*◌, ◌<◌, ◌≤◌, Bool, true, false, ◌||◌, ◌&&◌, List, [], ◌∷◌, ◌++◌, length, get_or, sum_by, nat_lt, ◌==◌, if◌then◌else◌, Option, Some, None, Result, Err, refl, sym, ◌∙◌, ap, subst, arith, length-append}
use Rattle.std.specs.List.{list_any}
use Rattle.std.proofs.lemmas.Bool.{and_from, and_parts, or_parts, or_from, ltb-true, lt-ltb, ltb-false, le-ltb, eq-eqb, cond-true, cond-false, cases_eq}
use Rattle.std.proofs.lemmas.List.{map-append, append_assoc, append-nil, length-set}
use Rattle.std.proofs.lemmas.List.Sums.{sum_by-cons}
use Rattle.rr_pages.specs.declared.fault.Damage.{Damage}
use Rattle.rr_pages.specs.declared.fault.Damage.TheVariants.{PageOutside, PageTwice, UsedBytes, Form}
use Rattle.rr_pages.specs.declared.fault.Fault.{Fault}
use Rattle.rr_pages.specs.declared.fault.Fault.TheVariants.{FileFull, HalfFull, Damaged, NotAStore, Disk, OutOfMemory}
use Rattle.rr_pages.specs.declared.reading.Link.{Link}
use Rattle.rr_pages.specs.Pages.{IsData, IsIn, AllApart, AreData}
use Rattle.rr_pages.specs.Chains.{next_of, used_of, Links, Chain}
use Rattle.rr_pages.specs.Sets.{IsMarked, marked, all_marked, Has}
use Rattle.rr_pages.specs.Walk.{Walk, length_damage, damage_of}
use Rattle.rr_pages.specs.Faults.{OnDeviceFault}
use Rattle.rr_pages.specs.Links.{all_fit, pages_of, AreLinks, AreBelow, EndsPast, Gathers, AddsPiece, links_damage, judged}
use Rattle.rr_pages.specs.Reading.{BeginsAnew, IsUnbroken, IsWhole, IsBroken}
use Rattle.rr_pages.proofs.SetLemmas.{not_both, in_last, has_more}

few_of : (over : Bool) (other : Option Damage) → (if over then Some UsedBytes else other) ≡ None → over ≡ false
few_of true other none = absurd (cc)
few_of false other none = refl

module _ (file : List ℕ) where
  -- a page more behind those that were followed
  pub are_links_last : (links : List Link) (link : Link) → AreLinks file links → link.used ≡ used_of file link.page → AreLinks file (links ++ link ∷ [])
  are_links_last [] link are used = (used, tt)
  are_links_last (first ∷ links) link are used = (are.0, are_links_last links link are.1 used)

  pub gathers_last : (links : List Link) (link : Link) (old new : List ℕ) → Gathers file links old → AddsPiece file link.page link.used old new → Gathers file (links ++ link ∷ []) new
  gathers_last [] link old new gathers adds = (adds.0, [], adds.1 ∙ (ap (λ (xs : List ℕ). xs ++ adds.0) gathers ∙ sym (append-nil adds.0)), adds.2, adds.3, refl)
  gathers_last (first ∷ links) link old new gathers adds = (
    gathers.0,
    gathers.1 ++ adds.0,
    adds.1 ∙ (ap (λ (xs : List ℕ). xs ++ adds.0) gathers.2 ∙ append_assoc gathers.0 gathers.1 adds.0),
    gathers.3,
    gathers.4,
    gathers_last links link gathers.1 (gathers.1 ++ adds.0) gathers.5 (adds.0, refl, adds.2, adds.3),
  )

  -- what was followed is judged by the file
  any_same : (links : List Link) → AreLinks file links → list_any (λ page. nat_lt 4086 (used_of file page)) (pages_of links) ≡ list_any (λ link. nat_lt 4086 link.used) links
  any_same [] are = refl
  any_same (link ∷ links) are = λ i. nat_lt 4086 (sym are.0 i) || any_same links are.1 i

  sum_same : (links : List Link) → AreLinks file links → sum_by (used_of file) (pages_of links) ≡ sum_by (λ link. link.used) links
  sum_same [] are = refl
  sum_same (link ∷ links) are =
      sum_by-cons (used_of file) link.page (pages_of links) ∙ ((λ i. sym are.0 i + sum_same links are.1 i) ∙ sym (sum_by-cons (λ (l : Link). l.used) link links))

  pub damage_same : (links : List Link) (stated : Option ℕ) → AreLinks file links → damage_of file (pages_of links) None stated ≡ links_damage links stated
  damage_same links stated are = λ i. if any_same links are i then Some UsedBytes else length_damage (sum_same links are i) stated

  -- a walk to the last page of a chain, and the bytes of its pages, are the chain
  links_end : (links : List Link) (next : ℕ) (bytes : List ℕ) → pages_of links ≡ [] → next ≡ 0 → Gathers file links bytes → Links file next (pages_of links) bytes
  links_end [] next bytes no_page zero_next gathers = (zero_next, gathers)
  links_end (link ∷ links) next bytes no_page zero_next gathers = absurd (cc)

  walk_links : (count : ℕ) (reached : List Bool) (head : ℕ) (links : List Link) (bytes : List ℕ) → Walk file count reached head (pages_of links) None → AreLinks file links → Gathers file links bytes
      → list_any (λ link. nat_lt 4086 link.used) links ≡ false → Links file head (pages_of links) bytes
  walk_links count reached head [] bytes (inl outside) are gathers few = absurd (cc (outside.1))
  walk_links count reached head [] bytes (inr twice) are gathers few = absurd (cc (twice.2))
  walk_links count reached head (link ∷ links) bytes walk are gathers few =
      let parts = or_parts (nat_lt 4086 link.used) (list_any (λ (l : Link). nat_lt 4086 l.used) links) few in
      let short : link.used ≤ 4086 = ltb-false 4086 link.used parts.0 in (
        walk.0,
        next_of file link.page,
        gathers.0,
        gathers.1,
        gathers.2,
        record { next_page = refl; used = sym are.0 ∙ sym gathers.3; fits = omega (arith, short, gathers.3); standing = gathers.4 },
        elim walk.3 [
          | inl ends ↦ links_end links (next_of file link.page) gathers.1 ends.1 ends.0 gathers.5
          | inr more ↦ walk_links count (marked reached link.page) (next_of file link.page) links gathers.1 more.1 are.1 gathers.5 parts.1
        ],
      )

  walk_head : (count : ℕ) (reached : List Bool) (head : ℕ) (pages : List ℕ) → Walk file count reached head pages None → head ≢ 0
  walk_head count reached head [] (inl outside) = absurd (cc (outside.1))
  walk_head count reached head [] (inr twice) = absurd (cc (twice.2))
  walk_head count reached head (page ∷ pages) walk = λ none. absurd (omega (arith, walk.0, walk.1.0, none))

  pub walk_chain : (count : ℕ) (reached : List Bool) (head : ℕ) (links : List Link) (bytes : List ℕ) → Walk file count reached head (pages_of links) None → AreLinks file links → Gathers file links bytes
      → list_any (λ link. nat_lt 4086 link.used) links ≡ false → Chain file head (pages_of links) bytes
  walk_chain count reached head links bytes walk are gathers few = (walk_head count reached head (pages_of links) walk, walk_links count reached head links bytes walk are gathers few)

  -- where the rest of the way leads decides where the whole leads
  abbrev pub LeadsOn : ℕ → List Bool → ℕ → List ℕ → List Bool → ℕ → Type 0
  LeadsOn count start head pages reached next = (more : List ℕ) (end : Option Damage) → Walk file count reached next more end → Walk file count start head (pages ++ more) end

  pub leads_more : (count : ℕ) (start : List Bool) (head : ℕ) (pages : List ℕ) (page next : ℕ) (reached : List Bool) → LeadsOn count start head pages reached page
      → IsData count page → get_or reached page false ≡ false → next ≡ next_of file page → next ≢ 0 → LeadsOn count start head (pages ++ page ∷ []) (marked reached page) next
  leads_more count start head pages page next reached leads is_data new is some more end walk =
      let from : Walk file count (marked reached page) (next_of file page) more end = subst (λ (n : ℕ). Walk file count (marked reached page) n more end) is walk in
      let here : Walk file count start head (pages ++ page ∷ more) end =
      leads (page ∷ more) end (refl, is_data, λ marked_there. not_both (get_or reached page false) marked_there new, inr (λ none. some (is ∙ none), from)) in
      subst (λ (ps : List ℕ). Walk file count start head ps end) (sym (append_assoc pages (page ∷ []) more)) here

  -- it ends at this page
  pub leads_end : (count : ℕ) (start : List Bool) (head : ℕ) (pages : List ℕ) (page next : ℕ) (reached : List Bool) → LeadsOn count start head pages reached page
      → IsData count page → get_or reached page false ≡ false → next ≡ next_of file page → next ≡ 0 → Walk file count start head (pages ++ page ∷ []) None
  leads_end count start head pages page next reached leads is_data new is none =
      leads (page ∷ []) None (refl, is_data, λ marked_there. not_both (get_or reached page false) marked_there new, inl (sym is ∙ none, refl, refl))

  -- what was read of a page, by the page that the link names
  pub at_page : (link : Link) (page : ℕ) → link.page ≡ page → link.used ≡ used_of file page → link.used ≡ used_of file link.page
  at_page link page there used = used ∙ ap (λ (p : ℕ). used_of file p) (sym there)

  -- it breaks off before this page number
  pub leads_outside : (count : ℕ) (start : List Bool) (head : ℕ) (pages : List ℕ) (reached : List Bool) (next : ℕ) → LeadsOn count start head pages reached next → (IsData count next → ⊥) → Walk file count start head pages (Some PageOutside)
  leads_outside count start head pages reached next leads outside =
      subst (λ (ps : List ℕ). Walk file count start head ps (Some PageOutside)) (append-nil pages) (leads [] (Some PageOutside) (inl (outside, refl)))

  pub leads_twice : (count : ℕ) (start : List Bool) (head : ℕ) (pages : List ℕ) (reached : List Bool) (next : ℕ) → LeadsOn count start head pages reached next → IsData count next → IsMarked reached next → Walk file count start head pages (Some PageTwice)
  leads_twice count start head pages reached next leads is_data is_marked =
      subst (λ (ps : List ℕ). Walk file count start head ps (Some PageTwice)) (append-nil pages) (leads [] (Some PageTwice) (inr (is_data, is_marked, refl)))

  judged_same : (links : List Link) (end : Option Damage) (stated : Option ℕ) → AreLinks file links → damage_of file (pages_of links) end stated ≡ judged links end stated
  judged_same links (Some damage) stated are = refl
  judged_same links None stated are = damage_same links stated are

  judged_end : (links : List Link) (end : Option Damage) (stated : Option ℕ) → judged links end stated ≡ None → end ≡ None
  judged_end links (Some damage) stated none = absurd (cc)
  judged_end links None stated none = refl

  -- what was followed, judged and read, is what reading the chain answers
  pub read_broken : (count : ℕ) (reached : List Bool) (head : ℕ) (stated : Option ℕ) (after : List Bool) (links : List Link) (end : Option Damage) (damage : Damage) → Walk file count reached head (pages_of links) end → AreLinks file links
      → Some damage ≡ judged links end stated → after ≡ all_marked reached (pages_of links) → IsBroken file count reached head stated after damage
  read_broken count reached head stated after links end damage walk are is marks =
      record { pages = pages_of links; end = end; walk = walk; broken = judged_same links end stated are ∙ sym is; marks = marks }

  pub follow_whole : (count : ℕ) (reached : List Bool) (head : ℕ) (stated : Option ℕ) (after : List Bool) (links : List Link) (end : Option Damage) → Walk file count reached head (pages_of links) end → AreLinks file links
      → None ≡ judged links end stated → after ≡ all_marked reached (pages_of links) → IsUnbroken file count reached head stated after links
  follow_whole count reached head stated after links end walk are is marks =
      let no_damage : end ≡ None = judged_end links end stated (sym is) in
      record {
        walk = subst (λ (e : Option Damage). Walk file count reached head (pages_of links) e) no_damage walk;
        unbroken = damage_same links stated are ∙ subst (λ (e : Option Damage). judged links e stated ≡ None) no_damage (sym is);
        used = are;
        marks = marks;
      }

  pub read_whole : (count : ℕ) (reached : List Bool) (head : ℕ) (stated : Option ℕ) (after : List Bool) (links : List Link) (end : Option Damage) (pages bytes : List ℕ) → Walk file count reached head (pages_of links) end → AreLinks file links
      → None ≡ judged links end stated → after ≡ all_marked reached (pages_of links) → Gathers file links bytes → pages ≡ pages_of links → IsWhole file count reached head stated after pages bytes
  read_whole count reached head stated after links end pages bytes walk are is marks gathers same =
      let no_damage : end ≡ None = judged_end links end stated (sym is) in
      let whole : Walk file count reached head (pages_of links) None = subst (λ (e : Option Damage). Walk file count reached head (pages_of links) e) no_damage walk in
      let none : links_damage links stated ≡ None = subst (λ (e : Option Damage). judged links e stated ≡ None) no_damage (sym is) in
      let few : list_any (λ (link : Link). nat_lt 4086 link.used) links ≡ false = few_of (list_any (λ (link : Link). nat_lt 4086 link.used) links) (length_damage (sum_by (λ (link : Link). link.used) links) stated) none in
      subst (λ (ps : List ℕ). IsWhole file count reached head stated after ps bytes) (sym same)
      (record { walk = whole; unbroken = damage_same links stated are ∙ none; chain = walk_chain count reached head links bytes whole are gathers few; marks = marks })

  -- one that was followed whole, with the bytes of its pages
  pub read_unbroken : (count : ℕ) (reached : List Bool) (head : ℕ) (stated : Option ℕ) (after : List Bool) (links : List Link) (pages bytes : List ℕ) → IsUnbroken file count reached head stated after links → Gathers file links bytes
      → pages ≡ pages_of links → IsWhole file count reached head stated after pages bytes
  read_unbroken count reached head stated after links pages bytes is gathers same =
      read_whole count reached head stated after links None pages bytes is.walk is.used (sym is.unbroken ∙ damage_same links stated is.used) is.marks gathers same

  -- there is one way from a page on
  pub walk_only : (count : ℕ) (reached : List Bool) (head : ℕ) (pages others : List ℕ) (end other : Option Damage) → Walk file count reached head pages end → Walk file count reached head others other → (pages ≡ others) × (end ≡ other)
  walk_only count reached head [] [] end other (inl a) (inl b) = (refl, a.1 ∙ sym b.1)
  walk_only count reached head [] [] end other (inl a) (inr b) = absurd (a.0 b.0)
  walk_only count reached head [] [] end other (inr a) (inl b) = absurd (b.0 a.0)
  walk_only count reached head [] [] end other (inr a) (inr b) = (refl, a.2 ∙ sym b.2)
  walk_only count reached head [] (q ∷ others) end other (inl a) b = absurd (a.0 (subst (λ (p : ℕ). IsData count p) (sym b.0) b.1))
  walk_only count reached head [] (q ∷ others) end other (inr a) b = absurd (b.2 (subst (λ (p : ℕ). IsMarked reached p) b.0 a.1))
  walk_only count reached head (p ∷ pages) [] end other a (inl b) = absurd (b.0 (subst (λ (q : ℕ). IsData count q) (sym a.0) a.1))
  walk_only count reached head (p ∷ pages) [] end other a (inr b) = absurd (a.2 (subst (λ (q : ℕ). IsMarked reached q) a.0 b.1))
  walk_only count reached head (p ∷ pages) (q ∷ others) end other a b =
      let same : q ≡ p = sym b.0 ∙ a.0 in
      let there : ((next_of file p ≡ 0) × (others ≡ []) × (other ≡ None)) ⊎ ((next_of file p ≢ 0) × Walk file count (marked reached p) (next_of file p) others other) =
      subst (λ (x : ℕ). ((next_of file x ≡ 0) × (others ≡ []) × (other ≡ None)) ⊎ ((next_of file x ≢ 0) × Walk file count (marked reached x) (next_of file x) others other)) same b.3 in
      let behind : (pages ≡ others) × (end ≡ other) = elim a.3 [
        | inl a_ends ↦ elim there [ inl b_ends ↦ (a_ends.1 ∙ sym b_ends.1, a_ends.2 ∙ sym b_ends.2) | inr b_more ↦ absurd (b_more.0 a_ends.0) ]
        | inr a_more ↦ elim there [ inl b_ends ↦ absurd (a_more.0 b_ends.0) | inr b_more ↦ walk_only count (marked reached p) (next_of file p) pages others end other a_more.1 b_more.1 ]
      ] in
      (λ i. sym same i ∷ behind.0 i, behind.1)

-- a page below the page count more
pub are_below_last : (count : ℕ) (links : List Link) (link : Link) → AreBelow count links → link.page < count → AreBelow count (links ++ link ∷ [])
are_below_last count [] link are below = (below, tt)
are_below_last count (first ∷ links) link are below = (are.0, are_below_last count links link are.1 below)

-- a page whose used bytes end past this many is one of them
pub ends_past : (len : ℕ) (links : List Link) (index : ℕ) (blank : Link) → index < length links
    → len < 4096 * (get_or links index blank).page + 10 + (get_or links index blank).used → EndsPast len links
ends_past len [] index blank within past = absurd (omega arith)
ends_past len (link ∷ links) zero blank within past = inl past
ends_past len (link ∷ links) (suc index) blank within past = inr (ends_past len links index blank (omega (arith, within)) past)

past_count : (len count : ℕ) (links : List Link) → AreBelow count links → list_any (λ (link : Link). nat_lt 4086 link.used) links ≡ false → EndsPast len links → len < 4096 * count
past_count len count [] below few past = absurd past
past_count len count (link ∷ links) below few (inl past) =
    let parts = or_parts (nat_lt 4086 link.used) (list_any (λ (l : Link). nat_lt 4086 l.used) links) few in
    omega (arith, past, below.0, ltb-false 4086 link.used parts.0)
past_count len count (link ∷ links) below few (inr past) =
    let parts = or_parts (nat_lt 4086 link.used) (list_any (λ (l : Link). nat_lt 4086 l.used) links) few in
    past_count len count links below.1 parts.1 past

few_fit : (count : ℕ) (links : List Link) → AreBelow count links → list_any (λ (link : Link). nat_lt 4086 link.used) links ≡ false → all_fit count links ≡ true
few_fit count [] below few = refl
few_fit count (link ∷ links) below few =
    let parts = or_parts (nat_lt 4086 link.used) (list_any (λ (l : Link). nat_lt 4086 l.used) links) few in
    and_from (nat_lt link.page count && nat_lt link.used 4087) (all_fit count links)
    (and_from (nat_lt link.page count) (nat_lt link.used 4087) (lt-ltb link.page count below.0) (lt-ltb link.used 4087 (omega (arith, ltb-false 4086 link.used parts.0))))
    (few_fit count links below.1 parts.1)

pub fit_whole : (count : ℕ) (links : List Link) (end : Option Damage) (stated : Option ℕ) → AreBelow count links → None ≡ judged links end stated → all_fit count links ≡ true
fit_whole count links (Some damage) stated below is = absurd (cc)
fit_whole count links None stated below is =
    few_fit count links below (few_of (list_any (λ (link : Link). nat_lt 4086 link.used) links) (length_damage (sum_by (λ (link : Link). link.used) links) stated) (sym is))

-- the first of links that fit, and the others
pub fit_first : (count : ℕ) (link : Link) (links : List Link) → all_fit count (link ∷ links) ≡ true → (link.page < count) × (link.used < 4087) × (all_fit count links ≡ true)
fit_first count link links fit =
    let parts = and_parts (nat_lt link.page count && nat_lt link.used 4087) (all_fit count links) fit in
    let own = and_parts (nat_lt link.page count) (nat_lt link.used 4087) parts.0 in
    (ltb-true link.page count own.0, ltb-true link.used 4087 own.1, parts.1)

pub past_fit : (len count : ℕ) (links : List Link) → all_fit count links ≡ true → EndsPast len links → len < 4096 * count
past_fit len count [] fit past = absurd past
past_fit len count (link ∷ links) fit (inl past) = let first = fit_first count link links fit in omega (arith, past, first.0, first.1)
past_fit len count (link ∷ links) fit (inr past) = past_fit len count links (fit_first count link links fit).2 past

-- as far as a chain was followed, it is still at its first page, or that was a data page which wasn't reached before
abbrev pub HasBegun : ℕ → List Bool → ℕ → List Bool → ℕ → Type 0
HasBegun count start head reached page = ((reached ≡ start) × (page ≡ head)) ⊎ BeginsAnew count start head

pub begins_there : (count : ℕ) (start : List Bool) (head : ℕ) (reached : List Bool) (page : ℕ) → HasBegun count start head reached page → IsData count page → get_or reached page false ≡ false → BeginsAnew count start head
begins_there count start head reached page (inl at_first) is_data new =
    (subst (λ (p : ℕ). IsData count p) at_first.1 is_data, λ marked_there. not_both (get_or reached page false) ((λ i. get_or (at_first.0 i) (at_first.1 i) false) ∙ marked_there) new)
begins_there count start head reached page (inr begun) is_data new = begun

-- a chain that stands is followed to its end, and breaks no clause
module _ (file : List ℕ) (count : ℕ) (low : count ≤ 65536) where
  no_pages : (next : ℕ) (pages bytes : List ℕ) → AreData count pages → Links file next pages bytes → next ≡ 0 → pages ≡ []
  no_pages next [] bytes are links none = refl
  no_pages next (page ∷ pages) bytes are links none = absurd (omega (arith, are.0, links.0, none))

  walk_found : (reached : List Bool) (before : List ℕ) (next : ℕ) (pages bytes : List ℕ) → length reached ≡ 65536 → Has reached before → AreData count pages → AllApart pages → ((page : ℕ) → IsIn page pages → IsIn page before → ⊥)
      → next ≢ 0 → Links file next pages bytes → Walk file count reached next pages None
  walk_found reached before next [] bytes whole has are apart new some links = absurd (some links.0)
  walk_found reached before next (page ∷ pages) bytes whole has are apart new some links =
      let is_next : next_of file page ≡ links.1 = links.5.next_page in
      let behind : Links file (next_of file page) pages links.3 = subst (λ (n : ℕ). Links file n pages links.3) (sym is_next) links.6 in
      let more : Has (marked reached page) (before ++ page ∷ []) = has_more reached before page (omega (arith, whole, are.1, low)) has in (
        links.0,
        (are.0, are.1),
        λ is. new page (inl refl) ((has page).0 is),
        elim (cases_eq (next_of file page) 0) [
          | inl none ↦ inl (none, no_pages (next_of file page) pages links.3 are.2 behind none, refl)
          | inr goes ↦ inr (
            goes,
            walk_found (marked reached page) (before ++ page ∷ []) (next_of file page) pages links.3 (length-set reached page true ∙ whole) more are.2 apart.1
                (λ p inside twice. elim (in_last p page before twice) [ inl there ↦ new p (inr inside) there | inr is ↦ apart.0 (subst (λ (q : ℕ). IsIn q pages) is inside) ])
                goes behind,
          )
        ],
      )

  few_used : (next : ℕ) (pages bytes : List ℕ) → Links file next pages bytes → list_any (λ page. nat_lt 4086 (used_of file page)) pages ≡ false
  few_used next [] bytes links = refl
  few_used next (page ∷ pages) bytes links =
      or_from (nat_lt 4086 (used_of file page)) (list_any (λ (p : ℕ). nat_lt 4086 (used_of file p)) pages)
      (le-ltb 4086 (used_of file page) (omega (arith, links.5.used, links.5.fits))) (few_used links.1 pages links.3 links.6)

  all_used : (next : ℕ) (pages bytes : List ℕ) → Links file next pages bytes → sum_by (used_of file) pages ≡ length bytes
  all_used next [] bytes links = sym (ap length links.1)
  all_used next (page ∷ pages) bytes links =
      omega (arith, sum_by-cons (used_of file) page pages, all_used links.1 pages links.3 links.6, links.5.used, ap length links.4, length-append links.2 links.3)

  pub chain_found : (reached : List Bool) (before : List ℕ) (head : ℕ) (pages bytes : List ℕ) → length reached ≡ 65536 → Has reached before → AreData count pages → AllApart pages → ((page : ℕ) → IsIn page pages → IsIn page before → ⊥)
      → Chain file head pages bytes → Walk file count reached head pages None × (damage_of file pages None (Some (length bytes)) ≡ None)
  chain_found reached before head pages bytes whole has are apart new chain = (
    walk_found reached before head pages bytes whole has are apart new chain.0 chain.1,
    cond-false (list_any (λ (p : ℕ). nat_lt 4086 (used_of file p)) pages) (Some UsedBytes) (length_damage (sum_by (used_of file) pages) (Some (length bytes))) (few_used head pages bytes chain.1)
        ∙ cond-true (sum_by (used_of file) pages == length bytes) None (Some Form) (eq-eqb (sum_by (used_of file) pages) (length bytes) (all_used head pages bytes chain.1)),
  )

  -- so a chain that is told broken isn't there
  pub broken_none : (reached after : List Bool) (before : List ℕ) (head : ℕ) (pages bytes : List ℕ) (damage : Damage) → length reached ≡ 65536 → Has reached before → AreData count pages → AllApart pages → ((page : ℕ) → IsIn page pages → IsIn page before → ⊥)
      → Chain file head pages bytes → IsBroken file count reached head (Some (length bytes)) after damage → ⊥
  broken_none reached after before head pages bytes damage whole has are apart new chain broken =
      let found = chain_found reached before head pages bytes whole has are apart new chain in
      let only = walk_only file count reached head broken.pages pages broken.end None broken.walk found.0 in
      let same : damage_of file broken.pages broken.end (Some (length bytes)) ≡ damage_of file pages None (Some (length bytes)) = λ i. damage_of file (only.0 i) (only.1 i) (Some (length bytes)) in
      let none : Some damage ≡ None = sym broken.broken ∙ (same ∙ found.1) in
      absurd (cc)

-- one link more
pub pages_push : (links grown : List Link) (link : Link) (page : ℕ) → grown ≡ links ++ link ∷ [] → link.page ≡ page → pages_of grown ≡ pages_of links ++ page ∷ []
pages_push links grown link page pushed there = ap (λ (ls : List Link). pages_of ls) pushed ∙ (map-append (λ (l : Link). l.page) links (link ∷ []) ∙ (λ i. pages_of links ++ there i ∷ []))

-- where a call ends as one below it did, what is so where the device failed there is so here
device_by : (T U : Type 0) {P Q : Type 0} (fault : Fault) → (P → Q) → OnDeviceFault {T = T} (Err fault) P → OnDeviceFault {T = U} (Err fault) Q
device_by T U FileFull so given = tt
device_by T U HalfFull so given = tt
device_by T U (Damaged damage) so given = tt
device_by T U NotAStore so given = tt
device_by T U (Disk cause) so given = so given
device_by T U OutOfMemory so given = tt

pub device_so : (T : Type 0) {U P Q : Type 0} (result : Result U Fault) (fault : Fault) → result ≡ Err fault → (P → Q) → OnDeviceFault {T = T} (Err fault) P → OnDeviceFault result Q
device_so T {U = U} {Q = Q} result fault is so given = subst (λ (r : Result U Fault). OnDeviceFault r Q) (sym is) (device_by T U fault so given)
