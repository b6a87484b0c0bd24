-- What pages that are taken one after another are.
use Rattle.std.proofs.Common.{◌≡◌, ◌⊎◌, inl, inr, ℕ, zero, suc, ◌+◌, ◌<◌, ◌≤◌, Bool, true, false, List, [], ◌∷◌, ◌++◌, get_or, set, length, refl, sym, ◌∙◌, ap, subst, arith}
use Rattle.std.proofs.lemmas.List.{append-nil, append_assoc, length-set, get_or-set_same, get_or-set_other}
use Rattle.std.proofs.lemmas.Bool.{cases_eq}
use Rattle.rr_pages.specs.Pages.{IsIn, AllApart}
use Rattle.rr_pages.specs.Sets.{IsEmpty, marked, all_marked, Has, IsFree, IsFirstFree, TakesFree, AreFree}

is_true : Bool → Type 0
is_true true = Unit {0}
is_true false = ⊥

pub not_both : (b : Bool) → b ≡ true → b ≡ false → ⊥
unfolding is_true
not_both b t f = subst is_true (sym t ∙ f) tt

pub in_last : (p x : ℕ) (xs : List ℕ) → IsIn p (xs ++ x ∷ []) → IsIn p xs ⊎ (p ≡ x)
in_last p x [] (inl is) = inr is
in_last p x [] (inr none) = absurd none
in_last p x (y ∷ ys) (inl is) = inl (inl is)
in_last p x (y ∷ ys) (inr inside) = elim (in_last p x ys inside) [ inl there ↦ inl (inr there) | inr is ↦ inr is ]

pub in_front : (p : ℕ) (xs ys : List ℕ) → IsIn p xs → IsIn p (xs ++ ys)
in_front p [] ys inside = absurd inside
in_front p (x ∷ xs) ys (inl is) = inl is
in_front p (x ∷ xs) ys (inr inside) = inr (in_front p xs ys inside)

pub in_back : (p : ℕ) (xs ys : List ℕ) → IsIn p ys → IsIn p (xs ++ ys)
in_back p [] ys inside = inside
in_back p (x ∷ xs) ys inside = inr (in_back p xs ys inside)

pub apart_last : (x : ℕ) (xs : List ℕ) → AllApart xs → (IsIn x xs → ⊥) → AllApart (xs ++ x ∷ [])
apart_last x [] apart new = (λ none. none, tt)
apart_last x (y ∷ ys) apart new = (
  λ inside. elim (in_last y x ys inside) [ inl there ↦ apart.0 there | inr is ↦ new (inl (sym is)) ],
  apart_last x ys apart.1 (λ inside. new (inr inside)),
)

-- an empty set has no page
pub empty_has : (marks : List Bool) → IsEmpty marks → Has marks []
empty_has marks empty page = (λ is. not_both (get_or marks page false) is (empty page), λ none. absurd none)

-- a set with one page more
pub has_more : (marks : List Bool) (pages : List ℕ) (page : ℕ) → page < length marks → Has marks pages → Has (marked marks page) (pages ++ page ∷ [])
has_more marks pages page inside has other = (
  λ is. elim (cases_eq other page) [
    | inl same ↦ subst (λ (q : ℕ). IsIn q (pages ++ page ∷ [])) (sym same) (in_back page pages (page ∷ []) (inl refl))
    | inr apart ↦ in_front other pages (page ∷ []) ((has other).0 (sym (get_or-set_other marks page other true false apart) ∙ is))
  ],
  λ inside_now. elim (in_last other page pages inside_now) [
    | inl there ↦ elim (cases_eq other page) [
      | inl same ↦ ap (λ (q : ℕ). get_or (set marks page true) q false) same ∙ get_or-set_same marks page true false inside
      | inr apart ↦ get_or-set_other marks page other true false apart ∙ (has other).1 there
    ]
    | inr same ↦ ap (λ (q : ℕ). get_or (set marks page true) q false) same ∙ get_or-set_same marks page true false inside
  ],
)

-- no page was taken yet
pub free_none : (reached : List ℕ) → AreFree reached []
free_none reached = record { data_pages = λ p none. absurd none; unreached = λ p none. absurd none; apart = tt }

-- one page more that is free, beside those that are kept and those that were taken before
pub free_more : (present coming : List Bool) (reached kept taken : List ℕ) (page : ℕ) → Has present reached → Has coming (kept ++ taken) → IsFree present coming page → AreFree reached taken → AreFree reached (taken ++ page ∷ [])
free_more present coming reached kept taken page has_present has_coming free all =
    let apart_from_present : IsIn page reached → ⊥ = λ inside. not_both (get_or present page false) ((has_present page).1 inside) free.not_present in
    let new : IsIn page taken → ⊥ = λ inside. not_both (get_or coming page false) ((has_coming page).1 (in_back page kept taken inside)) free.not_coming in
    record {
      data_pages = λ p inside. elim (in_last p page taken inside) [ inl there ↦ all.data_pages p there | inr is ↦ subst (λ (q : ℕ). (514 ≤ q) × (q < 65536)) (sym is) (free.data_page, free.under) ];
      unreached = λ p inside. elim (in_last p page taken inside) [ inl there ↦ all.unreached p there | inr is ↦ subst (λ (q : ℕ). IsIn q reached → ⊥) (sym is) apart_from_present ];
      apart = apart_last page taken all.apart new;
    }

-- several pages more
pub record TookFree (reached kept taken : List ℕ) (after : List Bool) : Type 0 where
  pub free : AreFree reached taken
  pub has : Has after (kept ++ taken)

pub took_free : (present coming after : List Bool) (reached kept taken pages : List ℕ) → length coming ≡ 65536 → Has present reached → Has coming (kept ++ taken) → AreFree reached taken → TakesFree present coming pages after
    → TookFree reached kept (taken ++ pages) after
took_free present coming after reached kept taken [] whole has_present has_coming all takes =
    let none : taken ++ [] ≡ taken = append-nil taken in
    record {
      free = subst (λ (ps : List ℕ). AreFree reached ps) (sym none) all;
      has = subst (λ (ps : List ℕ). Has after (kept ++ ps)) (sym none) (subst (λ (marks : List Bool). Has marks (kept ++ taken)) (sym takes) has_coming);
    }
took_free present coming after reached kept taken (page ∷ pages) whole has_present has_coming all takes =
    let more : Has (marked coming page) (kept ++ (taken ++ page ∷ [])) =
    subst (λ (ps : List ℕ). Has (marked coming page) ps) (append_assoc kept taken (page ∷ [])) (has_more coming (kept ++ taken) page (omega (arith, whole, takes.0.free.under)) has_coming) in
    let then : TookFree reached kept ((taken ++ page ∷ []) ++ pages) after =
    took_free present (marked coming page) after reached kept (taken ++ page ∷ []) pages (length-set coming page true ∙ whole) has_present more
    (free_more present coming reached kept taken page has_present has_coming takes.0.free all) takes.1 in
    subst (λ (ps : List ℕ). TookFree reached kept ps after) (append_assoc taken (page ∷ []) pages) then

-- one page more behind those that were taken
pub takes_last : (present coming after : List Bool) (pages : List ℕ) (page : ℕ) → TakesFree present coming pages after → IsFirstFree present after page → TakesFree present coming (pages ++ page ∷ []) (marked after page)
takes_last present coming after [] page takes free =
    (subst (λ (marks : List Bool). IsFirstFree present marks page) takes free, ap (λ (marks : List Bool). marked marks page) takes)
takes_last present coming after (first ∷ pages) page takes free = (takes.0, takes_last present (marked coming first) after pages page takes.1 free)

-- pages in a set of pages: how many are not marked
pub unmarked : List Bool → ℕ
unmarked [] = 0
unmarked (false ∷ marks) = suc (unmarked marks)
unmarked (true ∷ marks) = unmarked marks

pub unmarked_within : (marks : List Bool) → unmarked marks ≤ length marks
unfolding unmarked
unmarked_within [] = omega arith
unmarked_within (false ∷ marks) = omega (arith, unmarked_within marks)
unmarked_within (true ∷ marks) = omega (arith, unmarked_within marks)

pub unmarked_less : (marks : List Bool) (page : ℕ) → page < length marks → get_or marks page false ≡ false → unmarked (marked marks page) + 1 ≡ unmarked marks
unfolding unmarked
unmarked_less [] page inside is = absurd (omega arith)
unmarked_less (false ∷ marks) zero inside is = omega arith
unmarked_less (true ∷ marks) zero inside is = absurd (not_both true refl is)
unmarked_less (false ∷ marks) (suc page) inside is = omega (arith, unmarked_less marks page (omega arith) is)
unmarked_less (true ∷ marks) (suc page) inside is = omega (arith, unmarked_less marks page (omega arith) is)

-- pages that are marked behind others
pub marked_last : (marks : List Bool) (pages : List ℕ) (page : ℕ) → all_marked marks (pages ++ page ∷ []) ≡ marked (all_marked marks pages) page
marked_last marks [] page = refl
marked_last marks (first ∷ pages) page = marked_last (marked marks first) pages page

-- what a set has after pages are put into it
pub has_all : (marks : List Bool) (before pages : List ℕ) → length marks ≡ 65536 → ((page : ℕ) → IsIn page pages → page < 65536) → Has marks before → Has (all_marked marks pages) (before ++ pages)
has_all marks before [] whole under has = subst (λ (ps : List ℕ). Has marks ps) (sym (append-nil before)) has
has_all marks before (page ∷ pages) whole under has =
    subst (λ (ps : List ℕ). Has (all_marked (marked marks page) pages) ps) (append_assoc before (page ∷ []) pages)
    (has_all (marked marks page) (before ++ page ∷ []) pages (length-set marks page true ∙ whole) (λ p inside. under p (inr inside))
    (has_more marks before page (omega (arith, whole, under page (inl refl))) has))
