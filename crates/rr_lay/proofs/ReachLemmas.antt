-- Looking for a new link that is reached.
use Rattle.std.proofs.Common.{◌≡◌, ℕ, ◌+◌, ◌<◌, ◌≤◌, ◌&&◌, not, Bool, true, false, List, length, get_or, refl, sym, ◌∙◌, ap, subst, inl, inr, arith}
use Rattle.std.specs.Prelude.{◌↔◌, ◌⊎◌, bytes_eq}
use Rattle.std.proofs.lemmas.List.{get_or_default}
use Rattle.std.proofs.lemmas.Bool.{and_from, and_parts, false≢true, cases_lt}
use Rattle.rr_roster.specs.declared.company.Corp.{Corp}
use Rattle.rr_network.specs.declared.node.Link.{Link}
use Rattle.rr_network.specs.Network.{Net}
use Rattle.rr_network.specs.Walk.{Reached, ReachesLink, reaches_link}
use Rattle.rr_lay.specs.Laying.{HasNewLink, ReachesNewLink, has_link, is_new_link}
use Rattle.rr_lay.proofs.NewLinkLemmas.{NewOnesLieOn}

-- none of the links before a place is reached and new
pub record NoneBelow (reached : Reached) (old : List Link) (hex : List ℕ) (links : List Link) (n : ℕ) : Type 0 where
  pub fails : (k : ℕ) (d : Link) → k < n → k < length links → is_new_link reached old hex k (get_or links k d) ≡ false

pub none_first : (reached : Reached) (old : List Link) (hex : List ℕ) (links : List Link) → NoneBelow reached old hex links 0
none_first reached old hex links = record { fails = λ k d h i. absurd (omega arith) }

lt_cases : (k n : ℕ) → k < n + 1 → (k < n) ⊎ (k ≡ n)
lt_cases k n i = elim (cases_lt k n) [ inl below ↦ inl below | inr above ↦ inr (omega arith) ]

pub none_next : (reached : Reached) (old : List Link) (hex : List ℕ) (links : List Link) (n : ℕ) (link : Link) → NoneBelow reached old hex links n → n < length links → link ≡ get_or links n link → is_new_link reached old hex n link ≡ false → NoneBelow reached old hex links (n + 1)
none_next reached old hex links n link w h e f = record { fails = fails }
  where
    here : (d : Link) → is_new_link reached old hex n (get_or links n d) ≡ false
    here d = ap (is_new_link reached old hex n) (get_or_default links n d link h ∙ sym e) ∙ f

    fails : (k : ℕ) (d : Link) → k < n + 1 → k < length links → is_new_link reached old hex k (get_or links k d) ≡ false
    fails k d i j = elim (lt_cases k n i) [ inl below ↦ w.fails k d below j | inr same ↦ subst (λ (m : ℕ). is_new_link reached old hex m (get_or links m d) ≡ false) (sym same) (here d) ]

pub none_left : (reached : Reached) (old : List Link) (hex : List ℕ) (links : List Link) (n : ℕ) → NoneBelow reached old hex links n → length links ≤ n → HasNewLink reached old hex links → ⊥
none_left reached old hex links n w h found =
    let inside : found.place < length links = found.inside in
    let below : found.place < n = omega arith in
    false≢true (sym (w.fails found.place found.link below inside) ∙ ap (is_new_link reached old hex found.place) found.here ∙ found.passes)

both_true : (a b : Bool) → (a && not b) ≡ true → (a ≡ true) × (b ≡ false)
both_true true true h = absurd (false≢true h)
both_true true false h = (refl, refl)
both_true false b h = absurd (false≢true h)

true_both : (a b : Bool) → a ≡ true → b ≡ false → (a && not b) ≡ true
true_both true true h i = absurd (false≢true (sym i))
true_both true false h i = refl
true_both false b h i = absurd (false≢true h)

-- what the search finds is what the corporation reaches
pub new_link_reached : (reached : Reached) (old new : Net) (hex : List ℕ) (corp : Corp) → NewOnesLieOn old.links hex new.links
    → ((number : ℕ) → reaches_link reached number ≡ true ↔ ReachesLink new corp number) → HasNewLink reached old.links hex new.links ↔ ReachesNewLink old new corp
new_link_reached reached old new hex corp only exact = (forth, back)
  where
    forth : HasNewLink reached old.links hex new.links → ReachesNewLink old new corp
    forth found =
        let passed = and_parts (bytes_eq found.link.hex hex) (reaches_link reached (found.place + 1) && not (has_link old.links found.link)) found.passes in
        let both = both_true (reaches_link reached (found.place + 1)) (has_link old.links found.link) passed.1 in
        record { place = found.place; link = found.link; inside = found.inside; here = found.here; is_new = both.1; reached = (exact (found.place + 1)).0 both.0 }

    back : ReachesNewLink old new corp → HasNewLink reached old.links hex new.links
    back h =
        let on = only h.link (h.place, h.inside, h.here) h.is_new in
        let passes = and_from _ _ on (true_both (reaches_link reached (h.place + 1)) (has_link old.links h.link) ((exact (h.place + 1)).1 h.reached) h.is_new) in
        record { place = h.place; link = h.link; inside = h.inside; here = h.here; passes = passes }

-- the same by what the search was given and by the networks that it is about
pub judged : (answer : Bool) (reached : Reached) (old : List Link) (hex : List ℕ) (links : List Link) (before after a b : Net) (corp : Corp)
    → (answer ≡ true ↔ HasNewLink reached old hex links) → old ≡ before.links → links ≡ after.links → ((number : ℕ) → reaches_link reached number ≡ true ↔ ReachesLink after corp number)
    → before ≡ a → after ≡ b → NewOnesLieOn a.links hex b.links → (answer ≡ true ↔ ReachesNewLink a b corp)
judged answer reached old hex links before after a b corp h e f exact p q only =
    let P : List Link → Type 0 = λ ls. answer ≡ true ↔ HasNewLink reached ls hex links in
    let Q : List Link → Type 0 = λ ls. answer ≡ true ↔ HasNewLink reached a.links hex ls in
    let found = subst Q (f ∙ ap (λ (n : Net). n.links) q) (subst P (e ∙ ap (λ (n : Net). n.links) p) h) in
    let Exact : Net → Type 0 = λ n. (number : ℕ) → reaches_link reached number ≡ true ↔ ReachesLink n corp number in
    let same = new_link_reached reached a b hex corp only (subst Exact q exact) in
    ((λ y. same.0 (found.0 y)), (λ r. found.1 (same.1 r)))
