-- Lists that grow by one.
use Rattle.std.proofs.Common.{◌≡◌, ℕ, ◌+◌, ◌<◌, ◌++◌, Bool, List, [], ◌∷◌, length, map, filter, take, get_or, zero, suc, replicate, append-nil, ap, sym, ◌∙◌, append_assoc, codes}
use Rattle.std.specs.List.{flat_map}
use Rattle.std.proofs.lemmas.List.{flat_map_more, map-append, take_more}
use Rattle.std.proofs.lemmas.List.Elements.{filter-append}
use Rattle.std.proofs.lemmas.List.Concat.{flat_map-append}
use Rattle.rr_roster.specs.declared.company.Private.{Private}
use Rattle.rr_roster.specs.declared.company.Corp.{Corp}
use Rattle.rr_roster.specs.Company.{corp_name, private_name}
use Rattle.rr_entries.specs.Words.{spaced}

pub listed_more : (t : Private → Bool) (ps : List Private) (i : ℕ) (d : Private) → i < length ps →
    spaced (map private_name (filter t (take (i + 1) ps)))
    ≡ spaced (map private_name (filter t (take i ps))) ++ spaced (map private_name (filter t (get_or ps i d ∷ [])))
listed_more t ps i d h =
    ap (λ l. spaced (map private_name (filter t l))) (take_more ps i d h)
    ∙ ap (λ l. spaced (map private_name l)) (filter-append t (take i ps) (get_or ps i d ∷ []))
    ∙ ap spaced (map-append private_name (filter t (take i ps)) (filter t (get_or ps i d ∷ [])))
    ∙ flat_map-append (λ word. codes " " ++ word) (map private_name (filter t (take i ps))) (map private_name (filter t (get_or ps i d ∷ [])))

-- a list with one name more, behind what was written
pub written_more : (t : Private → Bool) (ps : List Private) (i : ℕ) (d : Private) (before old new : List ℕ) → i < length ps →
    old ≡ before ++ spaced (map private_name (filter t (take i ps))) →
    new ≡ old ++ spaced (map private_name (filter t (get_or ps i d ∷ []))) →
    new ≡ before ++ spaced (map private_name (filter t (take (i + 1) ps)))
written_more t ps i d before old new h so_far step =
    step
    ∙ ap (λ l. l ++ spaced (map private_name (filter t (get_or ps i d ∷ [])))) so_far
    ∙ append_assoc before (spaced (map private_name (filter t (take i ps)))) (spaced (map private_name (filter t (get_or ps i d ∷ []))))
    ∙ ap (λ l. before ++ l) (sym (listed_more t ps i d h))

-- a list of corporations with one more, behind what was written
pub corps_more : (cs : List Corp) (i : ℕ) (d : Corp) (before old new : List ℕ) → i < length cs →
    old ≡ before ++ spaced (map corp_name (take i cs)) →
    new ≡ old ++ (codes " " ++ corp_name (get_or cs i d)) →
    new ≡ before ++ spaced (map corp_name (take (i + 1) cs))
corps_more cs i d before old new h so_far step =
    step
    ∙ ap (λ l. l ++ (codes " " ++ corp_name (get_or cs i d))) so_far
    ∙ flat_map_more (λ word. codes " " ++ word) before (map corp_name (take i cs)) (corp_name (get_or cs i d))
    ∙ ap (λ l. before ++ spaced l) (sym (ap (map corp_name) (take_more cs i d h) ∙ map-append corp_name (take i cs) (get_or cs i d ∷ [])))

-- a word as often as so, and once more
repeated : (word : List ℕ) (n : ℕ) → spaced (replicate n word) ++ (codes " " ++ word) ≡ spaced (replicate (suc n) word)
repeated word zero = sym (append-nil (codes " " ++ word))
repeated word (suc n) =
    append_assoc (codes " " ++ word) (spaced (replicate n word)) (codes " " ++ word) ∙ ap (λ l. (codes " " ++ word) ++ l) (repeated word n)

-- the same behind what was written
pub repeated_more : (word : List ℕ) (n : ℕ) (before old new : List ℕ) → old ≡ before ++ spaced (replicate n word) →
    new ≡ old ++ (codes " " ++ word) → new ≡ before ++ spaced (replicate (suc n) word)
repeated_more word n before old new so_far step =
    step
    ∙ ap (λ l. l ++ (codes " " ++ word)) so_far
    ∙ append_assoc before (spaced (replicate n word)) (codes " " ++ word)
    ∙ ap (λ l. before ++ l) (repeated word n)

-- the words for each of a list with one more, behind what was written
pub words_more : {X : Type 0} (f : X → List (List ℕ)) (xs : List X) (i : ℕ) (d : X) (before old new : List ℕ) → i < length xs →
    old ≡ before ++ spaced (flat_map f (take i xs)) → new ≡ old ++ spaced (f (get_or xs i d)) →
    new ≡ before ++ spaced (flat_map f (take (i + 1) xs))
words_more {X} f xs i d before old new h so_far step =
    step
    ∙ ap (λ l. l ++ spaced (f (get_or xs i d))) so_far
    ∙ append_assoc before (spaced (flat_map f (take i xs))) (spaced (f (get_or xs i d)))
    ∙ ap (λ l. before ++ l) (sym (ap (λ (l : List X). spaced (flat_map f l)) (take_more xs i d h)
    ∙ ap spaced (sym (flat_map_more f [] (take i xs) (get_or xs i d)))
    ∙ flat_map-append (λ word. codes " " ++ word) (flat_map f (take i xs)) (f (get_or xs i d))))
