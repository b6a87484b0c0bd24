-- The steps over links.
use Rattle.std.proofs.Common.{◌≡◌, ℕ, ◌+◌, ◌<◌, ◌≤◌, List, [], ◌∷◌, ◌++◌, length, get_or, drop, sym, ◌∙◌, ap, append_assoc, append-nil}
use Rattle.std.proofs.lemmas.List.{drop_all, at_drop_more}
use Rattle.rr_network.specs.declared.node.Link.{Link}
use Rattle.rr_network.specs.declared.step.Step.{Step}
use Rattle.rr_network.specs.Walk.{forward, backward, steps_from}

steps_from-drop : (links : List Link) (i : ℕ) (link : Link) → i < length links → link ≡ get_or links i link → steps_from (i + 1) (drop i links) ≡ forward (i + 1) link ∷ backward (i + 1) link ∷ steps_from (i + 1 + 1) (drop (i + 1) links)
unfolding steps_from
steps_from-drop links i link h e =
    at_drop_more (steps_from (i + 1)) links i link h
    ∙ ap (λ (l : Link). forward (i + 1) l ∷ backward (i + 1) l ∷ steps_from (i + 1 + 1) (drop (i + 1) links)) (sym e)

-- both steps over the link at a place
pub steps_next : (links : List Link) (i : ℕ) (link : Link) (all steps one two : List Step) → steps ++ steps_from (i + 1) (drop i links) ≡ all → i < length links → link ≡ get_or links i link → one ≡ steps ++ forward (i + 1) link ∷ [] → two ≡ one ++ backward (i + 1) link ∷ [] → two ++ steps_from (i + 1 + 1) (drop (i + 1) links) ≡ all
steps_next links i link all steps one two so_far h e f g =
    let rest : List Step = steps_from (i + 1 + 1) (drop (i + 1) links) in
    ap (λ (ss : List Step). ss ++ rest) (g ∙ ap (λ (ss : List Step). ss ++ backward (i + 1) link ∷ []) f)
    ∙ append_assoc (steps ++ forward (i + 1) link ∷ []) (backward (i + 1) link ∷ []) rest
    ∙ append_assoc steps (forward (i + 1) link ∷ []) (backward (i + 1) link ∷ rest)
    ∙ ap (λ (ss : List Step). steps ++ ss) (sym (steps_from-drop links i link h e))
    ∙ so_far

-- no link is left
pub steps_done : (links : List Link) (i n : ℕ) (all steps : List Step) → steps ++ steps_from n (drop i links) ≡ all → length links ≤ i → steps ≡ all
unfolding steps_from
steps_done links i n all steps so_far h = sym (append-nil steps) ∙ ap (λ (ls : List Link). steps ++ steps_from n ls) (sym (drop_all i links h)) ∙ so_far
