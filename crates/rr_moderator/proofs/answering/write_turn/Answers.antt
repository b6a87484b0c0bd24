use Rattle.std.proofs.Common.{◌≡◌, ℕ, List, [], ◌∷◌, ◌++◌, OnOk, codes, ap, subst, ◌∙◌}
use Rattle.rr_entries.specs.Words.{book_words, joined, spaced}
use Rattle.rr_moderator.proofs.answering.write_turn.Goals as goal

pub returns : goal.returns
returns c =
    let players = c.args.game.now.players in
    let book = joined c.args.all.now in
    let written : c.as_slice.result.now ≡ spaced (book_words players book) =
    c.as_slice.ensures.value ∙ c.in_ok-text.ensures ∙ ap (λ (ps : List (List ℕ)). spaced (book_words ps book)) c.players.ensures in
    let begun : c.push.new.self ≡ codes "=" ++ spaced (book_words players book) =
    c.in_ok-push.ensures.ok
    ∙ ap (λ (l : List ℕ). l ++ c.as_slice.result.now) (c.text.ensures.text ∙ ap (λ (l : List ℕ). l ++ codes "=") c.requires)
    ∙ ap (λ (l : List ℕ). codes "=" ++ l) written in
    let Ended : List ℕ → Type 0 = λ text. OnOk c.push-2.result (c.push-2.new.self ≡ text ++ 10 ∷ []) in
    subst Ended (c.write_nothing.ensures.text (book_words players book) begun) c.push-2.ensures.ok
