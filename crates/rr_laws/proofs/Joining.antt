-- A book behind two effects.
use Rattle.std.specs.Prelude.{◌≡◌, [], ◌∷◌, ◌++◌}
use Rattle.std.proofs.Common.{sym, ◌∙◌, ap, append_assoc, append-nil}
use Rattle.rr_books.specs.Book.{Book}
use Rattle.rr_desk.specs.Effects.{Effect, in_turn}

pub after_two : (f g : Effect) (book : Book) → book ++ in_turn (f ∷ g ∷ []) book ≡ (book ++ f book) ++ g (book ++ f book)
after_two f g book =
    ap (λ (more : Book). book ++ (f book ++ more)) (append-nil (g (book ++ f book)))
    ∙ sym (append_assoc book (f book) (g (book ++ f book)))
