-- Induction over the entries of a book, and what one entry more tells.
use Rattle.std.specs.Prelude.{◌≡◌, ℕ, ◌+◌, Bool, cond, [], ◌∷◌, ◌++◌, Option, None, Some, unwrap_or, refl}
use Rattle.std.specs.Option.{option_or}
use Rattle.std.proofs.Common.{sym, ◌∙◌, ap, subst, append_assoc, append-nil, arith}
use Rattle.rr_books.specs.declared.entries.Entry.{Entry}
use Rattle.rr_books.specs.Book.{Book}
use Rattle.rr_auction.specs.History.{last_behind, last_told, times, times_behind}

-- what holds of no entry, and of one more each time, holds of any book
pub by_entries : (P : Book → Type 0) → P [] → ((book : Book) (e : Entry) → P book → P (book ++ e ∷ [])) → (book : Book) → P book
by_entries P none more book = from [] book none
  where
    from : (before es : Book) → P before → P (before ++ es)
    from before [] h = subst P (sym (append-nil before)) h
    from before (e ∷ es) h = subst P (append_assoc before (e ∷ []) es) (from (before ++ e ∷ []) es (more before e h))

or_none : {A : Type 0} (o : Option A) → option_or o None ≡ o
or_none None = refl
or_none (Some x) = refl

or_assoc : {A : Type 0} (o p q : Option A) → option_or (option_or o p) q ≡ option_or o (option_or p q)
or_assoc None p q = refl
or_assoc (Some x) p q = refl

last_behind-push : {A : Type 0} (tells : Book → Entry → Option A) (before es : Book) (e : Entry) → last_behind tells before (es ++ e ∷ []) ≡ option_or (tells (before ++ es) e) (last_behind tells before es)
last_behind-push tells before [] e = ap (λ (b : Book). tells b e) (sym (append-nil before)) ∙ sym (or_none (tells (before ++ []) e))
last_behind-push tells before (x ∷ xs) e =
    ap (λ (o : Option _). option_or o (tells before x)) (last_behind-push tells (before ++ x ∷ []) xs e)
    ∙ or_assoc (tells ((before ++ x ∷ []) ++ xs) e) (last_behind tells (before ++ x ∷ []) xs) (tells before x)
    ∙ ap (λ (b : Book). option_or (tells b e) (option_or (last_behind tells (before ++ x ∷ []) xs) (tells before x))) (append_assoc before (x ∷ []) xs)

pub last_told-push : {A : Type 0} (tells : Book → Entry → Option A) (book : Book) (e : Entry) → last_told tells (book ++ e ∷ []) ≡ option_or (tells book e) (last_told tells book)
unfolding last_told
last_told-push tells book e = last_behind-push tells [] book e

times_behind-push : (is : Book → Entry → Bool) (before es : Book) (e : Entry) → times_behind is before (es ++ e ∷ []) ≡ times_behind is before es + cond (is (before ++ es) e) 1 0
times_behind-push is before [] e =
    let same : cond {A = ℕ} (is before e) 1 0 ≡ cond (is (before ++ []) e) 1 0 = ap (λ (b : Book). cond {A = ℕ} (is b e) 1 0) (sym (append-nil before)) in
    omega arith
times_behind-push is before (x ∷ xs) e =
    let rest = times_behind-push is (before ++ x ∷ []) xs e in
    let same : cond {A = ℕ} (is ((before ++ x ∷ []) ++ xs) e) 1 0 ≡ cond (is (before ++ (x ∷ xs)) e) 1 0 =
    ap (λ (b : Book). cond {A = ℕ} (is b e) 1 0) (append_assoc before (x ∷ []) xs) in
    omega arith

pub times-push : (is : Book → Entry → Bool) (book : Book) (e : Entry) → times is (book ++ e ∷ []) ≡ times is book + cond (is book e) 1 0
unfolding times
times-push is book e = times_behind-push is [] book e

pub unwrap_either : {A : Type 0} (o p : Option A) (d : A) → unwrap_or (option_or o p) d ≡ unwrap_or o (unwrap_or p d)
unwrap_either None p d = refl
unwrap_either (Some x) p d = refl

pub last_told-none : {A : Type 0} (tells : Book → Entry → Option A) → last_told tells [] ≡ None
unfolding last_told
last_told-none tells = refl

-- what each entry that tells anything sets, and no other changes, is what the last of them tells
pub by_last : {A : Type 0} (tells : Book → Entry → Option A) (first : A) (f : Book → A) → f [] ≡ first → ((book : Book) (e : Entry) → f (book ++ e ∷ []) ≡ unwrap_or (tells book e) (f book)) → (book : Book) → f book ≡ unwrap_or (last_told tells book) first
by_last {A} tells first f none more book = by_entries P (none ∙ ap (λ (o : Option A). unwrap_or o first) (sym (last_told-none tells))) step book
  where
    P : Book → Type 0
    P b = f b ≡ unwrap_or (last_told tells b) first

    step : (b : Book) (e : Entry) → f b ≡ unwrap_or (last_told tells b) first → f (b ++ e ∷ []) ≡ unwrap_or (last_told tells (b ++ e ∷ [])) first
    step b e h =
        more b e
        ∙ ap (λ (x : A). unwrap_or (tells b e) x) h
        ∙ sym (unwrap_either (tells b e) (last_told tells b) first)
        ∙ ap (λ (o : Option A). unwrap_or o first) (sym (last_told-push tells b e))

pub times-none : (is : Book → Entry → Bool) → times is [] ≡ 0
unfolding times
times-none is = refl
