use Rattle.std.proofs.Common.{◌≡◌, ℕ, List, ◌∷◌, ◌++◌, arith, sym, ◌∙◌, subst, length}
use Rattle.rr_words.specs.Name.{IsTableName}
use Rattle.rr_reading.proofs.DirLemmas.PieceLemmas.{cut_same}
use Rattle.rr_reading.proofs.dir.reading.next_name.Goals as goal

-- a name that stands there is the word that was read
is_word : (bytes mid word new name rest : List ℕ) (count : ℕ) → bytes ≡ count ∷ mid → length word ≡ count → mid ≡ word ++ new → bytes ≡ length name ∷ (name ++ rest) → name ≡ word
is_word bytes mid word new name rest count read len front same =
    let there : count ∷ mid ≡ length name ∷ (name ++ rest) = sym read ∙ same in
    let number : count ≡ length name = cc in
    let behind : mid ≡ name ++ rest = cc in
    (cut_same name word rest new (omega (arith, len, number)) (sym behind ∙ front)).0

pub returns-in_err-name : goal.returns-in_err-name
returns-in_err-name c =
    rw c.from_residual-in_err-name.ensures (λ name rest is same.
    let here = is_word c.args.cursor.now c.u8.new.self c.in_ok-word.word.now c.bytes.new.self name rest c.in_ok-count.count c.in_ok-count.ensures (omega (arith, c.in_ok-word.ensures.0, c.from.ensures)) c.in_ok-word.ensures.2 same in
    c.in_err-name.ensures.spelled (subst IsTableName here is))
