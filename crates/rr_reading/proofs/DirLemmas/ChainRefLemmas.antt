-- The bytes of a chain's place tell it.
use Rattle.std.proofs.Common.{◌≡◌, ℕ, List, ◌++◌, length, sym, ◌∙◌, arith, length-append, append_assoc}
use Rattle.rr_reading.specs.declared.dir.directory.ChainRef.{ChainRef}
use Rattle.rr_words.specs.Spelling.Number.{spelled_number}
use Rattle.rr_reading.specs.Dir.Directory.{spelled_chain, IsChain, IsText}
use Rattle.rr_words.proofs.SpellingLemmas.NumberLemmas.{length-spelled_number}
use Rattle.rr_reading.proofs.DirLemmas.NumberLemmas.{cut_number}

pub length-spelled_chain : (c : ChainRef) → length (spelled_chain c) ≡ 12
length-spelled_chain c = omega (arith, length-append (spelled_number 8 c.head) (spelled_number 4 c.length), length-spelled_number 8 c.head, length-spelled_number 4 c.length)

pub cut_chain : (c d : ChainRef) (r s : List ℕ) → IsChain c → IsChain d → spelled_chain c ++ r ≡ spelled_chain d ++ s → (c ≡ d) × (r ≡ s)
cut_chain c d r s is_c is_d same =
    let there : spelled_number 8 c.head ++ (spelled_number 4 c.length ++ r) ≡ spelled_number 8 d.head ++ (spelled_number 4 d.length ++ s) =
    sym (append_assoc (spelled_number 8 c.head) (spelled_number 4 c.length) r) ∙ same ∙ append_assoc (spelled_number 8 d.head) (spelled_number 4 d.length) s in
    let head = cut_number 8 c.head d.head _ _ (omega (arith, is_c.page)) (omega (arith, is_d.page)) there in
    let long = cut_number 4 c.length d.length r s (omega (arith, is_c.long)) (omega (arith, is_d.long)) head.1 in
    (λ i. record { head = head.0 i; length = long.0 i }, long.1)

pub IsChain-text : (c : ChainRef) → IsText c → IsChain c
IsChain-text c is = record { page = is.page; long = omega (arith, is.short) }
