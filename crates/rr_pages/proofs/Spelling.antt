-- Pages that stand are the chain that was laid into them.
use Rattle.std.proofs.Common.{◌≡◌, ◌≢◌, ℕ, ◌+◌, ◌-◌, ◌*◌, ◌^◌, ◌<◌, ◌≤◌, List, [], ◌∷◌, ◌++◌, length, replicate, get_or, take, refl, ◌∙◌, ap, arith, length-append}
use Rattle.std.proofs.lemmas.List.{length-replicate, get_or_append_left, get_or-append_right, append_assoc, take_all}
use Rattle.byteorder.specs.Endian.{big_bytes}
use Rattle.byteorder.specs.Numbers.{big_number-reads_back, length-bytes_high_first}
use Rattle.rr_pages.specs.Pages.{number_in}
use Rattle.rr_pages.specs.Chains.{IsPage, Links, Chain}
use Rattle.rr_pages.specs.Laying.{page_spelling, head_of, laid, joined, FitEach, FitPages, PageStands, AllStand}
use Rattle.rr_pages.proofs.Bytes.{big_from-same, at_same}

module _ (a b c : List ℕ) (zeros : ℕ) (eight : length a ≡ 8) (two : length b ≡ 2) where
  parts_length : length (a ++ (b ++ (c ++ replicate zeros 0))) ≡ 10 + length c + zeros
  parts_length = omega (arith, length-append a (b ++ (c ++ replicate zeros 0)), length-append b (c ++ replicate zeros 0), length-append c (replicate zeros 0), length-replicate {A = ℕ} zeros 0)

  second : (k : ℕ) → get_or (a ++ (b ++ (c ++ replicate zeros 0))) (8 + k) 0 ≡ get_or (b ++ (c ++ replicate zeros 0)) k 0
  second k =
      get_or-append_right a (b ++ (c ++ replicate zeros 0)) 8 (8 + k) 0 eight (omega arith)
      ∙ at_same (b ++ (c ++ replicate zeros 0)) (8 + k - 8) k (omega arith)

  some_byte : (k : ℕ) → k < length c → get_or (a ++ (b ++ (c ++ replicate zeros 0))) (10 + k) 0 ≡ get_or c k 0
  some_byte k h =
      at_same (a ++ (b ++ (c ++ replicate zeros 0))) (10 + k) (8 + (2 + k)) (omega arith)
      ∙ (second (2 + k) ∙ (get_or-append_right b (c ++ replicate zeros 0) 2 (2 + k) 0 two (omega arith) ∙ (at_same (c ++ replicate zeros 0) (2 + k - 2) k (omega arith) ∙ get_or_append_left c (replicate zeros 0) 0 k h)))

-- a page as it is put together
pub page_together : (n m count : ℕ) (a b c none one two three : List ℕ) → none ≡ [] → one ≡ none ++ a → two ≡ one ++ b → three ≡ two ++ c → length a ≡ 8 → length b ≡ 2 → length c ≤ m → n ≡ 10 + m → count ≡ 10 + length c
    → take n three ++ replicate (n - count) 0 ≡ a ++ (b ++ (c ++ replicate (m - length c) 0))
page_together n m count a b c none one two three is_none is_one is_two is_three eight ten short room counted =
    let all : three ≡ (a ++ b) ++ c = is_three ∙ ap (λ (xs : List ℕ). xs ++ c) (is_two ∙ ap (λ (xs : List ℕ). xs ++ b) (is_one ∙ ap (λ (xs : List ℕ). xs ++ a) is_none)) in
    let len : length three ≡ 10 + length c = omega (arith, ap length all, length-append (a ++ b) c, length-append a b) in
    let zeros : n - count ≡ m - length c = omega arith in
    (λ i. take_all n three (omega arith) i ++ replicate (zeros i) 0)
    ∙ (ap (λ (xs : List ℕ). xs ++ replicate (m - length c) 0) all ∙ (append_assoc (a ++ b) c (replicate (m - length c) 0) ∙ append_assoc a b (c ++ replicate (m - length c) 0)))

pub length-page : (next : ℕ) (bytes : List ℕ) → length bytes ≤ 4086 → length (page_spelling next bytes) ≡ 4096
unfolding page_spelling
length-page next bytes short =
    omega (arith, parts_length (big_bytes 8 next) (big_bytes 2 (length bytes)) bytes (4086 - length bytes) (length-bytes_high_first 8 next) (length-bytes_high_first 2 (length bytes)))

pub spelled_page : (file : List ℕ) (page next : ℕ) (bytes : List ℕ) → PageStands file (page, page_spelling next bytes) → next < 256 ^ 8 → length bytes ≤ 4086 → IsPage file page next bytes
unfolding page_spelling number_in
spelled_page file page next bytes stands fits short =
    let eight = length-bytes_high_first 8 next in
    let two = length-bytes_high_first 2 (length bytes) in
    let zeros = 4086 - length bytes in
    let len = parts_length (big_bytes 8 next) (big_bytes 2 (length bytes)) bytes zeros eight two in
    let rest = big_bytes 2 (length bytes) ++ (bytes ++ replicate zeros 0) in
    record {
      next_page =
          big_from-same (4096 * page + 0) 0 8 file (big_bytes 8 next ++ rest) (λ k h. at_same file (4096 * page + 0 + k) (4096 * page + k) (omega arith) ∙ (stands.1 k (omega (arith, len)) ∙ at_same (big_bytes 8 next ++ rest) k (0 + k) (omega arith)))
          ∙ big_number-reads_back 8 next rest fits;
      used =
          big_from-same (4096 * page + 8) 0 2 file rest
          (λ k h. at_same file (4096 * page + 8 + k) (4096 * page + (8 + k)) (omega arith) ∙ (stands.1 (8 + k) (omega (arith, len)) ∙ (second (big_bytes 8 next) (big_bytes 2 (length bytes)) bytes zeros eight two k ∙ at_same rest k (0 + k) (omega arith))))
          ∙ big_number-reads_back 2 (length bytes) (bytes ++ replicate zeros 0) (omega (arith, short));
      fits = short;
      standing = λ i h.
          at_same file (4096 * page + 10 + i) (4096 * page + (10 + i)) (omega arith) ∙ (stands.1 (10 + i) (omega (arith, len))
          ∙ some_byte (big_bytes 8 next) (big_bytes 2 (length bytes)) bytes zeros eight two i h);
    }

head_fits : (pages : List ℕ) (pieces : List (List ℕ)) → FitEach pages pieces → head_of pages < 65536
head_fits [] pieces fit = omega arith
head_fits (page ∷ pages) [] fit = absurd fit
head_fits (page ∷ pages) (piece ∷ pieces) fit = fit.1

laid_links : (file : List ℕ) (pages : List ℕ) (pieces : List (List ℕ)) → FitEach pages pieces → AllStand file (laid pages pieces) → Links file (head_of pages) pages (joined pieces)
laid_links file [] [] fit stand = (refl, refl)
laid_links file [] (piece ∷ pieces) fit stand = absurd fit
laid_links file (page ∷ pages) [] fit stand = absurd fit
laid_links file (page ∷ pages) (piece ∷ pieces) fit stand = (
  refl,
  head_of pages,
  piece,
  joined pieces,
  refl,
  spelled_page file page (head_of pages) piece stand.0 (omega (arith, head_fits pages pieces fit.3)) fit.2,
  laid_links file pages pieces fit.3 stand.1,
)

head_some : (pages : List ℕ) (pieces : List (List ℕ)) → 0 < length pages → FitEach pages pieces → head_of pages ≢ 0
head_some [] pieces some fit = absurd (omega arith)
head_some (page ∷ pages) [] some fit = absurd fit
head_some (page ∷ pages) (piece ∷ pieces) some fit = λ none. absurd (omega (arith, fit.0, none))

-- wherever the laid pages stand, they are the chain
pub laid_chain : (file : List ℕ) (pages : List ℕ) (pieces : List (List ℕ)) → FitPages pages pieces → AllStand file (laid pages pieces) → Chain file (head_of pages) pages (joined pieces)
laid_chain file pages pieces fit stand = (head_some pages pieces fit.some fit.each, laid_links file pages pieces fit.each stand)
