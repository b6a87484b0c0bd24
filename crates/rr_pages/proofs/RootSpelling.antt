-- A root that was written reads back.
use Rattle.std.proofs.Common.{◌≡◌, ℕ, ◌+◌, ◌-◌, ◌*◌, ◌^◌, ◌<◌, Bool, List, [], ◌∷◌, ◌++◌, length, slice_index, refl, sym, ◌∙◌, subst, arith, length-append}
use Rattle.std.proofs.lemmas.List.{append-nil, get_or-append_right}
use Rattle.byteorder.specs.Endian.{big_from, big_bytes}
use Rattle.byteorder.specs.Numbers.{big_number-reads_back, length-bytes_high_first}
use Rattle.rr_pages.specs.declared.root.Root.{Root}
use Rattle.rr_pages.specs.Pages.{StandsAt, number_in}
use Rattle.rr_pages.specs.Roots.{root_page, root_gate, half_number, HasFields, root_bytes, FitsFields}
use Rattle.rr_pages.proofs.Bytes.{at_same, big_from-same}

-- what stands behind other bytes
behind : (file : List ℕ) (place n : ℕ) (xs ys : List ℕ) → length xs ≡ n → StandsAt file place (xs ++ ys) → StandsAt file (place + n) ys
behind file place n xs ys whole stands i h =
    at_same file (place + n + i) (place + (n + i)) (omega arith)
    ∙ (stands (n + i) (omega (arith, length-append xs ys)) ∙ (get_or-append_right xs ys n (n + i) 0 whole (omega arith) ∙ at_same ys (n + i - n) i (omega arith)))

-- a number that stands with other bytes behind it
stands_number : (file : List ℕ) (place at n x : ℕ) (rest : List ℕ) → at ≡ place → StandsAt file place (big_bytes n x ++ rest) → x < 256 ^ n → big_from at n file ≡ x
stands_number file place at n x rest there stands fits =
    big_from-same at 0 n file (big_bytes n x ++ rest)
    (λ k h. at_same file (at + k) (place + k) (omega arith) ∙ (stands k (omega (arith, length-append (big_bytes n x) rest, length-bytes_high_first n x)) ∙ at_same (big_bytes n x ++ rest) k (0 + k) (omega arith)))
    ∙ big_number-reads_back n x rest fits

one_byte : (file : List ℕ) (place at x : ℕ) (rest : List ℕ) → at ≡ place → StandsAt file place (x ∷ rest) → big_from at 1 file ≡ x
one_byte file place at x rest there stands =
    let byte : slice_index file at ≡ x = at_same file at (place + 0) (omega arith) ∙ stands 0 (omega arith) in
    omega (arith, byte)

pub length-root : (root : Root) → length (root_bytes root) ≡ 35
unfolding root_bytes
length-root root =
    let a = big_bytes 8 root.number in
    let b = big_bytes 8 root.directory in
    let d = big_bytes 8 root.first in
    let e = big_bytes 8 root.pages in
    let f = big_bytes 2 root.version in
    omega (
      arith,
      length-append a (b ++ (half_number root.half ∷ (d ++ (e ++ f)))),
      length-append b (half_number root.half ∷ (d ++ (e ++ f))),
      length-append d (e ++ f),
      length-append e f,
      length-bytes_high_first 8 root.number,
      length-bytes_high_first 8 root.directory,
      length-bytes_high_first 8 root.first,
      length-bytes_high_first 8 root.pages,
      length-bytes_high_first 2 root.version,
    )

-- wherever a root's bytes stand behind a gate, that root stands there
pub root_stands : (file : List ℕ) (side : Bool) (root : Root) → FitsFields root → StandsAt file (root_gate side + 1) (root_bytes root) → HasFields file side root
unfolding root_bytes number_in
root_stands file side root fits stands =
    let place = 4096 * root_page side + 1 in
    let f = big_bytes 2 root.version in
    let e = big_bytes 8 root.pages ++ f in
    let d = big_bytes 8 root.first ++ e in
    let c = half_number root.half ∷ d in
    let b = big_bytes 8 root.directory ++ c in
    let at_b : StandsAt file (place + 8) b = behind file place 8 (big_bytes 8 root.number) b (length-bytes_high_first 8 root.number) stands in
    let at_c : StandsAt file (place + 8 + 8) c = behind file (place + 8) 8 (big_bytes 8 root.directory) c (length-bytes_high_first 8 root.directory) at_b in
    let at_d : StandsAt file (place + 8 + 8 + 1) d = behind file (place + 8 + 8) 1 (half_number root.half ∷ []) d refl at_c in
    let at_e : StandsAt file (place + 8 + 8 + 1 + 8) e = behind file (place + 8 + 8 + 1) 8 (big_bytes 8 root.first) e (length-bytes_high_first 8 root.first) at_d in
    let at_f : StandsAt file (place + 8 + 8 + 1 + 8 + 8) f = behind file (place + 8 + 8 + 1 + 8) 8 (big_bytes 8 root.pages) f (length-bytes_high_first 8 root.pages) at_e in
    record {
      number = stands_number file place (4096 * root_page side + 1) 8 root.number b (omega arith) stands (omega (arith, fits.number));
      directory = stands_number file (place + 8) (4096 * root_page side + 9) 8 root.directory c (omega arith) at_b (omega (arith, fits.directory));
      half = one_byte file (place + 8 + 8) (4096 * root_page side + 17) (half_number root.half) d (omega arith) at_c;
      first = stands_number file (place + 8 + 8 + 1) (4096 * root_page side + 18) 8 root.first e (omega arith) at_d (omega (arith, fits.first));
      pages = stands_number file (place + 8 + 8 + 1 + 8) (4096 * root_page side + 26) 8 root.pages f (omega arith) at_e (omega (arith, fits.pages));
      version = stands_number file (place + 8 + 8 + 1 + 8 + 8) (4096 * root_page side + 34) 2 root.version [] (omega arith) (subst (λ (xs : List ℕ). StandsAt file (place + 8 + 8 + 1 + 8 + 8) xs) (sym (append-nil f)) at_f) (omega (arith, fits.version));
    }
