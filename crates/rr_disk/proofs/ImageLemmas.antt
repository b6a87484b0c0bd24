-- What a write leaves of a file, and what an image has of the settled one.
use Rattle.std.proofs.Common.{◌≡◌, ◌⊎◌, inl, inr, ℕ, zero, suc, ◌+◌, ◌-◌, ◌<◌, ◌≤◌, min, max, List, [], ◌∷◌, ◌++◌, length, take, drop, replicate, get_or, refl, sym, ◌∙◌, ap, subst, arith, length-append, length-drop}
use Rattle.std.proofs.lemmas.Bool.{cases_lt}
use Rattle.std.proofs.lemmas.Grind.{common_steps}
use Rattle.std.proofs.lemmas.List.{ext_get_or, length-take, length-replicate, get_or-append_right, get_or_append_left, get_or-take, get_or-drop, get_or-replicate, get_or_past}
use Rattle.rr_disk.specs.Disk.{DiskState, IsOutside, furthest_end, IsImage, written, after_write, after_failed_write, length_after, after_sync, Torn, IsAt}
use Rattle.rr_disk.specs.Moments.{EachImage, TornFrom}

pub IsOutside-append : (xs ys : List (ℕ × ℕ)) (i : ℕ) → IsOutside xs i → IsOutside ys i → IsOutside (xs ++ ys) i
IsOutside-append [] ys i a b = b
IsOutside-append (x ∷ xs) ys i a b = (a.0, IsOutside-append xs ys i a.1 b)

pub furthest_end-append : (xs ys : List (ℕ × ℕ)) → furthest_end (xs ++ ys) ≡ max (furthest_end xs) (furthest_end ys)
furthest_end-append [] ys = omega arith
furthest_end-append (x ∷ xs) ys = omega (arith, furthest_end-append xs ys)

-- the parts of a write
pub length-written : (file : List ℕ) (at : ℕ) (bytes : List ℕ) → length (written file at bytes) ≡ max (length file) (at + length bytes)
length-written file at bytes = simp (length-append, length-take, length-replicate, length-drop) (omega arith)

front_length : (file : List ℕ) (at : ℕ) → length (take at file ++ replicate (at - length file) 0) ≡ at
front_length file at = simp (length-append, length-take, length-replicate) (omega arith)

-- the front of a write, with zeros in the gap
front_same : (file : List ℕ) (at i : ℕ) → i < at → get_or (take at file ++ replicate (at - length file) 0) i 0 ≡ get_or file i 0
front_same file at i h = elim (cases_lt i (length file)) [
  | inl inside ↦ get_or_append_left (take at file) (replicate (at - length file) 0) 0 i (rw length-take (omega arith)) ∙ get_or-take at file i 0 h
  | inr past ↦
      get_or-append_right (take at file) (replicate (at - length file) 0) (length file) i 0 (rw length-take (omega arith)) past
      ∙ (get_or-replicate (at - length file) (i - length file) 0 0 (omega arith) ∙ sym (get_or_past file i 0 past))
]

pub written_before : (file : List ℕ) (at : ℕ) (bytes : List ℕ) (i : ℕ) → i < at → get_or (written file at bytes) i 0 ≡ get_or file i 0
written_before file at bytes i h =
    let front = take at file ++ replicate (at - length file) 0 in
    let front_len : length front ≡ at = front_length file at in
    get_or_append_left (front ++ bytes) (drop (at + length bytes) file) 0 i (rw length-append (omega arith))
    ∙ (get_or_append_left front bytes 0 i (omega arith) ∙ front_same file at i h)

pub written_inside : (file : List ℕ) (at : ℕ) (bytes : List ℕ) (i : ℕ) → at ≤ i → i < at + length bytes → get_or (written file at bytes) i 0 ≡ get_or bytes (i - at) 0
written_inside file at bytes i low high =
    let front = take at file ++ replicate (at - length file) 0 in
    let front_len : length front ≡ at = front_length file at in
    get_or_append_left (front ++ bytes) (drop (at + length bytes) file) 0 i (rw length-append (omega arith))
    ∙ get_or-append_right front bytes at i 0 front_len low

pub written_behind : (file : List ℕ) (at : ℕ) (bytes : List ℕ) (i : ℕ) → at + length bytes ≤ i → get_or (written file at bytes) i 0 ≡ get_or file i 0
written_behind file at bytes i low =
    let front = take at file ++ replicate (at - length file) 0 in
    let front_len : length front ≡ at = front_length file at in
    get_or-append_right (front ++ bytes) (drop (at + length bytes) file) (at + length bytes) i 0 (length-append front bytes ∙ ap (λ (n : ℕ). n + length bytes) front_len) low
    ∙ (get_or-drop (at + length bytes) file (i - (at + length bytes)) 0 ∙ ap (λ (n : ℕ). get_or file n 0) (omega arith))

-- bytes i of a file that are outside a write stay
pub written_outside : (file : List ℕ) (at : ℕ) (bytes : List ℕ) (i : ℕ) → (i < at) ⊎ (at + length bytes ≤ i) → get_or (written file at bytes) i 0 ≡ get_or file i 0
written_outside file at bytes i (inl before) = written_before file at bytes i before
written_outside file at bytes i (inr behind) = written_behind file at bytes i behind

-- two files that agree on a range have the same bytes there
pub same_part : (a b : List ℕ) (from n : ℕ) → from + n ≤ length a → from + n ≤ length b → ((i : ℕ) → from ≤ i → i < from + n → get_or a i 0 ≡ get_or b i 0) → take n (drop from a) ≡ take n (drop from b)
same_part a b from n in_a in_b same =
    let len_a : length (take n (drop from a)) ≡ n = simp (length-take, length-drop) (omega arith) in
    let len_b : length (take n (drop from b)) ≡ n = simp (length-take, length-drop) (omega arith) in
    ext_get_or 0 (take n (drop from a)) (take n (drop from b)) (len_a ∙ sym len_b)
    (λ i h. get_or-take n (drop from a) i 0 (omega arith) ∙ (get_or-drop from a i 0
    ∙ (same (from + i) (omega arith) (omega arith) ∙ (sym (get_or-drop from b i 0) ∙ sym (get_or-take n (drop from b) i 0 (omega arith))))))

-- what was written is read again
pub read_back : (file : List ℕ) (at : ℕ) (bytes : List ℕ) → IsAt (written file at bytes) at bytes
read_back file at bytes =
    let len : length (written file at bytes) ≡ max (length file) (at + length bytes) = length-written file at bytes in
    let part_len : length (take (length bytes) (drop at (written file at bytes))) ≡ length bytes = simp (length-take, length-drop) (omega (arith, len)) in
    record {
      within = omega (arith, len);
      same =
          ext_get_or 0 (take (length bytes) (drop at (written file at bytes))) bytes part_len
          (λ i h. get_or-take (length bytes) (drop at (written file at bytes)) i 0 (omega arith) ∙ (get_or-drop at (written file at bytes) i 0
          ∙ (written_inside file at bytes (at + i) (omega arith) (omega arith) ∙ ap (λ (n : ℕ). get_or bytes n 0) (omega arith))));
    }

-- elsewhere the file reads as before
pub read_elsewhere : (file : List ℕ) (at : ℕ) (bytes : List ℕ) (from n : ℕ) → from + n ≤ length file → (from + n ≤ at) ⊎ (at + length bytes ≤ from)
    → take n (drop from (written file at bytes)) ≡ take n (drop from file)
read_elsewhere file at bytes from n within apart =
    same_part (written file at bytes) file from n (omega (arith, length-written file at bytes)) within
    (λ i low high. written_outside file at bytes i (elim apart [ inl before ↦ inl (omega arith) | inr behind ↦ inr (omega arith) ]))

-- and so does a file that a stop tore there
pub torn_elsewhere : (at m : ℕ) (old new : List ℕ) (from n : ℕ) → Torn at m old new → from + n ≤ length old → (from + n ≤ at) ⊎ (at + m ≤ from)
    → take n (drop from new) ≡ take n (drop from old)
torn_elsewhere at m old new from n torn within apart =
    same_part new old from n (omega (arith, torn.no_shorter)) within
    (λ i low high. torn.same i (omega arith) (elim apart [ inl before ↦ inl (omega arith) | inr behind ↦ inr (omega arith) ]))

-- a range of the settled file that no write touches stays
pub image_elsewhere : (state : DiskState) (image : List ℕ) (from n : ℕ) → IsImage state image → from + n ≤ length state.settled → ((i : ℕ) → from ≤ i → i < from + n → IsOutside state.ranges i)
    → take n (drop from image) ≡ take n (drop from state.settled)
image_elsewhere state image from n is within outside =
    same_part image state.settled from n (omega (arith, is.no_shorter)) within (λ i low high. is.kept i (omega arith) (outside i low high))

-- with nothing unsynced a stop leaves the settled file
pub image_at_rest : (state : DiskState) (image : List ℕ) → state.ranges ≡ [] → IsImage state image → image ≡ state.settled
image_at_rest state image none is =
    let furthest : furthest_end state.ranges ≡ 0 = ap furthest_end none in
    let len : length image ≡ length state.settled = omega (arith, is.no_shorter, is.no_longer) in
    ext_get_or 0 image state.settled len (λ i h. is.kept i (omega arith) (subst (λ (ranges : List (ℕ × ℕ)). IsOutside ranges i) (sym none) tt))

pub each_at_rest : (state : DiskState) (P : List ℕ → Type 0) → state.ranges ≡ [] → P state.settled → EachImage state P
each_at_rest state P none here image is = subst P (sym (image_at_rest state image none is)) here

-- after a sync it leaves what a read gives
pub each_synced : (state : DiskState) (P : List ℕ → Type 0) → P state.content → EachImage (after_sync state) P
each_synced state P here = each_at_rest (after_sync state) P refl here

-- a write is a tear that came out, and a tear may change nothing
pub torn_whole : (file : List ℕ) (at : ℕ) (bytes : List ℕ) → Torn at (length bytes) file (written file at bytes)
torn_whole file at bytes =
    let len = length-written file at bytes in
    record { no_shorter = omega (arith, len); no_longer = omega (arith, len); same = λ i h apart. written_outside file at bytes i apart }

pub torn_same : (at n : ℕ) (file : List ℕ) → Torn at n file file
torn_same at n file = record { no_shorter = omega arith; no_longer = omega arith; same = λ i h apart. refl }

pub torn_wider : (at m n : ℕ) (old new : List ℕ) → m ≤ n → Torn at m old new → Torn at n old new
torn_wider at m n old new more torn =
    record {
      no_shorter = torn.no_shorter;
      no_longer = omega (arith, torn.no_longer);
      same = λ i h apart. torn.same i h (elim apart [ inl before ↦ inl before | inr behind ↦ inr (omega arith) ]);
    }

-- what is said of the image alone: outside the write's range it has what the settled file has outside the earlier
-- ranges
untouched : (state : DiskState) (at n : ℕ) (image : List ℕ) → Type 0
untouched state at n image = (i : ℕ) → i < length state.settled → IsOutside state.ranges i → (i < at) ⊎ (at + n ≤ i) → get_or image i 0 ≡ get_or state.settled i 0

torn_image_from : (state : DiskState) (at n : ℕ) (image : List ℕ) → length state.settled ≤ length image → length image ≤ max (length state.settled) (max (furthest_end state.ranges) (at + n)) → untouched state at n image
    → TornFrom state at n image
unfolding untouched
torn_image_from state at n image no_shorter no_longer kept =
    let old = take n (drop at state.settled) in
    let old_len : length old ≡ min n (length state.settled - at) = simp (length-take, length-drop) refl in
    let whole = written image at old in
    let size = max (length state.settled) (min (length image) (furthest_end state.ranges)) in
    let whole_len : length whole ≡ max (length image) (at + length old) = length-written image at old in
    let earlier_len : length (take size whole) ≡ size = length-take size whole ∙ (omega arith) in
    let outside : (i : ℕ) → i < size → (i < at) ⊎ (at + n ≤ i) → get_or (take size whole) i 0 ≡ get_or image i 0 =
    λ i h apart. get_or-take size whole i 0 h ∙ written_outside image at old i (elim apart [ inl before ↦ inl before | inr behind ↦ inr (omega arith) ]) in
    let inside : (i : ℕ) → i < length state.settled → at ≤ i → i < at + n → get_or (take size whole) i 0 ≡ get_or state.settled i 0 =
    λ i h low high. get_or-take size whole i 0 (omega arith) ∙ (written_inside image at old i low (omega arith)
    ∙ (get_or-take n (drop at state.settled) (i - at) 0 (omega arith) ∙ (get_or-drop at state.settled (i - at) 0 ∙ ap (λ (k : ℕ). get_or state.settled k 0) (omega arith)))) in
    record {
      earlier = take size whole;
      was = record {
        no_shorter = omega arith;
        no_longer = omega arith;
        kept = λ i h out. elim (cases_lt i at) [
          | inl before ↦ outside i (omega arith) (inl before) ∙ kept i h out (inl before)
          | inr low ↦ elim (cases_lt i (at + n)) [
            | inl high ↦ inside i h low high
            | inr behind ↦ outside i (omega arith) (inr behind) ∙ kept i h out (inr behind)
          ]
        ];
      };
      torn = record { no_shorter = omega arith; no_longer = omega arith; same = λ i h apart. sym (outside i (omega arith) apart) };
    }

-- an image before the write is one, torn or not
pub torn_nothing : (state : DiskState) (at n : ℕ) (image : List ℕ) → IsImage state image → TornFrom state at n image
torn_nothing state at n image is = record { earlier = image; was = is; torn = torn_same at n image }

-- an image within a write is one before the write, torn there
torn_ranged : (state : DiskState) (at n : ℕ) (image : List ℕ) → IsImage (record { content = state.content; settled = state.settled; ranges = state.ranges ++ (at, at + n) ∷ [] }) image → TornFrom state at n image
unfolding untouched
torn_ranged state at n image is =
    let furthest : furthest_end (state.ranges ++ (at, at + n) ∷ []) ≡ max (furthest_end state.ranges) (max (at + n) 0) = furthest_end-append state.ranges ((at, at + n) ∷ []) in
    torn_image_from state at n image is.no_shorter (omega (arith, is.no_longer)) (λ i h out apart. is.kept i h (IsOutside-append state.ranges ((at, at + n) ∷ []) i out (apart, tt)))

pub torn_image : (state : DiskState) (at : ℕ) (bytes image : List ℕ) → IsImage (after_write state at bytes) image → TornFrom state at (length bytes) image
torn_image state at [] image is = torn_nothing state at 0 image is
torn_image state at (byte ∷ bytes) image is = torn_ranged state at (length (byte ∷ bytes)) image (record { no_shorter = is.no_shorter; no_longer = is.no_longer; kept = is.kept })

wider_from : (state : DiskState) (at m n : ℕ) (image : List ℕ) → m ≤ n → TornFrom state at m image → TornFrom state at n image
wider_from state at m n image more torn = record { earlier = torn.earlier; was = torn.was; torn = torn_wider at m n torn.earlier image more torn.torn }

-- the same where fewer bytes went out, and of a write that failed
pub torn_from : (state : DiskState) (at n : ℕ) (other image : List ℕ) → length other ≤ n → IsImage (after_write state at other) image → TornFrom state at n image
torn_from state at n other image fewer is = wider_from state at (length other) n image fewer (torn_image state at other image is)

pub torn_failed : (state : DiskState) (at n upto : ℕ) (front image : List ℕ) → upto ≤ n → IsImage (after_failed_write state at upto front) image → TornFrom state at n image
torn_failed state at n zero front image no_more is = torn_nothing state at n image is
torn_failed state at n (suc upto) front image no_more is =
    wider_from state at (suc upto) n image no_more (torn_ranged state at (suc upto) image (record { no_shorter = is.no_shorter; no_longer = is.no_longer; kept = is.kept }))

-- a write that went out whole is one that failed behind its last byte
pub all_out : (state : DiskState) (at : ℕ) (bytes : List ℕ) → after_write state at bytes ≡ after_failed_write state at (length bytes) bytes
all_out state at [] = refl
all_out state at (byte ∷ bytes) = refl

-- a fact that outlives any change there holds of each image within the write
pub each_torn : (state : DiskState) (at : ℕ) (bytes : List ℕ) (P : List ℕ → Type 0) → EachImage state P → ((old new : List ℕ) → P old → Torn at (length bytes) old new → P new) → EachImage (after_write state at bytes) P
each_torn state at bytes P here outlives image is =
    let torn = torn_image state at bytes image is in
    outlives torn.earlier image (here torn.earlier torn.was) torn.torn

-- where nothing is unsynced, an image within a write is the settled file, torn there
pub torn_at_rest : (state : DiskState) (at : ℕ) (bytes image : List ℕ) → state.ranges ≡ [] → IsImage (after_write state at bytes) image → Torn at (length bytes) state.settled image
torn_at_rest state at bytes image none is =
    let torn = torn_image state at bytes image is in
    subst (λ (old : List ℕ). Torn at (length bytes) old image) (image_at_rest state torn.earlier none torn.was) torn.torn

-- the same of each image after a write of n bytes that failed
pub each_failed : (state : DiskState) (at n : ℕ) (P : List ℕ → Type 0) → EachImage state P → ((old new : List ℕ) → P old → Torn at n old new → P new)
    → (upto : ℕ) (front : List ℕ) → upto ≤ n → EachImage (after_failed_write state at upto front) P
each_failed state at n P here outlives upto front no_more image is =
    let torn = torn_failed state at n upto front image no_more is in
    outlives torn.earlier image (here torn.earlier torn.was) torn.torn

outside_front : (xs ys : List (ℕ × ℕ)) (i : ℕ) → IsOutside (xs ++ ys) i → IsOutside xs i
outside_front [] ys i out = tt
outside_front (x ∷ xs) ys i out = (out.0, outside_front xs ys i out.1)

outside_back : (xs ys : List (ℕ × ℕ)) (i : ℕ) → IsOutside (xs ++ ys) i → IsOutside ys i
outside_back [] ys i out = out
outside_back (x ∷ xs) ys i out = outside_back xs ys i out.1

-- what a read gives may stay, also after one more write
pub overwritten_may_stay : (state : DiskState) (at : ℕ) (bytes : List ℕ) → IsImage state state.content
    → IsImage (record { content = written state.content at bytes; settled = state.settled; ranges = state.ranges ++ (at, at + length bytes) ∷ [] }) (written state.content at bytes)
overwritten_may_stay state at bytes is =
    let n = length bytes in
    let range : ℕ × ℕ = (at, at + n) in
    let furthest : furthest_end (state.ranges ++ range ∷ []) ≡ max (furthest_end state.ranges) (max (at + n) 0) = furthest_end-append state.ranges (range ∷ []) in
    let len : length (written state.content at bytes) ≡ max (length state.content) (at + n) = length-written state.content at bytes in
    record {
      no_shorter = omega (arith, is.no_shorter, len);
      no_longer = omega (arith, is.no_longer, len, furthest);
      kept = λ i h out.
          let apart = outside_back state.ranges (range ∷ []) i out in
          written_outside state.content at bytes i apart.0 ∙ is.kept i h (outside_front state.ranges (range ∷ []) i out);
    }

pub written_may_stay : (state : DiskState) (at : ℕ) (bytes : List ℕ) → IsImage state state.content → IsImage (after_write state at bytes) (after_write state at bytes).content
written_may_stay state at [] is = is
written_may_stay state at (byte ∷ bytes) is = overwritten_may_stay state at (byte ∷ bytes) is

-- and after one that failed and of which nothing is seen
pub failed_may_stay : (state : DiskState) (at n : ℕ) → IsImage state state.content → IsImage (after_failed_write state at n []) (after_failed_write state at n []).content
failed_may_stay state at zero is = is
failed_may_stay state at (suc n) is =
    let range : ℕ × ℕ = (at, at + suc n) in
    let furthest : furthest_end (state.ranges ++ range ∷ []) ≡ max (furthest_end state.ranges) (max (at + suc n) 0) = furthest_end-append state.ranges (range ∷ []) in
    record {
      no_shorter = is.no_shorter;
      no_longer = omega (arith, is.no_longer, furthest);
      kept = λ i h out. is.kept i h (outside_front state.ranges (range ∷ []) i out);
    }

pub synced_may_stay : (state : DiskState) → IsImage (after_sync state) (after_sync state).content
synced_may_stay state = record { no_shorter = omega arith; no_longer = omega arith; kept = λ i h out. refl }

-- how long the file is after a write
pub length-after_write : (state : DiskState) (at : ℕ) (bytes : List ℕ) → length (after_write state at bytes).content ≡ length_after (length state.content) at (length bytes)
length-after_write state at [] = refl
length-after_write state at (byte ∷ bytes) = length-written state.content at (byte ∷ bytes) ∙ grind (arith, common_steps)

-- zeros behind a file change no byte that is read by its place
pub padded_same : (file : List ℕ) (n i : ℕ) → get_or (file ++ replicate n 0) i 0 ≡ get_or file i 0
padded_same file n i = elim (cases_lt i (length file)) [
  | inl inside ↦ get_or_append_left file (replicate n 0) 0 i inside
  | inr past ↦
      get_or-append_right file (replicate n 0) (length file) i 0 refl past
      ∙ (elim (cases_lt (i - length file) n) [
        | inl low ↦ get_or-replicate n (i - length file) 0 0 low
        | inr high ↦ get_or_past (replicate n 0) (i - length file) 0 (rw length-replicate high)
      ] ∙ sym (get_or_past file i 0 past))
]

-- two files of the same length that agree at each place are the same
pub written_padded : (file : List ℕ) (at : ℕ) (bytes : List ℕ) → written (file ++ replicate (at + length bytes - length file) 0) at bytes ≡ written file at bytes
written_padded file at bytes =
    let n = at + length bytes - length file in
    let grown = file ++ replicate n 0 in
    let grown_len : length grown ≡ length file + n = length-append file (replicate n 0) ∙ ap (λ (k : ℕ). length file + k) (length-replicate n 0) in
    let len : length (written grown at bytes) ≡ length (written file at bytes) = length-written grown at bytes ∙ (omega (arith, grown_len) ∙ sym (length-written file at bytes)) in
    ext_get_or 0 (written grown at bytes) (written file at bytes) len (λ i h. elim (cases_lt i at) [
      | inl before ↦ written_before grown at bytes i before ∙ (padded_same file n i ∙ sym (written_before file at bytes i before))
      | inr low ↦ elim (cases_lt i (at + length bytes)) [
        | inl high ↦ written_inside grown at bytes i low high ∙ sym (written_inside file at bytes i low high)
        | inr behind ↦ written_behind grown at bytes i behind ∙ (padded_same file n i ∙ sym (written_behind file at bytes i behind))
      ]
    ])
