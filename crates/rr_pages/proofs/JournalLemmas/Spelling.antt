-- How a record is read from its spelling.
use Rattle.std.proofs.Common.{◌≡◌, ℕ, suc, ◌+◌, ◌-◌, ◌*◌, ◌^◌, ◌<◌, ◌≤◌, List, ◌++◌, length, replicate, get_or, slice_index, refl, ◌∙◌, arith, length-append}
use Rattle.std.proofs.lemmas.List.{length-replicate, get_or_append_left, get_or-append_right, get_or-replicate}
use Rattle.byteorder.specs.Endian.{big_bytes}
use Rattle.byteorder.specs.Numbers.{big_number-reads_back, length-bytes_high_first}
use Rattle.rr_pages.specs.declared.journal.layout.HalfIndex.{HalfIndex}
use Rattle.rr_pages.specs.Journal.Layout.{gate_place, number_at, length_at, StandsAt, slots_for, HasRoom, spelling_behind_gate, spelling}
use Rattle.rr_pages.specs.Journal.Run.{IsRecord}
use Rattle.rr_pages.proofs.JournalLemmas.Bytes.{big_from-same, at_same}
use Rattle.rr_pages.proofs.JournalLemmas.Runs.{enough_slots}

-- four lists one behind the other: eight bytes, four, some, and zeros
module _ (a b c : List ℕ) (zeros : ℕ) (eight : length a ≡ 8) (four : length b ≡ 4) where
  parts_length : length (a ++ (b ++ (c ++ replicate zeros 0))) ≡ 12 + length c + zeros
  parts_length = omega (arith, length-append a (b ++ (c ++ replicate zeros 0)), length-append b (c ++ replicate zeros 0), length-append c (replicate zeros 0), length-replicate {A = ℕ} zeros 0)

  second : (k : ℕ) → get_or (a ++ (b ++ (c ++ replicate zeros 0))) (8 + k) 0 ≡ get_or (b ++ (c ++ replicate zeros 0)) k 0
  second k =
      get_or-append_right a (b ++ (c ++ replicate zeros 0)) 8 (8 + k) 0 eight (omega arith)
      ∙ at_same (b ++ (c ++ replicate zeros 0)) (8 + k - 8) k (omega arith)

  third : (k : ℕ) → get_or (a ++ (b ++ (c ++ replicate zeros 0))) (12 + k) 0 ≡ get_or (c ++ replicate zeros 0) k 0
  third k =
      at_same (a ++ (b ++ (c ++ replicate zeros 0))) (12 + k) (8 + (4 + k)) (omega arith)
      ∙ (second (4 + k) ∙ (get_or-append_right b (c ++ replicate zeros 0) 4 (4 + k) 0 four (omega arith) ∙ at_same (c ++ replicate zeros 0) (4 + k - 4) k (omega arith)))

  some_byte : (k : ℕ) → k < length c → get_or (a ++ (b ++ (c ++ replicate zeros 0))) (12 + k) 0 ≡ get_or c k 0
  some_byte k h = third k ∙ get_or_append_left c (replicate zeros 0) 0 k h

  zero_byte : (k : ℕ) → length c ≤ k → k < length c + zeros → get_or (a ++ (b ++ (c ++ replicate zeros 0))) (12 + k) 0 ≡ 0
  zero_byte k low high = third k ∙ (get_or-append_right c (replicate zeros 0) (length c) k 0 refl low ∙ get_or-replicate zeros (k - length c) 0 0 (omega arith))

-- how many bytes an append writes behind the gate
pub length_behind : (number : ℕ) (bytes : List ℕ) → length (spelling_behind_gate number bytes) ≡ 4096 * slots_for (length bytes)
unfolding spelling_behind_gate
length_behind number bytes =
    omega (arith, parts_length (big_bytes 8 number) (big_bytes 4 (length bytes)) bytes (4096 * slots_for (length bytes) - 12 - length bytes) (length-bytes_high_first 8 number) (length-bytes_high_first 4 (length bytes)), enough_slots (length bytes))

module _ (file : List ℕ) (half : HalfIndex) (slot number : ℕ) (bytes : List ℕ) (stands : StandsAt file (gate_place half slot) (spelling number bytes)) where
  behind : (k : ℕ) → k < 4096 * slots_for (length bytes) → slice_index file (gate_place half slot + 1 + k) ≡ slice_index (spelling_behind_gate number bytes) k
  behind k h = at_same file (gate_place half slot + 1 + k) (gate_place half slot + suc k) (omega arith) ∙ stands (suc k) (omega (arith, length_behind number bytes))

  -- a record of this number begins there
  pub is_record : number < 256 ^ 8 → HasRoom slot (length bytes) → IsRecord file half slot number bytes
  unfolding spelling_behind_gate number_at length_at
  is_record fits room =
      let count = length bytes in
      let enough = enough_slots count in
      let short : count < 256 ^ 4 = omega (arith, room.not_long) in
      let zeros = 4096 * slots_for count - 12 - count in
      let eight = length-bytes_high_first 8 number in
      let four = length-bytes_high_first 4 count in
      let rest = big_bytes 4 count ++ (bytes ++ replicate zeros 0) in
      record {
        open_gate = at_same file (gate_place half slot) (gate_place half slot + 0) (omega arith) ∙ stands 0 (omega arith);
        numbered =
            big_from-same (gate_place half slot + 1) 0 8 file (big_bytes 8 number ++ rest) (λ k h. behind k (omega arith) ∙ at_same (big_bytes 8 number ++ rest) k (0 + k) (omega arith))
            ∙ big_number-reads_back 8 number rest fits;
        count =
            big_from-same (gate_place half slot + 9) 0 4 file rest
            (λ k h. at_same file (gate_place half slot + 9 + k) (gate_place half slot + 1 + (8 + k)) (omega arith) ∙ (behind (8 + k) (omega arith)
            ∙ (second (big_bytes 8 number) (big_bytes 4 count) bytes zeros eight four k ∙ at_same rest k (0 + k) (omega arith))))
            ∙ big_number-reads_back 4 count (bytes ++ replicate zeros 0) short;
        room = room;
        standing = λ i h.
            at_same file (gate_place half slot + 13 + i) (gate_place half slot + 1 + (12 + i)) (omega arith) ∙ (behind (12 + i) (omega arith)
            ∙ some_byte (big_bytes 8 number) (big_bytes 4 count) bytes zeros eight four i h);
      }

  -- and the slot behind it is shut
  pub shut_behind : slice_index file (gate_place half (slot + slots_for (length bytes))) ≡ 0
  unfolding spelling_behind_gate
  shut_behind =
      let count = length bytes in
      let enough = enough_slots count in
      let zeros = 4096 * slots_for count - 12 - count in
      let last = 4096 * slots_for count - 13 in
      at_same file (gate_place half (slot + slots_for count)) (gate_place half slot + 1 + (12 + last)) (omega arith)
      ∙ (behind (12 + last) (omega arith) ∙ zero_byte (big_bytes 8 number) (big_bytes 4 count) bytes zeros (length-bytes_high_first 8 number) (length-bytes_high_first 4 count) last (omega arith) (omega arith))
