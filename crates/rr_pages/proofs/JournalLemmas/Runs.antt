-- Runs of records: a file has one, and which bytes it stands on.
use Rattle.std.proofs.Common.{◌≡◌, ℕ, suc, ◌+◌, ◌*◌, ◌<◌, ◌≤◌, List, [], ◌∷◌, ◌++◌, length, slice_index, refl, sym, ap, ◌∙◌, subst, arith}
use Rattle.std.proofs.lemmas.List.{ext_get_or, append-nil}
use Rattle.std.proofs.Common.{Vec, Global}
use Rattle.rr_pages.specs.declared.journal.layout.HalfIndex.{HalfIndex}
use Rattle.rr_pages.specs.declared.journal.reading.RunEnd.{RunEnd}
use Rattle.rr_pages.specs.declared.journal.reading.RunEnd.TheVariants.{Closed, OtherNumber, Damaged}
use Rattle.rr_pages.specs.Journal.Layout.{gate_place, number_at, length_at, slots_for, HasRoom}
use Rattle.rr_pages.specs.Journal.Run.{IsRecord, Ends, Run, slots_of}
use Rattle.rr_pages.specs.Journal.Reading.{lines}
use Rattle.rr_pages.proofs.JournalLemmas.Bytes.{big_from-same}

pub slots_of-append : (xs ys : List (List ℕ)) → slots_of (xs ++ ys) ≡ slots_of xs + slots_of ys
slots_of-append [] ys = omega arith
slots_of-append (x ∷ xs) ys = omega (arith, slots_of-append xs ys)

-- a record takes a slot at least
pub some_slot : (count : ℕ) → 0 < slots_for count
some_slot count = omega arith

-- the slots are enough for the header, the bytes and one more
pub enough_slots : (count : ℕ) → count + 13 ≤ 4096 * slots_for count
enough_slots count = omega arith

-- two records of one slot have the same bytes
same_bytes : (file : List ℕ) (half : HalfIndex) (slot number : ℕ) (a b : List ℕ) → IsRecord file half slot number a → IsRecord file half slot number b → a ≡ b
same_bytes file half slot number a b is_a is_b =
    let len : length a ≡ length b = sym is_a.count ∙ is_b.count in
    ext_get_or 0 a b len (λ i h. sym (is_a.standing i h) ∙ is_b.standing i (omega arith))

-- where a run ends, no record begins
pub no_record : (file : List ℕ) (half : HalfIndex) (slot number : ℕ) (end : RunEnd) (a : List ℕ) → Ends file half slot number end → IsRecord file half slot number a → ⊥
no_record file half slot number Closed a ends is = ends (omega (arith, is.room.fits, some_slot (length a))) is.open_gate
no_record file half slot number OtherNumber a ends is = ends.2 is.numbered
no_record file half slot number Damaged a ends is = ends.3 (subst (λ (n : ℕ). HasRoom slot n) (sym is.count) is.room)

-- it ends in one way
one_end : (file : List ℕ) (half : HalfIndex) (slot number : ℕ) (end other : RunEnd) → Ends file half slot number end → Ends file half slot number other → end ≡ other
one_end file half slot number Closed Closed a b = refl
one_end file half slot number Closed OtherNumber a b = absurd (a b.0 b.1)
one_end file half slot number Closed Damaged a b = absurd (a b.0 b.1)
one_end file half slot number OtherNumber Closed a b = absurd (b a.0 a.1)
one_end file half slot number OtherNumber OtherNumber a b = refl
one_end file half slot number OtherNumber Damaged a b = absurd (a.2 b.2)
one_end file half slot number Damaged Closed a b = absurd (b a.0 a.1)
one_end file half slot number Damaged OtherNumber a b = absurd (b.2 a.2)
one_end file half slot number Damaged Damaged a b = refl

-- a file has one run from a slot on
pub one_run : (file : List ℕ) (half : HalfIndex) (slot number : ℕ) (xs ys : List (List ℕ)) (end other : RunEnd) → Run file half slot number xs end → Run file half slot number ys other → (ys ≡ xs) × (other ≡ end)
one_run file half slot number [] [] end other a b = (refl, one_end file half slot number other end b a)
one_run file half slot number [] (y ∷ ys) end other a b = absurd (no_record file half slot number end y a b.0)
one_run file half slot number (x ∷ xs) [] end other a b = absurd (no_record file half slot number other x b a.0)
one_run file half slot number (x ∷ xs) (y ∷ ys) end other a b =
    let same : y ≡ x = same_bytes file half slot number y x b.0 a.0 in
    let rest : Run file half (slot + slots_for (length x)) (suc number) ys other = subst (λ (z : List ℕ). Run file half (slot + slots_for (length z)) (suc number) ys other) same b.1 in
    let tail = one_run file half (slot + slots_for (length x)) (suc number) xs ys end other a.1 rest in
    ((λ i. same i ∷ tail.0 i), tail.1)

-- a record stands on its own bytes
pub record_on : (a b : List ℕ) (half : HalfIndex) (slot number : ℕ) (bytes : List ℕ) → ((i : ℕ) → gate_place half slot ≤ i → i < gate_place half slot + 13 + length bytes → slice_index b i ≡ slice_index a i)
    → IsRecord a half slot number bytes → IsRecord b half slot number bytes
unfolding number_at length_at
record_on a b half slot number bytes same is =
    record {
      open_gate = same (gate_place half slot) (omega arith) (omega arith) ∙ is.open_gate;
      numbered = big_from-same (gate_place half slot + 1) (gate_place half slot + 1) 8 b a (λ k h. same (gate_place half slot + 1 + k) (omega arith) (omega arith)) ∙ is.numbered;
      count = big_from-same (gate_place half slot + 9) (gate_place half slot + 9) 4 b a (λ k h. same (gate_place half slot + 9 + k) (omega arith) (omega arith)) ∙ is.count;
      room = is.room;
      standing = λ i h. same (gate_place half slot + 13 + i) (omega arith) (omega arith) ∙ is.standing i h;
    }

-- and a run on the bytes of its slots: it goes on in another file as that one does behind them
pub run_on : (a b : List ℕ) (half : HalfIndex) (slot number : ℕ) (xs more : List (List ℕ)) (end other : RunEnd) → ((i : ℕ) → gate_place half slot ≤ i → i < gate_place half (slot + slots_of xs) → slice_index b i ≡ slice_index a i)
    → Run a half slot number xs end → Run b half (slot + slots_of xs) (number + length xs) more other → Run b half slot number (xs ++ more) other
run_on a b half slot number [] more end other same run rest =
    let slot_is : slot + 0 ≡ slot = omega arith in
    let number_is : number + 0 ≡ number = omega arith in
    subst (λ (n : ℕ). Run b half slot n more other) number_is (subst (λ (s : ℕ). Run b half s (number + 0) more other) slot_is rest)
run_on a b half slot number (x ∷ xs) more end other same run rest =
    let slots = slots_for (length x) in
    let slot_is : slot + (slots + slots_of xs) ≡ slot + slots + slots_of xs = omega arith in
    let number_is : number + suc (length xs) ≡ suc number + length xs = omega arith in
    let behind : Run b half (slot + slots + slots_of xs) (suc number + length xs) more other =
    subst (λ (n : ℕ). Run b half (slot + slots + slots_of xs) n more other) number_is (subst (λ (s : ℕ). Run b half s (number + suc (length xs)) more other) slot_is rest) in
    let enough : length x + 13 ≤ 4096 * slots = enough_slots (length x) in
    let some : 0 < slots = some_slot (length x) in (
      record_on a b half slot number x (λ i low high. same i low (omega arith)) run.0,
      run_on a b half (slot + slots) (suc number) xs more end other (λ i low high. same i (omega arith) (subst (λ (s : ℕ). i < gate_place half s) (sym slot_is) high)) run.1 behind,
    )

-- the slot behind a run, and that it lies in the half
pub run_fits : (file : List ℕ) (half : HalfIndex) (slot number : ℕ) (xs : List (List ℕ)) (end : RunEnd) → slot ≤ 255 → Run file half slot number xs end → slot + slots_of xs ≤ 255
run_fits file half slot number [] end below run = omega arith
run_fits file half slot number (x ∷ xs) end below run =
    let rest : slot + slots_for (length x) + slots_of xs ≤ 255 = run_fits file half (slot + slots_for (length x)) (suc number) xs end run.0.room.fits run.1 in
    omega arith

pub run_ends : (file : List ℕ) (half : HalfIndex) (slot number : ℕ) (xs : List (List ℕ)) (end : RunEnd) → Run file half slot number xs end → Ends file half (slot + slots_of xs) (number + length xs) end
run_ends file half slot number [] end run =
    let slot_is : slot ≡ slot + 0 = omega arith in
    let number_is : number ≡ number + 0 = omega arith in
    subst (λ (n : ℕ). Ends file half (slot + 0) n end) number_is (subst (λ (s : ℕ). Ends file half s number end) slot_is run)
run_ends file half slot number (x ∷ xs) end run =
    let rest = run_ends file half (slot + slots_for (length x)) (suc number) xs end run.1 in
    let slot_is : slot + slots_for (length x) + slots_of xs ≡ slot + (slots_for (length x) + slots_of xs) = omega arith in
    let number_is : suc number + length xs ≡ number + suc (length xs) = omega arith in
    subst (λ (n : ℕ). Ends file half (slot + (slots_for (length x) + slots_of xs)) n end) number_is (subst (λ (s : ℕ). Ends file half s (suc number + length xs) end) slot_is rest)

ends_by : (a b : List ℕ) (half : HalfIndex) (slot number : ℕ) (end : RunEnd) → slice_index b (gate_place half slot) ≡ slice_index a (gate_place half slot)
    → number_at b half slot ≡ number_at a half slot → length_at b half slot ≡ length_at a half slot → Ends a half slot number end → Ends b half slot number end
ends_by a b half slot number Closed gate numbers lengths ends = λ below open_gate. ends below (sym gate ∙ open_gate)
ends_by a b half slot number OtherNumber gate numbers lengths ends = (ends.0, gate ∙ ends.1, λ same. ends.2 (sym numbers ∙ same))
ends_by a b half slot number Damaged gate numbers lengths ends = (ends.0, gate ∙ ends.1, numbers ∙ ends.2, λ room. ends.3 (subst (λ (n : ℕ). HasRoom slot n) lengths room))

ends_on : (a b : List ℕ) (half : HalfIndex) (slot number : ℕ) (end : RunEnd) → ((i : ℕ) → gate_place half slot ≤ i → i < gate_place half (slot + 1) → slice_index b i ≡ slice_index a i)
    → Ends a half slot number end → Ends b half slot number end
unfolding number_at length_at
ends_on a b half slot number end same ends =
    ends_by a b half slot number end
    (same (gate_place half slot) (omega arith) (omega arith))
    (big_from-same (gate_place half slot + 1) (gate_place half slot + 1) 8 b a (λ k h. same (gate_place half slot + 1 + k) (omega arith) (omega arith)))
    (big_from-same (gate_place half slot + 9) (gate_place half slot + 9) 4 b a (λ k h. same (gate_place half slot + 9 + k) (omega arith) (omega arith)))
    ends

-- where all bytes of a half are the same, it has the same run and end
pub run_same : (a b : List ℕ) (half : HalfIndex) (number : ℕ) (xs : List (List ℕ)) (end : RunEnd) → ((i : ℕ) → gate_place half 0 ≤ i → i < gate_place half 256 → slice_index b i ≡ slice_index a i)
    → Run a half 0 number xs end → Run b half 0 number xs end
run_same a b half number xs end same run =
    let fits : 0 + slots_of xs ≤ 255 = run_fits a half 0 number xs end (omega arith) run in
    let ends = run_ends a half 0 number xs end run in
    subst (λ (all : List (List ℕ)). Run b half 0 number all end) (append-nil xs)
    (run_on a b half 0 number xs [] end end (λ i low high. same i low (omega arith)) run
    (ends_on a b half (0 + slots_of xs) (number + length xs) end (λ i low high. same i (omega arith) (omega arith)) ends))

-- one record more of those that were read
pub lines_more : (records : List (Vec ℕ Global)) (x : Vec ℕ Global) (more : List (List ℕ)) → lines (records ++ x ∷ []) ++ more ≡ lines records ++ (x.items ∷ more)
lines_more [] x more = refl
lines_more (y ∷ records) x more = ap (λ (l : List (List ℕ)). y.items ∷ l) (lines_more records x more)

pub slots_more : (records : List (Vec ℕ Global)) (x : Vec ℕ Global) → slots_of (lines (records ++ x ∷ [])) ≡ slots_of (lines records) + slots_for (length x.items)
slots_more [] x = omega arith
slots_more (y ∷ records) x = omega (arith, slots_more records x)

-- what a scan knows goes on past one record
pub stepped : (file : List ℕ) (half : HalfIndex) (slot number first slots : ℕ) (records pushed : List (Vec ℕ Global)) (x : Vec ℕ Global) → pushed ≡ records ++ x ∷ [] → slots ≡ slots_for (length x.items) → IsRecord file half slot number x.items
    → ((more : List (List ℕ)) (end : RunEnd) → Run file half slot number more end → Run file half 0 first (lines records ++ more) end)
    → (more : List (List ℕ)) (end : RunEnd) → Run file half (slot + slots) (number + 1) more end → Run file half 0 first (lines pushed ++ more) end
stepped file half slot number first slots records pushed x push takes is so_far more end run =
    let number_is : number + 1 ≡ suc number = omega arith in
    let behind : Run file half (slot + slots_for (length x.items)) (suc number) more end = subst (λ (s : ℕ). Run file half (slot + s) (suc number) more end) takes (subst (λ (n : ℕ). Run file half (slot + slots) n more end) number_is run) in
    let whole : Run file half 0 first (lines records ++ (x.items ∷ more)) end = so_far (x.items ∷ more) end (is, behind) in
    subst (λ (all : List (List ℕ)). Run file half 0 first all end) (sym (lines_more records x more) ∙ ap (λ (all : List (Vec ℕ Global)). lines all ++ more) (sym push)) whole

-- and at the end of the records
pub all_found : (file : List ℕ) (half : HalfIndex) (slot number first : ℕ) (records : List (Vec ℕ Global)) (end : RunEnd) → Ends file half slot number end
    → ((more : List (List ℕ)) (end : RunEnd) → Run file half slot number more end → Run file half 0 first (lines records ++ more) end) → Run file half 0 first (lines records) end
all_found file half slot number first records end ends so_far =
    subst (λ (all : List (List ℕ)). Run file half 0 first all end) (append-nil (lines records)) (so_far [] end ends)
