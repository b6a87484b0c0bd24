-- Rows behind their lengths, as they are read.
use Rattle.std.specs.List.{flat_map}
use Rattle.std.proofs.Common.{◌≡◌, ℕ, ◌^◌, ◌<◌, List, ◌++◌, length, sym, ◌∙◌, append_assoc}
use Rattle.rr_words.specs.Spelling.Number.{spelled_number}
use Rattle.rr_words.specs.Spelling.OneWay.{number_one_way}

-- the length that was read is that of a row that stands there
pub same_count : {A : Type 0} (f : A → List ℕ) (values : List A) (n : ℕ) (bytes mid rest : List ℕ) → n < 256 ^ 2 → length values < 256 ^ 2
    → bytes ≡ spelled_number 2 n ++ mid → bytes ≡ (spelled_number 2 (length values) ++ flat_map f values) ++ rest
    → (n ≡ length values) × (mid ≡ flat_map f values ++ rest)
same_count f values n bytes mid rest small few read same =
    number_one_way 2 n (length values) mid (flat_map f values ++ rest) small few (sym read ∙ same ∙ append_assoc (spelled_number 2 (length values)) (flat_map f values) rest)
