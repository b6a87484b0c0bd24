-- What a slot holds, by what was read of it.
use Rattle.std.proofs.Common.{◌≡◌, ℕ, ◌+◌, ◌<◌, List, length, Ok, Err, sym, ◌∙◌, subst}
use Rattle.rr_disk.specs.Disk.{IsAt}
use Rattle.rr_pages.specs.declared.journal.layout.HalfIndex.{HalfIndex}
use Rattle.rr_pages.specs.declared.journal.reading.RunEnd.{RunEnd}
use Rattle.rr_pages.specs.declared.journal.reading.RunEnd.TheVariants.{Closed, OtherNumber, Damaged}
use Rattle.rr_pages.specs.Journal.Layout.{gate_place, HasRoom}
use Rattle.rr_pages.specs.Journal.Run.{IsRecord, HasRecord, Ends}
use Rattle.rr_pages.specs.Journal.Reading.{Tells}
use Rattle.rr_pages.proofs.JournalLemmas.OneRun.{cut, cut_stands, length-cut}
use Rattle.rr_pages.proofs.JournalLemmas.Bytes.{gate_read, number_read, length_read, stands}

module _ (file : List ℕ) (half : HalfIndex) (slot number : ℕ) (below : slot < 255) (header : List ℕ) (is : IsAt file (gate_place half slot) header) (whole : length header ≡ 13) where
  pub ends : (end : RunEnd) → Tells header slot number (Err end) → Ends file half slot number end
  ends Closed told = λ in_part open_gate. told (gate_read file half slot header is whole ∙ open_gate)
  ends OtherNumber told =
      (below, sym (gate_read file half slot header is whole) ∙ told.0, λ same. told.1 (number_read file half slot header is whole ∙ same))
  ends Damaged told =
      (below, sym (gate_read file half slot header is whole) ∙ told.0, sym (number_read file half slot header is whole) ∙ told.1, λ room. told.2 (subst (λ (n : ℕ). HasRoom slot n) (sym (length_read file half slot header is whole)) room))

  -- that a record begins there is told before its bytes are read
  pub has_record : (count : ℕ) → Tells header slot number (Ok count) → HasRecord file half slot number
  has_record count told =
      let bytes = cut file (gate_place half slot + 13) count in
      let counts : length bytes ≡ count = length-cut file (gate_place half slot + 13) count in (
        bytes,
        record {
          open_gate = sym (gate_read file half slot header is whole) ∙ told.0;
          numbered = sym (number_read file half slot header is whole) ∙ told.1;
          count = sym (length_read file half slot header is whole) ∙ (told.2 ∙ sym counts);
          room = subst (λ (n : ℕ). HasRoom slot n) (sym counts) told.3;
          standing = cut_stands file (gate_place half slot + 13) count;
        },
      )

  pub begins : (count : ℕ) (bytes : List ℕ) → Tells header slot number (Ok count) → length bytes ≡ count → IsAt file (gate_place half slot + 13) bytes → IsRecord file half slot number bytes
  begins count bytes told counts at =
      record {
        open_gate = sym (gate_read file half slot header is whole) ∙ told.0;
        numbered = sym (number_read file half slot header is whole) ∙ told.1;
        count = sym (length_read file half slot header is whole) ∙ (told.2 ∙ sym counts);
        room = subst (λ (n : ℕ). HasRoom slot n) (sym counts) told.3;
        standing = stands file (gate_place half slot + 13) bytes at;
      }
