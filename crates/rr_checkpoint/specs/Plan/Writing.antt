-- What taking pages for a coming root leaves as it was.
use Rattle.std.specs.Prelude.{◌≡◌}
use Rattle.rr_checkpoint.specs.declared.writer.Writer.{Writer}
use Rattle.rr_checkpoint.specs.Planning.{CarriesOn}
use Rattle.rr_checkpoint.specs.Writer.{free_of, place_of, taken_of, ticks_left_of}
use Rattle.rr_images.specs.Codec.{Codec}
use Rattle.rr_pages.specs.FreePages.{present_of}

-- No checkpoint is under way, and but for the pages that are taken for the coming root all is as before: the root and
-- its pages, where the next record goes, and what the writer carries.
pub record OnlyTakes {C : Type 0} (codec : Codec) (old new : Writer C) : Type 0 where
  pub resting : ticks_left_of new ≡ 0
  pub taken : taken_of new ≡ taken_of old
  pub place : place_of new ≡ place_of old
  pub present : present_of (free_of new) ≡ present_of (free_of old)
  pub carries : CarriesOn codec old new
