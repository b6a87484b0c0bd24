-- The numbers of a store, in its file.
use Rattle.std.proofs.Common.{◌≡◌, ℕ, ◌+◌, ◌-◌, ◌<◌, List, length, sym, ◌∙◌, ap, arith}
use Rattle.rr_disk.specs.Disk.{DiskState}
use Rattle.rr_images.specs.Layout.{FarHalf, Unused, Old, Begun, KeepsAt, far_lines}
use Rattle.rr_images.specs.Steps.{first_at, lines_at}
use Rattle.rr_images.proofs.OneWorld.{kept_stands}
use Rattle.rr_pages.specs.declared.root.Root.{Root}
use Rattle.rr_tables.specs.Records.Taking.{table_files}
use Rattle.rr_tables.specs.Records.Words.{in_words}
use Rattle.rr_store.specs.Holding.{held_of}
use Rattle.rr_store.specs.Laws.{NumbersAreInTheFile}

-- the records of both halves are counted
counted_on : (far : FarHalf) (first : ℕ) (near : List (List ℕ)) → first_at first near far + length (lines_at near far) ≡ first + length near + length (far_lines far)
counted_on Unused first near = omega arith
counted_on Old first near = omega arith
counted_on (Begun lines) first near = omega arith

last_before : (number first near far : ℕ) → number ≡ first + near + far → 0 < first → number - 1 + 1 ≡ first + near + far
last_before number first near far is some = omega (arith, is, some)

pub numbers_are_in_the_file : {D : Type 0} (state : D → DiskState) → NumbersAreInTheFile state
unfolding kept_stands
numbers_are_in_the_file state texts store carries image is =
    let carried = carries.file.carried in
    let layout = carried.layout in
    let world = in_words texts (held_of store).tables in
    let kept : KeepsAt table_files layout image world = carried.between.each image is in
    record {
      stands = kept_stands table_files layout image world kept;
      root = ap (λ (root : Root). root.number) (sym carried.tells.root);
      last = last_before _ layout.root.first (length layout.near) (length (far_lines layout.far))
          (carried.tells.goes_on.numbered ∙ counted_on layout.far layout.root.first layout.near) kept.taken.sound.first_low;
    }
