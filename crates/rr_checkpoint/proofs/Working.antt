-- That a disk that works refuses no call of a step: the file of a store has all places that a step reads.
use Rattle.std.proofs.Common.{◌≡◌, ◌⊎◌, inl, inr, ℕ, ◌+◌, ◌*◌, ◌^◌, ◌<◌, ◌≤◌, Bool, length, Option, arith}
use Rattle.std.specs.Prelude.{Result, Ok, Err, OnErr}
use Rattle.rr_disk.specs.Disk.{DiskState, IsImage}
use Rattle.rr_pages.specs.Roots.{root_gate}
use Rattle.rr_images.specs.Codec.{Codec}
use Rattle.rr_images.proofs.Places.{root_low}
use Rattle.rr_images.proofs.Steps.{long}
use Rattle.rr_checkpoint.specs.declared.checkpoint.Checkpoint.{Checkpoint}
use Rattle.rr_checkpoint.specs.declared.open_file.OpenFile.{OpenFile}
use Rattle.rr_checkpoint.specs.OpenFile.{CarriesWith}

-- its file has 515 pages at least
pub is_long : {C : Type 0} (codec : Codec) (file : OpenFile C) (checkpoint : Option Checkpoint) (state : DiskState) (world : codec.World) → IsImage state state.content → CarriesWith codec file checkpoint state world
    → (len : ℕ) → len ≡ length state.content → 4096 * 515 ≤ len
is_long codec file checkpoint state world stays carries len told =
    let enough = long codec carries.layout world state.content state.content (carries.between.each state.content stays) in
    omega (arith, told, enough)

-- the gate of a slot of the journal lies within it
pub no_short_half : (len at : ℕ) → 4096 * 515 ≤ len → at < 4096 * 514 → (len < at + 1) ⊎ (2 ^ 63 < at + 1) → ⊥
no_short_half len at enough low (inl short) = omega (arith, enough, low, short)
no_short_half len at enough low (inr far) = omega (arith, low, far)

-- and so does that of a root
pub no_short_root : (len : ℕ) (side : Bool) → 4096 * 515 ≤ len → len ≤ root_gate side → ⊥
no_short_root len side enough short = omega (arith, enough, short, root_low side)

-- a page ends before byte 2^63
pub no_far_page : (page at n : ℕ) → page < 2 ^ 32 → at ≡ 4096 * page → n ≡ 4096 → 2 ^ 63 < at + n → ⊥
no_far_page page at n small is whole far = omega (arith, small, is, whole, far)

-- what is so anyway is so where a call fails
pub on_err : {T E P : Type 0} (result : Result T E) → P → OnErr result P
on_err (Ok value) fact = tt
on_err (Err fault) fact = fact
