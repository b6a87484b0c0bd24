-- What the append of a record, and the first step of a checkpoint, leave of what is known of an open file.
use Rattle.std.proofs.Common.{◌≡◌, ◌⊎◌, ℕ, ◌+◌, ◌^◌, ◌<◌, true, false, List, [], ◌∷◌, ◌++◌, length, Option, None, Some, refl, sym, ◌∙◌, ap, subst, arith}
use Rattle.std.specs.Option.{is_some}
use Rattle.rr_disk.specs.Disk.{DiskState, IsImage, after_write, after_sync}
use Rattle.rr_pages.specs.declared.journal.buffer.RecordBuffer.{RecordBuffer}
use Rattle.rr_pages.specs.declared.journal.layout.HalfIndex.{HalfIndex}
use Rattle.rr_pages.specs.declared.journal.half.Half.{Half}
use Rattle.rr_pages.specs.Journal.Layout.{HasRoom, gate_place, spelling, other_half}
use Rattle.rr_pages.specs.Journal.Stops.{next_gate, IsReady, MayLeave}
use Rattle.rr_pages.specs.declared.root.Root.{Root}
use Rattle.rr_pages.specs.Device.{Shuts, MayShut}
use Rattle.rr_pages.specs.FreePages.{present_of, coming_of}
use Rattle.rr_pages.specs.Sets.{Has}
use Rattle.rr_images.specs.Calls.{far_gate, Appends, Begins, part_behind}
use Rattle.rr_images.specs.Codec.{Codec}
use Rattle.rr_images.specs.Holding.{Holding, reached_of}
use Rattle.rr_images.specs.Layout.{FarHalf, Unused, Old, Begun, far_lines, IsSameRoot, KeepsUnder}
use Rattle.rr_images.specs.Progress.{IsPlan, IsBegun, IsNotBegun, IsBetween}
use Rattle.rr_images.specs.Steps.{with_far, with_line, with_line_at, GoesOnAt}
use Rattle.rr_images.proofs.Calls.{appends, begins, not_begun}
use Rattle.rr_images.proofs.GoesOn.{goes_begun}
use Rattle.rr_checkpoint.specs.declared.checkpoint.Checkpoint.{Checkpoint}
use Rattle.rr_checkpoint.specs.declared.checkpoint.Plan.{Plan}
use Rattle.rr_checkpoint.specs.declared.open_file.OpenFile.{OpenFile}
use Rattle.rr_checkpoint.specs.Checkpoint.{plan_of, begun, progress_of}
use Rattle.rr_checkpoint.specs.Growing.{IsPacked}
use Rattle.rr_checkpoint.specs.Holds.{HoldsAsBegun, HoldsWithRecord}
use Rattle.rr_checkpoint.specs.OpenFile.{IsBegunAt, CarriesWith}

-- what is known by whether it is begun
is_begun : (begun : Option ℕ) (number : ℕ) (far : FarHalf) → is_some begun ≡ true → IsBegunAt begun number far → IsBegun far
is_begun None number far some begun = absurd (cc)
is_begun (Some first) number far some begun = begun.0

pub isnt_begun : (begun : Option ℕ) (number : ℕ) (far : FarHalf) → is_some begun ≡ false → IsBegunAt begun number far → IsNotBegun far
isnt_begun None number far none begun = begun
isnt_begun (Some first) number far none begun = absurd (cc)

pub none_there : (begun : Option ℕ) → is_some begun ≡ false → begun ≡ None
none_there None none = refl
none_there (Some first) none = absurd (cc)

-- the records of the other half
found_far : {far : FarHalf} → IsBegun far → far ≡ Begun (far_lines far)
found_far {far} begun = subst (λ (half : FarHalf). half ≡ Begun (far_lines half)) (sym begun.1) refl

none_far : (far : FarHalf) → IsNotBegun far → far_lines far ≡ []
none_far Unused none = refl
none_far Old none = refl
none_far (Begun lines) none = absurd none

-- a record more
module _ {C : Type 0} (codec : Codec) (file : OpenFile C) (checkpoint : Option Checkpoint) (state : DiskState) (old new : codec.World) (stays : IsImage state state.content) (carries : CarriesWith codec file checkpoint state old)
    (line : List ℕ) (takes : codec.Takes line old new) (room : HasRoom file.place.half.next_slot (length line)) (low : file.place.number < 2 ^ 63) where
  record_next : Appends codec carries.layout state (progress_of checkpoint carries.holding) file.place.half file.place.number line old new
  record_next = appends codec carries.layout state old stays (progress_of checkpoint carries.holding) file.place.half file.place.number line new takes room low carries.tells.goes_on carries.between

  pub record_ready : IsReady file.place.half state
  record_ready = record_next.ready

  pub record_stops : (image : List ℕ) → MayLeave file.place.half state file.place.number line image
      → KeepsUnder codec (IsSameRoot carries.layout) image old ⊎ KeepsUnder codec (IsSameRoot carries.layout) image new
  record_stops = record_next.leaves

  same_side : (far : FarHalf) → (with_line_at carries.layout far line new).side ≡ carries.layout.side
  same_side Unused = refl
  same_side Old = refl
  same_side (Begun lines) = refl

  same_root : (far : FarHalf) → (with_line_at carries.layout far line new).root ≡ carries.layout.root
  same_root Unused = refl
  same_root Old = refl
  same_root (Begun lines) = refl

  same_holding : (far : FarHalf) → (with_line_at carries.layout far line new).holding ≡ carries.layout.holding
  same_holding Unused = refl
  same_holding Old = refl
  same_holding (Begun lines) = refl

  -- once a checkpoint is begun, the record is none of those before its base
  same_middle : (far : FarHalf) → carries.layout.far ≡ far → IsBegun carries.layout.far → (with_line_at carries.layout far line new).middle ≡ carries.layout.middle
  same_middle Unused is begun = let lines = begun.0 in let never : Unused ≡ Begun lines = sym is ∙ begun.1 in absurd (cc never)
  same_middle Old is begun = let lines = begun.0 in let never : Old ≡ Begun lines = sym is ∙ begun.1 in absurd (cc never)
  same_middle (Begun lines) is begun = refl

  -- where records went on before, they go on
  begun_still : (begun : Option ℕ) (far : FarHalf) → carries.layout.far ≡ far → IsBegunAt begun (carries.layout.root.first + length carries.layout.near) far
      → IsBegunAt begun ((with_line_at carries.layout far line new).root.first + length (with_line_at carries.layout far line new).near) (with_line_at carries.layout far line new).far
  begun_still None Unused is none = subst IsNotBegun (sym is) none
  begun_still None Old is none = subst IsNotBegun (sym is) none
  begun_still None (Begun lines) is none = absurd none
  begun_still (Some first) Unused is some = absurd (cc some.0.1)
  begun_still (Some first) Old is some = absurd (cc some.0.1)
  begun_still (Some first) (Begun lines) is some = ((lines ++ line ∷ [], refl), some.1)

  pub record_carries : (half : Half) (buffer : RecordBuffer) (after : DiskState) → half ≡ part_behind file.place.half line
      → after ≡ after_sync (after_write state (next_gate file.place.half) (spelling file.place.number line))
      → (then : CarriesWith codec
      (record {
        taken = file.taken;
        place = record { half = half; number = file.place.number + 1; begun = file.place.begun };
        free = file.free;
        buffer = buffer;
        codec = file.codec;
      })
      checkpoint after new)
      × HoldsWithRecord carries.layout carries.holding line new then.layout then.holding
  record_carries half buffer after behind is =
      let far = carries.layout.far in (
        record {
          layout = with_line carries.layout line new;
          holding = carries.holding;
          tells = record {
            side = same_side far ∙ carries.tells.side;
            root = same_root far ∙ carries.tells.root;
            begun = begun_still file.place.begun far refl carries.tells.begun;
            goes_on = subst (λ (p : Half). GoesOnAt (with_line carries.layout line new) p (file.place.number + 1)) (sym behind) record_next.goes_on;
            reached = subst (λ (held : Holding). Has (present_of file.free) (reached_of held)) (sym (same_holding far)) carries.tells.reached;
          };
          between = subst (λ (s : DiskState). IsBetween codec (with_line carries.layout line new) s (progress_of checkpoint carries.holding) new) (sym is) record_next.done;
          coming = carries.coming;
        },
        record { layout = refl; present = same_holding far; coming = refl; middle = same_middle far refl },
      )

-- the first step of a checkpoint
module _ {C : Type 0} (codec : Codec) (file : OpenFile C) (state : DiskState) (world : codec.World) (stays : IsImage state state.content) (carries : CarriesWith codec file None state world) where
  -- it was found begun
  module _ (plan : Plan) (holding : Holding) (is_plan : IsPlan codec carries.layout (plan_of plan holding)) (coming : Has (coming_of file.free) (reached_of holding)) (next : plan.root.number ≡ file.taken.root.number + 1) (packed : IsPacked file.free plan) where
    begun_there : is_some file.place.begun ≡ true → IsBegun carries.layout.far
    begun_there some = is_begun file.place.begun (carries.layout.root.first + length carries.layout.near) carries.layout.far some carries.tells.begun

    pub found_carries : is_some file.place.begun ≡ true → (then : CarriesWith codec file (Some (begun plan)) state world) × HoldsAsBegun carries.layout holding then.layout then.holding
    found_carries some = (
      record {
        layout = carries.layout;
        holding = holding;
        tells = carries.tells;
        between = record {
          each = carries.between.each;
          come = (is_plan, begun_there some, refl, tt);
        };
        coming = (coming, next, packed);
      },
      record { root = refl; base = refl; present = refl; coming = refl; middle = refl; far = found_far (begun_there some) },
    )

  module _ (none : IsNotBegun carries.layout.far) (index : HalfIndex) (other : index ≡ other_half file.taken.root.half) (at : ℕ) (there : at ≡ next_gate (record { index = index; next_slot = 0 })) where
    begin_next : Begins codec carries.layout state world
    begin_next = begins codec carries.layout state world stays carries.between.each none

    other_part : index ≡ other_half carries.layout.root.half
    other_part = other ∙ ap (λ (root : Root). other_half root.half) (sym carries.tells.root)

    at_gate : at ≡ far_gate carries.layout
    at_gate = there ∙ ap (λ (i : HalfIndex). gate_place i 0) other_part

    pub begin_stops : (image : List ℕ) → MayShut state at image → KeepsUnder codec (IsSameRoot carries.layout) image world
    begin_stops image may = begin_next.leaves image (subst (λ (n : ℕ). MayShut state n image) at_gate may)

    module _ (plan : Plan) (holding : Holding) (is_plan : IsPlan codec carries.layout (plan_of plan holding)) (coming : Has (coming_of file.free) (reached_of holding)) (next : plan.root.number ≡ file.taken.root.number + 1) (packed : IsPacked file.free plan) where
      pub begin_carries : (new : DiskState) → Shuts state at new
          → (then : CarriesWith codec
          (record {
            taken = file.taken;
            place = record { half = record { index = index; next_slot = 0 }; number = file.place.number; begun = Some file.place.number };
            free = file.free;
            buffer = file.buffer;
            codec = file.codec;
          })
          (Some (begun plan)) new world)
          × HoldsAsBegun carries.layout holding then.layout then.holding
      begin_carries new shuts =
          let layout = with_far carries.layout (Begun []) in
          let goes = goes_begun codec carries.layout file.place.half file.place.number carries.tells.goes_on (not_begun carries.layout.far none) in (
            record {
              layout = layout;
              holding = holding;
              tells = record {
                side = carries.tells.side;
                root = carries.tells.root;
                begun = (([], refl), omega (arith, goes.numbered));
                goes_on = subst (λ (i : HalfIndex). GoesOnAt layout (record { index = i; next_slot = 0 }) file.place.number) (sym other_part) goes;
                reached = carries.tells.reached;
              };
              between = begin_next.done (plan_of plan holding) new is_plan (subst (λ (n : ℕ). Shuts state n new) at_gate shuts);
              coming = (coming, next, packed);
            },
            record { root = refl; base = refl; present = refl; coming = refl; middle = refl; far = ap Begun (sym (none_far carries.layout.far none)) },
          )
