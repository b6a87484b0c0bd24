-- The layouts that the steps of a commit and of a checkpoint lead to, and where the next record goes.
use Rattle.std.specs.Prelude.{◌≡◌, ℕ, ◌+◌, ◌<◌, Bool, not, List, [], ◌∷◌, ◌++◌, length}
use Rattle.rr_pages.specs.declared.journal.half.Half.{Half}
use Rattle.rr_pages.specs.Journal.Run.{slots_of}
use Rattle.rr_pages.specs.declared.root.Root.{Root}
use Rattle.rr_pages.specs.Roots.{Stale, Older, HasFields, IsSound}
use Rattle.rr_images.specs.Codec.{Codec}
use Rattle.rr_images.specs.Holding.{Holding}
use Rattle.rr_images.specs.Layout.{Spelled, Layout, FarHalf, Unused, Old, Begun}
use Rattle.rr_pages.specs.Journal.Layout.{other_half}
use Rattle.rr_pages.specs.declared.journal.layout.HalfIndex.{HalfIndex}

abbrev pub with_stale : {codec : Codec} → Layout codec → Stale → Layout codec
with_stale layout stale =
    record {
      side = layout.side;
      root = layout.root;
      stale = stale;
      holding = layout.holding;
      base = layout.base;
      near = layout.near;
      middle = layout.middle;
      far = layout.far;
    }

abbrev pub with_far : {codec : Codec} → Layout codec → FarHalf → Layout codec
with_far layout far =
    record {
      side = layout.side;
      root = layout.root;
      stale = layout.stale;
      holding = layout.holding;
      base = layout.base;
      near = layout.near;
      middle = layout.middle;
      far = far;
    }

abbrev pub with_near : {codec : Codec} → Layout codec → List (List ℕ) → codec.World → Layout codec
with_near layout near middle =
    record {
      side = layout.side;
      root = layout.root;
      stale = layout.stale;
      holding = layout.holding;
      base = layout.base;
      near = near;
      middle = middle;
      far = layout.far;
    }

-- with one record more, whose line leads to this world
abbrev pub with_line_at : {codec : Codec} → Layout codec → FarHalf → List ℕ → codec.World → Layout codec
with_line_at layout Unused line world = with_near layout (layout.near ++ line ∷ []) world
with_line_at layout Old line world = with_near layout (layout.near ++ line ∷ []) world
with_line_at layout (Begun lines) line world = with_far layout (Begun (lines ++ line ∷ []))

abbrev pub with_line : {codec : Codec} → Layout codec → List ℕ → codec.World → Layout codec
with_line layout line world = with_line_at layout layout.far line world

-- the half that the old root named, once the next root is taken: its slot 0 has the first of the old near records
abbrev pub behind_flip : List (List ℕ) → FarHalf
behind_flip [] = Unused
behind_flip (line ∷ lines) = Old

-- after the flip: the next root on the other side, what it holds, and the far records as its near ones
abbrev pub flipped : {codec : Codec} → Layout codec → Root → Holding → List (List ℕ) → codec.World → Layout codec
flipped layout root holding far world =
    record {
      side = not layout.side;
      root = root;
      stale = Older layout.root;
      holding = holding;
      base = layout.middle;
      near = far;
      middle = world;
      far = behind_flip layout.near;
    }

-- the root that comes next after this layout's: a greater number, the other half, and the first record there
pub record ComesNext {codec : Codec} (layout : Layout codec) (root : Root) : Type 0 where
  pub number : layout.root.number < root.number
  pub half : root.half ≡ other_half layout.root.half
  pub first : root.first ≡ layout.root.first + length layout.near

-- the next root stands behind its shut gate, and what it holds spells the world before the first far record
pub record IsPrepared (codec : Codec) (layout : Layout codec) (root : Root) (holding : Holding)
    (file : List ℕ) : Type 0 where
  pub fields : HasFields file (not layout.side) root
  pub sound : IsSound file root
  pub spelled : Spelled codec file root holding layout.middle

-- the half in which the next record goes, the records that stand there, and the number of their first one
abbrev pub half_at : HalfIndex → FarHalf → HalfIndex
half_at half Unused = half
half_at half Old = half
half_at half (Begun lines) = other_half half

abbrev pub lines_at : List (List ℕ) → FarHalf → List (List ℕ)
lines_at near Unused = near
lines_at near Old = near
lines_at near (Begun lines) = lines

abbrev pub first_at : ℕ → List (List ℕ) → FarHalf → ℕ
first_at first near Unused = first
first_at first near Old = first
first_at first near (Begun lines) = first + length near

-- the next record, of this number, goes where the layout's records end
pub record GoesOnAt {codec : Codec} (layout : Layout codec) (half : Half) (number : ℕ) : Type 0 where
  pub index : half.index ≡ half_at layout.root.half layout.far
  pub slot : half.next_slot ≡ slots_of (lines_at layout.near layout.far)
  pub numbered : number
      ≡ first_at layout.root.first layout.near layout.far + length (lines_at layout.near layout.far)

-- where an opening goes on, by what it reads in the two halves
abbrev pub read_half : HalfIndex → List (List ℕ) → HalfIndex
read_half half [] = half
read_half half (line ∷ lines) = other_half half

abbrev pub read_lines : List (List ℕ) → List (List ℕ) → List (List ℕ)
read_lines near [] = near
read_lines near (line ∷ lines) = line ∷ lines
