-- A small codec, and that some file keeps a world of it: so the laws speak of something.
use Rattle.std.specs.Prelude.{◌≡◌, ℕ, List, [], ◌∷◌, ◌++◌}
use Rattle.rr_images.specs.Codec.{Codec, IsExact}
use Rattle.rr_images.specs.Layout.{Keeps}

-- a world is a list of lines, a line is put behind it, and a directory names no chain and spells its bytes as one line
abbrev pub lists : Codec
lists =
    record {
      World = List (List ℕ);
      Takes = λ line old new. new ≡ old ++ line ∷ [];
      Heads = λ version directory heads. heads ≡ [];
      Spells = λ version directory texts world. world ≡ directory ∷ [];
    }

abbrev pub IsExample : Type 0
IsExample = IsExact lists × ((file : List ℕ) × Keeps lists file ((7 ∷ []) ∷ []))
