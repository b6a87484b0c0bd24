-- What is said of every file with a damaged record.
use Rattle.std.specs.Prelude.{ℕ, List}
use Rattle.rr_images.specs.Codec.{Codec}
use Rattle.rr_images.specs.Refusing.{IsRefused}
use Rattle.rr_log.specs.Opening.Opened.{HasDamagedRecord}
use Rattle.rr_reading.specs.Held.{Held}
use Rattle.rr_reading.specs.Reading.{Holds}

-- a file that holds a damaged record is refused
abbrev pub DamagedRecordIsRefused : Codec → Type 0
DamagedRecordIsRefused codec =
    (file : List ℕ) (has : Held) → Holds file has → HasDamagedRecord has → IsRefused codec file
