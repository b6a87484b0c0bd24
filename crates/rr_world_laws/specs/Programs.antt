-- The programs that open a file one after another, each with a disk of its own.
use Rattle.std.specs.Prelude.{◌⊎◌}
use Rattle.std.proofs.Common.{inl, inr}
use Rattle.rr_disk.specs.declared.disk.Disk.{Ghosts}
use Rattle.rr_disk.specs.Disk.{IsImage}

-- which programs there may be, and of each the type of its disk and the ghost members that clauses on that disk name
pub record Programs : Type 1 where
  pub Program : Type 0
  pub Disk : Program → Type 0
  pub ghosts : (p : Program) → Ghosts (Disk p)

-- a crash may leave an honest disk just as a read gives it
abbrev pub ContentMayStay : {D : Type 0} → Ghosts D → Type 0
ContentMayStay {D} ghosts = (disk : D) → ghosts.Honest disk → IsImage (ghosts.state disk) (ghosts.state disk).content

-- so it is for the disk of each program
abbrev pub ContentsMayStay : Programs → Type 0
ContentsMayStay programs = (p : programs.Program) → ContentMayStay (programs.ghosts p)

-- programs with a disk of one type
abbrev pub one_type : {D : Type 0} → Ghosts D → Programs
one_type {D} ghosts = record { Program = Unit {0}; Disk = λ p. D; ghosts = λ p. ghosts }

-- these programs, and others whose disks have one more type
module _ (before : Programs) {D : Type 0} (ghosts : Ghosts D) where
  abbrev pub Either : Type 0
  Either = before.Program ⊎ Unit {0}

  abbrev pub disk_of_either : Either → Type 0
  disk_of_either (inl p) = before.Disk p
  disk_of_either (inr other) = D

  abbrev pub ghosts_of_either : (p : Either) → Ghosts (disk_of_either p)
  ghosts_of_either (inl p) = before.ghosts p
  ghosts_of_either (inr other) = ghosts

  abbrev pub one_type_more : Programs
  one_type_more = record { Program = Either; Disk = disk_of_either; ghosts = ghosts_of_either }

  pub either_may_stay : ContentsMayStay before → ContentMayStay ghosts → ContentsMayStay one_type_more
  either_may_stay first more (inl p) = first p
  either_may_stay first more (inr other) = more
