-- The calls on files by their paths, as they are noted.
use Rattle.std.specs.Prelude.{ℕ, Bool, List, [], ◌∷◌}
use Rattle.rr_moderator.specs.declared.fault.Fault.{Fault}
use Rattle.rr_cli.specs.declared.path_record.PathCall.{PathCall}
use Rattle.rr_cli.specs.declared.path_record.PathCall.TheVariants.{NotOpened, NotRead, Opened, Read}

-- how a call on the file at a path ended, and the text that it gave
pub record PathEvent : Type 0 where
  pub call : PathCall
  pub path : List ℕ
  pub text : List ℕ

-- calls on the file at this path after earlier ones, the newest first
abbrev pub noted : List PathCall → List ℕ → List ℕ → List PathEvent → List PathEvent
noted [] path text events = events
noted (call ∷ calls) path text events = record { call = call; path = path; text = text } ∷ noted calls path text events

-- the file was read, and holds this text
abbrev pub was_read : List ℕ → List ℕ → PathEvent
was_read path text = record { call = Read; path = path; text = text }

-- the file couldn't be read, for this fault
abbrev pub was_not_read : List ℕ → Fault → PathEvent
was_not_read path fault = record { call = NotRead fault; path = path; text = [] }

-- the file was opened; if it was absent, and `make` is true, it was made
abbrev pub was_opened : List ℕ → Bool → PathEvent
was_opened path make = record { call = Opened make; path = path; text = [] }

-- the file couldn't be opened
abbrev pub was_not_opened : List ℕ → Bool → PathEvent
was_not_opened path make = record { call = NotOpened make; path = path; text = [] }
