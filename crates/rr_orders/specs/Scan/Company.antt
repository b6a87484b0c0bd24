-- The company that a word names.
use Rattle.std.specs.Prelude.{ℕ, List, Option, bytes_eq}
use Rattle.std.specs.List.{find}
use Rattle.rr_roster.specs.declared.company.Corp.{Corp}
use Rattle.rr_roster.specs.declared.company.Private.{Private}
use Rattle.rr_roster.specs.Company.{corp_name, corps, private_name, privates}

-- the corporation of a name, if there is one
abbrev pub corp_of : List ℕ → Option Corp
corp_of word = find (λ corp. bytes_eq word (corp_name corp)) corps

-- the private company of a name, if there is one
abbrev pub private_of : List ℕ → Option Private
private_of word = find (λ private. bytes_eq word (private_name private)) privates
