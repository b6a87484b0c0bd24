-- Commands whose entries the books have room for.
use Rattle.std.specs.Prelude.{◌≤◌}
use Rattle.rr_books.specs.declared.acts.Act.{Act}
use Rattle.rr_books.specs.declared.acts.Act.TheVariants as A

-- a price is no more than ten digits can say
abbrev pub IsSmall : Act → Type 0
IsSmall (A.BuyTrainFrom c kind seller price s s2) = price ≤ 10000000000
IsSmall (A.TakePrivate c p price) = price ≤ 10000000000
IsSmall _ = Unit {0}
