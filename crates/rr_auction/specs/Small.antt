-- Commands of the auction that its entries have room for.
use Rattle.std.specs.Prelude.{◌<◌, ◌≤◌}
use Rattle.rr_books.specs.declared.acts.Act.{Act}
use Rattle.rr_books.specs.declared.acts.Act.TheVariants as A

-- who buys is a seat that a table may have, and a bid is no more than ten digits can say
abbrev pub IsSmall : Act → Type 0
IsSmall (A.BuyPrivate s) = s.0 < 6
IsSmall (A.Bid s p amount) = amount ≤ 10000000000
IsSmall _ = Unit {0}
