-- Commands whose seat and numbers are small, as those of every command that isn't refused are.
use Rattle.std.specs.Prelude.{◌<◌, ◌≤◌}
use Rattle.rr_books.specs.declared.acts.Act.{Act}
use Rattle.rr_books.specs.declared.acts.Act.TheVariants as A

-- a par, and a number of shares
abbrev pub HasSmallNumbers : Act → Type 0
HasSmallNumbers (A.Par s c n) = n ≤ 999
HasSmallNumbers (A.Sell s c n) = n ≤ 10
HasSmallNumbers _ = Unit {0}

-- the seat of a command of the stock rounds is one of six
abbrev pub HasSeat : Act → Type 0
HasSeat (A.Par s c n) = s.0 < 6
HasSeat (A.BuyShare s c source) = s.0 < 6
HasSeat (A.Sell s c n) = s.0 < 6
HasSeat (A.Swap s source) = s.0 < 6
HasSeat (A.Done s) = s.0 < 6
HasSeat _ = Unit {0}
