-- Which commands end a turn, after those before them; and how many are played at the ends of turns.
use Rattle.std.specs.Prelude.{ℕ, ◌≤◌, Bool, true, false, not, List, [], ◌∷◌, ◌++◌, length}
use Rattle.std.specs.List.{All}
use Rattle.rr_kit.specs.declared.kit.Kit.{Kit}
use Rattle.rr_code.specs.declared.command.Command.{Command}
use Rattle.rr_code.specs.declared.command.Command.TheVariants.{Open, BuyPrivate, Bid, Pass, Par, BuyShare, Sell, Swap, Done, Order}
use Rattle.rr_orders.specs.declared.order.Order as orders
use Rattle.rr_orders.specs.declared.order.Order.TheVariants.{Bankrupt, End}
use Rattle.rr_game.specs.Play.{play}
use Rattle.rr_game.specs.Queries as queries

-- the B&O's par is due after these commands
abbrev pub owes_par : Kit → List Command → Bool
owes_par kit commands = queries.owes_par (play kit commands).book

-- an order ends a turn: a corporation's is over, or a president is bankrupt
abbrev pub order_ends_turn : orders.Order → Bool
order_ends_turn (End corp) = true
order_ends_turn (Bankrupt player) = true
order_ends_turn _ = false

-- the command ends a turn, after those before it: a purchase, a bid or a pass of the auction, unless the B&O's par is
-- due then; that par; the end of a seat's turn in a stock round; and an order that ends one
abbrev pub ends_turn : Kit → List Command → Command → Bool
ends_turn kit before (Open players) = false
ends_turn kit before (BuyPrivate player) = not (owes_par kit (before ++ BuyPrivate player ∷ []))
ends_turn kit before (Bid player private amount) = not (owes_par kit (before ++ Bid player private amount ∷ []))
ends_turn kit before (Pass player) = not (owes_par kit (before ++ Pass player ∷ []))
ends_turn kit before (Par player corp price) = owes_par kit before
ends_turn kit before (BuyShare player corp source) = false
ends_turn kit before (Sell player corp count) = false
ends_turn kit before (Swap player source) = false
ends_turn kit before (Done player) = true
ends_turn kit before (Order order) = order_ends_turn order

-- of so many commands that were played, the counts at the ends of turns: none is greater, nor are there more of them
pub record AreWithin (played : ℕ) (counts : List ℕ) : Type 0 where
  pub most : All (λ count. count ≤ played) counts
  pub few : length counts ≤ played
