-- What lawful purchases keep.
use Rattle.std.specs.Prelude.{◌≡◌, ℕ, ◌*◌, ◌<◌, ◌≤◌, ◌⊎◌, pos, ◌≤ℤ◌, true, false, ◌++◌, None}
use Rattle.rr_roster.specs.declared.company.Private.{Private}
use Rattle.rr_roster.specs.declared.company.Corp.{Corp}
use Rattle.rr_roster.specs.declared.company.Kind.{Kind}
use Rattle.rr_roster.specs.declared.company.Kind.TheVariants as K
use Rattle.rr_roster.specs.Company.{kind_index}
use Rattle.rr_roster.specs.Terms.{Terms, face_of}
use Rattle.rr_books.specs.declared.parties.Seat.{Seat}
use Rattle.rr_books.specs.declared.parties.Party.{Party}
use Rattle.rr_books.specs.declared.parties.Place.TheVariants as L
use Rattle.rr_books.specs.declared.acts.Act.{Act}
use Rattle.rr_books.specs.declared.acts.Act.TheVariants as A
use Rattle.rr_roster.specs.declared.sources.TrainSource.{TrainSource}
use Rattle.rr_roster.specs.declared.sources.TrainSource.TheVariants as S
use Rattle.rr_books.specs.Book.{Book, balance, train_holder}
use Rattle.rr_books.specs.State.{is_bank}
use Rattle.rr_market.specs.Operations.Phases.{TrainHolders, is_sold, phase}
use Rattle.rr_trains.specs.Places.{has_train_at, trains_held}
use Rattle.rr_trains.specs.Phases.{sells_privates, train_limit}
use Rattle.rr_trains.specs.Depot.Rules.{verdict}
use Rattle.rr_trains.specs.Depot.Effects.{entries_of}

abbrev pub IsLawful : Terms → Book → Act → Type 0
IsLawful roster book act = verdict roster book act ≡ None

-- the book once a command is taken down
abbrev pub with_act : Terms → Book → Act → Book
with_act roster book act = book ++ entries_of roster book act

-- a corporation has no more trains after a command than the phase before it allows
abbrev pub StaysWithinLimit : Terms → Book → Act → Corp → Type 0
StaysWithinLimit roster book act c = trains_held (train_holder (with_act roster book act)) (L.Corp c) ≤ train_limit (phase (train_holder book))

-- whoever buys a train stays within the limit
pub record PurchasesKeepTheLimit : Type 0 where
  pub train : (roster : Terms) (book : Book) (c : Corp) (kind : Kind) (source : TrainSource) → IsLawful roster book (A.BuyTrain c kind source) → StaysWithinLimit roster book (A.BuyTrain c kind source) c
  pub train_from : (roster : Terms) (book : Book) (c : Corp) (kind : Kind) (seller : Corp) (price : ℕ) (s s2 : Seat)
      → IsLawful roster book (A.BuyTrainFrom c kind seller price s s2) → StaysWithinLimit roster book (A.BuyTrainFrom c kind seller price s s2) c

-- all smaller kinds are sold, or it is a D and a 6 was sold
abbrev pub IsInOrder : TrainHolders → Kind → Type 0
IsInOrder trains kind =
    ((smaller : Kind) → kind_index smaller < kind_index kind → has_train_at trains L.Offer smaller ≡ false) ⊎ ((kind ≡ K.Diesel) × (is_sold trains K.Six ≡ true))

-- the bank sells its trains in order
pub record BankSellsInOrder : Type 0 where
  pub train : (roster : Terms) (book : Book) (c : Corp) (kind : Kind) → IsLawful roster book (A.BuyTrain c kind S.Bank) → IsInOrder (train_holder book) kind
  pub trade : (roster : Terms) (book : Book) (c : Corp) (kind : Kind) → IsLawful roster book (A.Trade c kind) → IsInOrder (train_holder book) K.Diesel

-- a private goes for half to twice its face, in the phases of 3 and 4
pub record IsFairSale (roster : Terms) (book : Book) (p : Private) (price : ℕ) : Type 0 where
  pub least : face_of roster p ≤ 2 * price
  pub greatest : price ≤ 2 * face_of roster p
  pub phase : sells_privates (phase (train_holder book)) ≡ true

abbrev pub PrivatesGoAtFairPrices : Type 0
PrivatesGoAtFairPrices = (roster : Terms) (book : Book) (c : Corp) (p : Private) (price : ℕ) → IsLawful roster book (A.TakePrivate c p price) → IsFairSale roster book p price

-- no seat and no corporation has less than nothing
abbrev pub NobodyOwes : Book → Type 0
NobodyOwes book = (p : Party) → is_bank p ≡ false → pos 0 ≤ℤ balance book p

-- nobody pays what it doesn't have
abbrev pub NobodyOverspends : Type 0
NobodyOverspends = (roster : Terms) (book : Book) (act : Act) → IsLawful roster book act → NobodyOwes book → NobodyOwes (with_act roster book act)
