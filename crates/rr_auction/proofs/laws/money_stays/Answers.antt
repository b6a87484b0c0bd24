use Rattle.std.specs.Prelude.{ℕ, pos, ℤ, ◌≤ℤ◌, [], ◌∷◌, ◌++◌, length}
use Rattle.std.proofs.Common.{sym, ◌∙◌, ap, subst, arith, append_assoc}
use Rattle.std.proofs.lemmas.Int.{ints}
use Rattle.rr_books.specs.declared.parties.Party.TheVariants as P
use Rattle.rr_books.specs.declared.entries.Entry.TheVariants as E
use Rattle.rr_books.specs.declared.entries.Marker.TheVariants as M
use Rattle.rr_books.specs.Book.{Book, balance, money}
use Rattle.rr_books.specs.Opening.{opening_entries}
use Rattle.rr_books.specs.Totals.{parties, sum_over}
use Rattle.rr_auction.specs.Opening.{opened}
use Rattle.rr_auction.specs.SoundMoney.{HasSoundMoney}
use Rattle.rr_auction.proofs.LawfulActs.{goes_by_acts}
use Rattle.rr_auction.proofs.OpenedTable.{covered_opened}
use Rattle.rr_auction.proofs.laws.money_stays.Goals as goal

no_less : (m : ℕ) (cash : ℤ) → pos m ≤ℤ cash → pos 0 ≤ℤ cash
no_less m cash h = omega (arith, ints)

pub returns : goal.returns
returns c roster rows names acts two lawful =
    let n = length names in
    let began = E.Step (M.Auction names) in
    let all = goes_by_acts n roster rows acts (opened names roster) (covered_opened names roster two) lawful in
    let Sound : Book → Type 0 = λ book. HasSoundMoney roster n book in
    let covered = all.2.later.covered in
    subst Sound (sym all.1) (record {
      together =
          ap (λ (book : Book). sum_over (money roster book) (parties n)) (append_assoc (opening_entries n roster) (began ∷ []) all.0)
          ∙ c.money_is_kept.ensures n roster (began ∷ all.0) all.2.among;
      seats = λ s. no_less _ (balance (opened names roster ++ all.0) (P.Seat s)) (covered.seats s);
      corporations = λ corp. covered.corporations corp;
    })
