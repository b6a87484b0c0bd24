-- How a desk takes the rise of what is sold out.
use Rattle.std.specs.Prelude.{◌≡◌, Bool, true, false, List, [], Option, if◌then◌else◌}
use Rattle.std.proofs.Common.{sym, ◌∙◌, ap}
use Rattle.rr_roster.specs.declared.company.Corp.{Corp}
use Rattle.rr_roster.specs.Chart.Chart.{Row}
use Rattle.rr_books.specs.declared.entries.Cell.{Cell}
use Rattle.rr_books.specs.Book.{Book, holder}
use Rattle.rr_desk.specs.Effects.{in_turn}
use Rattle.rr_market.specs.Moves.{mark_at, sold_out_marks}
use Rattle.rr_desk.specs.Position.Position.{IsPositionOf}
use Rattle.rr_desk.specs.Desk.{OnDesk, Takes}
use Rattle.rr_desk.proofs.Taking.{takes_nothing, takes_same}
use Rattle.rr_stock.specs.Effects.{is_sold_out, marks, rises_if_sold_out}

-- a corporation that isn't sold out
pub takes_no_rise : (rows : List Row) (c : Corp) (d : OnDesk) → ((book : Book) → IsPositionOf book d.position → is_sold_out (holder book) c ≡ false) → Takes (rises_if_sold_out rows c) d d
unfolding rises_if_sold_out
takes_no_rise rows c d none =
    takes_same (in_turn []) (rises_if_sold_out rows c) d d
    (λ book h. ap (λ (x : Bool). (if x then sold_out_marks rows c else in_turn []) book) (sym (none book h)))
    (takes_nothing d)

-- one that is
pub takes_rise : (rows : List Row) (c : Corp) (cell : Option Cell) (d e : OnDesk) → ((book : Book) → IsPositionOf book d.position → is_sold_out (holder book) c ≡ true)
    → ((book : Book) → IsPositionOf book d.position → mark_at c cell ≡ sold_out_marks rows c book) → Takes (marks c cell) d e → Takes (rises_if_sold_out rows c) d e
unfolding rises_if_sold_out
takes_rise rows c cell d e sold is marked =
    takes_same (marks c cell) (rises_if_sold_out rows c) d e
    (λ book h. is book h ∙ ap (λ (x : Bool). (if x then sold_out_marks rows c else in_turn []) book) (sym (sold book h)))
    marked
