-- Lawful commands of corporations' turns, one after another.
use Rattle.std.specs.Prelude.{◌≡◌, ℕ, pos, ◌≤ℤ◌, int_lt, Bool, true, false, not, ◌&&◌, List, [], ◌∷◌, ◌++◌, Option, None, Some, refl, if◌then◌else◌}
use Rattle.std.specs.Option.{option_or}
use Rattle.std.proofs.Common.{sym, arith, inl, inr}
use Rattle.std.proofs.lemmas.Int.{ints}
use Rattle.rr_roster.specs.declared.company.Corp.{Corp}
use Rattle.rr_roster.specs.Terms.{tokens_of}
use Rattle.rr_books.specs.declared.parties.Money.{Money}
use Rattle.rr_books.specs.declared.parties.Party.TheVariants as P
use Rattle.rr_books.specs.declared.acts.Act.{Act}
use Rattle.rr_books.specs.declared.acts.Act.TheVariants as A
use Rattle.rr_books.specs.declared.entries.Entry.TheVariants as E
use Rattle.rr_books.specs.declared.entries.Marker.TheVariants as M
use Rattle.rr_books.specs.Book.{Book, balance}
use Rattle.rr_kit.specs.declared.board.hex.Hex.{Hex}
use Rattle.rr_kit.specs.Board.Plan.{Plan, hex_named}
use Rattle.rr_tiles.specs.declared.supply.Supply.{Supply}
use Rattle.rr_tiles.specs.Supply.{supply_at}
use Rattle.rr_kit.specs.declared.kit.Kit.{Kit}
use Rattle.rr_desk.specs.Effects.{adds}
use Rattle.rr_desk.specs.declared.layout.layout.Lay.{Lay}
use Rattle.rr_desk.specs.declared.layout.layout.Station.{Station}
use Rattle.rr_desk.specs.Layout.Layout.{lays, stations}
use Rattle.rr_network.specs.Walk.{ReachesNode, node_of}
use Rattle.rr_books.specs.declared.refusal.Refusal.{Refusal}
use Rattle.rr_books.specs.declared.refusal.Refusal.TheVariants as Y
use Rattle.rr_lay.specs.Costs.{cost_verdict}
use Rattle.rr_lay.specs.Judging as judging
use Rattle.rr_lay.specs.Laying as laying
use Rattle.rr_lay.specs.Laying.{cost_at, lay_cost, supply_verdict}
use Rattle.rr_lay.specs.Placing as placing
use Rattle.rr_lay.specs.Placing.{placed_by, slot_verdict, token_cost}
use Rattle.rr_lay.specs.Position.{Position, position_of}
use Rattle.rr_market.specs.Operations.Turn.{takes}
use Rattle.rr_market.specs.Operations.Progress.{progress}
use Rattle.rr_operate.specs.Order.{is_played, order_verdict, revenue_verdict, step_verdict}
use Rattle.rr_operate.specs.Rows.{After, IsRowVerdict, IsVerdict, lay_of, row_first, station_of}
use Rattle.rr_operate.specs.Effects.{ends_turn, entries_of, revenue_after, runs_best}
use Rattle.rr_operate.proofs.InOrder.{lawful_in_order}
use Rattle.rr_operate.specs.Sets.Following.{goes_on_in_operating_round}
use Rattle.rr_laws.specs.Soundness.GoodOrder.{IsInGoodOrder}
use Rattle.rr_laws.specs.Soundness.Sound.{IsSolvent}
use Rattle.rr_laws.proofs.SoundnessLemmas.GoodOrder.{order_kept}
use Rattle.rr_laws.specs.Turns.Turns.{AreLawful, IsEarned, revenue_behind, with_act, with_acts}
use Rattle.rr_laws.proofs.TurnsLemmas.Turning.{CanSettle, TurnsOn, no_dues, settled, solvent, stays_none, stays_two}
use Rattle.rr_laws.proofs.TurnsLemmas.Quiet.{can_settle, stays_best, stays_lay, stays_station}
use Rattle.rr_laws.proofs.TurnsLemmas.Purchases.{dues_of, not_below, purchase_goes, put_paid, says_stays}
use Rattle.rr_laws.proofs.TurnsLemmas.Rounds.{round_goes_on}
use Rattle.rr_laws.proofs.TurnsLemmas.Dividends.{paid_out_stays, withheld_stays}

-- a lawful command passes the checks of its row
after_none : (first : Option Refusal) (Next : Option Refusal → Type 0) → After first Next None → (first ≡ None) × Next None
after_none None Next h = (refl, h)
after_none (Some fault) Next h = absurd (cc)

neither : {X : Type 0} (first second : Option X) → option_or first second ≡ None → (first ≡ None) × (second ≡ None)
neither None second e = (refl, e)
neither (Some fault) second e = absurd (cc)

row_passed : (kit : Kit) (book : Book) (revenue : Money) (act : Act) → IsVerdict kit book revenue act None → (row_first kit book act ≡ None) × IsRowVerdict kit book act None
row_passed kit book revenue act h =
    let order = order_verdict kit book revenue act in
    let parts = after_none (option_or order (row_first kit book act)) (IsRowVerdict kit book act) h in
    ((neither order (row_first kit book act) parts.0).1, parts.1)

lay_after : (first : Option Refusal) (Next : Option Refusal → Type 0) → judging.After first Next None → Next None
lay_after None Next h = h
lay_after (Some fault) Next h = absurd (cc)

needed : (Needed : Type 0) (fault : Refusal) (Next : Option Refusal → Type 0) → judging.Needs Needed fault Next None → Next None
needed Needed fault Next (inl h) = absurd (none_is_some fault h.1)
  where
    none_is_some : (f : Refusal) → None ≡ Some f → ⊥
    none_is_some f e = cc
needed Needed fault Next (inr h) = h.1

-- the corporation has what a tile costs
tile_covered : (plan : Plan) (tiles : List Supply) (now : Position) (c : Corp) (l : Lay) (hex : Option Hex) (supply : Option Supply) → laying.IsVerdictAt plan tiles now c l hex supply None → cost_verdict now.cash c (cost_at now.lays hex) ≡ None
tile_covered plan tiles now c l None supply h = absurd (cc)
tile_covered plan tiles now c l (Some hex) None h = absurd (cc)
tile_covered plan tiles now c l (Some hex) (Some supply) h =
    let Covers : Option Refusal → Type 0 = λ x. x ≡ cost_verdict now.cash c (lay_cost now.lays hex) in
    let Reaches = laying.ReachesNewLink (laying.net_now plan tiles now) (laying.net_with plan tiles now l) c in
    let Keeps = laying.IsUpgrade plan tiles now.lays hex supply l.turn in
    let Reached : Option Refusal → Type 0 = judging.Needs Reaches Y.NotReached Covers in
    let upgrade = lay_after (supply_verdict plan tiles now hex supply) (judging.Needs Keeps Y.NotAnUpgrade Reached) h in
    sym (needed Reaches Y.NotReached Covers (needed Keeps Y.NotAnUpgrade Reached upgrade))

-- and what a token costs
token_covered : (plan : Plan) (tiles : List Supply) (tokens : ℕ) (now : Position) (s : Station) (hex : Option Hex) → placing.IsVerdictAt plan tiles tokens now s hex None → cost_verdict now.cash s.corp (Some (token_cost (placed_by now.stations s.corp))) ≡ None
token_covered plan tiles tokens now s None h = absurd (cc)
token_covered plan tiles tokens now s (Some hex) h =
    let Covers : Option Refusal → Type 0 = λ x. x ≡ cost_verdict now.cash s.corp (Some (token_cost (placed_by now.stations s.corp))) in
    let Reaches = ReachesNode (laying.net_now plan tiles now) s.corp (node_of s) in
    let reached = lay_after (slot_verdict plan tiles tokens (record { lays = now.lays; stations = now.stations }) hex s) (judging.Needs Reaches Y.NotReached Covers) h in
    sym (needed Reaches Y.NotReached Covers reached)

has_cost : (n : ℕ) (book : Book) (c : Corp) (cost : Option ℕ) → IsSolvent n book → cost_verdict (balance book) c cost ≡ None → CanSettle n (dues_of c cost) book
has_cost n book c None h e = settled n book h
has_cost n book c (Some m) h e = can_settle n c m book h (by_test (int_lt (balance book (P.Corp c)) (pos m)) refl e)
  where
    by_test : (b : Bool) → int_lt (balance book (P.Corp c)) (pos m) ≡ b → (if b then Some Y.TooLittleCash else None) ≡ None → pos m ≤ℤ balance book (P.Corp c)
    by_test true is e = absurd (cc)
    by_test false is e = not_below (balance book (P.Corp c)) (pos m) is

best_stays : (n : ℕ) (c : Corp) (sheet certificate : List ℕ) (book : Book) → CanSettle n no_dues book → TurnsOn n no_dues book (runs_best c sheet certificate book)
unfolding runs_best
best_stays n c sheet certificate =
    stays_two n (adds (E.Best c sheet certificate)) (adds (E.Step (M.Act (A.RunBest c sheet certificate)))) (stays_best n c sheet certificate) (says_stays n (A.RunBest c sheet certificate)) no_dues

end_stays : (n : ℕ) (kit : Kit) (c : Corp) (book : Book) → CanSettle n no_dues book → TurnsOn n no_dues book (ends_turn kit c book)
unfolding ends_turn
end_stays n kit c = stays_two n (adds (E.Step (M.Act (A.End c)))) (goes_on_in_operating_round kit) (says_stays n (A.End c)) (round_goes_on n kit) no_dues

-- whatever command isn't refused
goes_by_row : (n : ℕ) (kit : Kit) (revenue : Money) (book : Book) (act : Act) → IsEarned revenue → row_first kit book act ≡ None → IsRowVerdict kit book act None → IsSolvent n book → TurnsOn n no_dues book (entries_of kit revenue book act)
goes_by_row n kit revenue book (A.Lay c hex tile turn) earned first other h =
    let l = lay_of hex tile turn in
    let place = hex_named kit.board.hexes hex in
    let covered = tile_covered kit.board kit.tiles (position_of book) c l place (supply_at kit.tiles tile) other in
    let cost = cost_at (lays book) place in
    put_paid n (A.Lay c hex tile turn) c cost (E.Lay hex tile turn) (stays_lay n hex tile turn) book (has_cost n book c cost h covered)
goes_by_row n kit revenue book (A.Station c hex centre) earned first other h =
    let s = station_of c hex centre in
    let covered = token_covered kit.board kit.tiles (tokens_of kit.roster c) (position_of book) s (hex_named kit.board.hexes hex) other in
    let cost = Some (token_cost (placed_by (stations book) c)) in
    put_paid n (A.Station c hex centre) c cost (E.Station c hex centre) (stays_station n c hex centre) book (has_cost n book c cost h covered)
goes_by_row n kit revenue book (A.Run c sheet) earned first other h = says_stays n (A.Run c sheet) no_dues book (settled n book h)
goes_by_row n kit revenue book (A.RunBest c sheet certificate) earned first other h = best_stays n c sheet certificate book (settled n book h)
goes_by_row n kit revenue book (A.PayOut c) earned first other h = paid_out_stays n kit.chart c revenue earned no_dues book (settled n book h)
goes_by_row n kit revenue book (A.Hold c) earned first other h = withheld_stays n kit.chart c revenue earned no_dues book (settled n book h)
goes_by_row n kit revenue book (A.BuyTrain c kind source) earned first other h = purchase_goes n kit.roster book (A.BuyTrain c kind source) first h
goes_by_row n kit revenue book (A.BuyTrainFrom c kind seller price s t) earned first other h = purchase_goes n kit.roster book (A.BuyTrainFrom c kind seller price s t) first h
goes_by_row n kit revenue book (A.Trade c kind) earned first other h = purchase_goes n kit.roster book (A.Trade c kind) first h
goes_by_row n kit revenue book (A.Discard c kind) earned first other h = purchase_goes n kit.roster book (A.Discard c kind) first h
goes_by_row n kit revenue book (A.TakePrivate c p price) earned first other h = purchase_goes n kit.roster book (A.TakePrivate c p price) first h
goes_by_row n kit revenue book (A.End c) earned first other h = end_stays n kit c book (settled n book h)
goes_by_row n kit revenue book _ earned first other h = stays_none n no_dues book (settled n book h)

pub order_by_act : (n : ℕ) (kit : Kit) (revenue : Money) (book : Book) (act : Act) → IsEarned revenue → IsVerdict kit book revenue act None → IsInGoodOrder n book → IsInGoodOrder n (with_act kit revenue book act)
order_by_act n kit revenue book act earned lawful h =
    let passed = row_passed kit book revenue act lawful in
    let sound = h.sound in
    let on = goes_by_row n kit revenue book act earned passed.0 passed.1 sound.solvent in
    let more = entries_of kit revenue book act in
    order_kept n book more on.among on.within (solvent n (book ++ more) on.later) on.untouched h

no_less : (m : ℕ) → pos 0 ≤ℤ pos m
no_less m = omega (arith, ints)

pub earned_behind : (kit : Kit) (revenue : Money) (book : Book) (act : Act) → IsEarned revenue → IsEarned (revenue_after kit book revenue act)
earned_behind kit revenue book (A.Run c sheet) earned = no_less _
earned_behind kit revenue book (A.RunBest c sheet certificate) earned = no_less _
earned_behind kit revenue book (A.End c) earned = no_less 0
earned_behind kit revenue book _ earned = earned

pub order_by_acts : (n : ℕ) (kit : Kit) (revenue : Money) (book : Book) (acts : List Act) → IsEarned revenue → AreLawful kit revenue book acts → IsInGoodOrder n book → IsInGoodOrder n (with_acts kit revenue book acts) × IsEarned (revenue_behind kit revenue book acts)
order_by_acts n kit revenue book [] earned lawful h = (h, earned)
order_by_acts n kit revenue book (act ∷ acts) earned lawful h =
    order_by_acts n kit (revenue_after kit book revenue act) (with_act kit revenue book act) acts (earned_behind kit revenue book act earned) lawful.1 (order_by_act n kit revenue book act earned lawful.0 h)

-- and it is one of those that a turn is made of
played : (takes_it is : Bool) → not (takes_it && is) ≡ false → is ≡ true
played true true e = refl
played true false e = absurd (cc)
played false is e = absurd (cc)

refused_by : (b : Bool) (fault : Refusal) (others : Option Refusal) → (if b then Some fault else others) ≡ None → b ≡ false
refused_by true fault others e = absurd (cc)
refused_by false fault others e = refl

pub lawful_is_played : (kit : Kit) (book : Book) (revenue : Money) (act : Act) → IsVerdict kit book revenue act None → is_played act ≡ true
unfolding step_verdict
lawful_is_played kit book revenue act h =
    let lawful = lawful_in_order kit book revenue act h in
    let step = (progress book).step in
    played (takes step act) (is_played act) (refused_by (not (takes step act && is_played act)) Y.WrongStep (revenue_verdict revenue act) lawful.step)
