-- What trains earn is a number of tens, and each dividend shares what they earned.
use Rattle.std.specs.Prelude.{◌≡◌, ℕ, ◌*◌, ◌/◌, ◌%◌, List, [], ◌∷◌, ◌++◌, All, Option, None, Some, fold, length, map, get_or, slice_index, sum_by, refl}
use Rattle.std.proofs.Common.{◌∙◌, ap, arith, inl, inr, subst, sym}
use Rattle.std.proofs.lemmas.Bool.{cases_lt}
use Rattle.std.proofs.lemmas.List.{get_or_past}
use Rattle.std.proofs.lemmas.List.Elements.{All-map, All-weaker}
use Rattle.std.proofs.lemmas.List.Sums.{sum_by-cons}
use Rattle.rr_roster.specs.Chart.Chart.{Row}
use Rattle.rr_roster.specs.declared.company.Corp.{Corp}
use Rattle.rr_roster.specs.declared.company.Kind.{Kind as TrainKind}
use Rattle.rr_roster.specs.declared.company.Kind.TheVariants.{Two, Three, Four, Five, Six, Diesel}
use Rattle.rr_books.specs.declared.parties.Money.{Money}
use Rattle.rr_books.specs.declared.acts.Act.{Act}
use Rattle.rr_books.specs.declared.acts.Act.TheVariants as A
use Rattle.rr_books.specs.declared.refusal.Refusal.{Refusal}
use Rattle.rr_books.specs.Book.{Book, train_holder}
use Rattle.rr_tiles.specs.declared.part.Kind.{Kind}
use Rattle.rr_tiles.specs.declared.part.Kind.TheVariants.{Town, City, OffBoard}
use Rattle.rr_tiles.specs.Manifest.{IsManifest}
use Rattle.rr_tiles.specs.Sound.{IsKind}
use Rattle.rr_kit.specs.declared.kit.Kit.{Kit}
use Rattle.rr_kit.specs.Board.Sound.{IsWholeBoard}
use Rattle.rr_kit.specs.Kits.{KitTexts, SpellsKit}
use Rattle.rr_kit.proofs.BoardLemmas.RowLemmas.{IsWholeBoard-spelled}
use Rattle.rr_desk.specs.Incomes.{dollars}
use Rattle.rr_desk.specs.Layout.Layout.{lays, stations}
use Rattle.rr_network.specs.declared.network.Stop.{Stop}
use Rattle.rr_network.specs.Network.{network}
use Rattle.rr_network.specs.Stops.{IsStop}
use Rattle.rr_network.proofs.StopLemmas.{stops-sound}
use Rattle.rr_routes.specs.Net.{Net, value}
use Rattle.rr_routes.specs.Routes.{centres}
use Rattle.rr_routes.specs.Sheets.Reading.{sheet_in}
use Rattle.rr_routes.specs.declared.sheets.sheet.TrainWord.{TrainWord}
use Rattle.rr_referee.specs.Revenue.{course_of, earned_on, revenue_of}
use Rattle.rr_referee.specs.Sheets.{links_of}
use Rattle.rr_running.specs.Net.Centres.{value_in, worth_as}
use Rattle.rr_running.specs.Running.{net_now, run_revenue}
use Rattle.rr_market.specs.declared.operations.turn.Stage.{Stage}
use Rattle.rr_market.specs.declared.operations.turn.Stage.TheVariants as G
use Rattle.rr_market.specs.Operations.Phases.{phase}
use Rattle.rr_operate.specs.Dividends.DividendLaws.{IsPaidOut, IsWithheld, NobodyIsPaidForTheOffering, PaysEachHolder, WithholdingPaysTheCorporation}
use Rattle.rr_operate.specs.Dividends.Dividends.{pays_out, withholds}
use Rattle.rr_operate.specs.Effects.{revenue_after}
use Rattle.rr_rules.specs.Judging.{judgement, judgement_in, name_verdict, stage}
use Rattle.rr_rules.specs.Playing.{revenue_in, state_in}
use Rattle.rr_rules.specs.State.{GameState}
use Rattle.rr_rules.proofs.Judging.{at_stage}
use Rattle.rr_code.specs.declared.command.Command.{Command}
use Rattle.rr_code.specs.declared.command.Command.TheVariants.{Open, Order as OfOrder}
use Rattle.rr_orders.specs.declared.order.Order.{Order}
use Rattle.rr_orders.specs.declared.order.Order.TheVariants.{Hold, PayOut}
use Rattle.rr_game.specs.Names.{act_of, act_of_order}
use Rattle.rr_game.specs.Play.{opened_state, play, played_on, players_of, state_with}
use Rattle.rr_game.specs.Verdict.{act_judgement, command_judgement, command_judgement_in_play, over_verdict}
use Rattle.rr_turns.specs.Judgement.{IsVerdict, Judgement}
use Rattle.rr_turns.proofs.JudgementLemmas.{lawful-behind}
use Rattle.rr_laws.specs.Dividends.{DividendsWereRight, HeldRevenuesWereWithheld, IsInTens, IsShared, RevenuesAreInTens}
use Rattle.rr_laws.specs.Sound.{AreAccepted, ArePlayed}
use Rattle.rr_laws.proofs.Revenues.{revenues_are_of_the_book}

-- a number of tens
abbrev EndsInNought : ℕ → Type 0
EndsInNought n = n % 10 ≡ 0

in_tens : (n : ℕ) → EndsInNought n → IsInTens (dollars n)
in_tens n even =
    let tens : n ≡ 10 * (n / 10) = omega arith in
    (n / 10, ap dollars tens)

sum_in_tens : {X : Type 0} (f : X → ℕ) → ((x : X) → EndsInNought (f x)) → (xs : List X) → EndsInNought (sum_by f xs)
sum_in_tens f each [] = refl
sum_in_tens f each (x ∷ xs) = omega (arith, each x, sum_in_tens f each xs, sum_by-cons f x xs)

-- what a sheet earns, where each centre is worth a number of tens: whatever the sheet, it sums what centres are worth
sheet_in_tens : (net : Net) → ((centre : ℕ) → EndsInNought (value net centre)) → (sheet : List TrainWord) → EndsInNought (revenue_of net sheet)
unfolding revenue_of
sheet_in_tens net each sheet = sum_in_tens (earned_on net) (λ word. sum_in_tens (value net) each (centres (course_of net (links_of word)))) sheet

-- a centre's worth, in any phase
area_in_tens : (phase : TrainKind) (later first : ℕ) → EndsInNought later → EndsInNought first → EndsInNought (worth_as phase (OffBoard later) first)
area_in_tens Two later first second_in_tens in_tens = in_tens
area_in_tens Three later first second_in_tens in_tens = in_tens
area_in_tens Four later first second_in_tens in_tens = in_tens
area_in_tens Five later first second_in_tens in_tens = second_in_tens
area_in_tens Six later first second_in_tens in_tens = second_in_tens
area_in_tens Diesel later first second_in_tens in_tens = second_in_tens

worth_in_tens : (phase : TrainKind) (kind : Kind) (first : ℕ) → IsKind kind → EndsInNought first → EndsInNought (worth_as phase kind first)
worth_in_tens phase Town first sound in_tens = in_tens
worth_in_tens phase (City slots) first sound in_tens = in_tens
worth_in_tens phase (OffBoard later) first sound in_tens = area_in_tens phase later first sound.tens in_tens

stop_in_tens : (phase : TrainKind) (stop : Stop) → IsStop stop → EndsInNought (value_in phase stop)
stop_in_tens phase stop sound = worth_in_tens phase stop.kind stop.value sound.sound_kind sound.sound_value.tens

-- and nothing past the last centre
values_in_tens : (phase : TrainKind) (stops : List Stop) → All IsStop stops → (centre : ℕ) → EndsInNought (slice_index (map (value_in phase) stops) centre)
values_in_tens phase stops sound centre =
    let values = map (value_in phase) stops in
    let all : All EndsInNought values = All-map EndsInNought (value_in phase) stops (All-weaker IsStop (λ stop. EndsInNought (value_in phase stop)) (stop_in_tens phase) stops sound) in
    elim (cases_lt centre (length values)) [
      | inl inside ↦ all centre 0 inside
      | inr past ↦ let none : get_or values centre 0 ≡ 0 = get_or_past values centre 0 past in omega (arith, none)
    ]

-- a kit whose centres are sound
record HasSoundCentres (kit : Kit) : Type 0 where
  board : IsWholeBoard kit.board
  tiles : IsManifest kit.tiles

right_kit_has : (texts : KitTexts) (kit : Kit) → SpellsKit texts kit → HasSoundCentres kit
right_kit_has texts kit spelled = record { board = IsWholeBoard-spelled texts.board kit.board spelled.board; tiles = spelled.tiles.lines_spelled.is_manifest }

-- on its board a run earns a number of tens
run_in_tens : (kit : Kit) → HasSoundCentres kit → (book : Book) (c : Corp) (words : List ℕ) → IsInTens (run_revenue kit book c words)
run_in_tens kit sound book c words =
    let net = net_now kit.board kit.tiles book c in
    let stops = stops-sound kit.board kit.tiles (record { lays = lays book; stations = stations book }) sound.board sound.tiles in
    let each = values_in_tens (phase (train_holder book)) (network kit.board kit.tiles book).stops stops in
    in_tens (revenue_of net (sheet_in words)) (sheet_in_tens net each (sheet_in words))

-- so whatever commands come the revenue is one
behind_act : (kit : Kit) → HasSoundCentres kit → (book : Book) (revenue : Money) (act : Act) → IsInTens revenue → IsInTens (revenue_after kit book revenue act)
behind_act kit sound book revenue (A.Run c sheet) h = run_in_tens kit sound book c sheet
behind_act kit sound book revenue (A.RunBest c sheet certificate) h = run_in_tens kit sound book c sheet
behind_act kit sound book revenue (A.End c) h = (0, refl)
behind_act kit sound book revenue _ h = h

at_a_stage : (s : Stage) (kit : Kit) → HasSoundCentres kit → (state : GameState) (act : Act) → IsInTens state.revenue → IsInTens (revenue_in s kit state act)
at_a_stage G.Auction kit sound state act h = h
at_a_stage G.Stock kit sound state act h = h
at_a_stage G.Operating kit sound state act h = behind_act kit sound state.book state.revenue act h

behind_named : (kit : Kit) → HasSoundCentres kit → (state : GameState) (named : Option Act) → IsInTens state.revenue → IsInTens (state_with kit state named).revenue
behind_named kit sound state None h = h
behind_named kit sound state (Some act) h = at_a_stage (stage state.book) kit sound state act h

behind_commands : (kit : Kit) → HasSoundCentres kit → (players : List (List ℕ)) (commands : List Command) (state : GameState) → IsInTens state.revenue
    → IsInTens (fold (played_on kit players) state commands).revenue
behind_commands kit sound players [] state h = h
behind_commands kit sound players (command ∷ commands) state h =
    behind_commands kit sound players commands (played_on kit players state command) (behind_named kit sound state (act_of players command) h)

revenue_in_play : (kit : Kit) → HasSoundCentres kit → (commands : List Command) → IsInTens (play kit commands).revenue
revenue_in_play kit sound [] = (0, refl)
revenue_in_play kit sound (Open players ∷ commands) = behind_commands kit sound players commands (opened_state players kit.roster) (0, refl)
revenue_in_play kit sound (command ∷ commands) = (0, refl)

pub revenues_in_tens : RevenuesAreInTens
revenues_in_tens texts kit commands spelled = revenue_in_play kit (right_kit_has texts kit spelled) commands

-- An order that a table was played with wasn't refused in the state before it, and led to the one behind it.
pub record WasPlayed (kit : Kit) (players : List (List ℕ)) (before after : GameState) (order : Order) : Type 0 where
  pub lawful : IsVerdict (command_judgement kit players before (OfOrder order)) None
  pub led : after ≡ played_on kit players before (OfOrder order)

played_along : (kit : Kit) (players : List (List ℕ)) (state : GameState) (front rest : List Command) (order : Order) → AreAccepted kit players state (front ++ OfOrder order ∷ rest)
    → WasPlayed kit players (fold (played_on kit players) state front) (fold (played_on kit players) state (front ++ OfOrder order ∷ [])) order
played_along kit players state [] rest order all = record { lawful = all.0; led = refl }
played_along kit players state (command ∷ front) rest order all = played_along kit players (played_on kit players state command) front rest order all.1

pub was_played : (kit : Kit) (front rest : List Command) (order : Order) → ArePlayed kit (front ++ OfOrder order ∷ rest)
    → WasPlayed kit (players_of front) (play kit front) (play kit (front ++ OfOrder order ∷ [])) order
was_played kit [] rest order played = absurd played
was_played kit (Open players ∷ front) rest order played = played_along kit players (opened_state players kit.roster) front rest order played.2
was_played kit (command ∷ front) rest order played = absurd played

-- nor is it by the rules in force
pub by_rules : (kit : Kit) (players : List (List ℕ)) (state : GameState) (order : Order) (act : Act) → act_of_order players order ≡ Some act
    → IsVerdict (command_judgement kit players state (OfOrder order)) None → IsVerdict (judgement_in (stage state.book) kit state act) None
by_rules kit players state order act named lawful =
    let s = stage state.book in
    let command = OfOrder order in
    let IsLawful : Judgement Refusal → Type 0 = λ j. IsVerdict j None in
    let IsLawfulAct : Option Act → Type 0 = λ a. IsVerdict (act_judgement kit state a) None in
    let known : IsVerdict (judgement kit state act) None = subst IsLawfulAct named (lawful-behind (over_verdict kit state) (command_judgement_in_play kit players state command) lawful) in
    lawful-behind (name_verdict kit act) (judgement_in s kit state act) (subst IsLawful (at_stage s kit state act refl) known)

-- a dividend is paid or withheld in an operating round alone
paid_in : (s : Stage) (kit : Kit) (state : GameState) (c : Corp) → IsVerdict (judgement_in s kit state (A.PayOut c)) None
    → (state_in s kit state (A.PayOut c)).book ≡ state.book ++ pays_out kit.chart c state.revenue state.book
paid_in G.Auction kit state c lawful = absurd cc
paid_in G.Stock kit state c lawful = absurd cc
paid_in G.Operating kit state c lawful = refl

held_in : (s : Stage) (kit : Kit) (state : GameState) (c : Corp) → IsVerdict (judgement_in s kit state (A.Hold c)) None
    → (state_in s kit state (A.Hold c)).book ≡ state.book ++ withholds kit.chart c state.revenue state.book
held_in G.Auction kit state c lawful = absurd cc
held_in G.Stock kit state c lawful = absurd cc
held_in G.Operating kit state c lawful = refl

paid_on : (kit : Kit) (players : List (List ℕ)) (before after : GameState) (c : Corp) → WasPlayed kit players before after (PayOut c)
    → after.book ≡ before.book ++ pays_out kit.chart c before.revenue before.book
paid_on kit players before after c played =
    ap (λ (s : GameState). s.book) played.led ∙ paid_in (stage before.book) kit before c (by_rules kit players before (PayOut c) (A.PayOut c) refl played.lawful)

held_on : (kit : Kit) (players : List (List ℕ)) (before after : GameState) (c : Corp) → WasPlayed kit players before after (Hold c)
    → after.book ≡ before.book ++ withholds kit.chart c before.revenue before.book
held_on kit players before after c played =
    ap (λ (s : GameState). s.book) played.led ∙ held_in (stage before.book) kit before c (by_rules kit players before (Hold c) (A.Hold c) refl played.lawful)

-- so many tens are shared as the law for tens says
shared : PaysEachHolder → NobodyIsPaidForTheOffering → (rows : List Row) (before after : Book) (c : Corp) (revenue : Money) → IsInTens revenue
    → after ≡ before ++ pays_out rows c revenue before → IsShared before after c revenue
shared pays spares rows before after c revenue earned paid =
    let tens = earned.0 in
    let as_tens : after ≡ before ++ pays_out rows c (dollars (10 * tens)) before = paid ∙ ap (λ (m : Money). before ++ pays_out rows c m before) earned.1 in
    record {
      tens = tens;
      is_tens = earned.1;
      paid = subst (λ (b : Book). IsPaidOut before b c (10 * tens)) (sym as_tens) (pays rows before c tens);
      offering = spares before c tens;
    }

pub dividend_was_right : PaysEachHolder → NobodyIsPaidForTheOffering → DividendsWereRight
dividend_was_right pays spares texts kit front rest c spelled played =
    let before = play kit front in
    let after = play kit (front ++ OfOrder (PayOut c) ∷ []) in
    let paid = paid_on kit (players_of front) before after c (was_played kit front rest (PayOut c) played) in
    subst (λ (m : Money). IsShared before.book after.book c m) (revenues_are_of_the_book kit front)
    (shared pays spares kit.chart before.book after.book c before.revenue (revenues_in_tens texts kit front spelled) paid)

pub held_was_withheld : WithholdingPaysTheCorporation → HeldRevenuesWereWithheld
held_was_withheld withholds_whole kit front rest c played =
    let before = play kit front in
    let after = play kit (front ++ OfOrder (Hold c) ∷ []) in
    let held = held_on kit (players_of front) before after c (was_played kit front rest (Hold c) played) in
    subst (λ (m : Money). IsWithheld before.book after.book c m) (revenues_are_of_the_book kit front)
    (subst (λ (b : Book). IsWithheld before.book b c before.revenue) (sym held) (withholds_whole kit.chart before.book c before.revenue))
