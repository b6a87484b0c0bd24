-- The best runs that are found: why there is none, that their lines fit, and that they earn alike.
use Rattle.std.proofs.Common.{◌≡◌, ◌⊎◌, ℕ, ◌+◌, ◌≤◌, ◌==◌, true, false, List, [], ◌∷◌, ◌++◌, length, Option, None, Some, Result, Ok, inl, inr, option_map, refl, sym, ap, subst, ◌∙◌, arith, codes, decimal, length-append}
use Rattle.std.specs.Fmt.{signed_decimal}
use Rattle.std.proofs.lemmas.Bool.Decides.{nat_tests}
use Rattle.std.proofs.lemmas.List.Sums.{fold-append}
use Rattle.rr_search.specs.BestRun.Worded.{MayLackRun, WordedRun}
use Rattle.rr_books.specs.declared.acts.Act.TheVariants as A
use Rattle.rr_books.specs.declared.parties.Money.{Money}
use Rattle.rr_books.specs.Book.{Book}
use Rattle.rr_code.specs.declared.command.Command.{Command}
use Rattle.rr_code.specs.declared.command.Command.TheVariants.{Open, Order}
use Rattle.rr_code.specs.declared.line.Line.TheVariants as L
use Rattle.rr_code.specs.Line.{line_text}
use Rattle.rr_desk.specs.Incomes.{dollars}
use Rattle.rr_game.specs.Play.{opened_state, play, played_on}
use Rattle.rr_game.specs.declared.history.fault.Fault as hist
use Rattle.rr_game.specs.History.Running as tables
use Rattle.rr_kit.specs.declared.kit.Kit.{Kit}
use Rattle.rr_market.specs.declared.operations.turn.Stage.{Stage}
use Rattle.rr_market.specs.declared.operations.turn.Stage.TheVariants as G
use Rattle.rr_orders.specs.declared.order.Order.TheVariants as O
use Rattle.rr_orders.specs.Order.{SpellsOrder, text}
use Rattle.rr_orders.specs.Texts.{added}
use Rattle.rr_orders.proofs.WrittenLemmas.{best-written, run-written}
use Rattle.rr_roster.specs.declared.company.Corp.{Corp}
use Rattle.rr_roster.specs.Company.{corp_name}
use Rattle.rr_rules.specs.Playing.{state_in}
use Rattle.rr_rules.specs.Judging.{stage}
use Rattle.rr_rules.specs.State.{GameState}
use Rattle.rr_running.specs.Running.{IsBestRunVerdict, IsRunVerdict, earned_on, net_now, run_revenue}
use Rattle.rr_search.specs.declared.fault.Fault as search
use Rattle.rr_search.specs.declared.fault.Fault.TheVariants as R
use Rattle.rr_store.specs.declared.fault.Fault as store
use Rattle.rr_store.specs.declared.fault.Fault.TheVariants as T
use Rattle.rr_tables.specs.declared.records.fault.Fault.TheVariants as J
use Rattle.rr_tables.specs.Records.Fault.{of_table}
use Rattle.rr_store.specs.Held.{Held, LacksTable}
use Rattle.rr_store.specs.World.{TableState, state_after, table_named}
use Rattle.rr_moderator.specs.BestLaws.{BestRunsEarnAlike}
use Rattle.rr_moderator.specs.Answer.{earned_words}
use Rattle.rr_moderator.specs.Best.{IsBestRun, LacksRun, HasNone, LacksMemory, best_run, book_of, room_behind, run_verdict}
use Rattle.rr_moderator.specs.Fault.{of_search}
use Rattle.rr_words.specs.declared.line.TheConstants.{LONGEST_LINE}

-- the words of a sheet, behind a space where there are any

pub added_none : (words : List ℕ) → (length words == 0) ≡ true → added words ≡ []
added_none [] none = refl
added_none (c ∷ rest) none = absurd (grind (arith, nat_tests))

pub added_some : (words : List ℕ) → (length words == 0) ≡ false → added words ≡ codes " " ++ words
added_some [] some = absurd cc
added_some (c ∷ rest) some = refl

length_added : (words : List ℕ) → length words ≤ length (added words)
length_added [] = omega arith
length_added (c ∷ rest) = omega arith

-- how long the line of a best run is

done : Result (Unit {0}) (Unit {0})
done = Ok tt

abbrev run_words : Corp → List ℕ → List ℕ
run_words c sheet = (codes "run" ++ 32 ∷ corp_name c) ++ added sheet

run_text : (c : Corp) (sheet : List ℕ) → run_words c sheet ≡ text (O.Run c sheet)
unfolding done
run_text c sheet = run-written done c [] (codes "run") (codes "run" ++ 32 ∷ corp_name c) (run_words c sheet) (corp_name c) sheet sheet refl refl refl refl refl

best_text : (c : Corp) (sheet certificate : List ℕ) → (text (O.Run c sheet) ++ 32 ∷ codes "best") ++ added certificate ≡ text (O.RunBest c sheet certificate)
unfolding done
best_text c sheet certificate =
    best-written done c [] (text (O.Run c sheet)) (text (O.Run c sheet) ++ 32 ∷ codes "best") ((text (O.Run c sheet) ++ 32 ∷ codes "best") ++ added certificate) certificate sheet certificate
    refl refl refl refl

sheet_within : (c : Corp) (sheet certificate : List ℕ) → length sheet ≤ length (text (O.RunBest c sheet certificate))
sheet_within c sheet certificate =
    let front = codes "run" ++ 32 ∷ corp_name c in
    let run = text (O.Run c sheet) in
    let own = length_added sheet in
    let a = ap (λ (l : List ℕ). length l) (run_text c sheet) in
    let b = length-append front (added sheet) in
    let d = ap (λ (l : List ℕ). length l) (best_text c sheet certificate) in
    let e = length-append (run ++ 32 ∷ codes "best") (added certificate) in
    let f = length-append run (32 ∷ codes "best") in
    omega (arith, own, a, b, d, e, f)

joined : (a b t : List ℕ) → length (a ++ 32 ∷ (b ++ 32 ∷ t)) ≡ length a + length b + 2 + length t
joined a b t =
    let p = length-append a (32 ∷ (b ++ 32 ∷ t)) in
    let q = length-append b (32 ∷ t) in
    omega (arith, p, q)

line_length : (stamp : ℕ) (name : List ℕ) (c : Corp) (sheet certificate : List ℕ)
    → length (line_text (L.Request stamp name (best_run c sheet certificate))) ≡ length (decimal stamp) + length name + 2 + length (text (O.RunBest c sheet certificate))
line_length stamp name c sheet certificate = joined (decimal stamp) name (text (O.RunBest c sheet certificate))

-- so a sheet whose run's words fit into a line is no longer than one
pub words_short : (c : Corp) (words sheet certificate : List ℕ) (most behind : ℕ) → SpellsOrder words (O.RunBest c sheet certificate) → length words ≤ most
    → most + behind ≡ LONGEST_LINE → length sheet ≤ LONGEST_LINE
words_short c words sheet certificate most behind spelled few whole =
    let same = ap (λ (l : List ℕ). length l) spelled.spelled in
    let within = sheet_within c sheet certificate in
    omega (arith, same, within, few, whole)

-- what is found

pub found_run : (own kit : Kit) (t : Option TableState) (table : TableState) (stamp : ℕ) (name : List ℕ) (c : Corp) (run : WordedRun) (most : ℕ) → own ≡ kit → t ≡ Some table
    → run_verdict kit t stamp c ≡ None → SpellsOrder run.words (O.RunBest c run.sheet run.certificate) → length run.words ≤ most
    → most + (length (decimal stamp) + length name + 2) ≡ LONGEST_LINE → IsBestRunVerdict own (book_of kit table) c run.sheet run.certificate None
    → IsBestRun kit t stamp name c run.sheet run.certificate
found_run own kit t table stamp name c run most lent there free spelled few whole best =
    let same = ap (λ (l : List ℕ). length l) spelled.spelled in
    let line = line_length stamp name c run.sheet run.certificate in
    let P : Kit → Type 0 = λ k. IsBestRunVerdict k (book_of kit table) c run.sheet run.certificate None in
    record {
      table = table;
      is_there = there;
      may_run = free;
      of_form = spelled.is_order;
      is_best = subst P lent best;
      fits = omega (arith, same, line, few, whole);
    }

pub search_lacks : (own kit : Kit) (t : Option TableState) (table : TableState) (stamp : ℕ) (name : List ℕ) (c : Corp) (most : ℕ) (fault : search.Fault) → own ≡ kit
    → t ≡ Some table → run_verdict kit t stamp c ≡ None → most ≡ room_behind stamp name
    → (fault ≡ R.OutOfMemory) ⊎ ((fault ≡ R.NoCertificate) × MayLackRun (net_now own.board own.tiles (book_of kit table) c) c most)
    → LacksRun kit t stamp name c (of_search fault)
search_lacks own kit t table stamp name c most fault lent there free room (inl memory) =
    let P : search.Fault → Type 0 = λ f. LacksRun kit t stamp name c (of_search f) in subst P (sym memory) (LacksMemory free)
search_lacks own kit t table stamp name c most fault lent there free room (inr (none, lacks)) =
    let P : search.Fault → Type 0 = λ f. LacksRun kit t stamp name c (of_search f) in
    let Q : ℕ → Type 0 = λ m. MayLackRun (net_now own.board own.tiles (book_of kit table) c) c m in
    let K : Kit → Type 0 = λ k. MayLackRun (net_now k.board k.tiles (book_of kit table) c) c (room_behind stamp name) in
    subst P (sym none) (HasNone table there free (subst K lent (subst Q room lacks)))

-- a table that there isn't, and one that judges a run

pub no_table : (held : Held) (name : List ℕ) (stamp : ℕ) (c : Corp) (fault : store.Fault) → held.broken ≡ false → LacksTable held name fault
    → run_verdict held.kit (table_named held.tables name) stamp c ≡ Some J.NoSuchTable
no_table held name stamp c T.NoSuchTable whole h = ap (λ (o : Option TableState). run_verdict held.kit o stamp c) h.1
no_table held name stamp c T.OpenAgain whole h = let both : true ≡ false = sym h ∙ whole in absurd (cc both)
no_table held name stamp c (T.Kit fault) whole h = absurd h
no_table held name stamp c (T.Game fault) whole h = absurd h
no_table held name stamp c (T.StaleStamp other) whole h = absurd h
no_table held name stamp c T.TurnNotKept whole h = absurd h
no_table held name stamp c T.TooManyCommands whole h = absurd h
no_table held name stamp c T.DeviceFailed whole h = absurd h
no_table held name stamp c T.FileFull whole h = absurd h
no_table held name stamp c (T.Damaged damage) whole h = absurd h
no_table held name stamp c T.NotAStore whole h = absurd h
no_table held name stamp c T.NotEmpty whole h = absurd h
no_table held name stamp c T.TooManyTables whole h = absurd h
no_table held name stamp c T.OutOfMemory whole h = absurd h

pub at_table : (own kit : Kit) (t : Option TableState) (table : TableState) (stamp : ℕ) (c : Corp) (verdict : Option hist.Fault) → own ≡ kit → t ≡ Some table
    → tables.run_verdict own table stamp c ≡ verdict → run_verdict kit t stamp c ≡ option_map of_table verdict
at_table own kit t table stamp c verdict lent there h =
    ap (λ (o : Option TableState). run_verdict kit o stamp c) there
    ∙ ap (λ (k : Kit). option_map of_table (tables.run_verdict k table stamp c)) (sym lent)
    ∙ ap (λ (v : Option hist.Fault). option_map of_table v) h

-- best runs earn alike

abbrev AcceptedAlone : Type 0
AcceptedAlone = (kit : Kit) (book : Book) (c : Corp) (words certificate : List ℕ) → IsBestRunVerdict kit book c words certificate None → IsRunVerdict kit book c words None

abbrev EarnsMost : Type 0
EarnsMost =
    (kit : Kit) (book : Book) (c : Corp) (words certificate others : List ℕ) → IsBestRunVerdict kit book c words certificate None → IsRunVerdict kit book c others None
    → earned_on (net_now kit.board kit.tiles book c) others ≤ earned_on (net_now kit.board kit.tiles book c) words

same_revenue : AcceptedAlone → EarnsMost → (kit : Kit) (book : Book) (c : Corp) (sheet certificate other shown : List ℕ)
    → IsBestRunVerdict kit book c sheet certificate None → IsBestRunVerdict kit book c other shown None → run_revenue kit book c sheet ≡ run_revenue kit book c other
same_revenue alone most kit book c sheet certificate other shown a b =
    let net = net_now kit.board kit.tiles book c in
    let up = most kit book c other shown sheet b (alone kit book c sheet certificate a) in
    let down = most kit book c sheet certificate other a (alone kit book c other shown b) in
    let same : earned_on net sheet ≡ earned_on net other = omega (arith, up, down) in
    ap dollars same

by_stage : (s : Stage) (kit : Kit) (state : GameState) (c : Corp) (sheet certificate other shown : List ℕ)
    → run_revenue kit state.book c sheet ≡ run_revenue kit state.book c other
    → (state_in s kit state (A.RunBest c sheet certificate)).revenue ≡ (state_in s kit state (A.RunBest c other shown)).revenue
by_stage G.Auction kit state c sheet certificate other shown same = refl
by_stage G.Stock kit state c sheet certificate other shown same = refl
by_stage G.Operating kit state c sheet certificate other shown same = same

abbrev run_command : Corp → List ℕ → List ℕ → Command
run_command c sheet certificate = Order (O.RunBest c sheet certificate)

played : (kit : Kit) (commands : List Command) (c : Corp) (sheet certificate other shown : List ℕ)
    → run_revenue kit (play kit commands).book c sheet ≡ run_revenue kit (play kit commands).book c other
    → (play kit (commands ++ run_command c sheet certificate ∷ [])).revenue ≡ (play kit (commands ++ run_command c other shown ∷ [])).revenue
played kit [] c sheet certificate other shown same = refl
played kit (Open players ∷ commands) c sheet certificate other shown same =
    let begun = opened_state players kit.roster in
    let state = play kit (Open players ∷ commands) in
    let one = fold-append (played_on kit players) begun commands (run_command c sheet certificate ∷ []) in
    let two = fold-append (played_on kit players) begun commands (run_command c other shown ∷ []) in
    ap (λ (s : GameState). s.revenue) one
    ∙ by_stage (stage state.book) kit state c sheet certificate other shown same
    ∙ sym (ap (λ (s : GameState). s.revenue) two)
played kit (command ∷ commands) c sheet certificate other shown same = refl

alike_at : (kit : Kit) (table : TableState) (c : Corp) (sheet certificate other shown : List ℕ) → run_revenue kit (book_of kit table) c sheet ≡ run_revenue kit (book_of kit table) c other
    → earned_words kit (state_after kit (Some table) (best_run c sheet certificate)) (best_run c sheet certificate)
    ≡ earned_words kit (state_after kit (Some table) (best_run c other shown)) (best_run c other shown)
alike_at kit table c sheet certificate other shown same =
    ap (λ (m : Money). signed_decimal m.0 ∷ []) (played kit table.commands c sheet certificate other shown same)

some_same : {X : Type 0} (x y : X) → Some x ≡ Some y → x ≡ y
some_same x y e = cc

pub earn_alike : AcceptedAlone → EarnsMost → BestRunsEarnAlike
earn_alike alone most kit t stamp name c sheet certificate other shown a b =
    let tables_same : b.table ≡ a.table = some_same b.table a.table (sym b.is_there ∙ a.is_there) in
    let Best : TableState → Type 0 = λ table. IsBestRunVerdict kit (book_of kit table) c other shown None in
    let same = same_revenue alone most kit (book_of kit a.table) c sheet certificate other shown a.is_best (subst Best tables_same b.is_best) in
    let Alike : Option TableState → Type 0 = λ o. earned_words kit (state_after kit o (best_run c sheet certificate)) (best_run c sheet certificate)
    ≡ earned_words kit (state_after kit o (best_run c other shown)) (best_run c other shown) in
    subst Alike (sym a.is_there) (alike_at kit a.table c sheet certificate other shown same)
