-- Which replies say that the device failed, or that the file is full.
use Rattle.std.proofs.Common.{◌≡◌, ℕ, ◌==◌, Bool, true, false, not, ◌&&◌, List, [], ◌∷◌, ◌++◌, codes, Option, None, Some, Result, Ok, Err, inl, inr, if◌then◌else◌, option_map, nat_le, refl, sym, ap, subst, arith, ◌∙◌}
use Rattle.std.proofs.lemmas.Bool.Decides.{nat_tests}
use Rattle.std.specs.Fmt.{digits}
use Rattle.rr_kit.specs.declared.kit.Kit.{Kit}
use Rattle.rr_kit.specs.declared.fault.Fault as kit
use Rattle.rr_kit.specs.declared.fault.Fault.TheVariants as I
use Rattle.rr_books.specs.declared.refusal.Refusal.{Refusal}
use Rattle.rr_books.specs.declared.refusal.Refusal.TheVariants as U
use Rattle.rr_game.specs.declared.history.fault.Fault as hist
use Rattle.rr_game.specs.declared.history.fault.Fault.TheVariants as H
use Rattle.rr_game.specs.History.Verdict.{request_judgement}
use Rattle.rr_turns.specs.Judgement.{IsVerdict, Judgement, judgement_map, settled}
use Rattle.rr_turns.proofs.JudgementLemmas.{first-is-told, is-map, is-settled}
use Rattle.rr_code.specs.declared.command.Command.{Command}
use Rattle.rr_code.specs.declared.command.Command.TheVariants.{Open, Order}
use Rattle.rr_orders.specs.declared.order.Order.TheVariants.{Run}
use Rattle.rr_roster.specs.declared.company.Corp.{Corp}
use Rattle.rr_turns.specs.declared.request.Request.{Request}
use Rattle.rr_turns.specs.declared.request.Request.TheVariants.{Play}
use Rattle.rr_code.specs.declared.query.Query.{Query}
use Rattle.rr_code.specs.declared.query.Query.TheVariants as Q
use Rattle.rr_tables.specs.declared.records.fault.Fault as judge
use Rattle.rr_tables.specs.declared.records.fault.Fault.TheVariants as J
use Rattle.rr_tables.specs.Records.Fault.{of_table}
use Rattle.rr_tables.specs.Records.World.{TableState, World, opening_verdict, step_judgement, table_named, world_judgement}
use Rattle.rr_search.specs.declared.fault.Fault as search
use Rattle.rr_search.specs.declared.fault.Fault.TheVariants as R
use Rattle.rr_store.specs.declared.fault.Fault as store
use Rattle.rr_store.specs.declared.fault.Fault.TheVariants as T
use Rattle.rr_store.specs.Fault.{CountsFailure}
use Rattle.rr_store.specs.Held.{Held, LacksTable}
use Rattle.rr_serve.specs.Serving.{tells_failure}
use Rattle.rr_moderator.specs.declared.fault.Fault.{Fault}
use Rattle.rr_moderator.specs.declared.fault.Fault.TheVariants as F
use Rattle.rr_moderator.specs.Answer.{accepted_with, answer_of}
use Rattle.rr_moderator.specs.Best.{LacksRun, MayNotRun, HasNone, LacksMemory}
use Rattle.rr_moderator.specs.Durability.{CountsTold, MayAnswer, SaysNeither, reaches_file, tells_acceptance, tells_answer, tells_full}
use Rattle.rr_moderator.specs.Fault.{of_game, of_history, of_rules, of_search, of_store, refusal_of}
use Rattle.rr_moderator.specs.Serving.{reply_to}
use Rattle.rr_moderator.proofs.ServingLemmas.{reply_refused}
use Rattle.rr_moderator.specs.Queries.{Answer, MayRefuse, MeetsQuery, answer_of_named, answer_of_table, asked_answer, book_answer, cash_answer, due_answer, holds_answer, iou_answer, limit_answer, order_answer, phase_answer, price_answer, privates_answer, query_answer, query_text, reply_of, stamp_answer, trains_answer, turns_answer, allocates, worth_answer}

counts_kit : (old new : ℕ) (fault : kit.Fault) → new ≡ old → CountsTold old new (tells_failure (refusal_of (F.Kit fault)))
unfolding digits
counts_kit old new I.BadRoster h = h
counts_kit old new _ h = h

counts_game : (old new : ℕ) (fault : Refusal) → new ≡ old → CountsTold old new (tells_failure (refusal_of (F.Game fault)))
unfolding digits
counts_game old new U.NoSuchName h = h
counts_game old new _ h = h

-- a count that follows a fault follows the reply that refuses by it
pub counts_told : (old new : ℕ) (fault : store.Fault) → CountsFailure old new fault → CountsTold old new (tells_failure (refusal_of (of_store fault)))
unfolding digits
counts_told old new T.DeviceFailed h = h
counts_told old new (T.Kit fault) h = counts_kit old new fault h
counts_told old new (T.Game fault) h = counts_game old new fault h
counts_told old new _ h = h

-- an acceptance says the last, and neither of the others
pub accepted_told : (name : List ℕ) (stamp : ℕ) (earned : List (List ℕ)) (sheet : List ℕ) → tells_acceptance (accepted_with name stamp earned sheet) ≡ true
accepted_told name stamp earned sheet = refl

pub accepted_calm : (name : List ℕ) (stamp : ℕ) (earned : List (List ℕ)) (sheet : List ℕ)
    → (tells_failure (accepted_with name stamp earned sheet) ≡ false) × (tells_full (accepted_with name stamp earned sheet) ≡ false)
accepted_calm name stamp earned sheet = (refl, refl)

-- no refusal says that a request was taken
pub refusal_calm : (fault : Fault) → tells_acceptance (refusal_of fault) ≡ false
refusal_calm fault = refl

-- nor do the refusals of lines of no form, and of lines to a device that failed before
pub too_long_calm : SaysNeither (refusal_of F.LineTooLong)
unfolding digits
too_long_calm = (refl, refl, refl)

pub malformed_calm : SaysNeither (refusal_of F.MalformedLine)
unfolding digits
malformed_calm = (refl, refl, refl)

pub open_again_calm : SaysNeither (refusal_of F.OpenAgain)
unfolding digits
open_again_calm = (refl, refl, refl)

pub full_calm : tells_failure (refusal_of F.FileFull) ≡ false
unfolding digits
full_calm = refl

pub failure_told : tells_failure (refusal_of F.DeviceFailed) ≡ true
unfolding digits
failure_told = refl

pub failure_calm : tells_full (refusal_of F.DeviceFailed) ≡ false
unfolding digits
failure_calm = refl

-- what a request that reached the file may be told
pub accepted_reaches : (name : List ℕ) (stamp : ℕ) (earned : List (List ℕ)) (sheet : List ℕ) → reaches_file (accepted_with name stamp earned sheet) ≡ true
accepted_reaches name stamp earned sheet = refl

pub failure_reaches : reaches_file (refusal_of F.DeviceFailed) ≡ true
unfolding digits
failure_reaches = refl

pub full_reaches : reaches_file (refusal_of F.FileFull) ≡ true
unfolding digits
full_reaches = refl

pub memory_reaches : reaches_file (refusal_of F.OutOfMemory) ≡ true
unfolding digits
memory_reaches = refl

pub memory_calm : SaysNeither (refusal_of F.OutOfMemory)
unfolding digits
memory_calm = (refl, refl, refl)

-- no rule says it

abbrev IsCalm : Option judge.Fault → Type 0
IsCalm None = Unit {0}
IsCalm (Some fault) = SaysNeither (refusal_of (of_rules fault))

calm_if : (b : Bool) (o p : Option judge.Fault) → IsCalm o → IsCalm p → IsCalm (if b then o else p)
calm_if true o p h k = h
calm_if false o p h k = k

game_calm : (fault : Refusal) → SaysNeither (refusal_of (F.Game fault))
unfolding digits
game_calm U.NoSuchName = (refl, refl, refl)
game_calm _ = (refl, refl, refl)

kit_calm : (fault : kit.Fault) → SaysNeither (refusal_of (F.Kit fault))
unfolding digits
kit_calm I.BadRoster = (refl, refl, refl)
kit_calm _ = (refl, refl, refl)

-- nor does any other refusal of a store
pub store_calm : (fault : store.Fault) → (fault ≡ T.DeviceFailed → ⊥) → (fault ≡ T.FileFull → ⊥) → SaysNeither (refusal_of (of_store fault))
unfolding digits
store_calm T.DeviceFailed device full = absurd (device refl)
store_calm T.FileFull device full = absurd (full refl)
store_calm (T.Kit fault) device full = kit_calm fault
store_calm (T.Game fault) device full = game_calm fault
store_calm _ device full = (refl, refl, refl)

-- and of a game
pub of_game_calm : (fault : Refusal) → SaysNeither (refusal_of (of_game fault))
unfolding digits
of_game_calm U.OutOfMemory = (refl, refl, refl)
of_game_calm U.NoSuchName = (refl, refl, refl)
of_game_calm _ = (refl, refl, refl)

table_calm : (o : Option hist.Fault) → IsCalm (option_map of_table o)
unfolding digits
table_calm None = tt
table_calm (Some (H.Game fault)) = game_calm fault
table_calm (Some (H.StaleStamp stamp)) = (refl, refl, refl)
table_calm (Some H.TurnNotKept) = (refl, refl, refl)
table_calm (Some H.TooManyCommands) = (refl, refl, refl)
table_calm (Some H.OutOfMemory) = (refl, refl, refl)

settled_calm : (o verdict : Option judge.Fault) → IsCalm o → IsVerdict (settled o) verdict → IsCalm verdict
settled_calm o verdict h is = let P : Option judge.Fault → Type 0 = IsCalm in subst P (sym (is-settled o verdict is)) h

mapped_calm : (j : Judgement hist.Fault) (verdict : Option judge.Fault) → IsVerdict (judgement_map of_table j) verdict → IsCalm verdict
mapped_calm j verdict is =
    let found = is-map of_table j verdict is in
    let P : Option judge.Fault → Type 0 = IsCalm in subst P (sym found.2) (table_calm found.0)

lacking_calm : SaysNeither (refusal_of (of_rules J.NoSuchTable))
unfolding digits
lacking_calm = (refl, refl, refl)

step_calm : (kit : Kit) (t : Option TableState) (stamp : ℕ) (c : Request Command) (verdict : Option judge.Fault) → IsVerdict (step_judgement kit t stamp c) verdict → IsCalm verdict
step_calm kit None stamp c verdict is = settled_calm (Some J.NoSuchTable) verdict lacking_calm is
step_calm kit (Some t) stamp c verdict is = mapped_calm (request_judgement kit t stamp c) verdict is

-- nor does what a search is refused for
no_certificate_calm : SaysNeither (refusal_of F.NoCertificate)
unfolding digits
no_certificate_calm = (refl, refl, refl)

-- nor does a fault of the rules, whatever was played
pub rules_calm : (fault : judge.Fault) → SaysNeither (refusal_of (of_rules fault))
unfolding digits
rules_calm (J.Game fault) = game_calm fault
rules_calm _ = (refl, refl, refl)

pub search_calm : (fault : search.Fault) → SaysNeither (refusal_of (of_search fault))
search_calm R.NoCertificate = no_certificate_calm
search_calm R.OutOfMemory = memory_calm

pub lacks_calm : {kit : Kit} {t : Option TableState} {stamp : ℕ} {name : List ℕ} {c : Corp} {fault : Fault} → LacksRun kit t stamp name c fault → SaysNeither (refusal_of fault)
lacks_calm {kit} {t} {stamp} {name} {c} (MayNotRun fault h) =
    step_calm kit t stamp (Play (Order (Run c []))) (Some fault) (first-is-told (step_judgement kit t stamp (Play (Order (Run c [])))) fault h)
lacks_calm (HasNone table is_there may_run lacks) = no_certificate_calm
lacks_calm (LacksMemory may_run) = memory_calm

opening_calm : (t : Option TableState) (n stamp : ℕ) → IsCalm (opening_verdict t n stamp)
unfolding digits
opening_calm (Some t) n stamp = (refl, refl, refl)
opening_calm None n stamp = calm_if (not (stamp == 0)) _ _ (refl, refl, refl) (calm_if (nat_le 64 n) _ _ (refl, refl, refl) tt)

world_calm : (kit : Kit) (t : Option TableState) (n stamp : ℕ) (c : Request Command) (verdict : Option judge.Fault) → IsVerdict (world_judgement kit t n stamp c) verdict → IsCalm verdict
world_calm kit t n stamp (Play (Open players)) verdict is = settled_calm (opening_verdict t n stamp) verdict (opening_calm t n stamp) is
world_calm kit t n stamp c verdict is = step_calm kit t stamp c verdict is

-- no fault of a verdict says one of them
pub verdict_calm : (kit : Kit) (t : Option TableState) (n stamp : ℕ) (c : Request Command) (fault : judge.Fault) → IsVerdict (world_judgement kit t n stamp c) (Some fault)
    → SaysNeither (refusal_of (of_rules fault))
verdict_calm kit t n stamp c fault is = world_calm kit t n stamp c (Some fault) is

-- nor does a reply to a query

words_calm : (words : List (List ℕ)) → SaysNeither (answer_of words ++ codes "\n")
words_calm [] = (refl, refl, refl)
words_calm (word ∷ words) = (refl, refl, refl)

named_calm : (o : Option (List (List ℕ))) → SaysNeither (reply_of (answer_of_named o))
unfolding digits
named_calm None = (refl, refl, refl)
named_calm (Some words) = words_calm words

table_answer_calm : (ask : TableState → Answer) (t : Option TableState) → ((t : TableState) → SaysNeither (reply_of (ask t)))
    → SaysNeither (reply_of (answer_of_table ask t))
unfolding digits
table_answer_calm ask None calm = (refl, refl, refl)
table_answer_calm ask (Some t) calm = calm t

-- the reply to `book`, by whether the turn's entries can be read
book_calm : (b : Bool) (words : List (List ℕ)) → SaysNeither (reply_of (if b then Ok words else Err F.TurnNotKept))
unfolding digits
book_calm true words = words_calm words
book_calm false words = (refl, refl, refl)

pub query_calm : (kit : Kit) (tables : World) (query : Query) → SaysNeither (query_text kit tables query)
query_calm kit tables Q.Tables = words_calm _
query_calm kit tables (Q.Stamp table) = table_answer_calm stamp_answer (table_named tables table) (λ t. (refl, refl, refl))
query_calm kit tables (Q.Turns table) = table_answer_calm (turns_answer kit) (table_named tables table) (λ t. (refl, refl, refl))
query_calm kit tables (Q.Due table) = table_answer_calm (due_answer kit) (table_named tables table) (λ t. words_calm _)
query_calm kit tables (Q.Cash table of) = table_answer_calm (cash_answer kit of) (table_named tables table) (λ t. named_calm _)
query_calm kit tables (Q.Limit table) = table_answer_calm (limit_answer kit) (table_named tables table) (λ t. (refl, refl, refl))
query_calm kit tables (Q.Asked table) = table_answer_calm (asked_answer kit) (table_named tables table) (λ t. words_calm _)
query_calm kit tables (Q.Holds table player corp) = table_answer_calm (holds_answer kit player corp) (table_named tables table) (λ t. named_calm _)
query_calm kit tables (Q.Price table corp) = table_answer_calm (price_answer kit corp) (table_named tables table) (λ t. words_calm _)
query_calm kit tables (Q.Order table) = table_answer_calm (order_answer kit) (table_named tables table) (λ t. words_calm _)
query_calm kit tables (Q.Privates table of) = table_answer_calm (privates_answer kit of) (table_named tables table) (λ t. named_calm _)
query_calm kit tables (Q.Phase table) = table_answer_calm (phase_answer kit) (table_named tables table) (λ t. (refl, refl, refl))
query_calm kit tables (Q.Trains table of) = table_answer_calm (trains_answer kit of) (table_named tables table) (λ t. words_calm _)
query_calm kit tables (Q.Iou table) = table_answer_calm (iou_answer kit) (table_named tables table) (λ t. (refl, refl, refl))
query_calm kit tables (Q.Worth table player) = table_answer_calm (worth_answer kit player) (table_named tables table) (λ t. named_calm _)
query_calm kit tables (Q.Book table turn) = table_answer_calm (book_answer kit turn) (table_named tables table) (λ t. book_calm _ _)

-- and so is each reply to a query
pub meets_calm : (kit : Kit) (tables : World) (query : Query) (outcome : Result (List ℕ) Fault) → MeetsQuery kit tables query outcome → SaysNeither (reply_to outcome)
meets_calm kit tables query (Ok text) meets = subst SaysNeither (sym meets.1) (query_calm kit tables query)
meets_calm kit tables query (Err fault) meets = by_memory (allocates query) meets
  where
    by_memory : (b : Bool) → MayRefuse b (query_answer kit tables query) fault → SaysNeither (refusal_of fault)
    by_memory true (inl is) = subst SaysNeither (sym (reply_refused (query_answer kit tables query) fault is)) (query_calm kit tables query)
    by_memory true (inr wants) = subst (λ (f : Fault). SaysNeither (refusal_of f)) (sym wants.1) memory_calm
    by_memory false is = subst SaysNeither (sym (reply_refused (query_answer kit tables query) fault is)) (query_calm kit tables query)

-- an answer to a query says nothing of them

first_is : (n m : ℕ) → (n == m) ≡ true → n ≡ m
first_is n m h = grind (arith, nat_tests)

and_first : (a b : Bool) → (a && b) ≡ true → a ≡ true
and_first true b h = refl
and_first false b h = absurd cc

-- its first byte is the sign
first_sign : (c : ℕ) (rest : List ℕ) → tells_answer (c ∷ rest) ≡ true → 61 ≡ c
first_sign c rest h = first_is 61 c (and_first (61 == c) _ h)

pub answer_calm : (text : List ℕ) → tells_answer text ≡ true → SaysNeither text
answer_calm [] h = absurd cc
answer_calm (c ∷ rest) h = subst (λ (n : ℕ). SaysNeither (n ∷ rest)) (first_sign c rest h) (refl, refl, refl)

pub may_answer_calm : (outcome : Result (List ℕ) Fault) → MayAnswer outcome → SaysNeither (reply_to outcome)
may_answer_calm (Ok text) h = answer_calm text h
may_answer_calm (Err fault) h = h

-- an answer is told as one, and so it is with more behind it

pub answer_told : (words : List (List ℕ)) → tells_answer (answer_of words) ≡ true
answer_told [] = refl
answer_told (word ∷ words) = refl

pub told_more : (text more : List ℕ) → tells_answer text ≡ true → tells_answer (text ++ more) ≡ true
told_more [] more h = absurd cc
told_more (c ∷ rest) more h = subst (λ (n : ℕ). tells_answer (n ∷ (rest ++ more)) ≡ true) (first_sign c rest h) refl

pub told_again : (old new more : List ℕ) → tells_answer old ≡ true → new ≡ old ++ more → tells_answer new ≡ true
told_again old new more told is = subst (λ (text : List ℕ). tells_answer text ≡ true) (sym is) (told_more old more told)

-- so it is of what begins with the sign, where nothing stood
pub told_behind : (before begun new front more : List ℕ) → before ≡ [] → begun ≡ before ++ front → tells_answer front ≡ true → new ≡ begun ++ more → tells_answer new ≡ true
told_behind before begun new front more empty begins told is =
    subst (λ (text : List ℕ). tells_answer text ≡ true) (sym (is ∙ ap (λ (l : List ℕ). l ++ more) (begins ∙ ap (λ (l : List ℕ). l ++ front) empty))) (told_more front more told)

pub told_words : (text : List ℕ) (words : List (List ℕ)) → text ≡ answer_of words → tells_answer text ≡ true
told_words text words is = subst (λ (t : List ℕ). tells_answer t ≡ true) (sym is) (answer_told words)

pub told_sign : (text rest : List ℕ) → text ≡ codes "=" ++ rest → tells_answer text ≡ true
told_sign text rest is = subst (λ (t : List ℕ). tells_answer t ≡ true) (sym is) refl

-- that a store lacks a table says nothing of them, nor do the refusals of a turn's entries
pub lacks_table_calm : (held : Held) (name : List ℕ) (fault : store.Fault) → LacksTable held name fault → SaysNeither (refusal_of (of_store fault))
lacks_table_calm held name T.DeviceFailed lacks = absurd lacks
lacks_table_calm held name T.FileFull lacks = absurd lacks
lacks_table_calm held name fault lacks = store_calm fault (λ e. absurd (cc e)) (λ e. absurd (cc e))

pub history_calm : (fault : hist.Fault) → SaysNeither (refusal_of (of_history fault))
unfolding digits
history_calm H.TurnNotKept = (refl, refl, refl)
history_calm _ = (refl, refl, refl)
