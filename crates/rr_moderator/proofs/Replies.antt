-- What the tables in memory say, as the answers that the accepted commands make.
use Rattle.std.proofs.Common.{◌≡◌, ℕ, ◌+◌, ◌≤◌, List, [], ◌∷◌, ◌++◌, Option, None, Some, true, false, Result, Ok, Err, length, take, get_or, slice_get, codes, sym, ap, subst, ◌∙◌, inl, inr, arith}
use Rattle.std.proofs.lemmas.Bool.{cases_lt}
use Rattle.std.proofs.lemmas.List.{flat_map_more, take_all, take_more}
use Rattle.std.proofs.lemmas.Option.{get_or_from_slice_get, none-some, slice_get-get_or, slice_get_within}
use Rattle.rr_moderator.specs.declared.fault.Fault.{Fault}
use Rattle.rr_moderator.specs.Answer.{answer_of}
use Rattle.rr_entries.specs.Words.{spaced}
use Rattle.rr_moderator.specs.Queries.{Answer, Writes, answer_of_table, fault_of, reply_of}
use Rattle.rr_store.specs.declared.fault.Fault as store
use Rattle.rr_store.specs.declared.fault.Fault.TheVariants as T
use Rattle.rr_store.specs.Held.{Held, LacksTable}
use Rattle.rr_store.specs.World.{TableState, World, table_named}
use Rattle.rr_moderator.specs.Fault.{of_store}

past_end : (names : List (List ℕ)) (i : ℕ) → slice_get names i ≡ None → length names ≤ i
past_end names i past = elim (cases_lt i (length names)) [ inl short ↦ absurd (none-some (get_or names i []) (sym past ∙ slice_get-get_or names i [] short)) | inr long ↦ long ]

-- a list of words with one word more, behind what was written
pub names_more : (names : List (List ℕ)) (i : ℕ) (name before old new : List ℕ) → slice_get names i ≡ Some name →
    old ≡ before ++ spaced (take i names) → new ≡ old ++ (codes " " ++ name) → new ≡ before ++ spaced (take (i + 1) names)
names_more names i name before old new at so_far step =
    step
    ∙ ap (λ l. l ++ (codes " " ++ name)) so_far
    ∙ flat_map_more (λ word. codes " " ++ word) before (take i names) name
    ∙ ap (λ l. before ++ spaced l) (sym (take_more names i [] (slice_get_within names i name at)
    ∙ ap (λ x. take i names ++ x ∷ []) (get_or_from_slice_get names i name [] at)))

-- and where there is no word more
pub names_end : (names : List (List ℕ)) (i : ℕ) (before text : List ℕ) → slice_get names i ≡ None →
    text ≡ before ++ spaced (take i names) → text ≡ before ++ spaced (take (i + 1) names)
names_end names i before text past so_far =
    let long : length names ≤ i = past_end names i past in
    so_far ∙ ap (λ l. before ++ spaced l) (take_all i names long ∙ sym (take_all (i + 1) names (omega arith)))

-- the words of an answer are written, or its fault is given
pub written : (answer : Answer) (words : List (List ℕ)) (text : List ℕ) → answer ≡ Ok words → text ≡ answer_of words →
    (fault_of answer ≡ None) × (reply_of answer ≡ text ++ codes "\n")
written answer words text e same = (ap fault_of e, ap reply_of e ∙ ap (λ l. l ++ codes "\n") (sym same))

pub refused : (answer : Answer) (expected fault : Fault) → answer ≡ Err expected → fault ≡ expected → fault_of answer ≡ Some fault
refused answer expected fault e same = ap fault_of e ∙ ap Some (sym same)

-- the answer of the table that a store has at a name
pub writes_at : {A : Type 0} (tables : World) (name : List ℕ) (answer : TableState → Answer) (t : TableState) (result : Result A Fault) (text : List ℕ) →
    table_named tables name ≡ Some t → Writes (answer t) result text →
    Writes (answer_of_table answer (table_named tables name)) result text
writes_at {A} tables name answer t result text e writes =
    let P : Answer → Type 0 = λ a. Writes a result text in
    subst P (sym (ap (answer_of_table answer) e)) writes

-- a store whose device works lacks a table only where no table has the name
pub refuses_at : (held : Held) (name : List ℕ) (answer : TableState → Answer) (fault : store.Fault) → held.broken ≡ false →
    LacksTable held name fault →
    fault_of (answer_of_table answer (table_named held.tables name)) ≡ Some (of_store fault)
refuses_at held name answer T.NoSuchTable whole h = ap (λ (o : Option TableState). fault_of (answer_of_table answer o)) h.1
refuses_at held name answer T.OpenAgain whole h = let both : true ≡ false = sym h ∙ whole in absurd (cc both)
refuses_at held name answer (T.Kit fault) whole h = absurd h
refuses_at held name answer (T.Game fault) whole h = absurd h
refuses_at held name answer (T.StaleStamp stamp) whole h = absurd h
refuses_at held name answer T.TurnNotKept whole h = absurd h
refuses_at held name answer T.TooManyCommands whole h = absurd h
refuses_at held name answer T.DeviceFailed whole h = absurd h
refuses_at held name answer T.FileFull whole h = absurd h
refuses_at held name answer (T.Damaged damage) whole h = absurd h
refuses_at held name answer T.NotAStore whole h = absurd h
refuses_at held name answer T.NotEmpty whole h = absurd h
refuses_at held name answer T.TooManyTables whole h = absurd h
refuses_at held name answer T.OutOfMemory whole h = absurd h
