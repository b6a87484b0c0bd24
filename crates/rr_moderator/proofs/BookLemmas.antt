-- The answer that has the entries of a turn.
use Rattle.std.proofs.Common.{◌≡◌, ℕ, Bool, true, false, List, ◌++◌, codes, Option, None, Some, Ok, Err, if◌then◌else◌, inl, inr, refl, sym, ap, subst, ◌∙◌}
use Rattle.rr_books.specs.Book.{Book}
use Rattle.rr_kit.specs.declared.kit.Kit.{Kit}
use Rattle.rr_turns.specs.Judgement.{MayFind, settled}
use Rattle.rr_entries.specs.Words.{book_words}
use Rattle.rr_game.specs.declared.history.fault.Fault as hist
use Rattle.rr_game.specs.declared.history.fault.Fault.TheVariants as H
use Rattle.rr_game.specs.Play.{players_of}
use Rattle.rr_game.specs.History.TurnEntries.{book_verdict, is_readable_turn, turn_entries}
use Rattle.rr_store.specs.World.{TableState, World, table_named}
use Rattle.rr_moderator.specs.declared.fault.Fault.{Fault}
use Rattle.rr_moderator.specs.declared.fault.Fault.TheVariants as F
use Rattle.rr_moderator.specs.Answer.{answer_of}
use Rattle.rr_moderator.specs.Fault.{of_history}
use Rattle.rr_moderator.specs.Queries.{Answer, MayRefuseBy, answer_of_table, book_answer, fault_of, reply_of}

by_readable : (b : Bool) (words : List (List ℕ)) (fault : hist.Fault) → MayFind (settled (if b then None else Some H.TurnNotKept)) H.OutOfMemory fault
    → MayRefuseBy (if b then Ok words else Err F.TurnNotKept) (of_history fault)
by_readable true words fault (inl is) = absurd cc
by_readable true words fault (inr wants) = inr (refl, ap of_history wants.1)
by_readable false words fault (inl is) =
    let same : fault ≡ H.TurnNotKept = cc in inl (ap (λ (f : hist.Fault). Some (of_history f)) (sym same))
by_readable false words fault (inr wants) = absurd cc

-- why the entries of a turn can't be read
pub not_readable : (kit : Kit) (turn : ℕ) (t : TableState) (fault : hist.Fault) → MayFind (settled (book_verdict kit t turn)) H.OutOfMemory fault
    → MayRefuseBy (book_answer kit turn t) (of_history fault)
not_readable kit turn t fault h = by_readable (is_readable_turn kit t turn) (book_words (players_of t.commands) (turn_entries kit t.commands turn)) fault h

answer_if : (b : Bool) (words : List (List ℕ)) → ◌≡◌ {A = Option hist.Fault} (if b then None else Some H.TurnNotKept) None
    → ◌≡◌ {A = Answer} (if b then Ok words else Err F.TurnNotKept) (Ok words)
answer_if true words is = refl
answer_if false words is = absurd cc

-- the words of the entries
pub book_answered : (kit : Kit) (turn : ℕ) (t : TableState) (players : List (List ℕ)) (entries : Book) → book_verdict kit t turn ≡ None → players ≡ players_of t.commands
    → entries ≡ turn_entries kit t.commands turn → book_answer kit turn t ≡ Ok (book_words players entries)
book_answered kit turn t players entries free seated is =
    answer_if (is_readable_turn kit t turn) (book_words (players_of t.commands) (turn_entries kit t.commands turn)) free
    ∙ ap (λ (es : Book). Ok (book_words (players_of t.commands) es)) (sym is)
    ∙ ap (λ (ps : List (List ℕ)). Ok (book_words ps entries)) (sym seated)

-- the answer of the table with a name
pub refused_at : (tables : World) (name : List ℕ) (answer : TableState → Answer) (t : TableState) (fault : Fault) → table_named tables name ≡ Some t
    → MayRefuseBy (answer t) fault → MayRefuseBy (answer_of_table answer (table_named tables name)) fault
refused_at tables name answer t fault e refused =
    let P : Answer → Type 0 = λ a. MayRefuseBy a fault in
    subst P (sym (ap (answer_of_table answer) e)) refused

pub out_of_memory_at : (tables : World) (name : List ℕ) (answer : TableState → Answer) (t : TableState) (words : List (List ℕ)) (fault : Fault) → table_named tables name ≡ Some t
    → answer t ≡ Ok words → fault ≡ F.OutOfMemory → MayRefuseBy (answer_of_table answer (table_named tables name)) fault
out_of_memory_at tables name answer t words fault e is wants =
    refused_at tables name answer t fault e (inr (ap fault_of is, wants))

pub written_at : (tables : World) (name : List ℕ) (answer : TableState → Answer) (t : TableState) (words : List (List ℕ)) (text : List ℕ) → table_named tables name ≡ Some t
    → answer t ≡ Ok words → text ≡ answer_of words ++ codes "\n"
    → (fault_of (answer_of_table answer (table_named tables name)) ≡ None) × (text ≡ reply_of (answer_of_table answer (table_named tables name)))
written_at tables name answer t words text e is text_is =
    let here : answer_of_table answer (table_named tables name) ≡ Ok words = ap (answer_of_table answer) e ∙ is in
    (ap fault_of here, text_is ∙ sym (ap reply_of here))
