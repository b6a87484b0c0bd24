-- Each text is read as what it spells.
use Rattle.std.proofs.Common.{◌≡◌, ℕ, List, [], ◌∷◌, Option, Some, None, IfSome, Result, Ok, Err, MatchResult, ok_or, unwrap_or, refl, sym, ap, ◌∙◌, arith}
use Rattle.std.specs.Fmt.{decimal}
use Rattle.rr_words.specs.Line.{words_of}
use Rattle.rr_words.specs.Name.{IsTableName}
use Rattle.rr_turns.specs.declared.request.Request.{Request}
use Rattle.rr_code.specs.Command.{IsCommand, IsReadAs, SpellsCommand, spelling, text}
use Rattle.rr_code.specs.Request.{IsRequest, SpellsRecord, request_text, request_words}
use Rattle.rr_code.specs.Reading.{read_words, read_request_words, read_record_words}
use Rattle.rr_code.specs.Line.{IsLine, SpellsLine, line_words, line_text, read_line_words}
use Rattle.rr_code.specs.declared.fault.Fault.{Fault}
use Rattle.rr_code.specs.declared.fault.Fault.TheVariants.{Malformed}
use Rattle.rr_code.specs.declared.command.Command.{Command}
use Rattle.rr_code.specs.declared.line.Line.{Line}
use Rattle.rr_code.specs.declared.line.Line.TheVariants as L
use Rattle.rr_orders.proofs.ScanLemmas.WordsLemmas.{words_of-line, line_of-words}
use Rattle.rr_orders.proofs.ScanLemmas.UnspacedLemmas.{table-unspaced}
use Rattle.rr_code.proofs.UnspacedLemmas.{spelling-unspaced, spelling-some, request-unspaced, request-some, line-unspaced, line-some}
use Rattle.rr_code.proofs.ReadingLemmas.{read-command, read-request, read-record, read-line}

-- the words of a text are those that it was made of
pub words_of-command : (bytes : List ℕ) (c : Command) → SpellsCommand bytes c → words_of bytes ≡ spelling c
words_of-command bytes c h = rw h.spelled (words_of-line (spelling c) (spelling-some c) (spelling-unspaced c h.command))

pub words_of-record : (bytes table : List ℕ) (r : Request Command) → SpellsRecord bytes table r → words_of bytes ≡ table ∷ request_words r
words_of-record bytes table r h =
    rw h.spelled (words_of-line (table ∷ request_words r) (omega arith) (rw (table-unspaced table h.name, request-unspaced r h.request) refl))

pub words_of-text : (bytes : List ℕ) (line : Line) → SpellsLine bytes line → words_of bytes ≡ line_words line
words_of-text bytes line h = rw h.spelled (words_of-line (line_words line) (line-some line) (line-unspaced line h.is_line))

-- a text is read as what it is the text of
pub read_words-text : (bytes : List ℕ) (c : Command) → SpellsCommand bytes c → read_words (words_of bytes) ≡ Some c
read_words-text bytes c h = rw (words_of-command bytes c h) (read-command c h.command)

pub read_request_words-text : (bytes : List ℕ) (r : Request Command) → IsRequest r → bytes ≡ request_text r → read_request_words (words_of bytes) ≡ Some r
read_request_words-text bytes r form same =
    rw (same, words_of-line (request_words r) (request-some r) (request-unspaced r form)) (read-request r form)

pub read_record_words-text : (bytes table : List ℕ) (r : Request Command) → SpellsRecord bytes table r → read_record_words (words_of bytes) ≡ Some (table, r)
read_record_words-text bytes table r h = rw (words_of-record bytes table r h) (read-record table r h.name h.request)

pub read_line_words-text : (bytes : List ℕ) (line : Line) → SpellsLine bytes line → read_line_words (words_of bytes) ≡ Some line
read_line_words-text bytes line h = rw (words_of-text bytes line h) (read-line line h.is_line)

-- what a reader of a text answers
pub command-found : (bytes : List ℕ) (words : List (List ℕ)) (read : Option Command) → words ≡ words_of bytes → IfSome read (λ c. IsCommand c × (words ≡ spelling c)) → MatchResult (ok_or read Malformed) (λ c. SpellsCommand bytes c) (λ fault. fault ≡ Malformed)
command-found bytes words None of found = refl
command-found bytes words (Some c) of found = record { command = found.0; spelled = line_of-words bytes (spelling c) (sym of ∙ found.1) }

pub command-only : (bytes : List ℕ) (words : List (List ℕ)) (read : Option Command) → words ≡ words_of bytes → read ≡ read_words words → (c : Command) → SpellsCommand bytes c → ok_or read Malformed ≡ Ok c
command-only bytes words read of exact c h = rw (exact, of, read_words-text bytes c h) refl

pub command-read : (bytes : List ℕ) (words : List (List ℕ)) (read : Option Command) → words ≡ words_of bytes → read ≡ read_words words → IfSome read (λ c. IsCommand c × (words ≡ spelling c)) → IsReadAs bytes (ok_or read Malformed)
command-read bytes words read of exact found = record {
  found = command-found bytes words read of found;
  only = command-only bytes words read of exact;
}

pub record-found : (bytes : List ℕ) (words : List (List ℕ)) (read : Option (List ℕ × Request Command)) → words ≡ words_of bytes → IfSome read (λ r. IsTableName r.0 × IsRequest r.1 × (words ≡ r.0 ∷ request_words r.1)) → MatchResult (ok_or read Malformed) (λ r. SpellsRecord bytes r.0 r.1) (λ fault. fault ≡ Malformed)
record-found bytes words None of found = refl
record-found bytes words (Some r) of found =
    record { name = found.0; request = found.1; spelled = line_of-words bytes (r.0 ∷ request_words r.1) (sym of ∙ found.2) }

pub record-only : (bytes : List ℕ) (words : List (List ℕ)) (read : Option (List ℕ × Request Command)) → words ≡ words_of bytes → read ≡ read_record_words words → (table : List ℕ) (r : Request Command) → SpellsRecord bytes table r → ok_or read Malformed ≡ Ok (table, r)
record-only bytes words read of exact table r h = rw (exact, of, read_record_words-text bytes table r h) refl

pub line-found : (bytes : List ℕ) (line : Line) → IsLine line → words_of bytes ≡ line_words line → SpellsLine bytes line
line-found bytes line is_line words = record { is_line = is_line; spelled = line_of-words bytes (line_words line) words }

-- a text has one meaning
pub command-unique : (c d : Command) → IsCommand c → IsCommand d → text c ≡ text d → c ≡ d
command-unique c d first second same =
    let read : read_words (words_of (text c)) ≡ Some c = read_words-text (text c) c (record { command = first; spelled = refl }) in
    let again : read_words (words_of (text c)) ≡ Some d = read_words-text (text c) d (record { command = second; spelled = same }) in
    cc

pub request-unique : (q r : Request Command) → IsRequest q → IsRequest r → request_text q ≡ request_text r → q ≡ r
request-unique q r first second same =
    let read : read_request_words (words_of (request_text q)) ≡ Some q = read_request_words-text (request_text q) q first refl in
    let again : read_request_words (words_of (request_text q)) ≡ Some r = read_request_words-text (request_text q) r second same in
    cc

pub record-unique : (table other : List ℕ) (q r : Request Command) (bytes : List ℕ) → SpellsRecord bytes table q → SpellsRecord bytes other r → (table ≡ other) × (q ≡ r)
record-unique table other q r bytes first second =
    let read : read_record_words (words_of bytes) ≡ Some (table, q) = read_record_words-text bytes table q first in
    let again : read_record_words (words_of bytes) ≡ Some (other, r) = read_record_words-text bytes other r second in
    let same : Some (table, q) ≡ Some (other, r) = sym read ∙ again in
    let record_of : Option (List ℕ × Request Command) → List ℕ × Request Command = λ o. unwrap_or o (table, q) in
    (ap (λ o. (record_of o).0) same, ap (λ o. (record_of o).1) same)

pub line-unique : (l m : Line) → IsLine l → IsLine m → line_text l ≡ line_text m → l ≡ m
line-unique l m first second same =
    let read : read_line_words (words_of (line_text l)) ≡ Some l = read_line_words-text (line_text l) l (record { is_line = first; spelled = refl }) in
    let again : read_line_words (words_of (line_text l)) ≡ Some m = read_line_words-text (line_text l) m (record { is_line = second; spelled = same }) in
    cc

-- a text has one right answer
pub one_answer : (bytes : List ℕ) (first second : Result Command Fault) → IsReadAs bytes first → IsReadAs bytes second → first ≡ second
one_answer bytes (Ok c) second first_read second_read = sym (second_read.only c first_read.found)
one_answer bytes (Err fault) (Ok c) first_read second_read = first_read.only c second_read.found
one_answer bytes (Err fault) (Err other) first_read second_read = ap Err (first_read.found ∙ sym second_read.found)
