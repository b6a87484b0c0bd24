-- Lemmas on lines that are answered one after another.
use Rattle.std.proofs.Common.{◌≡◌, ℕ, List, [], ◌∷◌, ◌++◌, Option, None, Some, Result, Ok, Err, inl, inr, refl, sym, ap, subst, ◌∙◌}
use Rattle.std.specs.Result.{OnOk}
use Rattle.std.specs.List.{AllByRecursion, concat, flat_map}
use Rattle.std.specs.Io.KnownBytes.{Consumes}
use Rattle.std.proofs.lemmas.List.{append-nil}
use Rattle.std.proofs.lemmas.Grind.{flat_map-append}
use Rattle.rr_serve.specs.Lines.{HasNoLineFeed, Splits, ended, taken}
use Rattle.rr_serve.specs.Reading.{ReadsLine}
use Rattle.rr_serve.specs.Serving.{Served, NoneFails, Ends, Session, AnswersAll, replies_to_rest, malformed_line}
use Rattle.rr_serve.specs.Answering.{Refuses, Replies}
use Rattle.rr_serve.specs.Streams.{InputState, Gives, OutputState, AreSent, CountsFailures, counted}
use Rattle.rr_serve.specs.declared.reading.Ending.TheVariants.{LineFeed, EndOfInput}
use Rattle.rr_serve.specs.declared.faults.Fault.{Fault}
use Rattle.rr_serve.specs.declared.faults.Fault.TheVariants.{DeviceFailed, StreamFailed}
use Rattle.rr_serve.proofs.LineLemmas.{AllByRecursion-push, taken-taken}
use Rattle.rr_serve.proofs.StreamLemmas.{Gives-none, Gives-trans, AreSent-push, AreSent-append, AreSent-appended, AreSent-none_failed}

-- one more line is answered
pub Served-push : {S : Type 0} (Answers : S → List ℕ → S → Type 0) (reply_of : S → List ℕ) (old : S) (lines replies : List (List ℕ)) (now new : S) (line : List ℕ)
    → Served Answers reply_of old lines replies now → Answers now (taken line) new → Served Answers reply_of old (lines ++ line ∷ []) (replies ++ reply_of new ∷ []) new
Served-push Answers reply_of old [] [] now new line served answers =
    (new, subst (λ s. Answers s (taken line) new) served answers, refl, refl)
Served-push Answers reply_of old (first ∷ lines) (reply ∷ replies) now new line served answers =
    (served.0, served.1, served.2, Served-push Answers reply_of served.0 lines replies now new line served.3 answers)
Served-push Answers reply_of old [] (reply ∷ replies) now new line served answers = absurd served
Served-push Answers reply_of old (first ∷ lines) [] now new line served answers = absurd served

-- so far each line that was read is answered, and no reply said that the device failed
pub record Serves {S : Type 0} (Answers : S → List ℕ → S → Type 0) (reply_of : S → List ℕ) (old now : S)
    (reader_old reader_now : InputState) (writer_old writer_now : OutputState) : Type 0 where
  pub lines : List (List ℕ)
  pub replies : List (List ℕ)
  pub each : AllByRecursion HasNoLineFeed lines
  pub none_fails : NoneFails replies
  pub served : Served Answers reply_of old lines replies now
  pub gives : Gives reader_old (flat_map ended lines) reader_now
  pub sent : AreSent writer_old replies writer_now

pub Serves-none : {S : Type 0} (Answers : S → List ℕ → S → Type 0) (reply_of : S → List ℕ) (machine : S) (reader : InputState) (writer : OutputState)
    → Serves Answers reply_of machine machine reader reader writer writer
Serves-none Answers reply_of machine reader writer =
    record { lines = []; replies = []; each = tt; none_fails = tt; served = refl; gives = Gives-none reader; sent = refl }

flat_map-push : (lines : List (List ℕ)) (line : List ℕ) → flat_map ended lines ++ ended line ≡ flat_map ended (lines ++ line ∷ [])
flat_map-push lines line =
    sym (flat_map-append ended lines (line ∷ []) ∙ ap (λ bytes. flat_map ended lines ++ bytes) (append-nil (ended line)))

-- what is kept of a rest tells whether there is one
replies_to_rest-taken : (rest : List ℕ) → replies_to_rest (taken rest) ≡ replies_to_rest rest
unfolding taken
replies_to_rest-taken [] = refl
replies_to_rest-taken (byte ∷ bytes) = refl

module _ {S : Type 0} (Answers : S → List ℕ → S → Type 0) (reply_of : S → List ℕ) (old now : S) (reader_old reader_now : InputState) (writer_old writer_now : OutputState)
    (so_far : Serves Answers reply_of old now reader_old reader_now writer_old writer_now) where
  -- a read failed, and the line that it was in is not answered
  pub Session-reader_fails : (next : InputState) (buffer : List ℕ) (fault : Fault) → ReadsLine reader_now next buffer (Err fault)
      → Session Answers reply_of old now reader_old next writer_old writer_now (Err fault)
  Session-reader_fails next buffer fault reads =
      let behind : InputState = reads.gives.0 in
      let stays : Ends (Err StreamFailed) so_far.replies reads.line behind next writer_old writer_now = inl (so_far.none_fails, so_far.sent, reads.gives.2) in
      record {
        read = flat_map ended so_far.lines ++ reads.line;
        lines = so_far.lines;
        rest = reads.line;
        replies = so_far.replies;
        behind = behind;
        gives = Gives-trans reader_old reader_now behind _ _ so_far.gives reads.gives.1;
        split = record { whole = refl; each = so_far.each; last = reads.no_line_feed };
        served = so_far.served;
        ends = subst (λ f. Ends (Err f) so_far.replies reads.line behind next writer_old writer_now) (sym reads.gives.3) stays;
      }

  module _ (next : InputState) (buffer : List ℕ) (reads : ReadsLine reader_now next buffer (Ok LineFeed)) (new : S) (answers : Answers now (taken buffer) new)
      (writer_new : OutputState) where
    served_more : Served Answers reply_of old (so_far.lines ++ reads.line ∷ []) (so_far.replies ++ reply_of new ∷ []) new
    served_more =
        Served-push Answers reply_of old so_far.lines so_far.replies now new reads.line so_far.served
        (subst (λ bytes. Answers now bytes new) (ap taken reads.kept ∙ taken-taken reads.line) answers)

    gives_more : Gives reader_old (flat_map ended (so_far.lines ++ reads.line ∷ [])) next
    gives_more =
        subst (λ bytes. Gives reader_old bytes next) (flat_map-push so_far.lines reads.line) (Gives-trans reader_old reader_now next _ _ so_far.gives reads.gives)

    each_more : AllByRecursion HasNoLineFeed (so_far.lines ++ reads.line ∷ [])
    each_more = AllByRecursion-push HasNoLineFeed so_far.lines reads.line so_far.each reads.no_line_feed

    -- the line was answered
    pub Serves-more : Replies (Ok tt) (reply_of new) writer_now writer_new → Serves Answers reply_of old new reader_old next writer_old writer_new
    Serves-more replied =
        record {
          lines = so_far.lines ++ reads.line ∷ [];
          replies = so_far.replies ++ reply_of new ∷ [];
          each = each_more;
          none_fails = AllByRecursion-push _ so_far.replies (reply_of new) so_far.none_fails replied.1;
          served = served_more;
          gives = gives_more;
          sent = AreSent-push writer_old so_far.replies (reply_of new) writer_now writer_new so_far.sent replied.0;
        }

    -- it ended at this line
    Session-at_line : (fault : Fault) → Ends (Err fault) (so_far.replies ++ reply_of new ∷ []) [] next next writer_old writer_new
        → Session Answers reply_of old new reader_old next writer_old writer_new (Err fault)
    Session-at_line fault ends =
        record {
          read = flat_map ended (so_far.lines ++ reads.line ∷ []);
          lines = so_far.lines ++ reads.line ∷ [];
          rest = [];
          replies = so_far.replies ++ reply_of new ∷ [];
          behind = next;
          gives = gives_more;
          split = record { whole = sym (append-nil _); each = each_more; last = tt };
          served = served_more;
          ends = ends;
        }

    -- the device failed, or a write or a flush did
    pub Session-answer_fails : (fault : Fault) → Replies (Err fault) (reply_of new) writer_now writer_new
        → Session Answers reply_of old new reader_old next writer_old writer_new (Err fault)
    Session-answer_fails DeviceFailed replied =
        Session-at_line DeviceFailed (
          record { before = so_far.replies; last = reply_of new; replies_are = refl; none_before = so_far.none_fails; last_fails = replied.1 },
          refl,
          AreSent-push writer_old so_far.replies (reply_of new) writer_now writer_new so_far.sent replied.0,
          refl,
        )
    Session-answer_fails StreamFailed replied =
        Session-at_line StreamFailed
        (inr (
          record {
            before = so_far.replies;
            last = reply_of new;
            mid = writer_now;
            replies_are = append-nil _;
            none_before = so_far.none_fails;
            sent = so_far.sent;
            cut_short = replied;
          },
          inl refl,
          refl,
        ))

  -- the input ended, and a rest was refused, or a write or the flush failed
  module _ (next : InputState) (buffer : List ℕ) (reads : ReadsLine reader_now next buffer (Ok EndOfInput)) (writer_new : OutputState) where
    Session-at_end : (result : Result (Unit {0}) Fault) → Ends result so_far.replies reads.line next next writer_old writer_new
        → Session Answers reply_of old now reader_old next writer_old writer_new result
    Session-at_end result ends =
        record {
          read = flat_map ended so_far.lines ++ reads.line;
          lines = so_far.lines;
          rest = reads.line;
          replies = so_far.replies;
          behind = next;
          gives = Gives-trans reader_old reader_now next _ _ so_far.gives reads.gives.0;
          split = record { whole = refl; each = so_far.each; last = reads.no_line_feed };
          served = so_far.served;
          ends = ends;
        }

    same_rest : replies_to_rest buffer ≡ replies_to_rest reads.line
    same_rest = ap replies_to_rest reads.kept ∙ replies_to_rest-taken reads.line

    pub Session-ends : (result : Result (Unit {0}) Fault) → Refuses result buffer writer_now writer_new
        → Session Answers reply_of old now reader_old next writer_old writer_new result
    Session-ends (Ok u) refused =
        let sent : AreSent writer_old (so_far.replies ++ replies_to_rest buffer) writer_new =
        AreSent-append writer_old so_far.replies (replies_to_rest buffer) writer_now writer_new so_far.sent refused in
        Session-at_end (Ok u) (so_far.none_fails, subst (λ replies. AreSent writer_old (so_far.replies ++ replies) writer_new) same_rest sent, reads.gives.1, refl)
    Session-ends (Err DeviceFailed) refused = absurd refused
    Session-ends (Err StreamFailed) refused =
        Session-at_end (Err StreamFailed)
        (inr (
          record {
            before = so_far.replies;
            last = malformed_line;
            mid = writer_now;
            replies_are = ap (λ replies. so_far.replies ++ replies) (sym same_rest ∙ refused.0);
            none_before = so_far.none_fails;
            sent = so_far.sent;
            cut_short = refused.1;
          },
          inr reads.gives.1,
          refl,
        ))

-- what an input that ended was to give is what it gave
whole_input : (remaining : List ℕ) (left : Option (List ℕ)) (read : List ℕ) → Consumes (Some remaining) left read → left ≡ Some [] → remaining ≡ read
whole_input remaining left read consumed end =
    let consumes : Consumes (Some remaining) (Some []) read = subst (λ known. Consumes (Some remaining) known read) end consumed in
    consumes ∙ append-nil read

module _ {S : Type 0} (Answers : S → List ℕ → S → Type 0) (reply_of : S → List ℕ) (old new : S) (reader_old reader_new : InputState) (writer_old writer_new : OutputState) where
  answers_known : (remaining : Option (List ℕ)) → reader_old.remaining ≡ remaining → Session Answers reply_of old new reader_old reader_new writer_old writer_new (Ok tt)
      → AnswersAll Answers reply_of old new remaining writer_old.contents writer_new.contents
  answers_known None is session = tt
  answers_known (Some input) is session =
      let consumed : Consumes (Some input) session.behind.remaining session.read =
      subst (λ known. Consumes known session.behind.remaining session.read) is session.gives.consumed in
      let at_end : session.behind.remaining ≡ Some [] = ap (λ (state : InputState). state.remaining) (sym session.ends.3) ∙ session.ends.2 in
      let all_read : input ≡ session.read = whole_input input session.behind.remaining session.read consumed at_end in (
        concat (session.replies ++ replies_to_rest session.rest),
        record {
          lines = session.lines;
          rest = session.rest;
          replies = session.replies;
          split = subst (λ bytes. Splits bytes session.lines session.rest) (sym all_read) session.split;
          served = session.served;
          none_fails = session.ends.0;
          bytes_are = refl;
        },
        AreSent-appended writer_old (session.replies ++ replies_to_rest session.rest) writer_new session.ends.1,
      )

  -- what a session that ended well did
  pub AnswersAll-session : (result : Result (Unit {0}) Fault) → Session Answers reply_of old new reader_old reader_new writer_old writer_new result
      → OnOk result (AnswersAll Answers reply_of old new reader_old.remaining writer_old.contents writer_new.contents)
  AnswersAll-session (Ok u) session = answers_known reader_old.remaining refl session
  AnswersAll-session (Err fault) session = tt

  no_read_failed : (behind : InputState) (read : List ℕ) → Gives reader_old read behind → reader_new ≡ behind → reader_new.failures ≡ reader_old.failures
  no_read_failed behind read gives same = ap (λ (state : InputState). state.failures) same ∙ gives.none_failed

  -- which calls failed in a session
  pub CountsFailures-session : (result : Result (Unit {0}) Fault) → Session Answers reply_of old new reader_old reader_new writer_old writer_new result
      → CountsFailures result reader_old.failures reader_new.failures writer_old.failures writer_new.failures
  CountsFailures-session (Ok u) session =
      (no_read_failed session.behind session.read session.gives session.ends.3, AreSent-none_failed writer_old _ writer_new session.ends.1)
  CountsFailures-session (Err DeviceFailed) session =
      (no_read_failed session.behind session.read session.gives session.ends.3, AreSent-none_failed writer_old _ writer_new session.ends.2)
  CountsFailures-session (Err StreamFailed) session =
      elim session.ends [
        | inl read ↦ inl (read.2.failed ∙ ap counted session.gives.none_failed, AreSent-none_failed writer_old _ writer_new read.1)
        | inr wrote ↦ inr (
          no_read_failed session.behind session.read session.gives wrote.2,
          wrote.0.cut_short.failed ∙ ap counted (AreSent-none_failed writer_old _ wrote.0.mid wrote.0.sent),
        )
      ]
