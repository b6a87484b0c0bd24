-- Serving by one machine, seen as serving by another, while something holds that each answer keeps.
use Rattle.std.proofs.Common.{◌≡◌, ℕ, List, [], ◌∷◌, Option, None, Some, Result, sym, ap, subst, ◌∙◌}
use Rattle.rr_serve.specs.Lines.{taken}
use Rattle.rr_serve.specs.Serving.{Served, Session, AnswersAll}
use Rattle.rr_serve.specs.Streams.{InputState, OutputState}
use Rattle.rr_serve.specs.declared.faults.Fault.{Fault}

module _ {S T : Type 0} (A : S → List ℕ → S → Type 0) (r : S → List ℕ) (B : T → List ℕ → T → Type 0) (q : T → List ℕ) (f : S → T) (P : S → Type 0)
    (steps : (s : S) (line : List ℕ) (t : S) → P s → A s line t → B (f s) line (f t) × P t) (same : (s : S) → r s ≡ q (f s)) where
  pub Served-seen : (old : S) (lines replies : List (List ℕ)) (new : S) → P old → Served A r old lines replies new → Served B q (f old) lines replies (f new)
  Served-seen old [] [] new holds served = ap f served
  Served-seen old (line ∷ lines) (reply ∷ replies) new holds served =
      let step = steps old (taken line) served.0 holds served.1 in
      (f served.0, step.0, served.2 ∙ same served.0, Served-seen served.0 lines replies new step.1 served.3)
  Served-seen old [] (reply ∷ replies) new holds served = absurd served
  Served-seen old (line ∷ lines) [] new holds served = absurd served

  -- and it holds in the end
  pub Served-holds : (old : S) (lines replies : List (List ℕ)) (new : S) → P old → Served A r old lines replies new → P new
  Served-holds old [] [] new holds served = subst P (sym served) holds
  Served-holds old (line ∷ lines) (reply ∷ replies) new holds served =
      Served-holds served.0 lines replies new (steps old (taken line) served.0 holds served.1).1 served.3
  Served-holds old [] (reply ∷ replies) new holds served = absurd served
  Served-holds old (line ∷ lines) [] new holds served = absurd served

  abbrev pub Session-seen : (old new : S) (reader_old reader_new : InputState) (writer_old writer_new : OutputState) (result : Result (Unit {0}) Fault) → P old
      → Session A r old new reader_old reader_new writer_old writer_new result → Session B q (f old) (f new) reader_old reader_new writer_old writer_new result
  Session-seen old new reader_old reader_new writer_old writer_new result holds session =
      record {
        read = session.read;
        lines = session.lines;
        rest = session.rest;
        replies = session.replies;
        behind = session.behind;
        gives = session.gives;
        split = session.split;
        served = Served-seen old session.lines session.replies new holds session.served;
        ends = session.ends;
      }

  pub AnswersAll-seen : (old new : S) (remaining contents written : Option (List ℕ)) → P old
      → AnswersAll A r old new remaining contents written → AnswersAll B q (f old) (f new) remaining contents written
  AnswersAll-seen old new None contents written holds all = tt
  AnswersAll-seen old new (Some input) contents written holds all =
      let answered = all.1 in (
        all.0,
        record {
          lines = answered.lines;
          rest = answered.rest;
          replies = answered.replies;
          split = answered.split;
          served = Served-seen old answered.lines answered.replies new holds answered.served;
          none_fails = answered.none_fails;
          bytes_are = answered.bytes_are;
        },
        all.2,
      )
