-- Lemmas on a line that is read part by part.
use Rattle.std.proofs.Common.{◌≡◌, ◌<◌, ℕ, List, [], ◌∷◌, ◌++◌, Option, None, Some, Ok, Err, refl, sym, ap, subst, ◌∙◌, arith, length-append, append_assoc}
use Rattle.std.proofs.lemmas.List.{append-nil}
use Rattle.rr_serve.specs.Lines.{HasNoLineFeed, taken}
use Rattle.rr_serve.specs.Reading.{ReadsLine, TakesPart}
use Rattle.rr_serve.specs.Streams.{InputState, Gives}
use Rattle.rr_serve.specs.declared.reading.Ending.TheVariants.{LineFeed, EndOfInput}
use Rattle.rr_serve.specs.declared.faults.Fault.{Fault}
use Rattle.rr_serve.specs.declared.reading.Ending.{Ending}
use Rattle.rr_serve.proofs.LineLemmas.{AllByRecursion-append, taken-nil, taken-append_taken}
use Rattle.rr_serve.proofs.StreamLemmas.{Gives-none, Gives-trans}

-- some bytes without a line feed were read, and the line goes on
pub record Begins (before now : InputState) (buffer : List ℕ) : Type 0 where
  pub line : List ℕ
  pub no_line_feed : HasNoLineFeed line
  pub kept : buffer ≡ taken line
  pub gives : Gives before line now

pub Begins-none : (state : InputState) → Begins state state []
Begins-none state = record { line = []; no_line_feed = tt; kept = sym taken-nil; gives = Gives-none state }

-- what comes behind the line so far
kept_more : {before now : InputState} {buffer more : List ℕ} → (begun : Begins before now buffer) → (piece : List ℕ) → more ≡ taken (buffer ++ piece)
    → more ≡ taken (begun.line ++ piece)
kept_more begun piece is = is ∙ ap (λ bytes. taken (bytes ++ piece)) begun.kept ∙ taken-append_taken begun.line piece

pub Begins-more : {before now next : InputState} {buffer more : List ℕ} → Begins before now buffer → TakesPart now next buffer more (Ok None)
    → Begins before next more
Begins-more {before} {now} {next} {buffer} {more} begun part =
    let piece : List ℕ = part.0 in
    record {
      line = begun.line ++ piece;
      no_line_feed = AllByRecursion-append _ begun.line piece begun.no_line_feed part.1;
      kept = kept_more begun part.0 part.3;
      gives = Gives-trans before now next begun.line piece begun.gives part.4;
    }

pub ReadsLine-ends : {before now next : InputState} {buffer more : List ℕ} → Begins before now buffer → (ending : Ending)
    → TakesPart now next buffer more (Ok (Some ending)) → ReadsLine before next more (Ok ending)
ReadsLine-ends {before} {now} {next} begun LineFeed part =
    let piece : List ℕ = part.0 in
    record {
      line = begun.line ++ piece;
      no_line_feed = AllByRecursion-append _ begun.line piece begun.no_line_feed part.1;
      kept = kept_more begun part.0 part.2;
      gives =
          subst (λ bytes. Gives before bytes next) (sym (append_assoc begun.line piece (10 ∷ [])))
          (Gives-trans before now next begun.line (piece ++ 10 ∷ []) begun.gives part.3);
    }
ReadsLine-ends {before} {now} {next} begun EndOfInput part =
    record {
      line = begun.line;
      no_line_feed = begun.no_line_feed;
      kept = part.0 ∙ begun.kept;
      gives = (subst (λ bytes. Gives before bytes next) (append-nil begun.line) (Gives-trans before now next begun.line [] begun.gives part.1), part.2);
    }

pub ReadsLine-fails : {before now next : InputState} {buffer more : List ℕ} → Begins before now buffer → (fault : Fault)
    → TakesPart now next buffer more (Err fault) → ReadsLine before next more (Err fault)
ReadsLine-fails {before} {now} {next} begun fault part =
    record {
      line = begun.line;
      no_line_feed = begun.no_line_feed;
      kept = part.0 ∙ begun.kept;
      gives = (now, begun.gives, part.1, part.2);
    }

-- where no ending is told the line goes on
pub goes_on : (before next : InputState) (line_old line_new : List ℕ) (told : Option Ending) → ((ending : Ending) → told ≡ Some ending → ⊥)
    → TakesPart before next line_old line_new (Ok told) → TakesPart before next line_old line_new (Ok None)
goes_on before next line_old line_new None none part = part
goes_on before next line_old line_new (Some ending) none part = absurd (none ending refl)

-- a part that was taken leaves less
pub fewer_behind_part : (before next : InputState) (line_old line_new : List ℕ) → TakesPart before next line_old line_new (Ok None) → next.most < before.most
fewer_behind_part before next line_old line_new part = omega (arith, part.2, part.4.fewer)

-- a line that was read leaves less
pub fewer_behind_line : (before next : InputState) (buffer : List ℕ) → ReadsLine before next buffer (Ok LineFeed) → next.most < before.most
fewer_behind_line before next buffer reads =
    omega (arith, reads.gives.fewer, length-append reads.line (10 ∷ []))
