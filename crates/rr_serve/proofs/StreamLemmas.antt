-- Lemmas on what an input gives and on what an output takes.
use Rattle.std.proofs.Common.{◌≡◌, ◌+◌, ℕ, List, [], ◌∷◌, ◌++◌, length, refl, sym, ap, subst, ◌∙◌, arith, length-append, append_assoc}
use Rattle.std.specs.List.{concat}
use Rattle.std.specs.Io.KnownBytes.{Appends}
use Rattle.std.proofs.KnownBytes.{Appends-kept, Appends-nil, Appends-trans, Consumes-nil, Consumes-trans}
use Rattle.std.proofs.lemmas.List.{append-nil}
use Rattle.rr_serve.specs.Streams.{InputState, Gives, OutputState, Takes, Flushes, FailsToFlush, IsSent, IsCutShort, AreSent, counted}

pub Gives-none : (state : InputState) → Gives state [] state
Gives-none state =
    record { given = sym (append-nil state.given); consumed = Consumes-nil state.remaining; fewer = omega arith; none_failed = refl }

pub Gives-trans : (before mid after : InputState) (bytes more : List ℕ) → Gives before bytes mid → Gives mid more after → Gives before (bytes ++ more) after
Gives-trans before mid after bytes more first second =
    record {
      given = second.given ∙ ap (λ xs. xs ++ more) first.given ∙ append_assoc before.given bytes more;
      consumed = Consumes-trans before.remaining mid.remaining after.remaining bytes more first.consumed second.consumed;
      fewer = omega (arith, first.fewer, second.fewer, length-append bytes more);
      none_failed = second.none_failed ∙ first.none_failed;
    }

pub IsSent-flushed : (before mid after : OutputState) (reply : List ℕ) → Takes before reply mid → Flushes mid after → IsSent before reply after
IsSent-flushed before mid after reply takes flushes =
    record {
      written = flushes.written ∙ takes.written;
      appended = Appends-kept before.contents mid.contents after.contents reply takes.appended flushes.kept;
      flushed = flushes.flushed ∙ sym flushes.written;
      flushes = flushes.flushes ∙ ap (λ n. n + 1) takes.flushes;
      none_failed = flushes.none_failed ∙ takes.none_failed;
    }

pub IsCutShort-unflushed : (before mid after : OutputState) (reply : List ℕ) → Takes before reply mid → FailsToFlush mid after → IsCutShort before reply after
IsCutShort-unflushed before mid after reply takes fails =
    record {
      front = reply;
      more = [];
      reply_is = sym (append-nil reply);
      written = fails.written ∙ takes.written;
      appended = Appends-kept before.contents mid.contents after.contents reply takes.appended fails.kept;
      flushes = fails.flushes ∙ takes.flushes;
      failed = fails.failed ∙ ap counted takes.none_failed;
    }

-- one more reply is sent
pub AreSent-push : (before : OutputState) (replies : List (List ℕ)) (reply : List ℕ) (mid after : OutputState) → AreSent before replies mid → IsSent mid reply after
    → AreSent before (replies ++ reply ∷ []) after
AreSent-push before [] reply mid after sent last = (after, subst (λ s. IsSent s reply after) sent last, refl)
AreSent-push before (first ∷ replies) reply mid after sent last =
    (sent.0, sent.1, AreSent-push sent.0 replies reply mid after sent.2 last)

pub AreSent-append : (before : OutputState) (replies more : List (List ℕ)) (mid after : OutputState) → AreSent before replies mid → AreSent mid more after
    → AreSent before (replies ++ more) after
AreSent-append before [] more mid after sent then_sent = subst (λ s. AreSent s more after) sent then_sent
AreSent-append before (first ∷ replies) more mid after sent then_sent =
    (sent.0, sent.1, AreSent-append sent.0 replies more mid after sent.2 then_sent)

-- what is sent is written, and no more
pub AreSent-written : (before : OutputState) (replies : List (List ℕ)) (after : OutputState) → AreSent before replies after → after.written ≡ before.written ++ concat replies
AreSent-written before [] after sent = ap (λ (s : OutputState). s.written) sent ∙ sym (append-nil before.written)
AreSent-written before (reply ∷ replies) after sent =
    AreSent-written sent.0 replies after sent.2 ∙ ap (λ xs. xs ++ concat replies) sent.1.written ∙ append_assoc before.written reply (concat replies)

pub AreSent-appended : (before : OutputState) (replies : List (List ℕ)) (after : OutputState) → AreSent before replies after
    → Appends before.contents after.contents (concat replies)
AreSent-appended before [] after sent =
    subst (λ (s : OutputState). Appends before.contents s.contents []) (sym sent) (Appends-nil before.contents)
AreSent-appended before (reply ∷ replies) after sent =
    let mid : OutputState = sent.0 in
    Appends-trans before.contents mid.contents after.contents reply (concat replies) sent.1.appended (AreSent-appended mid replies after sent.2)

pub AreSent-none_failed : (before : OutputState) (replies : List (List ℕ)) (after : OutputState) → AreSent before replies after → after.failures ≡ before.failures
AreSent-none_failed before [] after sent = ap (λ (s : OutputState). s.failures) sent
AreSent-none_failed before (reply ∷ replies) after sent =
    AreSent-none_failed sent.0 replies after sent.2 ∙ sent.1.none_failed

-- each has its flush
pub AreSent-flushes : (before : OutputState) (replies : List (List ℕ)) (after : OutputState) → AreSent before replies after → after.flushes ≡ before.flushes + length replies
AreSent-flushes before [] after sent = let same : after.flushes ≡ before.flushes = ap (λ (s : OutputState). s.flushes) sent in omega arith
AreSent-flushes before (reply ∷ replies) after sent =
    let mid : OutputState = sent.0 in
    let first : mid.flushes ≡ before.flushes + 1 = sent.1.flushes in
    let others = AreSent-flushes mid replies after sent.2 in omega arith

-- and nothing is held back
pub AreSent-flushed : (before : OutputState) (replies : List (List ℕ)) (after : OutputState) → AreSent before replies after → before.flushed ≡ before.written
    → after.flushed ≡ after.written
AreSent-flushed before [] after sent all = subst (λ (s : OutputState). s.flushed ≡ s.written) (sym sent) all
AreSent-flushed before (reply ∷ replies) after sent all = AreSent-flushed sent.0 replies after sent.2 sent.1.flushed
