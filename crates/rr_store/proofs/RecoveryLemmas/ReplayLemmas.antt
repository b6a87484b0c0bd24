-- Records that are played again, one after another.
use Rattle.std.proofs.Common.{◌≡◌, ◌⊎◌, ℕ, ◌+◌, ◌<◌, List, [], ◌∷◌, ◌++◌, length, map, take, drop, get_or, Option, Some, inl, inr, refl, sym, ap, subst, ◌∙◌, add-one, append_assoc, take-append-drop}
use Rattle.std.proofs.lemmas.List.{map-append, take_more}
use Rattle.std.proofs.Math.Seq.{drop-cons}
use Rattle.rr_kit.specs.declared.kit.Kit.{Kit}
use Rattle.rr_tables.specs.Records.Lines.{IsUnlawful, TakesRecord}
use Rattle.rr_tables.specs.Records.World.{World}
use Rattle.rr_tables.specs.Tables.{ArePlayed, HaveTheirSnapshots, lent_by, world_of}
use Rattle.rr_tables.specs.declared.tables.Tables.{Tables}
use Rattle.rr_checkpoint.specs.declared.plan.transcript.Transcript.{Transcript}
use Rattle.rr_checkpoint.specs.Plan.Transcript.{snapshots_of, tables_of}
use Rattle.rr_pages.specs.declared.fault.Damage.TheVariants.{Records}
use Rattle.rr_store.specs.declared.recovery.fault.Fault.{Fault}
use Rattle.rr_store.specs.declared.recovery.fault.Fault.TheVariants as F
use Rattle.rr_store.specs.Recovery.Replaying.{AreReplayed, BreaksOff, IsTranscriptBefore, Replays}

pub replays_push : (kit : Kit) (old mid new : World) (lines : List (List ℕ)) (line : List ℕ)
    → Replays kit old lines mid → TakesRecord kit mid line new → Replays kit old (lines ++ line ∷ []) new
replays_push kit old mid new [] line same takes =
    (new, subst (λ w. TakesRecord kit w line new) same takes, refl)
replays_push kit old mid new (first ∷ lines) line replays takes =
    (replays.0, replays.1, replays_push kit replays.0 mid new lines line replays.2 takes)

pub replays_join : (kit : Kit) (old mid new : World) (lines more : List (List ℕ)) → Replays kit old lines mid → Replays kit mid more new → Replays kit old (lines ++ more) new
replays_join kit old mid new [] more same replays = subst (λ w. Replays kit w more new) same replays
replays_join kit old mid new (first ∷ lines) more before replays =
    (before.0, before.1, replays_join kit before.0 mid new lines more before.2 replays)

-- the near records break off, and so they do with the far ones
pub near_breaks : (kit : Kit) (old : World) (near far : List (List ℕ)) → BreaksOff kit old near → BreaksOff kit old (near ++ far)
near_breaks kit old near far breaks =
    record {
      front = breaks.front;
      next = breaks.next;
      rest = breaks.rest ++ far;
      mid = breaks.mid;
      split = ap (λ (l : List (List ℕ)). l ++ far) breaks.split ∙ append_assoc breaks.front (breaks.next ∷ breaks.rest) far;
      before = breaks.before;
      unlawful = breaks.unlawful;
    }

-- the far ones do, behind the near ones
pub far_breaks : (kit : Kit) (old mid : World) (near far : List (List ℕ)) → Replays kit old near mid → BreaksOff kit mid far → BreaksOff kit old (near ++ far)
far_breaks kit old mid near far before breaks =
    record {
      front = near ++ breaks.front;
      next = breaks.next;
      rest = breaks.rest;
      mid = breaks.mid;
      split = ap (λ (l : List (List ℕ)). near ++ l) breaks.split ∙ sym (append_assoc near breaks.front (breaks.next ∷ breaks.rest));
      before = replays_join kit old mid breaks.mid near breaks.front before breaks.before;
      unlawful = breaks.unlawful;
    }

-- there are lines, and the transcript has what the tables lend
pub transcript_is : (lines : List (List ℕ)) (tables : Tables) (transcript : Transcript) → (lines ≡ [] → ⊥) → tables_of transcript ≡ (lent_by tables).tables
    → snapshots_of transcript ≡ (lent_by tables).snapshots → IsTranscriptBefore lines tables (Some transcript)
transcript_is [] tables transcript some p q = absurd (some refl)
transcript_is (line ∷ lines) tables transcript some p q = λ i. record { tables = p i; snapshots = q i }

-- a record of a half isn't taken, and has no lawful request where the tables before it were played
abbrev pub StopsAt : Type 0 → Kit → World → List (List ℕ) → Fault → Type 0
StopsAt played kit old lines fault = (fault ≡ F.OutOfMemory) ⊎ ((fault ≡ F.Damaged Records) × (played → BreaksOff kit old lines))

pub near_stops : {P : Type 0} (kit : Kit) (old : World) (near far : List (List ℕ)) (fault : Fault) → StopsAt P kit old near fault → StopsAt P kit old (near ++ far) fault
near_stops kit old near far fault (inl memory) = inl memory
near_stops kit old near far fault (inr stops) = inr (stops.0, λ played. near_breaks kit old near far (stops.1 played))

pub far_stops : {P Q : Type 0} (kit now : Kit) (old mid : World) (near far : List (List ℕ)) (fault : Fault) → now ≡ kit → (P → Q) → (P → Replays kit old near mid)
    → StopsAt Q now mid far fault → StopsAt P kit old (near ++ far) fault
far_stops kit now old mid near far fault same stays before (inl memory) = inl memory
far_stops kit now old mid near far fault same stays before (inr stops) =
    inr (
      stops.0,
      λ played. far_breaks kit old mid near far (before played) (subst (λ (k : Kit). BreaksOff k mid far) same (stops.1 (stays played))),
    )

pub both_replayed : (kit : Kit) (old mid : Tables) (new : World) (near far : List (List ℕ)) (base : Option Transcript) → mid.kit ≡ kit → ArePlayed mid → (HaveTheirSnapshots old → HaveTheirSnapshots mid)
    → Replays kit (world_of old) near (world_of mid)
    → Replays mid.kit (world_of mid) far new → IsTranscriptBefore far mid base → AreReplayed kit old near far base new
both_replayed kit old mid new near far base same played have first second before =
    record {
      middle = mid;
      of_kit = same;
      played = played;
      snapshots = have;
      replays_near = first;
      replays_far = subst (λ (k : Kit). Replays k (world_of mid) far new) same second;
      before = before;
    }

module _ {X : Type 0} (f : X → List ℕ) (xs : List X) (i : ℕ) (d : X) (within : i < length xs) where
  here_on : drop i xs ≡ get_or xs i d ∷ drop (i + 1) xs
  here_on = rw (add-one, drop-cons xs i d) refl

  split_at : map f xs ≡ map f (take i xs) ++ f (get_or xs i d) ∷ map f (drop (i + 1) xs)
  split_at =
      ap (map f) (sym (take-append-drop i xs))
      ∙ map-append f (take i xs) (drop i xs)
      ∙ ap (λ rest. map f (take i xs) ++ map f rest) here_on

  more_at : map f (take (i + 1) xs) ≡ map f (take i xs) ++ f (get_or xs i d) ∷ []
  more_at = ap (map f) (take_more xs i d within) ∙ map-append f (take i xs) (get_or xs i d ∷ [])

  -- one record more is taken
  pub replays_more : (kit now : Kit) (old mid new : World) (bytes : List ℕ) → bytes ≡ f (get_or xs i d) → now ≡ kit
      → Replays kit old (map f (take i xs)) mid → TakesRecord now mid bytes new → Replays kit old (map f (take (i + 1) xs)) new
  replays_more kit now old mid new bytes same kept so_far takes =
      subst (λ lines. Replays kit old lines new) (ap (λ b. map f (take i xs) ++ b ∷ []) same ∙ sym more_at)
      (replays_push kit old mid new (map f (take i xs)) bytes so_far (subst (λ r. TakesRecord r mid bytes new) kept takes))

  -- a record isn't taken
  breaks_off : (kit : Kit) (old mid : World) (bytes : List ℕ) → bytes ≡ f (get_or xs i d)
      → Replays kit old (map f (take i xs)) mid → IsUnlawful kit mid bytes → BreaksOff kit old (map f xs)
  breaks_off kit old mid bytes same so_far unlawful =
      record {
        front = map f (take i xs);
        next = bytes;
        rest = map f (drop (i + 1) xs);
        mid = mid;
        split = split_at ∙ ap (λ b. map f (take i xs) ++ b ∷ map f (drop (i + 1) xs)) (sym same);
        before = so_far;
        unlawful = unlawful;
      }

  pub replays_end : {P Q : Type 0} (kit now : Kit) (old mid : World) (bytes : List ℕ) (fault : Fault) → bytes ≡ f (get_or xs i d) → now ≡ kit → (P → Q)
      → (P → Replays kit old (map f (take i xs)) mid) → (fault ≡ F.OutOfMemory) ⊎ ((fault ≡ F.Damaged Records) × (Q → IsUnlawful now mid bytes)) → StopsAt P kit old (map f xs) fault
  replays_end kit now old mid bytes fault same kept stays so_far (inl memory) = inl memory
  replays_end kit now old mid bytes fault same kept stays so_far (inr refused) =
      inr (refused.0, λ played. breaks_off kit old mid bytes same (so_far played) (subst (λ r. IsUnlawful r mid bytes) kept (refused.1 (stays played))))
