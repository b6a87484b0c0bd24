-- What serving many lines does to the file, from what answering each does.
use Rattle.std.proofs.Common.{◌≡◌, ℕ, Bool, false, true, List, [], ◌∷◌, inl, inr, refl, sym, ap, subst, ◌∙◌}
use Rattle.rr_disk.specs.Disk.{DiskState}
use Rattle.rr_disk.specs.Moments.{LeavesOnly}
use Rattle.rr_disk.proofs.MomentLemmas.{started, stays, joins, weaker}
use Rattle.rr_kit.specs.Kits.{KitTexts}
use Rattle.rr_log.specs.declared.log.Log.{Log}
use Rattle.rr_log.specs.Log as log
use Rattle.rr_tables.specs.declared.records.rules.TableRules.{TableRules}
use Rattle.rr_store.specs.Held.{Held}
use Rattle.rr_store.specs.Holding.{Carries, disk_of, held_of}
use Rattle.rr_store.proofs.Standing.{carried_keeps}
use Rattle.rr_serve.specs.Lines.{taken}
use Rattle.rr_serve.specs.Serving.{NoneFails, Served, tells_failure}
use Rattle.rr_store.specs.World.{TableRequest}
use Rattle.rr_moderator.specs.Serving.{Asks}
use Rattle.rr_moderator.specs.Durability.{Lasting, StandsAlong, Told, told}

not_true : (b : Bool) → (b ≡ true → ⊥) → b ≡ false
not_true true other = absurd (other refl)
not_true false other = refl

module _ {D : Type 0} (Honest Works : D → Type 0) (state : D → DiskState) (past : D → List DiskState) (faults writes syncs : D → ℕ) where
  abbrev Line_lasts : Told D → List ℕ → Told D → Type 0
  Line_lasts = Lasting Honest Works state past faults writes syncs

  abbrev disk : Told D → D
  disk s = disk_of s.0

  abbrev Leaves : Told D → Told D → (List ℕ → Type 0) → Type 0
  Leaves s t P = LeavesOnly (past (disk s)) (state (disk s)) (past (disk t)) (state (disk t)) P

  -- a store that answers lines, one after another, and its disk's honesty
  honest_before : (s : Told D) (lines replies : List (List ℕ)) (t : Told D) → Served Line_lasts told s lines replies t → Honest (disk t) → Honest (disk s)
  honest_before s [] [] t served h = subst (λ (x : Told D). Honest (disk x)) served h
  honest_before s (line ∷ lines) (reply ∷ replies) t served h =
      served.1.honest (honest_before served.0 lines replies t served.3 h)
  honest_before s [] (reply ∷ replies) t served h = absurd served
  honest_before s (line ∷ lines) [] t served h = absurd served

  works_before : (s : Told D) (lines replies : List (List ℕ)) (t : Told D) → Served Line_lasts told s lines replies t → Works (disk t) → Works (disk s)
  works_before s [] [] t served w = subst (λ (x : Told D). Works (disk x)) served w
  works_before s (line ∷ lines) (reply ∷ replies) t served w =
      served.1.works (works_before served.0 lines replies t served.3 w)
  works_before s [] (reply ∷ replies) t served w = absurd served
  works_before s (line ∷ lines) [] t served w = absurd served

  pub none_fails : (s : Told D) (lines replies : List (List ℕ)) (t : Told D) (texts : KitTexts) → Served Line_lasts told s lines replies t → (held_of s.0).broken ≡ false
      → Carries state s.0 texts → Honest (disk t) → Works (disk t) → NoneFails replies
  none_fails s [] [] t texts served whole carried h w = tt
  none_fails s (line ∷ lines) (reply ∷ replies) t texts served whole carried h w =
      let mid = served.0 in
      let honest = honest_before mid lines replies t served.3 h in
      let works = works_before mid lines replies t served.3 w in
      let lasts = served.1 in
      let calm : tells_failure (told mid) ≡ false = not_true (tells_failure (told mid)) (λ failed. lasts.device failed honest texts carried works) in
      let still_whole = lasts.breaks calm ∙ whole in
      (ap tells_failure served.2 ∙ calm, none_fails mid lines replies t texts served.3 still_whole (lasts.carries honest still_whole texts carried) h w)
  none_fails s [] (reply ∷ replies) t texts served whole carried h w = absurd served
  none_fails s (line ∷ lines) [] t texts served whole carried h w = absurd served

  not_while_broken : (s : Told D) (line : List ℕ) → (held_of s.0).broken ≡ true → (r : TableRequest) → ¬ Asks (held_of s.0) line r
  not_while_broken s line broken r asks = let both : true ≡ false = sym broken ∙ asks.whole in absurd cc

  -- once the device has failed nothing is written
  still : (s : Told D) (lines replies : List (List ℕ)) (t : Told D) → Served Line_lasts told s lines replies t → (held_of s.0).broken ≡ true → disk t ≡ disk s
  still s [] [] t served broken = ap disk served
  still s (line ∷ lines) (reply ∷ replies) t served broken =
      let here = served.1.unasked (not_while_broken s (taken line) broken) in
      still served.0 lines replies t served.3 (ap (λ (x : Held). x.broken) here.same_held ∙ broken) ∙ ap (λ (l : Log D TableRules). log.disk_of l) here.same_file
  still s [] (reply ∷ replies) t served broken = absurd served
  still s (line ∷ lines) [] t served broken = absurd served

  -- a first line, and then the others, of which nothing is written where the device failed in the first
  onwards : (texts : KitTexts) (s : Told D) (line reply : List ℕ) (lines replies : List (List ℕ)) (t : Told D) (way : Served Line_lasts told s (line ∷ lines) (reply ∷ replies) t)
      → Honest (disk way.0) → Carries state s.0 texts
      → (Carries state way.0.0 texts → Leaves way.0 t (StandsAlong Honest Works state past faults writes syncs texts way.0 lines replies t way.3))
      → (broken : Bool) → (held_of way.0.0).broken ≡ broken → Leaves s t (StandsAlong Honest Works state past faults writes syncs texts s (line ∷ lines) (reply ∷ replies) t way)
  onwards texts s line reply lines replies t way honest carried others false unbroken =
      joins (weaker (way.1.stops honest texts carried) (StandsAlong Honest Works state past faults writes syncs texts s (line ∷ lines) (reply ∷ replies) t way) (λ image opens. inl opens))
      (weaker (others (way.1.carries honest unbroken texts carried)) (StandsAlong Honest Works state past faults writes syncs texts s (line ∷ lines) (reply ∷ replies) t way) (λ image o. inr o))
  onwards texts s line reply lines replies t way honest carried others true broken =
      let same : disk t ≡ disk way.0 = still way.0 lines replies t way.3 broken in
      stays (weaker (way.1.stops honest texts carried) (StandsAlong Honest Works state past faults writes syncs texts s (line ∷ lines) (reply ∷ replies) t way) (λ image opens. inl opens))
      (ap past same) (ap state same)

  pub along : (texts : KitTexts) (s : Told D) (lines replies : List (List ℕ)) (t : Told D) (way : Served Line_lasts told s lines replies t) → Honest (disk t) → Carries state s.0 texts
      → Leaves s t (StandsAlong Honest Works state past faults writes syncs texts s lines replies t way)
  along texts s [] [] t way h carried =
      let P = StandsAlong Honest Works state past faults writes syncs texts s [] [] t way in
      subst (λ (x : Told D). Leaves s x P) (sym way)
      (started (past (disk s)) (state (disk s)) P (λ image is. carried_keeps state s.0 texts carried image is))
  along texts s (line ∷ lines) (reply ∷ replies) t way h carried =
      onwards texts s line reply lines replies t way (honest_before way.0 lines replies t way.3 h) carried
      (λ carries. along texts way.0 lines replies t way.3 h carries) (held_of way.0.0).broken refl
  along texts s [] (reply ∷ replies) t way h carried = absurd way
  along texts s (line ∷ lines) [] t way h carried = absurd way
