-- The example's steps, one by one.
use Rattle.std.proofs.Common.{◌≡◌, inl, inr, ℕ, List, [], ◌∷◌, Option, None, Some, refl, sym, ◌∙◌, ap, subst, arith, length, length-append}
use Rattle.rr_disk.specs.Disk.{IsImage}
use Rattle.rr_disk.specs.Replay.{settled_state}
use Rattle.rr_images.specs.Schedules.Worlds.{AreWorlds}
use Rattle.rr_images.specs.Schedules.Schedule.{Ending, Done, Cut, Opened, Ended, Goes_on, Commits, Ticks, Opens, Folds, KeepsThe, KeepsWith, MayOpen, StandsOnlyFor}
use Rattle.rr_images.specs.Schedules.Example.{lists, IsExample}
use Rattle.rr_images.proofs.ScheduleLemmas.Schedules.{each_stopped}

are_worlds : AreWorlds lists
are_worlds =
    record {
      stands = λ image world kept. kept;
      one = λ command old first second to_first to_second. to_first ∙ sym to_second;
      moves = λ command world same. absurd (omega (arith, ap (λ (commands : List ℕ). length commands) same, length-append world (command ∷ [])));
    }

itself : (image : List ℕ) → IsImage (settled_state image) image
itself image = record { no_shorter = omega arith; no_longer = omega arith; kept = λ i h out. refl }

opens : (image : List ℕ) → MayOpen lists (settled_state image) [] (settled_state image) (Opened image)
opens image = (tt, (image, itself image), each_stopped image (λ file. IsImage (settled_state image) file × StandsOnlyFor lists image file) (itself image, λ other is. sym is))

is_done : Ending → Type 0
is_done Done = Unit {0}
is_done _ = ⊥

cut_not_done : {image : List ℕ} → Cut image ≡ Done → ⊥
unfolding is_done
cut_not_done {image} is = subst is_done (sym is) tt

value_or : ℕ → Option ℕ → ℕ
value_or default None = default
value_or default (Some value) = value

shorter : Folds lists [] (5 ∷ []) (5 ∷ 7 ∷ []) → ⊥
shorter folds = absurd (omega (arith, ap (λ (commands : List ℕ). length commands) (sym folds.1 ∙ folds.2)))

pub example : IsExample
unfolding value_or
example = (
  are_worlds,
  Goes_on _ _ _ _ _ (Opens [] [] (settled_state []) [] (opens []) (record { without = λ folds. refl; with = λ none command is. absurd (none refl) }))
      (Goes_on _ _ _ _ _ (Commits [] (5 ∷ []) 5 [] (settled_state (5 ∷ [])) Done refl (tt, (5 ∷ [], refl, each_stopped (5 ∷ []) (KeepsThe lists (5 ∷ [])) refl)) (λ done. refl))
      (Goes_on _ _ _ _ _ (Ticks (5 ∷ []) [] (settled_state (5 ∷ [])) Done refl (tt, each_stopped (5 ∷ []) (KeepsThe lists (5 ∷ [])) refl))
      (Goes_on _ _ _ _ _ (Commits (5 ∷ []) (5 ∷ []) 7 (settled_state (5 ∷ 7 ∷ []) ∷ []) (settled_state (5 ∷ [])) (Cut (5 ∷ 7 ∷ [])) refl
      ((each_stopped (5 ∷ 7 ∷ []) (KeepsWith lists (5 ∷ []) 7) (inr (5 ∷ 7 ∷ [], refl, refl)), tt), inl (itself (5 ∷ 7 ∷ []))) (λ done. absurd (cut_not_done done)))
      (Goes_on _ _ _ _ _ (Opens (5 ∷ 7 ∷ []) [] (settled_state (5 ∷ 7 ∷ [])) (5 ∷ 7 ∷ []) (opens (5 ∷ 7 ∷ []))
      (record { without = λ folds. absurd (shorter folds); with = λ none command is. ap (λ (pending : Option ℕ). 5 ∷ value_or 0 pending ∷ []) is }))
      (Ended _))))),
)
