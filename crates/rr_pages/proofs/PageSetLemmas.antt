-- What the words of a set of pages are.
use Rattle.std.proofs.Math.Logic.{∥∥₁_elim}
use native.Mathlib.Nat.{ℕ_set}
use Rattle.rr_pages.specs.Marks.{AreWordsFor}
use Rattle.rr_pages.specs.declared.page_set.PageSet.{PageSet}

pub fit_of : (set : PageSet) → AreWordsFor set.pages set.words.items
fit_of set = record { whole = ∥∥₁_elim set.sound (ℕ_set _ _) (λ are. are.whole); past = λ page from. ∥∥₁_elim set.sound (ℕ_set _ _) (λ are. are.past page from) }
