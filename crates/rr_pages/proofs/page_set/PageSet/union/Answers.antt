use Rattle.std.proofs.Common.{◌≡◌, ℕ, length, get_or, sym, ap, ap₂, ◌∙◌, subst, arith}
use Rattle.rr_pages.specs.Marks.{marks_in, NoneFrom}
use Rattle.rr_pages.proofs.MarkLemmas.{length-marks_in, united}
use Rattle.rr_pages.proofs.WordLemmas.{none_united, bit_of-or}
use Rattle.std.proofs.Common.{List, ◌++◌, take, drop, ◌||◌}
use Rattle.std.proofs.lemmas.List.{take_at}
use Rattle.std.specs.Int.Bits.{bit_or}
use lib.Lanes.{zip2}
use Rattle.rr_pages.proofs.PageSetLemmas.{fit_of}
use Rattle.rr_pages.proofs.page_set.PageSet.union.Goals as goal

-- what the writes leave is what `or_words` left
left : (own new : List ℕ) (n : ℕ) → length new ≡ n → take n (new ++ drop (length new) own) ≡ new
left own new n long = take_at new (drop (length new) own) n long

pub or_words-requires : goal.or_words-requires
or_words-requires c =
    let own = c.args.self.now in
    let other = c.args.other.now in
    omega (arith, (fit_of own).whole, (fit_of other).whole, length-marks_in own.pages own.words.items, length-marks_in other.pages other.words.items, ap length c.deref_mut.ensures.value, ap length c.deref.ensures.value)

pub invariant_of-self : goal.invariant_of-self
invariant_of-self c =
    let own = c.args.self.now in
    let other = c.args.other.now in
    let same : other.pages ≡ own.pages = sym (length-marks_in other.pages other.words.items) ∙ c.requires ∙ length-marks_in own.pages own.words.items in
    let e = left own.words.items c.or_words.new.into own.words.len (omega (arith, c.deref_mut.ensures.len)) in
    let each = bit_of-or own.words.items other.words.items c.or_words.new.into
    (λ j. c.or_words.ensures j ∙ ap₂ (λ a b. bit_or (get_or a j 0) (get_or b j 0)) c.deref_mut.ensures.value c.deref.ensures.value) in
    let past = subst (NoneFrom own.pages) (sym e) (none_united own.pages own.words.items other.words.items c.or_words.new.into (fit_of own).past (λ page past. (fit_of other).past page (omega arith)) each) in
    record { sound = ∣ record { whole = omega (arith, ap length e, c.deref_mut.ensures.len, own.words.ok, (fit_of own).whole); past = past } ∣₁ }

pub returns : goal.returns
returns c =
    let own = c.args.self.now in
    let other = c.args.other.now in
    let same : other.pages ≡ own.pages = sym (length-marks_in other.pages other.words.items) ∙ c.requires ∙ length-marks_in own.pages own.words.items in
    let e = left own.words.items c.or_words.new.into own.words.len (omega (arith, c.deref_mut.ensures.len)) in
    let each = bit_of-or own.words.items other.words.items c.or_words.new.into
    (λ j. c.or_words.ensures j ∙ ap₂ (λ a b. bit_or (get_or a j 0) (get_or b j 0)) c.deref_mut.ensures.value c.deref.ensures.value) in
    ap (marks_in own.pages) e ∙ united own.pages own.words.items other.words.items c.or_words.new.into each
    ∙ ap (λ n. zip2 (λ a b. a || b) (marks_in own.pages own.words.items) (marks_in n other.words.items)) (sym same)
