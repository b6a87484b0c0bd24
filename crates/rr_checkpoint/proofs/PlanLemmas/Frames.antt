-- What taking pages leaves as it was, over several calls.
use Rattle.std.proofs.Common.{true, false, suc, arith, ◌≡◌, ℕ, ◌+◌, ◌<◌, Bool, List, [], ◌∷◌, ◌++◌, length, take, get_or, refl, sym, ◌∙◌, ap}
use Rattle.std.proofs.lemmas.List.{take_more}
use Rattle.std.specs.Option.{unwrap_or}
use Rattle.rr_checkpoint.specs.declared.writer.Writer.{Writer}
use Rattle.rr_checkpoint.specs.Pages.{pages_with}
use Rattle.rr_checkpoint.specs.Planning.{coming_root_of}
use Rattle.rr_checkpoint.specs.Writer.{ticks_left_of}
use Rattle.rr_images.specs.Codec.{Codec}
use Rattle.rr_pages.specs.declared.chain.FreshPage.{FreshPage}
use Rattle.rr_pages.specs.declared.root.TheConstants.{NEWEST_VERSION}
use Rattle.rr_pages.specs.Sets.{Has, marked, all_marked}
use Rattle.rr_pages.proofs.SetLemmas.{marked_last}
use Rattle.rr_checkpoint.specs.Plan.Writing.{OnlyTakes}
use Rattle.rr_pages.specs.Journal.Layout.{other_half}

pub stays : {C : Type 0} (codec : Codec) (writer : Writer C) → ticks_left_of writer ≡ 0 → OnlyTakes codec writer writer
stays codec writer resting =
    record { resting = resting; taken = refl; place = refl; present = refl; carries = λ state world carries. (carries, refl) }

pub onward : {C : Type 0} (codec : Codec) (old between new : Writer C) → OnlyTakes codec old between → OnlyTakes codec between new → OnlyTakes codec old new
onward codec old between new first then =
    record {
      resting = then.resting;
      taken = then.taken ∙ first.taken;
      place = then.place ∙ first.place;
      present = then.present ∙ first.present;
      carries = λ state world carries.
          let one = first.carries state world carries in
          let two = then.carries state world one.0 in
          (two.0, two.1 ∙ one.1);
    }

-- and the coming root is the same
pub same_root : {C : Type 0} (codec : Codec) (old new : Writer C) (head : ℕ) (fresh : List FreshPage) → OnlyTakes codec old new → coming_root_of new head fresh ≡ coming_root_of old head fresh
same_root codec old new head fresh only = λ i.
    record {
      number = (only.taken i).root.number + 1;
      directory = head;
      half = other_half (only.taken i).root.half;
      first = unwrap_or (only.place i).begun (only.place i).number;
      pages = pages_with (only.taken i).root.pages fresh;
      version = NEWEST_VERSION;
    }

-- pages that are put into a set behind others
pub marked_on : (marks : List Bool) (pages more : List ℕ) → all_marked marks (pages ++ more) ≡ all_marked (all_marked marks pages) more
marked_on marks [] more = refl
marked_on marks (page ∷ pages) more = marked_on (marked marks page) pages more

pub four_marked : (m0 m1 m2 m3 m4 : List Bool) (a b d e : List ℕ) → m1 ≡ all_marked m0 a → m2 ≡ all_marked m1 b → m3 ≡ all_marked m2 d → m4 ≡ all_marked m3 e → m4 ≡ all_marked m0 (a ++ (b ++ (d ++ e)))
four_marked m0 m1 m2 m3 m4 a b d e h1 h2 h3 h4 =
    let joined : all_marked m0 (a ++ (b ++ (d ++ e))) ≡ all_marked (all_marked (all_marked (all_marked m0 a) b) d) e =
    marked_on m0 a (b ++ (d ++ e)) ∙ (marked_on (all_marked m0 a) b (d ++ e) ∙ marked_on (all_marked (all_marked m0 a) b) d e) in
    h4 ∙ (ap (λ (m : List Bool). all_marked m e) h3 ∙ (ap (λ (m : List Bool). all_marked (all_marked m d) e) h2 ∙ (ap (λ (m : List Bool). all_marked (all_marked (all_marked m b) d) e) h1 ∙ sym joined)))

-- one page more of a list
pub one_marked : (start now after : List Bool) (pages : List ℕ) (n : ℕ) → n < length pages → now ≡ all_marked start (take n pages) → after ≡ marked now (get_or pages n 0) → after ≡ all_marked start (take (n + 1) pages)
one_marked start now after pages n within so_far is =
    is ∙ (ap (λ (m : List Bool). marked m (get_or pages n 0)) so_far
    ∙ (sym (marked_last start (take n pages) (get_or pages n 0)) ∙ ap (λ (ps : List ℕ). all_marked start ps) (sym (take_more pages n 0 within))))

-- two sets of as many marks are one where they have the same pages
same_truth : (first second : Bool) → (first ≡ true → second ≡ true) → (second ≡ true → first ≡ true) → first ≡ second
same_truth true second one other = sym (one refl)
same_truth false true one other = other refl
same_truth false false one other = refl

one_list : (first second : List Bool) → length first ≡ length second → ((page : ℕ) → get_or first page false ≡ get_or second page false) → first ≡ second
one_list [] [] long same = refl
one_list [] (mark ∷ second) long same = absurd (omega (arith, long))
one_list (mark ∷ first) [] long same = absurd (omega (arith, long))
one_list (mark ∷ first) (other ∷ second) long same =
    let rest = one_list first second (omega (arith, long)) (λ page. same (suc page)) in
    λ i. same 0 i ∷ rest i

pub same_marks : (first second : List Bool) (pages : List ℕ) → length first ≡ length second → Has first pages → Has second pages → first ≡ second
same_marks first second pages long one other =
    one_list first second long
    (λ page. same_truth (get_or first page false) (get_or second page false) (λ is. (other page).1 ((one page).0 is)) (λ is. (one page).1 ((other page).0 is)))
