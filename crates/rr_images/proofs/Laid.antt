-- Chains that are laid one after another into free pages.
use Rattle.std.proofs.Common.{◌≡◌, ℕ, Bool, List, [], ◌∷◌, ◌++◌, length, refl, sym, ◌∙◌, ap, subst}
use Rattle.std.proofs.lemmas.List.{append_assoc, append-nil}
use Rattle.rr_pages.specs.declared.chain.FreshPage.{FreshPage}
use Rattle.rr_pages.specs.Chains.{Links, Chain}
use Rattle.rr_pages.specs.Laying.{head_of, laid}
use Rattle.rr_pages.specs.Sets.{Has, AreFree, TakesFree, marked}
use Rattle.rr_pages.specs.Writing.{IsLaid}
use Rattle.rr_pages.proofs.SetLemmas.{TookFree, took_free, free_none}
use Rattle.rr_images.specs.Plans.{LaidChain, all_laid, laid_pages, AllFit, AreLaid}
use Rattle.rr_images.specs.Laws.{OneLaid}

links_begin : (file : List ℕ) (head : ℕ) (pages text : List ℕ) → Links file head pages text → head ≡ head_of pages
links_begin file head [] text links = links.0
links_begin file head (page ∷ pages) text links = links.0

pub chains_begin : (file : List ℕ) (head : ℕ) (pages text : List ℕ) → Chain file head pages text → head ≡ head_of pages
chains_begin file head pages text chain = links_begin file head pages text chain.1

pub nothing_laid : (present coming : List Bool) → AreLaid present coming coming [] []
nothing_laid present coming = record { to_write = refl; fit = tt; taken = refl }

laid_last : (chains : List LaidChain) (chain : LaidChain) → all_laid (chains ++ chain ∷ []) ≡ all_laid chains ++ laid chain.pages chain.pieces
laid_last [] chain = append-nil (laid chain.pages chain.pieces)
laid_last (first ∷ chains) chain =
    ap (λ (xs : List (ℕ × List ℕ)). laid first.pages first.pieces ++ xs) (laid_last chains chain)
    ∙ sym (append_assoc (laid first.pages first.pieces) (all_laid chains) (laid chain.pages chain.pieces))

pages_last : (chains : List LaidChain) (chain : LaidChain) → laid_pages (chains ++ chain ∷ []) ≡ laid_pages chains ++ chain.pages
pages_last [] chain = append-nil chain.pages
pages_last (first ∷ chains) chain = ap (λ (xs : List ℕ). first.pages ++ xs) (pages_last chains chain) ∙ sym (append_assoc first.pages (laid_pages chains) chain.pages)

fit_last : (chains : List LaidChain) (chain : LaidChain) → AllFit chains → AllFit (chain ∷ []) → AllFit (chains ++ chain ∷ [])
fit_last [] chain fit one = one
fit_last (first ∷ chains) chain fit one = (fit.0, fit_last chains chain fit.1 one)

takes_on : (present coming between after : List Bool) (xs ys : List ℕ) → TakesFree present coming xs between → TakesFree present between ys after → TakesFree present coming (xs ++ ys) after
takes_on present coming between after [] ys first then = subst (λ (marks : List Bool). TakesFree present marks ys after) first then
takes_on present coming between after (x ∷ xs) ys first then = (first.0, takes_on present (marked coming x) between after xs ys first.1 then)

pub one_more_laid : (present coming between after : List Bool) (fresh more : List FreshPage) (chains : List LaidChain) (bytes : List ℕ) (head : ℕ) → AreLaid present coming between fresh chains
    → IsLaid present between after bytes fresh more head → OneLaid present coming after more chains bytes head
one_more_laid present coming between after fresh more chains bytes head so_far is =
    let chain : LaidChain = record { pages = is.pages; pieces = is.pieces } in
    record {
      chain = chain;
      whole = is.whole;
      first = is.first;
      laid = record {
        to_write = is.fresh ∙ (ap (λ (xs : List (ℕ × List ℕ)). xs ++ laid is.pages is.pieces) so_far.to_write ∙ sym (laid_last chains chain));
        fit = fit_last chains chain so_far.fit (is.fit, tt);
        taken = subst (λ (pages : List ℕ). TakesFree present coming pages after) (sym (pages_last chains chain)) (takes_on present coming between after (laid_pages chains) is.pages so_far.taken is.taken);
      };
    }

pub laid_are_free : (present coming after : List Bool) (reached kept : List ℕ) (fresh : List FreshPage) (chains : List LaidChain) → length coming ≡ 65536 → Has present reached → Has coming kept → AreLaid present coming after fresh chains
    → AreFree reached (laid_pages chains) × Has after (kept ++ laid_pages chains)
laid_are_free present coming after reached kept fresh chains whole has_present has_coming are =
    let took : TookFree reached kept (laid_pages chains) after =
    took_free present coming after reached kept [] (laid_pages chains) whole has_present (subst (λ (pages : List ℕ). Has coming pages) (sym (append-nil kept)) has_coming) (free_none reached) are.taken in
    (took.free, took.has)
