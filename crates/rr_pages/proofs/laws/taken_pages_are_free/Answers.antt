use Rattle.std.proofs.Common.{ℕ, List, [], sym, subst}
use Rattle.std.proofs.lemmas.List.{append-nil}
use Rattle.rr_pages.specs.Sets.{Has}
use Rattle.rr_pages.proofs.SetLemmas.{free_none, took_free}
use Rattle.rr_pages.proofs.laws.taken_pages_are_free.Goals as goal

pub returns : goal.returns
returns c = λ present coming after reached kept pages marks has_present has_coming takes.
    let took = took_free present coming after reached kept [] pages marks has_present (subst (λ (ps : List ℕ). Has coming ps) (sym (append-nil kept)) has_coming) (free_none reached) takes in
    (took.free, took.has)
