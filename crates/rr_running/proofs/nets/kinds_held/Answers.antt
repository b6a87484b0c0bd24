use Rattle.std.proofs.Common.{◌≡◌, ℕ, sym, ◌∙◌, ap, take, arith}
use Rattle.std.specs.List.{flat_map}
use Rattle.std.proofs.Math.Path.{fun_ext}
use Rattle.rr_roster.specs.Company.{kinds}
use Rattle.rr_books.specs.declared.certificates.Train.{Train}
use Rattle.rr_books.specs.State.{train_place_of}
use Rattle.rr_market.specs.Operations.Phases.{TrainHolders}
use Rattle.rr_running.specs.Running.{kinds_held, of_kind}
use Rattle.rr_running.proofs.nets.kinds_held.Goals as goal

pub returns-clause-shown : goal.returns-clause-shown
unfolding kinds_held
returns-clause-shown c =
    let all : c.loop-kind.kind-index ≡ 6 = omega arith in
    c.loop-kind.invariant.items ∙ ap (λ (n : ℕ). flat_map (of_kind (train_place_of c.args.books.now) c.args.corp) (take n kinds)) all

pub returns-clause-book : goal.returns-clause-book
returns-clause-book c book h =
    returns-clause-shown c ∙ ap (λ (T : TrainHolders). kinds_held T c.args.corp) (fun_ext (λ (t : Train). sym (h.train_holders t)))
