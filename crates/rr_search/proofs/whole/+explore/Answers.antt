use Rattle.std.proofs.Common.{◌≡◌, ◌+◌, ◌<◌, List, length, set, ap, sym, subst, ◌∙◌, inl, inr, arith}
use Rattle.std.proofs.lemmas.Bool.{cases_eq}
use Rattle.std.proofs.lemmas.List.{set-set, length-set}
use Rattle.rr_routes.specs.declared.certificate.Fate.{Fate}
use Rattle.rr_routes.specs.declared.certificate.Fate.TheVariants.{Open}
use Rattle.rr_routes.specs.declared.net.CentreLimit.{CentreLimit}
use Rattle.rr_routes.specs.declared.net.Link.{Link}
use Rattle.rr_routes.specs.Routes.{earned}
use Rattle.rr_routes.specs.Certificates.{fate_of, Keeps}
use Rattle.rr_checker.specs.Choices.{choice_at}
use Rattle.rr_checker.proofs.JudgeLemmas.{set_back}
use Rattle.rr_search.specs.Found.{IsBestUnder}
use Rattle.rr_search.proofs.WholeLemmas.{kept_choice, decided_next, next_open}
use Rattle.rr_search.proofs.whole.+explore.Goals as goal

pub loop-place-preserved : goal.loop-place-preserved
loop-place-preserved t c =
    let fates : List Fate = c.args.fates.now.items in
    let link = c.args.link in
    let now : List Fate = set c.loop-place.fates.items link c.choice_at.result in
    let set_now : now ≡ set fates link (choice_at c.loop-place.place) =
    ap (λ (fate : Fate). set c.loop-place.fates.items link fate) c.choice_at.ensures ∙ c.loop-place.invariant.elsewhere (choice_at c.loop-place.place) in
    let same : c.explore.new.fates.items ≡ now = c.in_ok-found.ensures.same in
    let best : IsBestUnder c.args.net.now now c.loop-place.found c.in_ok-found.found = c.in_ok-found.ensures.best in
    record {
      as_long = ap (λ (xs : List Fate). length xs) same ∙ length-set c.loop-place.fates.items link c.choice_at.result ∙ c.loop-place.invariant.as_long;
      elsewhere = λ choice. ap (λ (xs : List Fate). set xs link choice) same ∙ set-set c.loop-place.fates.items link c.choice_at.result choice ∙ c.loop-place.invariant.elsewhere choice;
      sound = best.sound;
      no_less = λ amount earns. best.no_less amount (c.loop-place.invariant.no_less amount earns);
      most = λ k less run is_run keeps. elim (cases_eq k c.loop-place.place) [
        | inl same_place ↦ best.most run is_run
            (subst (λ (fs : List Fate). Keeps fs run) (ap (λ place. set fates link (choice_at place)) same_place ∙ sym set_now) keeps)
        | inr differ ↦ best.no_less (earned c.args.net.now run) (c.loop-place.invariant.most k (omega arith) run is_run keeps)
      ];
    }

pub returns-clause-best : goal.returns-clause-best
returns-clause-best t c =
    let count = ap (λ (ls : List Link). length ls) c.links.ensures in
    let trains = ap (λ (ts : List CentreLimit). length ts) c.trains.ensures in
    let inside : c.args.link < length c.args.net.now.links = (let most = c.requires.inside in omega (arith, count, most)) in
    record {
      sound = c.loop-place.invariant.sound;
      no_less = c.loop-place.invariant.no_less;
      most = λ run is_run keeps.
          let choice = kept_choice c.args.net.now run is_run c.args.fates.now.items keeps c.args.link (next_open c.args.net.now c.args.fates.now.items c.args.link c.requires.decided inside) in
          c.loop-place.invariant.most choice.0 (let less = choice.1 in omega (arith, less, trains)) run is_run choice.2;
    }

pub returns-clause-same : goal.returns-clause-same
returns-clause-same t c =
    let count = ap (λ (ls : List Link). length ls) c.links.ensures in
    let inside : c.args.link < length c.args.net.now.links = (let most = c.requires.inside in omega (arith, count, most)) in
    c.loop-place.invariant.elsewhere Open
    ∙ set_back c.args.fates.now.items c.args.link (next_open c.args.net.now c.args.fates.now.items c.args.link c.requires.decided inside)
