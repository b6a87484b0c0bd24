use Rattle.std.proofs.Common.{◌≡◌, false, sym, ◌∙◌}
use Rattle.rr_checker.specs.Steps.{follows, is_terminal}
use Rattle.rr_checker.specs.Index.{noted_at}
use Rattle.rr_routes.specs.Reachability.Places.{ArePassing}
use Rattle.rr_checker.proofs.TrackLemmas.{followers_found}
use Rattle.rr_checker.proofs.tracks.followers_of.Goals as goal

pub returns : goal.returns
returns c =
    let goes : is_terminal c.args.net.now c.args.step.now.to ≡ false = sym c.is_terminal.ensures ∙ c.if-is_terminal.false in
    let those : ArePassing (follows c.args.steps.now c.args.step.now) (noted_at c.args.index.now c.args.step.now.to) c.in_ok-followers.followers =
    rw c.noted_at.ensures at (c.in_ok-followers.ensures {u = tt}) in
    followers_found c.args.steps.now c.args.net.now c.args.step.now c.args.index.now c.requires goes c.in_ok-followers.followers those
