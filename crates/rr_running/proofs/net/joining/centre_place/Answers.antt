use Rattle.std.proofs.Common.{ℕ, ◌∙◌, List, ap, length}
use Rattle.std.specs.Prelude.{unwrap_or, find}
use Rattle.rr_running.specs.Net.Joining.{is_stop_at}
use Rattle.rr_routes.specs.Reachability.Index.{noted_at}
use Rattle.rr_running.specs.Net.Indexing.{passes_at}
use Rattle.rr_running.proofs.NetLemmas.IndexLemmas.{stop_found}
use Rattle.rr_running.proofs.net.joining.centre_place.Goals as goal

pub returns : goal.returns
returns c =
    let first = λ (places : List ℕ). unwrap_or (find (passes_at (is_stop_at c.args.at.now) c.args.stops.now) places) (length c.args.stops.now) in
    c.unwrap_or.ensures
    ∙ ap (λ found. unwrap_or found (length c.args.stops.now)) c.first_stop.ensures
    ∙ ap first c.noted_at.ensures
    ∙ ap (λ key. first (noted_at c.args.index.now key)) c.centre_key.ensures
    ∙ stop_found c.args.stops.now c.args.index.now c.args.at.now c.requires
