use Rattle.std.proofs.Common.{ℕ, ◌∙◌, List, ap, length}
use Rattle.std.specs.Prelude.{unwrap_or, find}
use Rattle.rr_network.specs.Node.{same_hexside}
use Rattle.rr_routes.specs.Reachability.Index.{noted_at}
use Rattle.rr_running.specs.Net.Indexing.{passes_at}
use Rattle.rr_running.proofs.NetLemmas.IndexLemmas.{side_found}
use Rattle.rr_running.proofs.net.joining.side_place.Goals as goal

pub returns : goal.returns
returns c =
    let first = λ (places : List ℕ). unwrap_or (find (passes_at (same_hexside c.args.side.now) c.args.sides.now) places) (length c.args.sides.now) in
    c.unwrap_or.ensures
    ∙ ap (λ found. unwrap_or found (length c.args.sides.now)) c.first_side.ensures
    ∙ ap first c.noted_at.ensures
    ∙ ap (λ key. first (noted_at c.args.index.now key)) c.hexside_key.ensures
    ∙ side_found c.args.sides.now c.args.index.now c.args.side.now c.requires
