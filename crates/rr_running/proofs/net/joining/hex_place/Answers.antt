use Rattle.std.proofs.Common.{ℕ, ◌∙◌, List, ap, length}
use Rattle.std.specs.Prelude.{unwrap_or, find}
use Rattle.rr_kit.specs.Board.Plan.{has_name}
use Rattle.rr_routes.specs.Reachability.Index.{noted_at}
use Rattle.rr_running.specs.Net.Indexing.{passes_at}
use Rattle.rr_running.proofs.NetLemmas.IndexLemmas.{hex_found}
use Rattle.rr_running.proofs.net.joining.hex_place.Goals as goal

pub returns : goal.returns
returns c =
    let first = λ (places : List ℕ). unwrap_or (find (passes_at (has_name c.args.name.now) c.args.hexes.now) places) (length c.args.hexes.now) in
    c.unwrap_or.ensures
    ∙ ap (λ found. unwrap_or found (length c.args.hexes.now)) c.first_hex.ensures
    ∙ ap first c.noted_at.ensures
    ∙ ap (λ key. first (noted_at c.args.index.now key)) c.name_key.ensures
    ∙ hex_found c.args.hexes.now c.args.index.now c.args.name.now c.requires
