use Rattle.std.proofs.Common.{◌≡◌, ◌∙◌, length}
use Rattle.std.specs.List.{filter}
use Rattle.rr_checker.specs.Own.{is_crowded, is_shared, is_touched_on}
use Rattle.rr_checker.proofs.own.is_bad.Goals as goal
use Rattle.rr_checker.proofs.OwnLemmas.{Decides-bad, same_crowded, same_shared, touched_ranked}

pub returns : goal.returns
returns c =
    let net = c.args.net.now in
    let fates = c.args.fates.now in
    let tracks = c.args.tracks.now in
    let own = c.in_ok-own.own.items in
    let others = c.in_ok-others.others.items in
    let index = c.in_ok-own_index.own_index in
    let indexed = rw c.deref-2.ensures.value at (c.in_ok-own_index.ensures {u = tt}) in
    let crowded : c.is_crowded_on-crowded.result ≡ is_crowded net own =
    (rw c.deref-5.ensures.value at c.is_crowded_on-crowded.ensures) ∙ same_crowded net own index indexed in
    let shared : c.is_shared_on-shared.result ≡ is_shared net own others =
    (rw c.deref-6.ensures.value at c.is_shared_on-shared.ensures)
    ∙ same_shared net fates c.args.train own others c.in_ok-others_index.others_index (rw c.deref-3.ensures.value at (c.in_ok-others_index.ensures {u = tt})) in
    let touched : c.touched_count-touched.result ≡ length (filter (is_touched_on net index) tracks.centres.items) =
    rw c.deref-4.ensures.value at c.touched_count-touched.ensures in
    rw (c.runs_badly.ensures, crowded, shared, touched, c.deref-7.ensures.value, c.deref-8.ensures.value)
    (Decides-bad net fates c.args.train own others (filter (is_touched_on net index) tracks.centres.items) c.in_ok-ends.ends.items c.in_ok-reached.reached.items
    (c.in_ok-own.ensures {u = tt}) (c.in_ok-others.ensures {u = tt}) ((c.in_ok-ends.ensures {u = tt}) net c.requires) (rw c.deref.ensures.value at (c.in_ok-reached.ensures {u = tt}))
    (touched_ranked net own index indexed tracks.steps.items tracks.centres.items c.requires.walks.all c.requires.ranked))
