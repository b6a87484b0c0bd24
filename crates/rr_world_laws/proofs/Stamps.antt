-- Each accepted request raises the sum of all stamps by one.
use Rattle.std.proofs.Common.{◌≡◌, ◌+◌, List, [], ◌∷◌, ◌++◌, length, refl, ap, arith, length-append}
use Rattle.rr_kit.specs.declared.kit.Kit.{Kit}
use Rattle.rr_tables.specs.Records.World.{Follows, TableRequest, World, requests_in, world_after}
use Rattle.rr_tables.proofs.RecordLemmas.WorldLemmas.{requests_after}
use Rattle.rr_world_laws.specs.Worlds.{WorldsDiffer}

requests_follow : (kit : Kit) (old new : World) (rs : List TableRequest) → Follows kit old rs new → requests_in new ≡ requests_in old + length rs
requests_follow kit old new [] same = let e = ap requests_in same in omega (arith, e)
requests_follow kit old new (r ∷ rs) follows =
    let more = requests_follow kit (world_after kit old r.name r.request) new rs follows.1 in
    let here = requests_after kit old r.name r.request in
    omega (arith, more, here)

none_left : (rs : List TableRequest) → length rs ≡ 0 → rs ≡ []
none_left [] e = refl
none_left (r ∷ rs) e = absurd (omega (arith, e))

pub worlds_differ : WorldsDiffer
worlds_differ kit first before after requests more short long same =
    let one = requests_follow kit first before requests short in
    let two = requests_follow kit first after (requests ++ more) long in
    let e = ap requests_in same in
    let n = length-append requests more in
    none_left more (omega (arith, one, two, e, n))
