use Rattle.rr_images.proofs.Calls.{shuts_stale, fills_root, opens_root, flips_roots}
use Rattle.rr_images.proofs.GoesOn.{goes_stale, goes_flip}
use Rattle.rr_pages.specs.Roots.{Shut}
use Rattle.rr_images.proofs.laws.roots_change_places.Goals as goal

pub returns : goal.returns
returns g c =
    let codec = g.C.Codec.codec in
    record {
      shut = λ layout state world plan stays between. shuts_stale codec layout state world stays plan between;
      filled = λ layout state world plan stays between. fills_root codec layout state world stays plan between;
      opened = λ layout state world plan lines stays begun between. opens_root codec layout state world stays plan lines begun between;
      flipped = λ layout state world plan lines stays begun between. flips_roots codec layout state world stays plan lines begun between;
      goes_on_shut = λ layout half number goes_on. goes_stale codec layout half number goes_on Shut;
      goes_on_flipped = λ layout half number plan lines world begun next goes_on. goes_flip codec layout half number goes_on plan.root plan.holding lines world begun next;
    }
