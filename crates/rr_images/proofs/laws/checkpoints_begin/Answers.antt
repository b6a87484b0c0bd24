use Rattle.rr_images.proofs.Calls.{begins, not_begun}
use Rattle.rr_images.proofs.GoesOn.{goes_begun}
use Rattle.rr_images.proofs.laws.checkpoints_begin.Goals as goal

pub returns : goal.returns
returns g c =
    let codec = g.C.Codec.codec in
    record {
      begun = λ layout state world stays none each. begins codec layout state world stays each none;
      found = λ layout state world plan is_plan begun each. record { each = each; come = (is_plan, begun, (λ i. plan.fresh), tt) };
      goes_on = λ layout half number none goes_on. goes_begun codec layout half number goes_on (not_begun layout.far none);
    }
