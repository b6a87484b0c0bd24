use Rattle.rr_images.proofs.Plans.{made_is_plan, plan_reaches}
use Rattle.rr_images.proofs.laws.made_plans_are_plans.Goals as goal

pub returns : goal.returns
returns g c =
    record {
      plan = λ layout file world root directory drafts keeps made. made_is_plan g.C.Codec.codec layout root directory drafts made keeps.spelled.apart keeps.spelled.in_data;
      reaches = plan_reaches;
    }
