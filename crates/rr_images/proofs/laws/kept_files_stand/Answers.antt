use Rattle.rr_images.proofs.GoesOn.{goes_opened}
use Rattle.rr_images.proofs.OneWorld.{kept_stands, kept_opened, opened_between}
use Rattle.rr_images.proofs.laws.kept_files_stand.Goals as goal

pub returns : goal.returns
returns g c =
    let codec = g.C.Codec.codec in
    record {
      stands = kept_stands codec;
      layout = λ layout file world keeps. kept_opened codec layout file world layout.far (λ i. layout.far) keeps;
      between = opened_between codec;
      goes_on = goes_opened codec;
    }
