use Rattle.rr_images.proofs.OneWorld.{one_world, one_reading, read_layout}
use Rattle.rr_images.proofs.laws.files_stand_for_one_world.Goals as goal

pub returns : goal.returns
returns g c =
    record {
      world = one_world g.C.Codec.codec;
      reading = one_reading g.C.Codec.codec;
      layout = λ exact layout file world found keeps stands. read_layout g.C.Codec.codec exact layout file found world keeps stands;
    }
