use Rattle.std.proofs.Common.{◌≡◌, true, false, sym, ap, ◌∙◌, arith}
use Rattle.std.proofs.lemmas.Bool.{false≢true}
use Rattle.std.proofs.lemmas.Grind.{common_steps}
use Rattle.rr_tiles.specs.Tile.{centres_of}
use Rattle.rr_tiles.specs.Keeping.{keeps_tracks, keeps_centres}
use Rattle.rr_tiles.proofs.KeepingLemmas.{Keeps-tested, keeps_tracks-keeps, keeps_centres-keeps}
use Rattle.rr_tiles.proofs.keeping.keeps.Goals as goal

pub returns-then-not-keeps_tracks : goal.returns-then-not-keeps_tracks
returns-then-not-keeps_tracks c =
    let fails : keeps_tracks c.args.turn c.args.new.now.parts c.args.old.now.parts ≡ false = ap (λ new. keeps_tracks c.args.turn new c.args.old.now.parts) (sym c.parts-2.ensures.value) ∙ ap (keeps_tracks c.args.turn c.parts-2.result.now) (sym c.parts.ensures.value) ∙ sym c.keeps_tracks.ensures ∙ c.if-not-keeps_tracks.true in
    (λ never. absurd (false≢true never), λ kept. sym fails ∙ keeps_tracks-keeps c.args.turn c.args.old.now c.args.new.now kept)

pub returns : goal.returns
returns c =
    let label : c.args.old.now.label ≡ c.args.new.now.label = grind (arith, common_steps) in
    let tracks : keeps_tracks c.args.turn c.args.new.now.parts c.args.old.now.parts ≡ true = ap (λ new. keeps_tracks c.args.turn new c.args.old.now.parts) (sym c.parts-2.ensures.value) ∙ ap (keeps_tracks c.args.turn c.parts-2.result.now) (sym c.parts.ensures.value) ∙ sym c.keeps_tracks.ensures ∙ c.if-not-keeps_tracks.false in
    let centres : c.keeps_centres.result ≡ keeps_centres c.args.turn (centres_of c.args.old.now.parts) (centres_of c.args.new.now.parts) = c.keeps_centres.ensures ∙ ap (λ old. keeps_centres c.args.turn (centres_of old) (centres_of c.parts-4.result.now)) c.parts-3.ensures.value ∙ ap (λ new. keeps_centres c.args.turn (centres_of c.args.old.now.parts) (centres_of new)) c.parts-4.ensures.value in (
      λ holds. Keeps-tested c.args.turn c.args.old.now c.args.new.now label tracks (sym centres ∙ holds),
      λ kept. centres ∙ keeps_centres-keeps c.args.turn c.args.old.now c.args.new.now kept,
    )
