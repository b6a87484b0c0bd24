use Rattle.std.proofs.Common.{◌∙◌, Some, codes, sym, ap}
use Rattle.std.specs.Option.{option_copied}
use Rattle.rr_store.specs.Holding.{held_of}
use Rattle.rr_store.specs.World.{names}
use Rattle.rr_moderator.proofs.Replies.{names_end, names_more}
use Rattle.rr_moderator.proofs.answering.write_name.Goals as goal

pub returns-in-Some-clause-text : goal.returns-in-Some-clause-text
returns-in-Some-clause-text g c so_far =
    names_more (names (held_of c.args.store.now).tables) c.args.place c.as_bytes.result.now (codes "=") _ _
    (sym c.name_at.ensures ∙ ap option_copied c.in-Some.is ∙ ap Some (sym c.as_bytes.ensures.value)) so_far c.word.ensures.text

pub returns-in-None-clause-text : goal.returns-in-None-clause-text
returns-in-None-clause-text g c so_far =
    names_end (names (held_of c.args.store.now).tables) c.args.place (codes "=") _ (sym c.name_at.ensures ∙ ap option_copied c.in-None.is) so_far
