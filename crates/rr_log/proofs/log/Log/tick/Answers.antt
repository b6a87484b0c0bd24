use Rattle.std.proofs.Common.{inl, refl, arith}
use Rattle.rr_disk.proofs.MomentLemmas.{started}
use Rattle.rr_checkpoint.specs.Calls.{IsRootAt}
use Rattle.rr_images.specs.Layout.{KeepsUnder, Layout}
use Rattle.rr_images.proofs.Ticks.{still_root}
use Rattle.rr_log.specs.Log.{ticks_left}
use Rattle.rr_log.proofs.Carried.{kept_under}
use Rattle.rr_log.proofs.Growing.{pages_still, stays_long}
use Rattle.rr_log.proofs.Roots.{no_step}
use Rattle.rr_reading.specs.Worlds.Spelling.{worlds}
use Rattle.rr_log.proofs.log.Log.tick.Goals as goal

pub returns-then-self-clause-stops : goal.returns-then-self-clause-stops
returns-then-self-clause-stops g c = λ honest world carries.
    let log = c.args.self.now in
    let IsRoot : Layout (worlds g.R.Rules.rules) → Type 0 = IsRootAt (ticks_left log) carries.carried.layout carries.carried.holding in
    started (g.D.Disk.past log.disk) (g.D.Disk.state log.disk) (λ image. KeepsUnder (worlds g.R.Rules.rules) IsRoot image world)
    (kept_under g.R.Rules.rules log (g.D.Disk.state log.disk) world carries IsRoot (inl (still_root carries.carried.layout)))

pub returns-then-self-clause-roots : goal.returns-then-self-clause-roots
returns-then-self-clause-roots g c = λ whole honest world lent carries. (carries, no_step)

pub returns-then-self-clause-grows : goal.returns-then-self-clause-grows
returns-then-self-clause-grows g c = λ honest world carries. let log = c.args.self.now in stays_long g.D.Disk.file_len log log refl

pub returns-then-self-clause-pages : goal.returns-then-self-clause-pages
returns-then-self-clause-pages g c = let log = c.args.self.now in pages_still log log refl (λ one none whole. omega (arith, one, none))
