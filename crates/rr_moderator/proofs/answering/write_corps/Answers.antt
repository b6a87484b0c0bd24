use Rattle.std.proofs.Common.{arith, rules, codes}
use Rattle.rr_roster.specs.declared.company.Corp.TheVariants.{Prr}
use Rattle.rr_moderator.proofs.Listing.{corps_more}
use Rattle.rr_moderator.proofs.answering.write_corps.Goals as goal

pub loop-corp-preserved : goal.loop-corp-preserved
loop-corp-preserved c = record {
  bounded = omega arith;
  text = corps_more c.args.corps.now c.loop-corp.corp-index Prr (codes "=") c.loop-corp.reply _ (search rules) c.loop-corp.invariant.text c.corp.ensures.text;
}
