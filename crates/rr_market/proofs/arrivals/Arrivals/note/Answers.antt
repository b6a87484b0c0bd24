use Rattle.std.proofs.Common.{ℕ, List, get_or, set, ap, subst, arith}
use Rattle.rr_roster.specs.Company.{corp_index}
use Rattle.rr_market.specs.Arrivals.{AreRanks}
use Rattle.rr_market.proofs.RankLemmas.{AreNoted, AreNoted-from, AreRanks-noted, last-noted, others-noted, ranks-noted, corp_index-lt}
use Rattle.rr_market.proofs.arrivals.Arrivals.note.Goals as goal

pub invariant_of-self : goal.invariant_of-self
invariant_of-self c =
    let moved = corp_index c.args.corp in
    let within = corp_index-lt c.args.corp in
    let ranks : AreRanks c.args.self.now = subst AreRanks c.self.view_is c.self.invariant in
    let noted : AreNoted c.args.self.now (set c.loop-rank.rank-items c.index-moved.result 7) moved =
    AreNoted-from c.args.self.now c.loop-rank.rank-items c.index-moved.result moved _ c.index-moved.ensures c.loop-rank.invariant.eight within (ap (λ (r : List ℕ). get_or r c.index-moved.result 0) c.self.view_is) (λ k h. c.loop-rank.invariant.done k (omega arith)) in
    AreRanks-noted c.args.self.now _ moved within ranks noted

pub returns-clause-value : goal.returns-clause-value
returns-clause-value c =
    let moved = corp_index c.args.corp in
    let ranks : AreRanks c.args.self.now = subst AreRanks c.self.view_is c.self.invariant in
    ranks-noted c.args.self.now c.loop-rank.rank-items c.index-moved.result moved _ c.index-moved.ensures c.loop-rank.invariant.eight ranks.eight (ap (λ (r : List ℕ). get_or r c.index-moved.result 0) c.self.view_is) (λ k h. c.loop-rank.invariant.done k (omega arith))

pub returns-clause-last : goal.returns-clause-last
returns-clause-last c d other =
    let moved = corp_index c.args.corp in
    let within = corp_index-lt c.args.corp in
    let ranks : AreRanks c.args.self.now = subst AreRanks c.self.view_is c.self.invariant in
    let noted : AreNoted c.args.self.now (set c.loop-rank.rank-items c.index-moved.result 7) moved =
    AreNoted-from c.args.self.now c.loop-rank.rank-items c.index-moved.result moved _ c.index-moved.ensures c.loop-rank.invariant.eight within (ap (λ (r : List ℕ). get_or r c.index-moved.result 0) c.self.view_is) (λ k h. c.loop-rank.invariant.done k (omega arith)) in
    last-noted c.args.self.now _ moved (corp_index d) within ranks noted (corp_index-lt d) other

pub returns-clause-others : goal.returns-clause-others
returns-clause-others c d e other another =
    let moved = corp_index c.args.corp in
    let within = corp_index-lt c.args.corp in
    let ranks : AreRanks c.args.self.now = subst AreRanks c.self.view_is c.self.invariant in
    let noted : AreNoted c.args.self.now (set c.loop-rank.rank-items c.index-moved.result 7) moved =
    AreNoted-from c.args.self.now c.loop-rank.rank-items c.index-moved.result moved _ c.index-moved.ensures c.loop-rank.invariant.eight within (ap (λ (r : List ℕ). get_or r c.index-moved.result 0) c.self.view_is) (λ k h. c.loop-rank.invariant.done k (omega arith)) in
    others-noted c.args.self.now _ moved (corp_index d) (corp_index e) within ranks noted (corp_index-lt d) (corp_index-lt e) other another
