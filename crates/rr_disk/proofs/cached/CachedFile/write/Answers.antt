use Rattle.std.proofs.Common.{◌≡◌, ◌+◌, ℕ, [], ◌∷◌, ◌++◌, length, rules, arith}
use Rattle.std.proofs.lemmas.List.Elements.{All-weaker, All-push}
use Rattle.rr_disk.specs.Cached.{state_of}
use Rattle.rr_disk.specs.Disk.{written}
use Rattle.rr_disk.proofs.ImageLemmas.{length-written, furthest_end-append, overwritten_may_stay}
use Rattle.rr_disk.specs.Range.{IsWithin}
use Rattle.rr_disk.proofs.cached.CachedFile.write.Goals as goal

pub invariant_of-self-clause-may_stay : goal.invariant_of-self-clause-may_stay
invariant_of-self-clause-may_stay c =
    let state = state_of c.args.self.now in
    let ranges : c.push.new.self.items ≡ state.ranges ++ (c.args.at, c.args.at + length c.args.bytes.now) ∷ [] = search rules in
    let image = overwritten_may_stay state c.args.at c.args.bytes.now c.args.self.now.may_stay in
    rw (c.overwrite.ensures.bytes, ranges) image

pub invariant_of-self-clause-ranges_within : goal.invariant_of-self-clause-ranges_within
invariant_of-self-clause-ranges_within c =
    let state = state_of c.args.self.now in
    let range : ℕ × ℕ = (c.args.at, c.args.at + length c.args.bytes.now) in
    let ranges : c.push.new.self.items ≡ state.ranges ++ range ∷ [] = search rules in
    let file = written state.content c.args.at c.args.bytes.now in
    let longer = length-written state.content c.args.at c.args.bytes.now in
    let old = All-weaker (IsWithin (length state.content)) (IsWithin (length file)) (λ r is. (is.0, omega (arith, longer))) state.ranges c.args.self.now.ranges_within in
    rw (c.overwrite.ensures.bytes, ranges) (All-push (IsWithin (length file)) state.ranges range old (omega arith, omega (arith, longer)))

pub invariant_of-self-clause-len_is : goal.invariant_of-self-clause-len_is
invariant_of-self-clause-len_is c =
    let state = state_of c.args.self.now in
    let range : ℕ × ℕ = (c.args.at, c.args.at + length c.args.bytes.now) in
    let ranges : c.push.new.self.items ≡ state.ranges ++ range ∷ [] = search rules in
    let longer = length-written state.content c.args.at c.args.bytes.now in
    let furthest = furthest_end-append state.ranges (range ∷ []) in
    rw (c.overwrite.ensures.bytes, ranges) (omega (arith, longer, furthest, c.args.self.now.len_is))
