use Rattle.std.proofs.Common.{◌≡◌, ◌∙◌, ℕ, List, None, refl, sym, ap, subst}
use Rattle.rr_pages.specs.declared.chain.FreshPage.{FreshPage}
use Rattle.rr_pages.specs.declared.root.Root.{Root}
use Rattle.rr_pages.specs.FreePages.{present_of, coming_of}
use Rattle.rr_pages.specs.Writing.{IsLaid}
use Rattle.rr_checkpoint.specs.Planning.{coming_root_of}
use Rattle.rr_checkpoint.specs.Writer.{free_of}
use Rattle.rr_checkpoint.proofs.Planning.{may_begin}
use Rattle.rr_checkpoint.proofs.Writers.{carries_same, carries_freed, none_left}
use Rattle.rr_checkpoint.proofs.writer.Writer.plan.Goals as goal

pub returns-in_err-head-clause-carries : goal.returns-in_err-head-clause-carries
returns-in_err-head-clause-carries g c =
    let writer = c.args.self.now in
    carries_freed g.C.Codec.codec writer.file writer.checkpoint c.chain_write.new.free c.requires.resting c.chain_write.ensures.present

pub returns-clause-carries : goal.returns-clause-carries
returns-clause-carries g c =
    let writer = c.args.self.now in
    carries_freed g.C.Codec.codec writer.file writer.checkpoint c.chain_write.new.free c.requires.resting c.chain_write.ensures.present

pub returns-clause-plan : goal.returns-clause-plan
returns-clause-plan g c = λ state world carries drafts drafted directory_is.
    let codec = g.C.Codec.codec in
    let writer = c.args.self.now in
    let fresh = c.chain_write.new.fresh in
    let resting = carries_same codec writer.file state world writer.checkpoint None (none_left writer.checkpoint c.requires.resting) carries in
    let same = ap (λ (pages : List FreshPage). coming_root_of writer c.in_ok-head.head pages) c.deref.ensures.value in
    may_begin codec writer.file state world resting drafts c.args.fresh.items fresh.items drafted c.args.directory.now directory_is c.chain_write.new.free c.in_ok-head.head
    c.in_ok-head.ensures.laid c.requires.root c.requires.number (record { root = c.coming_root-root.result; fresh = fresh }) (c.coming_root-root.ensures ∙ same) refl c.chain_write.ensures.present

pub returns-clause-root : goal.returns-clause-root
returns-clause-root g c =
    let writer = c.args.self.now in
    let fresh = c.chain_write.new.fresh.items in
    let root = c.coming_root-root.result in
    let is : root ≡ coming_root_of writer c.in_ok-head.head fresh = c.coming_root-root.ensures ∙ ap (λ (pages : List FreshPage). coming_root_of writer c.in_ok-head.head pages) c.deref.ensures.value in
    is ∙ ap (λ (head : ℕ). coming_root_of writer head fresh) (sym (ap (λ (r : Root). r.directory) is))

pub returns-clause-laid : goal.returns-clause-laid
returns-clause-laid g c =
    let writer = c.args.self.now in
    let named : c.coming_root-root.result.directory ≡ c.in_ok-head.head = ap (λ (r : Root). r.directory) c.coming_root-root.ensures in
    subst (λ (head : ℕ). IsLaid (present_of (free_of writer)) (coming_of (free_of writer)) (coming_of c.chain_write.new.free) c.args.directory.now c.args.fresh.items c.chain_write.new.fresh.items head) (sym named)
    c.in_ok-head.ensures.laid
