use Rattle.std.proofs.Common.{ℕ, List, Err, sym, ap, ◌∙◌, subst}
use Rattle.std.proofs.lemmas.Result.{err_from_is_err_and}
use Rattle.rr_reading.specs.Dir.Directory.{Spells, directory_of}
use Rattle.rr_reading.specs.declared.dir.fault.Fault.{Fault as FormFault}
use Rattle.rr_pages.specs.ReachedPages.{marks_of}
use Rattle.rr_images.specs.Holding.{HeldChain}
use Rattle.rr_reading.specs.Chains.{held_in}
use Rattle.rr_reading.proofs.Told.{form_told}
use Rattle.rr_reading.proofs.Versions.{none_found, version_known}
use Rattle.rr_reading.proofs.directory.read_directory.Goals as goal

pub returns-in_err-chain-clause-refused : goal.returns-in_err-chain-clause-refused
returns-in_err-chain-clause-refused g c =
    let p = err_from_is_err_and c.from_residual.result c.from_residual.ensures.1 in
    rw (p.1, p.2) c.in_err-chain.ensures.refused

pub returns-in_default-clause-refused : goal.returns-in_default-clause-refused
returns-in_default-clause-refused g c = λ honest side taken.
    absurd (version_known (g.D.Disk.state c.args.disk.now).content side c.args.root.now taken (none_found c.of.result c.args.root.now.version c.in_default.not-Some c.of.ensures))

pub returns-in_err-dir-clause-refused : goal.returns-in_err-dir-clause-refused
returns-in_err-dir-clause-refused g c =
    let p = err_from_is_err_and c.from_residual-in_err-dir.result c.from_residual-in_err-dir.ensures.1 in
    let chain = c.in_ok-chain.field-0.chain in
    rw (p.1, p.2) (λ honest side taken.
    form_told (g.D.Disk.state c.args.disk.now).content side c.args.root.now taken c.in-Some.version (marks_of c.in_ok-chain.field-0.reached) (held_in (g.D.Disk.state c.args.disk.now).content chain) _ c.in-Some.ensures (c.in_ok-chain.ensures.found honest side taken)
    (λ is directory spells. c.in_err-dir.ensures.damaged (ap (λ (fault : FormFault). Err fault) is) directory (subst (λ (bytes : List ℕ). Spells c.in-Some.version bytes directory) (sym (c.deref.ensures.value ∙ ap (λ (held : HeldChain). held.text) (c.in_ok-chain.ensures.bytes honest))) spells)))

pub returns-clause-found : goal.returns-clause-found
returns-clause-found g c = λ honest side taken.
    record {
      taken = taken;
      read = c.in_ok-chain.ensures.found honest side taken;
      form = record {
        version = c.in-Some.version;
        numbered = c.in-Some.ensures;
        spelled = subst (λ (bytes : List ℕ). Spells c.in-Some.version bytes (directory_of c.in_ok-dir.dir)) (c.deref.ensures.value ∙ ap (λ (held : HeldChain). held.text) (c.in_ok-chain.ensures.bytes honest)) c.in_ok-dir.ensures.found;
      };
    }
