use Rattle.std.proofs.Common.{◌≡◌, ℕ, ◌+◌, ◌*◌, ◌<◌, List, [], ◌∷◌, ◌++◌, get_or, take, Err, refl, sym, ◌∙◌, ap, subst, rules}
use Rattle.std.proofs.lemmas.List.{take_more}
use Rattle.rr_disk.specs.Disk.{DiskState}
use Rattle.rr_pages.specs.declared.reading.Link.{Link}
use Rattle.rr_pages.specs.Links.{Gathers, AddsPiece}
use Rattle.rr_pages.proofs.Walks.{device_so, ends_past, gathers_last, pages_push}
use Rattle.std.proofs.lemmas.Result.{err_from_is_err_and}
use Rattle.rr_pages.proofs.reading.read_pieces.Goals as goal

pub loop-link-preserved : goal.loop-link-preserved
loop-link-preserved g c =
    let blank : Link = record { page = 0; used = 0 } in
    let i = c.loop-link.link-index in
    let links = c.args.links.now in
    let link : Link = get_or links i blank in
    let more : take (i + 1) links ≡ take i links ++ link ∷ [] = take_more links i blank c.loop-link-test.true in
    let file = (g.D.Disk.state c.args.disk.now).content in
    let old = c.loop-link.bytes.items in
    let new = c.read_piece.new.bytes.items in
    record {
      gathers = λ honest.
          let before = c.in_ok-read_piece.ensures.honest honest in
          let adds : AddsPiece file link.page link.used old new = subst (λ (s : DiskState). AddsPiece s.content link.page link.used old new) (c.loop-link.invariant.same_state before) (c.in_ok-read_piece.ensures.piece honest) in
          subst (λ (ls : List Link). Gathers file ls new) (sym more) (gathers_last file (take i links) link old new (c.loop-link.invariant.gathers before) adds);
      pages = c.in_ok-push.ensures.items ∙ (ap (λ (ps : List ℕ). ps ++ link.page ∷ []) c.loop-link.invariant.pages ∙ sym (pages_push (take i links) (take (i + 1) links) link link.page more refl));
      honest = search rules;
      same_state = search rules;
      same_past = search rules;
      faults = search rules;
      writes = search rules;
      syncs = search rules;
      works = search rules;
      same_len = search rules;
    }

pub returns-in_err-read_piece-clause-device : goal.returns-in_err-read_piece-clause-device
returns-in_err-read_piece-clause-device g c =
    let told = err_from_is_err_and c.from_residual-in_err-read_piece.result c.from_residual-in_err-read_piece.ensures.1 in
    let len = g.D.Disk.file_len c.args.disk.now in
    let same : g.D.Disk.file_len c.loop-link.disk ≡ len = c.loop-link.invariant.same_len in
    let blank : Link = record { page = 0; used = 0 } in
    let link : Link = get_or c.args.links.now c.loop-link.link-index blank in
    device_so (Unit {0}) c.from_residual-in_err-read_piece.result c.in_err-read_piece.field-0.0 (told.1 ∙ ap (λ f. Err f) told.2)
    (λ past works. ends_past len c.args.links.now c.loop-link.link-index blank c.loop-link-test.true (subst (λ (n : ℕ). n < 4096 * link.page + 10 + link.used) same (past works)))
    c.in_err-read_piece.ensures.device
