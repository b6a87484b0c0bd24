use Rattle.std.proofs.Common.{◌≡◌, inl, inr, ℕ, ◌<◌, ◌∷◌, [], ◌++◌, List, length, None, refl, sym, ◌∙◌, ap, subst, arith, rules, length-append}
use Rattle.std.proofs.lemmas.Bool.{iff_false}
use Rattle.rr_disk.specs.Disk.{DiskState}
use Rattle.rr_pages.specs.declared.reading.Link.{Link}
use Rattle.rr_pages.specs.Chains.{next_of, used_of}
use Rattle.rr_pages.specs.Links.{pages_of, AreLinks, AreBelow}
use Rattle.rr_pages.specs.ReachedPages.{marks_of}
use Rattle.rr_pages.specs.Sets.{all_marked, marked}
use Rattle.rr_pages.specs.Walk.{Walk}
use Rattle.rr_pages.proofs.SetLemmas.{unmarked, unmarked_within, unmarked_less, marked_last}
use Rattle.rr_pages.proofs.Walks.{LeadsOn, begins_there, are_links_last, are_below_last, at_page, leads_more, leads_end, leads_outside, leads_twice, pages_push}
use Rattle.rr_pages.proofs.reading.walk.Goals as goal

pub pages-init : goal.pages-init
pages-init g c =
    let file = (g.D.Disk.state c.args.disk.now).content in
    let start = marks_of c.args.reached.now in
    let none = c.new-links.ensures.items in
    record {
      leads = λ honest more end walk. subst (λ (ls : List Link). Walk file c.args.count start c.args.head (pages_of ls ++ more) end) (sym none) walk;
      links = λ honest. subst (λ (ls : List Link). AreLinks file ls) (sym none) tt;
      begins = inl (refl, refl);
      below = subst (λ (ls : List Link). AreBelow c.args.count ls) (sym none) tt;
      marks = sym (ap (λ (ls : List Link). all_marked start (pages_of ls)) none);
      few = omega (arith, ap length none, unmarked_within start, c.args.reached.now.whole);
      honest = search rules;
      same_state = search rules;
      same_past = search rules;
      faults = search rules;
      writes = search rules;
      syncs = search rules;
      works = search rules;
      same_len = search rules;
    }

pub returns-then-not-is_data-clause-walk : goal.returns-then-not-is_data-clause-walk
returns-then-not-is_data-clause-walk g c = λ honest.
    leads_outside (g.D.Disk.state c.args.disk.now).content c.args.count (marks_of c.args.reached.now) c.args.head (pages_of c.pages.links.items) (marks_of c.pages.reached) c.pages.next
    (c.pages.invariant.leads honest) (iff_false c.is_data.ensures c.if-not-is_data.true)

pub returns-then-has-clause-walk : goal.returns-then-has-clause-walk
returns-then-has-clause-walk g c = λ honest.
    leads_twice (g.D.Disk.state c.args.disk.now).content c.args.count (marks_of c.args.reached.now) c.args.head (pages_of c.pages.links.items) (marks_of c.pages.reached) c.pages.next
    (c.pages.invariant.leads honest) (c.is_data.ensures.0 c.if-not-is_data.false) (sym c.has.ensures ∙ c.if-has.true)

pub returns-then-front-eq0-clause-walk : goal.returns-then-front-eq0-clause-walk
returns-then-front-eq0-clause-walk g c = λ honest.
    let file = (g.D.Disk.state c.args.disk.now).content in
    let before = c.in_ok-front.ensures.honest honest in
    let read = c.in_ok-front.ensures.front honest in
    let is : c.in_ok-front.front.next ≡ next_of file c.pages.next = subst (λ (s : DiskState). c.in_ok-front.front.next ≡ next_of s.content c.pages.next) (c.pages.invariant.same_state before) read.0 in
    subst (λ (ps : List ℕ). Walk file c.args.count (marks_of c.args.reached.now) c.args.head ps None) (sym (pages_push c.pages.links.items c.push.new.self.items c.in_ok-front.front.link c.pages.next c.in_ok-push.ensures.items c.in_ok-front.ensures.page))
    (leads_end file c.args.count (marks_of c.args.reached.now) c.args.head (pages_of c.pages.links.items) c.pages.next c.in_ok-front.front.next (marks_of c.pages.reached)
    (c.pages.invariant.leads before) (c.is_data.ensures.0 c.if-not-is_data.false) (sym c.has.ensures ∙ c.if-has.false) is c.if-front-eq0.true)

pub returns-then-front-eq0-clause-links : goal.returns-then-front-eq0-clause-links
returns-then-front-eq0-clause-links g c = λ honest.
    let file = (g.D.Disk.state c.args.disk.now).content in
    let before = c.in_ok-front.ensures.honest honest in
    let read = c.in_ok-front.ensures.front honest in
    let used : c.in_ok-front.front.link.used ≡ used_of file c.pages.next = subst (λ (s : DiskState). c.in_ok-front.front.link.used ≡ used_of s.content c.pages.next) (c.pages.invariant.same_state before) read.1 in
    subst (λ (ls : List Link). AreLinks file ls) (sym c.in_ok-push.ensures.items)
    (are_links_last file c.pages.links.items c.in_ok-front.front.link (c.pages.invariant.links before) (at_page file c.in_ok-front.front.link c.pages.next c.in_ok-front.ensures.page used))

pub returns-then-front-eq0-clause-below : goal.returns-then-front-eq0-clause-below
returns-then-front-eq0-clause-below g c =
    let is_data = c.is_data.ensures.0 c.if-not-is_data.false in
    subst (λ (ls : List Link). AreBelow c.args.count ls) (sym c.in_ok-push.ensures.items)
    (are_below_last c.args.count c.pages.links.items c.in_ok-front.front.link c.pages.invariant.below (omega (arith, is_data.1, c.in_ok-front.ensures.page)))

pub returns-then-front-eq0-clause-marks : goal.returns-then-front-eq0-clause-marks
returns-then-front-eq0-clause-marks g c =
    let start = marks_of c.args.reached.now in
    let pages = pages_of c.pages.links.items in
    c.take.ensures.marks ∙ (ap (λ (ms : List _). marked ms c.pages.next) c.pages.invariant.marks ∙ (sym (marked_last start pages c.pages.next)
    ∙ ap (λ (ps : List ℕ). all_marked start ps) (sym (pages_push c.pages.links.items c.push.new.self.items c.in_ok-front.front.link c.pages.next c.in_ok-push.ensures.items c.in_ok-front.ensures.page))))

pub returns-then-front-eq0-clause-few : goal.returns-then-front-eq0-clause-few
returns-then-front-eq0-clause-few g c =
    let is_data = c.is_data.ensures.0 c.if-not-is_data.false in
    let less = unmarked_less (marks_of c.pages.reached) c.pages.next (omega (arith, is_data.1, c.requires, c.pages.reached.whole)) (sym c.has.ensures ∙ c.if-has.false) in
    omega (arith, less, c.pages.invariant.few, ap length c.in_ok-push.ensures.items, length-append c.pages.links.items (c.in_ok-front.front.link ∷ []))

pub pages-smaller : goal.pages-smaller
pages-smaller g c =
    let is_data = c.is_data.ensures.0 c.if-not-is_data.false in
    let less = unmarked_less (marks_of c.pages.reached) c.pages.next (omega (arith, is_data.1, c.requires, c.pages.reached.whole)) (sym c.has.ensures ∙ c.if-has.false) in
    let now : unmarked (marks_of c.take.new.self) < unmarked (marks_of c.pages.reached) = omega (arith, less, ap unmarked c.take.ensures.marks) in
    now

pub pages-preserved : goal.pages-preserved
pages-preserved g c =
    let file = (g.D.Disk.state c.args.disk.now).content in
    let start = marks_of c.args.reached.now in
    let pages = pages_of c.pages.links.items in
    let page = c.pages.next in
    let grown = pages_push c.pages.links.items c.push.new.self.items c.in_ok-front.front.link c.pages.next c.in_ok-push.ensures.items c.in_ok-front.ensures.page in
    let is_data = c.is_data.ensures.0 c.if-not-is_data.false in
    let new = sym c.has.ensures ∙ c.if-has.false in
    let less = unmarked_less (marks_of c.pages.reached) c.pages.next (omega (arith, is_data.1, c.requires, c.pages.reached.whole)) new in
    record {
      leads = λ honest.
          let before = c.in_ok-front.ensures.honest honest in
          let read = c.in_ok-front.ensures.front honest in
          let is : c.in_ok-front.front.next ≡ next_of file page = subst (λ (s : DiskState). c.in_ok-front.front.next ≡ next_of s.content page) (c.pages.invariant.same_state before) read.0 in
          let on = leads_more file c.args.count start c.args.head pages page c.in_ok-front.front.next (marks_of c.pages.reached) (c.pages.invariant.leads before) is_data new is c.if-front-eq0.false in
          subst (λ (ps : List ℕ). LeadsOn file c.args.count start c.args.head ps (marks_of c.take.new.self) c.in_ok-front.front.next) (sym grown)
          (subst (λ (ms : List _). LeadsOn file c.args.count start c.args.head (pages ++ page ∷ []) ms c.in_ok-front.front.next) (sym c.take.ensures.marks) on);
      links = λ honest.
          let before = c.in_ok-front.ensures.honest honest in
          let read = c.in_ok-front.ensures.front honest in
          let used : c.in_ok-front.front.link.used ≡ used_of file page = subst (λ (s : DiskState). c.in_ok-front.front.link.used ≡ used_of s.content page) (c.pages.invariant.same_state before) read.1 in
          subst (λ (ls : List Link). AreLinks file ls) (sym c.in_ok-push.ensures.items)
          (are_links_last file c.pages.links.items c.in_ok-front.front.link (c.pages.invariant.links before) (at_page file c.in_ok-front.front.link page c.in_ok-front.ensures.page used));
      begins = inr (begins_there c.args.count start c.args.head (marks_of c.pages.reached) page c.pages.invariant.begins is_data new);
      below = subst (λ (ls : List Link). AreBelow c.args.count ls) (sym c.in_ok-push.ensures.items)
          (are_below_last c.args.count c.pages.links.items c.in_ok-front.front.link c.pages.invariant.below (omega (arith, is_data.1, c.in_ok-front.ensures.page)));
      marks = c.take.ensures.marks ∙ (ap (λ (ms : List _). marked ms page) c.pages.invariant.marks ∙ (sym (marked_last start pages page) ∙ ap (λ (ps : List ℕ). all_marked start ps) (sym grown)));
      few = omega (arith, less, ap unmarked c.take.ensures.marks, c.pages.invariant.few, ap length c.in_ok-push.ensures.items, length-append c.pages.links.items (c.in_ok-front.front.link ∷ []));
      honest = search rules;
      same_state = search rules;
      same_past = search rules;
      faults = search rules;
      writes = search rules;
      syncs = search rules;
      works = search rules;
      same_len = search rules;
    }
