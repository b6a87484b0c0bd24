use Rattle.std.proofs.Common.{◌≡◌, ◌++◌, ◌∙◌, ℕ, List, [], true, false, Ok, Err, ap, refl, sym, subst, codes, append-nil}
use Rattle.std.proofs.lemmas.Result.{err_from_is_err_and}
use Rattle.rr_store.specs.Committing.{Commits}
use Rattle.rr_store.specs.Holding.{GamesArePlayed, held_of}
use Rattle.rr_store.specs.World.{state_after, table_named}
use Rattle.std.specs.Fmt.{signed_decimal}
use Rattle.rr_game.specs.Play.{play}
use Rattle.rr_entries.specs.Words.{spaced}
use Rattle.rr_orders.specs.Texts.{added}
use Rattle.rr_moderator.specs.Answer.{accepted_text, accepted_with, runs_trains}
use Rattle.rr_moderator.proofs.Accepting.{accepts, earned_told, stamp_told, told_so_far, whole_told}
use Rattle.rr_moderator.proofs.moderator.State.commit.Goals.{then-runs_trains, else-runs_trains}
use Rattle.rr_moderator.proofs.moderator.State.commit.Goals as goal

pub returns-in_err-stamp : goal.returns-in_err-stamp
returns-in_err-stamp g c =
    let p = err_from_is_err_and c.from_residual.result c.from_residual.ensures.1 in
    (Err c.in_err-stamp.field-0.0, c.in_err-stamp.ensures, rw (p.1, p.2) refl, λ played. rw (p.1, p.2) refl)

pub returns : goal.returns
returns g c =
    let old = held_of c.args.self.now.store in
    let name = c.args.table.now in
    let request = c.args.request.now in
    let t = state_after old.kit (table_named old.tables name) request in
    let same : c.if-runs_trains.self.store ≡ c.commit.new.self = elim c.if-runs_trains.branch [ then-runs_trains w ↦ ap (λ s. s.store) w.self-is ∙ w.tell_revenue.ensures.store | else-runs_trains w ↦ ap (λ s. s.store) w.self-is ] in
    let told : GamesArePlayed c.args.self.now.store → c.text.new.self ≡ accepted_text old.kit name t request c.args.sheet.now = λ played.
    let a = accepts old (held_of c.commit.new.self) c.args.stamp name request c.in_ok-stamp.stamp (c.in_ok-stamp.ensures.takes played) refl in
    let so_far : c.if-runs_trains.self.reply ≡ told_so_far old.kit name t request = elim c.if-runs_trains.branch [
      | then-runs_trains w ↦ earned_told old.kit name t request c.in_ok-stamp.stamp c.accept.new.self c.if-runs_trains.self.reply a.2 c.accept.ensures.text (sym c.runs_trains.ensures ∙ w.if-runs_trains.true)
          (ap (λ s. s.reply) w.self-is ∙ w.tell_revenue.ensures.told (c.in_ok-stamp.ensures.played played) a.3 t a.0 ∙ ap (λ kit. c.accept.new.self ++ (codes " " ++ signed_decimal (play kit t.commands).revenue.0)) a.1)
      | else-runs_trains w ↦ ap (λ s. s.reply) w.self-is ∙ stamp_told old.kit name t request c.in_ok-stamp.stamp c.accept.new.self a.2 c.accept.ensures.text (sym c.runs_trains.ensures ∙ w.if-runs_trains.false)
    ] in
    whole_told old.kit name t request c.args.sheet.now _ _ _ so_far c.sheet.ensures.text c.text.ensures.text in
    let so : (earned : List (List ℕ)) × (runs_trains request ≡ false → earned ≡ []) × (c.if-runs_trains.self.reply ≡ c.accept.new.self ++ spaced earned) = elim c.if-runs_trains.branch [
      | then-runs_trains w ↦ (
        w.tell_revenue.ensures.words.0,
        (λ not. let both : true ≡ false = sym (sym c.runs_trains.ensures ∙ w.if-runs_trains.true) ∙ not in absurd (cc both)),
        ap (λ s. s.reply) w.self-is ∙ w.tell_revenue.ensures.words.1,
      )
      | else-runs_trains w ↦ ([], (λ not. refl), ap (λ s. s.reply) w.self-is ∙ sym (append-nil c.accept.new.self))
    ] in
    let replies : c.text.new.self ≡ accepted_with name c.in_ok-stamp.stamp so.0 c.args.sheet.now =
    c.text.ensures.text
    ∙ ap (λ (l : List ℕ). l ++ codes "\n") (c.sheet.ensures.text ∙ ap (λ (l : List ℕ). l ++ added c.args.sheet.now) (so.2 ∙ ap (λ (l : List ℕ). l ++ spaced so.0) c.accept.ensures.text)) in
    (Ok c.in_ok-stamp.stamp, subst (λ s. Commits g.D.Disk.Honest g.D.Disk.Works g.D.Disk.state g.D.Disk.past g.D.Disk.fault_count g.D.Disk.write_count g.D.Disk.sync_count c.args.self.now.store name c.args.stamp request s (Ok c.in_ok-stamp.stamp)) (sym same) c.in_ok-stamp.ensures, (so.0, so.1, replies), λ played. ap Ok (told played))
