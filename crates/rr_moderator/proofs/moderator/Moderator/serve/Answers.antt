use Rattle.std.proofs.Common.{Ok, Err, refl}
use Rattle.std.proofs.lemmas.Result.{err_from_is_err_and}
use Rattle.rr_store.specs.Holding.{GamesArePlayed}
use Rattle.rr_moderator.specs.Holding.{spoken_by}
use Rattle.rr_moderator.specs.Durability.{Lasting, SpeaksAndLasts, SpeaksPlayed, told}
use Rattle.rr_moderator.specs.Serving.{Speaks, said}
use Rattle.rr_moderator.proofs.AlongLemmas.{along}
use Rattle.rr_moderator.proofs.SessionLemmas.{AnswersAll-seen, Served-holds, Served-seen, Session-seen}
use Rattle.rr_moderator.proofs.moderator.Moderator.serve.Goals as goal

pub returns-in_err-serve-clause-session : goal.returns-in_err-serve-clause-session
returns-in_err-serve-clause-session g c =
    let p = err_from_is_err_and c.from_residual.result c.from_residual.ensures.1 in
    let all = c.in_err-serve.ensures.session in
    let seen = Session-seen _ _ (Lasting g.D.Disk.Honest g.D.Disk.Works g.D.Disk.state g.D.Disk.past g.D.Disk.fault_count g.D.Disk.write_count g.D.Disk.sync_count) told (λ s. (s.store, s.reply)) (λ s. Unit {0}) (λ s line t any a. (a.0, tt)) (λ s. refl) _ _ _ _ _ _ _ tt all in (
      Err c.in_err-serve.field-0.0,
      rw (p.1) p.2,
      c.in_err-serve.ensures.failures,
      seen,
      (λ honest texts carried. along g.D.Disk.Honest g.D.Disk.Works g.D.Disk.state g.D.Disk.past g.D.Disk.fault_count g.D.Disk.write_count g.D.Disk.sync_count texts _ seen.lines seen.replies _ seen.served honest carried),
      (λ played. Served-seen (λ old line new. SpeaksPlayed g.D.Disk.Honest g.D.Disk.Works g.D.Disk.state g.D.Disk.past g.D.Disk.fault_count g.D.Disk.write_count g.D.Disk.sync_count (old.store, old.reply) line (new.store, new.reply)) (λ s. s.reply) (SpeaksAndLasts g.D.Disk.Honest g.D.Disk.Works g.D.Disk.state g.D.Disk.past g.D.Disk.fault_count g.D.Disk.write_count g.D.Disk.sync_count) told (λ s. (s.store, s.reply)) (λ s. GamesArePlayed s.store) (λ s line t holds a. ((((a.1 holds).0, holds), a.0), (a.1 holds).1)) (λ s. refl) _ all.lines all.replies _ played all.served),
    )

pub returns-in_err-serve-clause-played : goal.returns-in_err-serve-clause-played
returns-in_err-serve-clause-played g c = λ played.
    let session = c.in_err-serve.ensures.session in
    Served-holds (λ old line new. SpeaksPlayed g.D.Disk.Honest g.D.Disk.Works g.D.Disk.state g.D.Disk.past g.D.Disk.fault_count g.D.Disk.write_count g.D.Disk.sync_count (old.store, old.reply) line (new.store, new.reply)) (λ s. s.reply) (SpeaksPlayed g.D.Disk.Honest g.D.Disk.Works g.D.Disk.state g.D.Disk.past g.D.Disk.fault_count g.D.Disk.write_count g.D.Disk.sync_count) told (λ s. (s.store, s.reply)) (λ s. GamesArePlayed s.store) (λ s line t holds a. (a, (a.1 holds).1)) (λ s. refl) _ session.lines session.replies _ played session.served

pub returns-clause-whole : goal.returns-clause-whole
returns-clause-whole g c = (
  AnswersAll-seen _ _ (Lasting g.D.Disk.Honest g.D.Disk.Works g.D.Disk.state g.D.Disk.past g.D.Disk.fault_count g.D.Disk.write_count g.D.Disk.sync_count) told (λ s. (s.store, s.reply)) (λ s. Unit {0}) (λ s line t any a. (a.0, tt)) (λ s. refl) _ _ _ _ _ tt c.in_ok-serve.ensures.whole,
  λ played. AnswersAll-seen _ _ Speaks said spoken_by (λ s. GamesArePlayed s.store) (λ s line t holds a. a.1 holds) (λ s. refl) _ _ _ _ _ played c.in_ok-serve.ensures.whole,
)

pub returns-clause-session : goal.returns-clause-session
returns-clause-session g c =
    let all = c.in_ok-serve.ensures.session in
    let seen = Session-seen _ _ (Lasting g.D.Disk.Honest g.D.Disk.Works g.D.Disk.state g.D.Disk.past g.D.Disk.fault_count g.D.Disk.write_count g.D.Disk.sync_count) told (λ s. (s.store, s.reply)) (λ s. Unit {0}) (λ s line t any a. (a.0, tt)) (λ s. refl) _ _ _ _ _ _ _ tt all in (
      Ok tt,
      tt,
      c.in_ok-serve.ensures.failures,
      seen,
      (λ honest texts carried. along g.D.Disk.Honest g.D.Disk.Works g.D.Disk.state g.D.Disk.past g.D.Disk.fault_count g.D.Disk.write_count g.D.Disk.sync_count texts _ seen.lines seen.replies _ seen.served honest carried),
      (λ played. Served-seen (λ old line new. SpeaksPlayed g.D.Disk.Honest g.D.Disk.Works g.D.Disk.state g.D.Disk.past g.D.Disk.fault_count g.D.Disk.write_count g.D.Disk.sync_count (old.store, old.reply) line (new.store, new.reply)) (λ s. s.reply) (SpeaksAndLasts g.D.Disk.Honest g.D.Disk.Works g.D.Disk.state g.D.Disk.past g.D.Disk.fault_count g.D.Disk.write_count g.D.Disk.sync_count) told (λ s. (s.store, s.reply)) (λ s. GamesArePlayed s.store) (λ s line t holds a. ((((a.1 holds).0, holds), a.0), (a.1 holds).1)) (λ s. refl) _ all.lines all.replies _ played all.served),
    )

pub returns-clause-played : goal.returns-clause-played
returns-clause-played g c = λ played.
    let session = c.in_ok-serve.ensures.session in
    Served-holds (λ old line new. SpeaksPlayed g.D.Disk.Honest g.D.Disk.Works g.D.Disk.state g.D.Disk.past g.D.Disk.fault_count g.D.Disk.write_count g.D.Disk.sync_count (old.store, old.reply) line (new.store, new.reply)) (λ s. s.reply) (SpeaksPlayed g.D.Disk.Honest g.D.Disk.Works g.D.Disk.state g.D.Disk.past g.D.Disk.fault_count g.D.Disk.write_count g.D.Disk.sync_count) told (λ s. (s.store, s.reply)) (λ s. GamesArePlayed s.store) (λ s line t holds a. (a, (a.1 holds).1)) (λ s. refl) _ session.lines session.replies _ played session.served
