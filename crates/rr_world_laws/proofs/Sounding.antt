-- Every table that requests lead to keeps commands that were played, and so is sound.
use Rattle.std.proofs.Common.{◌≡◌, ◌⊎◌, ◌∙◌, ℕ, ◌<◌, ◌≤◌, Bool, true, false, cond, zero, suc, List, [], ◌∷◌, ◌++◌, length, Option, None, Some, bytes_eq, if◌then◌else◌, nat_le, inl, inr, refl, sym, subst, arith}
use Rattle.std.specs.List.{AllByRecursion}
use Rattle.std.proofs.lemmas.Bool.Decides.{nat_tests}
use Rattle.std.proofs.lemmas.List.Sums.{fold-append}
use Rattle.std.proofs.Math.Logic.{∥∥₁_elim, ∥∥₁_map, ∥∥₁_map₂}
use Rattle.std.proofs.Props.{props}
use mathlib.Core.HLevel.{⊥_prop}
use Rattle.indexmap.specs.IndexMap.{insert_entry}
use Rattle.rr_roster.specs.declared.company.Corp.{Corp}
use Rattle.rr_roster.specs.Terms.{Terms}
use Rattle.rr_books.specs.declared.certificates.Cert.TheVariants as C
use Rattle.rr_books.specs.declared.parties.Place.{Place}
use Rattle.rr_books.specs.declared.parties.Place.TheVariants as L
use Rattle.rr_books.specs.declared.parties.Seat.{Seat}
use Rattle.rr_books.specs.Book.{Book, holder}
use Rattle.rr_shares.specs.Presidents.{NobodyHasMore}
use Rattle.rr_laws.specs.Soundness.Presidencies.{HasGreatestPresidents, IsLed, IsOffered}
use Rattle.rr_kit.specs.declared.kit.Kit.{Kit}
use Rattle.rr_kit.specs.Kits.{KitTexts, SpellsKit}
use Rattle.rr_rules.specs.State.{GameState}
use Rattle.rr_game.specs.Play.{opened_state, play, played_on, players_of}
use Rattle.rr_game.specs.Verdict.{command_judgement}
use Rattle.rr_game.specs.History.Fault.{of_game}
use Rattle.rr_game.specs.History.Playing as hist
use Rattle.rr_game.specs.History.Playing.{IsLawfulAfter, ends_turn, game_judgement}
use Rattle.rr_game.specs.History.Verdict.{own_judgement, request_judgement, room_verdict, stamp_verdict}
use Rattle.rr_turns.specs.declared.request.Request.{Request}
use Rattle.rr_turns.specs.declared.request.Request.TheVariants.{Play, Back, Forget}
use Rattle.rr_turns.specs.Judgement.{IsVerdict, judgement_map}
use Rattle.rr_turns.specs.Turns.{AreLawful, first_turns, next_turns}
use Rattle.rr_turns.proofs.JudgementLemmas.{lawful-behind, lawful-map}
use Rattle.rr_code.specs.declared.command.Command.{Command}
use Rattle.rr_code.specs.declared.command.Command.TheVariants.{Open}
use Rattle.rr_code.specs.Request.{IsRequest}
use Rattle.rr_code.specs.Players.{ArePlayers}
use Rattle.rr_laws.specs.Best.{BestRunsWereBest}
use Rattle.rr_laws.specs.Dividends.{NeverPaysAWrongDividend}
use Rattle.rr_laws.specs.Sound.{AreAccepted, ArePlayed, IsSoundTable, KitsNameCorporations, NamesCorporations, PlaysGoOn, TablesStaySound}
use Rattle.rr_tables.specs.Records.Fault.{of_table}
use Rattle.rr_tables.specs.Records.Headline.{WhateverComes}
use Rattle.rr_tables.specs.Records.Played.{ArePlayedTables}
use Rattle.rr_tables.specs.Records.Words.{AreCommands, KeepCommands}
use Rattle.rr_tables.specs.Records.World.{Follows, IsLawfulIn, TableRequest, TableState, World, present_stamp, state_after, step_judgement, table_named, world_after, world_judgement}
use Rattle.rr_world_laws.specs.Worlds.{AreInOrder, FilesAreSound, HaveBestRuns, HaveRightDividends, IsSoundWorld, WhateverComesIsSound, WorldsAreSound}

abbrev HasPlayed : Kit → World → Type 0
HasPlayed kit tables = AllByRecursion (λ t. ArePlayed kit t.1.commands) tables

own_passes : (kit : Kit) (t : TableState) (stamp : ℕ) (r : Request Command) → IsVerdict (step_judgement kit (Some t) stamp r) None → IsVerdict (own_judgement kit t r) None
own_passes kit t stamp r e =
    lawful-behind (stamp_verdict t stamp) (own_judgement kit t r) (lawful-map of_table (request_judgement kit t stamp r) e)

game_takes : (kit : Kit) (t : TableState) (stamp : ℕ) (c : Command) → IsVerdict (step_judgement kit (Some t) stamp (Play c)) None
    → IsVerdict (command_judgement kit (players_of t.commands) (play kit t.commands) c) None
game_takes kit t stamp c e =
    lawful-map of_game (game_judgement kit t.commands c)
    (lawful-behind (room_verdict t) (judgement_map of_game (game_judgement kit t.commands c)) (own_passes kit t stamp (Play c) e))

-- the first turns of a table that was played
front_accepted : (kit : Kit) (ends : List Command → Command → Bool) (players : List (List ℕ)) (state : GameState) (before : List Command) (k : ℕ) (cs : List Command)
    → AreAccepted kit players state cs → AreAccepted kit players state (next_turns ends before k cs)
front_accepted kit ends players state before k [] all = tt
front_accepted kit ends players state before zero (c ∷ cs) all = tt
front_accepted kit ends players state before (suc k) (c ∷ cs) all =
    (all.0, front_accepted kit ends players (played_on kit players state c) (before ++ c ∷ []) (if ends before c then k else suc k) cs all.1)

front_played : (kit : Kit) (ends : List Command → Command → Bool) (k : ℕ) (cs : List Command) → ArePlayed kit cs → ArePlayed kit (first_turns ends k cs)
front_played kit ends k [] played = absurd played
front_played kit ends k (Open players ∷ cs) played =
    (played.0, played.1, front_accepted kit ends players _ (Open players ∷ []) k cs played.2)
front_played kit ends k (c ∷ cs) played = absurd played

-- the table of a name, in a world whose tables were played
named_step : (kit : Kit) (b : Bool) (e : List ℕ × TableState) (rest : Option TableState) (t : TableState) → cond b (Some e.1) rest ≡ Some t
    → ArePlayed kit e.1.commands → (rest ≡ Some t → ArePlayed kit t.commands) → ArePlayed kit t.commands
named_step kit true e rest t is here others = let same : e.1 ≡ t = cc in subst (λ (x : TableState). ArePlayed kit x.commands) same here
named_step kit false e rest t is here others = others is

played_named : (kit : Kit) (tables : World) (name : List ℕ) (t : TableState) → table_named tables name ≡ Some t → HasPlayed kit tables → ArePlayed kit t.commands
played_named kit [] name t is all = absurd cc
played_named kit (e ∷ es) name t is all = named_step kit (bytes_eq name e.0) e (table_named es name) t is all.0 (λ found. played_named kit es name t found all.1)

-- two to six players open a table
few_players : (players : List (List ℕ)) → ArePlayers players → (2 ≤ length players) × (length players ≤ 6)
few_players players h =
    let least : nat_le 2 (length players) ≡ true = grind (arith, nat_tests) in
    let most : nat_le (length players) 6 ≡ true = grind (arith, nat_tests) in
    (grind (arith, nat_tests), grind (arith, nat_tests))

-- the table after a lawful request
played_by : PlaysGoOn → (kit : Kit) (t : TableState) (stamp : ℕ) (r : Request Command) → IsVerdict (step_judgement kit (Some t) stamp r) None
    → ArePlayed kit t.commands → ArePlayed kit (state_after kit (Some t) r).commands
played_by goes_on kit t stamp (Play c) lawful played = goes_on kit t.commands c played (game_takes kit t stamp c lawful)
played_by goes_on kit t stamp (Back k) lawful played = front_played kit (ends_turn kit) k t.commands played
played_by goes_on kit t stamp (Forget k) lawful played = played

played_after : PlaysGoOn → (kit : Kit) (there : Option TableState) (n stamp : ℕ) (r : Request Command) → IsRequest r → IsVerdict (world_judgement kit there n stamp r) None
    → ((t : TableState) → there ≡ Some t → ArePlayed kit t.commands) → ArePlayed kit (state_after kit there r).commands
played_after goes_on kit None n stamp (Play (Open players)) of_form lawful all =
    let count = few_players players of_form in (count.0, count.1, tt)
played_after goes_on kit (Some t) n stamp (Play (Open players)) of_form lawful all = absurd cc
played_after goes_on kit None n stamp r of_form lawful all = absurd cc
played_after goes_on kit (Some t) n stamp r of_form lawful all = played_by goes_on kit t stamp r lawful (all t refl)

insert_step : (kit : Kit) (b : Bool) (e : List ℕ × TableState) (es rest : World) (v : TableState) → ArePlayed kit v.commands → HasPlayed kit (e ∷ es) → HasPlayed kit rest
    → HasPlayed kit (if b then (e.0, v) ∷ es else e ∷ rest)
insert_step kit true e es rest v here all more = (here, all.1)
insert_step kit false e es rest v here all more = (all.0, more)

played_insert : (kit : Kit) (tables : World) (name : List ℕ) (v : TableState) → ArePlayed kit v.commands → HasPlayed kit tables → HasPlayed kit (insert_entry bytes_eq tables name v)
played_insert kit [] name v here all = (here, tt)
played_insert kit (e ∷ es) name v here all =
    insert_step kit (bytes_eq name e.0) e es (insert_entry bytes_eq es name v) v here all (played_insert kit es name v here all.1)

played_step : PlaysGoOn → (kit : Kit) (old : World) (c : TableRequest) → IsLawfulIn kit old c → HasPlayed kit old → HasPlayed kit (world_after kit old c.name c.request)
played_step goes_on kit old c lawful all =
    played_insert kit old c.name (state_after kit (table_named old c.name) c.request)
    (played_after goes_on kit (table_named old c.name) (length old) (present_stamp (table_named old c.name)) c.request lawful.0.1 lawful.1 (λ t is. played_named kit old c.name t is all)) all

played_follow : PlaysGoOn → (kit : Kit) (old new : World) (cs : List TableRequest) → Follows kit old cs new → HasPlayed kit old → HasPlayed kit new
played_follow goes_on kit old new [] same all = subst (λ (w : World). HasPlayed kit w) (sym same) all
played_follow goes_on kit old new (c ∷ cs) follows all = played_follow goes_on kit (world_after kit old c.name c.request) new cs follows.1 (played_step goes_on kit old c follows.0 all)

-- tables of a file: by what each keeps, and by its words

accepted_behind : (kit : Kit) (players : List (List ℕ)) (before commands : List Command) → AreLawful (IsLawfulAfter kit) (Open players ∷ before) commands
    → AreAccepted kit players (play kit (Open players ∷ before)) commands
accepted_behind kit players before [] lawful = tt
accepted_behind kit players before (c ∷ commands) lawful =
    let later : play kit (Open players ∷ before ++ c ∷ []) ≡ played_on kit players (play kit (Open players ∷ before)) c =
    fold-append (played_on kit players) (opened_state players kit.roster) before (c ∷ []) in
    (lawful.0, subst (λ (state : GameState). AreAccepted kit players state commands) later (accepted_behind kit players (before ++ c ∷ []) commands lawful.1))

played_of : (kit : Kit) (commands : List Command) → AreCommands commands → hist.ArePlayed kit commands → ArePlayed kit commands
played_of kit [] spelled played = absurd played
played_of kit (Open players ∷ commands) spelled played =
    let count = few_players players spelled.0 in (count.0, count.1, accepted_behind kit players [] commands played.1)
played_of kit (c ∷ commands) spelled played = absurd cc

has_played : (kit : Kit) (tables : World) → KeepCommands tables → ArePlayedTables kit tables → ∥ HasPlayed kit tables ∥₁
has_played kit [] spelled all = ∣ tt ∣₁
has_played kit (t ∷ ts) spelled all =
    ∥∥₁_map₂ all.0.lawful (has_played kit ts spelled.1 all.1) (λ here more. (played_of kit t.1.commands spelled.0 here, more))

-- a table that is sound, where it is known that some proof says so

module _ (n : ℕ) (book : Book) where
  leads_from : (c : Corp) (s : Seat) → holder book (C.President c) ≡ Some (L.Seat s) → IsOffered book c ⊎ IsLed n book c → (s.0 < n) × NobodyHasMore book c n s
  leads_from c s is (inl offered) = absurd (cc (sym offered ∙ is))
  leads_from c s is (inr led) =
      let same : led.seat ≡ s = cc (sym led.presides ∙ is) in
      subst (λ (t : Seat). (t.0 < n) × NobodyHasMore book c n t) same (led.at_table, led.leads)

  presided : (c : Corp) (place : Option Place) → holder book (C.President c) ≡ place → ∥ HasGreatestPresidents n book ∥₁ → IsOffered book c ⊎ IsLed n book c
  presided c (Some L.Offer) is some = inl is
  presided c (Some (L.Seat s)) is some =
      let leads = λ (all : HasGreatestPresidents n book). leads_from c s is (all c) in
      inr (record {
        seat = s;
        at_table = ∥∥₁_elim some (hlevel props) (λ all. (leads all).0);
        presides = is;
        leads = ∥∥₁_elim some (hlevel props) (λ all. (leads all).1);
      })
  presided c place is some = absurd (∥∥₁_elim some ⊥_prop (λ all. elsewhere (all c)))
    where
      elsewhere : IsOffered book c ⊎ IsLed n book c → ⊥
      elsewhere (inl offered) = cc (sym offered ∙ is)
      elsewhere (inr led) = cc (sym led.presides ∙ is)

  settled : (roster : Terms) → ∥ IsSoundTable roster n book ∥₁ → IsSoundTable roster n book
  settled roster some =
      record {
        money = record {
          together = ∥∥₁_elim some (hlevel props) (λ sound. sound.money.together);
          seats = λ s. ∥∥₁_elim some (hlevel props) (λ sound. sound.money.seats s);
          corporations = λ c. ∥∥₁_elim some (hlevel props) (λ sound. sound.money.corporations c);
        };
        dealt = λ cert. ∥∥₁_elim some (hlevel props) (λ sound. sound.dealt cert);
        presidents = λ c. presided c (holder book (C.President c)) refl (∥∥₁_map some (λ sound. sound.presidents));
        pool = λ c. ∥∥₁_elim some (hlevel props) (λ sound. sound.pool c);
      }

-- worlds

module _ (sound : TablesStaySound) (best : BestRunsWereBest) (never_wrong : NeverPaysAWrongDividend) where
  in_order : (kit : Kit) (tables : World) → NamesCorporations kit → HasPlayed kit tables → AreInOrder kit tables
  in_order kit [] order all = tt
  in_order kit (t ∷ ts) order all = (sound kit t.1.commands order all.0, in_order kit ts order all.1)

  best_runs : (kit : Kit) (tables : World) → HasPlayed kit tables → HaveBestRuns kit tables
  best_runs kit [] all = tt
  best_runs kit (t ∷ ts) all = (best kit t.1.commands all.0, best_runs kit ts all.1)

  right_dividends : (texts : KitTexts) (kit : Kit) (tables : World) → SpellsKit texts kit → HasPlayed kit tables → HaveRightDividends kit tables
  right_dividends texts kit [] right all = tt
  right_dividends texts kit (t ∷ ts) right all = (never_wrong texts kit t.1.commands right all.0, right_dividends texts kit ts right all.1)

  sound_all : (texts : KitTexts) (kit : Kit) (tables : World) → SpellsKit texts kit → NamesCorporations kit → HasPlayed kit tables → IsSoundWorld kit tables
  sound_all texts kit tables right order all = (in_order kit tables order all, best_runs kit tables all, right_dividends texts kit tables right all)

  pub worlds_are_sound : PlaysGoOn → WorldsAreSound
  worlds_are_sound goes_on kit requests tables order follows =
      let all = played_follow goes_on kit [] tables requests follows tt in
      (in_order kit tables order all, best_runs kit tables all, λ texts right. right_dividends texts kit tables right all)

  -- whatever comes to a new file
  pub whatever_comes : PlaysGoOn → KitsNameCorporations → WhateverComes → WhateverComesIsSound
  whatever_comes goes_on kits comes texts kit disk events system right each runs =
      let safe = comes texts kit [] disk events system right tt each runs in
      let order = kits texts kit right in
      let played = played_follow goes_on kit [] safe.tables system.acknowledged safe.followed tt in
      record {
        safe = safe;
        sound = sound_all texts kit safe.tables right order played;
        sound_with = λ asked pending lawful. sound_all texts kit (world_after kit safe.tables asked.name asked.request) right order (played_step goes_on kit safe.tables asked lawful played);
      }

  -- files

  kept_in_order : (kit : Kit) (tables : World) → NamesCorporations kit → KeepCommands tables → ArePlayedTables kit tables → AreInOrder kit tables
  kept_in_order kit [] order spelled all = tt
  kept_in_order kit (t ∷ ts) order spelled all = (
    settled (length (players_of t.1.commands)) (play kit t.1.commands).book kit.roster (∥∥₁_map all.0.lawful (λ played. sound kit t.1.commands order (played_of kit t.1.commands spelled.0 played))),
    kept_in_order kit ts order spelled.1 all.1,
  )

  pub files_are_sound : KitsNameCorporations → FilesAreSound
  files_are_sound kits file texts tables stands =
      let kit = stands.kit in
      let of_kit = stands.tables_of_kit in (
        kit,
        stands.right,
        kept_in_order kit tables (kits texts kit stands.right) of_kit.spelled of_kit.played,
        ∥∥₁_map (has_played kit tables of_kit.spelled of_kit.played) (λ all. (best_runs kit tables all, right_dividends texts kit tables stands.right all)),
      )
