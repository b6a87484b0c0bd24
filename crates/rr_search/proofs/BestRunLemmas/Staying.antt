-- The net of a board has a legal sheet: its trains stay where they are.
use Rattle.std.proofs.Common.{◌≡◌, ℕ, zero, suc, Some, List, [], ◌∷◌, length, map, replicate, refl, sym, ◌∙◌, ap, subst, inl}
use Rattle.std.specs.List.{Contains, slice_get, slice_index_or}
use Rattle.std.proofs.lemmas.List.{length-map, length-replicate}
use Rattle.rr_kit.specs.Board.Plan.{Plan}
use Rattle.rr_kit.specs.declared.board.hex.Hex.{Hex}
use Rattle.rr_books.specs.Book.{Book, train_holder}
use Rattle.rr_running.specs.Net.Running.{net_of}
use Rattle.rr_network.specs.Network.{Net as Network, network}
use Rattle.rr_market.specs.Operations.Phases.{phase}
use Rattle.rr_roster.specs.declared.company.Corp.{Corp}
use Rattle.rr_roster.specs.declared.company.Kind.{Kind}
use Rattle.rr_routes.specs.Net.{Net, limit_of}
use Rattle.rr_routes.specs.Routes.{Trip, no_trip, Run, earned}
use Rattle.rr_routes.specs.declared.net.CentreLimit.TheVariants.{AtMost}
use Rattle.rr_routes.specs.declared.net.Node.TheVariants.{Hexside}
use Rattle.rr_routes.proofs.Elements.{Contains-nil}
use Rattle.rr_referee.specs.Sheets.{IsLegal, IsWordOf, limit_of_kind}
use Rattle.rr_running.specs.Running.{kinds_held, net_now}
use Rattle.rr_search.specs.Found.{HasNoSheet}
use Rattle.rr_routes.specs.declared.sheets.sheet.TrainWord.{TrainWord}
use Rattle.rr_tiles.specs.declared.supply.Supply.{Supply}
use Rattle.rr_search.specs.BestRun.Worded.{HasLegal}

-- the word of a train that stays
abbrev staying_word : Kind → TrainWord
staying_word kind = record { kind = kind; links = [] }

word_stays : (kinds : List Kind) (train : ℕ) (word : TrainWord) → slice_get (map staying_word kinds) train ≡ Some word
    → (limit_of_kind word.kind ≡ slice_index_or (map limit_of_kind kinds) train (AtMost 0)) × (word.links ≡ [])
word_stays [] train word at = cc
word_stays (kind ∷ kinds) zero word at =
    let is : staying_word kind ≡ word = cc in
    (ap (λ (w : TrainWord). limit_of_kind w.kind) (sym is), ap (λ (w : TrainWord). w.links) (sym is))
word_stays (kind ∷ kinds) (suc train) word at = word_stays kinds train word at

nothing_twice : (n train : ℕ) → slice_index_or (replicate n no_trip) train no_trip ≡ no_trip
nothing_twice zero train = refl
nothing_twice (suc n) zero = refl
nothing_twice (suc n) (suc train) = nothing_twice n train

-- each train stays
abbrev staying : Net → List Trip
staying net = replicate (length net.trains) no_trip

staying_runs : (net : Net) → Run net (staying net)
staying_runs net = record {
  complete = length-replicate (length net.trains) no_trip;
  lawful = λ train. inl (nothing_twice (length net.trains) train);
  apart = λ one other differ side c d.
      Contains-nil (Hexside side) (subst (λ (trip : Trip). Contains trip.nodes (Hexside side)) (nothing_twice (length net.trains) one) c);
}

staying_sheet : (hexes : List Hex) (network : Network) (c : Corp) (kinds : List Kind) (phase : Kind) → let net = net_of hexes network c kinds phase in
    IsLegal net (map staying_word kinds) (earned net (staying net))
staying_sheet hexes network c kinds phase =
    let net = net_of hexes network c kinds phase in
    record {
      run = staying net;
      is_run = staying_runs net;
      is_sheet = record {
        complete = length-map kinds staying_word ∙ sym (length-map kinds limit_of_kind) ∙ sym (length-replicate (length net.trains) no_trip);
        each = λ train word at.
            let is = word_stays kinds train word at in
            subst (λ (trip : Trip). IsWordOf (limit_of net train) word trip) (sym (nothing_twice (length net.trains) train))
            (record { kind = is.0; numbers = is.1; direction = inl refl });
      };
      earns = refl;
    }

-- so a board's net has one
pub home_sheet : (plan : Plan) (tiles : List Supply) (book : Book) (c : Corp) → (sheet : List TrainWord) × HasLegal (net_now plan tiles book c) sheet
home_sheet plan tiles book c =
    let kinds = kinds_held (train_holder book) c in
    let net : Net = net_now plan tiles book c in
    (map staying_word kinds, (earned net (staying net), staying_sheet plan.hexes (network plan tiles book) c kinds (phase (train_holder book))))

pub has_sheet : (plan : Plan) (tiles : List Supply) (book : Book) (c : Corp) → HasNoSheet (net_now plan tiles book c) → ⊥
has_sheet plan tiles book c none = let home = home_sheet plan tiles book c in none home.0 home.1.0 home.1.1
