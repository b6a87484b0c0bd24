-- What centres are worth.
use Rattle.std.proofs.Common.{◌≡◌, ℕ, ◌≤◌, sym, subst, List, length, map, get_or, inl, inr, arith}
use Rattle.std.specs.Prelude.{All, slice_index}
use Rattle.std.proofs.lemmas.Bool.{cases_lt}
use Rattle.std.proofs.lemmas.List.{get_or_past}
use Rattle.std.proofs.lemmas.List.Elements.{All-map, All-weaker}
use Rattle.rr_roster.specs.declared.company.Kind.{Kind as TrainKind}
use Rattle.rr_roster.specs.declared.company.Kind.TheVariants.{Two, Three, Four, Five, Six, Diesel}
use Rattle.rr_tiles.specs.declared.part.Kind.{Kind}
use Rattle.rr_tiles.specs.declared.part.Kind.TheVariants.{Town, City, OffBoard}
use Rattle.rr_tiles.specs.Sound.{IsKind}
use Rattle.rr_network.specs.declared.network.Stop.{Stop}
use Rattle.rr_network.specs.Stops.{IsStop}
use Rattle.rr_running.specs.Net.Centres.{value_in, worth_as}

off_board-modest : (phase : TrainKind) (later value : ℕ) → later ≤ 990 → value ≤ 990 → worth_as phase (OffBoard later) value ≤ 990
off_board-modest Two later value second first = first
off_board-modest Three later value second first = first
off_board-modest Four later value second first = first
off_board-modest Five later value second first = second
off_board-modest Six later value second first = second
off_board-modest Diesel later value second first = second

worth-modest : (phase : TrainKind) (kind : Kind) (value : ℕ) → IsKind kind → value ≤ 990 → worth_as phase kind value ≤ 990
worth-modest phase Town value sound small = small
worth-modest phase (City slots) value sound small = small
worth-modest phase (OffBoard later) value sound small = off_board-modest phase later value sound.to_990 small

pub values-modest : (phase : TrainKind) (stops : List Stop) (values : List ℕ) → values ≡ map (value_in phase) stops → All IsStop stops → (centre : ℕ) → slice_index values centre ≤ 990
values-modest phase stops values is sound centre =
    let each : All (λ n. n ≤ 990) (map (value_in phase) stops) = All-map (λ n. n ≤ 990) (value_in phase) stops (All-weaker IsStop (λ stop. value_in phase stop ≤ 990) (λ stop s. worth-modest phase stop.kind stop.value s.sound_kind s.sound_value.to_990) stops sound) in
    let all : All (λ n. n ≤ 990) values = subst (All (λ n. n ≤ 990)) (sym is) each in
    elim (cases_lt centre (length values)) [
      | inl inside ↦ all centre 0 inside
      | inr past ↦ let none : get_or values centre 0 ≡ 0 = get_or_past values centre 0 past in omega (arith, none)
    ]
