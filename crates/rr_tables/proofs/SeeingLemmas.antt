-- What tables are seen as, and how they are judged by that.
use Rattle.std.proofs.Common.{◌≡◌, ◌∙◌, ℕ, List, Option, None, Some, Result, MatchResult, bytes_eq, option_map, inl, inr, refl, sym, ap, subst}
use Rattle.std.proofs.lemmas.Option.{none-some}
use Rattle.std.specs.Global.{Box}
use Rattle.std.proofs.lemmas.Result.{MatchResult-weaker}
use Rattle.indexmap.specs.IndexMap.{get}
use Rattle.rr_code.specs.declared.command.Command.{Command}
use Rattle.rr_code.specs.declared.command.Command.TheVariants.{Open}
use Rattle.rr_game.specs.declared.history.table.Table.{Table}
use Rattle.rr_game.specs.History.Seeing.{Heeds, IsSeenAs, MayRefuseBy, Seen}
use Rattle.rr_kit.specs.declared.kit.Kit.{Kit}
use Rattle.rr_turns.specs.declared.request.Request.{Request}
use Rattle.rr_turns.specs.declared.request.Request.TheVariants.{Play, Back, Forget}
use Rattle.rr_turns.specs.Judgement.{IsVerdict, Judgement, MayFind, settled}
use Rattle.rr_turns.proofs.JudgementLemmas.{first-is-found, is-settled}
use Rattle.rr_tables.specs.declared.fault.Fault.{Fault}
use Rattle.rr_tables.specs.declared.fault.Fault.TheVariants.{File, Rules}
use Rattle.rr_tables.specs.declared.records.fault.Fault as rules
use Rattle.rr_tables.specs.declared.records.fault.Fault.TheVariants as R
use Rattle.rr_tables.specs.declared.tables.Tables.{Tables}
use Rattle.rr_tables.specs.Records.World.{TableState, opening_verdict}
use Rattle.rr_tables.specs.Seeing.{HeedsIn, IsSeenAt, MayRefuseSeen, plain_step, plain_verdict, step_judgement_at, world_judgement_at}
use Rattle.rr_tables.specs.Tables.{kept_in_box}
use Rattle.rr_tables.specs.Taking.{MayRefuse}

-- what a judge may find is why it may refuse
found_so : {F : Type 0} (j : Judgement F) (wanting : F) (request : Request Command) (fault : F) → MayFind j wanting fault → MayRefuseBy j wanting request fault
found_so j wanting (Back k) fault found = inl found
found_so j wanting (Play c) fault found = found
found_so j wanting (Forget k) fault found = found

one_box : (a b : Box Table) → Some a ≡ Some b → a ≡ b
one_box a b e = cc

-- a table that is there is seen as something
pub seen_there : (tables : Tables) (name : List ℕ) (table : Box Table) → get bytes_eq tables.map name ≡ Some table → (seen : Option Seen) → IsSeenAt tables name seen
    → (s : Seen) × (seen ≡ Some s) × IsSeenAs table.value s
seen_there tables name table there None none = absurd (none-some table (sym none ∙ there))
seen_there tables name table there (Some s) is =
    (s, refl, subst (λ (t : Box Table). IsSeenAs t.value s) (one_box is.0 table (sym is.1 ∙ there)) is.2)

-- one that isn't there isn't
pub seen_nowhere : (tables : Tables) (name : List ℕ) → get bytes_eq tables.map name ≡ None → (seen : Option Seen) → IsSeenAt tables name seen → seen ≡ None
seen_nowhere tables name absent None none = refl
seen_nowhere tables name absent (Some s) is = absurd (none-some is.0 (sym absent ∙ is.1))

-- what it keeps
pub seen_kept : (tables : Tables) (name : List ℕ) (seen : Option Seen) → IsSeenAt tables name seen
    → option_map kept_in_box (get bytes_eq tables.map name) ≡ option_map (λ (s : Seen). s.kept) seen
seen_kept tables name None none = ap (option_map kept_in_box) none
seen_kept tables name (Some s) is = ap (option_map kept_in_box) is.1 ∙ ap Some is.2.kept

-- no table has the name
pub seen_lacking : (kit : Kit) (seen : Option Seen) (stamp : ℕ) (request : Request Command) → seen ≡ None
    → MayRefuseBy (step_judgement_at kit seen stamp request) R.OutOfMemory request R.NoSuchTable
seen_lacking kit seen stamp request none =
    subst (λ (o : Option Seen). MayRefuseBy (step_judgement_at kit o stamp request) R.OutOfMemory request R.NoSuchTable) (sym none) (lacking request)
  where
    lacking : (r : Request Command) → MayRefuseBy (settled (Some R.NoSuchTable)) R.OutOfMemory r R.NoSuchTable
    lacking r = found_so (settled (Some R.NoSuchTable)) R.OutOfMemory r R.NoSuchTable (first-is-found (settled (Some R.NoSuchTable)) R.OutOfMemory R.NoSuchTable refl)

-- an opening is judged alike
pub opening_seen : (kit : Kit) (tables : Tables) (name : List ℕ) (n stamp : ℕ) (players : List (List ℕ)) (seen : Option Seen) → IsSeenAt tables name seen
    → {A : Type 0} (result : Result A Fault)
    → MatchResult result (λ _. IsVerdict (settled (opening_verdict (option_map kept_in_box (get bytes_eq tables.map name)) n stamp)) None)
    (MayRefuse (settled (opening_verdict (option_map kept_in_box (get bytes_eq tables.map name)) n stamp)))
    → MatchResult result (λ _. IsVerdict (world_judgement_at kit seen n stamp (Play (Open players))) None)
    (MayRefuseSeen (world_judgement_at kit seen n stamp (Play (Open players))) (Play (Open players)))
opening_seen kit tables name n stamp players seen is result judged =
    let same = ap (λ o. opening_verdict o n stamp) (seen_kept tables name seen is) in
    let By : Option rules.Fault → Type 0 = λ o. MatchResult result (λ _. IsVerdict (settled o) None) (MayRefuse (settled o)) in
    MatchResult-weaker result (subst By same judged) (λ _ h. h) (refused (opening_verdict (option_map (λ (s : Seen). s.kept) seen) n stamp))
  where
    refused : (o : Option rules.Fault) (fault : Fault) → MayRefuse (settled o) fault → MayRefuseSeen (settled o) (Play (Open players)) fault
    refused o (Rules fault) h = h
    refused o (File fault) h = h

-- and another request as its table judges it
pub step_seen : (kit : Kit) (seen : Option Seen) (n stamp : ℕ) (request : Request Command) → ((players : List (List ℕ)) → request ≡ Play (Open players) → ⊥)
    → {A : Type 0} (result : Result A Fault)
    → MatchResult result (λ _. IsVerdict (step_judgement_at kit seen stamp request) None) (MayRefuseSeen (step_judgement_at kit seen stamp request) request)
    → MatchResult result (λ _. IsVerdict (world_judgement_at kit seen n stamp request) None) (MayRefuseSeen (world_judgement_at kit seen n stamp request) request)
step_seen kit seen n stamp (Play (Open players)) other result judged = absurd (other players refl)
step_seen kit seen n stamp _ other result judged = judged

-- what the checks say that look at no position

pub heeds_map : {F G : Type 0} (f : F → G) (verdict : Option F) (fault : F) → Heeds verdict fault → Heeds (option_map f verdict) (f fault)
heeds_map f verdict fault (inl is) = inl (ap (option_map f) is)
heeds_map f verdict fault (inr none) = inr (ap (option_map f) none)

pub opening_plain : (o : Option rules.Fault) {A : Type 0} (result : Result A Fault) → MatchResult result (λ _. IsVerdict (settled o) None) (MayRefuse (settled o))
    → MatchResult result (λ _. o ≡ None) (HeedsIn o)
opening_plain o result judged = MatchResult-weaker result judged (λ _ lawful. sym (is-settled o None lawful)) refused
  where
    refused : (fault : Fault) → MayRefuse (settled o) fault → HeedsIn o fault
    refused (Rules fault) (inl verdict) = inl (sym (is-settled o (Some fault) verdict))
    refused (Rules fault) (inr wants) = inr wants.0
    refused (File fault) lawful = sym (is-settled o None lawful)

pub step_plain : (t : Option TableState) (n stamp : ℕ) (request : Request Command) → ((players : List (List ℕ)) → request ≡ Play (Open players) → ⊥)
    → plain_verdict t n stamp request ≡ plain_step t stamp request
step_plain t n stamp (Play (Open players)) other = absurd (other players refl)
step_plain t n stamp _ other = refl
