-- Tables in a map, as the tables by name that they stand for.
use Rattle.std.proofs.Common.{◌≡◌, ℕ, ◌+◌, zero, suc, Bool, true, false, cond, List, [], ◌∷◌, ◌++◌, length, Option, None, Some, option_map, refl, sym, ap, ◌∙◌, bytes_eq, if◌then◌else◌, IfOk, Result, Ok, Err, take, slice_get, unwrap_or, arith}
use Rattle.std.specs.Map.{keys_of}
use Rattle.std.proofs.lemmas.List.{take_more}
use Rattle.std.proofs.lemmas.Option.{get_or_from_slice_get, slice_get-map, slice_get_within}
use Rattle.std.specs.Map.{lookup, set_value}
use Rattle.indexmap.specs.IndexMap.{insert_entry}
use Rattle.rr_code.specs.declared.command.Command.{Command}
use Rattle.rr_code.specs.declared.command.Command.TheVariants.{Open}
use Rattle.rr_kit.specs.declared.kit.Kit.{Kit}
use Rattle.rr_turns.specs.declared.request.Request.{Request}
use Rattle.rr_turns.specs.declared.request.Request.TheVariants.{Play}
use Rattle.rr_tables.specs.Records.World.{TableState, World, judgement_in, names, opening_verdict, requests_in, state_after, step_judgement, table_named, world_after}
use Rattle.rr_tables.specs.declared.fault.Fault.{Fault}
use Rattle.rr_tables.specs.declared.taking.Taken.{Taken}
use Rattle.rr_tables.specs.Tables.{world_by}

module _ {T : Type 0} (state : T → TableState) where
  named_step : (b : Bool) (e : List ℕ × T) (o : Option T) (p : Option TableState) → p ≡ option_map state o
      → cond b (Some (state e.1)) p ≡ option_map state (cond b (Some e.1) o)
  named_step true e o p h = refl
  named_step false e o p h = h

  -- the table of a name is what the map has there
  pub named_by : (name : List ℕ) (entries : List (List ℕ × T))
      → table_named (world_by state entries) name ≡ option_map state (lookup (bytes_eq name) entries)
  named_by name [] = refl
  named_by name (e ∷ es) = named_step (bytes_eq name e.0) e (lookup (bytes_eq name) es) (table_named (world_by state es) name) (named_by name es)

  -- there are as many
  pub counted_by : (entries : List (List ℕ × T)) → length (world_by state entries) ≡ length entries
  counted_by [] = refl
  counted_by (e ∷ es) = ap suc (counted_by es)

  set_step : (b : Bool) (e : List ℕ × T) (es : List (List ℕ × T)) (t w : T) (v : TableState) (name : List ℕ) → bytes_eq name e.0 ≡ b
      → state w ≡ v → cond b (Some e.1) (lookup (bytes_eq name) es) ≡ Some t
      → (lookup (bytes_eq name) es ≡ Some t → world_by state (set_value (bytes_eq name) es w) ≡ insert_entry bytes_eq (world_by state es) name v)
      → world_by state (cond b ((e.0, w) ∷ es) (e ∷ set_value (bytes_eq name) es w))
      ≡ (if b then (e.0, v) ∷ world_by state es else (e.0, state e.1) ∷ insert_entry bytes_eq (world_by state es) name v)
  set_step true e es t w v name is same found more = ap (λ s. (e.0, s) ∷ world_by state es) same
  set_step false e es t w v name is same found more = ap (λ l. (e.0, state e.1) ∷ l) (more found)

  set_by : (name : List ℕ) (entries : List (List ℕ × T)) (t w : T) (v : TableState) → state w ≡ v
      → lookup (bytes_eq name) entries ≡ Some t
      → world_by state (set_value (bytes_eq name) entries w) ≡ insert_entry bytes_eq (world_by state entries) name v
  set_by name [] t w v same found = absurd cc
  set_by name (e ∷ es) t w v same found =
      set_step (bytes_eq name e.0) e es t w v name refl same found (set_by name es t w v same)

  -- a table that is there has taken a request
  pub world_set : (kit : Kit) (name : List ℕ) (entries : List (List ℕ × T)) (t w : T) (c : Request Command) → state w ≡ state_after kit (Some (state t)) c
      → lookup (bytes_eq name) entries ≡ Some t
      → world_by state (set_value (bytes_eq name) entries w) ≡ world_after kit (world_by state entries) name c
  world_set kit name entries t w c same found =
      set_by name entries t w _ same found
      ∙ ap (λ o. insert_entry bytes_eq (world_by state entries) name (state_after kit o c)) (sym (named_by name entries ∙ ap (option_map state) found))

  same_step : (b : Bool) (e : List ℕ × T) (es : List (List ℕ × T)) (t w : T) (name : List ℕ) → state w ≡ state t
      → cond b (Some e.1) (lookup (bytes_eq name) es) ≡ Some t
      → (lookup (bytes_eq name) es ≡ Some t → world_by state (set_value (bytes_eq name) es w) ≡ world_by state es)
      → world_by state (cond b ((e.0, w) ∷ es) (e ∷ set_value (bytes_eq name) es w)) ≡ (e.0, state e.1) ∷ world_by state es
  same_step true e es t w name same found more =
      ap (λ s. (e.0, s) ∷ world_by state es) (same ∙ sym (ap (λ (o : Option T). state (unwrap_or o e.1)) found))
  same_step false e es t w name same found more = ap (λ l. (e.0, state e.1) ∷ l) (more found)

  -- a table that keeps what it kept
  pub world_same : (name : List ℕ) (entries : List (List ℕ × T)) (t w : T) → state w ≡ state t → lookup (bytes_eq name) entries ≡ Some t
      → world_by state (set_value (bytes_eq name) entries w) ≡ world_by state entries
  world_same name [] t w same found = absurd cc
  world_same name (e ∷ es) t w same found = same_step (bytes_eq name e.0) e es t w name same found (world_same name es t w same)

  add_step : (b : Bool) (e : List ℕ × T) (es : List (List ℕ × T)) (w : T) (v : TableState) (name : List ℕ) → cond b (Some e.1) (lookup (bytes_eq name) es) ≡ None
      → (lookup (bytes_eq name) es ≡ None → world_by state (es ++ (name, w) ∷ []) ≡ insert_entry bytes_eq (world_by state es) name v)
      → (e.0, state e.1) ∷ world_by state (es ++ (name, w) ∷ [])
      ≡ (if b then (e.0, v) ∷ world_by state es else (e.0, state e.1) ∷ insert_entry bytes_eq (world_by state es) name v)
  add_step true e es w v name none more = absurd cc
  add_step false e es w v name none more = ap (λ l. (e.0, state e.1) ∷ l) (more none)

  add_by : (name : List ℕ) (entries : List (List ℕ × T)) (w : T) (v : TableState) → state w ≡ v → lookup (bytes_eq name) entries ≡ None
      → world_by state (entries ++ (name, w) ∷ []) ≡ insert_entry bytes_eq (world_by state entries) name v
  add_by name [] w v same none = ap (λ s. (name, s) ∷ []) same
  add_by name (e ∷ es) w v same none = add_step (bytes_eq name e.0) e es w v name none (add_by name es w v same)

  -- a table that is opened comes last
  pub world_add : (kit : Kit) (name : List ℕ) (entries : List (List ℕ × T)) (w : T) (c : Request Command) → state w ≡ state_after kit None c
      → lookup (bytes_eq name) entries ≡ None
      → world_by state (entries ++ (name, w) ∷ []) ≡ world_after kit (world_by state entries) name c
  world_add kit name entries w c same none =
      add_by name entries w _ same none
      ∙ ap (λ o. insert_entry bytes_eq (world_by state entries) name (state_after kit o c)) (sym (named_by name entries ∙ ap (option_map state) none))

  -- the judgement on an opening, and on another request
  pub opening_in : (name : List ℕ) (entries : List (List ℕ × T)) (stamp : ℕ)
      → opening_verdict (table_named (world_by state entries) name) (length (world_by state entries)) stamp
      ≡ opening_verdict (option_map state (lookup (bytes_eq name) entries)) (length entries) stamp
  opening_in name entries stamp =
      ap (λ o. opening_verdict o (length (world_by state entries)) stamp) (named_by name entries)
      ∙ ap (λ n. opening_verdict (option_map state (lookup (bytes_eq name) entries)) n stamp) (counted_by entries)

  pub step_in : (kit : Kit) (name : List ℕ) (entries : List (List ℕ × T)) (stamp : ℕ) (c : Request Command)
      → ((players : List (List ℕ)) → c ≡ Play (Open players) → ⊥)
      → judgement_in kit (world_by state entries) stamp name c
      ≡ step_judgement kit (option_map state (lookup (bytes_eq name) entries)) stamp c
  step_in kit name entries stamp (Play (Open players)) other = absurd (other players refl)
  step_in kit name entries stamp c other = ap (λ o. step_judgement kit o stamp c) (named_by name entries)

  -- the stamp of a table that is opened
  pub named_stamp : (kit : Kit) (players : List (List ℕ)) (r : Result Taken Fault) (o : Option T) → IfOk r (λ taken. (taken.stamp ≡ 1) × (o ≡ None))
      → IfOk r (λ taken. taken.stamp ≡ (state_after kit (option_map state o) (Play (Open players))).stamp)
  named_stamp kit players (Ok taken) o h = h.0 ∙ sym (ap (λ p. (state_after kit (option_map state p) (Play (Open players))).stamp) h.1)
  named_stamp kit players (Err fault) o h = tt

-- the tables of a store by their names, as its map has them
pub names_by : {T : Type 0} (state : T → TableState) (entries : List (List ℕ × T)) → names (world_by state entries) ≡ keys_of entries
names_by state [] = refl
names_by state (e ∷ es) = ap (λ l. e.0 ∷ l) (names_by state es)

-- how many requests the first tables have accepted, and one more
requests_push : (ts : World) (t : List ℕ × TableState) → requests_in (ts ++ t ∷ []) ≡ requests_in ts + t.1.stamp
requests_push [] t = omega arith
requests_push (x ∷ ts) t = omega (arith, requests_push ts t)

taken_by : {T : Type 0} (state : T → TableState) (n : ℕ) (entries : List (List ℕ × T)) → take n (world_by state entries) ≡ world_by state (take n entries)
taken_by state zero entries = refl
taken_by state (suc n) [] = refl
taken_by state (suc n) (e ∷ es) = ap (λ l. (e.0, state e.1) ∷ l) (taken_by state n es)

pub by_push : {T : Type 0} (state : T → TableState) (es : List (List ℕ × T)) (e : List ℕ × T) → world_by state (es ++ e ∷ []) ≡ world_by state es ++ (e.0, state e.1) ∷ []
by_push state [] e = refl
by_push state (x ∷ es) e = ap (λ l. (x.0, state x.1) ∷ l) (by_push state es e)

pub requests_more : {T : Type 0} (state : T → TableState) (entries : List (List ℕ × T)) (place : ℕ) (e : List ℕ × T) → slice_get entries place ≡ Some e
    → requests_in (take (place + 1) (world_by state entries)) ≡ requests_in (take place (world_by state entries)) + (state e.1).stamp
requests_more state entries place e at =
    let one = take_more entries place e (slice_get_within entries place e at) ∙ ap (λ x. take place entries ++ x ∷ []) (get_or_from_slice_get entries place e e at) in
    ap requests_in (taken_by state (place + 1) entries ∙ ap (world_by state) one ∙ by_push state (take place entries) e)
    ∙ requests_push (world_by state (take place entries)) (e.0, state e.1)
    ∙ ap (λ (w : World). requests_in w + (state e.1).stamp) (sym (taken_by state place entries))

-- the name at a place
pub named_at : {T : Type 0} (state : T → TableState) (entries : List (List ℕ × T)) (place : ℕ) (r : Option (List ℕ × T)) → slice_get entries place ≡ r
    → slice_get (names (world_by state entries)) place ≡ option_map (λ e. e.0) r
named_at {T} state entries place r at =
    let named : List ℕ × TableState → List ℕ = λ t. t.0 in
    let seen : List ℕ × T → List ℕ × TableState = λ e. (e.0, state e.1) in
    let here : slice_get (names (world_by state entries)) place ≡ option_map named (option_map seen r) =
    slice_get-map named (world_by state entries) place
    ∙ ap (option_map named) (slice_get-map seen entries place ∙ ap (option_map seen) at) in
    here ∙ twice r
  where
    twice : (o : Option (List ℕ × T)) → option_map (λ (t : List ℕ × TableState). t.0) (option_map (λ (e : List ℕ × T). (e.0, state e.1)) o) ≡ option_map (λ e. e.0) o
    twice None = refl
    twice (Some e) = refl

-- no table of a name is in the map where none is in the world
pub absent_by : {T : Type 0} (state : T → TableState) (name : List ℕ) (entries : List (List ℕ × T)) → table_named (world_by state entries) name ≡ None → lookup (bytes_eq name) entries ≡ None
absent_by {T} state name entries none = unmapped (lookup (bytes_eq name) entries) (sym (named_by state name entries) ∙ none)
  where
    unmapped : (o : Option T) → option_map state o ≡ None → o ≡ None
    unmapped None h = refl
    unmapped (Some t) h = absurd cc
