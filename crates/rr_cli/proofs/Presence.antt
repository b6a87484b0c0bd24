-- Where a simple command takes the words, each row of its matches has a value. So what is required
-- can be read.
use Rattle.std.proofs.Common.{◌≡◌, ◌<◌, ◌&&◌, ℕ, Bool, cond, true, false, zero, suc, refl, sym, ap, arith, List, [], ◌∷◌, ◌++◌, length, drop, Option, Some, None, is_some, IfSome, true≢false, length-append}
use Rattle.std.specs.Prelude.{encode_utf8, slice_get, option_and_then}
use Rattle.std.specs.List.{find, fold}
use Rattle.std.specs.Option.{option_map_or}
use Rattle.std.specs.Str.{bytes_eq, chars}
use Rattle.clap.specs.Lexer.{long_of, short_of}
use Rattle.clap.specs.Walk.{Held, Names, Outcome, Row, Rule, Step, Text, Waiting, Walk, after_flag, after_step, arg_by_id, arg_by_index, arg_by_long, arg_by_short, at_row, attached_value, bundle_met, bundle_step, default_rows, done, first_of, flag_met, has_row, idle, is_pending, long_met, long_or_other, more_values, next, nothing_held, option, option_met, option_word, plain, reading_by, plain_word, positional, reacted, refused, rows_after, settled, settled_rows, short_met, short_or_plain, subcommand, subcommand_met, subcommand_or_other, takes_several, takes_values, to_positional, trailing, used, used_by_id, value, waits, walk, walk_from, walked, walked_from, with_default, with_values, without, word_met}
use Rattle.clap.specs.Simple.{Shape}
use Rattle.clap.specs.Takes.{is_given}
use Rattle.clap.specs.Kinds.{Kinds, or_else}
use Rattle.clap.specs.Faults.{bundle_fault, check_fault, defaults_fault, bundle_step_fault, flag_word_fault, flags_fault, level_fault, long_fault, option_fault, other_fault, positional_fault, react_fault, settle_fault, short_fault, step_fault, stray_fault, turn_fault, use_fault, walk_fault, word_fault}
use Rattle.clap.specs.declared.builder.value_parser.Reading.{Reading}
use Rattle.clap.specs.declared.parser.matches.ValueSource.{ValueSource}
use Rattle.clap.specs.declared.parser.matches.ValueSource.TheVariants.{CommandLine, DefaultValue}
use Rattle.clap.specs.declared.builder.action.ArgAction.TheVariants.{Set, Help}
use Rattle.clap.specs.Facts.{explicit_source}
use Rattle.clap.specs.declared.error.kind.ErrorKind.{ErrorKind}
use Rattle.clap.specs.declared.error.kind.ErrorKind.TheVariants as kind

-- ---- lists of faults

pub some_fault : (k : ErrorKind) (ks : Kinds) → k ∷ ks ≡ [] → ⊥
some_fault k ks e = let bad : suc (length ks) ≡ 0 = ap length e in absurd (omega arith)

pub both_pass : (a b : Kinds) → or_else a b ≡ [] → (a ≡ []) × (b ≡ [])
both_pass [] b e = (refl, e)
both_pass (k ∷ ks) b e = absurd (some_fault k ks e)

on_cond : {X : Type 0} (P : X → Type 0) (b : Bool) (x y : X) → P x → P y → P (cond b x y)
on_cond P true x y p q = p
on_cond P false x y p q = q

on_both : {X : Type 0} (P : X → Type 0) (b : Bool) (x y : X) (f g : Kinds) → (f ≡ [] → P x) → (g ≡ [] → P y) → cond b f g ≡ [] → P (cond b x y)
on_both P true x y f g p q e = p e
on_both P false x y f g p q e = q e

-- ---- rows with values

abbrev pub Filled : List Row → Type 0
Filled [] = Unit {0}
Filled (r ∷ rs) = (0 < length r.values) × Filled rs

at_row-filled : (id : Text) (change : Row → List Row) (missing rows : List Row)
    → ((r : Row) (rs : List Row) → 0 < length r.values → Filled rs → Filled (change r ++ rs)) → Filled missing → Filled rows
    → Filled (at_row id change missing rows)
at_row-filled id change missing [] keeps new h = new
at_row-filled id change missing (r ∷ rs) keeps new h =
    on_cond Filled (bytes_eq r.id id) (change r ++ rs) (r ∷ at_row id change missing rs)
    (keeps r rs h.0 h.1)
    (h.0, at_row-filled id change missing rs keeps new h.1)

without-filled : (id : Text) (rows : List Row) → Filled rows → Filled (without id rows)
without-filled id rows h = at_row-filled id (λ _. []) [] rows (λ r rs lt rest. rest) tt h

with_values-filled : (id : Text) (how : Reading) (s : ValueSource) (v : Text) (vs : List Text) (rows : List Row) → Filled rows
    → Filled (with_values id how s (v ∷ vs) rows)
with_values-filled id how s v vs rows h = at_row-filled id (more_values s (v ∷ vs)) (record {
  id = id;
  values = v ∷ vs;
  count = None;
  source = Some s;
  reading = how;
} ∷ []) rows
    (λ r rs lt rest. (omega (arith, length-append r.values (v ∷ vs)), rest))
    (omega arith, tt) h

-- ---- one use of an argument

-- a use of the argument that passes keeps the rows filled
abbrev pub Keeps : Rule → Type 0
Keeps a = (again : Bool) (values : List Text) (rows : List Row) → use_fault again a values rows ≡ [] → Filled rows → Filled (used a values rows)

abbrev pub EachKeeps : List Rule → Type 0
EachKeeps [] = Unit {0}
EachKeeps (a ∷ rest) = Keeps a × EachKeeps rest

found_keeps : (p : Rule → Bool) (c : List Rule) → EachKeeps c → IfSome (find p c) Keeps
found_keeps p [] each = tt
found_keeps p (a ∷ rest) each = on_cond (λ o. IfSome o Keeps) (p a) (Some a) (find p rest) each.0 (found_keeps p rest each.1)

module _ (c : List Rule) (each : EachKeeps c) (again : Bool) where
  settled-filled : (h : Held) → settle_fault c again h ≡ [] → Filled h.rows → Filled (settled c h).rows
  settled-filled h = go h.pending h.rows
    where
      use_it : (o : Option Rule) (values : List Text) (rows : List Row) → IfSome o Keeps → option_map_or (λ a. use_fault again a values rows) o [] ≡ [] → Filled rows
          → Filled (used_by_id o values rows)
      use_it None values rows keeps e f = f
      use_it (Some a) values rows keeps e f = keeps again values rows e f

      go : (p : Option (Text × List Text)) (rows : List Row)
          → option_map_or (λ p. option_map_or (λ a. use_fault again a p.1 rows) (arg_by_id c p.0) []) p [] ≡ [] → Filled rows → Filled (settled_rows c p rows)
      go None rows e f = f
      go (Some p) rows e f = use_it (arg_by_id c p.0) p.1 rows (found_keeps _ c each) e f

  reacted-filled : (a : Rule) → Keeps a → (values : List Text) (h : Held) → react_fault c again a values h ≡ [] → Filled h.rows → Filled (reacted c a values h).rows
  reacted-filled a keeps values h e f =
      let parts = both_pass (settle_fault c again h) _ e in
      keeps again values (settled c h).rows parts.1 (settled-filled h parts.0 f)

  option_met-filled : (a : Rule) → Keeps a → (v : Option Text) (h : Held) → option_fault c again a v h ≡ [] → Filled h.rows → Filled (option_met c a v h).0.rows
  option_met-filled a keeps None h e f = settled-filled h e f
  option_met-filled a keeps (Some v) h e f = reacted-filled a keeps (v ∷ []) h e f

  flag_met-filled : (a : Rule) → Keeps a → (v : Option Text) (h : Held) (over : Kinds) → cond (is_some v) over (react_fault c again a [] h) ≡ [] → Filled h.rows → Filled (flag_met c a v h).0.rows
  flag_met-filled a keeps None h over e f = reacted-filled a keeps [] h e f
  flag_met-filled a keeps (Some v) h over e f = f

  long_met-filled : (o : Option Rule) → IfSome o Keeps → (v : Option Text) (h : Held) → long_fault c again o v h ≡ [] → Filled h.rows → Filled (long_met c o v h).0.rows
  long_met-filled None keeps v h e f = f
  long_met-filled (Some a) keeps v h e f =
      on_both (λ (m : Held × Outcome). Filled m.0.rows) (takes_values a) (option_met c a v h) (flag_met c a v h) _ _
      (λ pass. option_met-filled a keeps v h pass f) (λ pass. flag_met-filled a keeps v h (kind.TooManyValues ∷ []) pass f) e

  -- ---- a bundle of flags

  short_met-filled : (o : Option Rule) → IfSome o Keeps → (rest : Text) (h : Held) (go_on : Held → Held × Outcome) (fault : Held → Kinds)
      → ((g : Held) → fault g ≡ [] → Filled g.rows → Filled (go_on g).0.rows) → short_fault c again o rest h fault ≡ [] → Filled h.rows
      → Filled (short_met c o rest h go_on).0.rows
  short_met-filled None keeps rest h go_on fault later e f = f
  short_met-filled (Some a) keeps rest h go_on fault later e f =
      on_both (λ (m : Held × Outcome). Filled m.0.rows) (takes_values a) (option_met c a (attached_value rest) h) (go_on (reacted c a [] h)) _ _
      (λ pass. option_met-filled a keeps (attached_value rest) h pass f)
      (λ pass.
      let parts = both_pass (react_fault c again a [] h) _ pass in
      later (reacted c a [] h) parts.1 (reacted-filled a keeps [] h parts.0 f))
      e

  bundle_met-filled : (k : ℕ) (flags : Text) (skip : ℕ) (so_far : Outcome) (h : Held) → flags_fault c again k flags skip h ≡ [] → Filled h.rows
      → Filled (bundle_met c k flags skip so_far h).0.rows
  unfolding bundle_met flags_fault
  bundle_met-filled zero flags skip so_far h e f = f
  bundle_met-filled (suc k) flags skip so_far h e f =
      go (λ t n o g pass filled. bundle_met-filled k t n o g pass filled) (slice_get (chars flags) 0) skip e
    where
      go : ((t : Text) (n : ℕ) (o : Outcome) (g : Held) → flags_fault c again k t n g ≡ [] → Filled g.rows → Filled (bundle_met c k t n o g).0.rows)
          → (o : Option ℕ) (n : ℕ) → bundle_step_fault c again o flags n h (flags_fault c again k) ≡ []
          → Filled (bundle_step c o flags n so_far h (bundle_met c k)).0.rows
      go later None n e = f
      go later (Some x) zero e =
          let rest = drop (length (encode_utf8 x)) flags in
          short_met-filled (arg_by_short c x) (found_keeps _ c each) rest h (bundle_met c k rest 0 done) (flags_fault c again k rest 0) (later rest 0 done) e f
      go later (Some x) (suc n) e = later (drop (length (encode_utf8 x)) flags) n so_far h e f

  -- ---- a word

  plain_word-filled : (waiting : Waiting) (word : Text) (h : Held) → Filled h.rows → Filled (plain_word c waiting word h).0.rows
  plain_word-filled idle word h f = f
  plain_word-filled positional word h f = f
  plain_word-filled (option id) word h f = go (arg_by_id c id)
    where
      go : (o : Option Rule) → Filled (option_word o id word h).0.rows
      go None = f
      go (Some a) = f

  after_flag-filled : (waiting : Waiting) (word : Text) (h : Held) (o : Outcome) → Filled h.rows → Filled (after_flag c waiting word h o).0.rows
  after_flag-filled waiting word h done f = f
  after_flag-filled waiting word h (waits id) f = f
  after_flag-filled waiting word h plain f = plain_word-filled waiting word h f
  after_flag-filled waiting word h refused f = plain_word-filled waiting word h f

  short_word-filled : (waiting : Waiting) (word : Text) (o : Option Text) (h : Held) → option_map_or (λ flags. bundle_fault c again flags h) o [] ≡ [] → Filled h.rows
      → Filled (short_or_plain c waiting word o h).0.rows
  short_word-filled waiting word None h e f = plain_word-filled waiting word h f
  short_word-filled waiting word (Some flags) h e f =
      after_flag-filled waiting word _ _ (bundle_met-filled (length flags) flags h.skip plain (record h { skip = 0 }) e f)

  flag_word-filled : (waiting : Waiting) (word : Text) (o : Option (Text × Option Text)) (h : Held) → flag_word_fault c again o word h ≡ [] → Filled h.rows
      → Filled (long_or_other c waiting word o h).0.rows
  flag_word-filled waiting word None h e f = short_word-filled waiting word (short_of word) h e f
  flag_word-filled waiting word (Some p) h e f =
      after_flag-filled waiting word _ _ (long_met-filled (arg_by_long c p.0) (found_keeps _ c each) p.1 h e f)

module _ (s : Shape) (each : EachKeeps s.rules) where
  met-filled : (o : Option Text) (waiting : Waiting) (position : ℕ) (word : Text) (h : Held) → other_fault s o word h ≡ [] → Filled h.rows
      → Filled (subcommand_or_other s.rules o waiting position word h).0.rows
  met-filled (Some name) waiting position word h e f = f
  met-filled None waiting position word h e f =
      on_both (λ (m : Held × Step). Filled m.0.rows) (bytes_eq word (45 ∷ 45 ∷ [])) (h, trailing position) (long_or_other s.rules waiting word (long_of word) h) _ _
      (λ pass. f) (λ pass. flag_word-filled s.rules each s.args_override_self waiting word (long_of word) h pass f) e

  step-filled : (w : Walk) (word : Text) (h : Held) (step : Step) → step_fault s w.position h step ≡ [] → Filled h.rows
      → Filled (after_step s.rules word w h step).held.rows
  step-filled w word h (next waiting) e f = f
  step-filled w word h (trailing position) e f = f
  step-filled w word h (subcommand name) e f = f
  step-filled w word h value e f = go (arg_by_index s.rules w.position) e
    where
      go : (o : Option Rule) → option_map_or (λ a. positional_fault s.rules s.args_override_self a h) o (stray_fault s) ≡ []
          → Filled (to_positional s.rules o word w h).held.rows
      go None e = f
      go (Some a) e = on_both (λ (k : Held). Filled k.rows) (is_pending a h.pending && takes_several a) h (settled s.rules h) _ _
          (λ pass. f) (λ pass. settled-filled s.rules each s.args_override_self h pass f) e

  module _ (names : Names) where
    word-filled : (is_trailing : Bool) (waiting : Waiting) (position : ℕ) (word : Text) (h : Held) → word_fault s names is_trailing waiting word h ≡ [] → Filled h.rows
        → Filled (word_met s.rules names is_trailing waiting position word h).0.rows
    word-filled true waiting position word h e f = f
    word-filled false waiting position word h e f = met-filled (subcommand_met names waiting word) waiting position word h e f

    walked-filled : (w : Walk) (word : Text) → turn_fault s names w word ≡ [] → Filled w.held.rows → Filled (walked s.rules names w word).held.rows
    unfolding walked
    walked-filled w word e f = go w.stopped e
      where
        met : Held × Step
        met = word_met s.rules names w.is_trailing w.waiting w.position word w.held

        go : (o : Option (Text × List Text))
            → cond (is_some o) [] (or_else (word_fault s names w.is_trailing w.waiting word w.held)
            (step_fault s w.position (word_met s.rules names w.is_trailing w.waiting w.position word w.held).0 (word_met s.rules names w.is_trailing w.waiting w.position word w.held).1)) ≡ []
            → Filled (walked_from s.rules names o w word).held.rows
        go (Some p) e = f
        go None e =
            let parts = both_pass (word_fault s names w.is_trailing w.waiting word w.held) _ e in
            step-filled w word _ _ parts.1 (word-filled w.is_trailing w.waiting w.position word w.held parts.0 f)

    walk-filled : (words : List Text) (w : Walk) → walk_fault s names w words ≡ [] → Filled w.held.rows → Filled (fold (walked s.rules names) w words).held.rows
    unfolding walk_fault
    walk-filled [] w e f = f
    walk-filled (word ∷ rest) w e f =
        let parts = both_pass (turn_fault s names w word) _ e in
        walk-filled rest (walked s.rules names w word) parts.1 (walked-filled w word parts.0 f)

-- ---- defaults

default-filled : (a : Rule) (rows : List Row) → Filled rows → Filled (with_default rows a)
default-filled a rows f = on_cond Filled (has_row a.id rows) rows _ f (go a.defaults)
  where
    go : (values : List Text) → Filled (default_rows a.id (reading_by a) values rows)
    go [] = f
    go (v ∷ vs) = with_values-filled a.id (reading_by a) DefaultValue v vs rows f

defaults-filled : (c : List Rule) (rows : List Row) → Filled rows → Filled (fold with_default rows c)
defaults-filled [] rows f = f
defaults-filled (a ∷ rest) rows f = defaults-filled rest (with_default rows a) (default-filled a rows f)

-- the rows of a level that passes
pub level-filled : (s : Shape) → EachKeeps s.rules → (names : Names) (words : List Text) (has_subcommand : Bool) (below : Kinds)
    → level_fault s names nothing_held words has_subcommand below ≡ [] → Filled (rows_after s.rules names words)
level-filled s each names words has_subcommand below e =
    let end = (walk s.rules names nothing_held words).held in
    let walks = both_pass (walk_fault s names (walk_from nothing_held) words) _ e in
    let inner = both_pass below _ walks.1 in
    let settles = both_pass (settle_fault s.rules s.args_override_self end) _ inner.1 in
    defaults-filled s.rules (settled s.rules end).rows
    (settled-filled s.rules each s.args_override_self end settles.0 (walk-filled s each names words (walk_from nothing_held) walks.0 tt))

pub level-below : (s : Shape) (names : Names) (words : List Text) (has_subcommand : Bool) (below : Kinds)
    → level_fault s names nothing_held words has_subcommand below ≡ [] → below ≡ []
level-below s names words has_subcommand below e =
    let walks = both_pass (walk_fault s names (walk_from nothing_held) words) _ e in
    (both_pass below _ walks.1).0

pub level-checks : (s : Shape) (names : Names) (words : List Text) (has_subcommand : Bool) (below : Kinds)
    → level_fault s names nothing_held words has_subcommand below ≡ [] → check_fault s (rows_after s.rules names words) has_subcommand ≡ []
level-checks s names words has_subcommand below e =
    let end = (walk s.rules names nothing_held words).held in
    let walks = both_pass (walk_fault s names (walk_from nothing_held) words) _ e in
    let inner = both_pass below _ walks.1 in
    let settles = both_pass (settle_fault s.rules s.args_override_self end) _ inner.1 in
    (both_pass (defaults_fault (settled s.rules end).rows s.rules) _ settles.1).1

-- ---- what was given can be read

first_there : (values : List Text) → 0 < length values → is_some (slice_get values 0) ≡ true
first_there [] lt = absurd (omega arith)
first_there (v ∷ vs) lt = refl

found-filled : (p : Row → Bool) (rows : List Row) → Filled rows → IfSome (find p rows) (λ r. 0 < length r.values)
found-filled p [] f = tt
found-filled p (r ∷ rs) f = on_cond (λ o. IfSome o (λ r. 0 < length r.values)) (p r) (Some r) (find p rs) f.0 (found-filled p rs f.1)

pub given_there : (id : Text) (rows : List Row) → Filled rows → is_given id rows ≡ true → is_some (first_of id rows) ≡ true
given_there id rows f given = go (find (λ r. bytes_eq r.id id) rows) (found-filled _ rows f) given
  where
    go : (o : Option Row) → IfSome o (λ r. 0 < length r.values) → option_map_or (λ r. explicit_source r.source) o false ≡ true
        → is_some (option_and_then (λ (r : Row). slice_get r.values 0) o) ≡ true
    go None lt e = absurd (true≢false (sym e))
    go (Some r) lt e = first_there r.values lt

-- ---- the rules of options with one value, and of help

pub set_keeps : (a : Rule)
    → Keeps (record a { action = Some Set; range = Some (record { start_inclusive = 1; end_inclusive = 1 }); missing = [] })
set_keeps a again [] rows e f = absurd (some_fault _ _ e)
set_keeps a again (v ∷ vs) rows e f =
    with_values-filled a.id (reading_by a) CommandLine v vs (without a.id rows) (without-filled a.id rows f)

pub help_keeps : (a : Rule) → Keeps (record a { action = Some Help })
help_keeps a again values rows e f = f
