-- Which words take a table back, let it forget, or ask for the best run of a corporation.
use Rattle.std.proofs.Common.{◌≡◌, ◌≢◌, ◌⊎◌, ◌↔◌, ◌<◌, ◌^◌, ℕ, Bool, true, List, [], ◌∷◌, Option, Some, None, MatchOption, IfSome, codes, decimal, inl, inr, refl, sym, ap, lit≤, ◌∙◌}
use Rattle.std.specs.Option.{is_some}
use Rattle.rr_code.specs.Command.{SpellsCommand}
use Rattle.rr_code.specs.Request.{IsRequest, request_words}
use Rattle.rr_code.specs.declared.command.Command.{Command}
use Rattle.rr_code.proofs.UnspacedLemmas.{request-some, request-unspaced}
use Rattle.rr_roster.specs.declared.company.Corp.{Corp}
use Rattle.rr_roster.specs.Company.{corp_name}
use Rattle.rr_orders.specs.Scan.Company.{corp_of}
use Rattle.rr_orders.proofs.ScanLemmas.SpelledLemmas.{corp_of-name}
use Rattle.rr_orders.proofs.ScanLemmas.UnspacedLemmas.{corp-unspaced}
use Rattle.rr_orders.proofs.ScanLemmas.WordsLemmas.{line_of-words, words_of-line}
use Rattle.rr_turns.specs.declared.request.Request.{Request}
use Rattle.rr_turns.specs.declared.request.Request.TheVariants.{Play, Back, Forget}
use Rattle.rr_words.specs.Line.{words_of}
use Rattle.rr_words.specs.Numeral.{SpellsNumber}
use Rattle.rr_store.specs.Recovery.Told.{SpellsBest, SpellsRequest}

-- nothing is some, and what is there is
abbrev pub Decides : Bool → Type 0 → Type 0
Decides some P = (some ≡ true) ↔ P

-- what is asked up to a turn, behind one word
module _ (head : List ℕ) (ask : ℕ → Request Command) (form : (turn : ℕ) → turn < 10 ^ 10 → IsRequest (ask turn)) (short : (turn : ℕ) → IsRequest (ask turn) → turn < 10 ^ 10)
    (asks : (turn : ℕ) → request_words (ask turn) ≡ head ∷ decimal turn ∷ []) where
  words_asked : (bytes : List ℕ) (turn : ℕ) → SpellsRequest bytes (ask turn) → words_of bytes ≡ head ∷ decimal turn ∷ []
  words_asked bytes turn spells =
      ap words_of spells.spelled ∙ words_of-line (request_words (ask turn)) (request-some (ask turn)) (request-unspaced (ask turn) spells.request) ∙ asks turn

  pub turn_asked : (bytes word : List ℕ) (read : Option ℕ) (some : Bool) → words_of bytes ≡ head ∷ word ∷ []
      → MatchOption read ((n : ℕ) → ¬ SpellsNumber word n) (λ n. SpellsNumber word n) → some ≡ is_some read → Decides some ((turn : ℕ) × SpellsRequest bytes (ask turn))
  turn_asked bytes word (Some n) some words found same =
      let there : words_of bytes ≡ request_words (ask n) = words ∙ ap (λ (w : List ℕ). head ∷ w ∷ []) found.digits ∙ sym (asks n) in (
        λ h. (n, record { request = form n found.ten_digits; spelled = line_of-words bytes (request_words (ask n)) there }),
        λ spelled. same,
      )
  turn_asked bytes word None some words none same = (
    λ h. absurd (cc (sym same ∙ h)),
    λ spelled.
        let there = words_asked bytes spelled.0 spelled.1 in
        let digits : word ≡ decimal spelled.0 = cc in
        absurd (none spelled.0 (record { digits = digits; ten_digits = short spelled.0 spelled.1.request })),
  )

  pub none_asked : (bytes : List ℕ) → ((word : List ℕ) → words_of bytes ≢ head ∷ word ∷ []) → ((turn : ℕ) × SpellsRequest bytes (ask turn)) → ⊥
  none_asked bytes none spelled = none (decimal spelled.0) (words_asked bytes spelled.0 spelled.1)

-- the best run of a corporation

words_best : (bytes : List ℕ) (corp : Corp) → SpellsBest bytes corp → words_of bytes ≡ codes "best" ∷ corp_name corp ∷ []
words_best bytes corp spells =
    ap words_of spells ∙ words_of-line (codes "best" ∷ corp_name corp ∷ []) (lit≤ tt) (rw (corp-unspaced corp) refl)

pub best_asked : (bytes word : List ℕ) (read : Option Corp) (some : Bool) → words_of bytes ≡ codes "best" ∷ word ∷ [] → read ≡ corp_of word
    → IfSome read (λ corp. word ≡ corp_name corp) → some ≡ is_some read → Decides some ((corp : Corp) × SpellsBest bytes corp)
best_asked bytes word (Some corp) some words exact found same = (
  λ h. (corp, line_of-words bytes (codes "best" ∷ corp_name corp ∷ []) (words ∙ ap (λ (w : List ℕ). codes "best" ∷ w ∷ []) found)),
  λ spelled. same,
)
best_asked bytes word None some words exact found same = (
  λ h. absurd (cc (sym same ∙ h)),
  λ spelled.
      let there = words_best bytes spelled.0 spelled.1 in
      let named : word ≡ corp_name spelled.0 = cc in
      absurd (cc (exact ∙ ap corp_of named ∙ corp_of-name spelled.0)),
)

pub none_best : (bytes : List ℕ) → ((word : List ℕ) → words_of bytes ≢ codes "best" ∷ word ∷ []) → ((corp : Corp) × SpellsBest bytes corp) → ⊥
none_best bytes none spelled = none (corp_name spelled.0) (words_best bytes spelled.0 spelled.1)

-- a request is a command, or takes the table back, or lets it forget

abbrev pub TakesBack : List ℕ → Type 0
TakesBack words = ((turn : ℕ) × SpellsRequest words (Back turn)) ⊎ ((turn : ℕ) × SpellsRequest words (Forget turn))

pub command_asked : (words : List ℕ) → ((command : Command) × SpellsCommand words command) → (asked : Request Command) × SpellsRequest words asked
command_asked words spelled = (Play spelled.0, record { request = spelled.1.command; spelled = spelled.1.spelled })

pub back_asked : (words : List ℕ) → TakesBack words → (asked : Request Command) × SpellsRequest words asked
back_asked words (inl back) = (Back back.0, back.1)
back_asked words (inr forget) = (Forget forget.0, forget.1)

pub no_command_asked : (words : List ℕ) → (((command : Command) × SpellsCommand words command) → ⊥) → (asked : Request Command) → SpellsRequest words asked → TakesBack words
no_command_asked words none (Play command) spelled = absurd (none (command, record { command = spelled.request; spelled = spelled.spelled }))
no_command_asked words none (Back turn) spelled = inl (turn, spelled)
no_command_asked words none (Forget turn) spelled = inr (turn, spelled)
