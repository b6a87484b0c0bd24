-- What a corporation pays for tiles and tokens, and what laying one or placing one adds.
use Rattle.std.specs.Prelude.{ℕ, ℤ, pos, int_lt, [], ◌∷◌, Option, None, Some, if◌then◌else◌}
use Rattle.rr_roster.specs.declared.company.Corp.{Corp}
use Rattle.rr_books.specs.declared.parties.Party.{Party}
use Rattle.rr_books.specs.declared.parties.Party.TheVariants as P
use Rattle.rr_books.specs.declared.acts.Act.{Act}
use Rattle.rr_books.specs.declared.entries.Entry.{Entry}
use Rattle.rr_books.specs.declared.entries.Entry.TheVariants as E
use Rattle.rr_books.specs.declared.entries.Marker.TheVariants as M
use Rattle.rr_desk.specs.Effects.{Effect, adds, in_turn}
use Rattle.rr_books.specs.declared.refusal.Refusal.{Refusal}
use Rattle.rr_books.specs.declared.refusal.Refusal.TheVariants as F

-- the corporation has the cost, where there is one
abbrev pub cost_verdict : (Party → ℤ) → Corp → Option ℕ → Option Refusal
cost_verdict cash corp None = None
cost_verdict cash corp (Some cost) = if int_lt (cash (P.Corp corp)) (pos cost) then Some F.TooLittleCash else None

-- the corporation pays the cost, where there is one, be it 0
abbrev pub pays_cost : Corp → Option ℕ → Effect
pays_cost corp None = in_turn []
pays_cost corp (Some cost) = adds (E.Pay (P.Corp corp) P.Bank (record { 0 = pos cost }))

-- what a command adds: its words, the payment where one is owed, and what is put on the board
unfoldable pub puts : Act → Corp → Option ℕ → Entry → Effect
puts act corp cost entry = in_turn (adds (E.Step (M.Act act)) ∷ pays_cost corp cost ∷ adds entry ∷ [])
