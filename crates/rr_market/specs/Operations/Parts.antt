-- The plain values of operating rounds, and which values they may have.
use Rattle.std.specs.Prelude.{ℕ, ℤ, Bool, List}
use Rattle.std.proofs.Common.{refl}
use Rattle.rr_words.specs.Spelling.Form.{Form, bool_form, byte_form, form_by, number_form, pair_form, row_form, signed_form}
use Rattle.rr_rounds.specs.declared.parts.RoundsParts.{RoundsParts}
use Rattle.rr_rounds.specs.Parts.{AreRounds, rounds_form, rounds_of}
use Rattle.rr_rounds.specs.Parts.{parts_of as rounds_parts}
use Rattle.rr_market.specs.declared.parts.MarketParts.{MarketParts}
use Rattle.rr_market.specs.declared.operations.parts.OperationsParts.{OperationsParts}
use Rattle.rr_market.specs.declared.operations.turn.Stage.{Stage}
use Rattle.rr_market.specs.declared.operations.turn.TurnStep.{TurnStep}
use Rattle.rr_market.specs.Parts.{AreMarket, market_form, market_of}
use Rattle.rr_market.specs.Parts.{parts_of as market_parts}
use Rattle.rr_market.specs.Operations.Bytes.{stage_form, step_form}
use Rattle.rr_market.specs.Operations.Due.{OnRounds}

abbrev pub parts_of : OnRounds → OperationsParts
parts_of o = record {
  stage = o.progress.stage;
  sets = o.progress.sets;
  round = o.progress.round;
  set_length = o.progress.set_length;
  turns = o.progress.turns;
  step = o.progress.step;
  has_run = o.progress.has_run;
  lowest = o.progress.lowest;
  bankrupt = o.progress.bankrupt;
  market = market_parts o.market;
  stock = rounds_parts o.stock;
}

abbrev pub operations_of : OperationsParts → OnRounds
operations_of p = record {
  progress = record {
    stage = p.stage;
    sets = p.sets;
    round = p.round;
    set_length = p.set_length;
    turns = p.turns;
    step = p.step;
    has_run = p.has_run;
    lowest = p.lowest;
    bankrupt = p.bankrupt;
  };
  market = market_of p.market;
  stock = rounds_of p.stock;
}

-- the same values, one behind the other
abbrev pub Row : Type 0
Row = Stage × (ℕ × (ℕ × (ℕ × (List Bool × (TurnStep × (Bool × (ℤ × (Bool × (MarketParts × RoundsParts)))))))))

abbrev pub row_of : OperationsParts → Row
row_of p = (p.stage, (p.sets, (p.round, (p.set_length, (p.turns, (p.step, (p.has_run, (p.lowest, (p.bankrupt, (p.market, p.stock))))))))))

abbrev pub parts_in : Row → OperationsParts
parts_in r = record {
  stage = r.0;
  sets = r.1.0;
  round = r.1.1.0;
  set_length = r.1.1.1.0;
  turns = r.1.1.1.1.0;
  step = r.1.1.1.1.1.0;
  has_run = r.1.1.1.1.1.1.0;
  lowest = r.1.1.1.1.1.1.1.0;
  bankrupt = r.1.1.1.1.1.1.1.1.0;
  market = r.1.1.1.1.1.1.1.1.1.0;
  stock = r.1.1.1.1.1.1.1.1.1.1;
}

-- their bytes
abbrev pub operations_form : Form OperationsParts
operations_form = form_by (pair_form stage_form (pair_form (number_form 8) (pair_form (number_form 8) (pair_form byte_form (pair_form (row_form 8 bool_form) (pair_form step_form (pair_form bool_form (pair_form signed_form (pair_form bool_form (pair_form market_form rounds_form)))))))))) row_of parts_in (λ p. refl)

-- operating rounds may have these values
abbrev pub AreOperations : OperationsParts → Type 0
AreOperations p = AreMarket p.market × AreRounds p.stock
