use Rattle.std.proofs.Common.{rules, tests, is_some}
use Rattle.std.proofs.lemmas.Iterator.Search.{all_from_yields_List}
use Rattle.std.proofs.lemmas.Iterator.Splits.{YieldsList-from_slice_split}
use Rattle.rr_words.specs.Line.{is_space}
use Rattle.rr_routes.specs.Sheets.Reading.{train_of}
use Rattle.rr_routes.proofs.sheets.form.are_train_words.Goals as goal

pub returns : goal.returns
returns c =
    all_from_yields_List (λ word. is_some (train_of word)) _ _ c.all.result c.all.ensures.ran
    (YieldsList-from_slice_split _ is_space c.args.text.now c.split.ensures.rest c.split.ensures.done c.split.ensures.closure (λ x b q k. search (rules, tests)))
    (λ x b q k. search (rules, tests))
