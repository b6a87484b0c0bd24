use Rattle.std.proofs.Common.{◌≡◌, List, [], ◌++◌, map, ap, sym, ◌∙◌, subst, append-nil, OnOk, arith}
use Rattle.std.proofs.lemmas.List.{nil_from_length}
use Rattle.rr_words.specs.Line.{line_of}
use Rattle.rr_routes.specs.Sheets.Sheet.{text_of, train_text}
use Rattle.rr_routes.specs.declared.sheets.sheet.TrainWord.{TrainWord}
use Rattle.rr_routes.proofs.SheetsLemmas.JoinedLemmas.{first-and-rest}
use Rattle.rr_routes.proofs.sheets.sheet.Sheet.write.Goals as goal

pub returns-in-empty : goal.returns-in-empty
unfolding text_of
returns-in-empty c =
    let none : c.args.self.now ≡ [] = sym c.as_slice.ensures ∙ nil_from_length c.as_slice.result.now (omega arith) in
    sym (ap (λ sheet. c.args.out.now.items ++ text_of sheet) none ∙ append-nil c.args.out.now.items)

pub returns-in-len1-up : goal.returns-in-len1-up
unfolding text_of
returns-in-len1-up c =
    let whole = first-and-rest c.as_slice.result.now c.first-item.result (omega arith) c.first-item.is ∙ c.as_slice.ensures in
    subst (λ (sheet : List TrainWord). OnOk c.write_words.result (c.write_words.new.out.items ≡ c.args.out.now.items ++ line_of (map train_text sheet))) whole c.write_words.ensures
