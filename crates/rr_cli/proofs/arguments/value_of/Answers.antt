use Rattle.std.proofs.Common.{◌≡◌, ◌∙◌, sym, ap, rules, Option, Some, None, is_some, option_map, true, true≢false, Bor}
use Rattle.std.specs.Option.{IsSome}
use Rattle.std.proofs.lemmas.Result.{IfOk-weaker}
use Rattle.clap.specs.Words.{Text, first_of, found_of, rows_of}
use Rattle.clap.proofs.WalkLemmas.{first_value-rows}
use Rattle.rr_cli.proofs.arguments.value_of.Goals as goal

text_there : (found : Option (Bor Text)) (text : Option Text) → option_map (λ s. s.now) found ≡ text → is_some text ≡ true → IsSome found
text_there None text e given = absurd (true≢false (sym given ∙ ap is_some (sym e)))
text_there (Some s) text e given = search rules

pub unwrap-text-requires : goal.unwrap-text-requires
unwrap-text-requires c =
    text_there c.get_str.result _ (c.get_str.ensures ∙ first_value-rows (found_of c.args.matches.now) c.args.name.now) c.requires

pub returns : goal.returns
returns c =
    let read : option_map (λ s. s.now) c.get_str.result ≡ first_of c.args.name.now (rows_of (found_of c.args.matches.now)) =
    c.get_str.ensures ∙ first_value-rows (found_of c.args.matches.now) c.args.name.now in
    IfOk-weaker c.from_str.result _ _ (λ text same. sym read ∙ ap (option_map (λ s. s.now)) c.unwrap-text.ensures ∙ ap Some (sym same)) c.from_str.ensures.ok
