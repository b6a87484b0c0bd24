-- The command line of `moderate`, in the words of `clap`.
use Rattle.std.specs.Prelude.{codes, true, Some}
use Rattle.clap.specs.Simple.{on_top}
use Rattle.clap.specs.Words.{App, Rule, Text, new_app, new_rule, with_rule, with_subcommand}

-- the required positional argument FILE
abbrev pub file_argument : Rule
file_argument = record (new_rule (codes "file")) { required = true; value_names = 1 }

-- the required option `--name FILE`
abbrev pub file_option : Text → Rule
file_option name =
    record (new_rule name) { long = Some name; required = true; value_names = 1 }

-- `format FILE --chart FILE --roster FILE --tiles FILE --board FILE`
abbrev pub format_command : App
format_command = with_rule (with_rule (with_rule (with_rule
    (with_rule (new_app (codes "format")) file_argument)
    (file_option (codes "chart")))
    (file_option (codes "roster")))
    (file_option (codes "tiles")))
    (file_option (codes "board"))

-- `serve FILE`
abbrev pub serve_command : App
serve_command = with_rule (new_app (codes "serve")) file_argument

-- `check FILE`
abbrev pub check_command : App
check_command = with_rule (new_app (codes "check")) file_argument

-- the program wants a subcommand, and has none called `help`; the words begin behind its name
abbrev pub moderate_alone : App
moderate_alone = on_top (λ shape. record shape {
  no_binary_name = true;
  disable_help_subcommand = true;
  subcommand_required = true;
}) (new_app (codes "moderate"))

-- `moderate format ..`, `moderate serve ..` and `moderate check ..`
abbrev pub moderate : App
moderate =
    with_subcommand (with_subcommand (with_subcommand moderate_alone format_command.top) serve_command.top) check_command.top
