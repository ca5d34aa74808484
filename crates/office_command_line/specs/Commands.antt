-- The commands of the program, in the words of `clap`.
use Rattle.std.specs.Prelude.{true, Some, codes}
use Rattle.clap.specs.{Words.{App, Rule, Text, new_app, new_rule, with_rule, with_subcommand}, Simple.on_top}
use Rattle.clap.specs.declared.builder.ArgAction.TheVariants.{Set, SetTrue}

-- a word that has to be there
abbrev pub word : Text → Rule
word id = record (new_rule id) { action = Some Set; required = true }

-- a word that may be left out
abbrev pub word_if_any : Text → Rule
word_if_any id = record (new_rule id) { action = Some Set }

-- an option without a value, as --log: `clap` gives it the value "true" if it is there, else "false"
abbrev pub flag : Text → Rule
flag name = record (new_rule name) { long = Some name; action = Some SetTrue }

-- an option with a value, as --ahead N, which may be left out
abbrev pub valued_option : Text → Rule
valued_option name = record (new_rule name) { long = Some name; action = Some Set; value_names = 1 }

-- init DB PARTNERS BLOCKS
unfoldable pub init_app : App
init_app = with_rule (with_rule (with_rule (new_app (codes "init")) (word (codes "DB"))) (word (codes "PARTNERS")))
    (word (codes "BLOCKS"))

-- deliver DB FILE
unfoldable pub deliver_app : App
deliver_app = with_rule (with_rule (new_app (codes "deliver")) (word (codes "DB"))) (word (codes "FILE"))

-- serve DB PORT COUNT [--log] [--ahead N] [--host NAME]
unfoldable pub serve_app : App
serve_app =
    with_rule (with_rule (with_rule (with_rule (with_rule (with_rule (new_app (codes "serve")) (word (codes "DB")))
    (word (codes "PORT"))) (word (codes "COUNT"))) (flag (codes "log"))) (valued_option (codes "ahead")))
    (valued_option (codes "host"))

-- report DB KIND [KEY] [--json] [--csv]
unfoldable pub report_app : App
report_app =
    with_rule (with_rule (with_rule (with_rule (with_rule (new_app (codes "report")) (word (codes "DB")))
    (word (codes "KIND"))) (word_if_any (codes "KEY"))) (flag (codes "json"))) (flag (codes "csv"))

-- texts DB [FROM]
unfoldable pub texts_app : App
texts_app = with_rule (with_rule (new_app (codes "texts")) (word (codes "DB"))) (word_if_any (codes "FROM"))

-- account DB CODE KIND
unfoldable pub account_app : App
account_app = with_rule (with_rule (with_rule (new_app (codes "account")) (word (codes "DB"))) (word (codes "CODE")))
    (word (codes "KIND"))

-- migrate OLD NEW
unfoldable pub migrate_app : App
migrate_app = with_rule (with_rule (new_app (codes "migrate")) (word (codes "OLD"))) (word (codes "NEW"))

-- close DB [ARCHIVE]
unfoldable pub close_app : App
close_app = with_rule (with_rule (new_app (codes "close")) (word (codes "DB"))) (word_if_any (codes "ARCHIVE"))

-- explain FILE [--partners PARTNERS]
unfoldable pub explain_app : App
explain_app = with_rule (with_rule (new_app (codes "explain")) (word (codes "FILE"))) (valued_option (codes "partners"))

-- demo
unfoldable pub demo_app : App
demo_app = new_app (codes "demo")

-- a command with a version, that has to be followed by one of its subcommands
abbrev pub needs_subcommand : App → App
needs_subcommand a = on_top (λ s. record s { has_version = true; subcommand_required = true }) a

-- with the commands of daily work
abbrev pub with_daily_work : App → App
with_daily_work a =
    with_subcommand
    (with_subcommand
    (with_subcommand (with_subcommand (with_subcommand a init_app.top) deliver_app.top) serve_app.top) report_app.top)
    texts_app.top

-- with the commands that keep a store up, and those that need none
abbrev pub with_upkeep : App → App
with_upkeep a =
    with_subcommand
    (with_subcommand
    (with_subcommand (with_subcommand (with_subcommand a account_app.top) migrate_app.top) close_app.top) explain_app.top)
    demo_app.top

unfoldable pub office_app : App
office_app = with_upkeep (with_daily_work (needs_subcommand (new_app (codes "office"))))
