-- What the words of a command line ask for.
use Rattle.std.specs.{Prelude.{◌≡◌, ℕ, Bool, true, false, ◌&&◌, nat_le, List, [], Option, None, Some, codes, if◌then◌else◌}, Str.bytes_eq}
use Rattle.std.specs.Option.{option_map, option_map_or, option_and_then}
use Rattle.clap.specs.{Words.{Row, Text, first_of, subcommand_of, kind_of, fault_of, IsAmong}, declared.error.Error.Error, declared.error.kind.ErrorKind.ErrorKind}
use Rattle.clap.specs.declared.error.kind.ErrorKind.TheVariants.{DisplayHelp, DisplayVersion, OutOfMemory}
use Rattle.edi_syntax.specs.Numbers.{number_of}
use Rattle.office_command_line.specs.{Commands.office_app, declared.command_reading.CommandFault.CommandFault, declared.command_reading.Request.Request}
use Rattle.office_command_line.specs.declared.command_reading.CommandFault.TheVariants.{Words, Values, Memory}
use Rattle.office_reports.specs.{Keys.passed_of, declared.query.ReportKind.ReportKind, declared.query.View.View}
use Rattle.office_reports.specs.declared.query.ReportKind.TheVariants.{Yard, Visits, List as VesselList, Ticket, Reply, Container, Work, Partners, Partner, Blocks, Calls, Contrl, Picture, Health, Metrics, Block, Start}
use Rattle.office_reports.specs.declared.query.View.TheVariants.{Text as TextView, Json, Csv, Page as PageView}
use Rattle.office_command_line.specs.declared.command_reading.Request.TheVariants as request

-- a request, whatever memory holds its texts
pub data RequestContent : Type 0 where
  init : Text → Text → Text → RequestContent
  deliver : Text → Text → RequestContent
  serve : Text → ℕ → ℕ → Bool → (ahead : Option ℕ) → (host : Option Text) → RequestContent
  report : Text → ReportKind → View → Option Text → RequestContent
  archives : Text → RequestContent
  texts : Text → (from : ℕ) → RequestContent
  account : Text → Text → Text → RequestContent
  migrate : Text → Text → RequestContent
  close : Text → (archive : Option Text) → RequestContent
  explain : Text → (partners : Option Text) → RequestContent
  demo : RequestContent

abbrev pub request_content : Request → RequestContent
request_content (request.Init store partners blocks) = init store.now partners.now blocks.now
request_content (request.Deliver store file) = deliver store.now file.now
request_content (request.Serve store port count log ahead host) =
    serve store.now port count log ahead (option_map (λ text. text.now) host)
request_content (request.Report store kind view key) = report store.now kind view (option_map (λ text. text.now) key)
request_content (request.Archives store) = archives store.now
request_content (request.Texts store from) = texts store.now from
request_content (request.Account store code kind) = account store.now code.now kind.now
request_content (request.Migrate old new) = migrate old.now new.now
request_content (request.Close store archive) = close store.now (option_map (λ text. text.now) archive)
request_content (request.Explain file partners) = explain file.now (option_map (λ text. text.now) partners)
request_content request.Demo = demo

-- ---- numbers

-- the number that 1 to 9 digits write, if it is from 1 to the greatest
abbrev pub number_upto : ℕ → List ℕ → Option ℕ
number_upto greatest text =
    option_and_then (λ (n : ℕ). if nat_le 1 n && nat_le n greatest then Some n else None) (number_of 9 text)

-- the number of an option that may be left out, if it is given: from 1 to the greatest
abbrev pub number_if_any : ℕ → Option Text → Option (Option ℕ)
number_if_any greatest None = Some None
number_if_any greatest (Some text) = option_map (λ (n : ℕ). Some n) (number_upto greatest text)

-- ---- reports

abbrev pub kind_said : Text → Option ReportKind
kind_said word =
    if bytes_eq word (codes "yard") then Some Yard
    else if bytes_eq word (codes "visits") then Some Visits
    else if bytes_eq word (codes "list") then Some VesselList
    else if bytes_eq word (codes "ticket") then Some Ticket
    else if bytes_eq word (codes "reply") then Some Reply
    else if bytes_eq word (codes "container") then Some Container
    else if bytes_eq word (codes "work") then Some Work
    else if bytes_eq word (codes "partners") then Some Partners
    else if bytes_eq word (codes "blocks") then Some Blocks
    else if bytes_eq word (codes "calls") then Some Calls
    else if bytes_eq word (codes "contrl") then Some Contrl
    else if bytes_eq word (codes "picture") then Some Picture
    else if bytes_eq word (codes "partner") then Some Partner
    else if bytes_eq word (codes "health") then Some Health
    else if bytes_eq word (codes "metrics") then Some Metrics
    else None

-- a report on the whole yard, on all partners or on the office has no key; each other one has the container, list,
-- interchange or partner that it is about
abbrev pub wants_key : ReportKind → Bool
wants_key Yard = false
wants_key Visits = true
wants_key VesselList = true
wants_key Ticket = true
wants_key Container = true
wants_key Work = true
wants_key Partners = false
wants_key Blocks = false
wants_key Calls = false
wants_key Contrl = true
wants_key Picture = false
wants_key Reply = true
wants_key Partner = true
wants_key Health = false
wants_key Metrics = false
wants_key Start = false
wants_key Block = true

-- ---- what the words of a subcommand ask for

abbrev pub init_request : List Row → Option RequestContent
init_request rows =
    option_and_then (λ (store : Text).
    option_and_then (λ (partners : Text).
    option_map (λ (blocks : Text). init store partners blocks) (first_of (codes "BLOCKS") rows))
    (first_of (codes "PARTNERS") rows))
    (first_of (codes "DB") rows)

abbrev pub deliver_request : List Row → Option RequestContent
deliver_request rows = option_and_then
    (λ (store : Text). option_map (λ (file : Text). deliver store file) (first_of (codes "FILE") rows))
    (first_of (codes "DB") rows)

-- an option without a value is there
abbrev pub is_set : Text → List Row → Bool
is_set name rows = option_map_or (λ (text : Text). bytes_eq text (codes "true")) (first_of name rows) false

-- a port from 1 to 65535, from 1 to 1,000,000 connections, whether a log is wanted, how far above its next number a partner's
-- may be, and the name of the host, as it stands
abbrev pub serve_request : List Row → Option RequestContent
serve_request rows =
    option_and_then (λ (store : Text).
    option_and_then (λ (port : ℕ).
    option_and_then (λ (count : ℕ).
    option_map (λ (ahead : Option ℕ). serve store port count (is_set (codes "log") rows) ahead (first_of (codes "host") rows))
    (number_if_any 999999999 (first_of (codes "ahead") rows)))
    (option_and_then (number_upto 1000000) (first_of (codes "COUNT") rows)))
    (option_and_then (number_upto 65535) (first_of (codes "PORT") rows)))
    (first_of (codes "DB") rows)

-- the key is there if it is wanted, and nowhere else
abbrev pub report_with : Text → ReportKind → View → Option Text → Option RequestContent
report_with store kind view None = if wants_key kind then None else Some (report store kind view None)
report_with store kind view (Some key) = if wants_key kind then Some (report store kind view (Some key)) else None

-- the report on the store's archives is text, and has no key

abbrev pub archives_alone : Text → Option Text → Option RequestContent
archives_alone store None = Some (archives store)
archives_alone store (Some key) = None

abbrev pub archives_with : Text → View → Option Text → Option RequestContent
archives_with store TextView key = archives_alone store key
archives_with store Json key = None
archives_with store Csv key = None
archives_with store PageView key = None

-- the report on the yard as CSV, by a word of its own
abbrev pub table_with : Text → View → Option Text → Option RequestContent
table_with store TextView key = report_with store Yard Csv key
table_with store Csv key = report_with store Yard Csv key
table_with store Json key = None
table_with store PageView key = None

-- a report of the kind that a word says
abbrev pub report_said : Text → Text → View → Option Text → Option RequestContent
report_said store word view key =
    if bytes_eq word (codes "archives") then archives_with store view key
    else if bytes_eq word (codes "yardcsv") then table_with store view key
    else option_and_then (λ (kind : ReportKind). report_with store kind view key) (kind_said word)

-- as what it is printed: by whether JSON is asked for, and whether CSV is; not both
abbrev pub view_said : (json csv : Bool) → Option View
view_said false false = Some TextView
view_said true false = Some Json
view_said false true = Some Csv
view_said true true = None

abbrev pub report_request : List Row → Option RequestContent
report_request rows =
    option_and_then (λ (store : Text).
    option_and_then (λ (word : Text).
    option_and_then (λ (view : View). report_said store word view (first_of (codes "KEY") rows))
    (view_said (is_set (codes "json") rows) (is_set (codes "csv") rows)))
    (first_of (codes "KIND") rows))
    (first_of (codes "DB") rows)

-- how many texts to pass over; 0 if nothing is said
abbrev pub from_said : Option Text → Option ℕ
from_said None = Some 0
from_said (Some text) = passed_of text

abbrev pub texts_asked : List Row → Option RequestContent
texts_asked rows = option_and_then
    (λ (store : Text). option_map (λ (from : ℕ). texts store from) (from_said (first_of (codes "FROM") rows)))
    (first_of (codes "DB") rows)

-- the code and the kind as they stand: whether they are any is not asked here
abbrev pub account_request : List Row → Option RequestContent
account_request rows =
    option_and_then (λ (store : Text).
    option_and_then (λ (code : Text).
    option_map (λ (kind : Text). account store code kind) (first_of (codes "KIND") rows))
    (first_of (codes "CODE") rows))
    (first_of (codes "DB") rows)

abbrev pub migrate_request : List Row → Option RequestContent
migrate_request rows = option_and_then
    (λ (old : Text). option_map (λ (new : Text). migrate old new) (first_of (codes "NEW") rows))
    (first_of (codes "OLD") rows)

-- the archive may be left out
abbrev pub close_request : List Row → Option RequestContent
close_request rows =
    option_map (λ (store : Text). close store (first_of (codes "ARCHIVE") rows)) (first_of (codes "DB") rows)

-- the partners' file may be left out
abbrev pub explain_asked : List Row → Option RequestContent
explain_asked rows =
    option_map (λ (file : Text). explain file (first_of (codes "partners") rows)) (first_of (codes "FILE") rows)

-- what a subcommand and its words ask for
abbrev pub request_by : Text → List Row → Option RequestContent
request_by name rows =
    if bytes_eq name (codes "init") then init_request rows
    else if bytes_eq name (codes "deliver") then deliver_request rows
    else if bytes_eq name (codes "serve") then serve_request rows
    else if bytes_eq name (codes "report") then report_request rows
    else if bytes_eq name (codes "texts") then texts_asked rows
    else if bytes_eq name (codes "account") then account_request rows
    else if bytes_eq name (codes "migrate") then migrate_request rows
    else if bytes_eq name (codes "close") then close_request rows
    else if bytes_eq name (codes "explain") then explain_asked rows
    else if bytes_eq name (codes "demo") then Some demo
    else None

-- what the subcommand that was met asks for
abbrev pub request_met : Option (Text × List Row) → Option RequestContent
request_met met = option_and_then (λ (m : Text × List Row). request_by m.0 m.1) met

-- how a subcommand is called
abbrev pub usage_line : Text → Text
usage_line name =
    if bytes_eq name (codes "serve") then codes "usage: office serve DB PORT COUNT\n"
    else if bytes_eq name (codes "report") then codes "usage: office report DB KIND [KEY]\n"
    else if bytes_eq name (codes "texts") then codes "usage: office texts DB [FROM]\n"
    else codes "usage: office COMMAND\n"

-- how the subcommand is called that was met
abbrev pub usage_of : Option (Text × List Row) → Text
usage_of None = usage_line []
usage_of (Some met) = usage_line met.0

-- the subcommand that was met asks for nothing, and its usage is reported
abbrev pub RefusesMet : Option (Text × List Row) → CommandFault → Type 0
RefusesMet met (Words error) = ⊥
RefusesMet met (Values line) = (request_met met ≡ None) × (line.now ≡ usage_of met)
RefusesMet met Memory = ⊥

-- what `clap` states for the words
abbrev pub request_of_words : List Text → Option RequestContent
request_of_words words = request_met (subcommand_of office_app words)

-- `clap` takes the words, and they ask for that
abbrev pub WordsAsk : List Text → RequestContent → Type 0
WordsAsk words what = (fault_of office_app words ≡ []) × (request_of_words words ≡ Some what)

abbrev pub is_of_memory : ErrorKind → Bool
is_of_memory OutOfMemory = true
is_of_memory _ = false

-- what is told of a fault that `clap` finds
abbrev pub fault_told : Error → CommandFault
fault_told error = if is_of_memory (kind_of error) then Memory else Words error

-- why words ask for nothing: a fault that `clap` finds in them, a call for help or for the version being one; or it
-- takes them, and they are no request; or memory was refused
abbrev pub RefusesWords : List Text → CommandFault → Type 0
RefusesWords words (Words error) = IsAmong (kind_of error) (fault_of office_app words)
RefusesWords words (Values line) =
    (fault_of office_app words ≡ []) × (request_of_words words ≡ None) × (line.now ≡ usage_of (subcommand_of office_app words))
RefusesWords words Memory = Unit {0}

-- help and the version are results
abbrev pub is_result : ErrorKind → Bool
is_result DisplayHelp = true
is_result DisplayVersion = true
is_result _ = false

-- its text was asked for
abbrev pub is_asked : CommandFault → Bool
is_asked (Words error) = is_result (kind_of error)
is_asked (Values line) = false
is_asked Memory = false

-- what is reported of it: the usage line, or that memory was refused; of words in which `clap` finds a fault, what `clap` says
abbrev pub fault_text : CommandFault → Option (List ℕ)
fault_text (Words error) = None
fault_text (Values line) = Some line.now
fault_text Memory = Some (codes "store: Memory\n")
