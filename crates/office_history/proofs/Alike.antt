-- Set-ups that say the same take interchanges alike, whatever memory holds their codes.
use Rattle.std.specs.{Prelude.{◌&&◌, ◌||◌, not, nat_le, if◌then◌else◌, codes, decimal}, Option.{option_map, option_and_then, option_map_or}, List.find}
use Rattle.std.specs.Str.{bytes_eq}
use Rattle.std.proofs.Common.{◌≡◌, ℕ, List, [], ◌∷◌, map, Bool, true, false, cond, Option, None, Some, is_none, Ok, Err, refl, sym, ap, subst, ◌∙◌}
use Rattle.sqlite.specs.Effect.{Database}
use Rattle.edi_syntax.specs.{Moments.CivilMoment, Text.Content, Interchange.{interchange_of, segments_in}, Envelope.{header_of, messages_of}, Messages.Message}
use Rattle.edi_syntax.specs.Header.{preparation}
use Rattle.edi_messages.specs.{CodeText.table_fault, Codes.{code_text, table_texts, meanings, order_meant}, Types.message_type_of, Purposes.purpose_with}
use Rattle.edi_messages.specs.Faults.{beginning, is_original, is_replacement, is_list, replaces_list, document_name, order_kind_of, call_in, applies, message_faults}
use Rattle.edi_messages.specs.{Message.{message_of, judged_message, reading}, declared.code.CodeTable.CodeTable, declared.codes.Codes.Codes}
use Rattle.edi_messages.specs.{declared.message.MessageFault.MessageFault, declared.message.MessageType.MessageType, declared.order.OrderKind.OrderKind}
use Rattle.edi_messages.specs.{declared.message.MessageType.TheVariants.{Codeco, Coprar, Coarri}, declared.codes.PartnerKind.PartnerKind}
use Rattle.edi_messages.specs.declared.codes.PartnerKind.TheVariants.{Gate, Line, Quay, Yard}
use Rattle.partner_core.specs.{ByPlace.taken_by_place, Deliveries.{Delivery, run}, Machine.Taking, Numbered.with_number, Order.{state, reply_of}}
use Rattle.terminal_core.specs.{declared.change.Source.Source, State.TerminalState, Changes.rows_of, Versions.newest, declared.change.Version.Version}
use Rattle.terminal_core.specs.declared.change.Version.TheVariants.{First, Second, Third}
use Rattle.office_admission.specs.{Accounts.{content_with, content_after}, Deliveries.{with_delivery, deliveries_of}, Given.IsGiven}
use Rattle.office_admission.specs.{Admission.{admission, is_for, number_said}, Setups.{SetupContent, parties_in}, TakingLaws.ChangesTerminalAlone}
use Rattle.office_admission.specs.Taking.{MachineState, verdict_on_by, report_on, before_message, messages_taken_by, codes_for, source_in, nothing_taken, reply_to, taken_at_by, taken_of_by, interchange_taken_by}
use Rattle.office_admission.specs.Readings.{unweighed_reading, reading_by}
use Rattle.office_replies.specs.{Events.{Event, delivered, migrated, added}, Messages.ReportContent}
use Rattle.office_rows.specs.{Rows.Rows, Opened.{OpenedRows, Shows}, Stored.HasRows}
use Rattle.office_rows.specs.Opening.{setting_row, settings_in, version_text, code_names, settings_named}
use Rattle.office_history.specs.{After.{SaysSame, migration_in, taking_by, taking_in, opening_of, AreRowsOf, AreAfterBy, AreAfter}, Laws.Reopens}
use Rattle.office_history.proofs.{Loads.ShowsSetupAndTerminal, Offices.says_same}
use Rattle.office_history.proofs.Places.{TakesAlike as RunsAlike, reply_alike, state_alike, alone_in, in_force, moved}
use Rattle.edi_messages.specs.declared.message.MessageFault.TheVariants as fault
use Rattle.edi_messages.specs.declared.order.OrderKind.TheVariants as order
use Rattle.std.specs.FinMap as finite_map

-- ---- codes

abbrev SameTexts : CodeTable → CodeTable → Type 0
SameTexts t u = table_texts t ≡ table_texts u

meant_by : (t u : CodeTable) → SameTexts t u → (kind : PartnerKind) (type : MessageType) → meanings t kind type ≡ meanings u kind type
meant_by t u e Gate Codeco =
    let one : code_text t.gate_in ≡ code_text u.gate_in = cc in
    let two : code_text t.gate_out ≡ code_text u.gate_out = cc in
    λ i. (one i, order.GateIn) ∷ (two i, order.GateOut) ∷ []
meant_by t u e Yard Codeco = let one : code_text t.yard_move ≡ code_text u.yard_move = cc in λ i. (one i, order.Move) ∷ []
meant_by t u e Line Coprar =
    let one : code_text t.discharge_list ≡ code_text u.discharge_list = cc in
    let two : code_text t.load_list ≡ code_text u.load_list = cc in
    λ i. (one i, order.ListDischarge) ∷ (two i, order.ListLoad) ∷ []
meant_by t u e Quay Coarri =
    let one : code_text t.discharge_report ≡ code_text u.discharge_report = cc in
    let two : code_text t.load_report ≡ code_text u.load_report = cc in
    λ i. (one i, order.Discharge) ∷ (two i, order.Load) ∷ []
meant_by t u e kind type = refl

module _ (t u : CodeTable) (same : SameTexts t u) (kind : PartnerKind) where
  abbrev one : Codes
  one = record { kind = kind; table = t }

  abbrev two : Codes
  two = record { kind = kind; table = u }

  order_same : (type : MessageType) (name : List ℕ) → order_meant one type name ≡ order_meant two type name
  order_same type name =
      ap (λ l. option_map (λ (meaning : List ℕ × OrderKind). meaning.1) (find (λ (meaning : List ℕ × OrderKind). bytes_eq name meaning.0) l)) (meant_by t u same kind type)

  kind_same : (message : Message) → order_kind_of one message ≡ order_kind_of two message
  kind_same message i = option_and_then (λ type. option_and_then (λ segment. order_same type (document_name segment) i) (beginning message)) (message_type_of message.header)

  applies_same : (message : Message) (f : MessageFault) → applies one message f ≡ applies two message f
  applies_same message fault.Code = ap is_none (kind_same message)
  applies_same message fault.Function = λ i.
      not (option_map_or (λ segment. is_original segment || (is_replacement segment && option_map_or is_list (kind_same message i) false)) (beginning message) true)
  applies_same message f = refl

  reading_same : (opened : CivilMoment) (message : Message) → reading one opened message ≡ reading two opened message
  reading_same opened message i =
      judged_message (find (λ f. applies_same message f i) message_faults)
      (option_map_or (λ purpose. Ok (message_of purpose opened message)) (option_and_then (λ kind. purpose_with kind (call_in message)) (kind_same message i)) (Err fault.Code))

  reading_by_same : (version : Version) (opened : CivilMoment) (message : Message) → reading_by version one opened message ≡ reading_by version two opened message
  reading_by_same First opened message = λ i.
      if replaces_list message && option_map_or is_list (kind_same message i) false then Err fault.Function else unweighed_reading (reading_same opened message i)
  reading_by_same Second opened message = ap unweighed_reading (reading_same opened message)
  reading_by_same Third opened message = reading_same opened message

  -- ---- an interchange

  messages_same : (version : Version) (terminal : TerminalState) (source : Source) (opened : CivilMoment) (messages : List Message) → messages_taken_by version terminal one source opened messages ≡ messages_taken_by version terminal two source opened messages
  messages_same version terminal source opened [] = refl
  messages_same version terminal source opened (message ∷ messages) =
      ap (λ read. before_message (messages_taken_by version (verdict_on_by version terminal source read).0 one source opened messages) (report_on message (verdict_on_by version terminal source read).1)) (reading_by_same version opened message)
      ∙ ap (λ rest. before_message rest (report_on message (verdict_on_by version terminal source (reading_by version two opened message)).1)) (messages_same version (verdict_on_by version terminal source (reading_by version two opened message)).0 source opened messages)

-- machines that are one but for the memory of their codes
pub record IsLike (a b : MachineState) : Type 0 where
  pub parties : a.parties ≡ b.parties
  pub codes : table_texts a.codes ≡ table_texts b.codes
  pub kinds : a.kinds ≡ b.kinds
  pub terminal : a.terminal ≡ b.terminal

-- the same is taken, and leaves the same terminal
record TakesLike (x y : MachineState × List ℕ) : Type 0 where
  left : x.0.terminal ≡ y.0.terminal
  reply : x.1 ≡ y.1

nothing_like : (a b : MachineState) → a.terminal ≡ b.terminal → TakesLike (nothing_taken a) (nothing_taken b)
nothing_like a b e = record { left = e; reply = refl }

like_at : (version : Version) (a b : MachineState) → IsLike a b → (partner : ℕ) (kind : PartnerKind) (segments : List Content) (opened : Option CivilMoment) → TakesLike (taken_at_by version a partner kind segments opened) (taken_at_by version b partner kind segments opened)
like_at version a b like partner kind segments None = nothing_like a b like.terminal
like_at version a b like partner kind segments (Some opened) =
    let same : messages_taken_by version a.terminal (codes_for a kind) (source_in partner (header_of segments)) opened (messages_of segments)
    ≡ messages_taken_by version b.terminal (codes_for b kind) (source_in partner (header_of segments)) opened (messages_of segments) =
    ap (λ t. messages_taken_by version t (codes_for a kind) (source_in partner (header_of segments)) opened (messages_of segments)) like.terminal
    ∙ messages_same a.codes b.codes like.codes kind version b.terminal (source_in partner (header_of segments)) opened (messages_of segments) in
    record {
      left = ap (λ (m : TerminalState × List ReportContent). m.0) same;
      reply = ap (λ (m : TerminalState × List ReportContent). reply_to segments m.1) same;
    }

like_of : (version : Version) (a b : MachineState) → IsLike a b → (partner : ℕ) (segments : List Content) (kind : Option PartnerKind) → TakesLike (taken_of_by version a partner segments kind) (taken_of_by version b partner segments kind)
like_of version a b like partner segments None = nothing_like a b like.terminal
like_of version a b like partner segments (Some kind) = like_at version a b like partner kind segments (preparation (header_of segments))

like_if : (a b : MachineState) (is : Bool) (x y : MachineState × List ℕ) → a.terminal ≡ b.terminal → TakesLike x y → TakesLike (cond is x (nothing_taken a)) (cond is y (nothing_taken b))
like_if a b true x y e h = h
like_if a b false x y e h = nothing_like a b e

takes_like : (version : Version) (a b : MachineState) → IsLike a b → (partner : ℕ) (text : List ℕ) → TakesLike (interchange_taken_by version a partner text) (interchange_taken_by version b partner text)
takes_like version a b like partner text =
    let taken = like_of version a b like partner (segments_in text) (with_number a.kinds partner) in
    let same : TakesLike (taken_of_by version a partner (segments_in text) (with_number a.kinds partner)) (taken_of_by version b partner (segments_in text) (with_number b.kinds partner)) =
    subst (λ kinds. TakesLike (taken_of_by version a partner (segments_in text) (with_number a.kinds partner)) (taken_of_by version b partner (segments_in text) (with_number kinds partner))) like.kinds taken in
    subst (λ parties. TakesLike (interchange_taken_by version a partner text) (cond (is_for partner (admission parties text)) (taken_of_by version b partner (segments_in text) (with_number b.kinds partner)) (nothing_taken b))) like.parties
    (like_if a b (is_for partner (admission a.parties text)) _ _ like.terminal same)

abbrev TakesAlike : Taking MachineState → Type 0
TakesAlike taking = (a b : MachineState) → IsLike a b → (partner : ℕ) (text : List ℕ) → TakesLike (taking a partner text) (taking b partner text)

either_alike : (before : List Delivery) (old new : Taking MachineState) → TakesAlike old → TakesAlike new → TakesAlike (taken_by_place number_said before old new)
either_alike before old new one two a b like partner text = by (nat_le (number_said text) (run before partner))
  where
    by : (is_old : Bool) → TakesLike (cond is_old (old a partner text) (new a partner text)) (cond is_old (old b partner text) (new b partner text))
    by true = one a b like partner text
    by false = two a b like partner text

takes_alike : (version : Version) (content : SetupContent) (es : List Event) → TakesAlike (taking_in version content es)
takes_alike version content es = in_force TakesAlike takes_like either_alike version content es

-- ---- a run

-- what both take leaves them alike
like_after : (taking : Taking MachineState) → TakesAlike taking → ChangesTerminalAlone taking → (a b : MachineState) → IsLike a b → (partner : ℕ) (text : List ℕ) → IsLike (taking a partner text).0 (taking b partner text).0
like_after taking alike alone a b like partner text = record {
  parties = ap (λ (m : MachineState). m.parties) (alone a partner text) ∙ like.parties ∙ sym (ap (λ (m : MachineState). m.parties) (alone b partner text));
  codes = ap (λ (m : MachineState). table_texts m.codes) (alone a partner text) ∙ like.codes ∙ sym (ap (λ (m : MachineState). table_texts m.codes) (alone b partner text));
  kinds = ap (λ (m : MachineState). m.kinds) (alone a partner text) ∙ like.kinds ∙ sym (ap (λ (m : MachineState). m.kinds) (alone b partner text));
  terminal = (alike a b like partner text).left;
}

run_alike : (version : Version) (content : SetupContent) (es : List Event) (D : List Delivery) → RunsAlike (taking_in version content es) IsLike D
run_alike version content es D a b p k text like first =
    (like_after (taking_in version content es) (takes_alike version content es) (alone_in version content es) a b like p text, (takes_alike version content es a b like p text).reply)

pub state_like : (version : Version) (content : SetupContent) (es : List Event) (a b : MachineState) (D : List Delivery) → IsLike a b → (state (taking_in version content es) a D).terminal ≡ (state (taking_in version content es) b D).terminal
state_like version content es a b D like = (state_alike (taking_in version content es) IsLike D (run_alike version content es D) a b like).terminal

pub reply_like : (version : Version) (content : SetupContent) (es : List Event) (a b : MachineState) (D : List Delivery) (p k : ℕ) → IsLike a b → reply_of (taking_in version content es) a D p k ≡ reply_of (taking_in version content es) b D p k
reply_like version content es a b D p k like = reply_alike (taking_in version content es) IsLike D (run_alike version content es D) a b p k like

-- ---- set-ups that say the same

pub parties_same : (other content : SetupContent) → SaysSame other content → parties_in other ≡ parties_in content
parties_same other content says i = record { terminal = says.terminal i; partners = map (λ (account : List ℕ × PartnerKind). account.0) (says.partners i) }

pub opening_like : (other content : SetupContent) → SaysSame other content → IsLike (opening_of other) (opening_of content)
opening_like other content says = record {
  parties = parties_same other content says;
  codes = says.codes;
  kinds = ap (map (λ (account : List ℕ × PartnerKind). account.1)) says.partners;
  terminal = λ i. record { yard = record { plan = says.blocks i; boxes = finite_map.empty }; limit = says.limit i; visits = []; lines = finite_map.empty };
}

settings_same : (version : Version) (other content : SetupContent) → SaysSame other content → settings_in version other ≡ settings_in version content
settings_same version other content says i =
    setting_row (codes "version") (version_text version) ∷ setting_row (codes "terminal") (says.terminal i) ∷ setting_row (codes "visits") (decimal (says.limit i)) ∷ settings_named code_names (says.codes i)

-- ---- the same with other codes

-- the set-up with codes that another memory holds
abbrev pub with_codes : CodeTable → SetupContent → SetupContent
with_codes table content = record content { codes = table }

pub now_with_codes : (es : List Event) (content : SetupContent) (table : CodeTable) → content_after (with_codes table content) es ≡ with_codes table (content_after content es)
now_with_codes [] content table = refl
now_with_codes (delivered text ∷ es) content table = now_with_codes es content table
now_with_codes (migrated version ∷ es) content table = now_with_codes es content table
now_with_codes (added code kind ∷ es) content table = now_with_codes es (content_with content (added code kind)) table

pub delivered_with_codes : (es : List Event) (content : SetupContent) (table : CodeTable) → deliveries_of (with_codes table content) es ≡ deliveries_of content es
delivered_with_codes [] content table = refl
delivered_with_codes (delivered text ∷ es) content table = ap (with_delivery (interchange_of text) (admission (parties_in content) (interchange_of text))) (delivered_with_codes es content table)
delivered_with_codes (migrated version ∷ es) content table = delivered_with_codes es content table
delivered_with_codes (added code kind ∷ es) content table = delivered_with_codes es (content_with content (added code kind)) table

by_with_codes : (version : Version) (content : SetupContent) (table : CodeTable) (migration : Option (Version × List Event)) → taking_by version (with_codes table content) migration ≡ taking_by version content migration
by_with_codes version content table None = refl
by_with_codes version content table (Some migration) =
    ap (λ D. taken_by_place number_said D (interchange_taken_by migration.0) (interchange_taken_by version)) (delivered_with_codes migration.1 content table)

pub taking_with_codes : (version : Version) (content : SetupContent) (es : List Event) (table : CodeTable) → taking_in version (with_codes table content) es ≡ taking_in version content es
unfolding taking_in
taking_with_codes version content es table = by_with_codes version content table (migration_in es)

-- what is set up at first stays, but for the accounts
pub codes_after : (es : List Event) (content : SetupContent) → (content_after content es).codes ≡ content.codes
codes_after es content = ap (λ (k : SetupContent). k.codes) (now_with_codes es content content.codes)

module _ (version : Version) (content : SetupContent) (es : List Event) (rows : Rows) (table : CodeTable) (same : table_texts table ≡ table_texts (content_after content es).codes) where
  abbrev now : SetupContent
  now = content_after content es

  abbrev D : List Delivery
  D = deliveries_of content es

  says_codes : SaysSame (with_codes table now) now
  says_codes = record { terminal = refl; codes = same; partners = refl; blocks = refl; limit = refl }

  rows_with_codes : AreAfterBy version content es rows → AreRowsOf version (taking_in version content es) (with_codes table now) D rows
  rows_with_codes are =
      let like = opening_like (with_codes table now) now says_codes in
      record {
        partners = are.partners;
        texts = are.texts;
        replies = λ p k. are.replies p k ∙ sym (reply_like version content es (opening_of (with_codes table now)) (opening_of now) D p k like);
        kept_once = are.kept_once;
        terminal = are.terminal ∙ ap rows_of (sym (state_like version content es (opening_of (with_codes table now)) (opening_of now) D like));
        placed_once = are.placed_once;
        listed_once = are.listed_once;
        settings = are.settings ∙ sym (settings_same version (with_codes table now) now says_codes);
        blocks = are.blocks;
      }

  -- the rows are those after the same events at the set-up with those codes
  pub after_with_codes : AreAfterBy version content es rows → AreAfterBy version (with_codes table content) es rows
  after_with_codes are =
      moved version (taking_in version content es) (taking_in version (with_codes table content) es) (with_codes table now) (content_after (with_codes table content) es) D (deliveries_of (with_codes table content) es) rows
      (taking_with_codes version content es table) (now_with_codes es content table) (delivered_with_codes es content table) (rows_with_codes are)

given_with_codes : (content : SetupContent) (table : CodeTable) → table_texts table ≡ table_texts content.codes → IsGiven content → IsGiven (with_codes table content)
given_with_codes content table same given = record {
  terminal = given.terminal;
  counted = given.counted;
  coded = given.coded;
  distinct = given.distinct;
  codes = ap table_fault same ∙ given.codes;
  plan = given.plan;
  by_letter = given.by_letter;
  limit = given.limit;
}

pub reopens : (content : SetupContent) (es : List Event) (rows : Rows) (db : Database) (shown : OpenedRows) (other : SetupContent) (terminal : TerminalState)
    → AreAfter content es rows → IsGiven content → HasRows rows db → Shows db shown → ShowsSetupAndTerminal shown other terminal → Reopens content es rows other
reopens content es rows db shown other terminal are given has shows office =
    let says = says_same content es rows db shown other terminal given are has shows office in
    record {
      says = says;
      given = given_with_codes content other.codes (says.codes ∙ ap table_texts (codes_after es content)) given;
      now = now_with_codes es content other.codes
          ∙ sym (λ i. record { terminal = says.terminal i; codes = other.codes; partners = says.partners i; blocks = says.blocks i; visit_limit = says.limit i });
      rows_are = after_with_codes newest content es rows other.codes says.codes are;
    }
