use Rattle.std.proofs.Common.{string_bytes, sym, ap, ◌∙◌, ◌++◌, map}
use Rattle.edi_syntax.specs.{Envelope.{header_of, messages_of}, Envelopes.envelope_segments, Header.preparation}
use Rattle.terminal_core.specs.Rows.{change_content}
use Rattle.office_admission.{specs.{Tallies.with_interchange, Taking.{messages_taken, source_in}}, proofs.Adding.ok_weaker}
use Rattle.office_admission.proofs.Takings.{taken_is, changes_are, reports_are, left_by, ok_both}
use Rattle.office_admission.proofs.taking.take.Goals as goal

pub returns-clause-taken : goal.returns-clause-taken
returns-clause-taken c =
    let setup = c.args.setup.now in
    let admitted = c.args.admitted.now in
    let segments = envelope_segments admitted.envelope in
    let prepared = ap (λ others. preparation (header_of others)) (sym c.head.ensures) ∙ c.moment-opened.ensures in
    ok_both c.take_interchange.result _ _ _
    (λ reply state told. λ text is.
    taken_is setup c.args.terminal.now text admitted c.for_kind-codes.result c.moment-opened.result is c.for_kind-codes.ensures.kind c.for_kind-codes.ensures.table prepared
    ∙ left_by setup c.args.terminal.now c.take_interchange.new.terminal segments
    (messages_taken c.args.terminal.now c.for_kind-codes.result (source_in admitted.partner (header_of segments)) c.moment-opened.result (messages_of segments)) (string_bytes reply) state told)
    c.take_interchange.ensures.state c.take_interchange.ensures.reply

pub returns-clause-changes : goal.returns-clause-changes
returns-clause-changes c =
    let setup = c.args.setup.now in
    let admitted = c.args.admitted.now in
    let prepared = ap (λ others. preparation (header_of others)) (sym c.head.ensures) ∙ c.moment-opened.ensures in
    ok_weaker c.take_interchange.result _ _
    (λ reply changes. λ text is.
    changes ∙ ap (λ more. map change_content c.args.changes.now.items ++ more)
    (sym (changes_are setup c.args.terminal.now text admitted c.for_kind-codes.result c.moment-opened.result is c.for_kind-codes.ensures.kind c.for_kind-codes.ensures.table prepared)))
    c.take_interchange.ensures.changes

pub returns-clause-tally : goal.returns-clause-tally
returns-clause-tally c =
    let setup = c.args.setup.now in
    let admitted = c.args.admitted.now in
    let prepared = ap (λ others. preparation (header_of others)) (sym c.head.ensures) ∙ c.moment-opened.ensures in
    ok_weaker c.take_interchange.result _ _
    (λ reply counted. λ text is.
    counted ∙ ap (with_interchange c.args.tally.now)
    (sym (reports_are setup c.args.terminal.now text admitted c.for_kind-codes.result c.moment-opened.result is c.for_kind-codes.ensures.kind c.for_kind-codes.ensures.table prepared)))
    c.take_interchange.ensures.tally
