use Rattle.std.proofs.{Common.{◌≡◌, length, None, Some, inl, option_map, string_bytes, refl, sym, ap, subst, ◌∙◌, arith}, lemmas.Result.IfErr-weaker}
use Rattle.office_rows.proofs.Creating.{if_ok}
use Rattle.office_tables.{specs.{Answers.LacksNext, Faults.IsOfStoreOr}, proofs.WritesLemmas.of_store_weaker}
use Rattle.office_desk.{specs.Causes.{AsksUnreadable, HasUnfitReplyOf, LacksReply, LacksSome}, proofs.{Values.{shows_text, text_shown}, PageLemmas.some_lacks}}
use Rattle.office_desk.specs.Reports.{Shows, TellsAbout, TellsMetrics, TellsNext, TellsReplyOf, contrl_for_partner, partner_called, partner_if_called, ticket_of}
use Rattle.office_desk.proofs.Faults.{called}
use Rattle.office_admission.specs.Setups.{setup_content}
use Rattle.office_reports.specs.{Calls.lists_in, OpenLines.open_lines}
use Rattle.office_report_data.specs.Told.{shown}
use Rattle.std.specs.FinMap as finite_map
use Rattle.office_report_data.specs.Told as value
use Rattle.office_desk.proofs.answers.tell_about.Goals as goal

pub returns-in-Some-clause-told : goal.returns-in-Some-clause-told
returns-in-Some-clause-told g c clean =
    let a = c.args in
    let content = setup_content a.setup.now in
    let own = string_bytes c.in-Ticket.partner in
    let there : partner_called content own ≡ Some c.in-Some.id = called a.setup.now c.deref-in-Ticket.result.now own (Some c.in-Some.id) (sym c.in-Some.is ∙ c.partner_called.ensures) c.deref-in-Ticket.ensures in
    if_ok c.tell_ticket.result (λ found told. λ rows has once.
    subst (λ q. Shows (TellsAbout content a.terminal.now rows q) a.view (option_map string_bytes found)) (sym c.in-Ticket.is) (
      ticket_of a.terminal.now.visits rows own c.in-Ticket.number (Some c.in-Some.id),
      (λ view. sym (ap (λ p. option_map (shown view) (ticket_of a.terminal.now.visits rows own c.in-Ticket.number p)) there)),
      rw c.deref-in-Some.ensures at (told rows has once),
    ))
    (c.tell_ticket.ensures.told clean)

pub returns-in-None-clause-told : goal.returns-in-None-clause-told
returns-in-None-clause-told g c clean rows has once =
    let a = c.args in
    let content = setup_content a.setup.now in
    let own = string_bytes c.in-Ticket.partner in
    let there : partner_called content own ≡ None = called a.setup.now c.deref-in-Ticket.result.now own None (sym c.in-None.is ∙ c.partner_called.ensures) c.deref-in-Ticket.ensures in
    subst (λ q. Shows (TellsAbout content a.terminal.now rows q) a.view None) (sym c.in-Ticket.is)
    (None, (λ view. sym (ap (λ p. option_map (shown view) (ticket_of a.terminal.now.visits rows own c.in-Ticket.number p)) there)), refl)

pub returns-in-Some-partner_called-clause-told : goal.returns-in-Some-partner_called-clause-told
returns-in-Some-partner_called-clause-told g c clean =
    let a = c.args in
    let content = setup_content a.setup.now in
    let own = string_bytes c.in-Reply.partner in
    let id = c.in-Some-partner_called.id in
    let there : partner_called content own ≡ Some id = called a.setup.now c.deref-in-Reply.result.now own (Some id) (sym c.in-Some-partner_called.is ∙ c.partner_called-in-Reply.ensures) c.deref-in-Reply.ensures in
    if_ok c.tell_reply.result (λ found told. λ rows has once.
    subst (λ q. Shows (TellsAbout content a.terminal.now rows q) a.view (option_map string_bytes found)) (sym c.in-Reply.is)
    (subst (λ p. Shows (TellsReplyOf rows own c.in-Reply.number p) a.view (option_map string_bytes found)) (sym there) (rw c.deref-in-Some-partner_called.ensures at (told rows has once))))
    (c.tell_reply.ensures.told clean)

pub returns-in-None-partner_called-clause-told : goal.returns-in-None-partner_called-clause-told
returns-in-None-partner_called-clause-told g c clean rows has once =
    let a = c.args in
    let content = setup_content a.setup.now in
    let own = string_bytes c.in-Reply.partner in
    let there : partner_called content own ≡ None = called a.setup.now c.deref-in-Reply.result.now own None (sym c.in-None-partner_called.is ∙ c.partner_called-in-Reply.ensures) c.deref-in-Reply.ensures in
    subst (λ q. Shows (TellsAbout content a.terminal.now rows q) a.view None) (sym c.in-Reply.is)
    (None, subst (λ p. TellsReplyOf rows own c.in-Reply.number p None) (sym there) refl, refl)

pub returns-in-Some-partner_called-2-clause-told : goal.returns-in-Some-partner_called-2-clause-told
returns-in-Some-partner_called-2-clause-told g c clean =
    let a = c.args in
    let content = setup_content a.setup.now in
    let own = string_bytes c.in-Contrl.partner in
    let id = c.in-Some-partner_called-2.id in
    let there : partner_called content own ≡ Some id = called a.setup.now c.deref-in-Contrl.result.now own (Some id) (sym c.in-Some-partner_called-2.is ∙ c.partner_called-in-Contrl.ensures) c.deref-in-Contrl.ensures in
    if_ok c.tell_contrl.result (λ found told. λ rows has once.
    subst (λ q. Shows (TellsAbout content a.terminal.now rows q) a.view (option_map string_bytes found)) (sym c.in-Contrl.is) (
      contrl_for_partner rows own c.in-Contrl.number (Some id),
      sym (ap (contrl_for_partner rows own c.in-Contrl.number) there),
      rw c.deref-in-Some-partner_called-2.ensures at (told rows has once),
    ))
    (c.tell_contrl.ensures.told clean)

pub returns-in-None-partner_called-2-clause-told : goal.returns-in-None-partner_called-2-clause-told
returns-in-None-partner_called-2-clause-told g c clean rows has once =
    let a = c.args in
    let content = setup_content a.setup.now in
    let own = string_bytes c.in-Contrl.partner in
    let there : partner_called content own ≡ None = called a.setup.now c.deref-in-Contrl.result.now own None (sym c.in-None-partner_called-2.is ∙ c.partner_called-in-Contrl.ensures) c.deref-in-Contrl.ensures in
    subst (λ q. Shows (TellsAbout content a.terminal.now rows q) a.view None) (sym c.in-Contrl.is)
    (None, sym (ap (contrl_for_partner rows own c.in-Contrl.number) there), refl)

-- ---- texts

pub returns-in-Next-clause-told : goal.returns-in-Next-clause-told
returns-in-Next-clause-told g c clean =
    let a = c.args in
    let content = setup_content a.setup.now in
    let own = string_bytes c.in-Next.code in
    if_ok c.tell_next.result (λ found told. λ rows has once.
    subst (λ q. Shows (TellsAbout content a.terminal.now rows q) a.view (option_map string_bytes found)) (sym c.in-Next.is)
    (shows_text (TellsNext rows (partner_called content own)) a.view (option_map string_bytes found)
    (subst (λ code. TellsNext rows (partner_called content code) (option_map string_bytes found)) c.deref-in-Next.ensures (told rows has))))
    (c.tell_next.ensures.told clean)

pub returns-in-Health-clause-told : goal.returns-in-Health-clause-told
returns-in-Health-clause-told g c clean =
    let a = c.args in
    let content = setup_content a.setup.now in
    if_ok c.tell_health.result (λ found told. λ rows has once.
    subst (λ q. Shows (TellsAbout content a.terminal.now rows q) a.view (option_map string_bytes found)) (sym c.in-Health.is)
    (option_map value.text (option_map string_bytes found), ap (option_map value.text) told, text_shown a.view (option_map string_bytes found)))
    c.tell_health.ensures.told

pub returns-in-Metrics-clause-told : goal.returns-in-Metrics-clause-told
returns-in-Metrics-clause-told g c clean =
    let a = c.args in
    let content = setup_content a.setup.now in
    if_ok c.tell_metrics.result (λ found told. λ rows has once.
    subst (λ q. Shows (TellsAbout content a.terminal.now rows q) a.view (option_map string_bytes found)) (sym c.in-Metrics.is)
    (shows_text (TellsMetrics content a.terminal.now rows) a.view (option_map string_bytes found) (told rows has)))
    (c.tell_metrics.ensures.told clean)

pub returns-in-Start-clause-told : goal.returns-in-Start-clause-told
returns-in-Start-clause-told g c clean =
    let a = c.args in
    let content = setup_content a.setup.now in
    if_ok c.tell_start.result (λ found told. λ rows has once.
    subst (λ q. Shows (TellsAbout content a.terminal.now rows q) a.view (option_map string_bytes found)) (sym c.in-Start.is) (told rows has a.view))
    (c.tell_start.ensures.told clean)

-- ---- in memory

pub returns-in_ok-tell_calls-in-Calls-clause-told : goal.returns-in_ok-tell_calls-in-Calls-clause-told
returns-in_ok-tell_calls-in-Calls-clause-told g c clean rows has once =
    let a = c.args in
    let content = setup_content a.setup.now in
    let state = a.terminal.now in
    let text = string_bytes c.in_ok-tell_calls-in-Calls.field-0 in
    subst (λ q. Shows (TellsAbout content state rows q) a.view (Some text)) (sym c.in-Calls.is)
    (Some (value.calls (lists_in (finite_map.entries state.lines))), refl, ap Some c.in_ok-tell_calls-in-Calls.ensures)

-- ---- pages only

pub returns-in_ok-tell_expected-in-Expected-clause-told : goal.returns-in_ok-tell_expected-in-Expected-clause-told
returns-in_ok-tell_expected-in-Expected-clause-told g c clean rows has once =
    let a = c.args in
    let content = setup_content a.setup.now in
    let container = c.in-Expected.container in
    let text = string_bytes c.in_ok-tell_expected-in-Expected.field-0 in
    subst (λ q. Shows (TellsAbout content a.terminal.now rows q) a.view (Some text)) (sym c.in-Expected.is)
    (Some (value.expected container (open_lines a.terminal.now.lines container)), refl, ap Some (c.in_ok-tell_expected-in-Expected.ensures a.view))

pub returns-in_ok-tell_block-in-Block-clause-told : goal.returns-in_ok-tell_block-in-Block-clause-told
returns-in_ok-tell_block-in-Block-clause-told g c clean rows has once =
    let a = c.args in
    let content = setup_content a.setup.now in
    let text = string_bytes c.in_ok-tell_block-in-Block.field-0 in
    subst (λ q. Shows (TellsAbout content a.terminal.now rows q) a.view (Some text)) (sym c.in-Block.is) (c.in_ok-tell_block-in-Block.ensures a.view)

pub returns-in_ok-tell_found-in-Find-clause-told : goal.returns-in_ok-tell_found-in-Find-clause-told
returns-in_ok-tell_found-in-Find-clause-told g c clean rows has once =
    let a = c.args in
    let content = setup_content a.setup.now in
    let state = a.terminal.now in
    let typed = string_bytes c.in-Find.typed in
    let text = string_bytes c.in_ok-tell_found-in-Find.field-0 in
    subst (λ q. Shows (TellsAbout content state rows q) a.view (Some text)) (sym c.in-Find.is) (
      Some (value.found typed state.visits (partner_if_called content typed) (lists_in (finite_map.entries state.lines))),
      refl,
      ap Some (c.in_ok-tell_found-in-Find.ensures a.view
          ∙ ap (λ word. shown a.view (value.found word state.visits (partner_if_called content word) (lists_in (finite_map.entries state.lines)))) c.deref-in-Find.ensures),
    )

-- ---- why it can't be reported

pub returns-in-Some-clause-fault : goal.returns-in-Some-clause-fault
returns-in-Some-clause-fault g c clean =
    let a = c.args in
    let content = setup_content a.setup.now in
    let own = string_bytes c.in-Ticket.partner in
    let there : partner_called content own ≡ Some c.in-Some.id = called a.setup.now c.deref-in-Ticket.result.now own (Some c.in-Some.id) (sym c.in-Some.is ∙ c.partner_called.ensures) c.deref-in-Ticket.ensures in
    IfErr-weaker c.tell_ticket.result _ _ (λ fault why rows has.
    subst (λ q. IsOfStoreOr (AsksUnreadable content rows q) fault) (sym c.in-Ticket.is)
    (subst (λ p. IsOfStoreOr (HasUnfitReplyOf rows c.in-Ticket.number p) fault) (sym there) (why rows has)))
    (c.tell_ticket.ensures.fault clean)

pub returns-in-Some-partner_called-clause-fault : goal.returns-in-Some-partner_called-clause-fault
returns-in-Some-partner_called-clause-fault g c clean =
    let a = c.args in
    let content = setup_content a.setup.now in
    let own = string_bytes c.in-Reply.partner in
    let there : partner_called content own ≡ Some c.in-Some-partner_called.id = called a.setup.now c.deref-in-Reply.result.now own (Some c.in-Some-partner_called.id) (sym c.in-Some-partner_called.is ∙ c.partner_called-in-Reply.ensures) c.deref-in-Reply.ensures in
    IfErr-weaker c.tell_reply.result _ _ (λ fault why rows has.
    subst (λ q. IsOfStoreOr (AsksUnreadable content rows q) fault) (sym c.in-Reply.is)
    (subst (λ p. IsOfStoreOr (LacksReply rows c.in-Reply.number p) fault) (sym there) (why rows has)))
    (c.tell_reply.ensures.fault clean)

pub returns-in-Some-partner_called-2-clause-fault : goal.returns-in-Some-partner_called-2-clause-fault
returns-in-Some-partner_called-2-clause-fault g c clean =
    let a = c.args in
    let content = setup_content a.setup.now in
    let own = string_bytes c.in-Contrl.partner in
    let there : partner_called content own ≡ Some c.in-Some-partner_called-2.id = called a.setup.now c.deref-in-Contrl.result.now own (Some c.in-Some-partner_called-2.id) (sym c.in-Some-partner_called-2.is ∙ c.partner_called-in-Contrl.ensures) c.deref-in-Contrl.ensures in
    IfErr-weaker c.tell_contrl.result _ _ (λ fault why rows has.
    subst (λ q. IsOfStoreOr (AsksUnreadable content rows q) fault) (sym c.in-Contrl.is)
    (subst (λ p. IsOfStoreOr (HasUnfitReplyOf rows c.in-Contrl.number p) fault) (sym there) (why rows has)))
    (c.tell_contrl.ensures.fault clean)

pub returns-in-Partner-clause-fault : goal.returns-in-Partner-clause-fault
returns-in-Partner-clause-fault g c clean =
    let content = setup_content c.args.setup.now in
    IfErr-weaker c.tell_partner.result _ _ (λ fault why rows has. subst (λ q. IsOfStoreOr (AsksUnreadable content rows q) fault) (sym c.in-Partner.is) (why rows has))
    (c.tell_partner.ensures.fault clean)

pub returns-in-Next-clause-fault : goal.returns-in-Next-clause-fault
returns-in-Next-clause-fault g c clean =
    let content = setup_content c.args.setup.now in
    IfErr-weaker c.tell_next.result _ _ (λ fault why rows has. subst (λ q. IsOfStoreOr (AsksUnreadable content rows q) fault) (sym c.in-Next.is) (why rows has))
    (c.tell_next.ensures.fault clean)

pub returns-in-Metrics-clause-fault : goal.returns-in-Metrics-clause-fault
returns-in-Metrics-clause-fault g c clean =
    let content = setup_content c.args.setup.now in
    IfErr-weaker c.tell_metrics.result _ _ (λ fault why rows has. subst (λ q. IsOfStoreOr (AsksUnreadable content rows q) fault) (sym c.in-Metrics.is) (why rows has))
    (c.tell_metrics.ensures.fault clean)

pub returns-in-Start-clause-fault : goal.returns-in-Start-clause-fault
returns-in-Start-clause-fault g c clean =
    let content = setup_content c.args.setup.now in
    IfErr-weaker c.tell_start.result _ _ (λ fault why rows has. subst (λ q. IsOfStoreOr (AsksUnreadable content rows q) fault) (sym c.in-Start.is) (why rows has))
    (c.tell_start.ensures.fault clean)

-- there is a first account
pub returns-in-Health-clause-fault : goal.returns-in-Health-clause-fault
returns-in-Health-clause-fault g c clean =
    let content = setup_content c.args.setup.now in
    IfErr-weaker c.tell_health.result _ _ (λ fault why rows has. subst (λ q. IsOfStoreOr (AsksUnreadable content rows q) fault) (sym c.in-Health.is)
    (of_store_weaker (LacksNext 1 rows) (LacksSome rows (length content.partners)) (λ lacks. some_lacks rows c.args.setup.now.partners.items 1 (omega arith) c.requires.some (inl lacks)) fault (why rows has)))
    (c.tell_health.ensures.fault clean)
