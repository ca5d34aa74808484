use Rattle.std.{specs.Prelude.OnOk, proofs.Common.{◌≡◌, ◌++◌, [], ◌∷◌, map, List, inl, refl, sym, ap, subst, ◌∙◌, rules, string_bytes}}
use Rattle.sqlite.specs.{Held.state, State.HasCleanDisk}
use Rattle.office_admission.specs.Accounts.{AccountPair, account_answer, added_as, by_number, content_after, known_as, refused_for}
use Rattle.office_admission.specs.{Parties.partner_from, Setups.{SetupContent, setup_content, setup_with_account}}
use Rattle.office_replies.specs.{AccountAnswers.{account_added_text, account_known_text}, Events.{Event, added}}
use Rattle.office_replies.specs.declared.accounts.AccountAnswer.TheVariants.{Added, Known, Refused, NotNow}
use Rattle.office_replies.specs.declared.accounts.AccountFault.TheVariants.{Partner}
use Rattle.office_rows.{specs.{Effects.with_partner, Rows.Rows, Stored.{HasRows, StoresRows}}, proofs.Creating.stores}
use Rattle.office_tables.specs.{Order.HasRowsInOrder, declared.table_fault.TableFault.TheVariants.Memory}
use Rattle.office_history.proofs.Ground.{account_adds_row}
use Rattle.office_desk.specs.{Accounts.standing_content, Desks.StandsFor, Order.{IsInOrder, StandsInOrder, stored}, Telling.Holds}
use Rattle.office_desk.proofs.{PageLemmas.held_rows_leave, HoldLemmas.{committed_leaves, either_of, held_leaves}, LookLemmas.{noted_fault, noted_told}}
use Rattle.office_desk.proofs.AccountLemmas.{account_after, account_held, asked_is, given_left, given_with, not_added, says_now, says_of}
use Rattle.office_desk.proofs.Faults.{account_in_order, committed_in_order}
use Rattle.office_desk.proofs.desk.Desk.answer_account.Goals as goal

-- ---- no code or no kind

pub returns-in_default : goal.returns-in_default
returns-in_default g c =
    let desk = c.args.self.now in
    let code = c.args.code.now in
    let kind = c.args.kind.now in
    let accounts = (setup_content desk.setup).partners in
    let none : (accounts : List AccountPair) → account_answer accounts code kind ≡ refused_for Partner = rw c.in_default.is at c.account_from.ensures in
    let says = says_of accounts code kind (refused_for Partner) (Refused Partner) (none accounts) refl in
    record {
      enrols = record {
        adds = λ sound content es stands. (says_now g.S.Store content es code kind desk (Refused Partner) stands says, stands);
        closed = refl;
        stays = λ sound. (sound.0, sound.1);
        says = says;
        over = λ sound. (refl, refl, refl);
        crash = λ sound clean content es stands. held_leaves content es (setup_content desk.setup) (state g.S.Store desk.conn) desk.beside sound.1 (λ db left. g.met.S.Store.settled desk.conn.store db sound.1 left) stands;
        crash_over = λ sound clean rows has. held_rows_leave rows (state g.S.Store desk.conn) (λ db left. g.met.S.Store.settled desk.conn.store db sound.1 left) has;
        order = record {
          rows = λ sound content es was. was.in_order;
          crash = λ sound clean content es was. committed_in_order content es (state g.S.Store desk.conn) (λ db left. g.met.S.Store.settled desk.conn.store db sound.1 left) was.in_order;
        };
        noted = refl;
      };
    }

-- ---- refused by the accounts

pub returns-in-Refused : goal.returns-in-Refused
returns-in-Refused g c =
    let desk = c.args.self.now in
    let code = c.args.code.now in
    let kind = c.args.kind.now in
    let accounts = (setup_content desk.setup).partners in
    let p = rw c.in-Some.is at c.account_from.ensures in
    let fault = c.in-Refused.fault in
    let is = asked_is accounts c.in-Some.code.now code kind c.in-Some.kind (refused_for fault) p.0 p.1 p.2 (ap standing_content (sym c.in-Refused.is) ∙ c.judge_account.ensures) in
    let says = says_of accounts code kind (refused_for fault) (Refused fault) is refl in
    record {
      enrols = record {
        adds = λ sound content es stands. (says_now g.S.Store content es code kind desk (Refused fault) stands says, stands);
        closed = refl;
        stays = λ sound. (sound.0, sound.1);
        says = says;
        over = λ sound. (refl, refl, refl);
        crash = λ sound clean content es stands. held_leaves content es (setup_content desk.setup) (state g.S.Store desk.conn) desk.beside sound.1 (λ db left. g.met.S.Store.settled desk.conn.store db sound.1 left) stands;
        crash_over = λ sound clean rows has. held_rows_leave rows (state g.S.Store desk.conn) (λ db left. g.met.S.Store.settled desk.conn.store db sound.1 left) has;
        order = record {
          rows = λ sound content es was. was.in_order;
          crash = λ sound clean content es was. committed_in_order content es (state g.S.Store desk.conn) (λ db left. g.met.S.Store.settled desk.conn.store db sound.1 left) was.in_order;
        };
        noted = refl;
      };
    }

-- ---- known

pub returns-in-Ok : goal.returns-in-Ok
returns-in-Ok g c =
    let desk = c.args.self.now in
    let code = c.args.code.now in
    let kind = c.args.kind.now in
    let accounts = (setup_content desk.setup).partners in
    let p = rw c.in-Some.is at c.account_from.ensures in
    let id = c.in-Known.id in
    let body : string_bytes c.in-Ok.body ≡ account_known_text id code = subst (λ text. string_bytes c.in-Ok.body ≡ account_known_text id text) p.0 c.in-Ok.ensures in
    let is = asked_is accounts c.in-Some.code.now code kind c.in-Some.kind (known_as id) p.0 p.1 p.2 (ap standing_content (sym c.in-Known.is) ∙ c.judge_account.ensures) in
    let says = says_of accounts code kind (known_as id) (Known id c.in-Ok.body) is (refl, body) in
    record {
      enrols = record {
        adds = λ sound content es stands. (says_now g.S.Store content es code kind desk (Known id c.in-Ok.body) stands says, stands);
        closed = refl;
        stays = λ sound. (sound.0, sound.1);
        says = says;
        over = λ sound. (refl, refl, refl);
        crash = λ sound clean content es stands. held_leaves content es (setup_content desk.setup) (state g.S.Store desk.conn) desk.beside sound.1 (λ db left. g.met.S.Store.settled desk.conn.store db sound.1 left) stands;
        crash_over = λ sound clean rows has. held_rows_leave rows (state g.S.Store desk.conn) (λ db left. g.met.S.Store.settled desk.conn.store db sound.1 left) has;
        order = record {
          rows = λ sound content es was. was.in_order;
          crash = λ sound clean content es was. committed_in_order content es (state g.S.Store desk.conn) (λ db left. g.met.S.Store.settled desk.conn.store db sound.1 left) was.in_order;
        };
        noted = refl;
      };
    }

-- ---- known, and memory was refused

pub returns-in-Err : goal.returns-in-Err
returns-in-Err g c =
    let desk = c.args.self.now in
    let code = c.args.code.now in
    let kind = c.args.kind.now in
    let accounts = (setup_content desk.setup).partners in
    let p = rw c.in-Some.is at c.account_from.ensures in
    let id = c.in-Known.id in
    let is = asked_is accounts c.in-Some.code.now code kind c.in-Some.kind (known_as id) p.0 p.1 p.2 (ap standing_content (sym c.in-Known.is) ∙ c.judge_account.ensures) in
    let says = says_of accounts code kind (known_as id) NotNow is tt in
    record {
      enrols = record {
        adds = λ sound content es stands. (says_now g.S.Store content es code kind desk NotNow stands says, stands);
        closed = refl;
        stays = λ sound. (sound.0, sound.1);
        says = says;
        over = λ sound. (refl, refl, inl refl);
        crash = λ sound clean content es stands db left.
            inl (held_leaves content es (setup_content desk.setup) (state g.S.Store desk.conn) desk.beside sound.1 (λ db left. g.met.S.Store.settled desk.conn.store db sound.1 left) stands db left);
        crash_over = λ sound clean rows has db left. inl (held_rows_leave rows (state g.S.Store desk.conn) (λ db left. g.met.S.Store.settled desk.conn.store db sound.1 left) has db left);
        order = record {
          rows = λ sound content es was. was.in_order;
          crash = λ sound clean content es was db left.
              inl (committed_in_order content es (state g.S.Store desk.conn) (λ db left. g.met.S.Store.settled desk.conn.store db sound.1 left) was.in_order db left);
        };
        noted = (Memory, refl, tt);
      };
    }

-- ---- added

pub returns-in-Ok-noted : goal.returns-in-Ok-noted
returns-in-Ok-noted g c =
    let desk = c.args.self.now in
    let code = c.args.code.now in
    let kind = c.args.kind.now in
    let accounts = (setup_content desk.setup).partners in
    let after = c.add_new-added.new in
    let met = noted_told c.add_new-added.result _ c.in-Ok-noted.body _ c.in-Ok-noted.ensures in
    let made = c.add_new-added.ensures in
    let long = rw met.0 at made.beside in
    let old = state g.S.Store desk.conn in
    let new = state g.S.Store after.conn in
    let p = rw c.in-Some.is at c.account_from.ensures in
    let id = c.in-New.id in
    let own = c.in-Some.kind in
    let given = Added id c.in-Ok-noted.body in
    let body : string_bytes c.in-Ok-noted.body ≡ account_added_text id code = subst (λ text. string_bytes c.in-Ok-noted.body ≡ account_added_text id text) p.0 (rw met.0 at made.body) in
    let stood = ap standing_content (sym c.in-New.is) ∙ c.judge_account.ensures in
    let says = says_of accounts code kind (added_as id) given (asked_is accounts c.in-Some.code.now code kind own (added_as id) p.0 p.1 p.2 stood) (refl, body) in
    let grown : setup_content after.setup ≡ setup_with_account (setup_content desk.setup) code own =
    subst (λ text. setup_content after.setup ≡ setup_with_account (setup_content desk.setup) text own) p.0 (rw met.0 at made.setup) in
    let writes = rw met.0 at made.writes in
    let is_now : (content : SetupContent) (es : List Event) → StandsFor g.S.Store content es desk → account_answer (content_after content es).partners code kind ≡ added_as id = λ content es stands.
    asked_is (content_after content es).partners c.in-Some.code.now code kind own (added_as id) p.0 p.1 p.2
    (stood ∙ ap (λ (k : SetupContent). by_number k.partners own (partner_from 1 c.in-Some.code.now (map (λ (account : AccountPair). account.0) k.partners))) (sym stands.now_is)) in
    let has : HasCleanDisk new → (rows : Rows) → HasRows rows old.committed → HasRows (with_partner id code own rows) new.committed = λ clean rows had.
    subst (λ text. HasRows (with_partner id text own rows) new.committed) p.0 ((writes.ok clean).rows rows had) in
    let in_order : HasCleanDisk new → (content : SetupContent) (es : List Event) → StandsInOrder g.S.Store content es desk → IsInOrder content (es ++ added code kind ∷ []) new.committed = λ clean content es was.
    let rows = was.in_order.rows in
    account_in_order content es code kind own id rows new.committed p.2 (is_now content es was.stands) was.in_order.after
    (subst (λ text. HasRowsInOrder (with_partner id text own rows) new.committed) p.0 ((writes.ok clean).in_order rows was.in_order.has)) in
    record {
      enrols = record {
        adds = λ sound content es stands. (
          says_now g.S.Store content es code kind desk given stands says,
          subst (λ k. Holds content (es ++ added code kind ∷ []) k new.committed after.beside) (sym grown)
              (account_held content es code kind own id p.2 (is_now content es stands) (setup_content desk.setup) old.committed new.committed desk.beside after.beside stands (has sound.0 stands.rows stands.has) long),
        );
        closed = refl;
        stays = λ sound. (writes.ends.clean sound.0, writes.ends.was_open sound.0 sound.1);
        says = says;
        over = λ sound. (own, p.2, grown, has sound.0, long);
        crash = λ sound clean content es stands.
            committed_leaves content (es ++ added code kind ∷ []) new (with_partner id code own stands.rows) (writes.ok clean).alone (has clean stands.rows stands.has)
            (account_adds_row content es stands.rows code kind own id stands.after p.2 (is_now content es stands)).rows_are;
        crash_over = λ sound clean rows had. (own, p.2, λ db left. subst (StoresRows (with_partner id code own rows)) (sym ((writes.ok clean).alone db left)) (stores (with_partner id code own rows) new.committed (has clean rows had)));
        order = record {
          rows = λ sound content es was. in_order sound.0 content es was;
          crash = λ sound clean content es was. committed_in_order content (es ++ added code kind ∷ []) new (writes.ok clean).alone (in_order clean content es was);
        };
        noted = met.1;
      };
    }

-- ---- an addition that failed

pub returns-in-Err-noted : goal.returns-in-Err-noted
returns-in-Err-noted g c =
    let desk = c.args.self.now in
    let code = c.args.code.now in
    let kind = c.args.kind.now in
    let accounts = (setup_content desk.setup).partners in
    let after = c.add_new-added.new in
    let met = noted_fault c.add_new-added.result _ _ _ c.in-Err-noted.ensures in
    let made = c.add_new-added.ensures in
    let same = rw met.1 at made.same in
    let less = rw met.1 at made.less in
    let old = state g.S.Store desk.conn in
    let new = state g.S.Store after.conn in
    let p = rw c.in-Some.is at c.account_from.ensures in
    let id = c.in-New.id in
    let own = c.in-Some.kind in
    let stood = ap standing_content (sym c.in-New.is) ∙ c.judge_account.ensures in
    let says = says_of accounts code kind (added_as id) NotNow (asked_is accounts c.in-Some.code.now code kind own (added_as id) p.0 p.1 p.2 stood) tt in
    let writes = rw met.1 at made.writes in
    record {
      enrols = record {
        adds = λ sound content es stands. (
          says_now g.S.Store content es code kind desk NotNow stands says,
          not_added content es (setup_content desk.setup) (setup_content after.setup) old.committed new.committed desk.beside after.beside stands
              (ap setup_content same) (writes.err sound.0 sound.1) less,
        );
        closed = refl;
        stays = λ sound. (writes.ends.clean sound.0, writes.ends.was_open sound.0 sound.1);
        says = says;
        over = λ sound. (same, writes.err sound.0 sound.1, less);
        crash = λ sound clean content es stands db left.
            let is : account_answer (content_after content es).partners code kind ≡ added_as id =
            asked_is (content_after content es).partners c.in-Some.code.now code kind own (added_as id) p.0 p.1 p.2
            (stood ∙ ap (λ (k : SetupContent). by_number k.partners own (partner_from 1 c.in-Some.code.now (map (λ (account : AccountPair). account.0) k.partners))) (sym stands.now_is)) in
            let before = held_leaves content es (setup_content desk.setup) old desk.beside sound.1 (λ d l. g.met.S.Store.settled desk.conn.store d sound.1 l) stands in
            either_of (λ was. before db was)
            (λ whole. account_after content es code kind own id p.2 is stands.rows db stands.after (subst (λ text. StoresRows (with_partner id text own stands.rows) db) p.0 (whole stands.rows stands.has)))
            (writes.crash.crash clean db left);
        crash_over = λ sound clean rows had db left.
            let said = asked_is accounts c.in-Some.code.now code kind own (added_as id) p.0 p.1 p.2 stood in
            either_of (λ was. held_rows_leave rows old (λ db left. g.met.S.Store.settled desk.conn.store db sound.1 left) had db was)
            (λ whole. (own, id, p.2, said, subst (λ text. StoresRows (with_partner id text own rows) db) p.0 (whole rows had)))
            (writes.crash.crash clean db left);
        order = record {
          rows = λ sound content es was. subst (IsInOrder content es) (sym (writes.err sound.0 sound.1)) was.in_order;
          crash = λ sound clean content es was db left.
              let is : account_answer (content_after content es).partners code kind ≡ added_as id =
              asked_is (content_after content es).partners c.in-Some.code.now code kind own (added_as id) p.0 p.1 p.2
              (stood ∙ ap (λ (k : SetupContent). by_number k.partners own (partner_from 1 c.in-Some.code.now (map (λ (account : AccountPair). account.0) k.partners))) (sym was.stands.now_is)) in
              let before = committed_in_order content es old (λ d l. g.met.S.Store.settled desk.conn.store d sound.1 l) was.in_order in
              let rows = was.in_order.rows in
              either_of (λ was. before db was)
              (λ whole. account_in_order content es code kind own id rows (stored db) p.2 is was.in_order.after (subst (λ text. HasRowsInOrder (with_partner id text own rows) (stored db)) p.0 (whole rows was.in_order.has)))
              (made.crash_in_order.crash clean db left);
        };
        noted = (met.0, met.2, writes.fault);
      };
    }

-- ---- the set-up that an addition leaves is one that can be given

pub invariant_of-self-in-New : goal.invariant_of-self-in-New
invariant_of-self-in-New g c =
    let p = rw c.in-Some.is at c.account_from.ensures in
    let id = c.in-New.id in
    let own = c.in-Some.kind in
    let desk = c.args.self.now in
    let added = c.add_new-added.result in
    let left = c.add_new-added.new.setup in
    let grown = setup_with_account (setup_content desk.setup) c.args.code.now own in
    let said = asked_is (setup_content desk.setup).partners c.in-Some.code.now c.args.code.now c.args.kind.now own (added_as id) p.0 p.1 p.2 (ap standing_content (sym c.in-New.is) ∙ c.judge_account.ensures) in
    let with_it = subst (λ text. OnOk added (setup_content left ≡ setup_with_account (setup_content desk.setup) text own)) p.0 c.add_new-added.ensures.setup in
    record {
      idle = search rules;
      given = given_left added setup_content desk.setup left grown with_it c.add_new-added.ensures.same desk.given
          (given_with (setup_content desk.setup) c.args.code.now c.args.kind.now id own desk.given p.2 said);
    }
