-- What a delivery does to a desk and the archives beside it.
use Rattle.std.specs.Prelude.{nat_le, None, IsTrue}
use Rattle.std.proofs.Common.{◌≡◌, ℕ, ◌≤◌, inl, List, [], ◌∷◌, ◌++◌, true, false, Result, Ok, Err, sym, refl, ap, subst, ◌∙◌, arith, ◌+◌, ◌-◌, ◌<◌}
use Rattle.std.proofs.lemmas.Bool.{leb-true, leb-false}
use Rattle.sqlite.specs.{Held.{Held, state}, State.HasCleanDisk, Tree.Trees, Effect.Database}
use Rattle.sqlite_trees.specs.declared.store.Store.{Ghosts}
use Rattle.edi_syntax.specs.Interchange.{interchange_of}
use Rattle.partner_core.proofs.Orders.{some_of, used_within_run}
use Rattle.office_replies.specs.{Contents.content_of, Delivering.{Delivers, with_answered}, Events.{Event, delivered}, declared.deliver.Fault.Fault}
use Rattle.office_replies.specs.declared.deliver.Response.{Response}
use Rattle.office_loading.specs.Closed.{closed_content, last_closed}
use Rattle.office_rows.{specs.{Rows.Rows, Stored.StoresRows}, proofs.Creating.stores}
use Rattle.office_admission.specs.Parties.{parties_of}
use Rattle.office_admission.specs.Setups.{SetupContent, parties_in, setup_content}
use Rattle.office_admission.specs.Admission.{admission}
use Rattle.office_admission.specs.Refusals.{RefusedSurely}
use Rattle.office_admission.specs.Taking.{MachineState, machine_of}
use Rattle.office_tables.specs.declared.table_fault.TableFault.{TableFault}
use Rattle.terminal_core.specs.{Versions.newest, State.TerminalState}
use Rattle.office_parts.specs.{Away.{AreAway, lists_after}, Naming.{AreHere, interchange_lists}, OwnLists.{ListName, rows_without_lists, without_lists}}
use Rattle.office_parts.{specs.{Archives.{Archive, archive_of}, OwnTerminal.own_terminal, Parts.ArePartsAfter}, proofs.AwayLemmas.without_row}
use Rattle.office_parts.proofs.Orders.{archives_answered, closed_within}
use Rattle.office_history.specs.{After.{content_after, deliveries_of, machine_after, machine_with}, Laws.{AddsNoRow, IsFor, answer_model_of}}
use Rattle.office_history.proofs.{Lawful.{now_same, used_adds}, Accounted.within}
use Rattle.office_desk.specs.{Answers.{AnswersNext, answer_at, answer_by_model, answer_to, code_of}, Calls.{Leads, OnlyLooks}, Desks.IsSound}
use Rattle.office_desk.specs.Noting.{HasFault, IsNow, NotesFault}
use Rattle.office_desk.specs.Offices.{DeskHolds, HoldsOffice}
use Rattle.office_desk.specs.declared.desk.Desk.{Desk}
use Rattle.office_desk.proofs.{DeliverLemmas.{not_now_surely, notes_none, parties_same}, HoldLemmas.machine_same}
use Rattle.office_archives.specs.{Answering.AnswersClosed, Bringing.{BringsTogether, StandsWith, named_by}}
use Rattle.office_archives.specs.Standing.{IsBeyond, KnowsClosed, NamesNoneAway, StandsBeside}
use Rattle.office_archives.specs.Together.{IsBesideAfter, LeadsTogether, LeavesDelivered, StandTogether, OnlyLooksTogether}
use Rattle.office_archives.proofs.Standing.{answered_left, beyond_answered, beyond_left, machine_is}
use Rattle.office_replies.specs.declared.deliver.Response.TheVariants as response

module _ {S : Type 0} (g : Ghosts S) where
  -- no archive is asked for a number that is not closed
  pub far_open : (old : Desk S g) (sent : List ℕ) (partner number : ℕ) → admission (parties_of old.setup) (interchange_of sent) ≡ Ok (partner, number) → nat_le number (last_closed old.closed partner) ≡ false →
      (list : List Archive) (content : SetupContent) (es : List Event) → StandsBeside g list content es old → IsBeyond g list old sent
  far_open old sent partner number admits is_open list content es stands place is =
      let same : place ≡ (partner, number) = let e = sym is ∙ admits in cc in
      let far = leb-false number (last_closed old.closed partner) is_open in
      subst (λ (q : ℕ × ℕ). archive_of list q.0 q.1 ≡ None) (sym same) (stands.hold.none_beyond partner number (omega (arith, far, stands.knows.numbers partner)))

  -- ---- a fault that was noted

  -- a desk that differs in its last fault stands there too
  pub noted_stands : (list : List Archive) (content : SetupContent) (es : List Event) (old new : Desk S g) → new.conn ≡ old.conn → new.setup ≡ old.setup → new.closed ≡ old.closed → new.beside ≡ old.beside → StandsBeside g list content es old → StandsBeside g list content es new
  noted_stands list content es old new conn setup closed beside stands = record {
    given = stands.given;
    now_is = stands.now_is ∙ ap setup_content (sym setup);
    archived = stands.archived;
    own = stands.own;
    whole = stands.whole;
    parts = stands.parts;
    hold = stands.hold;
    knows = subst (λ k. KnowsClosed (closed_content k) stands.archived) (sym closed) stands.knows;
    rows = stands.rows;
    is_own = stands.is_own;
    away = stands.away;
    lists = stands.lists;
    holds =
        let T = without_lists stands.away (own_terminal stands.archived.stays (machine_after content es).terminal) in
        let R = rows_without_lists stands.away stands.rows in
        subst (λ k. HoldsOffice (closed_content new.closed) (setup_content new.setup) R T (state g k).committed new.beside) (sym conn)
        (subst (λ k. HoldsOffice (closed_content new.closed) (setup_content k) R T (state g old.conn).committed new.beside) (sym setup)
        (subst (λ k. HoldsOffice (closed_content k) (setup_content old.setup) R T (state g old.conn).committed new.beside) (sym closed)
        (subst (HoldsOffice (closed_content old.closed) (setup_content old.setup) R T (state g old.conn).committed) (sym beside) stands.holds)));
  }

module _ {S A : Type 0} (g : Ghosts S) (is_sound : A → Type 0) (are : List Archive → A → Type 0) where
  -- ---- by the desk

  -- a text that is refused is of no number, and names no list
  pub by_desk : (old : Desk S g) (a : A) (sent : List ℕ) (given : Response) (new : Desk S g) → Leads g old sent given new → (fault : Fault) → admission (parties_of old.setup) (interchange_of sent) ≡ Err fault →
      LeadsTogether g is_sound are old a sent given new a
  by_desk old a sent given new leads fault refused = record {
    answers = λ sound whole content es stand. (beyond_answered g stand.list content es old sent given new stand.stands leads sound (far stand.list) (none stand.list content es stand.stands)).0;
    stand = λ sound content es stand.
        record { list = stand.list; these = stand.these; stands = (beyond_answered g stand.list content es old sent given new stand.stands leads sound (far stand.list) (none stand.list content es stand.stands)).1 };
    crash = λ sound clean content es stand. beyond_left g stand.list content es old sent given new stand.stands leads sound clean (far stand.list) (none stand.list content es stand.stands);
    setup = leads.setup;
    closed = leads.closed;
    stays = leads.stays;
    noted = leads.noted;
    these = λ list they. they;
    alone = λ none. leads;
  }
    where
      far : (list : List Archive) → IsBeyond g list old sent
      far list place is = let never : Err fault ≡ Ok place = sym refused ∙ is in absurd cc

      none : (list : List Archive) (content : SetupContent) (es : List Event) (stands : StandsBeside g list content es old) → NamesNoneAway g list content es old stands sent
      none list content es stands place is = let never : Err fault ≡ Ok place = sym refused ∙ is in absurd cc

  -- the lists that a text names were brought back, and then the desk took it in
  module _ (old mid : Desk S g) (a : A) (sent : List ℕ) (partner number : ℕ) (admits : admission (parties_of old.setup) (interchange_of sent) ≡ Ok (partner, number)) (is_open : nat_le number (last_closed old.closed partner) ≡ false) (some : are [] a → ⊥) where
    abbrev named : List ListName
    named = named_by old partner (interchange_of sent)

    module _ (result : Result (Unit {0}) TableFault) (brings : BringsTogether g are old a named result mid) where
      mid_admits : admission (parties_of mid.setup) (interchange_of sent) ≡ Ok (partner, number)
      mid_admits = subst (λ s. admission (parties_of s) (interchange_of sent) ≡ Ok (partner, number)) (sym brings.setup) admits

      mid_open : nat_le number (last_closed mid.closed partner) ≡ false
      mid_open = ap (λ k. nat_le number (last_closed k partner)) brings.closed ∙ is_open

      far : (list : List Archive) (content : SetupContent) (es : List Event) → StandsBeside g list content es mid → IsBeyond g list mid sent
      far = far_open g mid sent partner number mid_admits mid_open

      -- what the text names after the events is what it names by the desk's set-up
      named_after : (list : List Archive) (content : SetupContent) (es : List Event) → StandsBeside g list content es old → lists_after content es partner (interchange_of sent) ≡ named
      named_after list content es stands =
          let same : machine_after content es ≡ machine_of old.setup (machine_after content es).terminal =
          sym (machine_is content es) ∙ ap (λ c. machine_with c (machine_after content es).terminal) stands.now_is ∙ sym (machine_same old.setup (machine_after content es).terminal) in
          ap (λ (m : MachineState). interchange_lists newest m.codes m.kinds partner (interchange_of sent)) same

      none : (list : List Archive) (content : SetupContent) (es : List Event) (was : StandsBeside g list content es old) (there : StandsWith g list content es named old mid was) → NamesNoneAway g list content es mid there.stands sent
      none list content es was there place is =
          let one : (partner, number) ≡ place = let e = sym mid_admits ∙ is in cc in
          subst (λ (q : ℕ × ℕ). AreHere there.stands.away (lists_after content es q.0 (interchange_of sent))) one
          (subst (AreHere there.stands.away) (sym (named_after list content es was)) there.here)

    pub by_open : (brings : BringsTogether g are old a named (Ok tt) mid) (given : Response) (new : Desk S g) → Leads g mid sent given new → LeadsTogether g is_sound are old a sent given new a
    by_open brings given new leads = record {
      answers = λ sound whole content es stand.
          let there = brings.stand (leads.stays sound) stand.list content es stand.these stand.stands in
          (taken sound stand.list content es stand.stands there).0;
      stand = λ sound content es stand.
          let there = brings.stand (leads.stays sound) stand.list content es stand.these stand.stands in
          record { list = stand.list; these = stand.these; stands = (taken sound stand.list content es stand.stands there).1 };
      crash = λ sound clean content es stand.
          let clean_mid = leads.clean clean in
          let sound_mid : IsSound g mid = (clean_mid, brings.opens sound clean_mid) in
          let there = brings.stand sound_mid stand.list content es stand.these stand.stands in
          subst (λ k. LeavesDelivered stand.list (closed_content k) content es sent given (state g new.conn)) brings.closed
          (beyond_left g stand.list content es mid sent given new there.stands leads sound_mid clean (far (Ok tt) brings stand.list content es there.stands) (none (Ok tt) brings stand.list content es stand.stands there));
      setup = leads.setup ∙ brings.setup;
      closed = leads.closed ∙ brings.closed;
      stays = λ sound. brings.stays (leads.stays sound);
      noted = subst (λ last. NotesFault given last new.last_fault) brings.last_fault leads.noted;
      these = λ list they. they;
      alone = λ none. absurd (some none);
    }
      where
        taken : IsSound g new → (list : List Archive) (content : SetupContent) (es : List Event) (was : StandsBeside g list content es old) (there : StandsWith g list content es named old mid was) → Delivers (StandsBeside g list content) (AnswersNext content) es sent given new
        taken sound list content es was there = beyond_answered g list content es mid sent given new there.stands leads sound (far (Ok tt) brings list content es there.stands) (none (Ok tt) brings list content es was there)

    -- they could not be brought back
    pub not_brought : (result : Result (Unit {0}) TableFault) (brings : BringsTogether g are old a named result mid) (new : Desk S g) → RefusedSurely (parties_of old.setup) (interchange_of sent) response.NotNow → new.conn ≡ mid.conn → new.setup ≡ mid.setup → new.closed ≡ mid.closed → new.beside ≡ mid.beside
        → HasFault new.last_fault → LeadsTogether g is_sound are old a sent response.NotNow new a
    not_brought result brings new surely conn setup closed beside fault = record {
      answers = λ sound whole content es stand.
          not_now_surely (parties_in (content_after content es)) (interchange_of sent)
          (subst (λ P. RefusedSurely P (interchange_of sent) response.NotNow) (parties_same old.setup ∙ ap parties_in (sym stand.stands.now_is)) surely);
      stand = λ sound content es stand.
          let there = brings.stand (sound_mid sound) stand.list content es stand.these stand.stands in
          record { list = stand.list; these = stand.these; stands = noted_stands g stand.list content es mid new conn setup closed beside there.stands };
      crash = λ sound clean content es stand.
          λ db left. inl (brings.crash sound (subst (λ (k : Held S). HasCleanDisk (state g k)) conn clean) stand.list content es stand.these stand.stands db (subst (λ (k : Held S). (state g k).may_leave db) conn left));
      setup = setup ∙ brings.setup;
      closed = closed ∙ brings.closed;
      stays = λ sound. brings.stays (sound_mid sound);
      noted = fault;
      these = λ list they. they;
      alone = λ none. absurd (some none);
    }
      where
        sound_mid : IsSound g new → IsSound g mid
        sound_mid sound = subst (λ (k : Held S). HasCleanDisk (state g k) × IsTrue (state g k).is_open) conn sound

  -- ---- by the archives

  module _ (old : Desk S g) (sent : List ℕ) (partner number : ℕ) (admits : admission (parties_of old.setup) (interchange_of sent) ≡ Ok (partner, number))
      (settled : IsSound g old → (db : Trees) → (state g old.conn).may_leave db → db ≡ (state g old.conn).committed.trees) where
    parties_now : (list : List Archive) (content : SetupContent) (es : List Event) → StandsBeside g list content es old → parties_of old.setup ≡ parties_in (content_after content es)
    parties_now list content es stands = parties_same old.setup ∙ ap parties_in (sym stands.now_is)

    is_for : (list : List Archive) (content : SetupContent) (es : List Event) → StandsBeside g list content es old → IsFor content es sent partner number
    is_for list content es stands = subst (λ P. admission P (interchange_of sent) ≡ Ok (partner, number)) (parties_now list content es stands) admits

    -- what a crash leaves of the store, which is not written
    stored : (list : List Archive) (content : SetupContent) (es es' : List Event) (stands : StandsBeside g list content es old) (whole : Rows) → ArePartsAfter content es' stands.archived stands.own whole → AreAway list stands.away content es' stands.own → IsSound g old → (db : Trees) → (state g old.conn).may_leave db
        → IsBesideAfter list (closed_content old.closed) content es' db
    stored list content es es' stands whole parts lists sound db left = record {
      archived = stands.archived;
      own = stands.own;
      whole = whole;
      parts = parts;
      hold = stands.hold;
      knows = stands.knows;
      rows = stands.rows;
      is_own = stands.is_own;
      away = stands.away;
      lists = lists;
      are =
          let R = rows_without_lists stands.away stands.rows in
          subst (StoresRows R) (sym (settled sound db left)) (stores R (state g old.conn).committed stands.holds.has);
    }

    module _ (closed : nat_le number (last_closed old.closed partner) ≡ true) (code : List ℕ) (is_code : code ≡ code_of (parties_of old.setup) partner) where
      number_closed : (list : List Archive) (content : SetupContent) (es : List Event) (stands : StandsBeside g list content es old) → number ≤ stands.archived.last_closed partner
      number_closed list content es stands = let low = leb-true number (last_closed old.closed partner) closed in omega (arith, low, stands.knows.numbers partner)

      -- it adds no row
      adds_none : (list : List Archive) (content : SetupContent) (es : List Event) (stands : StandsBeside g list content es old) → AddsNoRow content es sent stands.whole
      adds_none list content es stands =
          let for = is_for list content es stands in
          let low : 1 ≤ number = (within (parties_in (content_after content es)) (interchange_of sent) partner number for).2 in
          let high = closed_within content es stands.archived stands.own stands.whole partner stands.parts in
          let below = number_closed list content es stands in
          let kept = some_of _ (used_within_run (deliveries_of content es) partner number low (omega (arith, high, below))) in
          used_adds content es stands.whole sent partner number kept.0 stands.parts.after for (stands.parts.after.texts partner number ∙ kept.1)

      away_after : (list : List Archive) (content : SetupContent) (es : List Event) (stands : StandsBeside g list content es old) → AreAway list stands.away content (es ++ delivered sent ∷ []) stands.own
      away_after list content es stands = without_row content es list stands.away stands.own stands.whole sent stands.lists (adds_none list content es stands)

      -- a closed number adds nothing
      parts_after : (list : List Archive) (content : SetupContent) (es : List Event) (stands : StandsBeside g list content es old) → ArePartsAfter content (es ++ delivered sent ∷ []) stands.archived stands.own stands.whole
      parts_after list content es stands =
          (archives_answered content es list stands.archived stands.own stands.whole sent partner number stands.parts stands.hold (is_for list content es stands) (number_closed list content es stands)).parts

      stand_after : (list : List Archive) (content : SetupContent) (es : List Event) (stands : StandsBeside g list content es old) → StandsBeside g list content (es ++ delivered sent ∷ []) old
      stand_after list content es stands = record {
        given = stands.given;
        now_is = now_same content es sent ∙ stands.now_is;
        archived = stands.archived;
        own = stands.own;
        whole = stands.whole;
        parts = parts_after list content es stands;
        hold = stands.hold;
        knows = stands.knows;
        rows = stands.rows;
        is_own = stands.is_own;
        away = stands.away;
        lists = away_after list content es stands;
        holds = subst (DeskHolds g old (rows_without_lists stands.away stands.rows)) (ap (λ (m : MachineState). without_lists stands.away (own_terminal stands.archived.stays m.terminal)) (sym (adds_none list content es stands).machine)) stands.holds;
      }

      pub by_archives : (a b : A) (given : Response) → (is_sound b → (list : List Archive) → are list a → AnswersClosed list partner code number (interchange_of sent) given) → ((list : List Archive) → are list a → are list b) → IsNow given
          → (are [] a → ⊥) → LeadsTogether g is_sound are old a sent given old b
      by_archives a b given answers same now some = record {
        answers = λ sound whole content es stand.
            let stands = stand.stands in
            let for = is_for stand.list content es stands in
            let is : content_of given ≡ answer_by_model code number (answer_model_of content es partner number sent) =
            answers whole stand.list stand.these content es stands.archived stands.own stands.whole sent stands.parts stands.hold refl for (number_closed stand.list content es stands) in
            let named : code ≡ code_of (parties_in (content_after content es)) partner = is_code ∙ ap (λ P. code_of P partner) (parties_now stand.list content es stands) in
            answered content es given now (is ∙ ap (λ c. answer_by_model c number (answer_model_of content es partner number sent)) named ∙ ap (answer_at content es sent) (sym for));
        stand = λ sound content es stand.
            subst (λ later. StandTogether g are content later old b) (sym (added es given now)) (record { list = stand.list; these = same stand.list stand.these; stands = stand_after stand.list content es stand.stands });
        crash = λ sound clean content es stand.
            let stands = stand.stands in
            answered_left stand.list (closed_content old.closed) content es sent given (state g old.conn)
            (λ db left. stored stand.list content es (es ++ delivered sent ∷ []) stands stands.whole (parts_after stand.list content es stands) (away_after stand.list content es stands) sound db left);
        setup = refl;
        closed = refl;
        stays = λ sound. sound;
        noted = notes_none given old.last_fault now;
        these = same;
        alone = λ none. absurd (some none);
      }
        where
          answered : (content : SetupContent) (es : List Event) (given : Response) → IsNow given → content_of given ≡ answer_to content es sent → AnswersNext content es sent given
          answered content es response.NotNow now told = absurd now
          answered content es given now told = told

          added : (es : List Event) (given : Response) → IsNow given → with_answered es sent given ≡ es ++ delivered sent ∷ []
          added es response.NotNow now = absurd now
          added es given now = refl

    -- the archives could not be asked
    pub not_now : (a b : A) (new : Desk S g) → RefusedSurely (parties_of old.setup) (interchange_of sent) response.NotNow → new.conn ≡ old.conn → new.setup ≡ old.setup → new.closed ≡ old.closed → new.beside ≡ old.beside → HasFault new.last_fault →
        ((list : List Archive) → are list a → are list b) → (are [] a → ⊥) → LeadsTogether g is_sound are old a sent response.NotNow new b
    not_now a b new surely conn setup closed beside fault same some = record {
      answers = λ sound whole content es stand.
          not_now_surely (parties_in (content_after content es)) (interchange_of sent) (subst (λ P. RefusedSurely P (interchange_of sent) response.NotNow) (parties_now stand.list content es stand.stands) surely);
      stand = λ sound content es stand. record { list = stand.list; these = same stand.list stand.these; stands = noted_stands g stand.list content es old new conn setup closed beside stand.stands };
      crash = λ sound clean content es stand.
          λ db left. inl (stored stand.list content es es stand.stands stand.stands.whole stand.stands.parts stand.stands.lists sound db (subst (λ k. (state g k).may_leave db) conn left));
      setup = setup;
      closed = closed;
      stays = λ sound. subst (λ (k : Held S). HasCleanDisk (state g k) × IsTrue (state g k).is_open) conn sound;
      noted = fault;
      these = same;
      alone = λ none. absurd (some none);
    }

-- ==== Looking: What a look does to a desk and the archives beside it.

-- ---- a desk that was looked at

module _ {S : Type 0} (g : Ghosts S) (list : List Archive) (content : SetupContent) (es : List Event) (old : Desk S g) (stands : StandsBeside g list content es old) where
  abbrev mine : TerminalState
  mine = without_lists stands.away (own_terminal stands.archived.stays (machine_after content es).terminal)

  abbrev left : Rows
  left = rows_without_lists stands.away stands.rows

  -- it has the same rows and the same set-up
  abbrev pub looked_stands : (new : Desk S g) → IsSound g new → OnlyLooks g old new → StandsBeside g list content es new
  looked_stands new sound looks = record {
    given = stands.given;
    now_is = stands.now_is ∙ ap setup_content (sym looks.setup);
    archived = stands.archived;
    own = stands.own;
    whole = stands.whole;
    parts = stands.parts;
    hold = stands.hold;
    knows = subst (λ k. KnowsClosed (closed_content k) stands.archived) (sym looks.closed) stands.knows;
    rows = stands.rows;
    is_own = stands.is_own;
    away = stands.away;
    lists = stands.lists;
    holds = looks.holds sound left mine stands.holds;
  }

  -- what a crash leaves of rows that are all written
  pub rows_left : (db : Trees) → db ≡ (state g old.conn).committed.trees → IsBesideAfter list (closed_content old.closed) content es db
  rows_left db same = record {
    archived = stands.archived;
    own = stands.own;
    whole = stands.whole;
    parts = stands.parts;
    hold = stands.hold;
    knows = stands.knows;
    rows = stands.rows;
    is_own = stands.is_own;
    away = stands.away;
    lists = stands.lists;
    are = subst (StoresRows left) (sym same) (stores left (state g old.conn).committed stands.holds.has);
  }

-- one look after the other
pub looks_more : {S : Type 0} (g : Ghosts S) (old mid new : Desk S g) → (HasCleanDisk (state g mid.conn) → IsTrue (state g old.conn).is_open → IsTrue (state g mid.conn).is_open) → OnlyLooks g old mid → OnlyLooks g mid new → OnlyLooks g old new
looks_more g old mid new opens first second = record {
  same = λ sound content es stands. second.same sound content es (first.same (second.stays sound) content es stands);
  holds = λ sound rows terminal holds. second.holds sound rows terminal (first.holds (second.stays sound) rows terminal holds);
  committed = λ sound. second.committed sound ∙ first.committed (second.stays sound);
  setup = second.setup ∙ first.setup;
  closed = second.closed ∙ first.closed;
  crash = λ sound clean schema db left.
      let clean_mid = second.clean clean in
      let sound_mid : IsSound g mid = (clean_mid, opens clean_mid sound.1) in
      first.crash sound clean_mid schema db (second.crash sound_mid clean (ap (λ (d : Database). d.schema) (first.committed sound_mid) ∙ schema) db left);
  stays = λ sound. first.stays (second.stays sound);
  clean = λ clean. first.clean (second.clean clean);
}

module _ {S A : Type 0} (g : Ghosts S) (are : List Archive → A → Type 0) where
  -- the desk was looked at, and the archives are those that they were
  pub looks_on : (old new : Desk S g) (a b : A) → (IsSound g old → (db : Trees) → (state g old.conn).may_leave db → db ≡ (state g old.conn).committed.trees) → OnlyLooks g old new → ((list : List Archive) → are list a → are list b)
      → OnlyLooksTogether g are old a new b
  looks_on old new a b settled looks same = record {
    same = λ sound content es stand.
        let stands = stand.stands in
        record {
          opening = content;
          says = record { terminal = refl; codes = refl; partners = refl; blocks = refl; limit = refl };
          stand = record { list = stand.list; these = same stand.list stand.these; stands = looked_stands g stand.list content es old stands new sound looks };
        };
    crash = λ sound clean content es stand db left.
        let stands = stand.stands in
        rows_left g stand.list content es old stands db (settled sound db (looks.crash sound clean stands.holds.has.schema db left));
    closed = looks.closed;
    stays = looks.stays;
    these = same;
  }

  -- and then a fault was noted
  pub looks_noted : (old mid new : Desk S g) (a b : A) → OnlyLooksTogether g are old a mid b → new.conn ≡ mid.conn → new.setup ≡ mid.setup → new.closed ≡ mid.closed → new.beside ≡ mid.beside → OnlyLooksTogether g are old a new b
  looks_noted old mid new a b looks conn setup closed beside =
      let sound_mid : IsSound g new → IsSound g mid = λ sound. subst (λ (k : Held S). HasCleanDisk (state g k) × IsTrue (state g k).is_open) conn sound in
      record {
        same = λ sound content es stand.
            let alike = looks.same (sound_mid sound) content es stand in
            let there = alike.stand in
            record { opening = alike.opening; says = alike.says; stand = record { list = there.list; these = there.these; stands = noted_stands g there.list alike.opening es mid new conn setup closed beside there.stands } };
        crash = λ sound clean content es stand db left. looks.crash sound (subst (λ (k : Held S). HasCleanDisk (state g k)) conn clean) content es stand db (subst (λ (k : Held S). (state g k).may_leave db) conn left);
        closed = closed ∙ looks.closed;
        stays = λ sound. looks.stays (sound_mid sound);
        these = looks.these;
      }
