use Rattle.std.proofs.Common.{inl, inr, sym, ap, ◌∙◌}
use Rattle.office_closing.specs.Register.{register_content}
use Rattle.office_loading.specs.Closed.{closed_content}
use Rattle.office_commands.{specs.Printing.{PrintsOf, PrintsTexts}, proofs.{KeptTextLemmas.prints_of, TextLemmas.printed_alone}}
use Rattle.office_commands.proofs.OpenLemmas.{closes_nothing, empty_if, loaded_as, of_that_day, of_that_terminal, opened_over, opened_whole, opens_at, opens_on}
use Rattle.office_commands.proofs.texts.print_loaded.Goals as goal

-- Nothing was put away: the store shows what its files held, and was only read.
pub returns-then-names_none : goal.returns-then-names_none
returns-then-names_none g c found image shows loaded =
    let was = c.args.loaded in
    let names = register_content was.register in
    let made = c.into_desk-desk in
    let opened = made.result in
    let its = loaded_as g.S.Store found c.args.looked.inner.conn was.closed was.setup was.there opened made.ensures.conn made.ensures.closed made.ensures.setup loaded in
    let none = empty_if names.archives (sym c.names_none.ensures ∙ c.if-names_none.true) in
    let whole = opened_whole g.S.Store found opened was.there its made.ensures.beside (λ sound db left. g.met.S.Store.settled opened.conn.store db sound.1 left) (ap closed_content made.ensures.closed ∙ was.closed_is ∙ closes_nothing names was.sound none) in
    let from = c.args.from in
    let old = g.W.Write.contents c.args.writer.now.inner in
    let port = c.print_kept.new.writer in
    let new = g.W.Write.contents port.inner in
    let does = c.print_kept.ensures in
    let opens = opens_on g.S.Store image found opened shows whole.over in
    record {
      opened = opened;
      names = names;
      opens = opens;
      printed = inl (
        none,
        printed_alone g.S.Store image opened c.print_kept.result.0 opens
            (λ stored. PrintsTexts from stored old new port.failed port.flushed) (λ db. PrintsOf from db old new port.failed port.flushed)
            (prints_of from old new port.failed port.flushed)
            c.print_kept.result.1 does.reads does.prints (λ sound. does.fault sound.0 sound.1) (opens_at g.S.Store image found opened shows whole),
      );
    }

pub returns : goal.returns
returns g c found image shows loaded =
    let was = c.args.loaded in
    let made = c.into_desk-desk in
    let opened = made.result in
    let its = loaded_as g.S.Store found c.args.looked.inner.conn was.closed was.setup was.there opened made.ensures.conn made.ensures.closed made.ensures.setup loaded in
    record {
      opened = opened;
      names = register_content was.register;
      opens = opens_on g.S.Store image found opened shows (opened_over g.S.Store found opened was.there its made.ensures.beside (λ sound db left. g.met.S.Store.settled opened.conn.store db sound.1 left));
      printed = inr (record {
        shelf = c.shelf_of-shelf.result;
        beside = record { sound = was.sound; closed = ap closed_content made.ensures.closed ∙ was.closed_is; of_day = of_that_day (register_content was.register) opened was.there made.ensures.beside c.requires.of_day; of_terminal = of_that_terminal (register_content was.register) opened was.setup made.ensures.setup c.requires.of_terminal; these = c.shelf_of-shelf.ensures };
        prints = c.print_journal.ensures.prints;
        reads = c.print_journal.ensures.reads;
      });
    }

pub print_journal-requires : goal.print_journal-requires
print_journal-requires g c = record { sound = c.args.loaded.sound }
