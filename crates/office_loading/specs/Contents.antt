-- What rows that were read say, whatever memory holds them.
use Rattle.std.specs.Prelude.{map, string_bytes}
use Rattle.terminal_core.specs.{declared.change.Place.Place, Rows.visit_content}
use Rattle.office_rows.specs.{Rows.{Partner, PlaceContent, Setting, listing_content}, Opened.{NumberKept, OpenedRows}}
use Rattle.office_loading.specs.{declared.numbers.NumberRow.NumberRow, declared.restoring.OpenedTables.OpenedTables, declared.numbers.PartnerRow.PartnerRow}
use Rattle.office_loading.specs.declared.settings.Setting as read

abbrev pub partner_content : PartnerRow → Partner
partner_content row = record { id = row.id; code = string_bytes row.code; kind = row.kind; next = row.next }

abbrev pub number_content : NumberRow → NumberKept
number_content row = record { partner = row.partner; number = row.number; is_taken = row.is_taken }

abbrev pub place_content : Place → PlaceContent
place_content row = record { container = row.container; visit = row.visit; slot = row.slot }

abbrev pub setting_content : read.Setting → Setting
setting_content row = record { name = string_bytes row.name; value = string_bytes row.value }

abbrev pub opened_rows : OpenedTables → OpenedRows
opened_rows tables = record {
  partners = map partner_content tables.partners.items;
  numbers = map number_content tables.numbers.items;
  visits = map visit_content tables.visits.items;
  places = map place_content tables.places.items;
  lines = map listing_content tables.lines.items;
  settings = map setting_content tables.settings.items;
  blocks = tables.blocks.items;
}
