-- What the texts that read mean where visits have no weight.
use Rattle.std.proofs.Common.{◌≡◌, ℕ, List, [], ◌∷◌, codes, false, refl}
use Rattle.sqlite.{specs.{Term.{Term, col, lit}, Command.TheVariants.Select, Listing.{understood, reads_listing}}, proofs.Callers.{IsPlain, command_of}}
use Rattle.sqlite_tied.specs.Compute.{everything}
use Rattle.office_rows.specs.Values.{number_value}
use Rattle.office_rows.specs.Layouts.{bare_schema}
use Rattle.office_rows.proofs.WriteLemmas.{rows_of}
use Rattle.office_rows.proofs.Reading as texts

pub select_partner_is : (command_of (understood bare_schema texts.select_partner) ≡ Select (record { lets = []; body = record (rows_of 0 [] texts.select_partner_shown) { order = texts.select_partner_order } }) texts.select_partner_names) × (reads_listing bare_schema texts.select_partner ≡ false)
unfolding understood everything
select_partner_is = (refl, refl)

pub select_partner_plain : IsPlain (understood bare_schema texts.select_partner)
unfolding understood everything
select_partner_plain = (refl, refl)

pub select_interchange_is : (command_of (understood bare_schema texts.select_interchange) ≡ Select (record { lets = []; body = record (rows_of 2 [] texts.select_interchange_shown) { order = texts.select_interchange_order } }) texts.select_interchange_names) × (reads_listing bare_schema texts.select_interchange ≡ false)
unfolding understood everything
select_interchange_is = (refl, refl)

pub select_interchange_plain : IsPlain (understood bare_schema texts.select_interchange)
unfolding understood everything
select_interchange_plain = (refl, refl)

pub select_place_is : (command_of (understood bare_schema texts.select_place) ≡ Select (record { lets = []; body = record (rows_of 5 [] texts.select_place_shown) { order = texts.select_place_order } }) texts.select_place_names) × (reads_listing bare_schema texts.select_place ≡ false)
unfolding understood everything
select_place_is = (refl, refl)

pub select_place_plain : IsPlain (understood bare_schema texts.select_place)
unfolding understood everything
select_place_plain = (refl, refl)

pub select_listed_is : (command_of (understood bare_schema texts.select_listed) ≡ Select (record { lets = []; body = record (rows_of 9 [] texts.select_listed_shown) { order = texts.select_listed_order } }) texts.select_listed_names) × (reads_listing bare_schema texts.select_listed ≡ false)
unfolding understood everything
select_listed_is = (refl, refl)

pub select_listed_plain : IsPlain (understood bare_schema texts.select_listed)
unfolding understood everything
select_listed_plain = (refl, refl)

pub select_setting_is : (command_of (understood bare_schema texts.select_setting) ≡ Select (record { lets = []; body = record (rows_of 11 [] texts.select_setting_shown) { order = texts.select_setting_order } }) texts.select_setting_names) × (reads_listing bare_schema texts.select_setting ≡ false)
unfolding understood everything
select_setting_is = (refl, refl)

pub select_setting_plain : IsPlain (understood bare_schema texts.select_setting)
unfolding understood everything
select_setting_plain = (refl, refl)

pub select_block_is : (command_of (understood bare_schema texts.select_block) ≡ Select (record { lets = []; body = record (rows_of 13 [] texts.select_block_shown) { order = texts.select_block_order } }) texts.select_block_names) × (reads_listing bare_schema texts.select_block ≡ false)
unfolding understood everything
select_block_is = (refl, refl)

pub select_block_plain : IsPlain (understood bare_schema texts.select_block)
unfolding understood everything
select_block_plain = (refl, refl)

pub select_kept_is : (command_of (understood bare_schema texts.select_kept) ≡ Select (record { lets = []; body = rows_of 2 texts.select_kept_tests texts.select_kept_shown }) texts.select_kept_names) × (reads_listing bare_schema texts.select_kept ≡ false)
unfolding understood everything
select_kept_is = (refl, refl)

pub select_kept_plain : IsPlain (understood bare_schema texts.select_kept)
unfolding understood everything
select_kept_plain = (refl, refl)

-- ---- visits, each with 0 for its weight

abbrev pub select_visit : List ℕ
select_visit = codes "SELECT visit, box, size, laden, booking, in_by, in_partner, in_number, in_at, in_slot, out_by, out_partner, out_number, out_at, 0 AS kilos FROM visit ORDER BY visit"

abbrev pub select_visit_shown : List Term
select_visit_shown = col 1 0 ∷ col 1 2 ∷ col 1 3 ∷ col 1 4 ∷ col 1 5 ∷ col 1 6 ∷ col 1 7 ∷ col 1 8 ∷ col 1 9 ∷ col 1 10 ∷ col 1 11 ∷ col 1 12 ∷ col 1 13 ∷ col 1 14 ∷ lit (number_value 0) ∷ []

pub select_visit_is : (command_of (understood bare_schema select_visit) ≡ Select (record { lets = []; body = record (rows_of 4 [] select_visit_shown) { order = texts.select_visit_order } }) texts.select_visit_names) × (reads_listing bare_schema select_visit ≡ false)
unfolding understood everything
select_visit_is = (refl, refl)

pub select_visit_plain : IsPlain (understood bare_schema select_visit)
unfolding understood everything
select_visit_plain = (refl, refl)
