-- The report on a container as JSON: an object with each member always, null where there is nothing.
use Rattle.std.specs.Prelude.{[], ◌∷◌, codes}
use Rattle.serde_json.specs.Data.{Data, null, string, number, unsigned, object, member, no_members}
use Rattle.edi_syntax.specs.Moments.{moment_text}
use Rattle.terminal_core.specs.State.{LineContent, LineKey}
use Rattle.office_reports.specs.{Containers.{ContainerContent, StayContent}, Names.slot_name, Passages.PassageContent}
use Rattle.office_report_data.specs.{Archives.{ToldContent, told_data}, Rows.rows_data}
use Rattle.office_report_data.specs.Words.{container_or_null, load_word, number_or_null, or_null, side_word, text_or_null, way_word}

-- an open line that names the container
abbrev pub line_data : LineKey × LineContent → Data
line_data ((vessel ∷ voyage ∷ side ∷ container ∷ []), line) =
    object (member (codes "port") (text_or_null line.port) (member (codes "side") (string (side_word side))
    (member (codes "vessel") (string vessel) (member (codes "voyage") (string voyage) no_members))))
line_data (other, line) = null

abbrev pub passage_data : PassageContent → Data
passage_data passage =
    object (member (codes "moment") (string (moment_text passage.moment))
    (member (codes "number") (number (unsigned passage.number)) (member (codes "partner") (string passage.partner)
    (member (codes "way") (string (way_word passage.way)) no_members))))

abbrev pub stay_data : StayContent → Data
stay_data stay =
    object (member (codes "booking") (text_or_null stay.booking) (member (codes "gross") (number_or_null stay.kilos)
    (member (codes "lists") (rows_data line_data stay.lists)
    (member (codes "slot") (string (slot_name stay.slot)) (member (codes "under") (container_or_null stay.blocker) no_members)))))

abbrev pub container_object : ContainerContent → ToldContent
container_object report = record {
  key = codes "container";
  value = string report.container;
  others =
      member (codes "load") (string (load_word report.is_laden))
      (member (codes "passage") (or_null passage_data report.passage) (member (codes "size_type") (string report.size_type)
      (member (codes "stay") (or_null stay_data report.stay) (member (codes "visit") (number (unsigned report.visit)) no_members))));
}

abbrev pub container_data : ContainerContent → Data
container_data report = told_data (container_object report)
