-- Named lists as the code has them.
use Rattle.std.specs.Prelude.{List, [], ◌∷◌, Option, None, Some}
use Rattle.edi_messages.specs.Owned.{call_content}
use Rattle.office_parts.specs.{OwnLists.{ListName, list_name}, declared.naming.NamedList.NamedList}

abbrev pub named_list_content : NamedList → ListName
named_list_content list = list_name (call_content list.call) list.side

abbrev pub names_if_any : Option ListName → List ListName
names_if_any None = []
names_if_any (Some list) = list ∷ []
