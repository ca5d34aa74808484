-- The CONTRL of a reply (our own).
use Rattle.std.specs.Prelude.{ℕ, List, ◌++◌, codes, Option, option_map, option_and_then}
use Rattle.serde_json.specs.{Data.Data, Find.{get, as_str}, Read.read}

-- the text of a reply's member, if the reply has one
abbrev pub contrl_of : Data → Option (List ℕ)
contrl_of reply = option_and_then as_str (get (codes "contrl") reply)

-- the CONTRL on one line, if the text is that of a reply
abbrev pub contrl_in : List ℕ → Option (List ℕ)
contrl_in reply = option_map (λ contrl. contrl ++ codes "\n") (option_and_then contrl_of (read reply))
