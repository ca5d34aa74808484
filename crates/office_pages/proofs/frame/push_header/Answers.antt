use Rattle.std.proofs.{Common.{◌++◌, ◌∷◌, [], ◌∙◌, codes, string_bytes}, lemmas.Result.on_ok_weaker}
use Rattle.office_pages.specs.{Frame.header_pieces, Pieces.{Markup, pieces_text}}
use Rattle.office_pages.proofs.frame.push_header.Goals as goal

pub returns : goal.returns
unfolding header_pieces
returns c =
    on_ok_weaker c.push_pieces.result
    (λ e. e ∙ (λ i. string_bytes c.args.page.now ++ pieces_text
    (Markup (codes "</title>\n</head>\n<body>\n<header>\n<div>\n<nav>\n<a href='/'") ∷ Markup (c.mark.ensures i)
    ∷ Markup (codes ">Start</a>\n<a href='/pages/yard'") ∷ Markup (c.mark-2.ensures i)
    ∷ Markup (codes ">Yard</a>\n<a href='/pages/blocks'") ∷ Markup (c.mark-3.ensures i)
    ∷ Markup (codes ">Blocks</a>\n<a href='/pages/picture'>Picture</a>\n<a href='/pages/calls'") ∷ Markup (c.mark-4.ensures i)
    ∷ Markup (codes ">Calls</a>\n<a href='/pages/partners'") ∷ Markup (c.mark-5.ensures i)
    ∷ Markup (codes ">Partners</a>\n") ∷ Markup (c.finding.ensures i) ∷ [])))
    c.push_pieces.ensures
