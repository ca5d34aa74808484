use Rattle.std.{specs.Option.option_map, proofs.Common.{ap, ◌∙◌}}
use Rattle.edi_messages.specs.Message.{reading}
use Rattle.edi_syntax.specs.Frames.{message}
use Rattle.office_parts.{specs.Named.{named_list_content, names_if_any}, proofs.BringingLemmas.{rejected_names_none, if_both}}
use Rattle.office_parts.proofs.naming.list_in_frame.Goals as goal

pub returns-in-Err : goal.returns-in-Err
returns-in-Err c =
    if_both c.none_if_rejected.result _ _ _
    (λ named none is. ap (λ o. names_if_any (option_map named_list_content o)) none
    ∙ rejected_names_none (reading c.args.codes.now c.args.opened (message c.args.frame.now)) c.in-Err.fault c.in-Err.ensures.err is)
    c.none_if_rejected.ensures.none c.none_if_rejected.ensures.rejects
