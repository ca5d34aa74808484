use Rattle.edi_messages.specs.Owned.{entry_content}
use Rattle.terminal_core.proofs.Open.{settled_there, unsettled_there, settled_first, unsettled_first}
use Rattle.terminal_core.proofs.change.settle.Goals as goal

pub returns-in-Ok-clause-ok : goal.returns-in-Ok-clause-ok
returns-in-Ok-clause-ok c =
    settled_there c.args.yard.now c.place.new.self (entry_content c.args.entry.now) c.length-length.result c.in-Some.slot (c.requires.plan, c.requires.sound) c.length-length.ensures c.in-Some.is c.in-Ok.ensures.answer

pub returns-in_ok-refusal-in-Err-clause-ok : goal.returns-in_ok-refusal-in-Err-clause-ok
returns-in_ok-refusal-in-Err-clause-ok c =
    unsettled_there c.args.yard.now (entry_content c.args.entry.now) c.length-length.result c.in-Some.slot c.in-Err.fault _ (c.requires.plan, c.requires.sound) c.length-length.ensures c.in-Some.is
    c.in-Err.ensures.answer c.in_ok-refusal-in-Err.ensures.ok

pub returns-in-Ok-place_first-clause-ok : goal.returns-in-Ok-place_first-clause-ok
returns-in-Ok-place_first-clause-ok c =
    settled_first c.args.yard.now c.place_first.new.self (entry_content c.args.entry.now) c.length-length.result c.in-Ok-place_first.slot (c.requires.plan, c.requires.sound) c.length-length.ensures c.in-None.is
    c.in-Ok-place_first.ensures.answer

pub returns-in_ok-refusal-in-Err-place_first-clause-ok : goal.returns-in_ok-refusal-in-Err-place_first-clause-ok
returns-in_ok-refusal-in-Err-place_first-clause-ok c =
    unsettled_first c.args.yard.now (entry_content c.args.entry.now) c.length-length.result c.in-Err-place_first.fault _ (c.requires.plan, c.requires.sound) c.length-length.ensures c.in-None.is
    c.in-Err-place_first.ensures.answer c.in_ok-refusal-in-Err-place_first.ensures.ok
