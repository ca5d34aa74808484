use Rattle.std.proofs.Common.{◌≡◌, Ok, Err, arith}
use Rattle.office_commands.{specs.Ending.most_turns, proofs.Leaving.{answered_in_memory, left_by, left_for_turns, failed_by}}
use Rattle.office_commands.proofs.demo.run_demo.Goals as goal

-- The opening is the desk as it was opened, to which nothing has been delivered. A store in memory is clean.
pub returns-in-Ok-run_stream-clause-ok : goal.returns-in-Ok-run_stream-clause-ok
returns-in-Ok-run_stream-clause-ok g c =
    let run_is : c.run_stream.result ≡ Ok c.in-Ok-run_stream.worst = let e = c.in-Ok-run_stream.is in cc in record {
      opening = c.in-Ok.desk;
      desk = c.run_stream.new.desk;
      opens = c.in-Ok.ensures;
      streamed = rw run_is at
          (answered_in_memory _ c.in-Ok.desk c.run_stream.new.desk c.run_stream.result c.in-Ok.ensures c.run_stream.ensures.streams);
    }

pub returns-clause-err : goal.returns-clause-err
returns-clause-err g c =
    let is : c.run_stream.result ≡ Err c.in-Err-run_stream.fault = let e = c.in-Err-run_stream.is in cc in
    left_by _ c.in-Ok.desk c.run_stream.new.desk c.in-Err-run_stream.fault c.in-Ok.ensures
    (rw is at (answered_in_memory _ c.in-Ok.desk c.run_stream.new.desk c.run_stream.result c.in-Ok.ensures c.run_stream.ensures.streams))

pub returns-clause-failed : goal.returns-clause-failed
returns-clause-failed g c = failed_by _ _ _ _ c.in-Err-run_stream.fault _ _ c.in-Err-run_stream.ensures.failed

pub returns-clause-turns : goal.returns-clause-turns
returns-clause-turns g c is = left_for_turns c.in-Err-run_stream.fault most_turns (omega arith) _ _ _ _ _ _ c.in-Err-run_stream.ensures.failed is
