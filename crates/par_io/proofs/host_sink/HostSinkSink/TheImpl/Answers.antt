use Rattle.std.proofs.Common.{refl, []}
use Rattle.par_io.proofs.Counted.{causes_of_put, always_on_ok, always_on_err}
use Rattle.par_io.proofs.host_sink.HostSinkSink.TheImpl.Goals as goal

pub put-tells : goal.put-tells
put-tells g c =
    let causes =
    causes_of_put c.result c.args.self.now.faults c.new.self.now.faults c.ensures.no_fault
    c.ensures.fault in
    record {
      counted = c.ensures.counted;
      faults_never_fall = causes.never_falls;
      put = always_on_ok c.result refl;
      failed_counts = causes.failed;
      faults_stand = λ alone. c.ensures.no_fault;
      failed = always_on_err c.result ([], c.args.bytes.now, refl, refl);
    }
