use Rattle.std.proofs.Common.{refl}
use Rattle.par_io.specs.HostFolder.{counts_of}
use Rattle.par_io.proofs.Counted.{causes_of_read, causes_of_write, always_on_ok, always_if_ok}
use Rattle.par_io.proofs.host_folder.HostFolderFolder.TheImpl.Goals as goal

pub read-tells : goal.read-tells
read-tells g c =
    let causes =
    causes_of_read c.result (counts_of c.args.self.now)
    (counts_of c.new.self.now) c.ensures.answers in
    record {
      kept = refl;
      counted = c.ensures.counted;
      none_falls = causes.none_falls;
      short = c.ensures.short;
      found = always_if_ok _ c.result (λ bytes. tt);
      absent_counts = causes.absent;
      absent = λ absent. tt;
      long_counts = causes.long;
      long = λ long. tt;
      failed = causes.failed;
      faults_stand = λ alone. causes.faults_stand;
    }

pub write-tells : goal.write-tells
write-tells g c =
    let causes =
    causes_of_write c.result (counts_of c.args.self.now)
    (counts_of c.new.self.now) c.ensures.answers in
    record {
      counted = c.ensures.counted;
      none_falls = causes.none_falls;
      written = always_on_ok c.result tt;
      failed_counts = causes.failed;
      failed = λ failed. tt;
      faults_stand = λ alone. causes.faults_stand;
      memory = λ lacks. refl;
    }
