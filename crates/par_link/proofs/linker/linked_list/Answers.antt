use Rattle.std.proofs.Common.{◌<◌, length, arith}
use Rattle.std.proofs.lemmas.Bool.{lt-ltb}
use Rattle.par_link.proofs.Ordering.{broken-many}
use Rattle.par_link.proofs.linker.linked_list.Goals as goal

pub returns-then-files-gt-MOST_FILES-clause-broken
    : goal.returns-then-files-gt-MOST_FILES-clause-broken
returns-then-files-gt-MOST_FILES-clause-broken c =
    let many : 128 < length c.args.files.now = omega arith in
    broken-many c.args.files.now (lt-ltb 128 (length c.args.files.now) many)
