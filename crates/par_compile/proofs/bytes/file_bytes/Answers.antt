use Rattle.par_erase.specs.Shown.{class_info, table_of}
use Rattle.par_compile.specs.Own.{own_members}
use Rattle.par_compile.proofs.Laid.{file_spelled}
use Rattle.par_compile.proofs.Chosen.{long_or_short}
use Rattle.par_compile.proofs.bytes.file_bytes.Goals as goal

pub short_bytes-bytes-requires : goal.short_bytes-bytes-requires
short_bytes-bytes-requires c = λ short.
    file_spelled c.args.frames (table_of c.args.plain.now) (class_info c.args.class.now)
    (own_members c.args.plain.now c.args.class.now) c.in_ok-file.file c.in_ok-file.ensures short

pub returns : goal.returns
returns c =
    long_or_short c.args.frames (table_of c.args.plain.now) (class_info c.args.class.now)
    (own_members c.args.plain.now c.args.class.now) c.in_ok-file.file c.in_ok-file.ensures
    c.short_bytes-bytes.result c.short_bytes-bytes.ensures
