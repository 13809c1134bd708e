use Rattle.std.proofs.Common.{rules, of_calls}
use Rattle.par_erase.specs.Shown.{class_info, table_of}
use Rattle.par_compile.specs.Own.{own_members}
use Rattle.par_compile.proofs.Chosen.{own-bytes}
use Rattle.par_compile.proofs.bytes.class_bytes.Goals as goal

pub returns : goal.returns
returns c =
    own-bytes (table_of c.args.plain.now) (class_info c.args.class.now)
    (own_members c.args.plain.now c.args.class.now) _ (λ frames made is. search (rules, of_calls))
    c.with_or_without.result c.with_or_without.ensures
