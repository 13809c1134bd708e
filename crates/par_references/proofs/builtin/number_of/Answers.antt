use Rattle.std.proofs.Common.{sym, arith}
use Rattle.par_references.proofs.Digits.{long-none}
use Rattle.par_references.proofs.builtin.number_of.Goals as goal

pub returns-then-digits-gt-MOST_DIGITS : goal.returns-then-digits-gt-MOST_DIGITS
returns-then-digits-gt-MOST_DIGITS c = sym (long-none c.args.digits.now (omega arith))
