-- What the data of a rule means.
use Rattle.std.specs.Prelude.{ℕ, cond, Option, Some, None, List, [], ◌∷◌}
use Rattle.std.specs.Option.{option_copied}
use Rattle.par_policy.specs.Numbers.{has}
use Rattle.par_bits.specs.Sets.{Set, none, adding}
use Rattle.par_typed.specs.declared.table.Table.{Table}
use Rattle.par_typed.specs.Shown.{all_shown}
use Rattle.par_typed.specs.Plain.{TExps}
use Rattle.par_nodes.specs.par_program_laws.Declares.{Method, method_of}
use Rattle.par_nodes.specs.par_program_laws.Rules.{Entry, After, Tested}
use Rattle.par_nodes.specs.par_program_laws.Body.{past, args_past, args_tested}
use Rattle.par_nodes.specs.Seen.{seen_kind}
use Rattle.par_check_laws.specs.Asked as asked
use Rattle.par_check_laws.specs.Checks.{points_past}
use Rattle.par_asked.specs.declared.check.Locks as code_locks
use Rattle.par_asked.specs.declared.check.Locks.TheVariants as locks
use Rattle.par_asked.specs.declared.check.Way as code_way
use Rattle.par_asked.specs.declared.check.Way.TheVariants as way
use Rattle.par_asked.specs.declared.check.Condition as code_condition
use Rattle.par_asked.specs.declared.check.Condition.TheVariants as condition
use Rattle.par_asked.specs.declared.check.Check.{Check}
use Rattle.par_asked.specs.declared.ask.Home.{Home}

abbrev pub seen_locks : code_locks.Locks → Set
seen_locks locks.Nothing = none
seen_locks (locks.One lock) = adding none lock
seen_locks (locks.All set) = has set.now

-- the spot behind the arguments of a call
abbrev pub called_at : ℕ → Option ℕ → TExps → asked.Spot
called_at p None es =
    record { point = p; parts = points_past [] es; from = args_past Entry es }
called_at p (Some of) es =
    record { point = p; parts = points_past (of ∷ []) es; from = args_tested es }

abbrev pub seen_spot : ℕ → code_way.Way → asked.Spot
seen_spot p way.Entry = record { point = p; parts = []; from = Entry }
seen_spot p (way.Behind part) = record { point = p; parts = part ∷ []; from = past }
seen_spot p (way.Written value of sure) =
    record { point = p; parts = value ∷ of ∷ []; from = cond sure past (Tested 1 past) }
seen_spot p (way.Called of args) = called_at p of (all_shown args.now)
seen_spot p (way.Left kind) =
    record { point = p; parts = p ∷ []; from = After 0 (seen_kind kind) }

abbrev pub seen_condition : code_condition.Condition → asked.Condition
seen_condition (condition.Open locks) = asked.Open (seen_locks locks)
seen_condition (condition.Released value policy) = asked.Released value policy
seen_condition (condition.Worth value policy) = asked.Worth value policy
seen_condition (condition.Joined value policy) = asked.Joined value policy
seen_condition (condition.Context policy) = asked.Context policy
seen_condition (condition.Effect effect policy) = asked.Effect effect policy
seen_condition (condition.Among locks those) = asked.Among (seen_locks locks) (seen_locks those)
seen_condition condition.Never = asked.Never

abbrev pub seen_check : Check → asked.Check
seen_check c = record {
  rule = c.rule;
  at = c.at;
  spot = seen_spot c.point c.way;
  condition = seen_condition c.condition;
}

unfoldable pub seen_checks : List Check → List asked.Check
seen_checks [] = []
seen_checks (c ∷ cs) = seen_check c ∷ seen_checks cs

-- the method around, and the table
abbrev pub own : Home → Method
own home = method_of (option_copied home.own)

abbrev pub table : Home → Table
table home = home.table.now
