-- How written locks and policies are numbered.
use Rattle.std.specs.Prelude.{List}
use Rattle.par_policy.specs.declared.clauses.Clause.{Clause}
use Rattle.par_type_rules.specs.TypedStmts.{Written}
use Rattle.par_resolved.specs.declared.known.Known as code
use Rattle.par_resolved.specs.Seen.{seen, known_seen}
use Rattle.par_resolved.specs.Numbers.{lock_number}
use Rattle.par_resolved.specs.Policies.{policy_of}
use Rattle.par_resolved.specs.Numbered.{policy_number}
use Rattle.par_annotation.specs.declared.written.Numbering.{Numbering}

-- locks by the numbers of the program, policies by their places among these
abbrev pub written_in : code.Known → List (List Clause) → Written
written_in known policies = record {
  lock = lock_number (seen known.numbers);
  policy = λ e. policy_number policies (policy_of (known_seen known) e);
}

abbrev pub written_by : Numbering → Written
written_by n = written_in n.known n.policies.now
