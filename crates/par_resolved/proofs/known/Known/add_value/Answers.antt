use Rattle.std.proofs.Common.{List, Option, is_ok, sym, subst}
use Rattle.par_typed.specs.par_policy.declared.clauses.Clause.{Clause}
use Rattle.par_resolved.specs.Read.{AreRead, known_by}
use Rattle.par_resolved.proofs.Earlier.{all_stay_if}
use Rattle.par_resolved.proofs.known.Known.add_value.Goals as goal

-- where nothing more is read
pub invariant_of-self : goal.invariant_of-self
invariant_of-self c =
    let self = c.args.self.now in
    let k = known_by self.numbers self.names self.values.items in
    record { told = subst (AreRead k) (sym c.in_err-push_read.ensures.kept) self.told }

-- where it is read, whether its value is known more or not
pub invariant_of-self-2 : goal.invariant_of-self-2
invariant_of-self-2 c =
    let self = c.args.self.now in
    let k = known_by self.numbers self.names self.values.items in
    record {
      told =
          subst
          (λ (vs : List (Option (List Clause))).
          AreRead (known_by self.numbers self.names vs) c.push_read.new.read.items)
          (sym c.push.ensures.items)
          (all_stay_if k (is_ok c.push.result) c.args.value c.push_read.new.read.items
          (c.in_ok-push_read.ensures.still k self.told c.requires));
    }
