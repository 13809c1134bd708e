use Rattle.std.proofs.Common.{◌∙◌, ap, sym, arith}
use Rattle.std.specs.List.{list_any}
use Rattle.par_resolved.specs.declared.limits.TheConstants.{MOST_POLICIES}
use Rattle.par_resolved.specs.Numbered.{same_policy}
use Rattle.par_parts.specs.Gathered.{all_of}
use Rattle.par_limits.proofs.Within.{stays_full, stays, grows}
use Rattle.par_limits.proofs.distinct.push_new.Goals as goal

pub returns-then-len-gt-MOST_POLICIES : goal.returns-then-len-gt-MOST_POLICIES
returns-then-len-gt-MOST_POLICIES c = stays_full MOST_POLICIES _ _ (omega arith)

pub returns-then-is_there : goal.returns-then-is_there
returns-then-is_there c =
    let is =
    ap (λ rs. list_any (λ f. same_policy c.args.entry.now.policy f.policy) (all_of rs))
    (sym c.as_slice.ensures.value) ∙ sym c.is_there.ensures ∙ c.if-is_there.true in
    stays MOST_POLICIES _ _ (omega arith) is

pub returns : goal.returns
returns c =
    let is =
    ap (λ rs. list_any (λ f. same_policy c.args.entry.now.policy f.policy) (all_of rs))
    (sym c.as_slice.ensures.value) ∙ sym c.is_there.ensures ∙ c.if-is_there.false in
    ap all_of c.in_ok-push.ensures.items ∙ grows MOST_POLICIES _ c.args.entry (omega arith) is
