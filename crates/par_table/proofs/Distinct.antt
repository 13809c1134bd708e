-- Where policies are within their limit, the distinct ones that are looked at are all.
use Rattle.std.proofs.Common.{◌≡◌, ◌+◌, ◌≤◌, length, take, map, ap, arith}
use Rattle.std.proofs.lemmas.List.{length-map, take_all}
use Rattle.par_tree.specs.Plain.{Source}
use Rattle.par_resolved.specs.declared.limits.TheConstants.{MOST_POLICIES}
use Rattle.par_resolved.specs.declared.entries.Entry.{Entry}
use Rattle.par_resolved.specs.Policies.{Known}
use Rattle.par_resolved.specs.Numbered.{distinct, entries, numbered, shared_policies}
use Rattle.par_table.proofs.Inferred.{numbered_count}

pub all_distinct : (k : Known) (s : Source) → length (numbered k s) ≤ MOST_POLICIES
    → map (λ e. e.policy) (take (MOST_POLICIES + 1) (distinct (entries k s))) ≡ shared_policies k s
all_distinct k s few =
    let policy = λ (e : Entry). e.policy in
    let shared : length (shared_policies k s) ≡ length (distinct (entries k s)) =
    length-map (distinct (entries k s)) policy in
    let count = numbered_count k s in
    ap (map policy) (take_all (MOST_POLICIES + 1) (distinct (entries k s))
    (omega (arith, shared, count, few)))
