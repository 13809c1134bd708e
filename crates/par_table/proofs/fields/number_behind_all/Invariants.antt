use Rattle.std.proofs.Common.{◌≡◌, ◌+◌, drop}
use Rattle.std.specs.List.{count_by}
use Rattle.par_table.proofs.fields.number_behind_all.Given as goal

-- those that are left are still to be counted
abbrev pub invariant-loop-field : goal.invariant-loop-field
invariant-loop-field l =
    l.behind + count_by (λ f. f.inferred) (drop l.field-index l.fields)
    ≡ l.next + count_by (λ f. f.inferred) l.fields
