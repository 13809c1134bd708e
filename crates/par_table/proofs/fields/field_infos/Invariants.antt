use Rattle.std.proofs.Common.{◌≡◌, ◌+◌, ◌++◌, drop}
use Rattle.std.specs.List.{count_by}
use Rattle.par_resolved.specs.Resolved.{field_infos}
use Rattle.par_table.specs.Seen.{resolved_seen}
use Rattle.par_table.proofs.fields.field_infos.Given as goal

-- those made so far, and those of what is left
abbrev pub invariant-loop-field : goal.invariant-loop-field
invariant-loop-field l = record {
  made : l.made ++ field_infos (resolved_seen l.resolved) l.next (drop l.field-index l.fields)
      ≡ field_infos (resolved_seen l.resolved) l.fn.next l.fields;
  counted : l.next + count_by (λ f. f.inferred) (drop l.field-index l.fields)
      ≡ l.fn.next + count_by (λ f. f.inferred) l.fields;
}
