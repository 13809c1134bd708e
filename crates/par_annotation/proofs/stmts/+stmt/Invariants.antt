use Rattle.std.proofs.Common.{◌≡◌, ℕ, ◌+◌, ◌*◌, ◌≤◌, drop}
use Rattle.par_tree.specs.Shown.{all_do, all_catch}
use Rattle.par_tree.specs.Nodes.{all_nodes, catch_nodes}
use Rattle.par_typed.specs.Shown as typed
use Rattle.par_typed.specs.Nodes as count
use Rattle.par_scope.specs.Home.{seen}
use Rattle.par_type_rules.specs.Frames.{further}
use Rattle.par_type_rules.specs.TypedStmts.{typed_stas, typed_catches}
use Rattle.par_scope.specs.Own.{all_locals, catches_locals}
use Rattle.par_annotation.specs.Ints.{all_no_ints, catches_no_ints}
use Rattle.par_annotation.specs.Seen.{frame_seen}
use Rattle.par_annotation.specs.Numbers.{written_by}
use Rattle.par_annotation.specs.Keeps.{Keeps}
use Rattle.par_annotation.proofs.StmtNodeForms.{stmts_before, catches_before}
use Rattle.par_annotation.proofs.stmts.+stmt.Given as goal

-- what is made, in front of what the statements that are left come to
abbrev pub invariant-type_stmts-loop-stmt : goal.invariant-type_stmts-loop-stmt
invariant-type_stmts-loop-stmt l = record {
  made : stmts_before l.found (typed_stas (written_by l.numbering) (seen l.home)
      (frame_seen l.frame) l.next (all_do (drop l.stmt-index l.stmts)))
      ≡ typed_stas (written_by l.numbering) (seen l.home) (frame_seen l.fn.frame) l.fn.next
      (all_do l.stmts);
  counted : l.next ≡ l.fn.next + count.all_nodes (typed.all_do l.found);
  small : l.next + 2 * all_nodes (all_do (drop l.stmt-index l.stmts))
      ≤ l.fn.next + 2 * all_nodes (all_do l.stmts);
  ints : all_no_ints (all_do (drop l.stmt-index l.stmts)) ≡ 0;
  kept : (n : ℕ)
      × (n + all_locals (all_do (drop l.stmt-index l.stmts)) ≡ all_locals (all_do l.stmts))
      × Keeps (frame_seen l.fn.frame) n (frame_seen l.frame);
}

-- what is made, in front of what the catches that are left come to
abbrev pub invariant-type_catches-loop-catch : goal.invariant-type_catches-loop-catch
invariant-type_catches-loop-catch l = record {
  made : catches_before l.found
      (typed_catches (written_by l.numbering) (seen l.home) (frame_seen l.frame) l.next
      (all_catch (drop l.catch-index l.catches)))
      ≡ typed_catches (written_by l.numbering) (seen l.home) (frame_seen l.fn.frame) l.fn.next
      (all_catch l.catches);
  counted : l.next ≡ l.fn.next + count.catch_nodes (typed.all_catch l.found);
  small : l.next + 2 * catch_nodes (all_catch (drop l.catch-index l.catches))
      ≤ l.fn.next + 2 * catch_nodes (all_catch l.catches);
  ints : catches_no_ints (all_catch (drop l.catch-index l.catches)) ≡ 0;
  behind : further (frame_seen l.frame) (catches_locals (all_catch (drop l.catch-index l.catches)))
      ≡ further (frame_seen l.fn.frame) (catches_locals (all_catch l.catches));
}
