use Rattle.std.proofs.Common.{◌≤◌, length, ap, sym, subst, ◌∙◌}
use Rattle.std.specs.Prelude.{sum_by, unwrap_or}
use Rattle.std.specs.List.{position}
use Rattle.std.proofs.lemmas.List.{length-map}
use Rattle.par_tree.specs.declared.ident.Ident.{Ident}
use Rattle.par_tree.specs.Shown.{source}
use Rattle.par_names.specs.Declarations.{actors, locks}
use Rattle.par_resolved.specs.declared.limits.TheConstants.{MOST_GROUND_LOCKS}
use Rattle.par_parts.specs.Gathered.{classes_of}
use Rattle.par_resolved.specs.Numbers.{ground_count}
use Rattle.par_resolved.specs.Resolved.{resolved, ground_locks, class_infos, has_main}
use Rattle.par_table.specs.Room.{HaveRoom}
use Rattle.par_table.proofs.Rooms.{have_room}
use Rattle.par_table.proofs.Whole.{known_numbers, put_together}
use Rattle.par_table.proofs.made.table_by.Goals as goal

pub ground_locks-requires : goal.ground_locks-requires
ground_locks-requires c =
    let s = source c.args.program.now in
    let count =
    ap (λ r. length r.known.numbers.actors) c.requires.made
    ∙ ap (λ n. length n.actors) (known_numbers s)
    ∙ length-map (actors s) (λ (a : Ident). a.name) in
    subst (λ n. sum_by (ground_count n) (locks s) ≤ MOST_GROUND_LOCKS)
    (sym count) c.requires.room.few.few_locks

pub class_infos-requires : goal.class_infos-requires
class_infos-requires c =
    let s = source c.args.program.now in
    let first =
    c.policy_count-first.ensures ∙ ap (λ r. length r.policies) c.requires.made in
    subst (HaveRoom c.policy_count-first.result) (sym c.requires.classes)
    (have_room s c.policy_count-first.result c.requires.room first)

pub returns : goal.returns
returns c =
    let s = source c.args.program.now in
    let same = c.requires.made in
    let given = classes_of c.args.classes.now in
    let first = c.policy_count-first.ensures ∙ ap (λ r. length r.policies) same in
    let infos =
    c.in_ok-class_infos.ensures ∙ ap (λ r. class_infos r 0 c.policy_count-first.result given) same
    ∙ ap (λ n. class_infos (resolved s) 0 n given) first
    ∙ ap (class_infos (resolved s) 0 (length (resolved s).policies)) c.requires.classes in
    put_together s _ _ _ _ _ c.in_ok-actor_names.ensures
    (c.in_ok-ground_locks.ensures ∙ ap (λ r. ground_locks r s) same)
    c.in_ok-all_policies.ensures infos
    (c.main_number.ensures ∙ ap (λ cs. unwrap_or (position has_main cs) 0) c.requires.classes)
