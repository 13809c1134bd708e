-- The policies of locks that a program asks for.
use Rattle.std.specs.Prelude.{Bool, List, [], map, filter}
use Rattle.par_tree.specs.declared.policy.LockTree.{LockTree}
use Rattle.par_tree.specs.declared.decl.LockDecl.{LockDecl}
use Rattle.par_resolved.specs.par_names.Declarations.{lock_named}
use Rattle.par_resolved.specs.declared.entries.Entry.{Entry}
use Rattle.par_resolved.specs.Numbered.{has_no_policy}

abbrev pub lacks_policy : List LockDecl → LockTree → Bool
lacks_policy locks query = has_no_policy (lock_named locks query.id.name)

-- `top`, where a lock is asked for
abbrev pub top_entry : LockTree → Entry
top_entry query = record { at = query.id.at; policy = [] }

-- of these queries, those for a lock without a written policy
abbrev pub asked_entries : List LockDecl → List LockTree → List Entry
asked_entries locks queries = map top_entry (filter (lacks_policy locks) queries)
