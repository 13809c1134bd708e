-- The policies of a program's table, each once, and their numbers.
use Rattle.std.specs.Prelude.{ℕ, Bool, true, false, ◌&&◌, nat_eq, nat_le, if◌then◌else◌, List, []}
use Rattle.std.specs.Prelude.{◌∷◌, ◌++◌, map, flat_map, filter, fold, position, unwrap_or, Option}
use Rattle.std.specs.Prelude.{None, Some}
use Rattle.std.specs.Option.{is_none}
use Rattle.std.specs.List.{list_any}
use Rattle.std.specs.Str.{bytes_eq}
use Rattle.par_typed.specs.par_policy.declared.clauses.Clause.{Clause}
use Rattle.par_tree.specs.declared.policy.PolicyExpr.{PolicyExpr}
use Rattle.par_tree.specs.declared.decl.LockDecl.{LockDecl}
use Rattle.par_tree.specs.declared.decl.FieldDecl.{FieldDecl}
use Rattle.par_tree.specs.Plain.{Class, Source}
use Rattle.par_names.specs.Declarations.{locks, lock_named, declared_classes}
use Rattle.par_resolved.specs.declared.entries.Entry.{Entry}
use Rattle.par_resolved.specs.Policies.{Known, bottom, policy_of}
use Rattle.par_parts.specs.Written.{written, queried}
use Rattle.par_resolved.specs.Births.{birth_policy}

-- ---- equal policies

abbrev pub same_clause : Clause → Clause → Bool
same_clause c d = nat_eq c.actor d.actor && bytes_eq c.locks d.locks

abbrev pub same_policy : List Clause → List Clause → Bool
same_policy [] [] = true
same_policy [] (d ∷ q) = false
same_policy (c ∷ p) [] = false
same_policy (c ∷ p) (d ∷ q) = same_clause c d && same_policy p q

-- ---- what is written, by place

abbrev pub written_entry : Known → PolicyExpr → Entry
written_entry k e = record { at = e.at; policy = policy_of k e }

abbrev pub has_no_policy : Option LockDecl → Bool
has_no_policy None = false
has_no_policy (Some lock) = is_none lock.policy

-- a lock without a written policy has `top` wherever a `when` asks for it
abbrev pub query_entries : Source → List Entry
query_entries source =
    map (λ lock. record { at = lock.id.at; policy = [] })
    (filter (λ lock. has_no_policy (lock_named (locks source) lock.id.name)) (queried source))

-- an entry among others in the order of places, before those at its own place
abbrev pub with_entry : Entry → List Entry → List Entry
with_entry e [] = e ∷ []
with_entry e (f ∷ fs) = if nat_le e.at f.at then e ∷ f ∷ fs else f ∷ with_entry e fs

abbrev pub by_place : List Entry → List Entry
by_place [] = []
by_place (e ∷ es) = with_entry e (by_place es)

-- ---- all, in the order of the table

abbrev pub birth_entry : Known → Class → Entry
birth_entry k c = record { at = c.id.at; policy = birth_policy k c.birth c.fields }

-- `bottom`, what is written by place, and the birth policies in the order of the classes
abbrev pub entries : Known → Source → List Entry
entries k source =
    record { at = 0; policy = bottom k.numbers }
    ∷ by_place (map (written_entry k) (written source) ++ query_entries source)
    ++ map (birth_entry k) (declared_classes source)

-- one more, unless its policy is there
abbrev pub with_new : List Entry → Entry → List Entry
with_new es e = if list_any (λ f. same_policy e.policy f.policy) es then es else es ++ e ∷ []

-- each policy once, at its first place
abbrev pub distinct : List Entry → List Entry
distinct es = fold with_new [] es

-- ---- inferred fields, each with an entry of its own

abbrev pub inferred_fields : Source → List FieldDecl
inferred_fields source =
    filter (λ f. f.inferred) (flat_map (λ c. c.fields) (declared_classes source))

abbrev pub inferred_entry : Known → FieldDecl → Entry
inferred_entry k f = record { at = f.id.at; policy = bottom k.numbers }

abbrev pub numbered : Known → Source → List Entry
numbered k source =
    distinct (entries k source) ++ map (inferred_entry k) (inferred_fields source)

-- ---- numbers

-- what numbers of policies go by: those that are not inferred
abbrev pub shared_policies : Known → Source → List (List Clause)
shared_policies k source = map (λ e. e.policy) (distinct (entries k source))

abbrev pub policy_number : List (List Clause) → List Clause → ℕ
policy_number policies p = unwrap_or (position (same_policy p) policies) 0
