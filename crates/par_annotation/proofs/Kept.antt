-- What is in scope stays in scope while statements are made.
use Rattle.std.proofs.Common.{◌≡◌, ℕ, zero, suc, ◌+◌, ◌≤◌, List, [], ◌∷◌, ◌++◌, refl, sym, ap, ◌∙◌}
use Rattle.std.proofs.Common.{arith, take, length, map}
use Rattle.std.proofs.lemmas.List.{take-append-le, length-take, length-map, take_all}
use Rattle.par_tree.specs.Plain.{Sta, Block, If, While, Try, Return, Break, Continue, Throw, Open}
use Rattle.par_tree.specs.Plain.{Close}
use Rattle.par_tree.specs.Plain.{Declare, Assign, Do, When}
use Rattle.par_scope.specs.declared.locals.Slot.{Slot}
use Rattle.par_scope.specs.Locals.{Scope}
use Rattle.par_scope.specs.Home.{Home}
use Rattle.par_type_rules.specs.Stmts.{slot_of}
use Rattle.par_type_rules.specs.Frames.{Frame, Var, further}
use Rattle.par_type_rules.specs.TypedStmts.{Written, may_policy, behind}
use Rattle.par_scope.specs.Own.{locals_in}
use Rattle.par_annotation.specs.declared.frame.Var as code
use Rattle.par_annotation.specs.Seen.{var_seen}
use Rattle.par_annotation.specs.Keeps.{Keeps}

longer : {X : Type 0} (xs old : List X) (x : X) → take (length old) xs ≡ old
    → take (length old) (xs ++ x ∷ []) ≡ old
longer xs old x kept =
    let same : length (take (length old) xs) ≡ length old = ap length kept in
    let le : length old ≤ length xs = omega (arith, length-take (length old) xs, same) in
    take-append-le (length old) xs _ le ∙ kept

further_keeps : (old now : Frame) (n k : ℕ) → Keeps old n now → Keeps old (n + k) (further now k)
further_keeps old now n k kept =
    record { scope = kept.scope; vars = kept.vars; next = omega (arith, kept.next) }

same_keeps : (old now : Frame) (n : ℕ) → Keeps old n now → Keeps old (n + 0) now
same_keeps old now n kept =
    record { scope = kept.scope; vars = kept.vars; next = omega (arith, kept.next) }

-- a statement keeps what was in scope
pub behind_keeps : (w : Written) (home : Home) (s : Sta) (old now : Frame) (n : ℕ) → Keeps old n now
    → Keeps old (n + locals_in s) (behind w home s now)
unfolding behind locals_in
behind_keeps w home (Block b at) old now n kept = further_keeps old now n _ kept
behind_keeps w home (If e b o at) old now n kept = further_keeps old now n _ kept
behind_keeps w home (While e b at) old now n kept = further_keeps old now n _ kept
behind_keeps w home (Try b cs at) old now n kept = further_keeps old now n _ kept
behind_keeps w home (Return e at) old now n kept = same_keeps old now n kept
behind_keeps w home (Break at) old now n kept = same_keeps old now n kept
behind_keeps w home (Continue at) old now n kept = same_keeps old now n kept
behind_keeps w home (Throw class at) old now n kept = same_keeps old now n kept
behind_keeps w home (Open lock at) old now n kept = same_keeps old now n kept
behind_keeps w home (Close lock at) old now n kept = same_keeps old now n kept
behind_keeps w home (Declare local at) old now n kept = record {
  scope = record {
    names = longer now.scope.names old.scope.names local.id.name kept.scope.names;
    slots = longer now.scope.slots old.scope.slots (slot_of home local) kept.scope.slots;
  };
  vars = longer now.vars old.vars
      (record { number = now.next; policy = may_policy w local.policy }) kept.vars;
  next = omega (arith, kept.next);
}
behind_keeps w home (Assign target value at) old now n kept = same_keeps old now n kept
behind_keeps w home (Do call at) old now n kept = same_keeps old now n kept
behind_keeps w home (When lock b o at) old now n kept = further_keeps old now n _ kept

pub begin_keeps : (frame : Frame) → Keeps frame 0 frame
begin_keeps frame = record {
  scope = record {
    names = take_all (length frame.scope.names) frame.scope.names (omega arith);
    slots = take_all (length frame.scope.slots) frame.scope.slots (omega arith);
  };
  vars = take_all (length frame.vars) frame.vars (omega arith);
  next = omega arith;
}

seen_take : (n : ℕ) (xs : List code.Var) → map var_seen (take n xs) ≡ take n (map var_seen xs)
seen_take zero xs = refl
seen_take (suc n) [] = refl
seen_take (suc n) (x ∷ xs) = ap (λ vs. var_seen x ∷ vs) (seen_take n xs)

-- the locals of a block leave the scope, and keep their numbers
pub left : (old now : Frame) (n outside many : ℕ) (scope : Scope)
    (before left_vars vars : List code.Var) → Keeps old n now
    → old.vars ≡ map var_seen before → now.vars ≡ map var_seen left_vars
    → outside ≡ length old.scope.names → outside ≡ length old.scope.slots → many ≡ length before
    → scope.names ≡ take outside now.scope.names → scope.slots ≡ take outside now.scope.slots
    → vars ≡ take many left_vars
    → let frame : Frame = record { scope = scope; vars = map var_seen vars; next = now.next } in
    frame ≡ further old n
left old now n outside many scope before left_vars vars kept were are same_names same_slots
    same_vars names slots items =
    let of_names : scope.names ≡ old.scope.names =
    names ∙ ap (λ k. take k now.scope.names) same_names ∙ kept.scope.names in
    let of_slots : scope.slots ≡ old.scope.slots =
    slots ∙ ap (λ k. take k now.scope.slots) same_slots ∙ kept.scope.slots in
    let count : many ≡ length old.vars =
    same_vars ∙ sym (length-map before var_seen) ∙ ap length (sym were) in
    let of_vars : map var_seen vars ≡ old.vars =
    ap (map var_seen) items ∙ seen_take many left_vars ∙ ap (take many) (sym are)
    ∙ ap (λ k. take k now.vars) count ∙ kept.vars in
    let frame : Scope → List Var → ℕ → Frame =
    λ s vs k. record { scope = s; vars = vs; next = k } in
    let pair : List (List ℕ) → List Slot → Scope = λ ns ss. record { names = ns; slots = ss } in
    ap (λ ns. frame (pair ns scope.slots) (map var_seen vars) now.next) of_names
    ∙ ap (λ ss. frame (pair old.scope.names ss) (map var_seen vars) now.next) of_slots
    ∙ ap (λ vs. frame old.scope vs now.next) of_vars
    ∙ ap (λ k. frame old.scope old.vars k) kept.next
