-- What is made of each item of a list, one more at a time.
use Rattle.std.proofs.Common.{◌≡◌, ℕ, ◌+◌, ◌<◌, Bool, true, false, arith, List, [], ◌∷◌, ◌++◌}
use Rattle.std.proofs.Common.{length, drop, map, get_or, refl, sym, ap, ◌∙◌, append_assoc}
use Rattle.std.specs.Prelude.{if◌then◌else◌, sum_by}
use Rattle.std.specs.List.{count_by}
use Rattle.std.specs.Borrow.{Bor}
use Rattle.std.proofs.lemmas.List.Sums.{sum_by-cons}
use Rattle.par_tree.specs.declared.decl.LockDecl.{LockDecl}
use Rattle.par_tree.specs.declared.decl.FieldDecl.{FieldDecl}
use Rattle.par_tree.specs.declared.decl.MethodDecl.{MethodDecl}
use Rattle.par_tree.specs.declared.decl.ClassDecl.{ClassDecl}
use Rattle.par_tree.specs.Nodes.{method_nodes}
use Rattle.par_tree.specs.Plain.{Class, Method}
use Rattle.par_tree.specs.Shown.{class_of, method, methods}
use Rattle.par_typed.specs.declared.table.GroundLock.{GroundLock}
use Rattle.par_typed.specs.declared.table.FieldInfo.{FieldInfo}
use Rattle.par_typed.specs.declared.table.ClassInfo.{ClassInfo}
use Rattle.par_parts.specs.Gathered.{all_of, classes_of}
use Rattle.par_resolved.specs.Numbers.{ground_count}
use Rattle.par_resolved.specs.Resolved.{Resolved, family, ground_locks_from, field_info}
use Rattle.par_resolved.specs.Resolved.{field_infos, class_info, class_infos}
use Rattle.par_resolved.proofs.Loops.{drop_more}
use Rattle.par_table.specs.Room.{inferred_count}

pub of_refs : {A B : Type 0} (f : A → B) (rs : List (Bor A))
    → map (λ r. f r.now) rs ≡ map f (all_of rs)
of_refs f [] = refl
of_refs f (r ∷ rs) = ap (λ xs. f r.now ∷ xs) (of_refs f rs)

-- one more is made, and less is left
pub one_made : {A B : Type 0} (f : A → B) (xs : List A) (i : ℕ) (x : A) (old made whole : List B)
    → i < length xs → x ≡ get_or xs i x → made ≡ old ++ f x ∷ []
    → old ++ map f (drop i xs) ≡ whole → made ++ map f (drop (i + 1) xs) ≡ whole
one_made f xs i x old made whole inside is so kept =
    let rest = map f (drop (i + 1) xs) in
    ap (λ ys. ys ++ rest) so ∙ append_assoc old (f x ∷ []) rest
    ∙ ap (λ ys. old ++ map f ys) (sym (drop_more xs i x inside is)) ∙ kept

pub method_made : {B : Type 0} (f : Method → B) (ms : List MethodDecl) (i : ℕ) (m : MethodDecl)
    (old made whole : List B) → i < length ms → m ≡ get_or ms i m
    → made ≡ old ++ f (method m) ∷ [] → old ++ map f (methods (drop i ms)) ≡ whole
    → made ++ map f (methods (drop (i + 1) ms)) ≡ whole
method_made f ms i m old made whole inside is so kept =
    let rest = map f (methods (drop (i + 1) ms)) in
    ap (λ ys. ys ++ rest) so ∙ append_assoc old (f (method m) ∷ []) rest
    ∙ ap (λ ys. old ++ map f (methods ys)) (sym (drop_more ms i m inside is)) ∙ kept

pub nodes_left : (ms : List MethodDecl) (i : ℕ) (m : MethodDecl) → i < length ms → m ≡ get_or ms i m
    → sum_by method_nodes (methods (drop i ms))
    ≡ method_nodes (method m) + sum_by method_nodes (methods (drop (i + 1) ms))
nodes_left ms i m inside is =
    ap (λ xs. sum_by method_nodes (methods xs)) (drop_more ms i m inside is)
    ∙ sum_by-cons method_nodes (method m) (methods (drop (i + 1) ms))

-- ---- parts whose numbers go on behind them

pub family_made : (r : Resolved) (queries : List ℕ) (first next : ℕ) (ds : List (Bor LockDecl))
    (i : ℕ) (d : Bor LockDecl) (old made whole : List GroundLock)
    → i < length ds → d ≡ get_or ds i d → made ≡ old ++ family r queries d.now first
    → next ≡ first + ground_count (length r.known.numbers.actors) d.now
    → old ++ ground_locks_from r queries first (all_of (drop i ds)) ≡ whole
    → made ++ ground_locks_from r queries next (all_of (drop (i + 1) ds)) ≡ whole
family_made r queries first next ds i d old made whole inside is so on kept =
    let rest : ℕ → List GroundLock =
    λ n. ground_locks_from r queries n (all_of (drop (i + 1) ds)) in
    ap (λ ls. ls ++ rest next) so ∙ append_assoc old (family r queries d.now first) (rest next)
    ∙ ap (λ n. old ++ (family r queries d.now first ++ rest n)) on
    ∙ ap (λ xs. old ++ ground_locks_from r queries first (all_of xs))
    (sym (drop_more ds i d inside is)) ∙ kept

pub field_made : (r : Resolved) (next behind : ℕ) (fs : List FieldDecl) (i : ℕ) (f : FieldDecl)
    (old made whole : List FieldInfo) → i < length fs → f ≡ get_or fs i f
    → made ≡ old ++ field_info r next f ∷ [] → behind ≡ (if f.inferred then next + 1 else next)
    → old ++ field_infos r next (drop i fs) ≡ whole
    → made ++ field_infos r behind (drop (i + 1) fs) ≡ whole
field_made r next behind fs i f old made whole inside is so on kept =
    let rest : ℕ → List FieldInfo = λ n. field_infos r n (drop (i + 1) fs) in
    ap (λ ys. ys ++ rest behind) so ∙ append_assoc old (field_info r next f ∷ []) (rest behind)
    ∙ ap (λ n. old ++ (field_info r next f ∷ rest n)) on
    ∙ ap (λ xs. old ++ field_infos r next xs) (sym (drop_more fs i f inside is)) ∙ kept

pub fields_left : (next behind whole : ℕ) (fs : List FieldDecl) (i : ℕ) (f : FieldDecl)
    → i < length fs → f ≡ get_or fs i f
    → behind ≡ (if f.inferred then next + 1 else next)
    → next + count_by (λ g. g.inferred) (drop i fs) ≡ whole
    → behind + count_by (λ g. g.inferred) (drop (i + 1) fs) ≡ whole
fields_left next behind whole fs i f inside is on so =
    in_case f.inferred on (ap (count_by (λ g. g.inferred)) (drop_more fs i f inside is)
    ∙ sum_by-cons (λ g. if g.inferred then 1 else 0) f rest)
  where
    rest : List FieldDecl
    rest = drop (i + 1) fs

    in_case : (b : Bool) → behind ≡ (if b then next + 1 else next)
        → count_by (λ g. g.inferred) (drop i fs)
        ≡ (if b then 1 else 0) + count_by (λ g. g.inferred) rest
        → behind + count_by (λ g. g.inferred) rest ≡ whole
    in_case true on more = omega (arith, on, more, so)
    in_case false on more = omega (arith, on, more, so)

pub class_made : (r : Resolved) (class class' next behind : ℕ) (ds : List (Bor ClassDecl)) (i : ℕ)
    (d : Bor ClassDecl) (old made whole : List ClassInfo)
    → i < length ds → d ≡ get_or ds i d
    → made ≡ old ++ class_info r class next (class_of d.now) ∷ [] → class' ≡ class + 1
    → behind ≡ next + inferred_count (class_of d.now)
    → old ++ class_infos r class next (classes_of (drop i ds)) ≡ whole
    → made ++ class_infos r class' behind (classes_of (drop (i + 1) ds)) ≡ whole
class_made r class class' next behind ds i d old made whole inside is so up on kept =
    let info = class_info r class next (class_of d.now) in
    let rest : ℕ → ℕ → List ClassInfo = λ k n. class_infos r k n (classes_of (drop (i + 1) ds)) in
    ap (λ ys. ys ++ rest class' behind) so ∙ append_assoc old (info ∷ []) (rest class' behind)
    ∙ ap (λ k. old ++ (info ∷ rest k behind)) up ∙ ap (λ n. old ++ (info ∷ rest (class + 1) n)) on
    ∙ ap (λ xs. old ++ class_infos r class next (classes_of xs)) (sym (drop_more ds i d inside is))
    ∙ kept

-- what the first of those that are left adds
pub class_sum : (f : Class → ℕ) (ds : List (Bor ClassDecl)) (i : ℕ) (d : Bor ClassDecl)
    → i < length ds → d ≡ get_or ds i d
    → sum_by f (classes_of (drop i ds))
    ≡ f (class_of d.now) + sum_by f (classes_of (drop (i + 1) ds))
class_sum f ds i d inside is =
    ap (λ xs. sum_by f (classes_of xs)) (drop_more ds i d inside is)
    ∙ sum_by-cons f (class_of d.now) (classes_of (drop (i + 1) ds))
