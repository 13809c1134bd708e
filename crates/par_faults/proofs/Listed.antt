-- Methods and declarations as they stand in lists.
use Rattle.std.proofs.Common.{◌≡◌, ℕ, zero, suc, ◌+◌, List, [], ◌∷◌, ◌++◌, length, map, Option}
use Rattle.std.proofs.Common.{take, drop, refl, sym, ap, ◌∙◌, zero-add, arith}
use Rattle.std.proofs.lemmas.Grind.{common_steps}
use Rattle.std.proofs.lemmas.List.{length-map, map-append}
use Rattle.std.proofs.Math.Nat.{suc-add}
use Rattle.par_index.specs.Texts.{texts}
use Rattle.par_tree.specs.declared.decl.LockDecl.{LockDecl}
use Rattle.par_tree.specs.declared.decl.PolicyDecl.{PolicyDecl}
use Rattle.par_tree.specs.declared.decl.MethodDecl.{MethodDecl}
use Rattle.par_tree.specs.Plain.{Class, Declaration, Source}
use Rattle.par_tree.specs.Shown.{methods, class_of}
use Rattle.std.specs.Borrow.{Bor}
use Rattle.par_tree.specs.declared.decl.ClassDecl.{ClassDecl}
use Rattle.par_refusals.specs.declared.refusal.Refusal.{Refusal}
use Rattle.par_refusals.specs.First.{first_of}
use Rattle.par_refusals.proofs.First.{first_of_append}
use Rattle.par_names.specs.Declarations.{builtins, policies, policies_in}
use Rattle.par_names.specs.Policies.{View}
use Rattle.par_names.specs.Program.{view_behind, declaration_faults, declarations_faults}
use Rattle.par_names.specs.Seen.{seen, ShowsProgram}
use Rattle.par_names.specs.declared.view.View as code
use Rattle.par_names.proofs.Noted.{note}
use Rattle.par_faults.proofs.Placed.{twice}

pub method_ids : (ms : List MethodDecl) → map (λ m. m.id) (methods ms) ≡ map (λ m. m.id) ms
method_ids [] = refl
method_ids (m ∷ ms) = ap (λ ids. m.id ∷ ids) (method_ids ms)

pub ruleset ids = (method_ids, note)

pub faults_end : (source : Source) (before : List (List ℕ))
    → declarations_faults source before [] ≡ []
unfolding declarations_faults
faults_end source before = refl

faults_more : (source : Source) (before : List (List ℕ)) (d : Declaration) (ds : Source)
    → declarations_faults source before (d ∷ ds)
    ≡ declaration_faults (view_behind source before) d
    ++ declarations_faults source (before ++ map (λ p. p.id.name) (policies_in d)) ds
unfolding declarations_faults
faults_more source before d ds = refl

abbrev view : List (List ℕ) → List LockDecl → List Class → List (List ℕ) → View
view a ls cs ps = record { actors = a; locks = ls; classes = cs; policies = ps }

same_view : (a b : List (List ℕ)) (ls ms : List LockDecl) (cs ds : List Class) (ps : List (List ℕ))
    → a ≡ b → ls ≡ ms → cs ≡ ds
    → view a ls cs ps ≡ view b ms ds ps
same_view a b ls ms cs ds ps e f g = cc

-- what the code sees behind some policies
pub seen_is : (v : code.View) (source : Source) → ShowsProgram builtins source v.declared.now
    → seen v ≡ view_behind source (take v.policies (texts v.declared.now.policies.names.items))
seen_is v source shows = same_view _ _ _ _ _ _ _ shows.actors shows.locks shows.classes

in_front : {A : Type 0} (ps rest : List A) → take (length ps) (ps ++ rest) ≡ ps
in_front ps rest = grind (arith, common_steps)

behind : {A : Type 0} (ps rest : List A) → drop (length ps) (ps ++ rest) ≡ rest
behind ps rest = grind (arith, common_steps)

take_none : {A : Type 0} (n : ℕ) → take {A = A} n [] ≡ []
take_none zero = refl
take_none (suc n) = refl

two : {A : Type 0} (k n : ℕ) (xs : List A) → take (k + n) xs ≡ take k xs ++ take n (drop k xs)
two zero n xs = rw (zero-add n) refl
two (suc k) n [] = rw (suc-add k n) (sym (take_none n))
two (suc k) n (x ∷ xs) = rw (suc-add k n) (ap (λ l. x ∷ l) (two k n xs))

taken : {A : Type 0} (k : ℕ) (xs ps rest : List A) → drop k xs ≡ ps ++ rest
    → take (k + length ps) xs ≡ take k xs ++ ps
taken k xs ps rest e =
    two k (length ps) xs ∙ ap (λ l. take k xs ++ take (length ps) l) e
    ∙ ap (λ l. take k xs ++ l) (in_front ps rest)

left : {A : Type 0} (k : ℕ) (xs ps rest : List A) → drop k xs ≡ ps ++ rest
    → drop (k + length ps) xs ≡ rest
left k xs ps rest e = sym (twice xs k (length ps)) ∙ ap (drop (length ps)) e ∙ behind ps rest

module _ (source : Source) (all : List (List ℕ)) (k n : ℕ) (d : Declaration) (ds : Source) where
  split : drop k all ≡ map (λ p. p.id.name) (policies (d ∷ ds))
      → drop k all ≡ map (λ p. p.id.name) (policies_in d) ++ map (λ p. p.id.name) (policies ds)
  split are = are ∙ map-append (λ (p : PolicyDecl). p.id.name) (policies_in d) (policies ds)

  count : n ≡ length (policies_in d) → n ≡ length (map (λ p. p.id.name) (policies_in d))
  count is = is ∙ sym (length-map (policies_in d) (λ (p : PolicyDecl). p.id.name))

  -- the policies behind one more declaration
  pub left_step : drop k all ≡ map (λ p. p.id.name) (policies (d ∷ ds)) → n ≡ length (policies_in d)
      → drop (k + n) all ≡ map (λ p. p.id.name) (policies ds)
  left_step are is = ap (λ (j : ℕ). drop (k + j) all) (count is)
      ∙ left k all (map (λ p. p.id.name) (policies_in d))
      (map (λ p. p.id.name) (policies ds)) (split are)

  taken_step : drop k all ≡ map (λ p. p.id.name) (policies (d ∷ ds)) → n ≡ length (policies_in d)
      → take (k + n) all ≡ take k all ++ map (λ p. p.id.name) (policies_in d)
  taken_step are is = ap (λ (j : ℕ). take (k + j) all) (count is)
      ∙ taken k all (map (λ p. p.id.name) (policies_in d))
      (map (λ p. p.id.name) (policies ds)) (split are)

  -- what one more declaration breaks is noted
  pub found_step : (now next : Option Refusal) (v : View)
      → drop k all ≡ map (λ p. p.id.name) (policies (d ∷ ds)) → n ≡ length (policies_in d)
      → v ≡ view_behind source (take k all) → next ≡ first_of now (declaration_faults v d)
      → first_of next (declarations_faults source (take (k + n) all) ds)
      ≡ first_of now (declarations_faults source (take k all) (d ∷ ds))
  found_step now next v are is sees noted =
      let before : List (List ℕ) = take k all ++ map (λ p. p.id.name) (policies_in d) in
      ap (λ (t : List (List ℕ)). first_of next (declarations_faults source t ds))
      (taken_step are is)
      ∙ ap (λ (o : Option Refusal). first_of o (declarations_faults source before ds))
      (noted ∙ ap (λ (w : View). first_of now (declaration_faults w d)) sees)
      ∙ sym (first_of_append now (declaration_faults (view_behind source (take k all)) d)
      (declarations_faults source before ds))
      ∙ ap (first_of now) (sym (faults_more source (take k all) d ds))

-- the names of classes are those of the classes as plain data
pub class_ids : (xs : List (Bor ClassDecl))
    → map (λ c. c.id) (map (λ x. x.now) xs) ≡ map (λ c. c.id) (map (λ x. class_of x.now) xs)
class_ids [] = refl
class_ids (x ∷ xs) = ap (λ ids. x.now.id ∷ ids) (class_ids xs)
