-- A body is entered with its first frame: no label before its first instruction has another.
use Rattle.std.proofs.Common.{◌≡◌, ℕ, ◌+◌, Bool, true, false, List, [], ◌∷◌, Some, refl, ap}
use Rattle.std.proofs.Common.{subst, sym, ◌∙◌, ◌&&◌}
use Rattle.std.specs.List.{AllByRecursion}
use Rattle.par_typed.specs.Plain.{TExp, Int, Boolean, Null, This, New, Local, Static}
use Rattle.par_typed.specs.Plain.{Field, Input, Output, Call, Neg, Not, Binary}
use Rattle.par_typed.specs.Plain.{Absent, Present, TExps, NoExps, More}
use Rattle.par_typed.specs.Plain.{TSta, Block, If, While, Try, Return, Break, Continue, Throw, Open}
use Rattle.par_typed.specs.Plain.{Close, SetLocal, SetStatic, SetField, Eval, When}
use Rattle.par_typed.specs.Plain.{TStas, End, Then}
use Rattle.par_completes.specs.Typed.{completes, last_completes, is_true}
use Rattle.par_code_form.specs.declared.item.Item.{Item}
use Rattle.par_code_form.specs.declared.item.Item.TheVariants.{Label, Op, Const, Jump, Member}
use Rattle.par_code_form.specs.declared.item.Item.TheVariants.{ClassOp, LockOp}
use Rattle.par_code_form.specs.Again.{goes_again}
use Rattle.par_code_form.specs.Code.{Words, Loop, goes_on, loop_test, labels, code, all_code}
use Rattle.par_code_form.specs.Code.{expr_code, args_code, expr_labels, shape_of}
use Rattle.par_code_form.specs.Code.{shape_labels}
use Rattle.par_code_form.specs.Frames.{Types, scope_behind}
use Rattle.par_kinds.specs.declared.frame.VKind.{VKind}
use Rattle.par_kinds.specs.Kinds.{KFrame}
use Rattle.par_placed_fit_laws.specs.Walks.{Sign, behind_label, lands}
use Rattle.par_placed_fit_laws.specs.par_match_laws.Labelled.{is_there}
use Rattle.par_placed_fit_laws.specs.Signs.{Marked, framed, frame_if, kinds, signs, all_signs}
use Rattle.par_verified_file_laws.proofs.Exprs.{load_begins}
use Rattle.par_verified_file_laws.proofs.Rest.{loop_rest, sta_rest}

-- where an instruction comes first nothing changes
begins_lands : (at : ℕ → Sign) (xs : List Item) (k : KFrame) → is_there xs ≡ true
    → lands at xs (Some k) ≡ Some k
unfolding lands
begins_lands at [] k b = absurd (cc b)
begins_lands at (Label l ∷ xs) k b = absurd (cc b)
begins_lands at (Op i ∷ xs) k b = refl
begins_lands at (Const v ∷ xs) k b = refl
begins_lands at (Jump o l ∷ xs) k b = refl
begins_lands at (Member o c n d ∷ xs) k b = refl
begins_lands at (ClassOp o c ∷ xs) k b = refl
begins_lands at (LockOp o l ∷ xs) k b = refl

-- a statement without code
unfoldable mutual
  pub is_empty : TSta → Bool
  is_empty (Block ss p at) = all_empty ss
  is_empty (If e s o at p) = false
  is_empty (While e s at p) = false
  is_empty (Try s cs at p) = false
  is_empty (Return o at p) = false
  is_empty (Break at p) = false
  is_empty (Continue at p) = false
  is_empty (Throw c at p) = false
  is_empty (Open l at p) = false
  is_empty (Close l at p) = false
  is_empty (SetLocal x q e at p) = false
  is_empty (SetStatic c f e at p) = false
  is_empty (SetField o c f e at p) = false
  is_empty (Eval e at p) = false
  is_empty (When l s o at p) = false

  pub all_empty : TStas → Bool
  all_empty End = true
  all_empty (Then s ss) = is_empty s && all_empty ss

and_both : (a b : Bool) → a ≡ true → b ≡ true → (a && b) ≡ true
and_both true b h g = g
and_both false b h g = absurd (cc h)

and_one : (a b : Bool) → (a && b) ≡ true → a ≡ true
and_one true b h = refl
and_one false b h = absurd (cc h)

and_other : (a b : Bool) → (a && b) ≡ true → b ≡ true
and_other true b h = h
and_other false b h = absurd (cc h)

mutual
  unfolding is_empty completes

  pub empty_completes : (s : TSta) → is_empty s ≡ true → completes s ≡ true
  empty_completes (Block ss at p) h = all_completes ss true refl h
  empty_completes (If e s o at p) h = absurd (cc h)
  empty_completes (While e s at p) h = absurd (cc h)
  empty_completes (Try s cs at p) h = absurd (cc h)
  empty_completes (Return o at p) h = absurd (cc h)
  empty_completes (Break at p) h = absurd (cc h)
  empty_completes (Continue at p) h = absurd (cc h)
  empty_completes (Throw c at p) h = absurd (cc h)
  empty_completes (Open l at p) h = refl
  empty_completes (Close l at p) h = refl
  empty_completes (SetLocal x q e at p) h = refl
  empty_completes (SetStatic c f e at p) h = refl
  empty_completes (SetField o c f e at p) h = refl
  empty_completes (Eval e at p) h = refl
  empty_completes (When l s o at p) h = absurd (cc h)

  all_completes : (ss : TStas) (before : Bool) → before ≡ true → all_empty ss ≡ true
      → last_completes before ss ≡ true
  all_completes End before b h = b
  all_completes (Then s ss) before b h =
      all_completes ss (completes s) (empty_completes s (and_one (is_empty s) (all_empty ss) h))
      (and_other (is_empty s) (all_empty ss) h)

-- a statement without code brings nothing into scope
empty_scope : (declared : Types) (s : TSta) (scope : Types) → is_empty s ≡ true
    → scope_behind declared s scope ≡ scope
unfolding is_empty
empty_scope declared (Block ss at p) scope h = refl
empty_scope declared (If e s o at p) scope h = refl
empty_scope declared (While e s at p) scope h = refl
empty_scope declared (Try s cs at p) scope h = refl
empty_scope declared (Return o at p) scope h = refl
empty_scope declared (Break at p) scope h = refl
empty_scope declared (Continue at p) scope h = refl
empty_scope declared (Throw c at p) scope h = refl
empty_scope declared (Open l at p) scope h = refl
empty_scope declared (Close l at p) scope h = refl
empty_scope declared (SetLocal x q e at p) scope h = absurd (cc h)
empty_scope declared (SetStatic c f e at p) scope h = refl
empty_scope declared (SetField o c f e at p) scope h = refl
empty_scope declared (Eval e at p) scope h = refl
empty_scope declared (When l s o at p) scope h = refl

jumps_first : (b : Bool) (l : ℕ) (xs : List Item) → b ≡ true → is_there (goes_on b l xs) ≡ true
jumps_first true l xs h = refl
jumps_first false l xs h = absurd (cc h)

module _ (w : Words) where
  mutual
    unfolding expr_code

    expr_begins : (e : TExp) (n : ℕ) (xs : List Item) → is_there (expr_code w e n xs) ≡ true
    expr_begins (Int v m) n xs = refl
    expr_begins (Boolean true m) n xs = refl
    expr_begins (Boolean false m) n xs = refl
    expr_begins (Null m) n xs = refl
    expr_begins (This m) n xs = refl
    expr_begins (New c m) n xs = refl
    expr_begins (Local x m) n xs = load_begins m.ty x xs
    expr_begins (Static c f m) n xs = refl
    expr_begins (Field e c f m) n xs = expr_begins e n _
    expr_begins (Input c i m) n xs = refl
    expr_begins (Output c i e m) n xs = expr_begins e n _
    expr_begins (Call c i Absent es m) n xs = args_begins es _ _ refl
    expr_begins (Call c i (Present e) es m) n xs = expr_begins e n _
    expr_begins (Neg e m) n xs = expr_begins e n _
    expr_begins (Not e m) n xs = expr_begins e (n + 2) _
    expr_begins (Binary op a b m) n xs = expr_begins a (n + shape_labels (shape_of op a)) _

    args_begins : (es : TExps) (n : ℕ) (xs : List Item) → is_there xs ≡ true
        → is_there (args_code w es n xs) ≡ true
    args_begins NoExps n xs h = h
    args_begins (More e es) n xs h = expr_begins e n _

  module _ (at : ℕ → Sign) (declared : Types) where
    abbrev Marks : List Marked → Type 0
    Marks k = AllByRecursion (λ m. at m.label ≡ m.sign) k

    -- the frame that lies there changes nothing
    abbrev pub Keeps : List Item → List VKind → Type 0
    Keeps xs ks = lands at xs (Some (framed ks [])) ≡ Some (framed ks [])

    label_keeps : (l : ℕ) (xs : List Item) (ks : List VKind) (b : Bool)
        → (at l).frame ≡ frame_if b ks → Keeps xs ks → Keeps (Label l ∷ xs) ks
    unfolding lands
    label_keeps l xs ks true is h =
        ap (λ f. lands at xs (behind_label f (Some (framed ks [])))) is ∙ h
    label_keeps l xs ks false is h =
        ap (λ f. lands at xs (behind_label f (Some (framed ks [])))) is ∙ h

    loop_keeps : (b : Bool) (e : TExp) (n out : ℕ) (xs : List Item) (ks : List VKind)
        → Keeps xs ks → Keeps (loop_test w b e n out xs) ks
    loop_keeps true e n out xs ks h = h
    loop_keeps false e n out xs ks h =
        begins_lands at _ (framed ks []) (expr_begins e n _)

    mutual
      unfolding code signs is_empty labels

      pub sta_keeps : (s : TSta) (l : Loop) (n : ℕ) (scope : Types) (xs : List Item)
          (k : List Marked) → Marks (signs w declared s n scope k)
          → (is_empty s ≡ true → Keeps xs (kinds w scope))
          → Keeps (code w s l n xs) (kinds w scope)
      sta_keeps (Block ss at' p) l n scope xs k marks h = all_keeps ss l n scope xs k marks h
      sta_keeps (If e s o at' p) l n scope xs k marks h =
          begins_lands at _ (framed (kinds w scope) []) (expr_begins e (n + 2) _)
      sta_keeps (While e s at' p) l n scope xs k marks h =
          label_keeps n _ (kinds w scope) (goes_again s) (ap (λ (z : Sign). z.frame) marks.0)
          (loop_keeps (is_true e) e (n + 2) (n + 1) _ (kinds w scope)
          (sta_keeps s (record { out = n + 1; again = n }) (expr_labels e (n + 2)) scope _ _
          (loop_rest w declared (λ m. at m.label ≡ m.sign) (is_true e) e (n + 2) (kinds w scope) _
          marks.1)
          (λ is. begins_lands at _ (framed (kinds w scope) [])
          (jumps_first (completes s) n _ (empty_completes s is)))))
      sta_keeps (Try s cs at' p) l n scope xs k marks h =
          label_keeps n _ (kinds w scope) false (ap (λ (z : Sign). z.frame) marks.0)
          (sta_keeps s l (n + 3) scope _ _ marks.1
          (λ is. begins_lands at _ (framed (kinds w scope) [])
          (jumps_first (completes s) (n + 2) _ (empty_completes s is))))
      sta_keeps (Return Absent at' p) l n scope xs k marks h =
          begins_lands at _ (framed (kinds w scope) []) refl
      sta_keeps (Return (Present e) at' p) l n scope xs k marks h =
          begins_lands at _ (framed (kinds w scope) []) (expr_begins e n _)
      sta_keeps (Break at' p) l n scope xs k marks h =
          begins_lands at _ (framed (kinds w scope) []) refl
      sta_keeps (Continue at' p) l n scope xs k marks h =
          begins_lands at _ (framed (kinds w scope) []) refl
      sta_keeps (Throw c at' p) l n scope xs k marks h =
          begins_lands at _ (framed (kinds w scope) []) refl
      sta_keeps (Open lock at' p) l n scope xs k marks h =
          begins_lands at _ (framed (kinds w scope) []) refl
      sta_keeps (Close lock at' p) l n scope xs k marks h =
          begins_lands at _ (framed (kinds w scope) []) refl
      sta_keeps (SetLocal x q e at' p) l n scope xs k marks h =
          begins_lands at _ (framed (kinds w scope) []) (expr_begins e n _)
      sta_keeps (SetStatic c f e at' p) l n scope xs k marks h =
          begins_lands at _ (framed (kinds w scope) []) (expr_begins e n _)
      sta_keeps (SetField o c f e at' p) l n scope xs k marks h =
          begins_lands at _ (framed (kinds w scope) []) (expr_begins o n _)
      sta_keeps (Eval e at' p) l n scope xs k marks h =
          begins_lands at _ (framed (kinds w scope) []) (expr_begins e n _)
      sta_keeps (When lock s o at' p) l n scope xs k marks h =
          begins_lands at _ (framed (kinds w scope) []) refl

      all_keeps : (ss : TStas) (l : Loop) (n : ℕ) (scope : Types) (xs : List Item)
          (k : List Marked) → Marks (all_signs w declared ss n scope k)
          → (all_empty ss ≡ true → Keeps xs (kinds w scope))
          → Keeps (all_code w ss l n xs) (kinds w scope)
      all_keeps End l n scope xs k marks h = h refl
      all_keeps (Then s ss) l n scope xs k marks h =
          sta_keeps s l n scope _ _ marks
          (λ is. let same = empty_scope declared s scope is in
          subst (λ (z : Types). Keeps (all_code w ss l (labels s n) xs) (kinds w z)) same
          (all_keeps ss l (labels s n) (scope_behind declared s scope) xs k
          (sta_rest w declared (λ m. at m.label ≡ m.sign) s n scope _ marks)
          (λ all. subst (λ (z : Types). Keeps xs (kinds w z)) (sym same)
          (h (and_both (is_empty s) (all_empty ss) is all)))))
