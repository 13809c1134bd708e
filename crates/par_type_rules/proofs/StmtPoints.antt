-- The points of typed statements.
use Rattle.std.proofs.Common.{◌≡◌, ℕ, ◌+◌, Bool, true, false, List, ◌∷◌, ◌++◌, Option, Some, None}
use Rattle.std.proofs.Common.{sym, ap, ◌∙◌, arith}
use Rattle.par_tree.specs.Plain.{Exp, Int, True, False, Null, This, New, Name, Field}
use Rattle.par_tree.specs.Plain.{Call, Neg}
use Rattle.par_tree.specs.Plain.{Not, Binary}
use Rattle.par_tree.specs.Plain.{Sta, Block, If, While, Try, Return, Break, Continue}
use Rattle.par_tree.specs.Plain.{Throw, Open}
use Rattle.par_tree.specs.Plain.{Close}
use Rattle.par_tree.specs.Plain.{Declare, Assign, Do, When, Braces, In, MayBraces}
use Rattle.par_tree.specs.Plain.{NoBraces}
use Rattle.par_tree.specs.Plain.{Else, NoElse, Otherwise, Stas, End, Then, Catches}
use Rattle.par_tree.specs.Plain.{NoCatch, Catch}
use Rattle.par_tree.specs.Plain.{Handler, On}
use Rattle.par_tree.specs.Plain as plain
use Rattle.par_completes.specs.par_typed.Plain.{TExp}
use Rattle.par_completes.specs.par_typed.Nodes.{nodes, stmt_nodes, else_nodes, all_nodes}
use Rattle.par_completes.specs.par_typed.Nodes.{catch_nodes}
use Rattle.par_scope.specs.declared.members.Place.{Place}
use Rattle.par_scope.specs.declared.meaning.Receiver.{Receiver}
use Rattle.par_scope.specs.declared.meaning.Receiver.TheVariants.{Own, Class, Object}
use Rattle.par_scope.specs.Home.{Home}
use Rattle.par_scope.specs.Members.{field_at, field_is_static}
use Rattle.par_scope.specs.Meaning.{type_of, receiver_of, selected}
use Rattle.par_type_rules.specs.Frames.{Frame, Var, var_named, further}
use Rattle.par_type_rules.specs.TypedExprs.{own_this, typed_exp}
use Rattle.par_type_rules.specs.TypedStmts.{Written, Target, Nowhere, ToLocal, ToStatic, ToField}
use Rattle.par_type_rules.specs.TypedStmts.{target}
use Rattle.par_type_rules.specs.TypedStmts.{target_nodes, assignment}
use Rattle.par_type_rules.specs.TypedStmts.{own_target, field_target, name_target, selected_target}
use Rattle.par_type_rules.specs.TypedStmts.{behind}
use Rattle.par_type_rules.specs.TypedStmts.{typed_sta, typed_braces, typed_may_braces, typed_else}
use Rattle.par_type_rules.specs.TypedStmts.{typed_stas, typed_catches, typed_handler}
use Rattle.par_scope.specs.Own.{braces_locals, handler_locals}
use Rattle.par_type_rules.specs.Points.{count_from, points, stmt_points, else_points}
use Rattle.par_type_rules.specs.Points.{all_points}
use Rattle.par_type_rules.specs.Points.{catch_points}
use Rattle.par_type_rules.proofs.Points.{count_none, count_one, count_append, one_part}
use Rattle.par_type_rules.proofs.Points.{two_parts}
use Rattle.par_type_rules.proofs.Points.{this_counts, typed_exp_counts, typed_may_counts}

three_parts : (p a b c : ℕ) (xs ys zs : List ℕ) → xs ≡ count_from (p + 1) a
    → ys ≡ count_from (p + 1 + a) b
    → zs ≡ count_from (p + 1 + a + b) c → p ∷ (xs ++ ys ++ zs) ≡ count_from p (1 + a + b + c)
three_parts p a b c xs ys zs one two three =
    let front : xs ++ ys ≡ count_from (p + 1) (a + b) =
    ap (λ us. us ++ ys) one ∙ ap (λ us. count_from (p + 1) a ++ us) two
    ∙ sym (count_append (p + 1) a b) in
    let on : p + 1 + a + b ≡ p + 1 + (a + b) = omega arith in
    let same : 1 + (a + b) + c ≡ 1 + a + b + c = omega arith in
    two_parts p (a + b) c (xs ++ ys) zs front (three ∙ ap (λ k. count_from k c) on)
    ∙ ap (count_from p) same

-- the object of a target
abbrev TargetCounts : ℕ → Target → Type 0
TargetCounts p Nowhere = Unit {0}
TargetCounts p (ToLocal var) = Unit {0}
TargetCounts p (ToStatic field) = Unit {0}
TargetCounts p (ToField e field) = points e ≡ count_from p (nodes e)

own_target_counts : (b : Bool) (e : TExp) (f : Place) (p : ℕ) → points e ≡ count_from p (nodes e)
    → TargetCounts p (own_target b e f)
own_target_counts true e f p is = tt
own_target_counts false e f p is = is

field_target_counts : (home : Home) (f : Option Place) (e : TExp) (p : ℕ)
    → points e ≡ count_from p (nodes e) → TargetCounts p (field_target home f e)
field_target_counts home None e p is = tt
field_target_counts home (Some f) e p is =
    own_target_counts (field_is_static (field_at home.table f)) e f p is

name_target_counts : (home : Home) (x : Option Var) (f : Option Place) (e : TExp) (p : ℕ)
    → points e ≡ count_from p (nodes e)
    → TargetCounts p (name_target home x f e)
name_target_counts home None f e p is = field_target_counts home f e p is
name_target_counts home (Some x) f e p is = tt

selected_target_counts : (r : Receiver) (f : Option Place) (e : TExp) (p : ℕ)
    → points e ≡ count_from p (nodes e) → TargetCounts p (selected_target r f e)
selected_target_counts r None e p is = tt
selected_target_counts Own (Some f) e p is = tt
selected_target_counts (Class class) (Some f) e p is = tt
selected_target_counts (Object t) (Some f) e p is = is

target_counts : (home : Home) (frame : Frame) (p : ℕ) (e : Exp)
    → TargetCounts p (target home frame p e)
unfolding target
target_counts home frame p (Int n at) = tt
target_counts home frame p (True at) = tt
target_counts home frame p (False at) = tt
target_counts home frame p (Null at) = tt
target_counts home frame p (This at) = tt
target_counts home frame p (New class at) = tt
target_counts home frame p (Name n at) =
    name_target_counts home (var_named frame n) (selected home Own n) (own_this home at p) p
    (this_counts home at p)
target_counts home frame p (Field e f at) =
    selected_target_counts (receiver_of home frame.scope e (type_of home frame.scope e))
    (selected home (receiver_of home frame.scope e (type_of home frame.scope e)) f.name)
    (typed_exp home frame p e) p (typed_exp_counts home frame p e)
target_counts home frame p (Call o m es at) = tt
target_counts home frame p (Neg e at) = tt
target_counts home frame p (Not e at) = tt
target_counts home frame p (Binary op a b at) = tt

no_more : (p : ℕ) → p + 1 + 0 ≡ p + 1
no_more p = omega arith

assignment_counts : (t : Target) (v : TExp) (at p : ℕ) → TargetCounts (p + 1) t
    → points v ≡ count_from (p + 1 + target_nodes t) (nodes v)
    → stmt_points (assignment t v at p) ≡ count_from p (stmt_nodes (assignment t v at p))
unfolding stmt_points stmt_nodes
assignment_counts Nowhere v at p of is =
    one_part p (nodes v) (points v) (is ∙ ap (λ k. count_from k (nodes v)) (no_more p))
assignment_counts (ToLocal x) v at p of is =
    one_part p (nodes v) (points v) (is ∙ ap (λ k. count_from k (nodes v)) (no_more p))
assignment_counts (ToStatic f) v at p of is =
    one_part p (nodes v) (points v) (is ∙ ap (λ k. count_from k (nodes v)) (no_more p))
assignment_counts (ToField e f) v at p of is =
    two_parts p (nodes e) (nodes v) (points e) (points v) of is

joined : (p m n : ℕ) (xs ys : List ℕ) → xs ≡ count_from p m → ys ≡ count_from (p + m) n
    → xs ++ ys ≡ count_from p (m + n)
joined p m n xs ys one other =
    ap (λ us. us ++ ys) one ∙ ap (λ us. count_from p m ++ us) other ∙ sym (count_append p m n)

mutual
  unfolding stmt_points stmt_nodes typed_sta

  pub typed_sta_counts : (w : Written) (home : Home) (frame : Frame) (p : ℕ) (s : Sta)
      → stmt_points (typed_sta w home frame p s)
      ≡ count_from p (stmt_nodes (typed_sta w home frame p s))
  typed_sta_counts w home frame p (Block b at) = typed_braces_counts w home frame p b
  typed_sta_counts w home frame p (If e b o at) =
      three_parts p _ _ _ _ _ _ (typed_exp_counts home frame (p + 1) e)
      (typed_braces_counts w home frame (p + 1 + nodes (typed_exp home frame (p + 1) e)) b)
      (typed_else_counts w home (further frame (braces_locals b))
      (p + 1 + nodes (typed_exp home frame (p + 1) e)
      + stmt_nodes (typed_braces w home frame (p + 1 + nodes (typed_exp home frame (p + 1) e)) b))
      o)
  typed_sta_counts w home frame p (While e b at) =
      two_parts p _ _ _ _ (typed_exp_counts home frame (p + 1) e)
      (typed_braces_counts w home frame (p + 1 + nodes (typed_exp home frame (p + 1) e)) b)
  typed_sta_counts w home frame p (Try b cs at) =
      two_parts p _ _ _ _ (typed_braces_counts w home frame (p + 1) b)
      (typed_catches_counts w home (further frame (braces_locals b))
      (p + 1 + stmt_nodes (typed_braces w home frame (p + 1) b)) cs)
  typed_sta_counts w home frame p (Return e at) =
      one_part p _ _ (typed_may_counts home frame (p + 1) e)
  typed_sta_counts w home frame p (Break at) = sym (count_one p)
  typed_sta_counts w home frame p (Continue at) = sym (count_one p)
  typed_sta_counts w home frame p (Throw class at) = sym (count_one p)
  typed_sta_counts w home frame p (Open lock at) = sym (count_one p)
  typed_sta_counts w home frame p (Close lock at) = sym (count_one p)
  typed_sta_counts w home frame p (Declare local at) =
      one_part p _ _ (typed_exp_counts home frame (p + 1) local.value)
  typed_sta_counts w home frame p (Assign e value at) =
      assignment_counts (target home frame (p + 1) e)
      (typed_exp home frame (p + 1 + target_nodes (target home frame (p + 1) e)) value) at p
      (target_counts home frame (p + 1) e)
      (typed_exp_counts home frame (p + 1 + target_nodes (target home frame (p + 1) e)) value)
  typed_sta_counts w home frame p (Do call at) =
      one_part p _ _ (typed_exp_counts home frame (p + 1) call)
  typed_sta_counts w home frame p (When lock b o at) =
      two_parts p _ _ _ _ (typed_braces_counts w home frame (p + 1) b)
      (typed_may_braces_counts w home (further frame (braces_locals b))
      (p + 1 + stmt_nodes (typed_braces w home frame (p + 1) b)) o)

  pub typed_braces_counts : (w : Written) (home : Home) (frame : Frame) (p : ℕ) (b : Braces)
      → stmt_points (typed_braces w home frame p b)
      ≡ count_from p (stmt_nodes (typed_braces w home frame p b))
  typed_braces_counts w home frame p (In ss at) =
      one_part p _ _ (typed_stas_counts w home frame (p + 1) ss)

  typed_may_braces_counts : (w : Written) (home : Home) (frame : Frame) (p : ℕ) (o : MayBraces)
      → else_points (typed_may_braces w home frame p o)
      ≡ count_from p (else_nodes (typed_may_braces w home frame p o))
  typed_may_braces_counts w home frame p NoBraces = sym (count_none p)
  typed_may_braces_counts w home frame p (plain.Some b) = typed_braces_counts w home frame p b

  typed_else_counts : (w : Written) (home : Home) (frame : Frame) (p : ℕ) (o : Else)
      → else_points (typed_else w home frame p o)
      ≡ count_from p (else_nodes (typed_else w home frame p o))
  typed_else_counts w home frame p NoElse = sym (count_none p)
  typed_else_counts w home frame p (Otherwise s) = typed_sta_counts w home frame p s

  typed_stas_counts : (w : Written) (home : Home) (frame : Frame) (p : ℕ) (ss : Stas)
      → all_points (typed_stas w home frame p ss)
      ≡ count_from p (all_nodes (typed_stas w home frame p ss))
  typed_stas_counts w home frame p End = sym (count_none p)
  typed_stas_counts w home frame p (Then s ss) =
      joined p _ _ _ _ (typed_sta_counts w home frame p s)
      (typed_stas_counts w home (behind w home s frame)
      (p + stmt_nodes (typed_sta w home frame p s)) ss)

  typed_catches_counts : (w : Written) (home : Home) (frame : Frame) (p : ℕ) (cs : Catches)
      → catch_points (typed_catches w home frame p cs)
      ≡ count_from p (catch_nodes (typed_catches w home frame p cs))
  typed_catches_counts w home frame p NoCatch = sym (count_none p)
  typed_catches_counts w home frame p (Catch c cs) =
      joined p _ _ _ _ (typed_handler_counts w home frame p c)
      (typed_catches_counts w home (further frame (handler_locals c))
      (p + stmt_nodes (typed_handler w home frame p c)) cs)

  typed_handler_counts : (w : Written) (home : Home) (frame : Frame) (p : ℕ) (c : Handler)
      → stmt_points (typed_handler w home frame p c)
      ≡ count_from p (stmt_nodes (typed_handler w home frame p c))
  typed_handler_counts w home frame p (On class name b) = typed_braces_counts w home frame p b
