-- What each form of a target comes to.
use Rattle.std.proofs.Common.{◌≡◌, ℕ, List, refl}
use Rattle.par_typed.specs.par_lexer.declared.operator.BinOp.{BinOp}
use Rattle.par_tree.specs.declared.ident.Ident.{Ident}
use Rattle.par_tree.specs.Plain.{Exp, Int, True, False, Null, This, New, Name, Field, Call, Neg}
use Rattle.par_tree.specs.Plain.{Not, Binary}
use Rattle.par_tree.specs.Plain.{Exps, MayExp}
use Rattle.par_scope.specs.declared.meaning.Receiver.TheVariants.{Own}
use Rattle.par_scope.specs.Home.{Home}
use Rattle.par_scope.specs.Meaning.{type_of, receiver_of, selected}
use Rattle.par_type_rules.specs.Frames.{Frame, var_named}
use Rattle.par_type_rules.specs.TypedExprs.{own_this, typed_exp}
use Rattle.par_type_rules.specs.TypedStmts.{Nowhere, target, name_target, selected_target}

pub target_int : (home : Home) (frame : Frame) (p : ℕ) (n : ℕ) (at : ℕ) →
    target home frame p (Int n at) ≡ Nowhere
unfolding target
target_int home frame p n at = refl

pub target_true : (home : Home) (frame : Frame) (p : ℕ) (at : ℕ) →
    target home frame p (True at) ≡ Nowhere
unfolding target
target_true home frame p at = refl

pub target_false : (home : Home) (frame : Frame) (p : ℕ) (at : ℕ) →
    target home frame p (False at) ≡ Nowhere
unfolding target
target_false home frame p at = refl

pub target_null : (home : Home) (frame : Frame) (p : ℕ) (at : ℕ) →
    target home frame p (Null at) ≡ Nowhere
unfolding target
target_null home frame p at = refl

pub target_this : (home : Home) (frame : Frame) (p : ℕ) (at : ℕ) →
    target home frame p (This at) ≡ Nowhere
unfolding target
target_this home frame p at = refl

pub target_new : (home : Home) (frame : Frame) (p : ℕ) (class : Ident) (at : ℕ) →
    target home frame p (New class at) ≡ Nowhere
unfolding target
target_new home frame p class at = refl

pub target_name : (home : Home) (frame : Frame) (p : ℕ) (n : List ℕ) (at : ℕ) →
    target home frame p (Name n at) ≡ name_target home (var_named frame n) (selected home Own n)
    (own_this home at p)
unfolding target
target_name home frame p n at = refl

pub target_field : (home : Home) (frame : Frame) (p : ℕ) (e : Exp) (f : Ident) (at : ℕ) →
    target home frame p (Field e f at) ≡ selected_target (receiver_of home frame.scope e (type_of
    home frame.scope e)) (selected home (receiver_of home frame.scope e (type_of home frame.scope
    e)) f.name) (typed_exp home frame p e)
unfolding target
target_field home frame p e f at = refl

pub target_call : (home : Home) (frame : Frame) (p : ℕ) (o : MayExp) (m : Ident) (es : Exps) (at :
    ℕ) →
    target home frame p (Call o m es at) ≡ Nowhere
unfolding target
target_call home frame p o m es at = refl

pub target_neg : (home : Home) (frame : Frame) (p : ℕ) (e : Exp) (at : ℕ) →
    target home frame p (Neg e at) ≡ Nowhere
unfolding target
target_neg home frame p e at = refl

pub target_not : (home : Home) (frame : Frame) (p : ℕ) (e : Exp) (at : ℕ) →
    target home frame p (Not e at) ≡ Nowhere
unfolding target
target_not home frame p e at = refl

pub target_binary : (home : Home) (frame : Frame) (p : ℕ) (op : BinOp) (a : Exp) (b : Exp) (at : ℕ)
    →
    target home frame p (Binary op a b at) ≡ Nowhere
unfolding target
target_binary home frame p op a b at = refl

pub ruleset forms = (
  target_int,
  target_true,
  target_false,
  target_null,
  target_this,
  target_new,
  target_name,
  target_field,
  target_call,
  target_neg,
  target_not,
  target_binary,
)
