-- The type of each form of expression.
use Rattle.std.proofs.Common.{◌≡◌, ℕ, List, Some, refl}
use Rattle.par_typed.specs.par_lexer.declared.operator.BinOp.{BinOp}
use Rattle.par_tree.specs.declared.ident.Ident.{Ident}
use Rattle.par_tree.specs.Plain.{Exp, Int, True, False, Null, This, New, Name, Field, Call, Neg}
use Rattle.par_tree.specs.Plain.{Not, Binary}
use Rattle.par_tree.specs.Plain.{Exps, MayExp, Absent, Present}
use Rattle.par_typed.specs.declared.ty.Ty.TheVariants as ty
use Rattle.par_scope.specs.declared.meaning.Receiver.TheVariants.{Own}
use Rattle.par_scope.specs.Locals.{Scope}
use Rattle.par_scope.specs.Home.{Home, class_named, class_type}
use Rattle.par_scope.specs.Meaning.{type_of, called_on, type_of_name, place_type, selected}
use Rattle.par_scope.specs.Meaning.{receiver_of}
use Rattle.par_scope.specs.Meaning.{callee_type, called, op_type}

pub type_of_int : (home : Home) (scope : Scope) (n : ℕ) (at : ℕ) →
    type_of home scope (Int n at)
    ≡ (Some ty.Int)
unfolding type_of
type_of_int home scope n at = refl

pub type_of_true : (home : Home) (scope : Scope) (at : ℕ) →
    type_of home scope (True at)
    ≡ (Some ty.Boolean)
unfolding type_of
type_of_true home scope at = refl

pub type_of_false : (home : Home) (scope : Scope) (at : ℕ) →
    type_of home scope (False at)
    ≡ (Some ty.Boolean)
unfolding type_of
type_of_false home scope at = refl

pub type_of_null : (home : Home) (scope : Scope) (at : ℕ) →
    type_of home scope (Null at)
    ≡ (Some ty.Null)
unfolding type_of
type_of_null home scope at = refl

pub type_of_this : (home : Home) (scope : Scope) (at : ℕ) →
    type_of home scope (This at)
    ≡ (Some (ty.Class home.class))
unfolding type_of
type_of_this home scope at = refl

pub type_of_new : (home : Home) (scope : Scope) (class : Ident) (at : ℕ) →
    type_of home scope (New class at)
    ≡ (class_type (class_named home.names class.name))
unfolding type_of
type_of_new home scope class at = refl

pub form_of_name : (home : Home) (scope : Scope) (n : List ℕ) (at : ℕ) →
    type_of home scope (Name n at)
    ≡ (type_of_name home scope n)
unfolding type_of
form_of_name home scope n at = refl

pub type_of_field : (home : Home) (scope : Scope) (e : Exp) (f : Ident) (at : ℕ) →
    type_of home scope (Field e f at)
    ≡ (place_type home.table
    (selected home (receiver_of home scope e (type_of home scope e)) f.name))
unfolding type_of
type_of_field home scope e f at = refl

pub type_of_call : (home : Home) (scope : Scope) (o : MayExp) (m : Ident) (es : Exps) (at : ℕ) →
    type_of home scope (Call o m es at)
    ≡ (callee_type home.table (called home (called_on home scope o) m.name))
unfolding type_of
type_of_call home scope o m es at = refl

pub type_of_neg : (home : Home) (scope : Scope) (e : Exp) (at : ℕ) →
    type_of home scope (Neg e at)
    ≡ (Some ty.Int)
unfolding type_of
type_of_neg home scope e at = refl

pub type_of_not : (home : Home) (scope : Scope) (e : Exp) (at : ℕ) →
    type_of home scope (Not e at)
    ≡ (Some ty.Boolean)
unfolding type_of
type_of_not home scope e at = refl

pub type_of_binary : (home : Home) (scope : Scope) (op : BinOp) (a : Exp) (b : Exp) (at : ℕ) →
    type_of home scope (Binary op a b at)
    ≡ (Some (op_type op))
unfolding type_of
type_of_binary home scope op a b at = refl

pub called_on_absent : (home : Home) (scope : Scope) →
    called_on home scope Absent
    ≡ (Own)
unfolding type_of
called_on_absent home scope = refl

pub called_on_present : (home : Home) (scope : Scope) (e : Exp) →
    called_on home scope (Present e)
    ≡ (receiver_of home scope e (type_of home scope e))
unfolding type_of
called_on_present home scope e = refl

pub ruleset types = (
  type_of_int,
  type_of_true,
  type_of_false,
  type_of_null,
  type_of_this,
  type_of_new,
  form_of_name,
  type_of_field,
  type_of_call,
  type_of_neg,
  type_of_not,
  type_of_binary,
  called_on_absent,
  called_on_present,
)
