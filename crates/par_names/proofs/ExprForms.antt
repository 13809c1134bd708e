-- The broken rules on names of each form of an expression.
use Rattle.std.proofs.Common.{◌≡◌, ℕ, Bool, ◌++◌, List, [], Option, Some, None, refl}
use Rattle.par_typed.specs.par_lexer.declared.operator.BinOp.{BinOp}
use Rattle.par_tree.specs.declared.ident.Ident.{Ident}
use Rattle.par_tree.specs.Plain.{Exp, Int, True, False, Null, This, New, Name, Field}
use Rattle.par_tree.specs.Plain.{Call, Neg}
use Rattle.par_tree.specs.Plain.{Not, Binary}
use Rattle.par_tree.specs.Plain.{Exps, NoExps, More, MayExp, Absent, Present, Class}
use Rattle.par_tree.specs.Plain.{place}
use Rattle.par_tree.proofs.Shown.{shows}
use Rattle.par_refusals.specs.declared.refusal.Refusal.{Refusal}
use Rattle.par_refusals.specs.First.{when, broken}
use Rattle.par_refusals.proofs.First.{firsts}
use Rattle.par_names.specs.Declarations.{class_named}
use Rattle.par_names.specs.Members.{selected_named, callee_named}
use Rattle.par_names.specs.Policies.{View, class_fault}
use Rattle.par_names.specs.Exprs.{Home, own_fault, name_fault, class_before, static_fault}
use Rattle.par_names.specs.Exprs.{member_faults}
use Rattle.par_names.specs.Exprs.{expr_faults, callee_faults, args_faults, value_faults}
use Rattle.par_names.proofs.Noted.{not_not}

module _ (v : View) (home : Home) (ls : List (List ℕ)) where
  pub in_int : (n at : ℕ) → expr_faults v home ls (Int n at) ≡ []
  unfolding expr_faults
  in_int n at = refl

  pub in_true : (at : ℕ) → expr_faults v home ls (True at) ≡ []
  unfolding expr_faults
  in_true at = refl

  pub in_false : (at : ℕ) → expr_faults v home ls (False at) ≡ []
  unfolding expr_faults
  in_false at = refl

  pub in_null : (at : ℕ) → expr_faults v home ls (Null at) ≡ []
  unfolding expr_faults
  in_null at = refl

  pub in_this : (at : ℕ) → expr_faults v home ls (This at) ≡ when home.is_static (broken 101 at)
  unfolding expr_faults
  in_this at = refl

  pub in_new : (class : Ident) (at : ℕ) → expr_faults v home ls (New class at) ≡ class_fault v class
  unfolding expr_faults
  in_new class at = refl

  pub in_name : (n : List ℕ) (at : ℕ) → expr_faults v home ls (Name n at) ≡ name_fault home ls n at
  unfolding expr_faults
  in_name n at = refl

  pub in_field : (e : Exp) (f : Ident) (at : ℕ)
      → expr_faults v home ls (Field e f at)
      ≡ member_faults v selected_named (class_before home ls e) (place e) f
      (expr_faults v home ls e)
  unfolding expr_faults
  in_field e f at = refl

  pub in_call : (o : MayExp) (m : Ident) (es : Exps) (at : ℕ)
      → expr_faults v home ls (Call o m es at)
      ≡ callee_faults v home ls o m ++ args_faults v home ls es
  unfolding expr_faults
  in_call o m es at = refl

  pub in_neg : (e : Exp) (at : ℕ) → expr_faults v home ls (Neg e at) ≡ expr_faults v home ls e
  unfolding expr_faults
  in_neg e at = refl

  pub in_not : (e : Exp) (at : ℕ) → expr_faults v home ls (Not e at) ≡ expr_faults v home ls e
  unfolding expr_faults
  in_not e at = refl

  pub in_binary : (op : BinOp) (a b : Exp) (at : ℕ)
      → expr_faults v home ls (Binary op a b at)
      ≡ expr_faults v home ls a ++ expr_faults v home ls b
  unfolding expr_faults
  in_binary op a b at = refl

  pub in_no_receiver : (m : Ident)
      → callee_faults v home ls Absent m
      ≡ own_fault home.is_static (callee_named home.own m.name) m.at
  unfolding callee_faults
  in_no_receiver m = refl

  pub in_receiver : (e : Exp) (m : Ident)
      → callee_faults v home ls (Present e) m
      ≡ member_faults v callee_named (class_before home ls e) (place e) m (expr_faults v home ls e)
  unfolding callee_faults
  in_receiver e m = refl

  pub in_no_args : args_faults v home ls NoExps ≡ []
  unfolding args_faults
  in_no_args = refl

  pub in_more_args : (e : Exp) (es : Exps)
      → args_faults v home ls (More e es) ≡ expr_faults v home ls e ++ args_faults v home ls es
  unfolding args_faults
  in_more_args e es = refl

  pub in_no_value : value_faults v home ls Absent ≡ []
  unfolding value_faults
  in_no_value = refl

  pub in_value : (e : Exp) → value_faults v home ls (Present e) ≡ expr_faults v home ls e
  unfolding value_faults
  in_value e = refl

pub before_member : (v : View) (named : Class → List ℕ → Option Bool) (at : ℕ) (member : Ident)
    (fs : List Refusal) → member_faults v named None at member fs ≡ fs
unfolding member_faults
before_member v named at member fs = refl

pub class_member : (v : View) (named : Class → List ℕ → Option Bool) (class : List ℕ) (at : ℕ)
    (member : Ident) (fs : List Refusal)
    → member_faults v named (Some class) at member fs
    ≡ static_fault named (class_named v.classes class) at member
unfolding member_faults
class_member v named class at member fs = refl

-- one argument of a row
pub ruleset arg_forms = (in_no_args, in_more_args, firsts)

-- a value, or none
pub ruleset value_forms = (in_no_value, in_value, firsts)

pub ruleset form = (
  in_int,
  in_true,
  in_false,
  in_null,
  in_this,
  in_new,
  in_name,
  in_field,
  in_call,
  in_neg,
  in_not,
  in_binary,
  in_no_receiver,
  in_receiver,
  in_no_args,
  in_more_args,
  in_no_value,
  in_value,
  before_member,
  class_member,
  not_not,
  shows,
  firsts,
)
