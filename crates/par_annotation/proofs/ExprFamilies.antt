-- What each family of expressions needs.
use Rattle.std.proofs.Common.{◌≡◌, ℕ, ◌+◌, List, Option, refl, sym, ap, ◌∙◌}
use Rattle.std.specs.declared.boxed.Box.{Box}
use Rattle.std.specs.declared.alloc.Global.{Global}
use Rattle.par_tree.specs.declared.ident.Ident.{Ident}
use Rattle.par_tree.specs.declared.expr.Expr.{Expr}
use Rattle.par_tree.specs.declared.expr.ExprKind.TheVariants as expr
use Rattle.par_tree.specs.Plain.{Name, Exps, MayExp, Call}
use Rattle.par_tree.specs.Shown.{kind_at, shown, receiver, all_shown}
use Rattle.par_tree.proofs.Shown as tree
use Rattle.par_typed.specs.Plain.{MayTExp}
use Rattle.par_typed.proofs.Shown as typed
use Rattle.par_scope.specs.declared.meaning.Receiver.{Receiver}
use Rattle.par_scope.specs.Locals.{Scope, local_named, is_notnull}
use Rattle.par_scope.specs.Home.{Home}
use Rattle.par_scope.specs.Meaning.{type_of, called_on, sure}
use Rattle.par_scope.proofs.Forms as type
use Rattle.par_type_rules.specs.Frames.{Frame}
use Rattle.par_type_rules.specs.TypedExprs.{typed_exp, typed_may}
use Rattle.par_annotation.specs.Calls.{call_named}
use Rattle.par_annotation.proofs.NodeForms as node
use Rattle.par_annotation.proofs.ExprForms as form

-- a name is never null where its local is not
pub sure_name : (scope : Scope) (n : List ℕ) (at : ℕ)
    → sure scope (Name n at) ≡ is_notnull (local_named scope n)
unfolding sure
sure_name scope n at = refl

-- a call of which the receiver is made
call_is : (home : Home) (frame : Frame) (p : ℕ) (o : MayExp) (m : Ident) (es : Exps) (at : ℕ)
    (on : Receiver) (written : MayTExp)
    → on ≡ called_on home frame.scope o → written ≡ typed_may home frame (p + 1) o
    → call_named home frame on m.name written es at p
    ≡ typed_exp home frame p (Call o m es at)
unfolding typed_exp type_of
call_is home frame p o m es at on written called is =
    ap (λ r. call_named home frame r m.name written es at p) called
    ∙ ap (λ w. call_named home frame (called_on home frame.scope o) m.name w es at p) is

call_shown : (e : Expr) (o : Option (Box Expr Global)) (m : Ident) (es args : List Expr)
    → e.kind ≡ expr.Call o m es → args ≡ es
    → Call (receiver o) m (all_shown args) e.at ≡ shown e
call_shown e o m es args is same =
    ap (λ xs. Call (receiver o) m (all_shown xs) e.at) same
    ∙ sym (ap (λ k. kind_at k e.at) is ∙ tree.shown_call o m es e.at)

-- the same of a call as it is read, with its points
pub call_made : (home : Home) (frame : Frame) (p point next : ℕ) (e : Expr)
    (o : Option (Box Expr Global)) (m : Ident) (es args : List Expr) (on : Receiver)
    (written : MayTExp)
    → e.kind ≡ expr.Call o m es → args ≡ es → point ≡ p → next ≡ p + 1
    → on ≡ called_on home frame.scope (receiver o)
    → written ≡ typed_may home frame next (receiver o)
    → call_named home frame on m.name written (all_shown args) e.at point
    ≡ typed_exp home frame p (shown e)
call_made home frame p point next e o m es args on written is same taken counted called made =
    ap (λ k. call_named home frame on m.name written (all_shown args) e.at k) taken
    ∙ call_is home frame p (receiver o) m (all_shown args) e.at on written called
    (made ∙ ap (λ k. typed_may home frame k (receiver o)) counted)
    ∙ ap (λ x. typed_exp home frame p x) (call_shown e o m es args is same)

pub ruleset name_forms = (form.typed_exp_name, type.form_of_name, sure_name)

pub ruleset field_forms = (form.typed_exp_field, type.type_of_field)

pub ruleset negation_forms = (
  form.typed_exp_neg,
  form.no_ints_neg,
  node.nodes_int,
  node.nodes_neg,
  typed.shown_int,
  typed.shown_neg,
)

pub ruleset inversion_forms = (form.typed_exp_not, node.nodes_not, typed.shown_not)

-- what a call is made on
pub ruleset receiver_forms = (
  form.typed_may_absent,
  form.typed_may_present,
  form.of_may_nodes_absent,
  form.of_may_nodes_present,
  form.may_no_ints_absent,
  form.may_no_ints_present,
  node.may_nodes_absent,
  node.may_nodes_present,
  type.called_on_absent,
  type.called_on_present,
)

pub ruleset call_forms = (
  node.may_nodes_absent,
  node.nodes_null,
  node.nodes_input,
  node.nodes_output,
  node.nodes_call,
  typed.shown_null,
  typed.shown_input,
  typed.shown_output,
  typed.shown_call,
)

-- arguments
pub ruleset args_forms = (
  form.typed_args_noexps,
  form.typed_args_more,
  form.of_args_nodes_noexps,
  form.of_args_nodes_more,
  form.args_no_ints_noexps,
  form.args_no_ints_more,
  node.nodes_null,
  node.args_nodes_noexps,
  node.args_nodes_more,
  node.before_none,
  node.before_all,
  node.before_push,
  node.args_push,
  typed.shown_null,
)

-- the nodes and the numbers of the parts
pub ruleset part_nodes = (
  form.of_nodes_field,
  form.of_nodes_call,
  form.of_nodes_neg,
  form.of_nodes_not,
  form.of_nodes_binary,
  tree.shown_field,
  tree.shown_call,
  tree.shown_neg,
  tree.shown_not,
  tree.shown_binary,
)

pub ruleset part_ints = (
  form.no_ints_field,
  form.no_ints_call,
  form.no_ints_not,
  form.no_ints_binary,
  tree.shown_field,
  tree.shown_call,
  tree.shown_neg,
  tree.shown_not,
  tree.shown_binary,
)

-- what is assigned to
pub ruleset target_forms = (
  form.of_nodes_name,
  form.of_nodes_field,
  form.no_ints_field,
  tree.shows,
)

-- each form where an expression is told by it
pub ruleset int_forms = (
  form.typed_exp_int,
  form.of_nodes_int,
  form.no_ints_int,
  node.nodes_int,
  type.type_of_int,
  tree.shown_int,
  typed.shown_int,
)

pub ruleset truth_forms = (
  form.typed_exp_true,
  form.typed_exp_false,
  form.of_nodes_true,
  form.of_nodes_false,
  node.nodes_boolean,
  type.type_of_true,
  type.type_of_false,
  tree.shown_true,
  tree.shown_false,
  typed.shown_bool,
)

pub ruleset null_forms = (
  form.typed_exp_null,
  form.of_nodes_null,
  node.nodes_null,
  type.type_of_null,
  tree.shown_null,
  typed.shown_null,
)

pub ruleset this_forms = (
  form.typed_exp_this,
  form.of_nodes_this,
  node.nodes_this,
  type.type_of_this,
  tree.shown_this,
  typed.shown_this,
)

pub ruleset new_forms = (
  form.typed_exp_new,
  form.of_nodes_new,
  node.nodes_new,
  type.type_of_new,
  tree.shown_new,
)

pub ruleset named_forms = (form.of_nodes_name, tree.shown_name)

pub ruleset of_field_forms = (form.of_nodes_field, tree.shown_field)

pub ruleset called_forms = (form.of_nodes_call, type.type_of_call, tree.shown_call)

pub ruleset negated_forms = (form.of_nodes_neg, type.type_of_neg, tree.shown_neg)

pub ruleset inverted_forms = (form.of_nodes_not, type.type_of_not, tree.shown_not)

pub ruleset binary_forms = (
  form.typed_exp_binary,
  form.of_nodes_binary,
  node.nodes_binary,
  type.type_of_binary,
  tree.shown_binary,
  typed.shown_binary,
)
