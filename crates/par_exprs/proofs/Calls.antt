-- What a call is shown as, without a receiver and with one.
use Rattle.std.proofs.Common.{◌≡◌, ℕ, List, Some, None}
use Rattle.std.specs.declared.boxed.Box.{Box}
use Rattle.std.specs.declared.alloc.Global.{Global}
use Rattle.par_tree.specs.declared.ident.Ident.{Ident}
use Rattle.par_tree.specs.declared.expr.Expr.{Expr}
use Rattle.par_tree.specs.declared.expr.ExprKind.TheVariants as expr
use Rattle.par_tree.specs.Plain as plain
use Rattle.par_tree.specs.Shown.{kind_at, shown, all_shown}
use Rattle.par_tree.proofs.Shown.{shown_call}

pub shown_call_own : (m : Ident) (es : List Expr) (at : ℕ)
    → kind_at (expr.Call None m es) at ≡ plain.Call plain.Absent m (all_shown es) at
shown_call_own m es at = shown_call None m es at

pub shown_call_on : (b : Box Expr Global) (m : Ident) (es : List Expr) (at : ℕ)
    → kind_at (expr.Call (Some b) m es) at
    ≡ plain.Call (plain.Present (shown b.value)) m (all_shown es) at
shown_call_on b m es at = shown_call (Some b) m es at

pub ruleset calls = (shown_call_own, shown_call_on)
