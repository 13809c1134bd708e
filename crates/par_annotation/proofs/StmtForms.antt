-- The typed tree of each form of statement, and its counts.
use Rattle.std.proofs.Common.{◌≡◌, ℕ, ◌+◌, ◌<◌, refl, arith}
use Rattle.par_tree.specs.declared.ident.Ident.{Ident}
use Rattle.par_tree.specs.declared.policy.LockTree.{LockTree}
use Rattle.par_tree.specs.Plain.{Exp, MayExp, Local}
use Rattle.par_tree.specs.Plain.{Sta, Block, If, While, Try, Return, Break, Continue, Throw, Open}
use Rattle.par_tree.specs.Plain.{Close}
use Rattle.par_tree.specs.Plain.{Declare, Assign, Do, When, Braces, In, MayBraces, NoBraces}
use Rattle.par_tree.specs.Plain.{Else, NoElse, Otherwise, Stas, End, Then, Catches, NoCatch, Catch}
use Rattle.par_tree.specs.Plain.{Handler, On}
use Rattle.par_tree.specs.Plain as plain
use Rattle.par_tree.specs.Nodes.{nodes, may_nodes, stmt_nodes, braces_nodes, may_braces_nodes}
use Rattle.par_tree.specs.Nodes.{else_nodes}
use Rattle.par_tree.specs.Nodes.{all_nodes, catch_nodes, handler_nodes}
use Rattle.par_typed.specs.Plain as typed
use Rattle.par_typed.specs.Nodes as count
use Rattle.par_scope.specs.Home.{Home, class_named}
use Rattle.par_type_rules.specs.Stmts.{slot_of}
use Rattle.par_type_rules.specs.Frames.{Frame, with_local, further}
use Rattle.par_type_rules.specs.TypedExprs.{numbered, typed_exp, typed_may}
use Rattle.par_type_rules.specs.TypedStmts.{Written, may_policy, target, target_nodes, assignment}
use Rattle.par_type_rules.specs.TypedStmts.{behind}
use Rattle.par_scope.specs.Own.{locals_in, braces_locals, may_braces_locals}
use Rattle.par_scope.specs.Own.{else_locals}
use Rattle.par_scope.specs.Own.{all_locals}
use Rattle.par_type_rules.specs.TypedStmts.{typed_sta, typed_braces}
use Rattle.par_scope.specs.Own.{catches_locals, handler_locals}
use Rattle.par_type_rules.specs.TypedStmts.{typed_may_braces, typed_else, typed_stas, typed_catches}
use Rattle.par_type_rules.specs.TypedStmts.{typed_handler, caught}
use Rattle.par_annotation.specs.Ints.{no_ints, may_no_ints, stmt_no_ints, braces_no_ints}
use Rattle.par_annotation.specs.Ints.{may_braces_no_ints, else_no_ints, all_no_ints}
use Rattle.par_annotation.specs.Ints.{catches_no_ints}
use Rattle.par_annotation.specs.Ints.{handler_no_ints}

pub typed_sta_block : (w : Written) (home : Home) (frame : Frame) (p : ℕ) (b : Braces) (at : ℕ) →
    typed_sta w home frame p (Block b at) ≡ typed_braces w home frame p b
unfolding typed_sta
typed_sta_block w home frame p b at = refl

pub typed_sta_if : (w : Written) (home : Home) (frame : Frame) (p : ℕ) (e : Exp) (b : Braces) (o :
    Else) (at : ℕ) →
    typed_sta w home frame p (If e b o at) ≡ typed.If (typed_exp home frame (p + 1) e) (typed_braces
    w home frame (p + 1 + count.nodes (typed_exp home frame (p + 1) e)) b)
    (typed_else w home (further
    frame (braces_locals b)) (p + 1 + count.nodes (typed_exp home frame (p + 1) e)
    + count.stmt_nodes
    (typed_braces w home frame (p + 1 + count.nodes (typed_exp home frame (p + 1) e)) b)) o) at p
unfolding typed_sta
typed_sta_if w home frame p e b o at = refl

pub typed_sta_while : (w : Written) (home : Home) (frame : Frame) (p : ℕ) (e : Exp) (b : Braces) (at
    : ℕ) →
    typed_sta w home frame p (While e b at) ≡ typed.While (typed_exp home frame (p + 1) e)
    (typed_braces w home frame (p + 1 + count.nodes (typed_exp home frame (p + 1) e)) b) at p
unfolding typed_sta
typed_sta_while w home frame p e b at = refl

pub typed_sta_try : (w : Written) (home : Home) (frame : Frame) (p : ℕ) (b : Braces) (cs : Catches)
    (at : ℕ) →
    typed_sta w home frame p (Try b cs at) ≡ typed.Try (typed_braces w home frame (p + 1) b)
    (typed_catches w home (further frame (braces_locals b))
    (p + 1 + count.stmt_nodes (typed_braces w home
    frame (p + 1) b)) cs) at p
unfolding typed_sta
typed_sta_try w home frame p b cs at = refl

pub typed_sta_return : (w : Written) (home : Home) (frame : Frame) (p : ℕ) (e : MayExp) (at : ℕ) →
    typed_sta w home frame p (Return e at) ≡ typed.Return (typed_may home frame (p + 1) e) at p
unfolding typed_sta
typed_sta_return w home frame p e at = refl

pub typed_sta_break : (w : Written) (home : Home) (frame : Frame) (p : ℕ) (at : ℕ) →
    typed_sta w home frame p (Break at) ≡ typed.Break at p
unfolding typed_sta
typed_sta_break w home frame p at = refl

pub typed_sta_continue : (w : Written) (home : Home) (frame : Frame) (p : ℕ) (at : ℕ) →
    typed_sta w home frame p (Continue at) ≡ typed.Continue at p
unfolding typed_sta
typed_sta_continue w home frame p at = refl

pub typed_sta_throw : (w : Written) (home : Home) (frame : Frame) (p : ℕ) (class : Ident) (at : ℕ) →
    typed_sta w home frame p (Throw class at) ≡ typed.Throw (numbered (class_named home.names
    class.name)) at p
unfolding typed_sta
typed_sta_throw w home frame p class at = refl

pub typed_sta_open : (w : Written) (home : Home) (frame : Frame) (p : ℕ) (lock : LockTree) (at : ℕ)
    →
    typed_sta w home frame p (Open lock at) ≡ typed.Open (w.lock lock) at p
unfolding typed_sta
typed_sta_open w home frame p lock at = refl

pub typed_sta_close : (w : Written) (home : Home) (frame : Frame) (p : ℕ) (lock : LockTree) (at : ℕ)
    →
    typed_sta w home frame p (Close lock at) ≡ typed.Close (w.lock lock) at p
unfolding typed_sta
typed_sta_close w home frame p lock at = refl

pub typed_sta_declare : (w : Written) (home : Home) (frame : Frame) (p : ℕ) (local : Local) (at : ℕ)
    →
    typed_sta w home frame p (Declare local at) ≡ typed.SetLocal frame.next (may_policy w
    local.policy) (typed_exp home frame (p + 1) local.value) at p
unfolding typed_sta
typed_sta_declare w home frame p local at = refl

pub typed_sta_assign : (w : Written) (home : Home) (frame : Frame) (p : ℕ) (e : Exp) (value : Exp)
    (at : ℕ) →
    typed_sta w home frame p (Assign e value at) ≡ assignment (target home frame (p + 1) e)
    (typed_exp home frame (p + 1 + target_nodes (target home frame (p + 1) e)) value) at p
unfolding typed_sta
typed_sta_assign w home frame p e value at = refl

pub typed_sta_do : (w : Written) (home : Home) (frame : Frame) (p : ℕ) (call : Exp) (at : ℕ) →
    typed_sta w home frame p (Do call at) ≡ typed.Eval (typed_exp home frame (p + 1) call) at p
unfolding typed_sta
typed_sta_do w home frame p call at = refl

pub typed_sta_when : (w : Written) (home : Home) (frame : Frame) (p : ℕ) (lock : LockTree) (b :
    Braces) (o : MayBraces) (at : ℕ) →
    typed_sta w home frame p (When lock b o at)
    ≡ typed.When (w.lock lock) (typed_braces w home frame
    (p + 1) b) (typed_may_braces w home (further frame (braces_locals b)) (p + 1 + count.stmt_nodes
    (typed_braces w home frame (p + 1) b)) o) at p
unfolding typed_sta
typed_sta_when w home frame p lock b o at = refl

pub typed_braces_in : (w : Written) (home : Home) (frame : Frame) (p : ℕ) (ss : Stas) (at : ℕ) →
    typed_braces w home frame p (In ss at) ≡ typed.Block (typed_stas w home frame (p + 1) ss) at p
unfolding typed_sta
typed_braces_in w home frame p ss at = refl

pub typed_may_braces_nobraces : (w : Written) (home : Home) (frame : Frame) (p : ℕ) →
    typed_may_braces w home frame p NoBraces ≡ typed.NoElse
unfolding typed_sta
typed_may_braces_nobraces w home frame p = refl

pub typed_may_braces_some : (w : Written) (home : Home) (frame : Frame) (p : ℕ) (b : Braces) →
    typed_may_braces w home frame p (plain.Some b) ≡ typed.Otherwise (typed_braces w home frame p b)
unfolding typed_sta
typed_may_braces_some w home frame p b = refl

pub typed_else_noelse : (w : Written) (home : Home) (frame : Frame) (p : ℕ) →
    typed_else w home frame p NoElse ≡ typed.NoElse
unfolding typed_sta
typed_else_noelse w home frame p = refl

pub typed_else_otherwise : (w : Written) (home : Home) (frame : Frame) (p : ℕ) (s : Sta) →
    typed_else w home frame p (Otherwise s) ≡ typed.Otherwise (typed_sta w home frame p s)
unfolding typed_sta
typed_else_otherwise w home frame p s = refl

pub typed_stas_end : (w : Written) (home : Home) (frame : Frame) (p : ℕ) →
    typed_stas w home frame p End ≡ typed.End
unfolding typed_sta
typed_stas_end w home frame p = refl

pub typed_stas_then : (w : Written) (home : Home) (frame : Frame) (p : ℕ) (s : Sta) (ss : Stas) →
    typed_stas w home frame p (Then s ss) ≡ typed.Then (typed_sta w home frame p s) (typed_stas w
    home (behind w home s frame) (p + count.stmt_nodes (typed_sta w home frame p s)) ss)
unfolding typed_sta
typed_stas_then w home frame p s ss = refl

pub typed_catches_nocatch : (w : Written) (home : Home) (frame : Frame) (p : ℕ) →
    typed_catches w home frame p NoCatch ≡ typed.NoCatch
unfolding typed_sta
typed_catches_nocatch w home frame p = refl

pub typed_catches_catch : (w : Written) (home : Home) (frame : Frame) (p : ℕ) (c : Handler) (cs :
    Catches) →
    typed_catches w home frame p (Catch c cs) ≡ typed.Catch (caught home c) (typed_handler w home
    frame p c) (typed_catches w home (further frame (handler_locals c)) (p + count.stmt_nodes
    (typed_handler w home frame p c)) cs)
unfolding typed_sta
typed_catches_catch w home frame p c cs = refl

pub typed_handler_on : (w : Written) (home : Home) (frame : Frame) (p : ℕ) (class : Ident) (name :
    Ident) (b : Braces) →
    typed_handler w home frame p (On class name b) ≡ typed_braces w home frame p b
unfolding typed_sta
typed_handler_on w home frame p class name b = refl

pub caught_on : (home : Home) (class : Ident) (name : Ident) (b : Braces) →
    caught home (On class name b) ≡ numbered (class_named home.names class.name)
unfolding typed_sta
caught_on home class name b = refl

pub behind_block : (w : Written) (home : Home) (b : Braces) (at : ℕ) (frame : Frame) →
    behind w home (Block b at) frame ≡ further frame (locals_in (Block b at))
unfolding behind
behind_block w home b at frame = refl

pub behind_if : (w : Written) (home : Home) (e : Exp) (b : Braces) (o : Else) (at : ℕ) (frame :
    Frame) →
    behind w home (If e b o at) frame ≡ further frame (locals_in (If e b o at))
unfolding behind
behind_if w home e b o at frame = refl

pub behind_while : (w : Written) (home : Home) (e : Exp) (b : Braces) (at : ℕ) (frame : Frame) →
    behind w home (While e b at) frame ≡ further frame (locals_in (While e b at))
unfolding behind
behind_while w home e b at frame = refl

pub behind_try : (w : Written) (home : Home) (b : Braces) (cs : Catches) (at : ℕ) (frame : Frame) →
    behind w home (Try b cs at) frame ≡ further frame (locals_in (Try b cs at))
unfolding behind
behind_try w home b cs at frame = refl

pub behind_return : (w : Written) (home : Home) (e : MayExp) (at : ℕ) (frame : Frame) →
    behind w home (Return e at) frame ≡ frame
unfolding behind
behind_return w home e at frame = refl

pub behind_break : (w : Written) (home : Home) (at : ℕ) (frame : Frame) →
    behind w home (Break at) frame ≡ frame
unfolding behind
behind_break w home at frame = refl

pub behind_continue : (w : Written) (home : Home) (at : ℕ) (frame : Frame) →
    behind w home (Continue at) frame ≡ frame
unfolding behind
behind_continue w home at frame = refl

pub behind_throw : (w : Written) (home : Home) (class : Ident) (at : ℕ) (frame : Frame) →
    behind w home (Throw class at) frame ≡ frame
unfolding behind
behind_throw w home class at frame = refl

pub behind_open : (w : Written) (home : Home) (lock : LockTree) (at : ℕ) (frame : Frame) →
    behind w home (Open lock at) frame ≡ frame
unfolding behind
behind_open w home lock at frame = refl

pub behind_close : (w : Written) (home : Home) (lock : LockTree) (at : ℕ) (frame : Frame) →
    behind w home (Close lock at) frame ≡ frame
unfolding behind
behind_close w home lock at frame = refl

pub behind_declare : (w : Written) (home : Home) (local : Local) (at : ℕ) (frame : Frame) →
    behind w home (Declare local at) frame ≡ with_local frame local.id.name (slot_of home local)
    (may_policy w local.policy)
unfolding behind
behind_declare w home local at frame = refl

pub behind_assign : (w : Written) (home : Home) (target : Exp) (value : Exp) (at : ℕ) (frame :
    Frame) →
    behind w home (Assign target value at) frame ≡ frame
unfolding behind
behind_assign w home target value at frame = refl

pub behind_do : (w : Written) (home : Home) (call : Exp) (at : ℕ) (frame : Frame) →
    behind w home (Do call at) frame ≡ frame
unfolding behind
behind_do w home call at frame = refl

pub behind_when : (w : Written) (home : Home) (lock : LockTree) (b : Braces) (o : MayBraces) (at :
    ℕ) (frame : Frame) →
    behind w home (When lock b o at) frame ≡ further frame (locals_in (When lock b o at))
unfolding behind
behind_when w home lock b o at frame = refl

pub locals_in_block : (b : Braces) (at : ℕ) →
    locals_in (Block b at) ≡ braces_locals b
unfolding locals_in
locals_in_block b at = refl

pub locals_in_if : (e : Exp) (b : Braces) (o : Else) (at : ℕ) →
    locals_in (If e b o at) ≡ braces_locals b + else_locals o
unfolding locals_in
locals_in_if e b o at = refl

pub locals_in_while : (e : Exp) (b : Braces) (at : ℕ) →
    locals_in (While e b at) ≡ braces_locals b
unfolding locals_in
locals_in_while e b at = refl

pub locals_in_try : (b : Braces) (cs : Catches) (at : ℕ) →
    locals_in (Try b cs at) ≡ braces_locals b + catches_locals cs
unfolding locals_in
locals_in_try b cs at = refl

pub locals_in_declare : (local : Local) (at : ℕ) →
    locals_in (Declare local at) ≡ 1
unfolding locals_in
locals_in_declare local at = refl

pub locals_in_when : (lock : LockTree) (b : Braces) (o : MayBraces) (at : ℕ) →
    locals_in (When lock b o at) ≡ braces_locals b + may_braces_locals o
unfolding locals_in
locals_in_when lock b o at = refl

pub braces_locals_in : (ss : Stas) (at : ℕ) →
    braces_locals (In ss at) ≡ all_locals ss
unfolding locals_in
braces_locals_in ss at = refl

pub may_braces_locals_nobraces : may_braces_locals NoBraces ≡ 0
unfolding locals_in
may_braces_locals_nobraces = refl

pub may_braces_locals_some : (b : Braces) →
    may_braces_locals (plain.Some b) ≡ braces_locals b
unfolding locals_in
may_braces_locals_some b = refl

pub else_locals_noelse : else_locals NoElse ≡ 0
unfolding locals_in
else_locals_noelse = refl

pub else_locals_otherwise : (s : Sta) →
    else_locals (Otherwise s) ≡ locals_in s
unfolding locals_in
else_locals_otherwise s = refl

pub all_locals_end : all_locals End ≡ 0
unfolding locals_in
all_locals_end = refl

pub all_locals_then : (s : Sta) (ss : Stas) →
    all_locals (Then s ss) ≡ locals_in s + all_locals ss
unfolding locals_in
all_locals_then s ss = refl

pub catches_locals_nocatch : catches_locals NoCatch ≡ 0
unfolding locals_in
catches_locals_nocatch = refl

pub catches_locals_catch : (c : Handler) (cs : Catches) →
    catches_locals (Catch c cs) ≡ handler_locals c + catches_locals cs
unfolding locals_in
catches_locals_catch c cs = refl

pub handler_locals_on : (class : Ident) (name : Ident) (b : Braces) →
    handler_locals (On class name b) ≡ braces_locals b
unfolding locals_in
handler_locals_on class name b = refl

pub stmt_nodes_block : (b : Braces) (at : ℕ) →
    stmt_nodes (Block b at) ≡ braces_nodes b
unfolding stmt_nodes
stmt_nodes_block b at = refl

pub stmt_nodes_if : (e : Exp) (b : Braces) (o : Else) (at : ℕ) →
    stmt_nodes (If e b o at) ≡ 1 + nodes e + braces_nodes b + else_nodes o
unfolding stmt_nodes
stmt_nodes_if e b o at = refl

pub stmt_nodes_while : (e : Exp) (b : Braces) (at : ℕ) →
    stmt_nodes (While e b at) ≡ 1 + nodes e + braces_nodes b
unfolding stmt_nodes
stmt_nodes_while e b at = refl

pub stmt_nodes_try : (b : Braces) (cs : Catches) (at : ℕ) →
    stmt_nodes (Try b cs at) ≡ 1 + braces_nodes b + catch_nodes cs
unfolding stmt_nodes
stmt_nodes_try b cs at = refl

pub stmt_nodes_return : (e : MayExp) (at : ℕ) →
    stmt_nodes (Return e at) ≡ 1 + may_nodes e
unfolding stmt_nodes
stmt_nodes_return e at = refl

pub stmt_nodes_break : (at : ℕ) →
    stmt_nodes (Break at) ≡ 1
unfolding stmt_nodes
stmt_nodes_break at = refl

pub stmt_nodes_continue : (at : ℕ) →
    stmt_nodes (Continue at) ≡ 1
unfolding stmt_nodes
stmt_nodes_continue at = refl

pub stmt_nodes_throw : (class : Ident) (at : ℕ) →
    stmt_nodes (Throw class at) ≡ 1
unfolding stmt_nodes
stmt_nodes_throw class at = refl

pub stmt_nodes_open : (lock : LockTree) (at : ℕ) →
    stmt_nodes (Open lock at) ≡ 1
unfolding stmt_nodes
stmt_nodes_open lock at = refl

pub stmt_nodes_close : (lock : LockTree) (at : ℕ) →
    stmt_nodes (Close lock at) ≡ 1
unfolding stmt_nodes
stmt_nodes_close lock at = refl

pub stmt_nodes_declare : (local : Local) (at : ℕ) →
    stmt_nodes (Declare local at) ≡ 1 + nodes local.value
unfolding stmt_nodes
stmt_nodes_declare local at = refl

pub stmt_nodes_assign : (target : Exp) (value : Exp) (at : ℕ) →
    stmt_nodes (Assign target value at) ≡ 1 + nodes target + nodes value
unfolding stmt_nodes
stmt_nodes_assign target value at = refl

pub stmt_nodes_do : (call : Exp) (at : ℕ) →
    stmt_nodes (Do call at) ≡ 1 + nodes call
unfolding stmt_nodes
stmt_nodes_do call at = refl

pub stmt_nodes_when : (lock : LockTree) (b : Braces) (o : MayBraces) (at : ℕ) →
    stmt_nodes (When lock b o at) ≡ 1 + braces_nodes b + may_braces_nodes o
unfolding stmt_nodes
stmt_nodes_when lock b o at = refl

pub braces_nodes_in : (ss : Stas) (at : ℕ) →
    braces_nodes (In ss at) ≡ 1 + all_nodes ss
unfolding stmt_nodes
braces_nodes_in ss at = refl

pub may_braces_nodes_nobraces : may_braces_nodes NoBraces ≡ 0
unfolding stmt_nodes
may_braces_nodes_nobraces = refl

pub may_braces_nodes_some : (b : Braces) →
    may_braces_nodes (plain.Some b) ≡ braces_nodes b
unfolding stmt_nodes
may_braces_nodes_some b = refl

pub else_nodes_noelse : else_nodes NoElse ≡ 0
unfolding stmt_nodes
else_nodes_noelse = refl

pub else_nodes_otherwise : (s : Sta) →
    else_nodes (Otherwise s) ≡ stmt_nodes s
unfolding stmt_nodes
else_nodes_otherwise s = refl

pub all_nodes_end : all_nodes End ≡ 0
unfolding stmt_nodes
all_nodes_end = refl

pub all_nodes_then : (s : Sta) (ss : Stas) →
    all_nodes (Then s ss) ≡ stmt_nodes s + all_nodes ss
unfolding stmt_nodes
all_nodes_then s ss = refl

pub catch_nodes_nocatch : catch_nodes NoCatch ≡ 0
unfolding stmt_nodes
catch_nodes_nocatch = refl

pub catch_nodes_catch : (c : Handler) (cs : Catches) →
    catch_nodes (Catch c cs) ≡ handler_nodes c + catch_nodes cs
unfolding stmt_nodes
catch_nodes_catch c cs = refl

pub handler_nodes_on : (class : Ident) (name : Ident) (b : Braces) →
    handler_nodes (On class name b) ≡ 1 + braces_nodes b
unfolding stmt_nodes
handler_nodes_on class name b = refl

pub stmt_no_ints_block : (b : Braces) (at : ℕ) →
    stmt_no_ints (Block b at) ≡ braces_no_ints b
unfolding stmt_no_ints
stmt_no_ints_block b at = refl

pub stmt_no_ints_if : (e : Exp) (b : Braces) (o : Else) (at : ℕ) →
    stmt_no_ints (If e b o at) ≡ no_ints e + braces_no_ints b + else_no_ints o
unfolding stmt_no_ints
stmt_no_ints_if e b o at = refl

pub stmt_no_ints_while : (e : Exp) (b : Braces) (at : ℕ) →
    stmt_no_ints (While e b at) ≡ no_ints e + braces_no_ints b
unfolding stmt_no_ints
stmt_no_ints_while e b at = refl

pub stmt_no_ints_try : (b : Braces) (cs : Catches) (at : ℕ) →
    stmt_no_ints (Try b cs at) ≡ braces_no_ints b + catches_no_ints cs
unfolding stmt_no_ints
stmt_no_ints_try b cs at = refl

pub stmt_no_ints_return : (e : MayExp) (at : ℕ) →
    stmt_no_ints (Return e at) ≡ may_no_ints e
unfolding stmt_no_ints
stmt_no_ints_return e at = refl

pub stmt_no_ints_declare : (local : Local) (at : ℕ) →
    stmt_no_ints (Declare local at) ≡ no_ints local.value
unfolding stmt_no_ints
stmt_no_ints_declare local at = refl

pub stmt_no_ints_assign : (target : Exp) (value : Exp) (at : ℕ) →
    stmt_no_ints (Assign target value at) ≡ no_ints target + no_ints value
unfolding stmt_no_ints
stmt_no_ints_assign target value at = refl

pub stmt_no_ints_do : (call : Exp) (at : ℕ) →
    stmt_no_ints (Do call at) ≡ no_ints call
unfolding stmt_no_ints
stmt_no_ints_do call at = refl

pub stmt_no_ints_when : (lock : LockTree) (b : Braces) (o : MayBraces) (at : ℕ) →
    stmt_no_ints (When lock b o at) ≡ braces_no_ints b + may_braces_no_ints o
unfolding stmt_no_ints
stmt_no_ints_when lock b o at = refl

pub braces_no_ints_in : (ss : Stas) (at : ℕ) →
    braces_no_ints (In ss at) ≡ all_no_ints ss
unfolding stmt_no_ints
braces_no_ints_in ss at = refl

pub may_braces_no_ints_nobraces : may_braces_no_ints NoBraces ≡ 0
unfolding stmt_no_ints
may_braces_no_ints_nobraces = refl

pub may_braces_no_ints_some : (b : Braces) →
    may_braces_no_ints (plain.Some b) ≡ braces_no_ints b
unfolding stmt_no_ints
may_braces_no_ints_some b = refl

pub else_no_ints_noelse : else_no_ints NoElse ≡ 0
unfolding stmt_no_ints
else_no_ints_noelse = refl

pub else_no_ints_otherwise : (s : Sta) →
    else_no_ints (Otherwise s) ≡ stmt_no_ints s
unfolding stmt_no_ints
else_no_ints_otherwise s = refl

pub all_no_ints_end : all_no_ints End ≡ 0
unfolding stmt_no_ints
all_no_ints_end = refl

pub all_no_ints_then : (s : Sta) (ss : Stas) →
    all_no_ints (Then s ss) ≡ stmt_no_ints s + all_no_ints ss
unfolding stmt_no_ints
all_no_ints_then s ss = refl

pub catches_no_ints_nocatch : catches_no_ints NoCatch ≡ 0
unfolding stmt_no_ints
catches_no_ints_nocatch = refl

pub catches_no_ints_catch : (c : Handler) (cs : Catches) →
    catches_no_ints (Catch c cs) ≡ handler_no_ints c + catches_no_ints cs
unfolding stmt_no_ints
catches_no_ints_catch c cs = refl

pub handler_no_ints_on : (class : Ident) (name : Ident) (b : Braces) →
    handler_no_ints (On class name b) ≡ braces_no_ints b
unfolding stmt_no_ints
handler_no_ints_on class name b = refl

-- each statement and each block is a node
pub some_braces_nodes : (b : Braces) → 0 < braces_nodes b
unfolding stmt_nodes
some_braces_nodes (In ss at) = omega arith

pub some_stmt_nodes : (s : Sta) → 0 < stmt_nodes s
unfolding stmt_nodes
some_stmt_nodes (Block b at) = some_braces_nodes b
some_stmt_nodes (If e b o at) = omega arith
some_stmt_nodes (While e b at) = omega arith
some_stmt_nodes (Try b cs at) = omega arith
some_stmt_nodes (Return e at) = omega arith
some_stmt_nodes (Break at) = omega arith
some_stmt_nodes (Continue at) = omega arith
some_stmt_nodes (Throw class at) = omega arith
some_stmt_nodes (Open lock at) = omega arith
some_stmt_nodes (Close lock at) = omega arith
some_stmt_nodes (Declare local at) = omega arith
some_stmt_nodes (Assign target value at) = omega arith
some_stmt_nodes (Do call at) = omega arith
some_stmt_nodes (When lock b o at) = omega arith
