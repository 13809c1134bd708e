-- The rules of statements, and lists of them from behind.
use Rattle.std.proofs.Common.{◌≡◌, ℕ, suc, ◌-◌, ◌<◌, ◌≤◌, List, length, get_or, drop, refl, sym, ap}
use Rattle.std.proofs.Common.{◌∙◌, arith}
use Rattle.std.specs.Prelude.{Option, Bool, cond}
use Rattle.par_nodes.specs.declared.rule.Kind as code
use Rattle.par_nodes.specs.Possible.{among}
use Rattle.par_typed.specs.Plain as typed
use Rattle.par_typed.specs.Plain.{TExp, MayTExp, TSta, MayTSta, TStas, TCatches}
use Rattle.par_typed.specs.declared.stmt.TStmt.{TStmt}
use Rattle.par_typed.specs.declared.stmt.TCatch.{TCatch}
use Rattle.par_typed.specs.Shown.{does, all_do, all_catch}
use Rattle.par_program_laws.specs.Kinds as kinds
use Rattle.par_program_laws.specs.Kinds.{Next, Normal, Loop, Catches}
use Rattle.par_bits.specs.Sets.{none, adding}
use Rattle.par_program_laws.specs.Declares.{Declares}
use Rattle.par_program_laws.specs.Rules.{From, Entry, After, Tested, Raised, Opened, Shut, Assigned}
use Rattle.par_program_laws.specs.Rules.{Node}
use Rattle.par_program_laws.specs.Rules.{node, Rules, Done, Part, Test, Heads, Leaves, goes_on, can}
use Rattle.par_program_laws.specs.Body.{past, tested, null_test, if_not, is_forever, exp, sta, stas}
use Rattle.par_program_laws.specs.Body.{catches, caught}
use Rattle.par_nodes.specs.Starts.{start_at, behind_value, goes_first, else_rules, catch_start}
use Rattle.par_nodes.proofs.Rows.{drop_at, drop_all, start_past}

pub block_is : (d : Declares) (ss : TStas) (a p : ℕ) → sta d (typed.Block ss a p) ≡ node p
    (stas d Entry ss)
unfolding sta
block_is d ss a p = refl

pub if_is : (d : Declares) (e : TExp) (s : TSta) (o : MayTSta) (a p : ℕ)
    → sta d (typed.If e s o a p)
    ≡ node p (Part Entry Next (exp d e) (goes_first o past
    (Part tested Next (sta d s) (goes_on past (else_rules d o (Tested 1 (After 1 Normal)))))))
unfolding sta
if_is d e s typed.NoElse a p = refl
if_is d e s (typed.Otherwise t) a p = refl

pub while_is : (d : Declares) (e : TExp) (s : TSta) (a p : ℕ)
    → sta d (typed.While e s a p)
    ≡ node p (Test (exp d e) (Heads Entry (if_not (is_forever e) (goes_on past)
    (Part tested Loop (sta d s) (Heads past (Heads (After 0 kinds.Continue)
    (goes_on (After 0 kinds.Break) Done)))))))
unfolding sta
while_is d e s a p = refl

pub try_is : (d : Declares) (s : TSta) (cs : TCatches) (a p : ℕ)
    → sta d (typed.Try s cs a p)
    ≡ node p (Part Entry (Catches (caught cs)) (sta d s)
    (goes_on past (catches d (sta d s) cs 0)))
unfolding sta
try_is d s cs a p = refl

pub return_is : (d : Declares) (e : MayTExp) (a p : ℕ) → sta d (typed.Return e a p) ≡ node p
    (behind_value d e)
unfolding sta
return_is d typed.Absent a p = refl
return_is d (typed.Present e) a p = refl

pub break_is : (d : Declares) (a p : ℕ) → sta d (typed.Break a p) ≡ node p
    (Leaves Entry kinds.Break Done)
unfolding sta
break_is d a p = refl

pub continue_is : (d : Declares) (a p : ℕ) → sta d (typed.Continue a p) ≡ node p
    (Leaves Entry kinds.Continue Done)
unfolding sta
continue_is d a p = refl

pub throw_is : (d : Declares) (c a p : ℕ) → sta d (typed.Throw c a p) ≡ node p
    (Leaves Entry (kinds.Throw c) Done)
unfolding sta
throw_is d c a p = refl

pub open_is : (d : Declares) (l a p : ℕ) → sta d (typed.Open l a p) ≡ node p
    (goes_on (Opened (adding none l) Entry) Done)
unfolding sta
open_is d l a p = refl

pub close_is : (d : Declares) (l a p : ℕ) → sta d (typed.Close l a p) ≡ node p
    (goes_on (Shut (adding none l) Entry) Done)
unfolding sta
close_is d l a p = refl

pub set_local_is : (d : Declares) (x : ℕ) (q : Option ℕ) (e : TExp) (a p : ℕ)
    → sta d (typed.SetLocal x q e a p) ≡ node p (Part Entry Next (exp d e)
    (goes_on (Assigned x 0 past) Done))
unfolding sta
set_local_is d x q e a p = refl

pub set_static_is : (d : Declares) (c f : ℕ) (e : TExp) (a p : ℕ)
    → sta d (typed.SetStatic c f e a p) ≡ node p (Part Entry Next (exp d e) (goes_on past Done))
unfolding sta
set_static_is d c f e a p = refl

pub set_field_is : (d : Declares) (o : TExp) (c f : ℕ) (e : TExp) (a p : ℕ)
    → sta d (typed.SetField o c f e a p)
    ≡ node p (Part Entry Next (exp d o) (Part past Next (exp d e)
    (null_test o (Tested 1 past) (goes_on past Done))))
unfolding sta
set_field_is d o c f e a p = refl

pub eval_is : (d : Declares) (e : TExp) (a p : ℕ) → sta d (typed.Eval e a p) ≡ node p
    (Part Entry Next (exp d e) (goes_on past Done))
unfolding sta
eval_is d e a p = refl

pub when_is : (d : Declares) (l : ℕ) (s : TSta) (o : MayTSta) (a p : ℕ)
    → sta d (typed.When l s o a p)
    ≡ node p (goes_first o Entry (Part (Opened (adding none l) (Raised (d.lock l) Entry)) Next
    (sta d s) (goes_on past (else_rules d o (Raised (d.lock l) Entry)))))
unfolding sta
when_is d l s typed.NoElse a p = refl
when_is d l s (typed.Otherwise t) a p = refl

pub stas_none : (d : Declares) (from : From) (ss : List TStmt) (r : Rules) → r ≡ goes_on from Done
    → r ≡ stas d from (all_do (drop (length ss) ss))
unfolding stas
stas_none d from ss r e = e ∙ sym (ap (λ l. stas d from (all_do l)) (drop_all ss))

-- the statements from a place on
pub stas_next : (d : Declares) (from : From) (ss : List TStmt) (p : ℕ) (s : TStmt) (r m : Rules)
    (f : From) → 0 < p → p ≤ length ss → s ≡ get_or ss (p - 1) s
    → r ≡ Part f Next (sta d (does s)) m → f ≡ start_at (p - 1) from
    → m ≡ stas d (start_at p from) (all_do (drop p ss))
    → r ≡ stas d (start_at (p - 1) from) (all_do (drop (p - 1) ss))
unfolding stas
stas_next d from ss p s r m f g h q a b y =
    a ∙ ap (λ k. Part k Next (sta d (does s)) m) b
    ∙ ap (Part (start_at (p - 1) from) Next (sta d (does s)))
    (y ∙ ap (λ k. stas d k (all_do (drop p ss))) (start_past p from g))
    ∙ sym (ap (λ l. stas d (start_at (p - 1) from) (all_do l)) (drop_at ss p s g h q))

pub catches_none : (d : Declares) (b : Node) (cs : List TCatch) (n : ℕ) (r : Rules)
    → r ≡ goes_on past Done → r ≡ goes_on past (catches d b (all_catch (drop (length cs) cs)) n)
unfolding catches
catches_none d b cs n r e =
    e ∙ sym (ap (λ l. goes_on past (catches d b (all_catch l) n)) (drop_all cs))

-- the catches from a place on
pub catches_next : (d : Declares) (b : Node) (cs : List TCatch) (p : ℕ) (c : TCatch)
    (r g m : Rules) (f : From) → 0 < p → p ≤ length cs → c ≡ get_or cs (p - 1) c
    → r ≡ goes_on past m → m ≡ Part f Next (sta d (does c.body)) g
    → f ≡ catch_start b c.class (p - 1) → g ≡ goes_on past (catches d b (all_catch (drop p cs)) p)
    → r ≡ goes_on past (catches d b (all_catch (drop (p - 1) cs)) (p - 1))
unfolding catches
catches_next d b cs p c r g m f i h q w a x y =
    let e : suc (p - 1) ≡ p = omega (arith, i) in
    let rest : Rules → Rules = Part (catch_start b c.class (p - 1)) Next (sta d (does c.body)) in
    w ∙ ap (goes_on past) (a ∙ ap (λ k. Part k Next (sta d (does c.body)) g) x
    ∙ ap rest (y ∙ ap (λ n. goes_on past (catches d b (all_catch (drop p cs)) n)) (sym e))
    ∙ sym (ap (λ l. catches d b (all_catch l) (p - 1)) (drop_at cs p c i h q)))

-- from where a catch is entered, by what its block can throw
pub start_is : (b : Node) (class before : ℕ) (js : List code.Kind) (t u : Bool)
    → among js ≡ can b → t ≡ among js (kinds.Throw class) → t ≡ u
    → cond u (After before (kinds.Throw class)) Entry ≡ catch_start b class before
start_is b class before js t u e f h =
    let g : u ≡ can b (kinds.Throw class) = sym h ∙ f ∙ ap (λ k. k (kinds.Throw class)) e in
    ap (λ y. cond y (After before (kinds.Throw class)) Entry) g
