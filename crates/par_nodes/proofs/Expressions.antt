-- Expressions from their rules.
use Rattle.std.proofs.Common.{◌≡◌, ℕ, ℤ, Bool, List, Option, refl, sym, ap, ◌∙◌, ◌⊎◌, inl, inr}
use Rattle.std.specs.declared.boxed.Box.{Box}
use Rattle.std.specs.declared.alloc.Global.{Global}
use Rattle.par_typed.specs.par_lexer.declared.operator.BinOp.{BinOp}
use Rattle.par_typed.specs.Plain as typed
use Rattle.par_typed.specs.Plain.{Mark, TExp, MayTExp, TExps}
use Rattle.par_typed.specs.declared.expr.TExpr.{TExpr}
use Rattle.par_typed.specs.declared.expr.TExprKind.{TExprKind}
use Rattle.par_typed.specs.declared.expr.TExprKind.TheVariants as expr
use Rattle.par_typed.specs.Shown.{shown, all_shown, kind_at, receiver}
use Rattle.par_typed.proofs.Shown.{shown_int, shown_bool, shown_null, shown_this}
use Rattle.par_typed.proofs.Shown.{shown_new}
use Rattle.par_typed.proofs.Shown.{shown_local, shown_static, shown_field, shown_input}
use Rattle.par_typed.proofs.Shown.{shown_output, shown_call, shown_neg, shown_not}
use Rattle.par_typed.proofs.Shown.{shown_binary}
use Rattle.par_program_laws.specs.Kinds.{Next}
use Rattle.par_program_laws.specs.Declares.{Declares}
use Rattle.par_program_laws.specs.Rules.{From, Entry, Given, Held, Value, node, Rules, Done, Part}
use Rattle.par_program_laws.specs.Rules.{Worths, goes_on}
use Rattle.par_program_laws.specs.Body.{past, tested, null_test, second, divides, skips, exp, args}
use Rattle.par_nodes.specs.Starts.{call_start, call_does, behind}

-- an expression from the rules of its form
made : (d : Declares) (k j : TExprKind) (m : Mark) (e : TExp) (r q : Rules) → k ≡ j
    → kind_at j m ≡ e → exp d e ≡ node m.point q → r ≡ q → node m.point r ≡ exp d (kind_at k m)
made d k j m e r q is so has u =
    ap (node m.point) u ∙ sym (ap (λ i. exp d (kind_at i m)) is ∙ ap (exp d) so ∙ has)

pub int_made : (d : Declares) (k : TExprKind) (m : Mark) (n : ℤ) (r : Rules)
    → k ≡ expr.Int n → r ≡ goes_on Entry Done → node m.point r ≡ exp d (kind_at k m)
unfolding exp
int_made d k m n r is u =
    made d k (expr.Int n) m (typed.Int n m) r (goes_on Entry Done) is (shown_int n m) refl u

pub bool_made : (d : Declares) (k : TExprKind) (m : Mark) (b : Bool) (r : Rules)
    → k ≡ expr.Bool b → r ≡ goes_on Entry Done → node m.point r ≡ exp d (kind_at k m)
unfolding exp
bool_made d k m b r is u =
    made d k (expr.Bool b) m (typed.Boolean b m) r (goes_on Entry Done) is (shown_bool b m) refl u

null_made : (d : Declares) (k : TExprKind) (m : Mark) (r : Rules)
    → k ≡ expr.Null → r ≡ goes_on Entry Done → node m.point r ≡ exp d (kind_at k m)
unfolding exp
null_made d k m r is u =
    made d k expr.Null m (typed.Null m) r (goes_on Entry Done) is (shown_null m) refl u

this_made : (d : Declares) (k : TExprKind) (m : Mark) (r : Rules)
    → k ≡ expr.This → r ≡ goes_on Entry Done → node m.point r ≡ exp d (kind_at k m)
unfolding exp
this_made d k m r is u =
    made d k expr.This m (typed.This m) r (goes_on Entry Done) is (shown_this m) refl u

pub nullary_made : (d : Declares) (k : TExprKind) (m : Mark) (r : Rules)
    → (k ≡ expr.Null) ⊎ (k ≡ expr.This) → r ≡ goes_on Entry Done
    → node m.point r ≡ exp d (kind_at k m)
nullary_made d k m r is u =
    elim is [ inl x ↦ null_made d k m r x u | inr x ↦ this_made d k m r x u ]

pub new_made : (d : Declares) (k : TExprKind) (m : Mark) (c v : ℕ) (r : Rules)
    → k ≡ expr.New c → v ≡ d.birth c → r ≡ goes_on Entry (Worths (Given v) Done)
    → node m.point r ≡ exp d (kind_at k m)
unfolding exp
new_made d k m c v r is g u =
    made d k (expr.New c) m (typed.New c m) r (goes_on Entry (Worths (Given (d.birth c)) Done)) is
    (shown_new c m) refl (u ∙ ap (λ p. goes_on Entry (Worths (Given p) Done)) g)

pub local_made : (d : Declares) (k : TExprKind) (m : Mark) (x : ℕ) (r : Rules)
    → k ≡ expr.Local x → r ≡ goes_on Entry (Worths (Held x) Done)
    → node m.point r ≡ exp d (kind_at k m)
unfolding exp
local_made d k m x r is u =
    made d k (expr.Local x) m (typed.Local x m) r (goes_on Entry (Worths (Held x) Done)) is
    (shown_local x m) refl u

pub static_made : (d : Declares) (k : TExprKind) (m : Mark) (c f v : ℕ) (r : Rules)
    → k ≡ expr.Static c f → v ≡ d.field c f → r ≡ goes_on Entry (Worths (Given v) Done)
    → node m.point r ≡ exp d (kind_at k m)
unfolding exp
static_made d k m c f v r is g u =
    made d k (expr.Static c f) m (typed.Static c f m) r
    (goes_on Entry (Worths (Given (d.field c f)) Done)) is (shown_static c f m) refl
    (u ∙ ap (λ p. goes_on Entry (Worths (Given p) Done)) g)

pub input_made : (d : Declares) (k : TExprKind) (m : Mark) (c i v : ℕ) (r : Rules)
    → k ≡ expr.Input c i → v ≡ d.channel c i → r ≡ goes_on Entry (Worths (Given v) Done)
    → node m.point r ≡ exp d (kind_at k m)
unfolding exp
input_made d k m c i v r is g u =
    made d k (expr.Input c i) m (typed.Input c i m) r
    (goes_on Entry (Worths (Given (d.channel c i)) Done)) is (shown_input c i m) refl
    (u ∙ ap (λ p. goes_on Entry (Worths (Given p) Done)) g)

-- what stands behind the object of a field
abbrev pub selected : TExp → ℕ → Rules
selected e v = null_test e tested (goes_on past (Worths (Value 0) (Worths (Given v) Done)))

pub field_made : (d : Declares) (k : TExprKind) (m : Mark) (b : Box TExpr Global) (c f v : ℕ)
    (e o : TExpr) (r s : Rules)
    → k ≡ expr.Field b c f → v ≡ d.field c f → o ≡ b.value → s ≡ selected (shown o) v
    → e ≡ b.value → r ≡ Part Entry Next (exp d (shown e)) s → node m.point r ≡ exp d (kind_at k m)
unfolding exp
field_made d k m b c f v e o r s is g y w x u =
    made d k (expr.Field b c f) m (typed.Field (shown b.value) c f m) r
    (Part Entry Next (exp d (shown b.value)) (selected (shown b.value) (d.field c f))) is
    (shown_field b c f m) refl
    (u ∙ ap (λ i. Part Entry Next (exp d (shown i)) s) x
    ∙ ap (Part Entry Next (exp d (shown b.value)))
    (w ∙ ap (λ i. selected (shown i) v) y ∙ ap (selected (shown b.value)) g))

pub output_made : (d : Declares) (k : TExprKind) (m : Mark) (c i : ℕ) (b : Box TExpr Global)
    (e : TExpr) (r s : Rules)
    → k ≡ expr.Output c i b → s ≡ goes_on past Done → e ≡ b.value
    → r ≡ Part Entry Next (exp d (shown e)) s → node m.point r ≡ exp d (kind_at k m)
unfolding exp
output_made d k m c i b e r s is w x u =
    made d k (expr.Output c i b) m (typed.Output c i (shown b.value) m) r
    (Part Entry Next (exp d (shown b.value)) (goes_on past Done)) is (shown_output c i b m) refl
    (u ∙ ap (λ j. Part Entry Next (exp d (shown j)) s) x
    ∙ ap (Part Entry Next (exp d (shown b.value))) w)

-- a call, taken apart
call_is : (d : Declares) (c k : ℕ) (o : MayTExp) (es : TExps) (m : Mark)
    → exp d (typed.Call c k o es m) ≡ node m.point (behind d o
    (args d (call_start o) es (call_does d (d.method c k) o es)))
unfolding exp
call_is d c k typed.Absent es m = refl
call_is d c k (typed.Present e) es m = refl

pub call_made : (d : Declares) (k : TExprKind) (m : Mark) (c i : ℕ) (o : Option (Box TExpr Global))
    (es xs : List TExpr) (r a s : Rules) (f : From) → k ≡ expr.Call c i o es → xs ≡ es
    → s ≡ call_does d (d.method c i) (receiver o) (all_shown xs) → f ≡ call_start (receiver o)
    → a ≡ args d f (all_shown xs) s → r ≡ behind d (receiver o) a
    → node m.point r ≡ exp d (kind_at k m)
call_made d k m c i o es xs r a s f is x y w v u =
    made d k (expr.Call c i o es) m _ r _ is (shown_call c i o es m)
    (call_is d c i (receiver o) (all_shown es) m)
    (u ∙ ap (behind d (receiver o)) (v ∙ ap (λ g. args d g (all_shown xs) s) w
    ∙ ap (args d (call_start (receiver o)) (all_shown xs)) y
    ∙ ap (λ l. args d (call_start (receiver o)) (all_shown l)
    (call_does d (d.method c i) (receiver o) (all_shown l))) x))

-- what stands behind the only operand
abbrev pub valued : Rules
valued = goes_on past (Worths (Value 0) Done)

neg_made : (d : Declares) (k : TExprKind) (m : Mark) (b : Box TExpr Global) (e : TExpr)
    (r s : Rules) → k ≡ expr.Neg b → s ≡ valued → e ≡ b.value
    → r ≡ Part Entry Next (exp d (shown e)) s → node m.point r ≡ exp d (kind_at k m)
unfolding exp
neg_made d k m b e r s is w x u =
    made d k (expr.Neg b) m (typed.Neg (shown b.value) m) r
    (Part Entry Next (exp d (shown b.value)) valued) is (shown_neg b m) refl
    (u ∙ ap (λ y. Part Entry Next (exp d (shown y)) s) x
    ∙ ap (Part Entry Next (exp d (shown b.value))) w)

not_made : (d : Declares) (k : TExprKind) (m : Mark) (b : Box TExpr Global) (e : TExpr)
    (r s : Rules) → k ≡ expr.Not b → s ≡ valued → e ≡ b.value
    → r ≡ Part Entry Next (exp d (shown e)) s → node m.point r ≡ exp d (kind_at k m)
unfolding exp
not_made d k m b e r s is w x u =
    made d k (expr.Not b) m (typed.Not (shown b.value) m) r
    (Part Entry Next (exp d (shown b.value)) valued) is (shown_not b m) refl
    (u ∙ ap (λ y. Part Entry Next (exp d (shown y)) s) x
    ∙ ap (Part Entry Next (exp d (shown b.value))) w)

pub unary_made : (d : Declares) (k : TExprKind) (m : Mark) (b : Box TExpr Global) (e : TExpr)
    (r s : Rules) → (k ≡ expr.Neg b) ⊎ (k ≡ expr.Not b) → s ≡ valued → e ≡ b.value
    → r ≡ Part Entry Next (exp d (shown e)) s → node m.point r ≡ exp d (kind_at k m)
unary_made d k m b e r s is w x u =
    elim is [ inl y ↦ neg_made d k m b e r s y w x u | inr y ↦ not_made d k m b e r s y w x u ]

-- what stands behind both operands
abbrev pub combined : BinOp → TExp → Rules
combined op e =
    divides op e (skips op (goes_on past (Worths (Value 1) (Worths (Value 0) Done))))

pub binary_made : (d : Declares) (k : TExprKind) (m : Mark) (op : BinOp)
    (a b : Box TExpr Global) (x y z : TExpr) (f : From) (r l s : Rules)
    → k ≡ expr.Binary op a b → z ≡ b.value → s ≡ combined op (shown z) → f ≡ second op
    → y ≡ b.value → l ≡ Part f Next (exp d (shown y)) s
    → x ≡ a.value → r ≡ Part Entry Next (exp d (shown x)) l → node m.point r ≡ exp d (kind_at k m)
unfolding exp
binary_made d k m op a b x y z f r l s is e w g h v i u =
    let one = exp d (shown a.value) in
    let other = exp d (shown b.value) in
    made d k (expr.Binary op a b) m (typed.Binary op (shown a.value) (shown b.value) m) r
    (Part Entry Next one (Part (second op) Next other (combined op (shown b.value)))) is
    (shown_binary op a b m) refl
    (u ∙ ap (λ n. Part Entry Next (exp d (shown n)) l) i
    ∙ ap (Part Entry Next one) (v ∙ ap (λ n. Part f Next (exp d (shown n)) s) h
    ∙ ap (λ n. Part n Next other s) g
    ∙ ap (Part (second op) Next other) (w ∙ ap (λ n. combined op (shown n)) e)))
