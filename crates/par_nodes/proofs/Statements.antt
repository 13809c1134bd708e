-- Statements from their rules.
use Rattle.std.proofs.Common.{◌≡◌, ℕ, List, Option, sym, ap, ◌∙◌}
use Rattle.std.specs.declared.boxed.Box.{Box}
use Rattle.std.specs.declared.alloc.Global.{Global}
use Rattle.par_bits.specs.Sets.{none, adding}
use Rattle.par_typed.specs.Plain.{TSta}
use Rattle.par_typed.specs.declared.expr.TExpr.{TExpr}
use Rattle.par_typed.specs.declared.stmt.TStmt.{TStmt}
use Rattle.par_typed.specs.declared.stmt.TCatch.{TCatch}
use Rattle.par_typed.specs.declared.stmt.TStmtKind.{TStmtKind}
use Rattle.par_typed.specs.declared.stmt.TStmtKind.TheVariants as stmt
use Rattle.par_typed.specs.Shown.{shown, may_shown, does, does_at, otherwise, all_do}
use Rattle.par_typed.specs.Shown.{all_catch}
use Rattle.par_typed.proofs.Shown.{does_block, does_if, does_while, does_try, does_return}
use Rattle.par_typed.proofs.Shown.{does_break, does_continue, does_throw, does_open}
use Rattle.par_typed.proofs.Shown.{does_close}
use Rattle.par_typed.proofs.Shown.{does_set_local, does_set_static, does_set_field}
use Rattle.par_typed.proofs.Shown.{does_eval}
use Rattle.par_typed.proofs.Shown.{does_when}
use Rattle.par_program_laws.specs.Kinds as kinds
use Rattle.par_program_laws.specs.Kinds.{Next, Normal, Loop, Catches}
use Rattle.par_program_laws.specs.Declares.{Declares}
use Rattle.par_program_laws.specs.Rules.{From, Entry, After, Tested, Raised, Opened, Shut, Assigned}
use Rattle.par_program_laws.specs.Rules.{Node, node, Rules, Done, Part, Test, Heads, Leaves}
use Rattle.par_program_laws.specs.Rules.{goes_on}
use Rattle.par_program_laws.specs.Body.{past, tested, null_test, if_not, is_forever, caught, exp}
use Rattle.par_program_laws.specs.Body.{sta}
use Rattle.par_program_laws.specs.Body.{stas, catches}
use Rattle.par_nodes.specs.Starts.{behind_value, goes_first, else_rules}
use Rattle.par_nodes.proofs.Branches.{block_is, if_is, while_is, try_is, return_is, break_is}
use Rattle.par_nodes.proofs.Branches.{continue_is, throw_is, open_is, close_is, set_local_is}
use Rattle.par_nodes.proofs.Branches.{set_static_is, set_field_is, eval_is, when_is}

-- a statement from the rules of its form
made : (d : Declares) (k j : TStmtKind) (a p : ℕ) (s : TSta) (r q : Rules) → k ≡ j
    → does_at j a p ≡ s → sta d s ≡ node p q → r ≡ q → node p r ≡ sta d (does_at k a p)
made d k j a p s r q is so has e =
    ap (node p) e ∙ sym (ap (λ i. sta d (does_at i a p)) is ∙ ap (sta d) so ∙ has)

pub block_made : (d : Declares) (k : TStmtKind) (a p : ℕ) (ss xs : List TStmt) (r : Rules)
    → k ≡ stmt.Block ss → xs ≡ ss → r ≡ stas d Entry (all_do xs) → node p r ≡ sta d (does_at k a p)
block_made d k a p ss xs r is x u =
    made d k (stmt.Block ss) a p _ r _ is (does_block ss a p) (block_is d (all_do ss) a p)
    (u ∙ ap (λ l. stas d Entry (all_do l)) x)

pub if_made : (d : Declares) (k : TStmtKind) (a p : ℕ) (e : TExpr) (b : Box TStmt Global)
    (o : Option (Box TStmt Global)) (s : TStmt) (r both rest : Rules)
    → k ≡ stmt.If e b o
    → rest ≡ goes_on past (else_rules d (otherwise o) (Tested 1 (After 1 Normal)))
    → s ≡ b.value → both ≡ Part tested Next (sta d (does s)) rest
    → r ≡ Part Entry Next (exp d (shown e)) (goes_first (otherwise o) past both)
    → node p r ≡ sta d (does_at k a p)
if_made d k a p e b o s r both rest is z q y u =
    made d k (stmt.If e b o) a p _ r _ is (does_if e b o a p)
    (if_is d (shown e) (does b.value) (otherwise o) a p)
    (u ∙ ap (λ m. Part Entry Next (exp d (shown e)) (goes_first (otherwise o) past m))
    (y ∙ ap (λ m. Part tested Next (sta d (does m)) rest) q
    ∙ ap (Part tested Next (sta d (does b.value))) z))

-- the block of a loop, with what stands behind it
abbrev pub looped : Declares → TSta → Rules
looped d s = Part tested Loop (sta d s) (Heads past (Heads (After 0 kinds.Continue)
    (goes_on (After 0 kinds.Break) Done)))

pub while_made : (d : Declares) (k : TStmtKind) (a p : ℕ) (e : TExpr) (b : Box TStmt Global)
    (s : TStmt) (r part : Rules) → k ≡ stmt.While e b → s ≡ b.value → part ≡ looped d (does s)
    → r ≡ Test (exp d (shown e)) (Heads Entry (if_not (is_forever (shown e)) (goes_on past) part))
    → node p r ≡ sta d (does_at k a p)
while_made d k a p e b s r part is q y u =
    made d k (stmt.While e b) a p _ r _ is (does_while e b a p)
    (while_is d (shown e) (does b.value) a p)
    (u ∙ ap (λ m. Test (exp d (shown e)) (Heads Entry (if_not (is_forever (shown e)) (goes_on past)
    m))) (y ∙ ap (λ m. looped d (does m)) q))

pub try_made : (d : Declares) (k : TStmtKind) (a p : ℕ) (b : Box TStmt Global)
    (cs xs : List TCatch) (s : TStmt) (r : Rules) (n : Node)
    → k ≡ stmt.Try b cs → s ≡ b.value → n ≡ sta d (does s) → xs ≡ cs
    → r ≡ Part Entry (Catches (caught (all_catch xs))) n
    (goes_on past (catches d n (all_catch xs) 0))
    → node p r ≡ sta d (does_at k a p)
try_made d k a p b cs xs s r n is q y x u =
    made d k (stmt.Try b cs) a p _ r _ is (does_try b cs a p)
    (try_is d (does b.value) (all_catch cs) a p)
    (u ∙ ap (λ l. Part Entry (Catches (caught (all_catch l))) n
    (goes_on past (catches d n (all_catch l) 0))) x
    ∙ ap (λ m. Part Entry (Catches (caught (all_catch cs))) m
    (goes_on past (catches d m (all_catch cs) 0))) (y ∙ ap (λ m. sta d (does m)) q))

pub return_made : (d : Declares) (k : TStmtKind) (a p : ℕ) (e : Option TExpr) (r : Rules)
    → k ≡ stmt.Return e → r ≡ behind_value d (may_shown e) → node p r ≡ sta d (does_at k a p)
return_made d k a p e r is u =
    made d k (stmt.Return e) a p _ r _ is (does_return e a p) (return_is d (may_shown e) a p) u

pub break_made : (d : Declares) (k : TStmtKind) (a p : ℕ) (r : Rules)
    → k ≡ stmt.Break → r ≡ Leaves Entry kinds.Break Done → node p r ≡ sta d (does_at k a p)
break_made d k a p r is u = made d k stmt.Break a p _ r _ is (does_break a p) (break_is d a p) u

pub continue_made : (d : Declares) (k : TStmtKind) (a p : ℕ) (r : Rules)
    → k ≡ stmt.Continue → r ≡ Leaves Entry kinds.Continue Done → node p r ≡ sta d (does_at k a p)
continue_made d k a p r is u =
    made d k stmt.Continue a p _ r _ is (does_continue a p) (continue_is d a p) u

pub throw_made : (d : Declares) (k : TStmtKind) (a p c : ℕ) (r : Rules)
    → k ≡ stmt.Throw c → r ≡ Leaves Entry (kinds.Throw c) Done → node p r ≡ sta d (does_at k a p)
throw_made d k a p c r is u =
    made d k (stmt.Throw c) a p _ r _ is (does_throw c a p) (throw_is d c a p) u

pub open_made : (d : Declares) (k : TStmtKind) (a p l : ℕ) (r : Rules)
    → k ≡ stmt.OpenLock l → r ≡ goes_on (Opened (adding none l) Entry) Done
    → node p r ≡ sta d (does_at k a p)
open_made d k a p l r is u =
    made d k (stmt.OpenLock l) a p _ r _ is (does_open l a p) (open_is d l a p) u

pub close_made : (d : Declares) (k : TStmtKind) (a p l : ℕ) (r : Rules)
    → k ≡ stmt.CloseLock l → r ≡ goes_on (Shut (adding none l) Entry) Done
    → node p r ≡ sta d (does_at k a p)
close_made d k a p l r is u =
    made d k (stmt.CloseLock l) a p _ r _ is (does_close l a p) (close_is d l a p) u

pub set_local_made : (d : Declares) (k : TStmtKind) (a p x : ℕ) (q : Option ℕ) (e : TExpr)
    (r : Rules) → k ≡ stmt.SetLocal x q e
    → r ≡ Part Entry Next (exp d (shown e)) (goes_on (Assigned x 0 past) Done)
    → node p r ≡ sta d (does_at k a p)
set_local_made d k a p x q e r is u =
    made d k (stmt.SetLocal x q e) a p _ r _ is (does_set_local x q e a p)
    (set_local_is d x q (shown e) a p) u

pub set_static_made : (d : Declares) (k : TStmtKind) (a p c f : ℕ) (e : TExpr) (r : Rules)
    → k ≡ stmt.SetStatic c f e → r ≡ Part Entry Next (exp d (shown e)) (goes_on past Done)
    → node p r ≡ sta d (does_at k a p)
set_static_made d k a p c f e r is u =
    made d k (stmt.SetStatic c f e) a p _ r _ is (does_set_static c f e a p)
    (set_static_is d c f (shown e) a p) u

pub set_field_made : (d : Declares) (k : TStmtKind) (a p : ℕ) (o : TExpr) (c f : ℕ) (e : TExpr)
    (r : Rules) → k ≡ stmt.SetField o c f e
    → r ≡ Part Entry Next (exp d (shown o)) (Part past Next (exp d (shown e))
    (null_test (shown o) (Tested 1 past) (goes_on past Done)))
    → node p r ≡ sta d (does_at k a p)
set_field_made d k a p o c f e r is u =
    made d k (stmt.SetField o c f e) a p _ r _ is (does_set_field o c f e a p)
    (set_field_is d (shown o) c f (shown e) a p) u

pub eval_made : (d : Declares) (k : TStmtKind) (a p : ℕ) (e : TExpr) (r : Rules)
    → k ≡ stmt.Eval e → r ≡ Part Entry Next (exp d (shown e)) (goes_on past Done)
    → node p r ≡ sta d (does_at k a p)
eval_made d k a p e r is u =
    made d k (stmt.Eval e) a p _ r _ is (does_eval e a p) (eval_is d (shown e) a p) u

pub when_made : (d : Declares) (k : TStmtKind) (a p l v : ℕ) (b : Box TStmt Global)
    (o : Option (Box TStmt Global)) (s : TStmt) (f g : From) (r both rest : Rules)
    → k ≡ stmt.When l b o → v ≡ d.lock l → f ≡ Raised v Entry
    → rest ≡ goes_on past (else_rules d (otherwise o) f)
    → g ≡ Opened (adding none l) (Raised v Entry) → s ≡ b.value
    → both ≡ Part g Next (sta d (does s)) rest → r ≡ goes_first (otherwise o) Entry both
    → node p r ≡ sta d (does_at k a p)
when_made d k a p l v b o s f g r both rest is e i z h q y u =
    let opened : ℕ → From = λ c. Opened (adding none l) (Raised c Entry) in
    let behind : From → Rules = λ c. goes_on past (else_rules d (otherwise o) c) in
    made d k (stmt.When l b o) a p _ r _ is (does_when l b o a p)
    (when_is d l (does b.value) (otherwise o) a p)
    (u ∙ ap (goes_first (otherwise o) Entry)
    (y ∙ ap (λ m. Part g Next (sta d (does m)) rest) q
    ∙ ap (λ c. Part c Next (sta d (does b.value)) rest) h
    ∙ ap (Part (opened v) Next (sta d (does b.value))) (z ∙ ap behind i)
    ∙ ap (λ c. Part (opened c) Next (sta d (does b.value)) (behind (Raised c Entry))) e))
