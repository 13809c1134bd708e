-- Lists, from behind.
use Rattle.std.proofs.Common.{◌≡◌, ℕ, zero, suc, ◌-◌, ◌<◌, ◌≤◌, List, [], ◌∷◌, length, get_or, drop}
use Rattle.std.proofs.Common.{refl, sym, subst, ap, ◌∙◌, arith}
use Rattle.par_typed.specs.declared.table.ThrowInfo.{ThrowInfo}
use Rattle.par_typed.specs.declared.expr.TExpr.{TExpr}
use Rattle.par_typed.specs.Shown.{shown, all_shown}
use Rattle.par_program_laws.specs.Kinds.{Next, Throw}
use Rattle.par_program_laws.specs.Declares.{Declares, Method, throws_of}
use Rattle.par_program_laws.specs.Rules.{From, Raised, Shut, Rules, Part, Leaves}
use Rattle.par_program_laws.specs.Body.{past, thrown, exp, args, args_past, args_count}
use Rattle.par_nodes.specs.Starts.{start_at}

ahead : {A : Type 0} (xs : List A) (i : ℕ) (d : A) → i < length xs
    → drop i xs ≡ get_or xs i d ∷ drop (suc i) xs
ahead [] i d h = absurd (omega (arith, h))
ahead (y ∷ xs) zero d h = refl
ahead (y ∷ xs) (suc i) d h = ahead xs i d (omega (arith, h))

-- what is left from the place before
pub drop_or : {A : Type 0} (xs : List A) (p : ℕ) (d : A) → 0 < p → p ≤ length xs
    → drop (p - 1) xs ≡ get_or xs (p - 1) d ∷ drop p xs
drop_or xs p d g h =
    let f : suc (p - 1) ≡ p = omega (arith, g) in
    subst (λ n. drop (p - 1) xs ≡ get_or xs (p - 1) d ∷ drop n xs) f
    (ahead xs (p - 1) d (omega (arith, g, h)))

pub drop_at : {A : Type 0} (xs : List A) (p : ℕ) (x : A) → 0 < p → p ≤ length xs
    → x ≡ get_or xs (p - 1) x → drop (p - 1) xs ≡ x ∷ drop p xs
drop_at xs p x g h e = drop_or xs p x g h ∙ ap (λ z. z ∷ drop p xs) (sym e)

pub drop_zero : {A : Type 0} (xs : List A) (p : ℕ) → p ≤ 0 → drop p xs ≡ xs
drop_zero xs zero h = refl
drop_zero xs (suc p) h = absurd (omega (arith, h))

pub start_past : (p : ℕ) (from : From) → 0 < p → start_at p from ≡ past
start_past zero from h = absurd (omega (arith, h))
start_past (suc p) from h = refl

-- what is thrown from a place on
pub thrown_at : (d : Declares) (m : Method) (from : From) (ts : List ThrowInfo) (p : ℕ)
    (t : ThrowInfo) (more : Rules) → 0 < p → p ≤ length ts
    → thrown d m from (throws_of (drop (p - 1) ts)) more
    ≡ Leaves (Shut m.closes (Raised (get_or ts (p - 1) t).policy from))
    (Throw (get_or ts (p - 1) t).class) (thrown d m from (throws_of (drop p ts)) more)
thrown_at d m from ts p t more g h =
    ap (λ l. thrown d m from (throws_of l) more) (drop_or ts p t g h)

-- the arguments from a place on
pub args_at : (d : Declares) (from : From) (es : List TExpr) (p : ℕ) (e : TExpr) (more : Rules)
    → 0 < p → p ≤ length es → e ≡ get_or es (p - 1) e
    → args d (start_at (p - 1) from) (all_shown (drop (p - 1) es)) more ≡ Part
    (start_at (p - 1) from) Next (exp d (shown e)) (args d (start_at p from)
    (all_shown (drop p es)) more)
unfolding args
args_at d from es p e more g h q =
    ap (λ l. args d (start_at (p - 1) from) (all_shown l) more) (drop_at es p e g h q)
    ∙ ap (λ f. Part (start_at (p - 1) from) Next (exp d (shown e))
    (args d f (all_shown (drop p es)) more)) (sym (start_past p from g))

pub drop_all : {A : Type 0} (xs : List A) → drop (length xs) xs ≡ []
drop_all [] = refl
drop_all (x ∷ xs) = drop_all xs

pub args_none : (d : Declares) (from : From) (es : List TExpr) (more : Rules)
    → args d from (all_shown (drop (length es) es)) more ≡ more
unfolding args
args_none d from es more = ap (λ l. args d from (all_shown l) more) (drop_all es)

pub count_is : (es : List TExpr) → args_count (all_shown es) ≡ length es
count_is [] = refl
count_is (e ∷ es) = ap suc (count_is es)

pub past_is : (es : List TExpr) (from : From) → args_past from (all_shown es) ≡ start_at
    (length es) from
past_is [] from = refl
past_is (e ∷ es) from = refl

pub args_next : (d : Declares) (from : From) (es : List TExpr) (p : ℕ) (e : TExpr)
    (more r m : Rules) (f : From) → 0 < p → p ≤ length es → e ≡ get_or es (p - 1) e
    → r ≡ Part f Next (exp d (shown e)) m → f ≡ start_at (p - 1) from
    → m ≡ args d (start_at p from) (all_shown (drop p es)) more
    → r ≡ args d (start_at (p - 1) from) (all_shown (drop (p - 1) es)) more
args_next d from es p e more r m f g h q a b y =
    a ∙ ap (λ k. Part k Next (exp d (shown e)) m) b
    ∙ ap (Part (start_at (p - 1) from) Next (exp d (shown e))) y
    ∙ sym (args_at d from es p e more g h q)
