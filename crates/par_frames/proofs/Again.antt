-- Classes that kinds name are found again by their whole names.
use Rattle.std.proofs.Common.{◌≡◌, Bool, true, false, List, [], ◌∷◌, Some, None, refl, sym, ap}
use Rattle.std.proofs.Common.{subst, ◌∙◌}
use Rattle.std.specs.Prelude.{if◌then◌else◌, codes}
use Rattle.std.specs.Option.{option_map}
use Rattle.std.specs.Str.{bytes_eq}
use Rattle.std.proofs.lemmas.Slice.Eq.{bytes_eq-Decides}
use Rattle.par_base.specs.Names.{IsName, is_spelled}
use Rattle.par_frame_forms.specs.par_pool.declared.constant.Constant.{Constant}
use Rattle.par_kinds.specs.par_values.Areas.{Name}
use Rattle.par_kinds.specs.par_single.Members.{text_of}
use Rattle.par_kinds.specs.par_link.Builtins.{builtin}
use Rattle.par_frame_forms.specs.declared.form.PlaceType.{PlaceType}
use Rattle.par_kinds.specs.declared.frame.VKind.{VKind}
use Rattle.par_kinds.specs.declared.frame.VKind.TheVariants.{Top, Int, Null, Object, Base}
use Rattle.par_frames.specs.Names.{StandsFor, whole_name, base_name, IsClassType, kind_of_class}
use Rattle.par_frames.specs.Names.{kind_of_entry, kind_of}
use Rattle.par_frames.specs.Given.{on_some, kinds_of}
use Rattle.par_frames.specs.Laws.{IsNamed, WrittenKindsAreRead}

if-true : {A : Type 0} (b : Bool) (x y : A) → b ≡ true → (if b then x else y) ≡ x
if-true true x y e = refl
if-true false x y e = absurd (cc e)

if-false : {A : Type 0} (b : Bool) (x y : A) → b ≡ false → (if b then x else y) ≡ y
if-false true x y e = absurd (cc e)
if-false false x y e = refl

no-true : (b : Bool) → (b ≡ true → ⊥) → b ≡ false
no-true true h = absurd (h refl)
no-true false h = refl

-- a name is no text that is spelled otherwise
apart : (n other : Name) → IsName n → is_spelled other ≡ false → bytes_eq n other ≡ false
apart n other named unlike =
    no-true (bytes_eq n other)
    (λ e. absurd (cc (sym unlike ∙ subst (λ (m : Name). is_spelled m ≡ true)
    ((bytes_eq-Decides n other).0 e) named.spelled)))

none-built-in : (n : Name) → IsName n → builtin n ≡ None
none-built-in n named =
    if-false (bytes_eq n (codes "java/lang/Object")) _ _ (apart n _ named refl)
    ∙ if-false (bytes_eq n (codes "java/lang/Exception")) _ _ (apart n _ named refl)
    ∙ if-false (bytes_eq n (codes "java/lang/ArithmeticException")) _ _ (apart n _ named refl)
    ∙ if-false (bytes_eq n (codes "java/lang/NullPointerException")) _ _ (apart n _ named refl)
    ∙ if-false (bytes_eq n (codes "paragon/Locks")) _ _ (apart n _ named refl)

abbrev Found : Name → VKind → Type 0
Found name k = kind_of_class (builtin name) name ≡ Some k

plain-found : (n : Name) → IsName n → Found n (Object n)
plain-found n named =
    subst (λ b. kind_of_class b n ≡ Some (Object n)) (sym (none-built-in n named)) refl

-- by whether a name is that of the one, or else that of the other
whole-found : (n : Name) → IsName n → (b c : Bool)
    → bytes_eq n (codes "ArithmeticException") ≡ b
    → bytes_eq n (codes "NullPointerException") ≡ c → Found (whole_name n) (Object n)
whole-found n named true c e g =
    subst (λ (m : Name). Found m (Object n)) (sym (if-true _ _ _ e))
    (ap (λ (m : Name). Some (Object m)) (sym ((bytes_eq-Decides n _).0 e)))
whole-found n named false true e g =
    subst (λ (m : Name). Found m (Object n)) (sym (if-false _ _ _ e ∙ if-true _ _ _ g))
    (ap (λ (m : Name). Some (Object m)) (sym ((bytes_eq-Decides n _).0 g)))
whole-found n named false false e g =
    subst (λ (m : Name). Found m (Object n)) (sym (if-false _ _ _ e ∙ if-false _ _ _ g))
    (plain-found n named)

base-found : (b : Bool) → Found (base_name b) (Base b)
base-found true = refl
base-found false = refl

class-found : (pool : List Constant) (t : PlaceType) (name : Name) (k : VKind)
    → IsClassType pool t name → Found name k → kind_of pool t ≡ Some k
class-found pool t name k h is =
    ap (λ (u : PlaceType). kind_of pool u) h.is
    ∙ ap (λ e. kind_of_entry pool e) h.named.entry
    ∙ ap (λ (n : Name). kind_of_class (builtin n) n)
    (ap (λ e. text_of e) h.named.is_name)
    ∙ is

kind-read : (pool : List Constant) (k : VKind) (t : PlaceType) → IsNamed k → StandsFor pool k t
    → kind_of pool t ≡ Some k
kind-read pool Top t named h = ap (λ (u : PlaceType). kind_of pool u) h
kind-read pool Int t named h = ap (λ (u : PlaceType). kind_of pool u) h
kind-read pool Null t named h = ap (λ (u : PlaceType). kind_of pool u) h
kind-read pool (Object n) t named h =
    class-found pool t (whole_name n) (Object n) h (whole-found n named _ _ refl refl)
kind-read pool (Base b) t named h =
    class-found pool t (base_name b) (Base b) h (base-found b)

pub written_kinds_are_read : WrittenKindsAreRead
written_kinds_are_read pool [] [] named h = refl
written_kinds_are_read pool [] (t ∷ ts) named h = absurd h
written_kinds_are_read pool (k ∷ ks) [] named h = absurd h
written_kinds_are_read pool (k ∷ ks) (t ∷ ts) named h =
    ap (λ o. on_some o (λ x. option_map (λ xs. x ∷ xs) (kinds_of pool ts)))
    (kind-read pool k t named.0 h.0)
    ∙ ap (λ o. option_map (λ xs. k ∷ xs) o) (written_kinds_are_read pool ks ts named.1 h.1)
