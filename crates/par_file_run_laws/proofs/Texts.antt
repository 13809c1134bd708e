-- Names, and what the entries of a constant pool say.
use Rattle.std.proofs.Common.{◌≡◌, ℕ, Bool, true, false, cond, List, length}
use Rattle.std.proofs.Common.{Some, None, refl, sym, ap, ◌∙◌, codes}
use Rattle.std.specs.Str.{bytes_eq}
use Rattle.std.proofs.lemmas.Bool.{and_from, le-leb}
use Rattle.std.proofs.lemmas.Slice.Eq.{bytes_eq-Decides}
use Rattle.par_base.specs.Names.{IsName, is_name, is_spelled}
use Rattle.par_pool.specs.declared.constant.Constant.{Constant}
use Rattle.par_pool.specs.Entries.{IsUtf8At, IsClassAt}
use Rattle.par_values.specs.Areas.{Name}
use Rattle.par_single.specs.Members.{text_of, text_at, class_name_of, class_name_at}
use Rattle.par_match_laws.specs.par_link.entry.Builtin.TheVariants.{Object, Exception}
use Rattle.par_match_laws.specs.par_link.entry.Builtin.TheVariants.{ArithmeticException}
use Rattle.par_match_laws.specs.par_link.entry.Builtin.TheVariants.{NullPointerException}
use Rattle.par_match_laws.specs.par_link.entry.Builtin.TheVariants.{Locks}
use Rattle.par_match_laws.specs.par_link.Builtins.{builtin}

-- ---- texts

pub same-text : (a b : Name) → bytes_eq a b ≡ true → a ≡ b
same-text a b is = (bytes_eq-Decides a b).0 is

pub text-itself : (a : Name) → bytes_eq a a ≡ true
text-itself a = (bytes_eq-Decides a a).1 refl

pub unlike : (a b : Name) → (a ≡ b → ⊥) → bytes_eq a b ≡ false
unlike a b differ = in_case (bytes_eq a b) refl where
  in_case : (t : Bool) → bytes_eq a b ≡ t → t ≡ false
  in_case false is = refl
  in_case true is = absurd (differ (same-text a b is))

-- ---- names

pub name-passes : (name : Name) → IsName name → is_name name ≡ true
name-passes name is =
    and_from (is_spelled name) _ is.spelled (le-leb (length name) 64 is.short)

-- a text that is no name is not this name
pub no-name : (name text : Name) → IsName name → is_name text ≡ false → bytes_eq name text ≡ false
no-name name text is not_one =
    unlike name text (λ same. absurd (cc (sym (name-passes name is) ∙ ap is_name same ∙ not_one)))

-- a name is that of no class that every program has
pub unbuilt : (name : Name) → IsName name → builtin name ≡ None
unbuilt name is =
    ap (λ (b : Bool). cond b (Some Object)
    (cond (bytes_eq name (codes "java/lang/Exception")) (Some Exception)
    (cond (bytes_eq name (codes "java/lang/ArithmeticException")) (Some ArithmeticException)
    (cond (bytes_eq name (codes "java/lang/NullPointerException")) (Some NullPointerException)
    (cond (bytes_eq name (codes "paragon/Locks")) (Some Locks) None)))))
    (no-name name (codes "java/lang/Object") is refl)
    ∙ ap (λ (b : Bool). cond b (Some Exception)
    (cond (bytes_eq name (codes "java/lang/ArithmeticException")) (Some ArithmeticException)
    (cond (bytes_eq name (codes "java/lang/NullPointerException")) (Some NullPointerException)
    (cond (bytes_eq name (codes "paragon/Locks")) (Some Locks) None))))
    (no-name name (codes "java/lang/Exception") is refl)
    ∙ ap (λ (b : Bool). cond b (Some ArithmeticException)
    (cond (bytes_eq name (codes "java/lang/NullPointerException")) (Some NullPointerException)
    (cond (bytes_eq name (codes "paragon/Locks")) (Some Locks) None)))
    (no-name name (codes "java/lang/ArithmeticException") is refl)
    ∙ ap (λ (b : Bool). cond b (Some NullPointerException)
    (cond (bytes_eq name (codes "paragon/Locks")) (Some Locks) None))
    (no-name name (codes "java/lang/NullPointerException") is refl)
    ∙ ap (λ (b : Bool). cond b (Some Locks) None) (no-name name (codes "paragon/Locks") is refl)

-- ---- entries

pub text-said : (pool : List Constant) (index : ℕ) (text : Name) → IsUtf8At pool index text
    → text_at pool index ≡ text
text-said pool index text is = ap text_of is

pub class-said : (pool : List Constant) (index : ℕ) (name : Name) → IsClassAt pool index name
    → class_name_at pool index ≡ name
class-said pool index name is =
    ap (class_name_of pool) is.entry ∙ text-said pool is.text name is.is_name
