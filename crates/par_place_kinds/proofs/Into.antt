-- What fits into a kind, by the questions that instructions ask.
use Rattle.std.proofs.Common.{◌≡◌, true, false, List, [], refl, sym, ap}
use Rattle.std.specs.Cmp.Lexicographic.{same_text}
use Rattle.par_values.specs.Areas.{Name}
use Rattle.par_values.specs.declared.kind.Kind.TheVariants as asked
use Rattle.par_kinds.specs.declared.frame.VKind.{VKind}
use Rattle.par_kinds.specs.declared.frame.VKind.TheVariants.{Top, Int, Null, Object}
use Rattle.par_kinds.specs.declared.frame.VKind.TheVariants.{Base}
use Rattle.par_kinds.specs.Kinds.{into, accepts, throwable}

pub into-top : (exc : List Name) (k : VKind) → into exc k Top ≡ true
unfolding into
into-top exc Top = refl
into-top exc Int = refl
into-top exc Null = refl
into-top exc (Object n) = refl
into-top exc (Base b) = refl

pub into-int : (exc : List Name) (k : VKind) → into exc k Int ≡ accepts asked.Number k
unfolding into accepts
into-int exc Top = refl
into-int exc Int = refl
into-int exc Null = refl
into-int exc (Object n) = refl
into-int exc (Base b) = refl

pub into-null : (exc one : List Name) (k : VKind) → into exc k Null ≡ into one k Null
unfolding into
into-null exc one Top = refl
into-null exc one Int = refl
into-null exc one Null = refl
into-null exc one (Object n) = refl
into-null exc one (Base b) = refl

pub into-object : (exc : List Name) (n : Name) (k : VKind)
    → into exc k (Object n) ≡ accepts (asked.Object n) k
unfolding into accepts
into-object exc n Top = refl
into-object exc n Int = refl
into-object exc n Null = refl
into-object exc n (Object m) = refl
into-object exc n (Base b) = refl

pub into-exception : (exc : List Name) (k : VKind) → into exc k (Base true) ≡ throwable exc k
unfolding into throwable
into-exception exc Top = refl
into-exception exc Int = refl
into-exception exc Null = refl
into-exception exc (Object m) = refl
into-exception exc (Base true) = refl
into-exception exc (Base false) = refl

pub into-any : (exc : List Name) (k : VKind) → into exc k (Base false) ≡ accepts asked.AnyObject k
unfolding into accepts
into-any exc Top = refl
into-any exc Int = refl
into-any exc Null = refl
into-any exc (Object m) = refl
into-any exc (Base true) = refl
into-any exc (Base false) = refl

pub ruleset into_is = (into-top, into-int, into-null, into-object, into-exception, into-any)

-- what fits into one another is the same, of no exceptions
pub into_both : (k l : VKind) → into [] k l ≡ true → into [] l k ≡ true → k ≡ l
unfolding into
into_both Top Top e f = refl
into_both Int Int e f = refl
into_both Null Null e f = refl
into_both (Object m) (Object n) e f = ap (λ (name : Name). Object name) (same_text m n (sym e))
into_both (Base true) (Base true) e f = refl
into_both (Base false) (Base false) e f = refl
into_both Top Int e f = absurd (cc e)
into_both Top Null e f = absurd (cc e)
into_both Top (Object n) e f = absurd (cc e)
into_both Top (Base true) e f = absurd (cc e)
into_both Top (Base false) e f = absurd (cc e)
into_both Int Top e f = absurd (cc f)
into_both Int Null e f = absurd (cc e)
into_both Int (Object n) e f = absurd (cc e)
into_both Int (Base true) e f = absurd (cc e)
into_both Int (Base false) e f = absurd (cc e)
into_both Null Top e f = absurd (cc f)
into_both Null Int e f = absurd (cc e)
into_both Null (Object n) e f = absurd (cc f)
into_both Null (Base true) e f = absurd (cc f)
into_both Null (Base false) e f = absurd (cc f)
into_both (Object m) Top e f = absurd (cc f)
into_both (Object m) Int e f = absurd (cc e)
into_both (Object m) Null e f = absurd (cc e)
into_both (Object m) (Base true) e f = absurd (cc e)
into_both (Object m) (Base false) e f = absurd (cc f)
into_both (Base true) Top e f = absurd (cc f)
into_both (Base true) Int e f = absurd (cc e)
into_both (Base true) Null e f = absurd (cc e)
into_both (Base true) (Object n) e f = absurd (cc e)
into_both (Base true) (Base false) e f = absurd (cc f)
into_both (Base false) Top e f = absurd (cc f)
into_both (Base false) Int e f = absurd (cc e)
into_both (Base false) Null e f = absurd (cc e)
into_both (Base false) (Object n) e f = absurd (cc e)
into_both (Base false) (Base true) e f = absurd (cc e)
