-- The bodies of a program by their numbers.
use Rattle.std.proofs.Common.{◌≡◌, ℕ, zero, suc, ◌<◌, Option, Some, None, List, [], ◌∷◌, length}
use Rattle.std.proofs.Common.{get_or, sym, ap, ◌∙◌, subst, arith}
use Rattle.std.specs.Prelude.{slice_get}
use Rattle.std.specs.List.{AllByRecursion}
use Rattle.par_typed.specs.declared.program.TBody.{TBody}
use Rattle.par_typed.specs.Plain.{Body}
use Rattle.par_typed.specs.Shown.{body, bodies}

-- the body of the number is that of the list
pub body_at : (bs : List TBody) (n : ℕ) (t : TBody) → n < length bs → t ≡ get_or bs n t
    → slice_get (bodies bs) n ≡ Some (body t)
body_at [] n t h e = absurd (omega (arith, h))
body_at (b ∷ bs) zero t h e = ap (λ x. Some (body x)) (sym e)
body_at (b ∷ bs) (suc n) t h e = body_at bs n t (omega (arith, h)) e

pub all_at : (P : Body → Type 0) (bs : List Body) (n : ℕ) (b : Body) → AllByRecursion P bs
    → slice_get bs n ≡ Some b → P b
all_at P [] n b h e = absurd (let g : None ≡ Some b = e in cc)
all_at P (x ∷ bs) zero b h e = let g : Some x ≡ Some b = e in let s : x ≡ b = cc in subst P s h.0
all_at P (x ∷ bs) (suc n) b h e = all_at P bs n b h.1 e

pub same_body : (o : Option Body) (d b : Body) → o ≡ Some d → o ≡ Some b → d ≡ b
same_body o d b e f = let g : Some d ≡ Some b = sym e ∙ f in cc
