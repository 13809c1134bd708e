-- Locals in a vector that grows.
use Rattle.std.proofs.Common.{◌≡◌, ℕ, ◌-◌, ◌<◌, List, length, get_or}
use Rattle.std.proofs.Common.{Option, Some, None, unwrap_or, refl, sym, ◌∙◌, ⊎_elim}
use Rattle.std.specs.Prelude.{slice_set, slice_get}
use Rattle.std.proofs.Math.Path.{fun_ext}
use Rattle.std.proofs.lemmas.Bool.{cases_eq}
use Rattle.std.proofs.lemmas.Grind.{get_or-set_at}
use Rattle.std.proofs.lemmas.List.{get_or-set_other}
use Rattle.std.proofs.lemmas.Option.{unwrap_or-slice_get}
use Rattle.par_values.specs.declared.value.MVal.{MVal}
use Rattle.par_values.specs.declared.value.MVal.TheVariants.{Null}
use Rattle.par_values.specs.Areas.{value_or_null}
use Rattle.par_run_laws.specs.State.{put}
use Rattle.par_source_state.specs.Frame.{held}
use Rattle.par_source_state.proofs.Puts.{put_here, put_other}

or_null : (o : Option MVal) → value_or_null o ≡ unwrap_or o Null
or_null None = refl
or_null (Some v) = refl

pub held_is : (xs : List MVal) (x : ℕ) → held xs x ≡ get_or xs x Null
held_is xs x = or_null (slice_get xs x) ∙ unwrap_or-slice_get xs x Null

-- a local that is there is set
pub set_held : (xs : List MVal) (x : ℕ) (v : MVal) → x < length xs
    → held (slice_set xs x v) ≡ put (held xs) x v
set_held xs x v there = fun_ext λ y. ⊎_elim
    (λ (here : y ≡ x). held_is (slice_set xs x v) y ∙ get_or-set_at xs x y v Null here there
    ∙ sym (put_here (held xs) x v y here))
    (λ (other : y ≡ x → ⊥). held_is (slice_set xs x v) y ∙ get_or-set_other xs x y v Null other
    ∙ sym (put_other (held xs) x v y other ∙ held_is xs y))
    (cases_eq y x)
