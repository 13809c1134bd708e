-- Values of both sides.
use Rattle.par_evaluation_laws.specs.Laid.{IsMade}
use Rattle.std.proofs.Common.{◌≡◌, ℕ, Bool, true, false, ◌&&◌, refl, ap, sym, ◌∙◌}
use Rattle.std.specs.Prelude.{◌==◌, nat_le, cond}
use Rattle.std.proofs.lemmas.Bool.{eq-eqb, ne_eqb, cases_eq}
use Rattle.std.proofs.Common.{inl, inr, ◌⊎◌}
use Rattle.par_run_laws.specs.par_typed.declared.ty.Ty.{Ty}
use Rattle.par_run_laws.specs.par_typed.declared.table.Table.{Table}
use Rattle.par_instr.specs.declared.instr.Instr.{Instr}
use Rattle.par_instr.specs.declared.instr.Instr.TheVariants.{Iload, Aload, IloadShort, AloadShort}
use Rattle.par_instr.specs.declared.instr.Instr.TheVariants.{Istore, Astore, IstoreShort}
use Rattle.par_instr.specs.declared.instr.Instr.TheVariants.{AstoreShort}
use Rattle.par_run_laws.specs.par_values.declared.kind.Kind.{Kind}
use Rattle.par_run_laws.specs.par_values.declared.kind.Kind.TheVariants as kind
use Rattle.par_run_laws.specs.par_values.declared.link.Link.TheVariants as link
use Rattle.par_run_laws.specs.par_values.declared.value.MVal.{MVal}
use Rattle.par_run_laws.specs.par_values.declared.value.MVal.TheVariants as value
use Rattle.par_run_laws.specs.par_values.Operations.{operation, Load, Store}
use Rattle.par_run_laws.specs.par_values.Effects.{is_same}
use Rattle.par_run_laws.specs.Values.{same}
use Rattle.par_match_laws.specs.par_code_form.declared.item.Item.TheVariants.{Op}
use Rattle.par_match_laws.specs.Labelled.{Naming}
use Rattle.par_match_laws.specs.par_code_form.Code.{Words, is_number, load, store}
use Rattle.par_evaluation_laws.specs.Laid.{Layout, moved}
use Rattle.par_evaluation_laws.specs.Agreement.{Lays}
use Rattle.par_evaluation_laws.proofs.Good.{IsReference, Object}

abbrev pub kind_in : Bool → Kind
kind_in true = kind.Number
kind_in false = kind.AnyObject

load_case : (a b : Bool) (x : ℕ)
    → (i : Instr) × (cond a (cond b (Op (IloadShort x)) (Op (Iload x)))
    (cond b (Op (AloadShort x)) (Op (Aload x))) ≡ Op i)
    × (operation (λ n. link.Other) i ≡ Load x (kind_in a))
load_case true true x = (IloadShort x, refl, refl)
load_case true false x = (Iload x, refl, refl)
load_case false true x = (AloadShort x, refl, refl)
load_case false false x = (Aload x, refl, refl)

pub load_is : (u : Ty) (x : ℕ) → (i : Instr) × (load u x ≡ Op i)
    × (operation (λ n. link.Other) i ≡ Load x (kind_in (is_number u)))
load_is u x = load_case (is_number u) (nat_le x 3) x

store_case : (a b : Bool) (x : ℕ)
    → (i : Instr) × (cond a (cond b (Op (IstoreShort x)) (Op (Istore x)))
    (cond b (Op (AstoreShort x)) (Op (Astore x))) ≡ Op i)
    × (operation (λ n. link.Other) i ≡ Store x (kind_in a))
store_case true true x = (IstoreShort x, refl, refl)
store_case true false x = (Istore x, refl, refl)
store_case false true x = (AstoreShort x, refl, refl)
store_case false false x = (Astore x, refl, refl)

pub store_is : (u : Ty) (x : ℕ) → (i : Instr) × (store u x ≡ Op i)
    × (operation (λ n. link.Other) i ≡ Store x (kind_in (is_number u)))
store_is u x = store_case (is_number u) (nat_le x 3) x

module _ (env : Naming) (w : Words) (lay : Layout) (t : Table) (lays : Lays env w lay t) where
  number_same : (c d n m : ℕ) → IsMade lay c → IsMade lay d
      → (lay.number c == lay.number d && n == m) ≡ (c == d && n == m)
  number_same c d n m h k =
      ap (λ b. b && (n == m)) (pick (cases_eq c d))
    where
      pick : (c ≡ d) ⊎ (c ≡ d → ⊥) → (lay.number c == lay.number d) ≡ (c == d)
      pick (inl e) = eq-eqb _ _ (ap lay.number e) ∙ sym (eq-eqb c d e)
      pick (inr e) = ne_eqb _ _ (λ q. e (lays.number_one c d h k q)) ∙ sym (ne_eqb c d e)

  pub same_moved : (u v : MVal) → IsReference lay u → IsReference lay v
      → is_same (moved lay u) (moved lay v) ≡ same u v
  same_moved (value.Int n) v r q = elim r [ ]
  same_moved value.Null (value.Int n) r q = elim q [ ]
  same_moved value.Null value.Null r q = refl
  same_moved value.Null (value.Ref d m) r q = refl
  same_moved (value.Ref c n) (value.Int m) r q = elim q [ ]
  same_moved (value.Ref c n) value.Null r q = refl
  same_moved (value.Ref c n) (value.Ref d m) (Object c' n' h)
      (Object d' m' k) = number_same c d n m h k
