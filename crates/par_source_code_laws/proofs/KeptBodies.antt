-- What code needs of a body holds of a proper one without its policies, which has no more nodes.
use Rattle.std.proofs.Common.{◌≡◌, ℕ, ◌+◌, ◌<◌, ◌≤◌, Bool, true, false, cond, List, length, refl}
use Rattle.std.proofs.Common.{◌∙◌, arith}
use Rattle.std.proofs.Common.{ap}
use Rattle.std.proofs.lemmas.Option.{slice_get_within}
use Rattle.par_typed.specs.declared.ty.Ty.{Ty}
use Rattle.par_typed.specs.declared.ty.Ty.TheVariants as ty
use Rattle.par_typed.specs.declared.table.Table.{Table}
use Rattle.par_typed.specs.Plain.{mark, TExp, Int, Boolean, Null, This, New, Local, Static}
use Rattle.par_typed.specs.Plain.{Field, Input, Output, Call, Neg, Not, Binary}
use Rattle.par_typed.specs.Plain.{MayTExp, Absent, Present, TExps, NoExps, More}
use Rattle.par_typed.specs.Plain.{TSta, Block, If, While, Try, Return, Break, Continue, Throw, Open}
use Rattle.par_typed.specs.Plain.{Close, SetLocal, SetStatic, SetField, Eval, When}
use Rattle.par_typed.specs.Plain.{MayTSta, NoElse, Otherwise, TStas, End, Then, TCatches, NoCatch}
use Rattle.par_typed.specs.Plain.{Catch}
use Rattle.par_typed_laws.specs.par_program_laws.Types.{Is}
use Rattle.par_typed_laws.specs.par_program_laws.Forms.{Setting}
use Rattle.par_typed_laws.specs.par_program_laws.Proper.{ExpIsProper, MayExpIsProper, ExpsAreProper}
use Rattle.par_typed_laws.specs.par_program_laws.Proper.{StaIsProper, ElseIsProper, AllAreProper}
use Rattle.par_typed_laws.specs.par_program_laws.Proper.{CatchesAreProper}
use Rattle.par_typed_laws.specs.par_program_laws.Locals.{behind}
use Rattle.par_typed_laws.specs.par_completes.Typed.{completes}
use Rattle.par_code_form.specs.Code.{is_void}
use Rattle.par_erase.specs.Asked.{Locks}
use Rattle.par_erase.specs.Erased.{erased_exp, erased_may, erased_args}
use Rattle.par_erase.specs.Erased.{erased_sta, erased_else, erased_all, erased_catches, set_if}
use Rattle.par_typed_laws.specs.Sizes.{is_this, size, receiver_size, args_size, may_size}
use Rattle.par_typed_laws.specs.Sizes.{stmt_size, else_size, all_size, catches_size}
use Rattle.par_source_code_laws.proofs.Fitting.{Gives, ExpFits, MayFits, ArgsFit}
use Rattle.par_source_code_laws.proofs.Fitting.{StaFits, ElseFits, AllFit, CatchesFit}
use Rattle.par_typed_laws.specs.Blocks.{is_block, HasBlocks, ElseHasBlocks, AllHaveBlocks}
use Rattle.par_typed_laws.specs.Blocks.{CatchesHaveBlocks}

-- ---- expressions

module _ (t : Table) where
  pub type_of : (e : TExp) → (mark (erased_exp t e)).ty ≡ (mark e).ty
  unfolding erased_exp mark
  type_of (Int v m) = refl
  type_of (Boolean b m) = refl
  type_of (Null m) = refl
  type_of (This m) = refl
  type_of (New c m) = refl
  type_of (Local x m) = refl
  type_of (Static c f m) = refl
  type_of (Field e c f m) = refl
  type_of (Input c k m) = refl
  type_of (Output c k e m) = refl
  type_of (Call c k o es m) = refl
  type_of (Neg e m) = refl
  type_of (Not e m) = refl
  type_of (Binary op a b m) = refl

  gives : (u : Ty) (e : TExp) → is_void u ≡ false → Is u e → Gives (erased_exp t e)
  gives u e value is = ap is_void (type_of e ∙ is) ∙ value

  this_kept : (e : TExp) → is_this (erased_exp t e) ≡ is_this e
  unfolding erased_exp
  this_kept (Int v m) = refl
  this_kept (Boolean b m) = refl
  this_kept (Null m) = refl
  this_kept (This m) = refl
  this_kept (New c m) = refl
  this_kept (Local x m) = refl
  this_kept (Static c f m) = refl
  this_kept (Field e c f m) = refl
  this_kept (Input c k m) = refl
  this_kept (Output c k e m) = refl
  this_kept (Call c k o es m) = refl
  this_kept (Neg e m) = refl
  this_kept (Not e m) = refl
  this_kept (Binary op a b m) = refl

  -- the same where a receiver is not counted
  part_of : (e : TExp) → size (erased_exp t e) ≡ size e
      → cond (is_this (erased_exp t e)) 0 (size (erased_exp t e)) ≡ cond (is_this e) 0 (size e)
  part_of e same =
      ap (λ b. cond b 0 (size (erased_exp t e))) (this_kept e)
      ∙ ap (λ n. cond (is_this e) 0 n) same

  mutual
    unfolding erased_exp size

    size_kept : (e : TExp) → size (erased_exp t e) ≡ size e
    size_kept (Int v m) = refl
    size_kept (Boolean b m) = refl
    size_kept (Null m) = refl
    size_kept (This m) = refl
    size_kept (New c m) = refl
    size_kept (Local x m) = refl
    size_kept (Static c f m) = refl
    size_kept (Field e c f m) = ap (λ n. 1 + n) (part_of e (size_kept e))
    size_kept (Input c k m) = refl
    size_kept (Output c k e m) = ap (λ n. 1 + n) (size_kept e)
    size_kept (Call c k o es m) =
        let a = receiver_kept o in let b = args_kept es in omega (arith, a, b)
    size_kept (Neg e m) = ap (λ n. 1 + n) (size_kept e)
    size_kept (Not e m) = ap (λ n. 1 + n) (size_kept e)
    size_kept (Binary op a b m) =
        let x = size_kept a in let y = size_kept b in omega (arith, x, y)

    receiver_kept : (o : MayTExp) → receiver_size (erased_may t o) ≡ receiver_size o
    receiver_kept Absent = refl
    receiver_kept (Present e) = part_of e (size_kept e)

    args_kept : (es : TExps) → args_size (erased_args t es) ≡ args_size es
    args_kept NoExps = refl
    args_kept (More e es) =
        let a = size_kept e in let b = args_kept es in omega (arith, a, b)

  may_kept : (o : MayTExp) → may_size (erased_may t o) ≡ may_size o
  unfolding erased_exp
  may_kept Absent = refl
  may_kept (Present e) = size_kept e

module _ (s : Setting) where
  mutual
    unfolding ExpIsProper erased_exp ExpFits

    exp_fits : (set : List ℕ) (e : TExp) → ExpIsProper s set e → ExpFits (erased_exp s.table e)
    exp_fits set (Int v m) p = tt
    exp_fits set (Boolean b m) p = tt
    exp_fits set (Null m) p = tt
    exp_fits set (This m) p = tt
    exp_fits set (New c m) p = tt
    exp_fits set (Local x m) p = tt
    exp_fits set (Static c f m) p = tt
    exp_fits set (Field e c f m) p =
        (gives s.table (ty.Class c) e refl p.0, exp_fits set e p.2)
    exp_fits set (Input c k m) p = tt
    exp_fits set (Output c k e m) p = (gives s.table ty.Int e refl p.2, exp_fits set e p.3)
    exp_fits set (Call c k o es m) p = (may_fits set o p.1, args_fit set es p.2)
    exp_fits set (Neg e m) p = (gives s.table ty.Int e refl p.1, exp_fits set e p.2)
    exp_fits set (Not e m) p = (gives s.table ty.Boolean e refl p.1, exp_fits set e p.2)
    exp_fits set (Binary op a b m) p = (exp_fits set a p.2, exp_fits set b p.3)

    may_fits : (set : List ℕ) (o : MayTExp) → MayExpIsProper s set o
        → MayFits (erased_may s.table o)
    may_fits set Absent p = tt
    may_fits set (Present e) p = exp_fits set e p

    args_fit : (set : List ℕ) (es : TExps) → ExpsAreProper s set es
        → ArgsFit (erased_args s.table es)
    args_fit set NoExps p = tt
    args_fit set (More e es) p = (exp_fits set e p.0, args_fit set es p.1)

-- ---- statements

module _ (s : Setting) (asked : Locks) (few : length s.table.locks ≤ 256) where
  set_fits : (looped b opens : Bool) (l : ℕ) → l < 256 → StaFits looped (set_if b l opens)
  unfolding StaFits
  set_fits looped true true l lt = lt
  set_fits looped true false l lt = lt
  set_fits looped false opens l lt = tt

  few_locks : {l : ℕ} → l < length s.table.locks → l < 256
  few_locks lt = omega (arith, few)

  mutual
    unfolding StaIsProper erased_sta StaFits

    pub sta_fits : (looped : Bool) (set : List ℕ) (b : TSta) → StaIsProper s looped set b
        → StaFits looped (erased_sta s.table asked b)
    sta_fits looped set (Block bs at q) p = all_fit looped true set bs p
    sta_fits looped set (If e b o at q) p =
        (exp_fits s set e p.1, sta_fits looped set b p.2, else_fits looped set o p.3)
    sta_fits looped set (While e b at q) p = (exp_fits s set e p.1, sta_fits true set b p.2)
    sta_fits looped set (Try b cs at q) p =
        (sta_fits looped set b p.0, catches_fit looped set cs p.1)
    sta_fits looped set (Return o at q) p = may_fits s set o p.1
    sta_fits looped set (Break at q) p = p
    sta_fits looped set (Continue at q) p = p
    sta_fits looped set (Throw c at q) p = tt
    sta_fits looped set (Open l at q) p =
        set_fits looped (asked l) true l
        (few_locks (slice_get_within s.table.locks l p.info p.there))
    sta_fits looped set (Close l at q) p =
        set_fits looped (asked l) false l
        (few_locks (slice_get_within s.table.locks l p.info p.there))
    sta_fits looped set (SetLocal x y e at q) p = exp_fits s set e p.1
    sta_fits looped set (SetStatic c f e at q) p = exp_fits s set e p.1
    sta_fits looped set (SetField o c f e at q) p = (exp_fits s set o p.2, exp_fits s set e p.3)
    sta_fits looped set (Eval e at q) p = exp_fits s set e p
    sta_fits looped set (When l b o at q) p = (
      few_locks (slice_get_within s.table.locks l p.0.info p.0.there),
      sta_fits looped set b p.1,
      else_fits looped set o p.2,
    )

    else_fits : (looped : Bool) (set : List ℕ) (o : MayTSta) → ElseIsProper s looped set o
        → ElseFits looped (erased_else s.table asked o)
    else_fits looped set NoElse p = tt
    else_fits looped set (Otherwise b) p = sta_fits looped set b p

    all_fit : (looped reached : Bool) (set : List ℕ) (bs : TStas)
        → AllAreProper s looped reached set bs → AllFit looped (erased_all s.table asked bs)
    all_fit looped reached set End p = tt
    all_fit looped reached set (Then b bs) p =
        (sta_fits looped set b p.1, all_fit looped (completes b) (behind set b) bs p.2)

    catches_fit : (looped : Bool) (set : List ℕ) (cs : TCatches)
        → CatchesAreProper s looped set cs → CatchesFit looped (erased_catches s.table asked cs)
    catches_fit looped set NoCatch p = tt
    catches_fit looped set (Catch c b cs) p =
        (sta_fits looped set b p.1, catches_fit looped set cs p.2)

module _ (t : Table) (asked : Locks) where
  set_size : (b opens : Bool) (l : ℕ) → stmt_size (set_if b l opens) ≡ 1
  unfolding stmt_size
  set_size true true l = refl
  set_size true false l = refl
  set_size false opens l = refl

  mutual
    unfolding erased_sta stmt_size

    pub sta_size : (b : TSta) → stmt_size (erased_sta t asked b) ≡ stmt_size b
    sta_size (Block bs at p) = ap (λ n. 1 + n) (all_sizes bs)
    sta_size (If e b o at p) =
        let x = size_kept t e in let y = sta_size b in let z = else_sizes o in
        omega (arith, x, y, z)
    sta_size (While e b at p) =
        let x = size_kept t e in let y = sta_size b in omega (arith, x, y)
    sta_size (Try b cs at p) = let x = sta_size b in let y = catch_sizes cs in omega (arith, x, y)
    sta_size (Return o at p) = ap (λ n. 1 + n) (may_kept t o)
    sta_size (Break at p) = refl
    sta_size (Continue at p) = refl
    sta_size (Throw c at p) = refl
    sta_size (Open l at p) = set_size (asked l) true l
    sta_size (Close l at p) = set_size (asked l) false l
    sta_size (SetLocal x q e at p) = ap (λ n. 1 + n) (size_kept t e)
    sta_size (SetStatic c f e at p) = ap (λ n. 1 + n) (size_kept t e)
    sta_size (SetField o c f e at p) =
        let x = part_of t o (size_kept t o) in let y = size_kept t e in omega (arith, x, y)
    sta_size (Eval e at p) = ap (λ n. 1 + n) (size_kept t e)
    sta_size (When l b o at p) = let x = sta_size b in let y = else_sizes o in omega (arith, x, y)

    else_sizes : (o : MayTSta) → else_size (erased_else t asked o) ≡ else_size o
    else_sizes NoElse = refl
    else_sizes (Otherwise b) = sta_size b

    all_sizes : (bs : TStas) → all_size (erased_all t asked bs) ≡ all_size bs
    all_sizes End = refl
    all_sizes (Then b bs) = let x = sta_size b in let y = all_sizes bs in omega (arith, x, y)

    catch_sizes : (cs : TCatches) → catches_size (erased_catches t asked cs) ≡ catches_size cs
    catch_sizes NoCatch = refl
    catch_sizes (Catch c b cs) = let x = sta_size b in let y = catch_sizes cs in omega (arith, x, y)

  block_kept : (b : TSta) → is_block b ≡ true → is_block (erased_sta t asked b) ≡ true
  unfolding erased_sta
  block_kept (Block bs at p) h = refl
  block_kept (If e b o at p) h = absurd (cc h)
  block_kept (While e b at p) h = absurd (cc h)
  block_kept (Try b cs at p) h = absurd (cc h)
  block_kept (Return o at p) h = absurd (cc h)
  block_kept (Break at p) h = absurd (cc h)
  block_kept (Continue at p) h = absurd (cc h)
  block_kept (Throw c at p) h = absurd (cc h)
  block_kept (Open l at p) h = absurd (cc h)
  block_kept (Close l at p) h = absurd (cc h)
  block_kept (SetLocal x q e at p) h = absurd (cc h)
  block_kept (SetStatic c f e at p) h = absurd (cc h)
  block_kept (SetField o c f e at p) h = absurd (cc h)
  block_kept (Eval e at p) h = absurd (cc h)
  block_kept (When l b o at p) h = absurd (cc h)

  set_blocks : (b opens : Bool) (l : ℕ) → HasBlocks (set_if b l opens)
  unfolding HasBlocks
  set_blocks true true l = tt
  set_blocks true false l = tt
  set_blocks false opens l = tt

  mutual
    unfolding erased_sta HasBlocks

    pub blocks_kept : (b : TSta) → HasBlocks b → HasBlocks (erased_sta t asked b)
    blocks_kept (Block bs at p) h = all_blocks bs h
    blocks_kept (If e b o at p) h = (blocks_kept b h.0, else_blocks o h.1)
    blocks_kept (While e b at p) h = blocks_kept b h
    blocks_kept (Try b cs at p) h = (blocks_kept b h.0, catch_blocks cs h.1)
    blocks_kept (Return o at p) h = tt
    blocks_kept (Break at p) h = tt
    blocks_kept (Continue at p) h = tt
    blocks_kept (Throw c at p) h = tt
    blocks_kept (Open l at p) h = set_blocks (asked l) true l
    blocks_kept (Close l at p) h = set_blocks (asked l) false l
    blocks_kept (SetLocal x q e at p) h = tt
    blocks_kept (SetStatic c f e at p) h = tt
    blocks_kept (SetField o c f e at p) h = tt
    blocks_kept (Eval e at p) h = tt
    blocks_kept (When l b o at p) h = (blocks_kept b h.0, else_blocks o h.1)

    else_blocks : (o : MayTSta) → ElseHasBlocks o → ElseHasBlocks (erased_else t asked o)
    else_blocks NoElse h = tt
    else_blocks (Otherwise b) h = blocks_kept b h

    all_blocks : (bs : TStas) → AllHaveBlocks bs → AllHaveBlocks (erased_all t asked bs)
    all_blocks End h = tt
    all_blocks (Then b bs) h = (blocks_kept b h.0, all_blocks bs h.1)

    catch_blocks : (cs : TCatches) → CatchesHaveBlocks cs
        → CatchesHaveBlocks (erased_catches t asked cs)
    catch_blocks NoCatch h = tt
    catch_blocks (Catch c b cs) h = (block_kept b h.0, blocks_kept b h.1, catch_blocks cs h.2)
