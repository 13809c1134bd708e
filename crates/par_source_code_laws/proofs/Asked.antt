-- The locks that an erased body names are asked for.
use Rattle.std.proofs.Common.{◌≡◌, ℕ, Bool, true, false, ◌||◌, List, [], ◌∷◌, map, refl, sym}
use Rattle.std.proofs.Common.{subst}
use Rattle.std.specs.List.{AllByRecursion}
use Rattle.std.proofs.Common.{eq-eqb}
use Rattle.par_typed.specs.declared.table.Table.{Table}
use Rattle.par_typed.specs.Plain.{TExp, Int, Boolean, Null, This, New, Local, Static, Field, Input}
use Rattle.par_typed.specs.Plain.{Output, Call, Neg, Not, Binary, MayTExp, Absent, Present, TExps}
use Rattle.par_typed.specs.Plain.{NoExps, More}
use Rattle.par_typed.specs.Plain.{TSta, Block, If, While, Try, Return, Break, Continue, Throw, Open}
use Rattle.par_typed.specs.Plain.{Close, SetLocal, SetStatic, SetField, Eval, When}
use Rattle.par_typed.specs.Plain.{MayTSta, NoElse, Otherwise, TStas, End, Then, TCatches, NoCatch}
use Rattle.par_typed.specs.Plain.{Catch, Body}
use Rattle.par_erase.specs.Asked.{Locks, only, either, asks, else_asks, all_ask, catches_ask}
use Rattle.par_erase.specs.Asked.{asked_in}
use Rattle.par_erase.specs.Erased.{erased_sta, erased_else, erased_all, erased_catches, set_if}
use Rattle.par_source_code_laws.specs.Named.{Named, EachInExp, EachInMay, EachInExps, EachInSta}
use Rattle.par_source_code_laws.specs.Named.{EachInElse}
use Rattle.par_source_code_laws.specs.Named.{EachInStas, EachInCatches}
use Rattle.par_source_code_laws.specs.Items.{LockPasses}
use Rattle.par_source_code_laws.specs.Laws.{erased_body, ErasedBodiesUseAskedLocks}
use Rattle.par_source_code_laws.proofs.Bodies.{bodies_are_erased}

-- ---- some of the locks

-- each lock of these is one of those
abbrev IsIn : Locks → Locks → Type 0
IsIn few all = (lock : ℕ) → few lock ≡ true → all lock ≡ true

or-left : (a b : Bool) → a ≡ true → (a || b) ≡ true
or-left true b h = refl
or-left false b h = absurd (cc h)

or-right : (a b : Bool) → b ≡ true → (a || b) ≡ true
or-right true b h = refl
or-right false b h = h

in-left : (p q all : Locks) → IsIn (either p q) all → IsIn p all
unfolding either
in-left p q all h lock e = h lock (or-left (p lock) (q lock) e)

in-right : (p q all : Locks) → IsIn (either p q) all → IsIn q all
unfolding either
in-right p q all h lock e = h lock (or-right (p lock) (q lock) e)

in-one : (lock : ℕ) (all : Locks) → IsIn (only lock) all → all lock ≡ true
unfolding only
in-one lock all h = h lock (eq-eqb lock lock refl)

-- ---- expressions name no lock

module _ (asked : Locks) where
  abbrev P : Named → Type 0
  P = LockPasses asked

  mutual
    unfolding EachInExp

    pub no-locks : (e : TExp) → EachInExp P e
    no-locks (Int n m) = tt
    no-locks (Boolean b m) = tt
    no-locks (Null m) = tt
    no-locks (This m) = tt
    no-locks (New c m) = tt
    no-locks (Local x m) = tt
    no-locks (Static c f m) = tt
    no-locks (Field e c f m) = (tt, no-locks e)
    no-locks (Input c k m) = tt
    no-locks (Output c k e m) = (tt, no-locks e)
    no-locks (Call c i o es m) = (tt, no-locks-may o, no-locks-args es)
    no-locks (Neg e m) = no-locks e
    no-locks (Not e m) = no-locks e
    no-locks (Binary op a b m) = (no-locks a, no-locks b)

    no-locks-may : (o : MayTExp) → EachInMay P o
    no-locks-may Absent = tt
    no-locks-may (Present e) = no-locks e

    no-locks-args : (es : TExps) → EachInExps P es
    no-locks-args NoExps = tt
    no-locks-args (More e es) = (no-locks e, no-locks-args es)

  -- ---- an erased statement names those alone that are asked for

  set-asked : (b : Bool) (lock : ℕ) (opens : Bool) → asked lock ≡ b
      → EachInSta P (set_if b lock opens)
  unfolding EachInSta
  set-asked true lock true e = e
  set-asked true lock false e = e
  set-asked false lock opens e = tt

  module _ (t : Table) where
    mutual
      unfolding asks erased_sta EachInSta

      pub sta-asked : (s : TSta) → IsIn (asks s) asked → EachInSta P (erased_sta t asked s)
      sta-asked (Block ss at p) h = all-asked ss h
      sta-asked (If e s o at p) h = (
        no-locks _,
        sta-asked s (in-left (asks s) (else_asks o) asked h),
        else-asked o (in-right (asks s) (else_asks o) asked h),
      )
      sta-asked (While e s at p) h = (no-locks _, sta-asked s h)
      sta-asked (Try s cs at p) h = (
        sta-asked s (in-left (asks s) (catches_ask cs) asked h),
        catches-asked cs (in-right (asks s) (catches_ask cs) asked h),
      )
      sta-asked (Return o at p) h = no-locks-may _
      sta-asked (Break at p) h = tt
      sta-asked (Continue at p) h = tt
      sta-asked (Throw c at p) h = tt
      sta-asked (Open l at p) h = set-asked (asked l) l true refl
      sta-asked (Close l at p) h = set-asked (asked l) l false refl
      sta-asked (SetLocal x q e at p) h = no-locks _
      sta-asked (SetStatic c f e at p) h = (tt, no-locks _)
      sta-asked (SetField o c f e at p) h = (tt, no-locks _, no-locks _)
      sta-asked (Eval e at p) h = no-locks _
      sta-asked (When l s o at p) h =
          let inner = either (asks s) (else_asks o) in
          let later = in-right (only l) inner asked h in (
            in-one l asked (in-left (only l) inner asked h),
            sta-asked s (in-left (asks s) (else_asks o) asked later),
            else-asked o (in-right (asks s) (else_asks o) asked later),
          )

      else-asked : (o : MayTSta) → IsIn (else_asks o) asked
          → EachInElse P (erased_else t asked o)
      else-asked NoElse h = tt
      else-asked (Otherwise s) h = sta-asked s h

      all-asked : (ss : TStas) → IsIn (all_ask ss) asked → EachInStas P (erased_all t asked ss)
      all-asked End h = tt
      all-asked (Then s ss) h = (
        sta-asked s (in-left (asks s) (all_ask ss) asked h),
        all-asked ss (in-right (asks s) (all_ask ss) asked h),
      )

      catches-asked : (cs : TCatches) → IsIn (catches_ask cs) asked
          → EachInCatches P (erased_catches t asked cs)
      catches-asked NoCatch h = tt
      catches-asked (Catch c s cs) h = (
        tt,
        sta-asked s (in-left (asks s) (catches_ask cs) asked h),
        catches-asked cs (in-right (asks s) (catches_ask cs) asked h),
      )

    -- and so does each of these bodies
    bodies-asked : (bs : List Body) → IsIn (asked_in bs) asked
        → AllByRecursion (λ (b : Body). EachInSta P b.body) (map (erased_body t asked) bs)
    bodies-asked [] h = tt
    bodies-asked (b ∷ bs) h = (
      sta-asked b.body (in-left (asks b.body) (asked_in bs) asked h),
      bodies-asked bs (in-right (asks b.body) (asked_in bs) asked h),
    )

pub erased_bodies_use_asked_locks : ErasedBodiesUseAskedLocks
erased_bodies_use_asked_locks t bodies are =
    subst (AllByRecursion (λ (b : Body). EachInSta (LockPasses (asked_in bodies)) b.body))
    (sym (bodies_are_erased t bodies are))
    (bodies-asked (asked_in bodies) t bodies (λ lock e. e))
