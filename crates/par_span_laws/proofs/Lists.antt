-- Places in a list with one more item.
use Rattle.std.proofs.Common.{ℕ, List, [], ◌∷◌, ◌++◌}
use Rattle.std.specs.List.{AllByRecursion}
use Rattle.par_tree.specs.Plain.{Exp, Exps, NoExps, More, Sta, Stas, End, Then, Catches, NoCatch}
use Rattle.par_tree.specs.Plain.{Catch, Handler, with_exp, with_sta, with_catch}
use Rattle.par_span_laws.specs.Within.{ExpIn, ExpsIn, StaIn, StasIn, HandlerIn, CatchesIn}

pub pushed : {A : Type 0} (P : A → Type 0) (xs : List A) (x : A) → AllByRecursion P xs → P x
    → AllByRecursion P (xs ++ x ∷ [])
pushed P [] x p q = (q, tt)
pushed P (y ∷ xs) x p q = (p.0, pushed P xs x p.1 q)

module _ (m : ℕ) where
  pub one_more_exp : (es : Exps) (e : Exp) → ExpsIn m es → ExpIn m e → ExpsIn m (with_exp es e)
  unfolding with_exp ExpsIn
  one_more_exp NoExps e p q = (q, tt)
  one_more_exp (More x es) e p q = (p.0, one_more_exp es e p.1 q)

  pub one_more_sta : (ss : Stas) (s : Sta) → StasIn m ss → StaIn m s → StasIn m (with_sta ss s)
  unfolding with_sta StasIn
  one_more_sta End s p q = (q, tt)
  one_more_sta (Then x ss) s p q = (p.0, one_more_sta ss s p.1 q)

  pub one_more_catch : (cs : Catches) (h : Handler) → CatchesIn m cs → HandlerIn m h
      → CatchesIn m (with_catch cs h)
  unfolding with_catch CatchesIn
  one_more_catch NoCatch h p q = (q, tt)
  one_more_catch (Catch x cs) h p q = (p.0, one_more_catch cs h p.1 q)
