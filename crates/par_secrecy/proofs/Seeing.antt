-- What an observer sees of joins of policies, with open locks that it has.
use Rattle.std.proofs.Common.{ℕ, List, [], ◌∷◌, ◌++◌, Contains, refl, subst}
use Rattle.std.specs.Prelude.{IsTrue}
use Rattle.std.specs.List.{list_all}
use Rattle.std.proofs.lemmas.Bool.{and_parts, and_from}
use Rattle.std.proofs.lemmas.List.Elements.{All-append, All-contains_itself}
use Rattle.std.proofs.lemmas.List.Folds.{list_all-append}
use Rattle.par_policy.specs.Numbers.{within}
use Rattle.par_policy.specs.Sees.{sees_join_at}
use Rattle.par_policy.specs.Order.{IsJoinBelowAt}
use Rattle.par_policy.proofs.Members.{All-from_within, within-from_All}
use Rattle.par_policy.proofs.Seen.{sees_more}
use Rattle.par_secrecy.specs.Subject.{Policy}
use Rattle.par_secrecy.specs.Shown.{Observer, sees}

module _ (o : Observer) where
  -- the observer sees each policy of the join
  abbrev pub Seen : List Policy → Type 0
  Seen ps = IsTrue (list_all (sees o) ps)

  pub seen_left : (ps qs : List Policy) → Seen (ps ++ qs) → Seen ps
  seen_left ps qs h =
      (and_parts (list_all (sees o) ps) (list_all (sees o) qs)
      (subst IsTrue (list_all-append (sees o) ps qs) h)).0

  pub seen_right : (ps qs : List Policy) → Seen (ps ++ qs) → Seen qs
  seen_right ps qs h =
      (and_parts (list_all (sees o) ps) (list_all (sees o) qs)
      (subst IsTrue (list_all-append (sees o) ps qs) h)).1

  -- locks that the observer has add nothing
  has_anyway : (opened : List ℕ) → IsTrue (within opened o.locks)
      → IsTrue (within (o.locks ++ opened) o.locks)
  has_anyway opened h =
      within-from_All (o.locks ++ opened) o.locks
      (All-append (Contains o.locks) o.locks opened (All-contains_itself o.locks)
      (All-from_within opened o.locks h))

  seen_anyway : (ps : List Policy) (opened : List ℕ) → IsTrue (within opened o.locks)
      → IsTrue (sees_join_at ps opened o.actor o.locks) → Seen ps
  seen_anyway [] opened h k = refl
  seen_anyway (p ∷ ps) opened h k =
      let both = and_parts _ (sees_join_at ps opened o.actor o.locks) k in
      and_from (sees o p) _ (sees_more p o.actor (o.locks ++ opened) o.locks
      (has_anyway opened h) both.0) (seen_anyway ps opened h both.1)

  -- Who sees the target, and has the locks that are surely open, sees what flows to it.
  pub seen_source : (ps : List Policy) (opened : List ℕ) (to : Policy) → IsJoinBelowAt ps opened to
      → IsTrue (sees o to) → IsTrue (within opened o.locks) → Seen ps
  seen_source ps opened to below h k = seen_anyway ps opened k (below o.actor o.locks h)
