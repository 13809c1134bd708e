-- Closed facts over sets of numbers are closed as facts over the policies that the sets stand for.
use Rattle.std.proofs.Common.{◌≡◌, ℕ, zero, suc, Bool, true, false, cond, ◌||◌, ◌&&◌, not, Option}
use Rattle.std.proofs.Common.{Some, None, List, [], ◌∷◌, refl, ap}
use Rattle.std.proofs.lemmas.Bool.{eqb-true}
use Rattle.std.proofs.Common.{eq-eqb}
use Rattle.std.specs.Prelude.{nat_eq, IsTrue, slice_get}
use Rattle.par_except.specs.par_policy.declared.clauses.Clause.{Clause}
use Rattle.par_except.specs.par_policy.Sees.{sees}
use Rattle.par_bits.specs.Sets.{Set, IsWithin, none, adding, union}
use Rattle.par_except.specs.par_typed.Plain.{Body, point}
use Rattle.par_except.specs.par_program_laws.Lattice.{Lattice, numbers, policies, seen_by, joined}
use Rattle.par_except.specs.par_program_laws.Kinds as kind
use Rattle.par_except.specs.par_program_laws.Kinds.{Kind, Normal, normal}
use Rattle.par_except.specs.par_program_laws.Ways as rules
use Rattle.par_except.specs.par_program_laws.Ways.{Flows, Lands, MayFlow, MayLand, MayRaise, raised}
use Rattle.par_except.specs.par_program_laws.Ways.{assigned, opened}
use Rattle.par_except.specs.par_program_laws.Ways.{shut, moved}
use Rattle.par_except.specs.par_program_laws.Facts.{Fact, Facts}
use Rattle.par_except.specs.par_program_laws.Declares.{Declares}
use Rattle.par_except.specs.par_program_laws.Rules.{From, Entry, After, Tested, Raised, Opened}
use Rattle.par_except.specs.par_program_laws.Rules.{Shut}
use Rattle.par_except.specs.par_program_laws.Rules.{Assigned}
use Rattle.par_except.specs.par_program_laws.Rules.{Worth, Given, Held, Value}
use Rattle.par_except.specs.par_program_laws.Rules.{Node, node, Rules, Done, Part, Test, Heads}
use Rattle.par_except.specs.par_program_laws.Rules.{Leaves}
use Rattle.par_except.specs.par_program_laws.Rules.{Worths, spot}
use Rattle.par_except.specs.par_program_laws.Rules.{way, worth, held, part_at, Holds, WhereReached}
use Rattle.par_except.specs.par_program_laws.Rules.{MayLeave, MayHead}
use Rattle.par_except.specs.par_program_laws.Rules.{Restores, Obeys, ObeysAll}
use Rattle.par_except.specs.par_program_laws.Body.{sta}
use Rattle.par_except.specs.par_program_laws.Closed.{IsClosed, first, arriving, locals}
use Rattle.par_pass_laws.specs.Exits.{Way}
use Rattle.par_pass_laws.proofs.Order.{sub_refl, sub_trans, union_l, union_r, union_mono}
use Rattle.par_pass_laws.proofs.Order.{minus_mono}

-- what a set stands for, in a lattice
pub record StandsFor (Q : Lattice) : Type 1 where
  pub meant : Set → Q.Policy
  pub refl : (p : Q.Policy) → Q.IsBelow p p
  pub trans : (p q r : Q.Policy) → Q.IsBelow p q → Q.IsBelow q r → Q.IsBelow p r
  pub both : (p q r s : Q.Policy) → Q.IsBelow p r → Q.IsBelow q s
      → Q.IsBelow (Q.join p q) (Q.join r s)
  pub order : (s t : Set) → IsWithin s t → Q.IsBelow (meant s) (meant t)
  pub join : (s t : Set) → Q.IsBelow (Q.join (meant s) (meant t)) (meant (union s t))
  pub least : (p : Q.Policy) → Q.IsBelow Q.bottom p
  pub given : (n : ℕ) → Q.IsBelow (Q.given n) (meant (adding none n))

module _ (Q : Lattice) (M : StandsFor Q) where
  abbrev pub as_way : Way → rules.Way Q
  as_way w = record { context = M.meant w.context; env = λ i. M.meant (w.env i); locks = w.locks }

  abbrev pub as_may : Option Way → Option (rules.Way Q)
  as_may None = None
  as_may (Some w) = Some (as_way w)

  abbrev pub as_fact : Fact numbers → Fact Q
  as_fact f =
      record { entry = as_may f.entry; value = M.meant f.value; exit = λ k. as_may (f.exit k) }

  abbrev pub as_facts : Facts numbers → Facts Q
  as_facts a p = as_fact (a p)

  abbrev pub as_all : List (Fact numbers) → List (Fact Q)
  as_all [] = []
  as_all (f ∷ fs) = as_fact f ∷ as_all fs

  two : (p q : Q.Policy) (s t : Set) → Q.IsBelow p (M.meant s) → Q.IsBelow q (M.meant t)
      → Q.IsBelow (Q.join p q) (M.meant (union s t))
  two p q s t f g = M.trans _ _ _ (M.both _ _ _ _ f g) (M.join s t)

  lands : (w x : Way) → Lands numbers w x → Lands Q (as_way w) (as_way x)
  lands w x f = record { env = λ i. M.order _ _ (f.env i); locks = f.locks }

  flow : (o p : Option Way) → MayFlow numbers o p → MayFlow Q (as_may o) (as_may p)
  flow None p h = tt
  flow (Some w) None h = absurd h
  flow (Some w) (Some x) h = record { context = M.order _ _ h.context; lands = lands w x h.lands }

  land : (o p : Option Way) → MayLand numbers o p → MayLand Q (as_may o) (as_may p)
  land None p h = tt
  land (Some w) None h = absurd h
  land (Some w) (Some x) h = lands w x h

  raise : (o : Option Way) (c : Set) → MayRaise numbers o c → MayRaise Q (as_may o) (M.meant c)
  raise None c h = tt
  raise (Some w) c h = M.order _ _ h

  lands_on : (w x y : rules.Way Q) → Lands Q w x → Lands Q x y → Lands Q w y
  lands_on w x y f g =
      record {
        env = λ i. M.trans _ _ _ (f.env i) (g.env i);
        locks = sub_trans _ _ _ g.locks f.locks;
      }

  flow_on : (o p q : Option (rules.Way Q)) → MayFlow Q o p → MayFlow Q p q → MayFlow Q o q
  flow_on None p q h k = tt
  flow_on (Some w) None q h k = absurd h
  flow_on (Some w) (Some x) None h k = absurd k
  flow_on (Some w) (Some x) (Some y) h k =
      record { context = M.trans _ _ _ h.context k.context; lands = lands_on w x y h.lands k.lands }

  land_on : (o p q : Option (rules.Way Q)) → MayFlow Q o p → MayLand Q p q → MayLand Q o q
  land_on None p q h k = tt
  land_on (Some w) None q h k = absurd h
  land_on (Some w) (Some x) None h k = absurd k
  land_on (Some w) (Some x) (Some y) h k = lands_on w x y h.lands k

  flow_refl : (o : Option (rules.Way Q)) → MayFlow Q o o
  flow_refl None = tt
  flow_refl (Some w) =
      record {
        context = M.refl w.context;
        lands = record { env = λ i. M.refl (w.env i); locks = sub_refl w.locks };
      }

  -- the fact of the lattice is below what the other stands for
  pub record IsLower (g : Fact Q) (f : Fact numbers) : Type 0 where
    pub value : Q.IsBelow g.value (M.meant f.value)
    pub exit : (k : Kind) → MayFlow Q (g.exit k) (as_may (f.exit k))

  part_lower : (fs : List (Fact numbers)) (i : ℕ)
      → IsLower (part_at Q (as_all fs) i) (part_at numbers fs i)
  part_lower [] i = record { value = M.least (M.meant none); exit = λ k. tt }
  part_lower (f ∷ fs) zero =
      record { value = M.refl (M.meant f.value); exit = λ k. flow_refl (as_may (f.exit k)) }
  part_lower (f ∷ fs) (suc i) = part_lower fs i

  move : (f : Way → Way) (g : rules.Way Q → rules.Way Q)
      → ((w : Way) (x : rules.Way Q) → Flows Q x (as_way w) → Flows Q (g x) (as_way (f w)))
      → (o : Option Way) (p : Option (rules.Way Q)) → MayFlow Q p (as_may o)
      → MayFlow Q (moved Q g p) (as_may (moved numbers f o))
  move f g m o None h = tt
  move f g m None (Some x) h = absurd h
  move f g m (Some w) (Some x) h = m w x h

  raise_way : (u : Set) (v : Q.Policy) → Q.IsBelow v (M.meant u) → (w : Way) (x : rules.Way Q)
      → Flows Q x (as_way w) → Flows Q (raised Q v x) (as_way (raised numbers u w))
  raise_way u v s w x h =
      record {
        context = two _ _ _ _ h.context s;
        lands = record { env = h.lands.env; locks = h.lands.locks };
      }

  put_lower : (b : Bool) (v p : Q.Policy) (u s : Set) → Q.IsBelow v (M.meant u)
      → Q.IsBelow p (M.meant s) → Q.IsBelow (cond b v p) (M.meant (cond b u s))
  put_lower true v p u s h k = h
  put_lower false v p u s h k = k

  assign_way : (i : ℕ) (u : Set) (v : Q.Policy) → Q.IsBelow v (M.meant u)
      → (w : Way) (x : rules.Way Q) → Flows Q x (as_way w)
      → Flows Q (assigned Q i v x) (as_way (assigned numbers i u w))
  assign_way i u v s w x h = record {
    context = h.context;
    lands =
        record {
          env =
              λ j. put_lower (nat_eq j i) _ (x.env j) _ (w.env j) (two _ _ _ _ s h.context)
              (h.lands.env j);
          locks = h.lands.locks;
        };
  }

  open_way : (l : Set) (w : Way) (x : rules.Way Q) → Flows Q x (as_way w)
      → Flows Q (opened Q l x) (as_way (opened numbers l w))
  open_way l w x h =
      record {
        context = h.context;
        lands = record { env = h.lands.env; locks = union_mono _ _ _ h.lands.locks };
      }

  shut_way : (l : Set) (w : Way) (x : rules.Way Q) → Flows Q x (as_way w)
      → Flows Q (shut Q l x) (as_way (shut numbers l w))
  shut_way l w x h =
      record {
        context = h.context;
        lands = record { env = h.lands.env; locks = minus_mono _ _ _ h.lands.locks };
      }

  pub way_lower : (o : Option Way) (fs : List (Fact numbers)) (from : From)
      → MayFlow Q (way Q (as_may o) (as_all fs) from) (as_may (way numbers o fs from))
  unfolding way
  way_lower o fs Entry = flow_refl (as_may o)
  way_lower o fs (After part k) = (part_lower fs part).exit k
  way_lower o fs (Tested part from) =
      move (raised numbers (part_at numbers fs part).value)
      (raised Q (part_at Q (as_all fs) part).value) (raise_way _ _ (part_lower fs part).value)
      (way numbers o fs from) (way Q (as_may o) (as_all fs) from) (way_lower o fs from)
  way_lower o fs (Raised policy from) =
      move (raised numbers (numbers.given policy)) (raised Q (Q.given policy))
      (raise_way _ _ (M.given policy)) (way numbers o fs from) (way Q (as_may o) (as_all fs) from)
      (way_lower o fs from)
  way_lower o fs (Opened locks from) =
      move (opened numbers locks) (opened Q locks) (open_way locks) (way numbers o fs from)
      (way Q (as_may o) (as_all fs) from) (way_lower o fs from)
  way_lower o fs (Shut locks from) =
      move (shut numbers locks) (shut Q locks) (shut_way locks) (way numbers o fs from)
      (way Q (as_may o) (as_all fs) from) (way_lower o fs from)
  way_lower o fs (Assigned x part from) =
      move (assigned numbers x (part_at numbers fs part).value)
      (assigned Q x (part_at Q (as_all fs) part).value)
      (assign_way x _ _ (part_lower fs part).value) (way numbers o fs from)
      (way Q (as_may o) (as_all fs) from) (way_lower o fs from)

  held_lower : (o : Option Way) (x : ℕ)
      → Q.IsBelow (held Q (as_may o) x) (M.meant (held numbers o x))
  held_lower None x = M.least (M.meant none)
  held_lower (Some w) x = M.refl (M.meant (w.env x))

  worth_lower : (o : Option Way) (fs : List (Fact numbers)) (v : Worth)
      → Q.IsBelow (worth Q (as_may o) (as_all fs) v) (M.meant (worth numbers o fs v))
  unfolding worth
  worth_lower o fs (Given policy) = M.given policy
  worth_lower o fs (Held x) = held_lower o x
  worth_lower o fs (Value part) = (part_lower fs part).value

  module _ (a : Facts numbers) where
    restores_along : (p : ℕ) → Restores numbers a p → Restores Q (as_facts a) p
    restores_along p r = held_along ((a p).exit Normal) r where
      held_along : (o : Option Way)
          → Holds numbers o (λ w. MayRaise numbers (a p).entry w.context
          × ((k : Kind) → normal k ≡ false → MayRaise numbers ((a p).exit k) w.context))
          → Holds Q (as_may o) (λ w. MayRaise Q (as_may (a p).entry) w.context
          × ((k : Kind) → normal k ≡ false → MayRaise Q (as_may ((a p).exit k)) w.context))
      held_along None r = tt
      held_along (Some w) r =
          (raise (a p).entry w.context r.0, λ k n. raise ((a p).exit k) w.context (r.1 k n))

    leave_along : (k : Kind) (p : Option (rules.Way Q)) (o e : Option Way) → MayFlow Q p (as_may o)
        → MayLeave numbers k o e → MayLeave Q k p (as_may e)
    leave_along kind.Normal p o e f m = land_on p (as_may o) (as_may e) f (land o e m)
    leave_along kind.Return p o e f m = flow_on p (as_may o) (as_may e) f (flow o e m)
    leave_along kind.Break p o e f m = flow_on p (as_may o) (as_may e) f (flow o e m)
    leave_along kind.Continue p o e f m = flow_on p (as_may o) (as_may e) f (flow o e m)
    leave_along (kind.Throw c) p o e f m = flow_on p (as_may o) (as_may e) f (flow o e m)

    head_along : (head : Option ℕ) (p : Option (rules.Way Q)) (o : Option Way)
        → MayFlow Q p (as_may o) → MayHead numbers a head o → MayHead Q (as_facts a) head p
    head_along None p o f m = tt
    head_along (Some t) p o f m = flow_on p (as_may o) (as_may (a t).entry) f (flow o (a t).entry m)

    where_reached : (o : Option Way) (C D : Type 0) → (C → D) → WhereReached numbers o C
        → WhereReached Q (as_may o) D
    where_reached None C D f c = tt
    where_reached (Some w) C D f c = f c

    mutual
      unfolding Obeys ObeysAll

      pub obeys_along : (n : Node) → Obeys numbers a n → Obeys Q (as_facts a) n
      obeys_along (node p rules) c = (restores_along p c.0, all_along rules p None [] c.1)

      all_along : (rules : Rules) (p : ℕ) (head : Option ℕ) (fs : List (Fact numbers))
          → ObeysAll numbers a p head fs rules → ObeysAll Q (as_facts a) p head (as_all fs) rules
      all_along Done p head fs c = tt
      all_along (Part from absorber part more) p head fs c = (
        flow_on (way Q (as_may (a p).entry) (as_all fs) from)
            (as_may (way numbers (a p).entry fs from)) (as_may (a (spot part)).entry)
            (way_lower (a p).entry fs from)
            (flow (way numbers (a p).entry fs from) (a (spot part)).entry c.0),
        where_reached (a (spot part)).entry (Obeys numbers a part) (Obeys Q (as_facts a) part)
            (obeys_along part) c.1,
        λ k e. flow ((a (spot part)).exit k) ((a p).exit k) (c.2 k e),
        all_along more p head (a (spot part) ∷ fs) c.3,
      )
      all_along (Test part more) p head fs c = (
        where_reached (a (spot part)).entry (Obeys numbers a part) (Obeys Q (as_facts a) part)
            (obeys_along part) c.0,
        λ k e. flow ((a (spot part)).exit k) ((a p).exit k) (c.1 k e),
        all_along more p (Some (spot part)) (a (spot part) ∷ fs) c.2,
      )
      all_along (Heads from more) p head fs c = (
        head_along head _ (way numbers (a p).entry fs from) (way_lower (a p).entry fs from) c.0,
        all_along more p head fs c.1,
      )
      all_along (Leaves from k more) p head fs c = (
        leave_along k _ (way numbers (a p).entry fs from) ((a p).exit k)
            (way_lower (a p).entry fs from) c.0,
        all_along more p head fs c.1,
      )
      all_along (Worths v more) p head fs c = (
        M.trans _ _ _ (worth_lower (a p).entry fs v) (M.order _ _ c.0),
        all_along more p head fs c.1,
      )

    arriving_lower : (ps : List ℕ) (i : ℕ)
        → Q.IsBelow (arriving Q ps i) (M.meant (arriving numbers ps i))
    arriving_lower [] i = M.least _
    arriving_lower (p ∷ ps) zero = M.given p
    arriving_lower (p ∷ ps) (suc i) = arriving_lower ps i

    locals_lower : (static : Bool) (ps : List ℕ) (i : ℕ)
        → Q.IsBelow (locals Q static ps i) (M.meant (locals numbers static ps i))
    locals_lower true ps i = arriving_lower ps i
    locals_lower false ps zero = M.least _
    locals_lower false ps (suc i) = arriving_lower ps i

    -- closed facts stay closed
    pub closed_along : (declared : Declares) (b : Body) → IsClosed numbers declared b a
        → IsClosed Q declared b (as_facts a)
    closed_along declared b c =
        let m = declared.method b.class b.method in
        record {
          entered =
              flow_on (Some (first Q m)) (Some (as_way (first numbers m)))
              (as_may (a (point b.body)).entry)
              (record {
                context = M.least _;
                lands =
                    record { env = locals_lower m.is_static m.params; locks = sub_refl m.expects };
              })
              (flow (Some (first numbers m)) (a (point b.body)).entry c.entered);
          obeyed = obeys_along (sta declared b.body) c.obeyed;
        }

-- policies by who sees them
pub and_in : (b c : Bool) → IsTrue b → IsTrue c → IsTrue (b && c)
and_in true c h k = k
and_in false c h k = cc

pub and_l : (b c : Bool) → IsTrue (b && c) → IsTrue b
and_l true c h = refl
and_l false c h = cc

pub and_r : (b c : Bool) → IsTrue (b && c) → IsTrue c
and_r true c h = h
and_r false c h = cc

fewer : (b c d : Bool) → (IsTrue b → IsTrue c) → IsTrue (not c || d) → IsTrue (not b || d)
fewer false c d f h = refl
fewer true true d f h = h
fewer true false d f h = let e : false ≡ true = f refl in cc

pub joined_order : (ps : List (List Clause)) (s t : Set) → IsWithin s t
    → (actor : ℕ) (locks : List ℕ) → IsTrue (joined ps t actor locks)
    → IsTrue (joined ps s actor locks)
unfolding joined
joined_order [] s t f actor locks h = refl
joined_order (p ∷ ps) s t f actor locks h =
    and_in (not (s 0) || sees p actor locks) (joined ps (λ n. s (suc n)) actor locks)
    (fewer (s 0) (t 0) (sees p actor locks) (f 0) (and_l _ _ h))
    (joined_order ps (λ n. s (suc n)) (λ n. t (suc n)) (λ n. f (suc n)) actor locks
    (and_r (not (t 0) || sees p actor locks) _ h))

pub joined_given : (ps : List (List Clause)) (n : ℕ) (actor : ℕ) (locks : List ℕ)
    → IsTrue (joined ps (adding none n) actor locks) → IsTrue (seen_by (slice_get ps n) actor locks)
unfolding joined
joined_given [] n actor locks h = refl
joined_given (p ∷ ps) zero actor locks h = and_l (sees p actor locks) _ h
joined_given (p ∷ ps) (suc n) actor locks h =
    joined_given ps n actor locks
    (joined_order ps (adding none n) (λ m. adding none (suc n) (suc m))
    (λ m e. eq-eqb (suc m) (suc n) (ap suc (eqb-true m n e))) actor locks
    (and_r (not (adding none (suc n) 0) || sees p actor locks)
    (joined ps (λ m. adding none (suc n) (suc m)) actor locks) h))

unfoldable pub stand_for : (table : List (List Clause)) → StandsFor (policies table)
stand_for table = record {
  meant = joined table;
  refl = λ p actor locks h. h;
  trans = λ p q r f g actor locks h. f actor locks (g actor locks h);
  both =
      λ p q r s f g actor locks h.
      and_in (p actor locks) (q actor locks)
      (f actor locks (and_l (r actor locks) (s actor locks) h))
      (g actor locks (and_r (r actor locks) (s actor locks) h));
  order = λ s t f. joined_order table s t f;
  join =
      λ s t actor locks h. and_in (joined table s actor locks) (joined table t actor locks)
      (joined_order table s (union s t) (union_l s t) actor locks h)
      (joined_order table t (union s t) (union_r s t) actor locks h);
  least = λ p actor locks h. refl;
  given = joined_given table;
}
