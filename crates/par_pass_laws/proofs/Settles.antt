-- Facts that hold what a pass finds are closed, where no head is raised.
use Rattle.std.proofs.Common.{◌≡◌, ℕ, Bool, true, false, cond, ◌||◌, Option, Some, None, List, []}
use Rattle.std.proofs.Common.{◌∷◌, ◌++◌, refl, sym, ap, subst}
use Rattle.par_bits.specs.Sets.{IsWithin, union}
use Rattle.par_except.specs.par_program_laws.Lattice.{numbers}
use Rattle.par_except.specs.par_program_laws.Kinds as kind
use Rattle.par_except.specs.par_program_laws.Kinds.{Kind, Normal, normal, absorbed, Absorber, Next}
use Rattle.par_except.specs.par_program_laws.Kinds.{Loop}
use Rattle.par_except.specs.par_program_laws.Kinds.{Catches}
use Rattle.par_except.specs.par_program_laws.Ways.{MayFlow, MayLand, MayRaise}
use Rattle.par_except.specs.par_program_laws.Facts.{Fact, Facts}
use Rattle.par_except.specs.par_program_laws.Rules.{Node, node, Rules, Done, Part, Test, Heads}
use Rattle.par_except.specs.par_program_laws.Rules.{Leaves}
use Rattle.par_except.specs.par_program_laws.Rules.{Worths}
use Rattle.par_except.specs.par_program_laws.Rules.{spot, way, worth, WhereReached, MayLeave}
use Rattle.par_except.specs.par_program_laws.Rules.{MayHead}
use Rattle.par_except.specs.par_program_laws.Rules.{Holds}
use Rattle.par_except.specs.par_program_laws.Rules.{Restores, Passes, Obeys, ObeysAll}
use Rattle.par_pass_laws.specs.Exits.{Way, Exit, at, all, leaving, leave}
use Rattle.par_pass_laws.specs.Pass.{HeadWays, Event, Found, nothing, fact, visited, ended, into}
use Rattle.par_pass_laws.specs.Pass.{pass}
use Rattle.par_pass_laws.specs.Pass.{pass_all}
use Rattle.par_pass_laws.specs.Settled.{AllSay}
use Rattle.par_pass_laws.proofs.Order.{sub_refl, sub_trans, union_l, union_r, flows_refl, may_refl}
use Rattle.par_pass_laws.proofs.Order.{may_trans, may_land, land_refl, land_trans, same_refl}
use Rattle.par_pass_laws.proofs.Ups.{up_l, up_r, at_leaving, up_restored, land_restored, restores}

module _ (b : Facts numbers) (h : HeadWays) where
  say_front : (xs ys : List Event) → AllSay b h (xs ++ ys) → AllSay b h xs
  say_front [] ys m = tt
  say_front (x ∷ xs) ys m = (m.0, say_front xs ys m.1)

  say_back : (xs ys : List Event) → AllSay b h (xs ++ ys) → AllSay b h ys
  say_back [] ys m = m
  say_back (x ∷ xs) ys m = say_back xs ys m.1

  -- what is found so far goes into what is found in the end
  pub record GoesInto (r s : Found) : Type 0 where
    pub value : IsWithin r.value s.value
    pub exits : (k : Kind) → MayFlow numbers (at r.exits k) (at s.exits k)
    pub events : AllSay b h s.events → AllSay b h r.events

  into_trans : (r s t : Found) → GoesInto r s → GoesInto s t → GoesInto r t
  into_trans r s t f g = record {
    value = sub_trans r.value s.value t.value f.value g.value;
    exits = λ k. may_trans (at r.exits k) (at s.exits k) (at t.exits k) (f.exits k) (g.exits k);
    events = λ m. f.events (g.events m);
  }

  more_exits : (r : Found) (xs : List Exit) (l : List Event)
      → GoesInto r (record { value = r.value; exits = all xs r.exits; events = r.events ++ l })
  more_exits r xs l =
      record { value = sub_refl r.value; exits = up_r xs r.exits; events = say_front r.events l }

  pub into_all : (rules : Rules) (w : Way) (head : Option ℕ) (fs : List (Fact numbers)) (r : Found)
      → GoesInto r (pass_all h rules w head fs r)
  unfolding pass_all
  into_all Done w head fs r =
      record { value = sub_refl r.value; exits = λ k. may_refl (at r.exits k); events = λ m. m }
  into_all (Part from absorber part more) w head fs r =
      let q = visited (way numbers (Some w) fs from) (spot part) (pass h part) in
      into_trans r _ _ (more_exits r (leaving (absorbed absorber) q.exits) q.events)
      (into_all more w _ _ _)
  into_all (Test part more) w head fs r =
      let q = visited (h (spot part)) (spot part) (pass h part) in
      into_trans r _ _ (more_exits r (leaving normal q.exits) q.events) (into_all more w _ _ _)
  into_all (Heads from more) w head fs r =
      into_trans r _ _
      (record {
        value = sub_refl r.value;
        exits = λ k. may_refl (at r.exits k);
        events = say_front r.events (into head (way numbers (Some w) fs from));
      })
      (into_all more w head fs
      (record r { events = r.events ++ into head (way numbers (Some w) fs from) }))
  into_all (Leaves from kind more) w head fs r =
      let xs = leave (way numbers (Some w) fs from) kind in
      into_trans r _ _ (record {
        value = sub_refl r.value;
        exits = up_r xs r.exits;
        events = λ m. m;
      }) (into_all more w head fs (record r { exits = all xs r.exits }))
  into_all (Worths v more) w head fs r =
      let u = worth numbers (Some w) fs v in
      into_trans r _ _ (record {
        value = union_l r.value u;
        exits = λ k. may_refl (at r.exits k);
        events = λ m. m;
      }) (into_all more w head fs (record r { value = union r.value u }))

  not_first : (x y z : Bool) → ((x || y) || z) ≡ false → x ≡ false
  not_first true y z e = cc
  not_first false y z e = refl

  -- what is not absorbed is no normal exit
  not_normal : (absorber : Absorber) (k : Kind) → absorbed absorber k ≡ false → normal k ≡ false
  not_normal Next k e = e
  not_normal Loop k e = not_first _ _ _ e
  not_normal (Catches cs) kind.Normal e = e
  not_normal (Catches cs) kind.Return e = e
  not_normal (Catches cs) kind.Break e = e
  not_normal (Catches cs) kind.Continue e = e
  not_normal (Catches cs) (kind.Throw c) e = refl

  -- the fact of a point, and that its rules hold where it is reached
  pub record IsSettled (q : ℕ) (C : Type 0) (o : Option Way) (r : Found) : Type 0 where
    pub is : b q ≡ fact o r
    pub obeyed : WhereReached numbers o C

  -- the fact of the point has at least what is found before the end of the node
  pub record Keeps (p : ℕ) (w : Way) (s : Found) : Type 0 where
    pub entry : (b p).entry ≡ Some w
    pub value : IsWithin s.value (b p).value
    pub lands : MayLand numbers (at s.exits Normal) ((b p).exit Normal)
    pub flows : (k : Kind) → normal k ≡ false → MayFlow numbers (at s.exits k) ((b p).exit k)

  visited_settled : (q : ℕ) (C : Type 0) (o : Option Way) (f : Way → Found)
      → AllSay b h (visited o q f).events
      → ((w : Way) → AllSay b h (f w).events → IsSettled q C (Some w) (f w))
      → IsSettled q C o (visited o q f)
  visited_settled q C None f m ih = record { is = m.0; obeyed = tt }
  visited_settled q C (Some w) f m ih = ih w m

  ended_keeps : (p : ℕ) (w : Way) (r : Found) → b p ≡ fact (Some w) (ended p w r) → Keeps p w r
  ended_keeps p w r e = record {
    entry = ap (λ f. f.entry) e;
    value = subst (λ f. IsWithin r.value f.value) (sym e) (sub_refl r.value);
    lands =
        subst (λ f. MayLand numbers (at r.exits Normal) (f.exit Normal)) (sym e)
        (land_restored w r.exits (at r.exits Normal) (land_refl (at r.exits Normal)));
    flows =
        λ k n. subst (λ f. MayFlow numbers (at r.exits k) (f.exit k)) (sym e)
        (up_restored w r.exits (at r.exits k) k n (may_refl (at r.exits k)));
  }

  ended_restores : (p : ℕ) (w : Way) (r : Found) → b p ≡ fact (Some w) (ended p w r)
      → Restores numbers b p
  ended_restores p w r e =
      subst (λ f. Holds numbers (f.exit Normal)
      (λ z. MayRaise numbers f.entry z.context
      × ((k : Kind) → normal k ≡ false → MayRaise numbers (f.exit k) z.context))) (sym e)
      (restores w r.exits)

  -- the exits of a part go on, where they are not absorbed
  part_passes : (p q : ℕ) (absorbs : Kind → Bool) (w : Way) (o : Option Way) (xs : List Exit)
      (s r t : Found) → b q ≡ fact o s → ((k : Kind) → absorbs k ≡ false → normal k ≡ false)
      → GoesInto (record {
        value = r.value;
        exits = all (leaving absorbs s.exits) r.exits;
        events = r.events ++ s.events;
      }) t → Keeps p w t → Passes numbers b absorbs q p
  part_passes p q absorbs w o xs s r t e n g k = λ j a.
      subst (λ f. MayFlow numbers (f.exit j) ((b p).exit j)) (sym e)
      (may_trans (at s.exits j) (at t.exits j) ((b p).exit j)
      (may_trans (at s.exits j) (at (all (leaving absorbs s.exits) r.exits) j) (at t.exits j)
      (subst (λ x. MayFlow numbers x (at (all (leaving absorbs s.exits) r.exits) j))
      (at_leaving absorbs s.exits j a) (up_l (leaving absorbs s.exits) r.exits j))
      (g.exits j))
      (k.flows j (n j a)))

  reached_at : (C : Type 0) (q : ℕ) (o : Option Way) (s : Found) → b q ≡ fact o s
      → WhereReached numbers o C → WhereReached numbers (b q).entry C
  reached_at C q o s e c = subst (λ f. WhereReached numbers f.entry C) (sym e) c

  left_at : (o : Option Way) (k : Kind) → MayFlow numbers o (at (leave o k) k)
  left_at None k = tt
  left_at (Some w) k =
      subst (λ c. MayFlow numbers (Some w) (cond c (Some w) None)) (sym (same_refl k))
      (flows_refl w)

  leave_kept : (p : ℕ) (w : Way) (t : Found) → Keeps p w t → (kind : Kind) (o : Option Way)
      → MayFlow numbers o (at t.exits kind) → MayLeave numbers kind o ((b p).exit kind)
  leave_kept p w t k kind.Normal o m =
      land_trans o (at t.exits kind.Normal) ((b p).exit kind.Normal)
      (may_land o (at t.exits kind.Normal) m) k.lands
  leave_kept p w t k kind.Return o m =
      may_trans o (at t.exits kind.Return) ((b p).exit kind.Return) m (k.flows kind.Return refl)
  leave_kept p w t k kind.Break o m =
      may_trans o (at t.exits kind.Break) ((b p).exit kind.Break) m (k.flows kind.Break refl)
  leave_kept p w t k kind.Continue o m =
      may_trans o (at t.exits kind.Continue) ((b p).exit kind.Continue) m
      (k.flows kind.Continue refl)
  leave_kept p w t k (kind.Throw c) o m =
      may_trans o (at t.exits (kind.Throw c)) ((b p).exit (kind.Throw c)) m
      (k.flows (kind.Throw c) refl)

  -- the test of a loop is entered by its head way
  abbrev pub IsHead : Option ℕ → Type 0
  IsHead None = Unit {0}
  IsHead (Some t) = (b t).entry ≡ h t

  head_kept : (head : Option ℕ) (o : Option Way) → IsHead head → AllSay b h (into head o)
      → MayHead numbers b head o
  head_kept None o d m = tt
  head_kept (Some t) o d m = subst (MayFlow numbers o) (sym d) m.0

  mutual
    unfolding pass pass_all Obeys ObeysAll

    pub pass_settled : (n : Node) (w : Way) → AllSay b h (pass h n w).events
        → IsSettled (spot n) (Obeys numbers b n) (Some w) (pass h n w)
    pass_settled (node p rules) w m =
        let r = pass_all h rules w None [] nothing in
        let e : b p ≡ fact (Some w) (ended p w r) = (say_back r.events _ m).0 in
        record {
          is = e;
          obeyed = (
            ended_restores p w r e,
            all_settled p rules w None [] nothing tt (ended_keeps p w r e) (say_front r.events _ m),
          );
        }

    all_settled : (p : ℕ) (rules : Rules) (w : Way) (head : Option ℕ) (fs : List (Fact numbers))
        (r : Found) → IsHead head → Keeps p w (pass_all h rules w head fs r)
        → AllSay b h (pass_all h rules w head fs r).events → ObeysAll numbers b p head fs rules
    all_settled p Done w head fs r d k m = tt
    all_settled p (Part from absorber part more) w head fs r d k m =
        let o = way numbers (Some w) fs from in let s = visited o (spot part) (pass h part) in
        let n : Found =
        record {
          value = r.value;
          exits = all (leaving (absorbed absorber) s.exits) r.exits;
          events = r.events ++ s.events;
        } in
        let g = into_all more w head (fact o s ∷ fs) n in
        let z =
        visited_settled (spot part) (Obeys numbers b part) o (pass h part)
        (say_back r.events s.events (g.events m)) (pass_settled part) in (
          subst (λ e. MayFlow numbers (way numbers e fs from) (b (spot part)).entry) (sym k.entry)
              (subst (λ f. MayFlow numbers o f.entry) (sym z.is) (may_refl o)),
          reached_at (Obeys numbers b part) (spot part) o s z.is z.obeyed,
          part_passes p (spot part) (absorbed absorber) w o [] s r
              (pass_all h more w head (fact o s ∷ fs) n) z.is (not_normal absorber) g k,
          subst (λ f. ObeysAll numbers b p head (f ∷ fs) more) (sym z.is)
              (all_settled p more w head (fact o s ∷ fs) n d k m),
        )
    all_settled p (Test part more) w head fs r d k m =
        let o = h (spot part) in let s = visited o (spot part) (pass h part) in
        let n : Found =
        record {
          value = r.value;
          exits = all (leaving normal s.exits) r.exits;
          events = r.events ++ s.events;
        } in
        let g = into_all more w (Some (spot part)) (fact o s ∷ fs) n in
        let z =
        visited_settled (spot part) (Obeys numbers b part) o (pass h part)
        (say_back r.events s.events (g.events m)) (pass_settled part) in (
          reached_at (Obeys numbers b part) (spot part) o s z.is z.obeyed,
          part_passes p (spot part) normal w o [] s r
              (pass_all h more w (Some (spot part)) (fact o s ∷ fs) n) z.is (λ j e. e) g k,
          subst (λ f. ObeysAll numbers b p (Some (spot part)) (f ∷ fs) more) (sym z.is)
              (all_settled p more w (Some (spot part)) (fact o s ∷ fs) n
              (ap (λ f. f.entry) z.is) k m),
        )
    all_settled p (Heads from more) w head fs r d k m =
        let o = way numbers (Some w) fs from in
        let n : Found = record r { events = r.events ++ into head o } in
        let g = into_all more w head fs n in (
          subst (λ e. MayHead numbers b head (way numbers e fs from)) (sym k.entry)
              (head_kept head o d (say_back r.events (into head o) (g.events m))),
          all_settled p more w head fs n d k m,
        )
    all_settled p (Leaves from kind more) w head fs r d k m =
        let o = way numbers (Some w) fs from in
        let n : Found = record r { exits = all (leave o kind) r.exits } in
        let g = into_all more w head fs n in (
          subst (λ e. MayLeave numbers kind (way numbers e fs from) ((b p).exit kind)) (sym k.entry)
              (leave_kept p w (pass_all h more w head fs n) k kind o
              (may_trans o (at (all (leave o kind) r.exits) kind)
              (at (pass_all h more w head fs n).exits kind)
              (may_trans o (at (leave o kind) kind) (at (all (leave o kind) r.exits) kind)
              (left_at o kind) (up_l (leave o kind) r.exits kind))
              (g.exits kind))),
          all_settled p more w head fs n d k m,
        )
    all_settled p (Worths v more) w head fs r d k m =
        let u = worth numbers (Some w) fs v in
        let n : Found = record r { value = union r.value u } in
        let g = into_all more w head fs n in (
          subst (λ e. IsWithin (worth numbers e fs v) (b p).value) (sym k.entry)
              (sub_trans u (pass_all h more w head fs n).value (b p).value
              (sub_trans u (union r.value u) (pass_all h more w head fs n).value
              (union_r r.value u) g.value) k.value),
          all_settled p more w head fs n d k m,
        )
