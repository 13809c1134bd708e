-- A pass gives no exit of a completion that is not possible.
use Rattle.std.proofs.Common.{◌≡◌, ℕ, zero, suc, Bool, true, false, cond, ◌&&◌, not}
use Rattle.std.proofs.Common.{◌⊎◌, inl, inr, ⊎_elim}
use Rattle.std.proofs.Common.{Option, Some, None, List, [], ◌∷◌, ◌++◌, refl, ap, sym, ◌∙◌, subst}
use Rattle.std.proofs.lemmas.Bool.{or_parts, not-false}
use Rattle.par_bits.specs.Sets.{Set}
use Rattle.par_except.specs.par_program_laws.Lattice.{Lattice, numbers}
use Rattle.par_except.specs.par_program_laws.Kinds.{Kind, Normal, same, normal, absorbed}
use Rattle.par_except.specs.par_program_laws.Ways.{moved}
use Rattle.par_except.specs.par_program_laws.Facts.{Fact, Facts}
use Rattle.par_except.specs.par_program_laws.Rules.{From, Entry, After, Tested, Raised, Opened}
use Rattle.par_except.specs.par_program_laws.Rules.{Shut}
use Rattle.par_except.specs.par_program_laws.Rules.{Assigned}
use Rattle.par_except.specs.par_program_laws.Rules.{Node, node, Rules, Done, Part, Test, Heads}
use Rattle.par_except.specs.par_program_laws.Rules.{Leaves}
use Rattle.par_except.specs.par_program_laws.Rules.{Worths, spot}
use Rattle.par_except.specs.par_program_laws.Rules.{way, part_at, part_can, comes, can, can_by}
use Rattle.par_except.specs.par_program_laws.Rules.{WhereReached}
use Rattle.par_except.specs.Joins.{join}
use Rattle.par_pass_laws.specs.Exits.{Way, Exit, at, add, all, leaving, set_context, with_context}
use Rattle.par_pass_laws.specs.Exits.{leave}
use Rattle.par_pass_laws.specs.Pass.{HeadWays, Event, Found, nothing, fact, visited, pass, pass_all}
use Rattle.par_pass_laws.specs.Settled.{AllSay}
use Rattle.par_pass_laws.specs.Possible.{HasPossibleExits, HavePossibleExits}
use Rattle.par_pass_laws.proofs.Along.{StandsFor, as_may, as_facts}
use Rattle.par_pass_laws.proofs.Order.{same_true}

-- ---- lists of exits without one of the kind

abbrev Lacks : List Exit → Kind → Type 0
Lacks xs k = at xs k ≡ None

lacks_parts : (x : Exit) (xs : List Exit) (k : Kind) → Lacks (x ∷ xs) k
    → (same x.kind k ≡ false) × Lacks xs k
lacks_parts x xs k h = by_case (same x.kind k) h where
  by_case : (b : Bool) → cond b (Some x.way) (at xs k) ≡ None → (b ≡ false) × Lacks xs k
  by_case true h = absurd cc
  by_case false h = (refl, h)

lacks_both : (x : Exit) (xs : List Exit) (k : Kind) → same x.kind k ≡ false → Lacks xs k
    → Lacks (x ∷ xs) k
lacks_both x xs k e h = subst (λ b. cond b (Some x.way) (at xs k) ≡ None) (sym e) h

add_lacks : (y : Exit) (xs : List Exit) (k : Kind) → same y.kind k ≡ false → Lacks xs k
    → Lacks (add y xs) k
add_lacks y [] k e h = lacks_both y [] k e h
add_lacks y (x ∷ xs) k e h =
    let p = lacks_parts x xs k h in
    by_case (same x.kind y.kind) p.0 p.1 (add_lacks y xs k e p.1)
  where
    by_case : (b : Bool) → same x.kind k ≡ false → Lacks xs k → Lacks (add y xs) k
        → Lacks (cond b (record x { way = join x.way y.way } ∷ xs) (x ∷ add y xs)) k
    by_case true f i j = lacks_both (record x { way = join x.way y.way }) xs k f i
    by_case false f i j = lacks_both x (add y xs) k f j

all_lacks : (xs ys : List Exit) (k : Kind) → Lacks xs k → Lacks ys k → Lacks (all xs ys) k
all_lacks [] ys k h i = i
all_lacks (x ∷ xs) ys k h i =
    let p = lacks_parts x xs k h in all_lacks xs (add x ys) k p.1 (add_lacks x ys k p.0 i)

leaving_lacks : (absorbs : Kind → Bool) (xs : List Exit) (k : Kind) → Lacks xs k
    → Lacks (leaving absorbs xs) k
leaving_lacks absorbs [] k h = refl
leaving_lacks absorbs (x ∷ xs) k h =
    let p = lacks_parts x xs k h in
    by_case (absorbs x.kind) p.0 (leaving_lacks absorbs xs k p.1)
  where
    by_case : (b : Bool) → same x.kind k ≡ false → Lacks (leaving absorbs xs) k
        → Lacks (cond b (leaving absorbs xs) (x ∷ leaving absorbs xs)) k
    by_case true f i = i
    by_case false f i = lacks_both x (leaving absorbs xs) k f i

absorbed_lacks : (absorbs : Kind → Bool) (xs : List Exit) (k : Kind) → absorbs k ≡ true
    → Lacks (leaving absorbs xs) k
absorbed_lacks absorbs [] k e = refl
absorbed_lacks absorbs (x ∷ xs) k e = by_case (absorbs x.kind) refl (absorbed_lacks absorbs xs k e)
  where
    other : (b : Bool) → same x.kind k ≡ b → absorbs x.kind ≡ false → b ≡ false
    other true i f =
        let g : absorbs x.kind ≡ true = ap absorbs (same_true x.kind k i) ∙ e in
        let bad : true ≡ false = sym g ∙ f in absurd cc
    other false i f = refl

    by_case : (b : Bool) → absorbs x.kind ≡ b → Lacks (leaving absorbs xs) k
        → Lacks (cond b (leaving absorbs xs) (x ∷ leaving absorbs xs)) k
    by_case true f i = i
    by_case false f i = lacks_both x (leaving absorbs xs) k (other (same x.kind k) refl f) i

set_kind : (c : Set) (x : Exit) → (set_context c x).kind ≡ x.kind
set_kind c x = by_case (same x.kind Normal) where
  by_case : (b : Bool) → (cond b (record x { way = record x.way { context = c } }) x).kind ≡ x.kind
  by_case true = refl
  by_case false = refl

with_lacks : (c : Set) (xs : List Exit) (k : Kind) → Lacks xs k → Lacks (with_context c xs) k
with_lacks c [] k h = refl
with_lacks c (x ∷ xs) k h =
    let p = lacks_parts x xs k h in
    lacks_both (set_context c x) (with_context c xs) k (ap (λ j. same j k) (set_kind c x) ∙ p.0)
    (with_lacks c xs k p.1)

leave_lacks : (o : Option Way) (j k : Kind) → (o ≡ None) ⊎ (same j k ≡ false)
    → Lacks (leave o j) k
leave_lacks None j k h = refl
leave_lacks (Some w) j k h =
    ⊎_elim (λ e. absurd cc) (λ e. lacks_both (record { kind = j; way = w }) [] k e refl) h

-- ---- parts

-- the facts of parts have exits for possible completions alone
abbrev ArePossible : List (Fact numbers) → List (Kind → Bool) → Type 0
ArePossible fs cs =
    (n : ℕ) (k : Kind) → part_can cs n k ≡ false → (part_at numbers fs n).exit k ≡ None

way_lacks : (w : Way) (fs : List (Fact numbers)) (cs : List (Kind → Bool)) → ArePossible fs cs
    → (from : From) → comes cs from ≡ false → way numbers (Some w) fs from ≡ None
unfolding way comes
way_lacks w fs cs h Entry e = absurd cc
way_lacks w fs cs h (After n k) e = h n k e
way_lacks w fs cs h (Tested n from) e = ap (moved numbers _) (way_lacks w fs cs h from e)
way_lacks w fs cs h (Raised p from) e = ap (moved numbers _) (way_lacks w fs cs h from e)
way_lacks w fs cs h (Opened ls from) e = ap (moved numbers _) (way_lacks w fs cs h from e)
way_lacks w fs cs h (Shut ls from) e = ap (moved numbers _) (way_lacks w fs cs h from e)
way_lacks w fs cs h (Assigned x n from) e = ap (moved numbers _) (way_lacks w fs cs h from e)

more_possible : (f : Fact numbers) (c : Kind → Bool) (fs : List (Fact numbers))
    (cs : List (Kind → Bool)) → ((k : Kind) → c k ≡ false → f.exit k ≡ None) → ArePossible fs cs
    → ArePossible (f ∷ fs) (c ∷ cs)
more_possible f c fs cs h i zero k e = h k e
more_possible f c fs cs h i (suc n) k e = i n k e

and_either : (b c : Bool) → (b && c) ≡ false → (b ≡ false) ⊎ (c ≡ false)
and_either true c e = inr e
and_either false c e = inl refl

visited_lacks : (o : Option Way) (p : ℕ) (f : Way → Found) (k : Kind)
    → ((w : Way) → Lacks (f w).exits k) → Lacks (visited o p f).exits k
visited_lacks None p f k h = refl
visited_lacks (Some w) p f k h = h w

unvisited_lacks : (o : Option Way) (p : ℕ) (f : Way → Found) (k : Kind) → o ≡ None
    → Lacks (visited o p f).exits k
unvisited_lacks None p f k e = refl
unvisited_lacks (Some w) p f k e = absurd cc

-- ---- a pass

module _ (h : HeadWays) where
  -- what leaves a part of what is not absorbed
  left_lacks : (absorbs : Kind → Bool) (b : Bool) (q : Found) (k : Kind)
      → (b ≡ false → Lacks q.exits k) → (b && not (absorbs k)) ≡ false
      → Lacks (leaving absorbs q.exits) k
  left_lacks absorbs b q k found e =
      ⊎_elim (λ x. leaving_lacks absorbs q.exits k (found x))
      (λ x. absorbed_lacks absorbs q.exits k (not-false (absorbs k) x))
      (and_either b (not (absorbs k)) e)

  mutual
    unfolding pass pass_all can can_by

    pub node_lacks : (n : Node) (w : Way) (k : Kind) → can n k ≡ false
        → Lacks (pass h n w).exits k
    node_lacks (node p rules) w k e =
        with_lacks _ _ k (all_lack rules w None [] [] nothing (λ n k i. refl) k refl e)

    all_lack : (rules : Rules) (w : Way) (head : Option ℕ) (fs : List (Fact numbers))
        (cs : List (Kind → Bool)) (r : Found) → ArePossible fs cs → (k : Kind) → Lacks r.exits k
        → can_by cs rules k ≡ false → Lacks (pass_all h rules w head fs r).exits k
    all_lack Done w head fs cs r s k i e = i
    all_lack (Part from absorber part more) w head fs cs r s k i e =
        let o = way numbers (Some w) fs from in
        let q = visited o (spot part) (pass h part) in
        let p = or_parts _ _ e in
        let found : (j : Kind) → (comes cs from && can part j) ≡ false → Lacks q.exits j =
        λ j x. ⊎_elim
        (λ y. unvisited_lacks o (spot part) (pass h part) j (way_lacks w fs cs s from y))
        (λ y. visited_lacks o (spot part) (pass h part) j (λ v. node_lacks part v j y))
        (and_either (comes cs from) (can part j) x) in
        let left = left_lacks (absorbed absorber) (comes cs from && can part k) q k (found k) p.0 in
        all_lack more w head (fact o q ∷ fs) ((λ j. comes cs from && can part j) ∷ cs) _
        (more_possible (fact o q) (λ j. comes cs from && can part j) fs cs found s) k
        (all_lacks (leaving (absorbed absorber) q.exits) r.exits k left i) p.1
    all_lack (Test part more) w head fs cs r s k i e =
        let o = h (spot part) in
        let q = visited o (spot part) (pass h part) in
        let p = or_parts _ _ e in
        let found : (j : Kind) → can part j ≡ false → Lacks q.exits j =
        λ j y. visited_lacks o (spot part) (pass h part) j (λ v. node_lacks part v j y) in
        let left = left_lacks normal (can part k) q k (found k) p.0 in
        all_lack more w (Some (spot part)) (fact o q ∷ fs) ((λ j. can part j) ∷ cs) _
        (more_possible (fact o q) (λ j. can part j) fs cs found s) k
        (all_lacks (leaving normal q.exits) r.exits k left i) p.1
    all_lack (Heads from more) w head fs cs r s k i e = all_lack more w head fs cs _ s k i e
    all_lack (Leaves from j more) w head fs cs r s k i e =
        let o = way numbers (Some w) fs from in
        let p = or_parts _ _ e in
        all_lack more w head fs cs _ s k
        (all_lacks (leave o j) r.exits k
        (leave_lacks o j k (⊎_elim (λ x. inl (way_lacks w fs cs s from x)) (λ x. inr x)
        (and_either (comes cs from) (same j k) p.0))) i) p.1
    all_lack (Worths v more) w head fs cs r s k i e = all_lack more w head fs cs _ s k i e

  -- ---- the facts that a pass notes

  module _ (b : Facts numbers) where
    says_both : (xs ys : List Event) → AllSay b h (xs ++ ys) → AllSay b h xs × AllSay b h ys
    says_both [] ys s = (tt, s)
    says_both (x ∷ xs) ys s = let i = says_both xs ys s.1 in ((s.0, i.0), i.1)

    where_any : (o : Option Way) (C : Type 0) → C → WhereReached numbers o C
    where_any None C c = tt
    where_any (Some w) C c = c

    visited_says : (o : Option Way) (p : ℕ) (f : Way → Found) (C : Type 0)
        → ((w : Way) → AllSay b h (f w).events → C) → AllSay b h (visited o p f).events
        → WhereReached numbers (b p).entry C
    visited_says None p f C g s =
        subst (λ o. WhereReached numbers o C) (sym (ap (λ x. x.entry) s.0)) tt
    visited_says (Some w) p f C g s = where_any (b p).entry C (g w s)

    mutual
      unfolding pass pass_all HasPossibleExits

      pub node_possible : (n : Node) (w : Way) → AllSay b h (pass h n w).events
          → HasPossibleExits numbers b n
      node_possible (node p rules) w s =
          let i = says_both (pass_all h rules w None [] nothing).events _ s in (
            λ k e. ap (λ x. x.exit k) i.1.0 ∙ node_lacks (node p rules) w k e,
            (all_possible rules w None [] nothing i.0).1,
          )

      all_possible : (rules : Rules) (w : Way) (head : Option ℕ) (fs : List (Fact numbers))
          (r : Found) → AllSay b h (pass_all h rules w head fs r).events
          → AllSay b h r.events × HavePossibleExits numbers b rules
      all_possible Done w head fs r s = (s, tt)
      all_possible (Part from absorber part more) w head fs r s =
          let o = way numbers (Some w) fs from in
          let q = visited o (spot part) (pass h part) in
          let i = all_possible more w head (fact o q ∷ fs) _ s in
          let j = says_both r.events q.events i.0 in (
            j.0,
            (
              visited_says o (spot part) (pass h part) (HasPossibleExits numbers b part)
                  (λ v t. node_possible part v t) j.1,
              i.1,
            ),
          )
      all_possible (Test part more) w head fs r s =
          let o = h (spot part) in
          let q = visited o (spot part) (pass h part) in
          let i = all_possible more w (Some (spot part)) (fact o q ∷ fs) _ s in
          let j = says_both r.events q.events i.0 in (
            j.0,
            (
              visited_says o (spot part) (pass h part) (HasPossibleExits numbers b part)
                  (λ v t. node_possible part v t) j.1,
              i.1,
            ),
          )
      all_possible (Heads from more) w head fs r s =
          let i = all_possible more w head fs _ s in ((says_both r.events _ i.0).0, i.1)
      all_possible (Leaves from k more) w head fs r s = all_possible more w head fs _ s
      all_possible (Worths v more) w head fs r s = all_possible more w head fs _ s

-- ---- the facts of another lattice that these stand for

module _ (Q : Lattice) (M : StandsFor Q) (a : Facts numbers) where
  none_along : (o : Option Way) → o ≡ None → as_may Q M o ≡ None
  none_along None e = refl
  none_along (Some w) e = absurd cc

  where_along : (o : Option Way) (C D : Type 0) → (C → D) → WhereReached numbers o C
      → WhereReached Q (as_may Q M o) D
  where_along None C D f c = tt
  where_along (Some w) C D f c = f c

  mutual
    unfolding HasPossibleExits

    pub possible_along : (n : Node) → HasPossibleExits numbers a n
        → HasPossibleExits Q (as_facts Q M a) n
    possible_along (node p rules) s =
        (λ k e. none_along ((a p).exit k) (s.0 k e), all_possible_along rules s.1)

    all_possible_along : (rules : Rules) → HavePossibleExits numbers a rules
        → HavePossibleExits Q (as_facts Q M a) rules
    all_possible_along Done s = tt
    all_possible_along (Part from absorber part more) s = (
      where_along (a (spot part)).entry (HasPossibleExits numbers a part)
          (HasPossibleExits Q (as_facts Q M a) part) (possible_along part) s.0,
      all_possible_along more s.1,
    )
    all_possible_along (Test part more) s = (
      where_along (a (spot part)).entry (HasPossibleExits numbers a part)
          (HasPossibleExits Q (as_facts Q M a) part) (possible_along part) s.0,
      all_possible_along more s.1,
    )
    all_possible_along (Heads from more) s = all_possible_along more s
    all_possible_along (Leaves from k more) s = all_possible_along more s
    all_possible_along (Worths v more) s = all_possible_along more s
