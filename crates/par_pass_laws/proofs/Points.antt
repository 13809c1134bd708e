-- A pass over a numbered body notes each point once at most.
use Rattle.std.proofs.Common.{◌≡◌, ℕ, suc, ◌<◌, ◌≤◌, Option, Some, None, List, [], ◌∷◌, ◌++◌, arith}
use Rattle.par_except.specs.par_program_laws.Lattice.{numbers}
use Rattle.par_except.specs.par_program_laws.Facts.{Fact}
use Rattle.par_except.specs.par_program_laws.Rules.{Node, node, Rules, Done, Part, Test, Heads}
use Rattle.par_except.specs.par_program_laws.Rules.{Leaves}
use Rattle.par_except.specs.par_program_laws.Rules.{Worths, spot}
use Rattle.par_except.specs.par_program_laws.Rules.{way}
use Rattle.par_except.specs.par_program_laws.Numbered.{next, next_by, IsNumbered, AreNumbered}
use Rattle.par_pass_laws.specs.Exits.{Way}
use Rattle.par_pass_laws.specs.Pass.{HeadWays, Event, Row, Into, Found, nothing, fact, visited}
use Rattle.par_pass_laws.specs.Pass.{into}
use Rattle.par_pass_laws.specs.Pass.{pass, pass_all}

-- the rows are of points from the first number on and below the second
abbrev pub AreWithin : ℕ → ℕ → List Event → Type 0
AreWithin lo hi [] = Unit {0}
AreWithin lo hi (Row p f ∷ l) = (lo ≤ p) × (p < hi) × AreWithin lo hi l
AreWithin lo hi (Into p o ∷ l) = AreWithin lo hi l

-- no row is of the point
abbrev pub IsApart : ℕ → List Event → Type 0
IsApart p [] = Unit {0}
IsApart p (Row q f ∷ l) = (p ≡ q → ⊥) × IsApart p l
IsApart p (Into q o ∷ l) = IsApart p l

-- each point has one row at most
abbrev pub AreApart : List Event → Type 0
AreApart [] = Unit {0}
AreApart (Row p f ∷ l) = IsApart p l × AreApart l
AreApart (Into p o ∷ l) = AreApart l

pub record AreSpread (lo hi : ℕ) (l : List Event) : Type 0 where
  pub within : AreWithin lo hi l
  pub apart : AreApart l

within_both : (lo hi : ℕ) (l k : List Event) → AreWithin lo hi l → AreWithin lo hi k
    → AreWithin lo hi (l ++ k)
within_both lo hi [] k x y = y
within_both lo hi (Row p f ∷ l) k x y = (x.0, x.1, within_both lo hi l k x.2 y)
within_both lo hi (Into p o ∷ l) k x y = within_both lo hi l k x y

within_wider : (lo hi a b : ℕ) (l : List Event) → lo ≤ a → b ≤ hi → AreWithin a b l
    → AreWithin lo hi l
within_wider lo hi a b [] g j x = tt
within_wider lo hi a b (Row p f ∷ l) g j x = let y = x.0 in let z = x.1 in
    (omega (arith, g, y), omega (arith, j, z), within_wider lo hi a b l g j x.2)
within_wider lo hi a b (Into p o ∷ l) g j x = within_wider lo hi a b l g j x

apart_above : (p lo hi : ℕ) (l : List Event) → p < lo → AreWithin lo hi l → IsApart p l
apart_above p lo hi [] g x = tt
apart_above p lo hi (Row q f ∷ l) g x =
    let y = x.0 in ((λ e. omega (arith, g, y, e)), apart_above p lo hi l g x.2)
apart_above p lo hi (Into q o ∷ l) g x = apart_above p lo hi l g x

is_apart_both : (p : ℕ) (l k : List Event) → IsApart p l → IsApart p k → IsApart p (l ++ k)
is_apart_both p [] k x y = y
is_apart_both p (Row q f ∷ l) k x y = (x.0, is_apart_both p l k x.1 y)
is_apart_both p (Into q o ∷ l) k x y = is_apart_both p l k x y

apart_both : (lo m hi : ℕ) (l k : List Event) → AreWithin lo m l → AreWithin m hi k → AreApart l
    → AreApart k → AreApart (l ++ k)
apart_both lo m hi [] k x y a b = b
apart_both lo m hi (Row p f ∷ l) k x y a b =
    (is_apart_both p l k a.0 (apart_above p m hi k x.1 y), apart_both lo m hi l k x.2 y a.1 b)
apart_both lo m hi (Into p o ∷ l) k x y a b = apart_both lo m hi l k x y a b

pub spread_both : (lo m hi : ℕ) (l k : List Event) → lo ≤ m → m ≤ hi → AreSpread lo m l
    → AreSpread m hi k → AreSpread lo hi (l ++ k)
spread_both lo m hi l k g j x y = record {
  within =
      within_both lo hi l k (within_wider lo hi lo m l (omega arith) j x.within)
      (within_wider lo hi m hi k g (omega arith) y.within);
  apart = apart_both lo m hi l k x.within y.within x.apart y.apart;
}

-- behind the parts comes the row of the node
last_apart : (p lo hi : ℕ) (f : Fact numbers) (l : List Event) → p < lo → AreWithin lo hi l
    → AreApart l → AreApart (l ++ Row p f ∷ [])
last_apart p lo hi f [] g x a = (tt, tt)
last_apart p lo hi f (Row q e ∷ l) g x a =
    let y = x.0 in (
      is_apart_both q l (Row p f ∷ []) a.0 ((λ e. omega (arith, g, y, e)), tt),
      last_apart p lo hi f l g x.2 a.1,
    )
last_apart p lo hi f (Into q o ∷ l) g x a = last_apart p lo hi f l g x a

into_spread : (lo hi : ℕ) (head : Option ℕ) (o : Option Way) → AreSpread lo hi (into head o)
into_spread lo hi None o = record { within = tt; apart = tt }
into_spread lo hi (Some t) o = record { within = tt; apart = tt }

mutual
  unfolding next next_by IsNumbered AreNumbered

  pub next_above : (n : Node) (lo : ℕ) → IsNumbered lo n → lo < next n
  next_above (node p rules) lo x =
      let e = x.0 in let j = next_all rules (suc p) x.1 in omega (arith, e, j)

  next_all : (rules : Rules) (lo : ℕ) → AreNumbered lo rules → lo ≤ next_by lo rules
  next_all Done lo x = omega arith
  next_all (Part from absorber part more) lo x =
      let g = next_above part lo x.0 in let j = next_all more (next part) x.1 in omega (arith, g, j)
  next_all (Test part more) lo x =
      let g = next_above part lo x.0 in let j = next_all more (next part) x.1 in omega (arith, g, j)
  next_all (Heads from more) lo x = next_all more lo x
  next_all (Leaves from kind more) lo x = next_all more lo x
  next_all (Worths v more) lo x = next_all more lo x

module _ (h : HeadWays) where
  visited_spread : (lo : ℕ) (n : Node) (o : Option Way) (f : Way → Found) → IsNumbered lo n
      → ((w : Way) → AreSpread lo (next n) (f w).events)
      → AreSpread lo (next n) (visited o (spot n) f).events
  unfolding IsNumbered
  visited_spread lo (node p rules) None f x ih =
      let e = x.0 in let j = next_above (node p rules) lo x in
      record { within = (omega (arith, e), omega (arith, e, j), tt); apart = (tt, tt) }
  visited_spread lo (node p rules) (Some w) f x ih = ih w

  mutual
    unfolding next next_by IsNumbered AreNumbered pass pass_all

    pub pass_spread : (n : Node) (lo : ℕ) → IsNumbered lo n → (w : Way)
        → AreSpread lo (next n) (pass h n w).events
    pass_spread (node p rules) lo x w =
        let e = x.0 in
        let g = next_all rules (suc p) x.1 in
        let s =
        all_spread rules (suc p) (suc p) x.1 (omega arith) w None [] nothing
        (record { within = tt; apart = tt }) in
        record {
          within =
              within_both lo (next_by (suc p) rules) (pass_all h rules w None [] nothing).events _
              (within_wider lo (next_by (suc p) rules) (suc p) (next_by (suc p) rules)
              (pass_all h rules w None [] nothing).events (omega (arith, e)) (omega arith) s.within)
              (omega (arith, e), omega (arith, g), tt);
          apart =
              last_apart p (suc p) (next_by (suc p) rules) _
              (pass_all h rules w None [] nothing).events (omega arith) s.within s.apart;
        }

    all_spread : (rules : Rules) (lo m : ℕ) → AreNumbered m rules → lo ≤ m
        → (w : Way) (head : Option ℕ) (fs : List (Fact numbers)) (r : Found)
        → AreSpread lo m r.events → AreSpread lo (next_by m rules)
        (pass_all h rules w head fs r).events
    all_spread Done lo m x g w head fs r s = s
    all_spread (Part from absorber part more) lo m x g w head fs r s =
        let o = way numbers (Some w) fs from in let q = visited o (spot part) (pass h part) in
        let j = next_above part m x.0 in
        all_spread more lo (next part) x.1 (omega (arith, g, j)) w head (fact o q ∷ fs) _
        (spread_both lo m (next part) r.events q.events g (omega (arith, j)) s
        (visited_spread m part o (pass h part) x.0 (λ z. pass_spread part m x.0 z)))
    all_spread (Test part more) lo m x g w head fs r s =
        let o = h (spot part) in let q = visited o (spot part) (pass h part) in
        let j = next_above part m x.0 in
        all_spread more lo (next part) x.1 (omega (arith, g, j)) w (Some (spot part))
        (fact o q ∷ fs) _
        (spread_both lo m (next part) r.events q.events g (omega (arith, j)) s
        (visited_spread m part o (pass h part) x.0 (λ z. pass_spread part m x.0 z)))
    all_spread (Heads from more) lo m x g w head fs r s =
        let o = way numbers (Some w) fs from in
        all_spread more lo m x g w head fs _
        (spread_both lo m m r.events (into head o) g (omega arith) s (into_spread m m head o))
    all_spread (Leaves from kind more) lo m x g w head fs r s =
        all_spread more lo m x g w head fs _ s
    all_spread (Worths v more) lo m x g w head fs r s = all_spread more lo m x g w head fs _ s
