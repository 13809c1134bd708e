-- Where numbers are in range, so are those that a pass finds: facts that have all of them obey the
-- rules.
use Rattle.std.proofs.Common.{◌≡◌, ℕ, zero, suc, ◌<◌, Bool, true, false, cond, Option, Some, None}
use Rattle.std.proofs.Common.{List, [], ◌∷◌, sym, subst}
use Rattle.std.specs.Prelude.{nat_eq}
use Rattle.std.proofs.lemmas.Bool.{ltb-true, lt-ltb, eqb-true}
use lib.Dec.{ltb}
use Rattle.par_bits.specs.Sets.{Set, none, adding, union, IsWithin}
use Rattle.par_program_laws.specs.Lattice.{numbers}
use Rattle.par_program_laws.specs.Kinds as kind
use Rattle.par_program_laws.specs.Kinds.{Kind, Normal}
use Rattle.par_program_laws.specs.Ways.{Way, Flows, MayFlow, moved, put, raised, assigned, opened}
use Rattle.par_program_laws.specs.Ways.{shut}
use Rattle.par_program_laws.specs.Facts.{Fact, Facts}
use Rattle.par_program_laws.specs.Ranges.{IsFromInRange, IsWorthInRange}
use Rattle.par_program_laws.specs.Rules.{From, Entry, After, Tested, Raised, Opened, Shut, Assigned}
use Rattle.par_program_laws.specs.Rules.{Worth}
use Rattle.par_program_laws.specs.Rules.{Given, Held, Value}
use Rattle.par_program_laws.specs.Rules.{Node, node, Rules, Done, Part, Test, Heads, Leaves, Worths}
use Rattle.par_program_laws.specs.Rules.{way}
use Rattle.par_program_laws.specs.Rules.{worth, part_at, spot}
use Rattle.par_program_laws.specs.Rules.{MayLeave, MayHead, Obeys, ObeysAll}
use Rattle.par_pass_laws.specs.Pass.{Event, Row, Into, pass}
use Rattle.par_pass_laws.specs.Low.{Stands, AreLow}
use Rattle.par_pass_laws.specs.Low as low
use Rattle.par_pass_laws.proofs.Order.{sub_refl, sub_trans, union_l, union_r, union_least}
use Rattle.par_pass_laws.proofs.Order.{flows_refl}
use Rattle.par_pass_laws.proofs.Least.{pass_low}
use Rattle.par_rounds.specs.Took.{MayBeSmall, AreSmall}
use Rattle.par_rounds.specs.Passes.{IsPassable, ArePassable}
use Rattle.par_rounds.specs.Rounds.{heads_after}
use Rattle.par_rounds.proofs.Lows.{heads_low}

-- sets below sets
unfoldable pub inside : Stands numbers
inside = record {
  IsUnder = IsWithin;
  least = λ p n h. cc;
  both = union_least;
  joined =
      λ s t p q f g. union_least s t (union p q) (sub_trans s p (union p q) f (union_l p q))
      (sub_trans t q (union p q) g (union_r p q));
  up = sub_trans;
  given = λ n. sub_refl (adding none n);
}

-- all numbers below 256
small : Set
small n = ltb n 256

abbrev top : Way numbers
top = record { context = small; env = λ i. small; locks = none }

abbrev full : Facts numbers
full p = record { entry = Some top; value = small; exit = λ k. Some top }

record IsUnderTop (w : Way numbers) : Type 0 where
  pub context : IsWithin w.context small
  pub env : (i : ℕ) → IsWithin (w.env i) small

under_top : (w : Way numbers) → IsUnderTop w → Flows numbers w top
under_top w u = record { context = u.context; lands = record { env = u.env; locks = λ n h. cc } }

to_top : (w : Way numbers) → Flows numbers w top → IsUnderTop w
to_top w f = record { context = f.context; env = f.lands.env }

move_top : (f : Way numbers → Way numbers) → ((w : Way numbers) → IsUnderTop w → IsUnderTop (f w))
    → (o : Option (Way numbers)) → MayFlow numbers o (Some top)
    → MayFlow numbers (moved numbers f o) (Some top)
move_top f m None h = tt
move_top f m (Some w) h = under_top (f w) (m w (to_top w h))

record IsFactUnderTop (f : Fact numbers) : Type 0 where
  pub value : IsWithin f.value small
  pub exit : (k : Kind) → MayFlow numbers (f.exit k) (Some top)

AreUnderTop : List (Fact numbers) → Type 0
AreUnderTop fs = (n : ℕ) → IsFactUnderTop (part_at numbers fs n)

none_under : AreUnderTop []
unfolding AreUnderTop
none_under n = record { value = λ i h. cc; exit = λ k. tt }

full_under : (p : ℕ) (fs : List (Fact numbers)) → AreUnderTop fs → AreUnderTop (full p ∷ fs)
unfolding AreUnderTop
full_under p fs u zero = record { value = sub_refl small; exit = λ k. flows_refl top }
full_under p fs u (suc n) = u n

small_given : (n : ℕ) → n < 256 → IsWithin (adding none n) small
unfolding small
small_given n h m e = subst (λ k. ltb k 256 ≡ true) (sym (eqb-true m n e)) (lt-ltb n 256 h)

put_under : (env : ℕ → Set) (x : ℕ) (v : Set) → ((i : ℕ) → IsWithin (env i) small)
    → IsWithin v small → (i : ℕ) → IsWithin (put numbers env x v i) small
put_under env x v h k i = by_case (nat_eq i x) where
  by_case : (b : Bool) → IsWithin (cond b v (env i)) small
  by_case true = k
  by_case false = h i

module _ (locals : ℕ) where
  way_under : (fs : List (Fact numbers)) → AreUnderTop fs → (from : From)
      → IsFromInRange locals from → MayFlow numbers (way numbers (Some top) fs from) (Some top)
  unfolding way IsFromInRange AreUnderTop
  way_under fs u Entry r = flows_refl top
  way_under fs u (After part k) r = (u part).exit k
  way_under fs u (Tested part from) r =
      move_top (raised numbers (part_at numbers fs part).value)
      (λ w h. record { context = union_least _ _ _ h.context (u part).value; env = h.env }) _
      (way_under fs u from r)
  way_under fs u (Raised policy from) r =
      move_top (raised numbers (adding none policy))
      (λ w h. record {
        context = union_least _ _ _ h.context (small_given policy r.0);
        env = h.env;
      }) _ (way_under fs u from r.1)
  way_under fs u (Opened locks from) r =
      move_top (opened numbers locks) (λ w h. record { context = h.context; env = h.env }) _
      (way_under fs u from r.1)
  way_under fs u (Shut locks from) r =
      move_top (shut numbers locks) (λ w h. record { context = h.context; env = h.env }) _
      (way_under fs u from r.1)
  way_under fs u (Assigned x part from) r =
      move_top (assigned numbers x (part_at numbers fs part).value)
      (λ w h. record {
        context = h.context;
        env = put_under w.env x _ h.env (union_least _ _ _ (u part).value h.context);
      }) _ (way_under fs u from r.1)

  worth_under : (fs : List (Fact numbers)) → AreUnderTop fs → (v : Worth) → IsWorthInRange locals v
      → IsWithin (worth numbers (Some top) fs v) small
  unfolding worth AreUnderTop
  worth_under fs u (Given policy) r = small_given policy r
  worth_under fs u (Held x) r = sub_refl small
  worth_under fs u (Value part) r = (u part).value

  may_leave : (k : Kind) (o : Option (Way numbers)) → MayFlow numbers o (Some top)
      → MayLeave numbers k o (Some top)
  may_leave kind.Normal None h = tt
  may_leave kind.Normal (Some w) h = h.lands
  may_leave kind.Return o h = h
  may_leave kind.Break o h = h
  may_leave kind.Continue o h = h
  may_leave (kind.Throw c) o h = h

  may_head : (head : Option ℕ) (o : Option (Way numbers)) → MayFlow numbers o (Some top)
      → MayHead numbers full head o
  may_head None o h = tt
  may_head (Some t) o h = h

  module _ (points : ℕ) where
    mutual
      unfolding Obeys ObeysAll IsPassable ArePassable

      full_obeys : (n : Node) → IsPassable locals points n → Obeys numbers full n
      full_obeys (node p rules) r =
          ((sub_refl small, λ k n. sub_refl small), all_obey p None [] rules none_under r)

      all_obey : (p : ℕ) (head : Option ℕ) (fs : List (Fact numbers)) (rules : Rules)
          → AreUnderTop fs → ArePassable locals points rules → ObeysAll numbers full p head fs rules
      all_obey p head fs Done u r = tt
      all_obey p head fs (Part from absorber part more) u r = (
        way_under fs u from r.0,
        full_obeys part r.1,
        λ k a. flows_refl top,
        all_obey p head (full (spot part) ∷ fs) more (full_under (spot part) fs u) r.2,
      )
      all_obey p head fs (Test part more) u r = (
        full_obeys part r.1,
        λ k a. flows_refl top,
        all_obey p (Some (spot part)) (full (spot part) ∷ fs) more
            (full_under (spot part) fs u) r.2,
      )
      all_obey p head fs (Heads from more) u r =
          (may_head head _ (way_under fs u from r.0), all_obey p head fs more u r.1)
      all_obey p head fs (Leaves from k more) u r =
          (may_leave k _ (way_under fs u from r.0), all_obey p head fs more u r.1)
      all_obey p head fs (Worths v more) u r =
          (worth_under fs u v r.0, all_obey p head fs more u r.1)

may_be_small : (o : Option (Way numbers)) (p : ℕ) → low.MayFlow numbers inside o (full p).entry
    → MayBeSmall o
unfolding small inside
may_be_small None p h = tt
may_be_small (Some w) p h =
    (λ n k. ltb-true n 256 (h.context n k), λ i n k. ltb-true n 256 (h.lands.env i n k))

low_small : (l : List Event) → AreLow numbers inside full l → AreSmall l
low_small [] h = tt
low_small (Row p f ∷ l) h = low_small l h.1
low_small (Into p o ∷ l) h = (may_be_small o p h.0, low_small l h.1)

-- all ways that flow into heads have policies below 256
pub events_small : (locals points : ℕ) (n : Node) (w : Way numbers) → IsPassable locals points n
    → MayBeSmall (Some w) → (k : ℕ) → AreSmall (pass (heads_after n w k) n w).events
unfolding small inside
events_small locals points n w r s k =
    let c = full_obeys locals points n r in
    let m : low.MayFlow numbers inside (Some w) (full (spot n)).entry =
    record {
      context = λ i h. lt-ltb i 256 (s.0 i h);
      lands = record { env = λ j i h. lt-ltb i 256 (s.1 j i h); locks = λ i h. cc };
    } in
    let u = heads_low numbers inside full n w c m k in
    low_small (pass (heads_after n w k) n w).events
    (pass_low numbers inside full (heads_after n w k) u n w m c).events
