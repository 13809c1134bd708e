-- The order of ways over sets of numbers, and of kinds.
use Rattle.std.proofs.Common.{◌≡◌, Bool, true, false, ◌||◌, ◌&&◌, not, Option, Some, None, refl, ap}
use Rattle.std.specs.Prelude.{IsTrue}
use Rattle.std.proofs.lemmas.Bool.{eqb-true}
use Rattle.std.proofs.Common.{eq-eqb}
use Rattle.par_bits.specs.Sets.{Set, IsWithin, union, meet, minus}
use Rattle.par_except.specs.par_program_laws.Lattice.{numbers}
use Rattle.par_except.specs.par_program_laws.Kinds.{Kind, Normal, Return, Break, Continue, Throw}
use Rattle.par_except.specs.par_program_laws.Kinds.{same}
use Rattle.par_except.specs.par_program_laws.Ways.{Lands, Flows, MayFlow, MayLand}
use Rattle.par_except.specs.Joins.{join}
use Rattle.par_pass_laws.specs.Exits.{Way}

or_in_l : (a b : Bool) → IsTrue a → IsTrue (a || b)
or_in_l true b h = refl
or_in_l false b h = cc

or_in_r : (a b : Bool) → IsTrue b → IsTrue (a || b)
or_in_r true b h = refl
or_in_r false b h = h

or_out : (a b c : Bool) → (IsTrue a → IsTrue c) → (IsTrue b → IsTrue c) → IsTrue (a || b) → IsTrue c
or_out true b c f g h = f refl
or_out false b c f g h = g h

and_in : (a b : Bool) → IsTrue a → IsTrue b → IsTrue (a && b)
and_in true b h k = k
and_in false b h k = cc

and_out_l : (a b : Bool) → IsTrue (a && b) → IsTrue a
and_out_l true b h = refl
and_out_l false b h = cc

and_out_r : (a b : Bool) → IsTrue (a && b) → IsTrue b
and_out_r true b h = h
and_out_r false b h = cc

pub sub_refl : (p : Set) → IsWithin p p
sub_refl p = λ n h. h

pub sub_trans : (p q r : Set) → IsWithin p q → IsWithin q r → IsWithin p r
sub_trans p q r f g = λ n h. g n (f n h)

pub union_l : (p q : Set) → IsWithin p (union p q)
union_l p q = λ n h. or_in_l (p n) (q n) h

pub union_r : (p q : Set) → IsWithin q (union p q)
union_r p q = λ n h. or_in_r (p n) (q n) h

pub union_least : (p q r : Set) → IsWithin p r → IsWithin q r → IsWithin (union p q) r
union_least p q r f g = λ n. or_out (p n) (q n) (r n) (f n) (g n)

pub union_mono : (p q r : Set) → IsWithin p r → IsWithin (union p q) (union r q)
union_mono p q r f =
    union_least p q (union r q) (sub_trans p r (union r q) f (union_l r q)) (union_r r q)

pub meet_l : (p q : Set) → IsWithin (meet p q) p
meet_l p q = λ n h. and_out_l (p n) (q n) h

pub meet_r : (p q : Set) → IsWithin (meet p q) q
meet_r p q = λ n h. and_out_r (p n) (q n) h

pub meet_most : (p q r : Set) → IsWithin r p → IsWithin r q → IsWithin r (meet p q)
meet_most p q r f g = λ n h. and_in (p n) (q n) (f n h) (g n h)

pub minus_mono : (p q r : Set) → IsWithin p r → IsWithin (minus p q) (minus r q)
minus_mono p q r f =
    λ n h. and_in (r n) (not (q n)) (f n (and_out_l (p n) (not (q n)) h))
    (and_out_r (p n) (not (q n)) h)

lands_refl : (w : Way) → Lands numbers w w
lands_refl w = record { env = λ i. sub_refl (w.env i); locks = sub_refl w.locks }

pub flows_refl : (w : Way) → Flows numbers w w
flows_refl w = record { context = sub_refl w.context; lands = lands_refl w }

lands_trans : (w x y : Way) → Lands numbers w x → Lands numbers x y → Lands numbers w y
lands_trans w x y p q =
    record {
      env = λ i. sub_trans _ _ _ (p.env i) (q.env i);
      locks = sub_trans _ _ _ q.locks p.locks;
    }

flows_trans : (w x y : Way) → Flows numbers w x → Flows numbers x y → Flows numbers w y
flows_trans w x y p q =
    record {
      context = sub_trans _ _ _ p.context q.context;
      lands = lands_trans w x y p.lands q.lands;
    }

pub may_refl : (o : Option Way) → MayFlow numbers o o
may_refl None = tt
may_refl (Some w) = flows_refl w

pub may_trans : (o p q : Option Way) → MayFlow numbers o p → MayFlow numbers p q
    → MayFlow numbers o q
may_trans None p q h k = tt
may_trans (Some w) None q h k = absurd h
may_trans (Some w) (Some x) None h k = absurd k
may_trans (Some w) (Some x) (Some y) h k = flows_trans w x y h k

pub may_land : (o p : Option Way) → MayFlow numbers o p → MayLand numbers o p
may_land None p h = tt
may_land (Some w) None h = absurd h
may_land (Some w) (Some x) h = h.lands

pub land_refl : (o : Option Way) → MayLand numbers o o
land_refl o = may_land o o (may_refl o)

pub land_trans : (o p q : Option Way) → MayLand numbers o p → MayLand numbers p q
    → MayLand numbers o q
land_trans None p q h k = tt
land_trans (Some w) None q h k = absurd h
land_trans (Some w) (Some x) None h k = absurd k
land_trans (Some w) (Some x) (Some y) h k = lands_trans w x y h k

pub join_l : (w x : Way) → Flows numbers w (join w x)
join_l w x =
    record {
      context = union_l w.context x.context;
      lands = record { env = λ i. union_l (w.env i) (x.env i); locks = meet_l w.locks x.locks };
    }

pub join_r : (w x : Way) → Flows numbers x (join w x)
join_r w x =
    record {
      context = union_r w.context x.context;
      lands = record { env = λ i. union_r (w.env i) (x.env i); locks = meet_r w.locks x.locks };
    }

pub same_true : (k j : Kind) → same k j ≡ true → k ≡ j
same_true Normal Normal h = refl
same_true Return Return h = refl
same_true Break Break h = refl
same_true Continue Continue h = refl
same_true (Throw c) (Throw d) h = ap Throw (eqb-true c d h)
same_true _ _ h = cc

pub same_refl : (k : Kind) → same k k ≡ true
same_refl Normal = refl
same_refl Return = refl
same_refl Break = refl
same_refl Continue = refl
same_refl (Throw c) = eq-eqb c c refl
