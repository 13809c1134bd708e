-- Each method has a body with facts that are right for one observer.
use Rattle.std.proofs.Common.{◌≡◌, ◌<◌, ◌+◌, ℕ, zero, suc, Bool, true, false, ◌&&◌, ◌==◌, not, List}
use Rattle.std.proofs.Common.{[], ◌∷◌, Option, Some, None, refl, ap, sym, ◌∙◌, subst, length}
use Rattle.std.proofs.Common.{arith, if◌then◌else◌}
use Rattle.std.specs.Prelude.{map, slice_get, Contains, IsTrue, nat_lt}
use Rattle.std.specs.List.{range_with_len}
use Rattle.std.proofs.lemmas.Bool.{eqb-true, eq-eqb}
use Rattle.std.proofs.lemmas.Bool.Decides.{nat_tests}
use Rattle.std.proofs.lemmas.List.Elements.{Contains-append_left, Contains-append_right}
use Rattle.std.proofs.lemmas.List.Elements.{Contains-get_or}
use Rattle.std.proofs.lemmas.List.FromFn.{length-range_with_len, get_or-range_with_len}
use Rattle.std.proofs.lemmas.List.FromFn.{length-map-range_with_len, get_or-map-range_with_len}
use Rattle.std.proofs.lemmas.Map.Made.{Contains-tail}
use Rattle.par_policy.specs.Numbers.{has}
use Rattle.par_policy.proofs.Members.{has-from_Contains}
use Rattle.par_policy.proofs.Ordered.{Contains-nil}
use Rattle.par_policy.proofs.Filtered.{Contains-filter}
use Rattle.par_typed.specs.declared.table.ClassInfo.{ClassInfo}
use Rattle.par_typed.specs.declared.table.MethodInfo.{MethodInfo}
use Rattle.par_typed.specs.declared.table.Table.{Table}
use Rattle.par_typed.specs.Plain.{Body, point}
use Rattle.par_program_laws.specs.Lattice.{numbers}
use Rattle.par_program_laws.specs.Kinds as kind
use Rattle.par_program_laws.specs.Facts.{Facts}
use Rattle.par_program_laws.specs.Declares.{Thrown, declares, method_of}
use Rattle.par_program_laws.specs.Closed.{IsClosed}
use Rattle.par_program_laws.specs.Body.{sta}
use Rattle.par_pass_laws.specs.Possible.{HasPossibleExits}
use Rattle.par_pass_laws.proofs.Along.{closed_along}
use Rattle.par_pass_laws.proofs.Possible.{possible_along}
use Rattle.par_check_laws.specs.Asked.{Check}
use Rattle.par_check_laws.specs.Checks.{checks, sta_checks, method_checks, name_at, is_thrown}
use Rattle.par_check_laws.specs.Checks.{others}
use Rattle.par_check_laws.specs.Verdict.{KeepsNumbered}
use Rattle.par_secrecy.specs.Shown.{Observer}
use Rattle.par_run_laws.specs.Names.{body_of}
use Rattle.par_typed.specs.Members.{methods_in, method_at}
use Rattle.par_program_laws.specs.Locals.{set_by_call}
use Rattle.par_program_laws.specs.Forms.{Setting, AsksLock}
use Rattle.par_program_laws.specs.Uses.{IsNotThis}
use Rattle.par_check_laws.specs.Checks.{lock_written}
use Rattle.par_secure_laws.proofs.Needs.{IsAsked}
use Rattle.par_program_laws.specs.Proper.{IsProper}
use Rattle.par_typed_laws.specs.Bodied.{Spot, spot_of, methods_from, AreBodiesOf}
use Rattle.par_alike.specs.Watched.{IsThere}
use Rattle.par_pass_laws.proofs.Along.{and_l, and_r}
use Rattle.std.proofs.lemmas.Bool.{and_from}
use Rattle.par_secure_laws.proofs.CallPoints.{method_is}
use Rattle.par_program_laws.specs.Makes.{StaMakes}
use Rattle.par_secure_laws.proofs.Needs.{StaReady}
use Rattle.par_program_laws.proofs.Parts.{sta_names, sta_makes, sta_uses}
use Rattle.par_secure_laws.proofs.Controlled.{IsJump, a_break, a_continue, sta_cannot}
use Rattle.par_secure_laws.proofs.Points.{Obey, kept_app}
use Rattle.par_secure_laws.proofs.StaPoints.{only_possible}
use Rattle.par_secure_laws.proofs.Runs.{BodyOk, Known}
use Rattle.par_secure_laws.proofs.Ends.{ends_of}
use Rattle.par_secure_laws.specs.Explained.{IsPair, Here, Later}
use Rattle.par_secure_laws.proofs.Watching.{watch, W, M, meant, all_kept}

-- facts of a proper body that are closed, with exits for possible completions alone, and keep all
-- rules
pub record AreFacts (table : Table) (b : Body) (f : Facts numbers) : Type 0 where
  pub proper : IsProper table b
  pub closed : IsClosed numbers (declares table) b f
  pub possible : HasPossibleExits numbers f (sta (declares table) b.body)
  pub kept : (c : Check) → Contains (checks table b) c → KeepsNumbered table f c

-- ---- the body of a method

-- the methods of a class among those of all
in_class : (base n k : ℕ) → k < n
    → Contains {X = Spot} (map (λ m. (base, m)) (range_with_len 0 n)) (base, k)
in_class base n k below =
    let spot : ℕ → Spot = λ m. (base, m) in
    let long = length-map-range_with_len spot 0 n in
    let at : 0 + k ≡ k = omega arith in
    subst (Contains (map spot (range_with_len 0 n)))
    (get_or-map-range_with_len spot 0 n k k (base, k) below at)
    (Contains-get_or (map spot (range_with_len 0 n)) k (base, k)
    (subst (λ z. k < z) (sym long) below))

-- a method of the table has its numbers in the list
in_methods : (base : ℕ) (cs : List ClassInfo) (c k : ℕ) (info : ClassInfo)
    → slice_get cs c ≡ Some info → k < length info.methods
    → Contains (methods_from base cs) (base + c, k)
in_methods base [] c k info e below = absurd cc
in_methods base (x ∷ xs) zero k info e below =
    let is : x ≡ info = cc in
    let first : base ≡ base + 0 = omega arith in
    subst (λ b. Contains (methods_from base (x ∷ xs)) (b, k)) first
    (Contains-append_left (map (λ m. (base, m)) (range_with_len 0 (length x.methods)))
    (methods_from (base + 1) xs) (base, k)
    (in_class base (length x.methods) k (subst (λ y. k < length y.methods) (sym is) below)))
in_methods base (x ∷ xs) (suc c) k info e below =
    let there : slice_get xs c ≡ Some info = e in
    let next : base + 1 + c ≡ base + suc c = omega arith in
    Contains-append_right (map (λ m. (base, m)) (range_with_len 0 (length x.methods)))
    (methods_from (base + 1) xs) (base + suc c, k)
    (subst (λ b. Contains (methods_from (base + 1) xs) (b, k)) next
    (in_methods (base + 1) xs c k info there below))

-- the class of a method that is there
record Owner (o : Option ClassInfo) (k : ℕ) : Type 0 where
  info : ClassInfo
  is : o ≡ Some info
  below : k < length info.methods

-- a method that is there has a number below the count
numbered : (ms : List MethodInfo) (k : ℕ) → IsThere (slice_get ms k) → k < length ms
numbered [] k h = absurd h
numbered (m ∷ ms) zero h = omega arith
numbered (m ∷ ms) (suc k) h = let i = numbered ms k h in omega (arith, i)

-- the class of that method
owner : (o : Option ClassInfo) (k : ℕ) → IsThere (slice_get (methods_in o) k) → Owner o k
owner None k h = absurd h
owner (Some info) k h = record { info = info; is = refl; below = numbered info.methods k h }

-- a body of the lists, with its facts, for a method
record Found (bs : List Body) (fs : List (Facts numbers)) (c k : ℕ) : Type 0 where
  body : Body
  facts : Facts numbers
  pair : IsPair body facts bs fs
  class : body.class ≡ c
  method : body.method ≡ k
  is : body_of bs c k ≡ Some body.body

abbrev is_for : Body → ℕ → ℕ → Bool
is_for b c k = b.class == c && b.method == k

-- the first body is that of the method, or a later one is
first_found : (b : Body) (f : Facts numbers) (bs : List Body) (fs : List (Facts numbers))
    (c k : ℕ) (t : Bool) → is_for b c k ≡ t → Contains (map spot_of (b ∷ bs)) (c, k)
    → (Contains (map spot_of bs) (c, k) → Found bs fs c k) → Found (b ∷ bs) (f ∷ fs) c k
first_found b f bs fs c k true e h later = record {
  body = b;
  facts = f;
  pair = Here bs fs;
  class = eqb-true b.class c (and_l (b.class == c) (b.method == k) e);
  method = eqb-true b.method k (and_r (b.class == c) (b.method == k) e);
  is = ap (λ t. if t then Some b.body else body_of bs c k) e;
}
first_found b f bs fs c k false e h later =
    let other = λ (q : spot_of b ≡ (c, k)). let same : is_for b c k ≡ true = and_from
    (b.class == c) (b.method == k) (eq-eqb b.class c (ap (λ s. s.0) q))
    (eq-eqb b.method k (ap (λ s. s.1) q)) in
    let bad : true ≡ false = sym same ∙ e in
    absurd cc in let rest = later (Contains-tail (spot_of b) (map spot_of bs) (c, k) other h) in
    record {
      body = rest.body;
      facts = rest.facts;
      pair = Later b f bs fs rest.pair;
      class = rest.class;
      method = rest.method;
      is = ap (λ t. if t then Some b.body else body_of bs c k) e ∙ rest.is;
    }

-- there are facts for each body
abbrev pub AreAsMany : List Body → List (Facts numbers) → Type 0
AreAsMany bs fs = length fs ≡ length bs

-- the body of a method is in the list
found : (bs : List Body) (fs : List (Facts numbers)) → AreAsMany bs fs → (c k : ℕ)
    → Contains (map spot_of bs) (c, k) → Found bs fs c k
found [] fs many c k h = absurd (Contains-nil (c, k) h)
found (b ∷ bs) [] many c k h = absurd cc
found (b ∷ bs) (f ∷ fs) many c k h =
    let less : length fs ≡ length bs = omega (arith, many) in
    first_found b f bs fs c k (is_for b c k) refl h (λ i. found bs fs less c k i)

-- ---- its facts, for an observer

-- a number below a bound is in its range
contains_range : (bound n : ℕ) → n < bound → Contains (range_with_len 0 bound) n
contains_range bound n below =
    let long = length-range_with_len 0 bound in
    let is : 0 + n ≡ n = omega arith in
    subst (Contains (range_with_len 0 bound)) (get_or-range_with_len 0 bound n n below ∙ is)
    (Contains-get_or (range_with_len 0 bound) n n (subst (λ z. n < z) (sym long) below))

-- a class that is not declared to be thrown is among the others
listed : (ts : List Thrown) (classes c : ℕ) → nat_lt c classes ≡ true → is_thrown ts c ≡ false
    → IsTrue (has (others ts classes) c)
listed ts classes c lt e =
    let below : c < classes = grind (arith, nat_tests) in
    has-from_Contains (others ts classes) c
    (Contains-filter (λ x. not (is_thrown ts x)) (range_with_len 0 classes) c
    (contains_range classes c below) (ap not e))

-- a lock that is asked for has a policy
asks : (s : Setting) (lock : ℕ) → AsksLock s lock → IsAsked s.table s.method.is_static lock
asks s lock h =
    subst (λ o. (policy : ℕ) × (lock_written o ≡ Some policy)) (sym h.there) (h.policy, h.said)

module _ (table : Table) (bs : List Body) (fs : List (Facts numbers)) (o : Observer) where
  -- the facts of a body are right for the observer
  body_ok : (b : Body) (f : Facts numbers) (pair : IsPair b f bs fs) → AreFacts table b f
      → BodyOk (watch table bs fs o) b.class b.method b.body
  body_ok b f pair h =
      let on = watch table bs fs o in
      let own = (declares table).method b.class b.method in
      let a = meant table bs fs o b f pair in
      let Q = W table bs fs o b f pair in
      let N = M table bs fs o b f pair in
      let m = h.proper.0 in
      let p = h.proper.2 in
      let setting : Setting = record {
        table = table;
        class = b.class;
        method = m;
        sures = h.proper.1;
      } in
      let static : m.is_static ≡ own.is_static = sym
      (ap (λ x. x.is_static) (method_is on b.class b.method)
      ∙ ap (λ x. (method_of x).is_static) p.method) in
      let at = name_at (slice_get table.classes b.class) b.method in
      let closed = closed_along Q N f (declares table) b h.closed in
      let possible = possible_along Q N f (sta (declares table) b.body) h.possible in
      let obey : Obey on a (sta (declares table) b.body) = record {
        it = closed.obeyed;
        possible = possible;
      } in
      let no_jump = λ (k : kind.Kind) (j : IsJump k). only_possible on a b.body obey k
      (sta_cannot k j (declares table) setting (set_by_call m) b.body p.code) in
      let all = all_kept table bs fs o b f pair (checks table b) (λ c i. (i, h.kept c i)) in
      let parts = kept_app on a (sta_checks table own b.body)
      (method_checks table own at (point b.body)) all in
      record {
        facts = a;
        entered = closed.entered;
        obeyed = closed.obeyed;
        kept = parts.0;
        names = sta_names setting false (set_by_call m) b.body p.code;
        makes =
            subst (λ s. StaMakes table s b.body) static
            (sta_makes setting false (set_by_call m) b.body p.code);
        possible = possible;
        ready =
            subst (λ s. StaReady table s b.body) static
            (sta_uses setting (IsNotThis m.is_static) (IsAsked table m.is_static)
            (λ x policy e is. is.leaves_this) (asks setting) false (set_by_call m) b.body p.code);
        ends =
            ends_of on a own at (point b.body)
            (λ c lt e. listed own.throws (length table.classes) c lt e) parts.1
            (no_jump kind.Break a_break) (no_jump kind.Continue a_continue);
      }

  -- each method has such a body
  pub known : AreBodiesOf table bs → AreAsMany bs fs
      → ((b : Body) (f : Facts numbers) → IsPair b f bs fs → AreFacts table b f) → (c k : ℕ)
      → IsThere (method_at table c k) → Known (watch table bs fs o) bs c k
  known all many right c k there =
      let own = owner (slice_get table.classes c) k there in
      let listed = in_methods 0 table.classes c k own.info own.is own.below in
      let zero_and : 0 + c ≡ c = omega arith in
      let among = subst (λ n. Contains (methods_from 0 table.classes) (n, k)) zero_and listed in
      let it = found bs fs many c k (subst (λ xs. Contains xs (c, k)) (sym all) among) in
      let ok = body_ok it.body it.facts it.pair (right it.body it.facts it.pair) in
      record {
        body = it.body.body;
        is = it.is;
        ok =
            subst (λ c. BodyOk (watch table bs fs o) c k it.body.body) it.class
            (subst (λ k. BodyOk (watch table bs fs o) it.body.class k it.body.body) it.method ok);
      }
