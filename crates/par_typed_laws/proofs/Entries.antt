-- The numbers in the table of a source are in range.
use Rattle.std.proofs.Common.{◌≡◌, ℕ, zero, suc, ◌+◌, ◌<◌, ◌≤◌, Bool, true, false, List, [], ◌∷◌}
use Rattle.std.proofs.Common.{◌++◌, length, Option, Some, None, refl, sym, ap, subst, ◌∙◌, arith}
use Rattle.std.proofs.Common.{map, cond, add-zero}
use Rattle.std.specs.Prelude.{flat_map, slice_get, count_by, nat_lt, nat_eq, if◌then◌else◌, sum_by}
use Rattle.std.specs.List.{AllByRecursion, list_any, range_with_len}
use Rattle.std.proofs.lemmas.List.{length-map, length-append}
use Rattle.std.proofs.lemmas.List.Sums.{sum_by-cons}
use Rattle.std.specs.Str.{bytes_eq}
use Rattle.par_program_laws.specs.par_tree.declared.types.TypeTree.{TypeTree}
use Rattle.par_program_laws.specs.par_tree.declared.types.TypeTree.TheVariants as type
use Rattle.par_program_laws.specs.par_tree.declared.policy.LockTree.{LockTree}
use Rattle.par_program_laws.specs.par_tree.declared.policy.PolicyExpr.{PolicyExpr}
use Rattle.par_program_laws.specs.par_tree.declared.decl.LockDecl.{LockDecl}
use Rattle.par_program_laws.specs.par_tree.declared.decl.FieldDecl.{FieldDecl}
use Rattle.par_program_laws.specs.par_tree.declared.decl.PolicyDecl.{PolicyDecl}
use Rattle.par_program_laws.specs.par_tree.Plain.{Class, Method, Source}
use Rattle.par_program_laws.specs.par_typed.declared.table.Table.{Table}
use Rattle.par_source_laws.specs.par_names.Declarations.{actors, locks, policies, classes}
use Rattle.par_source_laws.specs.par_names.Declarations.{declared_classes}
use Rattle.par_source_laws.specs.par_names.Program.{name_faults}
use Rattle.par_faults.specs.par_resolved.Sets.{with_number, set_of}
use Rattle.par_faults.specs.par_resolved.Numbers.{numbers, number, lock_number, type_of, result_of}
use Rattle.par_faults.specs.par_resolved.Numbers.{ground_count, choices, place_in_family}
use Rattle.par_faults.specs.par_resolved.Policies.{Known, known, nothing_known, known_behind}
use Rattle.par_faults.specs.par_resolved.Policies.{with_value}
use Rattle.par_faults.specs.par_resolved.Policies.{value_of, policy_of}
use Rattle.par_parts.specs.Statements.{in_braces}
use Rattle.par_parts.specs.Written.{stmt_types}
use Rattle.par_faults.specs.par_resolved.Births.{birth_policy}
use Rattle.par_faults.specs.par_resolved.Numbered.{shared_policies}
use Rattle.par_source_laws.specs.par_names.Declarations.{declared_classes}
use Rattle.par_faults.specs.par_resolved.Resolved.{Resolved, resolved, number_of, may_number}
use Rattle.par_faults.specs.par_resolved.Resolved.{expression_number, lock_policy, ground_lock}
use Rattle.par_faults.specs.par_resolved.Resolved.{family}
use Rattle.par_faults.specs.par_resolved.Resolved.{ground_locks_from, query_numbers, ground_locks}
use Rattle.par_faults.specs.par_resolved.Resolved.{field_infos, channel_info, param_info}
use Rattle.par_faults.specs.par_resolved.Resolved.{throw_info, lock_set}
use Rattle.par_faults.specs.par_resolved.Resolved.{this_type, local_types, method_info, class_info}
use Rattle.par_faults.specs.par_resolved.Resolved.{class_infos, has_main, table_of}
use Rattle.par_program_laws.specs.par_typed.Members.{IsClass}
use Rattle.par_typed_laws.specs.Tables.{IsPolicy, IsLock, MayBePolicy, AreLocks, IsType}
use Rattle.par_program_laws.specs.Locals.{arrivals}
use Rattle.par_typed_laws.specs.Tables.{FieldInRange, ChannelInRange, ParamInRange}
use Rattle.par_typed_laws.specs.Tables.{ThrowInRange, MethodInRange, ClassInRange, LockInRange}
use Rattle.par_typed_laws.specs.Tables as tables
use Rattle.par_faults.specs.Faults.{all_faults}
use Rattle.par_source_laws.specs.Order.{IsInOrder}
use Rattle.par_typed_laws.proofs.Lists.{of_both, of_parts, all_mapped, each_is, of_each}
use Rattle.par_typed_laws.proofs.Lists.{found_within, folded, ranged}
use Rattle.par_typed_laws.proofs.Locks.{length-choices}
use Rattle.par_typed_laws.proofs.Policies.{number_within, may_within, is_inferred, inferred_in}
use Rattle.par_typed_laws.proofs.Policies.{length-numbered, few_policies}
use Rattle.par_typed_laws.proofs.Unbroken as unbroken
use Rattle.par_typed_laws.proofs.Unbroken.{IsKnownLock, lock_within, KnowsLocks, IsKeptClass}
use Rattle.par_typed_laws.proofs.Unbroken.{IsKeptMethod, classes_kept, methods_kept, head_kept}
use Rattle.par_typed_laws.proofs.Unbroken.{head_locks, names_kept, table_kept, few}

-- ---- sets of numbers

with_one : (P : ℕ → Type 0) (ns : List ℕ) (n : ℕ) → AllByRecursion P ns → P n
    → AllByRecursion P (with_number ns n)
with_one P [] n h k = (k, tt)
with_one P (m ∷ ms) n h k = before (with_one P ms n h.1 k) (nat_lt n m) where
  same : AllByRecursion P (with_number ms n) → (b : Bool)
      → AllByRecursion P (if b then m ∷ ms else m ∷ with_number ms n)
  same rest true = h
  same rest false = (h.0, rest)

  before : AllByRecursion P (with_number ms n) → (b : Bool)
      → AllByRecursion P (if b then n ∷ m ∷ ms else if nat_eq n m then m ∷ ms else m ∷ with_number
      ms n)
  before rest true = (k, h)
  before rest false = same rest (nat_eq n m)

set_in : (P : ℕ → Type 0) (ns : List ℕ) → AllByRecursion P ns → AllByRecursion P (set_of ns)
set_in P ns h = folded (AllByRecursion P) P with_number [] ns (λ c x h k. with_one P c x h k) tt h

-- ---- what is known keeps its numbers

pub numbers_stay : (k : Known) (ds : List PolicyDecl) → (known_behind k ds).numbers ≡ k.numbers
unfolding known_behind
numbers_stay k [] = refl
numbers_stay k (d ∷ ds) = numbers_stay (with_value k (value_of k d.policy)) ds

-- ---- how many there are

length-class_infos : (r : Resolved) (class next : ℕ) (cs : List Class)
    → length (class_infos r class next cs) ≡ length cs
length-class_infos r class next [] = refl
length-class_infos r class next (c ∷ cs) =
    ap suc (length-class_infos r (class + 1) (next + count_by is_inferred c.fields) cs)

length-locks : (r : Resolved) (queries : List ℕ) (first : ℕ) (ls : List LockDecl)
    → AllByRecursion (λ lock. lock.arity ≤ 2) ls
    → length (ground_locks_from r queries first ls) ≡ sum_by
    (ground_count (length r.known.numbers.actors)) ls
length-locks r queries first [] h = refl
length-locks r queries first (l ∷ ls) h =
    let n = length r.known.numbers.actors in
    length-append (family r queries l first) (ground_locks_from r queries (first + ground_count n l)
    ls)
    ∙ ap (λ k. k + length (ground_locks_from r queries (first + ground_count n l) ls))
    (length-map (choices n l.arity) (ground_lock r queries l first) ∙ length-choices n l.arity h.0)
    ∙ ap (λ k. ground_count n l + k) (length-locks r queries (first + ground_count n l) ls h.1)
    ∙ sym (sum_by-cons (ground_count n) l ls)

-- the choices of actors are actors
pairs_in : (n : ℕ) (one : ℕ) (others : List ℕ) → one < n → AllByRecursion (λ k. k < n) others
    → AllByRecursion (AllByRecursion (λ a. a < n)) (map (λ other. one ∷ other ∷ []) others)
pairs_in n one others h k =
    all_mapped (λ a. a < n) (AllByRecursion (λ a. a < n)) (λ other. one ∷ other ∷ []) others
    (λ other is. (h, (is, tt))) k

choices_in : (n k : ℕ) → AllByRecursion (AllByRecursion (λ a. a < n)) (choices n k)
choices_in n zero = (tt, tt)
choices_in n (suc zero) =
    all_mapped (λ a. a < n) (AllByRecursion (λ a. a < n)) (λ one. one ∷ []) (range_with_len 0 n)
    (λ one is. (is, tt)) (ranged 0 n n (omega arith))
choices_in n (suc (suc k)) =
    of_parts (λ a. a < n) (AllByRecursion (λ a. a < n)) (λ one. map (λ other. one ∷ other ∷ [])
    (range_with_len 0 n)) (range_with_len 0 n)
    (λ one is. pairs_in n one (range_with_len 0 n) is (ranged 0 n n (omega arith)))
    (ranged 0 n n (omega arith))

module _ (source : Source) where
  abbrev t : Table
  t = table_of source

  abbrev r : Resolved
  r = resolved source

  shared_is : (n : ℕ) → n < length (shared_policies (known source) source) → IsPolicy t n
  shared_is n h = let whole = length-numbered source in omega (arith, h, whole)

  pub may_policy : (o : Option PolicyExpr) → IsPolicy t (may_number r o)
  may_policy o = shared_is (may_number r o) (may_within source o)

  pub one_policy : (e : PolicyExpr) → IsPolicy t (expression_number r e)
  one_policy e =
      shared_is (expression_number r e) (number_within source (policy_of (known source) e))

  -- ---- classes and types

  class_names : (name : List ℕ) → IsClass t (number r.classes name)
  class_names name =
      let some : 0 < length r.classes = omega arith in
      let names : length r.classes ≡ length (classes source) = length-map (classes source)
      (λ c. c.id.name) in
      let infos : length t.classes ≡ length (classes source) = length-class_infos r 0
      (length r.policies) (classes source) in
      let there = found_within (bytes_eq name) r.classes some in
      subst (λ n. number r.classes name < n) (names ∙ sym infos) there

  pub type_in : (ty : TypeTree) → IsType t (type_of r.classes ty)
  unfolding type_of
  type_in (type.Int at) = tt
  type_in (type.Boolean at) = tt
  type_in (type.Class class) = class_names class.name

  result_in : (o : Option TypeTree) → IsType t (result_of r.classes o)
  unfolding result_of
  result_in None = tt
  result_in (Some ty) = type_in ty

  -- ---- fields

  -- a field with its number, where the inferred ones behind it have room
  field_in : (next : ℕ) (f : FieldDecl) (b : Bool) → next + cond b 1 0 ≤ length t.policies
      → IsPolicy t (if b then next else may_number r f.policy)
  field_in next f true room = omega (arith, room)
  field_in next f false room = may_policy f.policy

  next_of : (next : ℕ) (b : Bool) → (if b then next + 1 else next) ≡ next + cond b 1 0
  next_of next true = refl
  next_of next false = sym (add-zero next)

  fields_in : (next : ℕ) (fs : List FieldDecl) → next + count_by is_inferred fs ≤ length t.policies
      → AllByRecursion (FieldInRange t) (field_infos r next fs)
  fields_in next [] room = tt
  fields_in next (f ∷ fs) room =
      let whole = sum_by-cons (λ g. cond (is_inferred g) 1 0) f fs in
      let split : next + cond f.inferred 1 0 + count_by is_inferred fs ≤ length t.policies =
      omega (arith, room, whole) in
      let here : next + cond f.inferred 1 0 ≤ length t.policies = omega (arith, split) in (
        (type_in f.ty, field_in next f f.inferred here),
        fields_in (if f.inferred then next + 1 else next) fs
            (subst (λ n. n + count_by is_inferred fs ≤ length t.policies)
            (sym (next_of next f.inferred)) split),
      )

  -- ---- locks

  lock_numbers : (known source).numbers ≡ numbers source
  lock_numbers = numbers_stay (nothing_known source) (policies source)

  module _ (arities : AllByRecursion (λ lock. lock.arity ≤ 2) (locks source)) where
    ground_count_is : length t.locks ≡ unbroken.ground_locks source
    ground_count_is =
        length-locks r (query_numbers r.known.numbers source) 0 (locks source) arities
        ∙ ap (λ n. sum_by (ground_count (length n.actors)) (locks source)) lock_numbers
        ∙ ap (λ n. sum_by (ground_count n) (locks source)) (length-map (actors source)
        (λ a. a.name))

    pub lock_in : (lock : LockTree) → IsKnownLock source lock
        → IsLock t (lock_number r.known.numbers lock)
    lock_in lock h =
        subst (λ n. lock_number n lock < length t.locks) (sym lock_numbers)
        (subst (λ n. lock_number (numbers source) lock < n) (sym ground_count_is)
        (lock_within source lock h))

    locks_in : (ls : List LockTree) → AllByRecursion (IsKnownLock source) ls
        → AreLocks t (lock_set r.known.numbers ls)
    locks_in ls h =
        set_in (IsLock t) (map (lock_number r.known.numbers) ls)
        (all_mapped (IsKnownLock source) (IsLock t) (lock_number r.known.numbers) ls lock_in h)

    ground_policy : (b : Bool) (o : Option PolicyExpr) → MayBePolicy t (lock_policy r b o)
    unfolding lock_policy
    ground_policy true None = shared_is (number_of r []) (number_within source [])
    ground_policy false None = tt
    ground_policy true (Some e) = one_policy e
    ground_policy false (Some e) = one_policy e

    ground_in : (queries : List ℕ) (first : ℕ) (ls : List LockDecl)
        → AllByRecursion (LockInRange t) (ground_locks_from r queries first ls)
    ground_in queries first [] = tt
    ground_in queries first (l ∷ ls) =
        of_both (LockInRange t) (family r queries l first) (ground_locks_from r queries
        (first + ground_count (length r.known.numbers.actors) l) ls)
        (all_mapped (AllByRecursion (λ a. a < length r.known.numbers.actors)) (LockInRange t)
        (ground_lock r queries l first)
        (choices (length r.known.numbers.actors) l.arity)
        (λ chosen is. (
          is,
          ground_policy
              (list_any (nat_eq (first + place_in_family (length r.known.numbers.actors) chosen))
              queries)
              l.policy,
        ))
        (choices_in (length r.known.numbers.actors) l.arity))
        (ground_in queries (first + ground_count (length r.known.numbers.actors) l) ls)

    -- ---- methods

    arrive_by : (b : Bool) (class n k rest : ℕ) → n ≡ k
        → cond b n (suc n) ≤ length (this_type class b) + k + rest
    arrive_by true class n k rest same = omega arith
    arrive_by false class n k rest same = omega arith

    arrive : (class : ℕ) (m : Method)
        → arrivals (method_info r class m) ≤ length (local_types r.classes class m)
    arrive class m =
        let params = map (λ p. type_of r.classes p.ty) m.params in
        let rest = map (type_of r.classes) (flat_map stmt_types (in_braces m.body)) in
        let whole = length-append (this_type class m.is_static ++ params) rest in
        let front = length-append (this_type class m.is_static) params in
        let same : length (map (param_info r) m.params) ≡ length params =
        length-map m.params (param_info r) ∙ sym (length-map m.params (λ p. type_of r.classes p.ty))
        in
        subst (λ n. arrivals (method_info r class m) ≤ n)
        (sym (whole ∙ ap (λ n. n + length rest) front))
        (arrive_by m.is_static class (length (map (param_info r) m.params)) (length params)
        (length rest) same)

    types_in : (class : ℕ) (m : Method) → IsClass t class
        → AllByRecursion (IsType t) (local_types r.classes class m)
    types_in class m h =
        of_both (IsType t) _ _
        (of_both (IsType t) (this_type class m.is_static) _ (this_in m.is_static)
        (all_mapped (λ p. Unit {0}) (IsType t) (λ p. type_of r.classes p.ty) m.params
        (λ p is. type_in p.ty) (of_each (λ p. Unit {0}) m.params (λ p. tt))))
        (all_mapped (λ p. Unit {0}) (IsType t) (type_of r.classes)
        (flat_map stmt_types (in_braces m.body)) (λ ty is. type_in ty)
        (of_each (λ p. Unit {0}) (flat_map stmt_types (in_braces m.body)) (λ p. tt))) where
          this_in : (b : Bool) → AllByRecursion (IsType t) (this_type class b)
          this_in true = tt
          this_in false = (h, tt)

    all_in : {A B : Type 0} (Q : B → Type 0) (f : A → B) (xs : List A) → ((x : A) → Q (f x))
        → AllByRecursion Q (map f xs)
    all_in Q f xs each =
        all_mapped (λ x. Unit {0}) Q f xs (λ x is. each x) (of_each (λ x. Unit {0}) xs (λ x. tt))

    method_in : (class : ℕ) (m : Method) → IsClass t class → KnowsLocks source m
        → MethodInRange t (method_info r class m)
    method_in class m here h = record {
      result = result_in m.result;
      policy = may_policy m.policy;
      params =
          all_in (ParamInRange t) (param_info r) m.params
          (λ p. (type_in p.ty, may_policy p.policy));
      locals = types_in class m here;
      arrive = arrive class m;
      effect = may_policy (slice_get m.effects 0);
      expects = locks_in m.expects h.expects;
      opens = locks_in m.opens h.opens;
      closes = locks_in m.closes h.closes;
      throws =
          all_in (ThrowInRange t) (throw_info r) m.throws
          (λ x. (class_names x.class.name, one_policy x.policy));
    }

    -- ---- classes

    class_in : (class next : ℕ) (c : Class) → IsClass t class
        → next + count_by is_inferred c.fields ≤ length t.policies
        → AllByRecursion (KnowsLocks source) c.methods → ClassInRange t (class_info r class next c)
    class_in class next c here room h = record {
      birth =
          shared_is (number_of r (birth_policy r.known c.birth c.fields))
          (number_within source (birth_policy r.known c.birth c.fields));
      fields = fields_in next c.fields room;
      channels = all_in (ChannelInRange t) (channel_info r) c.channels (λ k. may_policy k.policy);
      methods =
          all_mapped (KnowsLocks source) (MethodInRange t) (method_info r class) c.methods
          (λ m is. method_in class m here is) h;
    }

    classes_in : (class next : ℕ) (cs : List Class) → class + length cs ≤ length t.classes
        → next + inferred_in cs ≤ length t.policies
        → AllByRecursion (λ c. AllByRecursion (KnowsLocks source) c.methods) cs
        → AllByRecursion (ClassInRange t) (class_infos r class next cs)
    classes_in class next [] few room h = tt
    classes_in class next (c ∷ cs) few room h = (
      class_in class next c (omega (arith, few)) (omega (arith, room)) h.0,
      classes_in (class + 1) (next + count_by is_inferred c.fields) cs (omega (arith, few))
          (omega (arith, room)) h.1,
    )

  -- ---- the table

  methods_known : name_faults source ≡ []
      → AllByRecursion (λ c. AllByRecursion (KnowsLocks source) c.methods) (classes source)
  methods_known h = (
    tt,
    (
      tt,
      each_is (IsKeptClass source) (λ c. AllByRecursion (KnowsLocks source) c.methods)
          (declared_classes source) of_class
          (classes_kept source h),
    ),
  ) where
    of_method : (c : Class) (m : Method) → IsKeptMethod source c m → KnowsLocks source m
    of_method c m (before, is) = head_locks source before m (head_kept source before c m is)

    of_class : (c : Class) → IsKeptClass source c → AllByRecursion (KnowsLocks source) c.methods
    of_class c is =
        each_is (IsKeptMethod source c) (KnowsLocks source) c.methods (of_method c)
        (methods_kept source c is)

pub tables_are_in_range : (source : Source) → IsInOrder source → all_faults source ≡ []
    → tables.IsInRange (table_of source)
tables_are_in_range source ordered none =
    let r = resolved source in
    let policies_few = few_policies source (table_kept source none) in
    let total = length-numbered source in
    let infos : length (class_infos r 0 (length r.policies) (classes source)) ≡ length
    (classes source) =
    length-class_infos r 0 (length r.policies) (classes source) in
    let fields_same : inferred_in (classes source) ≡ inferred_in (declared_classes source) =
    omega arith in
    let locks_few = (few source none).few_locks in
    let grounds : length (ground_locks r source) ≡ unbroken.ground_locks source =
    ground_count_is source ordered.arities in
    let main_class = found_within has_main (classes source) (omega arith) in
    record {
      few_policies = policies_few;
      few_locks = omega (arith, locks_few, grounds);
      locks =
          ground_in source ordered.arities (query_numbers r.known.numbers source) 0 (locks source);
      classes =
          classes_in source ordered.arities 0 (length r.policies) (classes source)
          (omega (arith, infos))
          (omega (arith, total, fields_same)) (methods_known source (names_kept source none));
      main = omega (arith, main_class, infos);
    }
