-- The numbers of policies: shared ones first, and behind them one for each inferred field.
use Rattle.std.proofs.Common.{◌≡◌, ℕ, zero, suc, ◌+◌, ◌<◌, ◌≤◌, Bool, true, false, cond}
use Rattle.std.proofs.Common.{◌&&◌, List, [], ◌∷◌, ◌++◌, length, map, refl, Option, Some, None}
use Rattle.std.proofs.Common.{sym, ap, ◌∙◌, arith, ⊎_elim}
use Rattle.std.specs.Prelude.{IsTrue, nat_eq, filter, flat_map, count_by}
use Rattle.std.specs.Prelude.{slice_get, if◌then◌else◌}
use Rattle.std.specs.List.{AllByRecursion, range_with_len, list_any}
use Rattle.std.proofs.lemmas.Bool.{or_cases, eqb-true}
use Rattle.std.proofs.lemmas.List.{map-append}
use Rattle.std.proofs.lemmas.List.Elements.{filter-append}
use Rattle.std.proofs.lemmas.List.Sums.{sum_by-cons}
use Rattle.par_tree.specs.declared.policy.PolicyExpr.{PolicyExpr}
use Rattle.par_tree.specs.declared.decl.LockDecl.{LockDecl}
use Rattle.par_tree.specs.declared.decl.FieldDecl.{FieldDecl}
use Rattle.par_tree.specs.Plain.{Method, Class, Source}
use Rattle.par_typed.specs.declared.table.Table.{Table}
use Rattle.par_names.specs.Declarations.{classes, declared_classes}
use Rattle.par_typed_laws.specs.par_resolved.Policies.{known}
use Rattle.par_typed_laws.specs.par_resolved.Numbered.{shared_policies}
use Rattle.par_typed_laws.specs.par_resolved.Resolved.{Resolved, resolved, may_number, field_info}
use Rattle.par_typed_laws.specs.par_resolved.Resolved.{field_infos}
use Rattle.par_typed_laws.specs.par_resolved.Resolved.{channel_info, param_info, throw_info}
use Rattle.par_typed_laws.specs.par_resolved.Resolved.{method_info}
use Rattle.par_typed_laws.specs.par_resolved.Resolved.{class_infos, table_of, lock_policy}
use Rattle.par_typed_laws.specs.par_resolved.Resolved.{ground_lock, family}
use Rattle.par_typed_laws.specs.par_resolved.Resolved.{ground_locks_from}
use Rattle.par_typed_laws.specs.par_resolved.Numbers.{ground_count, choices, place_in_family}
use Rattle.par_program_laws.specs.Declares.{declares, methods_of, method_of}
use Rattle.par_typed_laws.proofs.Lists.{all_mapped, of_each, of_both}
use Rattle.par_typed_laws.proofs.Policies.{some_shared, number_within, may_within, is_inferred}
use Rattle.par_typed_laws.proofs.Policies.{inferred_in, length-numbered}
use Rattle.par_program_laws.specs.Inferred as own
use Rattle.par_program_laws.specs.Inferred.{inferred, inferred_among, AreOfFields}
use Rattle.par_program_laws.specs.Policies.{MayShare, LockShares, FieldShares, MethodShares}
use Rattle.par_program_laws.specs.Policies.{ClassShares}
use Rattle.par_typing.specs.TableLaws.{InferredAreOfFields}

-- ---- inferred numbers come one after the other

ranges_join : (a m n : ℕ)
    → range_with_len a m ++ range_with_len (a + m) n ≡ range_with_len a (m + n)
ranges_join a zero n =
    let first : a + 0 ≡ a = omega arith in
    let count : n ≡ 0 + n = omega arith in
    ap (λ k. range_with_len k n) first ∙ ap (range_with_len a) count
ranges_join a (suc m) n =
    let moved : a + suc m ≡ a + 1 + m = omega arith in
    let count : suc (m + n) ≡ suc m + n = omega arith in
    ap (λ ks. a ∷ ks) (ap (λ k. range_with_len (a + 1) m ++ range_with_len k n) moved
    ∙ ranges_join (a + 1) m n)
    ∙ ap (range_with_len a) count

-- the numbers of the inferred ones among these
abbrev numbers_in : (r : Resolved) → ℕ → List FieldDecl → List ℕ
numbers_in r next fs = map (λ f. f.policy) (filter (λ f. f.inferred) (field_infos r next fs))

field_step : (r : Resolved) (b : Bool) (next p m : ℕ) (rest : List ℕ)
    → rest ≡ range_with_len (if b then next + 1 else next) m
    → cond b ((if b then next else p) ∷ rest) rest ≡ range_with_len next (cond b 1 0 + m)
field_step r true next p m rest h =
    let count : suc m ≡ 1 + m = omega arith in
    ap (λ ns. next ∷ ns) h ∙ ap (range_with_len next) count
field_step r false next p m rest h =
    let count : m ≡ 0 + m = omega arith in h ∙ ap (range_with_len next) count

fields_in_turn : (r : Resolved) (next : ℕ) (fs : List FieldDecl)
    → numbers_in r next fs ≡ range_with_len next (count_by is_inferred fs)
fields_in_turn r next [] = refl
fields_in_turn r next (f ∷ fs) =
    let later = if f.inferred then next + 1 else next in
    kept_number f.inferred
    ∙ field_step r f.inferred next (may_number r f.policy) (count_by is_inferred fs)
    (numbers_in r later fs) (fields_in_turn r later fs)
    ∙ ap (range_with_len next) (sym (sum_by-cons (λ g. cond (is_inferred g) 1 0) f fs)) where
      kept_number : (b : Bool)
          → map (λ f. f.policy) (cond b (field_info r next f
          ∷ filter (λ f. f.inferred) (field_infos r (if f.inferred then next + 1 else next) fs))
          (filter (λ f. f.inferred) (field_infos r (if f.inferred then next + 1 else next) fs)))
          ≡ cond b ((if f.inferred then next else may_number r f.policy)
          ∷ numbers_in r (if f.inferred then next + 1 else next) fs)
          (numbers_in r (if f.inferred then next + 1 else next) fs)
      kept_number true = refl
      kept_number false = refl

pub classes_in_turn : (r : Resolved) (class next : ℕ) (cs : List Class)
    → map (λ f. f.policy)
    (filter (λ f. f.inferred) (flat_map (λ c. c.fields) (class_infos r class next cs)))
    ≡ range_with_len next (inferred_in cs)
classes_in_turn r class next [] = refl
classes_in_turn r class next (c ∷ cs) =
    let own_fields = field_infos r next c.fields in
    let next_on = next + count_by is_inferred c.fields in
    let rest = flat_map (λ c. c.fields) (class_infos r (class + 1) next_on cs) in
    ap (map (λ f. f.policy)) (filter-append (λ f. f.inferred) own_fields rest)
    ∙ map-append (λ f. f.policy) (filter (λ f. f.inferred) own_fields)
    (filter (λ f. f.inferred) rest)
    ∙ ap (λ ns. ns ++ map (λ f. f.policy) (filter (λ f. f.inferred) rest))
    (fields_in_turn r next c.fields)
    ∙ ap (λ ns. range_with_len next (count_by is_inferred c.fields) ++ ns)
    (classes_in_turn r (class + 1) next_on cs)
    ∙ ranges_join next (count_by is_inferred c.fields) (inferred_in cs)

-- ---- the test for them

among : (fs : List FieldDecl) (r : Resolved) (next n : ℕ)
    → IsTrue (inferred_among (field_infos r next fs) n)
    → (next ≤ n) × (n < next + count_by is_inferred fs)
among [] r next n h = absurd cc
among (f ∷ fs) r next n h =
    let whole = sum_by-cons (λ g. cond (is_inferred g) 1 0) f fs in
    let later = if f.inferred then next + 1 else next in
    let both = ⊎_elim (λ here. here_is f.inferred here)
    (λ there. there_is f.inferred (among fs r later n there))
    (or_cases (f.inferred && nat_eq (if f.inferred then next else may_number r f.policy) n)
    (inferred_among (field_infos r later fs) n) h) in
    let low = both.0 in
    let high = both.1 in (low, omega (arith, high, whole)) where
      here_is : (b : Bool)
          → IsTrue (b && nat_eq (if b then next else may_number r f.policy) n)
          → (next ≤ n) × (n < next + (cond b 1 0 + count_by is_inferred fs))
      here_is true e =
          let same : next ≡ n = eqb-true next n e in (omega (arith, same), omega (arith, same))
      here_is false e = absurd (cc e)

      there_is : (b : Bool)
          → ((if b then next + 1 else next) ≤ n)
          × (n < (if b then next + 1 else next) + count_by is_inferred fs)
          → (next ≤ n) × (n < next + (cond b 1 0 + count_by is_inferred fs))
      there_is true e =
          let low = e.0 in let high = e.1 in (omega (arith, low), omega (arith, high))
      there_is false e =
          let low = e.0 in let high = e.1 in (low, omega (arith, high))

among_classes : (cs : List Class) (r : Resolved) (class next n : ℕ)
    → IsTrue (own.inferred_in (class_infos r class next cs) n)
    → (next ≤ n) × (n < next + inferred_in cs)
among_classes [] r class next n h = absurd cc
among_classes (c ∷ cs) r class next n h =
    let next_on = next + count_by is_inferred c.fields in
    ⊎_elim
    (λ here.
    let at = among c.fields r next n here in
    let high = at.1 in (at.0, omega (arith, high)))
    (λ there.
    let at = among_classes cs r (class + 1) next_on n there in
    let low = at.0 in let high = at.1 in (omega (arith, low), omega (arith, high)))
    (or_cases (inferred_among (field_infos r next c.fields) n)
    (own.inferred_in (class_infos r (class + 1) next_on cs) n) h)

-- ---- other numbers are shared

module _ (source : Source) where
  abbrev t : Table
  t = table_of source

  abbrev r : Resolved
  r = resolved source

  abbrev shared : ℕ
  shared = length (shared_policies (known source) source)

  abbrev each : {A B : Type 0} (Q : B → Type 0) (f : A → B) (xs : List A) → ((x : A) → Q (f x))
      → AllByRecursion Q (map f xs)
  each Q f xs h =
      all_mapped (λ x. Unit {0}) Q f xs (λ x own. h x) (of_each (λ x. Unit {0}) xs (λ x. tt))

  lock_shares : (b : Bool) (o : Option PolicyExpr) → MayShare shared (lock_policy r b o)
  unfolding lock_policy
  lock_shares true None = number_within source []
  lock_shares false None = tt
  lock_shares true (Some e) = number_within source _
  lock_shares false (Some e) = number_within source _

  pub locks_share : (queries : List ℕ) (first : ℕ) (ls : List LockDecl)
      → AllByRecursion (LockShares shared) (ground_locks_from r queries first ls)
  locks_share queries first [] = tt
  locks_share queries first (l ∷ ls) =
      let many = length r.known.numbers.actors in
      of_both (LockShares shared) (family r queries l first)
      (ground_locks_from r queries (first + ground_count many l) ls)
      (each (LockShares shared) (ground_lock r queries l first) (choices many l.arity)
      (λ chosen. lock_shares
      (list_any (nat_eq (first + place_in_family many chosen)) queries) l.policy))
      (locks_share queries (first + ground_count many l) ls)

  method_shares : (class : ℕ) (m : Method) → MethodShares shared (method_info r class m)
  method_shares class m = record {
    result = may_within source m.policy;
    params =
        each (λ p. p.policy < shared) (param_info r) m.params (λ p. may_within source p.policy);
    effect = may_within source (slice_get m.effects 0);
    throws = each (λ x. x.policy < shared) (throw_info r) m.throws (λ x. number_within source _);
  }

  field_shares : (next : ℕ) (f : FieldDecl) (b : Bool) → b ≡ false
      → (if b then next else may_number r f.policy) < shared
  field_shares next f true e = absurd (cc e)
  field_shares next f false e = may_within source f.policy

  fields_share : (next : ℕ) (fs : List FieldDecl)
      → AllByRecursion (FieldShares shared) (field_infos r next fs)
  fields_share next [] = tt
  fields_share next (f ∷ fs) = (
    field_shares next f f.inferred,
    fields_share (if f.inferred then next + 1 else next) fs,
  )

  pub classes_share : (class next : ℕ) (cs : List Class)
      → AllByRecursion (ClassShares shared) (class_infos r class next cs)
  classes_share class next [] = tt
  classes_share class next (c ∷ cs) = (
    record {
      birth = number_within source _;
      fields = fields_share next c.fields;
      channels =
          each (λ k. k.policy < shared) (channel_info r) c.channels
          (λ k. may_within source k.policy);
      methods = each (MethodShares shared) (method_info r class) c.methods (method_shares class);
    },
    classes_share (class + 1) (next + count_by (λ f. f.inferred) c.fields) cs,
  )

  inferred_within : (n : ℕ) → IsTrue (inferred t n) → (shared ≤ n) × (n < length t.policies)
  inferred_within n h =
      let at = among_classes (classes source) r 0 (length r.policies) n h in
      let whole = length-numbered source in
      let low = at.0 in
      let high = at.1 in
      let few : inferred_in (classes source) ≡ 0 + (0 + inferred_in (declared_classes source)) =
      refl in
      (low, omega (arith, high, whole, few))

  effect_at : (class : ℕ) (ms : List Method) (m : ℕ)
      → (method_of (slice_get (map (method_info r class) ms) m)).effect < shared
  effect_at class [] m = some_shared source
  effect_at class (x ∷ ms) zero = may_within source (slice_get x.effects 0)
  effect_at class (x ∷ ms) (suc m) = effect_at class ms m

  effects_within : (cs : List Class) (class next c m : ℕ)
      → (methods_of (slice_get (class_infos r class next cs) c) m).effect < shared
  effects_within [] class next c m = some_shared source
  effects_within (x ∷ cs) class next zero m = effect_at class x.methods m
  effects_within (x ∷ cs) class next (suc c) m =
      effects_within cs (class + 1) (next + count_by (λ f. f.inferred) x.fields) c m

  no_field : (n : ℕ) → n < shared → inferred t n ≡ false
  no_field n h = in_case (inferred t n) refl where
    in_case : (b : Bool) → inferred t n ≡ b → inferred t n ≡ false
    in_case true e = let low = (inferred_within n e).0 in absurd (omega (arith, low, h))
    in_case false e = e

  effect_own : (class method : ℕ)
      → inferred t ((declares t).method class method).effect ≡ false
  unfolding declares
  effect_own class method =
      no_field _ (effects_within (classes source) 0 (length r.policies) class method)

pub inferred_of_fields : InferredAreOfFields
inferred_of_fields source = record {
  ranges = λ n h. (inferred_within source n h).1;
  effects = effect_own source;
}
