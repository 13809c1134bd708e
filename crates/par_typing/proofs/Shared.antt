-- Each policy that is written stands in the table at its number.
use Rattle.std.proofs.Common.{◌≡◌, ℕ, Bool, true, false, ◌||◌, ◌&&◌, List, [], ◌∷◌}
use Rattle.std.proofs.Common.{◌++◌, Option, Some, None, is_some, get_or, map, refl, sym, ap}
use Rattle.std.proofs.Common.{subst, ◌∙◌, arith}
use Rattle.std.specs.Prelude.{nat_eq, nat_le, fold, position, unwrap_or, slice_get}
use Rattle.std.specs.Prelude.{if◌then◌else◌}
use Rattle.std.specs.List.{AllByRecursion, list_any}
use Rattle.std.specs.Option.{option_to_list}
use Rattle.std.specs.Str.{bytes_eq}
use Rattle.std.proofs.lemmas.Bool.{eqb-true, and_parts, or_left, or_right}
use Rattle.std.proofs.lemmas.Bool.Decides.{nat_tests}
use Rattle.std.proofs.lemmas.List.{map-append}
use Rattle.std.proofs.lemmas.List.Folds.{list_any-append}
use Rattle.std.proofs.lemmas.List.Quantifiers.{position-Some}
use Rattle.std.proofs.lemmas.Option.{slice_get-get_or}
use Rattle.std.proofs.lemmas.Slice.Eq.{bytes_eq-Decides}
use Rattle.par_policy.specs.declared.clauses.Clause.{Clause}
use Rattle.par_index.proofs.Places.{position-is_some, any-map}
use Rattle.par_tree.specs.declared.policy.PolicyExpr.{PolicyExpr}
use Rattle.par_tree.specs.Plain.{Class, Source}
use Rattle.par_typed_laws.specs.par_resolved.declared.entries.Entry.{Entry}
use Rattle.par_typed_laws.specs.par_resolved.Policies.{Known, known, bottom, policy_of}
use Rattle.par_parts.specs.Written.{written}
use Rattle.par_typed_laws.specs.par_resolved.Births.{birth_policy, policy_or_bottom}
use Rattle.par_typed_laws.specs.par_resolved.Numbered.{same_clause, same_policy, written_entry}
use Rattle.par_typed_laws.specs.par_resolved.Numbered.{query_entries}
use Rattle.par_typed_laws.specs.par_resolved.Numbered.{with_entry, by_place, birth_entry}
use Rattle.par_names.specs.Declarations.{declared_classes}
use Rattle.par_typed_laws.specs.par_resolved.Numbered.{entries}
use Rattle.par_typed_laws.specs.par_resolved.Numbered.{with_new, distinct, inferred_fields}
use Rattle.par_typed_laws.specs.par_resolved.Numbered.{inferred_entry}
use Rattle.par_typed_laws.specs.par_resolved.Numbered.{shared_policies, policy_number}
use Rattle.par_typed_laws.specs.par_resolved.Resolved.{resolved, number_of, may_number, table_of}
use Rattle.par_typing.proofs.Lists.{all_left, all_right, all_unmapped, in_front}

-- ---- equal policies

one_clause : (c d : Clause) → same_clause c d ≡ true → c ≡ d
one_clause c d h =
    let both = and_parts (nat_eq c.actor d.actor) (bytes_eq c.locks d.locks) h in
    let actors : c.actor ≡ d.actor = eqb-true c.actor d.actor both.0 in
    let locks : c.locks ≡ d.locks = (bytes_eq-Decides c.locks d.locks).0 both.1 in
    λ i. record { actor = actors i; locks = locks i }

pub one_policy : (p q : List Clause) → same_policy p q ≡ true → p ≡ q
one_policy [] [] h = refl
one_policy [] (d ∷ q) h = absurd (cc h)
one_policy (c ∷ p) [] h = absurd (cc h)
one_policy (c ∷ p) (d ∷ q) h =
    let both = and_parts (same_clause c d) (same_policy p q) h in
    let first = one_clause c d both.0 in
    let rest = one_policy p q both.1 in
    λ i. first i ∷ rest i

itself_eq : (n : ℕ) → nat_eq n n ≡ true
itself_eq n = grind (arith, nat_tests)

pub itself : (p : List Clause) → same_policy p p ≡ true
itself [] = refl
itself (c ∷ p) =
    let actors : nat_eq c.actor c.actor ≡ true = itself_eq c.actor in
    let locks : bytes_eq c.locks c.locks ≡ true = (bytes_eq-Decides c.locks c.locks).1 refl in
    ap (λ b. (b && bytes_eq c.locks c.locks) && same_policy p p) actors
    ∙ ap (λ b. b && same_policy p p) locks ∙ itself p

-- ---- distinct policies

-- an entry with this policy is among them
abbrev pub IsThere : List Entry → List Clause → Type 0
IsThere es p = list_any (λ f. same_policy p f.policy) es ≡ true

grows : (es : List Entry) (e : Entry) (p : List Clause) → IsThere es p → IsThere (with_new es e) p
grows es e p h = in_case (list_any (λ f. same_policy e.policy f.policy) es) where
  in_case : (b : Bool) → IsThere (if b then es else es ++ e ∷ []) p
  in_case true = h
  in_case false =
      list_any-append (λ f. same_policy p f.policy) es (e ∷ [])
      ∙ or_left (list_any (λ f. same_policy p f.policy) es) _ h

joins : (es : List Entry) (e : Entry) → IsThere (with_new es e) e.policy
joins es e = in_case (list_any (λ f. same_policy e.policy f.policy) es) refl where
  in_case : (b : Bool) → list_any (λ f. same_policy e.policy f.policy) es ≡ b
      → IsThere (if b then es else es ++ e ∷ []) e.policy
  in_case true h = h
  in_case false h =
      list_any-append (λ f. same_policy e.policy f.policy) es (e ∷ [])
      ∙ ap (λ b. list_any (λ f. same_policy e.policy f.policy) es || (b || false)) (itself e.policy)
      ∙ or_right (list_any (λ f. same_policy e.policy f.policy) es) true refl

stays : (es more : List Entry) (p : List Clause) → IsThere es p → IsThere (fold with_new es more) p
stays es [] p h = h
stays es (e ∷ more) p h = stays (with_new es e) more p (grows es e p h)

all_there : (es more : List Entry)
    → AllByRecursion (λ e. IsThere (fold with_new es more) e.policy) more
all_there es [] = tt
all_there es (e ∷ more) =
    (stays (with_new es e) more e.policy (joins es e), all_there (with_new es e) more)

-- the first entry stays the first
stays_first : (es more : List Entry) (e : Entry) → slice_get es 0 ≡ Some e
    → slice_get (fold with_new es more) 0 ≡ Some e
stays_first es [] e h = h
stays_first es (f ∷ more) e h = stays_first (with_new es f) more e (with (list_any
    (λ g. same_policy f.policy g.policy) es)) where
      with : (b : Bool) → slice_get (if b then es else es ++ f ∷ []) 0 ≡ Some e
      with true = h
      with false = in_front es (f ∷ []) 0 e h

-- ---- numbers

abbrev pub policies_of : List Entry → List (List Clause)
policies_of es = map (λ e. e.policy) es

found_at : (ps : List (List Clause)) (p : List Clause) (o : Option ℕ)
    → position (same_policy p) ps ≡ o
    → is_some o ≡ true → slice_get ps (unwrap_or o 0) ≡ Some p
found_at ps p None is h = absurd (cc h)
found_at ps p (Some n) is h =
    let at = position-Some (same_policy p) ps n p is in
    slice_get-get_or ps n p at.0 ∙ ap Some (sym (one_policy p (get_or ps n p) at.1))

pub found : (ps : List (List Clause)) (p : List Clause) → list_any (same_policy p) ps ≡ true
    → slice_get ps (policy_number ps p) ≡ Some p
found ps p h =
    found_at ps p (position (same_policy p) ps) refl (position-is_some (same_policy p) ps ∙ h)

-- ---- the order of places

with_out : (P : Entry → Type 0) (e : Entry) (es : List Entry)
    → AllByRecursion P (with_entry e es) → P e × AllByRecursion P es
with_out P e [] h = (h.0, tt)
with_out P e (f ∷ fs) h = in_case (nat_le e.at f.at) (with_out P e fs) h where
  in_case : (b : Bool) → (AllByRecursion P (with_entry e fs) → P e × AllByRecursion P fs)
      → AllByRecursion P (if b then e ∷ f ∷ fs else f ∷ with_entry e fs)
      → P e × AllByRecursion P (f ∷ fs)
  in_case true rest h = (h.0, h.1)
  in_case false rest h = let both = rest h.1 in (both.0, (h.0, both.1))

pub of_places : (P : Entry → Type 0) (es : List Entry) → AllByRecursion P (by_place es)
    → AllByRecursion P es
of_places P [] h = tt
of_places P (e ∷ es) h =
    let both = with_out P e (by_place es) h in (both.0, of_places P es both.1)

-- ---- the table

-- the policy stands in the table at its number
abbrev pub Stands : Source → List Clause → Type 0
Stands source p = slice_get (table_of source).policies (number_of (resolved source) p) ≡ Some p

module _ (source : Source) where
  abbrev k : Known
  k = known source

  abbrev all : List Entry
  all = entries k source

  abbrev first : Entry
  first = record { at = 0; policy = bottom k.numbers }

  abbrev placed : List Entry
  placed = map (written_entry k) (written source) ++ query_entries source

  abbrev births : List Entry
  births = map (birth_entry k) (declared_classes source)

  pub policies_are : (table_of source).policies
      ≡ shared_policies k source ++ policies_of (map (inferred_entry k) (inferred_fields source))
  policies_are =
      map-append (λ e. e.policy) (distinct all) (map (inferred_entry k) (inferred_fields source))

  abbrev HasEntry : Entry → Type 0
  HasEntry e = IsThere (distinct all) e.policy

  entry_stands : (p : List Clause) → IsThere (distinct all) p → Stands source p
  entry_stands p h =
      subst (λ ps. slice_get ps (number_of (resolved source) p) ≡ Some p) (sym policies_are)
      (in_front (shared_policies k source) _ (number_of (resolved source) p) p
      (found (shared_policies k source) p (any-map (same_policy p) (λ e. e.policy) (distinct all)
      ∙ h)))

  each_entry : AllByRecursion HasEntry all
  each_entry = all_there [] all

  behind_first : AllByRecursion HasEntry (by_place placed ++ births)
  behind_first = each_entry.1

  pub written_stand : AllByRecursion (λ e. Stands source (policy_of k e)) (written source)
  written_stand =
      stand (written source) (all_unmapped HasEntry (written_entry k) (written source)
      (all_left HasEntry (map (written_entry k) (written source)) (query_entries source)
      (of_places HasEntry placed (all_left HasEntry (by_place placed) births behind_first)))) where
        stand : (es : List PolicyExpr) → AllByRecursion (λ e. HasEntry (written_entry k e)) es
            → AllByRecursion (λ e. Stands source (policy_of k e)) es
        stand [] h = tt
        stand (e ∷ es) h = (entry_stands (policy_of k e) h.0, stand es h.1)

  pub births_stand : AllByRecursion (λ c. Stands source (birth_policy k c.birth c.fields))
      (declared_classes source)
  births_stand =
      stand (declared_classes source)
      (all_unmapped HasEntry (birth_entry k) (declared_classes source)
      (all_right HasEntry (by_place placed) births behind_first)) where
        stand : (cs : List Class) → AllByRecursion (λ c. HasEntry (birth_entry k c)) cs
            → AllByRecursion (λ c. Stands source (birth_policy k c.birth c.fields)) cs
        stand [] h = tt
        stand (c ∷ cs) h =
            (entry_stands (birth_policy k c.birth c.fields) h.0, stand cs h.1)

  -- number 0 is `bottom`
  pub bottom_stands : slice_get (table_of source).policies 0 ≡ Some (bottom k.numbers)
  bottom_stands =
      subst (λ ps. slice_get ps 0 ≡ Some (bottom k.numbers)) (sym policies_are)
      (in_front (shared_policies k source) _ 0 (bottom k.numbers)
      (first_of (distinct all) (stays_first (first ∷ []) (by_place placed ++ births) first refl)))
    where
      first_of : (es : List Entry) → slice_get es 0 ≡ Some first
          → slice_get (policies_of es) 0 ≡ Some (bottom k.numbers)
      first_of [] h = absurd (cc h)
      first_of (e ∷ es) h = let same : e ≡ first = cc h in ap (λ e. Some e.policy) same

  -- one that may be omitted
  pub may_stand : (o : Option PolicyExpr)
      → AllByRecursion (λ e. Stands source (policy_of k e)) (option_to_list o)
      → slice_get (table_of source).policies (may_number (resolved source) o)
      ≡ Some (policy_or_bottom k o)
  unfolding may_number
  may_stand None h = bottom_stands
  may_stand (Some e) h = h.0
