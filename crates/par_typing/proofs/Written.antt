-- Written policies have the numbers of the table.
use Rattle.std.proofs.Common.{◌≡◌, ℕ, ◌+◌, Bool, true, false, cond, List, [], ◌∷◌, ◌++◌, map, Some}
use Rattle.std.proofs.Common.{None, refl, sym, ap, ◌∙◌}
use Rattle.std.proofs.Math.Path.{fun_ext}
use Rattle.std.specs.Prelude.{fold, position, unwrap_or, if◌then◌else◌}
use Rattle.std.specs.List.{AllByRecursion, list_any, position_from}
use Rattle.std.proofs.lemmas.List.{map-append}
use Rattle.par_index.proofs.Places.{position-from}
use Rattle.par_policy.specs.declared.clauses.Clause.{Clause}
use Rattle.par_tree.specs.declared.decl.FieldDecl.{FieldDecl}
use Rattle.par_tree.specs.Plain.{Source}
use Rattle.par_annotation.specs.par_type_rules.TypedStmts.{Written}
use Rattle.par_resolved.specs.declared.entries.Entry.{Entry}
use Rattle.par_resolved.specs.declared.known.Known as code
use Rattle.par_resolved.specs.Seen.{known_seen}
use Rattle.par_resolved.specs.Numbers.{lock_number}
use Rattle.par_resolved.specs.Policies.{Known, known, bottom, policy_of}
use Rattle.par_resolved.specs.Numbered.{same_policy, by_place, written_entry}
use Rattle.par_resolved.specs.Numbered.{query_entries}
use Rattle.par_resolved.specs.Numbered.{birth_entry, entries, with_new}
use Rattle.par_names.specs.Declarations.{declared_classes}
use Rattle.par_resolved.specs.Numbered.{distinct}
use Rattle.par_resolved.specs.Numbered.{inferred_fields, inferred_entry}
use Rattle.par_resolved.specs.Numbered.{shared_policies}
use Rattle.par_resolved.specs.Numbered.{policy_number}
use Rattle.par_parts.specs.Written as said
use Rattle.par_resolved.specs.Resolved.{table_of}
use Rattle.par_annotation.specs.Numbers.{written_in}
use Rattle.par_typing.specs.Typed.{written}

-- ---- the first place in front of others that stand there already

module _ {A : Type 0} (p : A → Bool) where
  abbrev Fail : List A → Type 0
  Fail ys = AllByRecursion (λ y. p y ≡ false) ys

  none_there : (n : ℕ) (ys : List A) → Fail ys → position_from p n ys ≡ None
  none_there n [] h = refl
  none_there n (y ∷ ys) h =
      ap (λ b. cond b (Some n) (position_from p (n + 1) ys)) h.0 ∙ none_there (n + 1) ys h.1

  in_front : (n : ℕ) (xs ys : List A) → Fail ys
      → position_from p n (xs ++ ys) ≡ position_from p n xs
  in_front n [] ys h = none_there n ys h
  in_front n (x ∷ xs) ys h = ap (λ o. cond (p x) (Some n) o) (in_front (n + 1) xs ys h)

  here : (n : ℕ) (x : A) (xs : List A) → p x ≡ true → position_from p n (x ∷ xs) ≡ Some n
  here n x xs h = ap (λ b. cond b (Some n) (position_from p (n + 1) xs)) h

  all_fail : (x : A) (ys : List A) → AllByRecursion (λ y. y ≡ x) ys → p x ≡ false → Fail ys
  all_fail x [] same h = tt
  all_fail x (y ∷ ys) same h = (ap p same.0 ∙ h, all_fail x ys same.1 h)

  by_first : (x : A) (xs ys : List A) → AllByRecursion (λ y. y ≡ x) ys
      → position_from p 0 (x ∷ (xs ++ ys)) ≡ position_from p 0 (x ∷ xs)
  by_first x xs ys same = in_case (p x) refl where
    in_case : (b : Bool) → p x ≡ b → position_from p 0 (x ∷ (xs ++ ys)) ≡ position_from p 0 (x ∷ xs)
    in_case true e = here 0 x (xs ++ ys) e ∙ sym (here 0 x xs e)
    in_case false e = in_front 0 (x ∷ xs) ys (all_fail x ys same e)

  -- what the first one is like is found in front
  pub found_in_front : (x : A) (xs ys : List A) → AllByRecursion (λ y. y ≡ x) ys
      → position p (x ∷ (xs ++ ys)) ≡ position p (x ∷ xs)
  found_in_front x xs ys same =
      position-from p (x ∷ (xs ++ ys)) ∙ by_first x xs ys same ∙ sym (position-from p (x ∷ xs))

-- ---- the first of distinct entries is the first of all

abbrev BeginsWith : Entry → List Entry → Type 0
BeginsWith e es = (rest : List Entry) × (es ≡ e ∷ rest)

one_more : (b : Bool) (e f : Entry) (es : List Entry)
    → BeginsWith e (if b then e ∷ es else (e ∷ es) ++ f ∷ [])
one_more true e f es = (es, refl)
one_more false e f es = (es ++ f ∷ [], refl)

all_more : (e : Entry) (es fs : List Entry) → BeginsWith e (fold with_new (e ∷ es) fs)
all_more e es [] = (es, refl)
all_more e es (f ∷ fs) =
    let next = one_more (list_any (λ g. same_policy f.policy g.policy) (e ∷ es)) e f es in
    let rest = all_more e next.0 fs in
    (rest.0, ap (λ xs. fold with_new xs fs) next.1 ∙ rest.1)

begins : (e : Entry) (es : List Entry) → BeginsWith e (distinct (e ∷ es))
begins e es = all_more e [] es

-- ---- the numbers

all_bottom : (k : Known) (fs : List FieldDecl)
    → AllByRecursion (λ p. p ≡ bottom k.numbers) (map (λ e. e.policy) (map (inferred_entry k) fs))
all_bottom k [] = tt
all_bottom k (f ∷ fs) = (refl, all_bottom k fs)

number_in_front : (p : List Clause) (x : Entry) (es fs : List Entry) → BeginsWith x es
    → AllByRecursion (λ q. q ≡ x.policy) (map (λ e. e.policy) fs)
    → policy_number (map (λ e. e.policy) (es ++ fs)) p ≡ policy_number (map (λ e. e.policy) es) p
number_in_front p x es fs begin same =
    let policies : List Entry → List (List Clause) = λ xs. map (λ e. e.policy) xs in
    ap (λ xs. policy_number (policies (xs ++ fs)) p) begin.1
    ∙ ap (λ ps. policy_number ps p) (map-append (λ e. e.policy) (x ∷ begin.0) fs)
    ∙ ap (λ o. unwrap_or o 0) (found_in_front (same_policy p) x.policy (policies begin.0)
    (policies fs) same)
    ∙ ap (λ xs. policy_number (policies xs) p) (sym begin.1)

-- fields whose policy is inferred take no number from what is written
number_same : (source : Source) (p : List Clause)
    → policy_number (table_of source).policies p ≡ policy_number (shared_policies (known source)
    source) p
number_same source p =
    let k = known source in
    let first : Entry = record { at = 0; policy = bottom k.numbers } in
    let by_places = by_place (map (written_entry k) (said.written source) ++ query_entries source)
    in
    number_in_front p first (distinct (entries k source))
    (map (inferred_entry k) (inferred_fields source))
    (begins first (by_places ++ map (birth_entry k) (declared_classes source)))
    (all_bottom k (inferred_fields source))

abbrev by_known : Known → List (List Clause) → Written
by_known k policies = record {
  lock = lock_number k.numbers;
  policy =
      λ e. policy_number policies (policy_of k e);
}

pub written_is : (k : code.Known) (policies : List (List Clause)) (source : Source)
    → known_seen k ≡ known source
    → policies ≡ (table_of source).policies → written_in k policies ≡ written source
written_is k policies source same of_table =
    ap (λ x. by_known x policies) same ∙ ap (by_known (known source)) of_table
    ∙ ap (λ f. let w : Written = record { lock = lock_number (known source).numbers; policy = f } in
    w)
    (fun_ext (λ e. number_same source (policy_of (known source) e)))
