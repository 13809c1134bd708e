-- The parts of an entry, put into a pool one after the other.
use Rattle.std.proofs.Common.{◌≡◌, ℕ, ◌≤◌, List, Result, sym, ap, subst, ◌∙◌, inl, inr, arith}
use Rattle.std.specs.Prelude.{IsTrue, ◌&&◌, IfOk}
use Rattle.std.proofs.lemmas.Bool.{and_from}
use Rattle.std.proofs.lemmas.Result.{IfOk-weaker}
use Rattle.par_pool.specs.declared.constant.Constant.{Constant}
use Rattle.par_pool.specs.declared.constant.Constant.TheVariants.{Utf8, Class, NameType}
use Rattle.par_pool.specs.Entries.{entry_at, IsAt, IsUtf8At, IsClassAt, IsNameTypeAt, IsMemberAt}
use Rattle.par_pool.specs.Growth.{Adds, IsClassPart, IsNameTypePart, IsNamingPart, IsMemberPart}
use Rattle.par_pool.specs.Spelling.{is_text, is_class, is_member}
use Rattle.par_pool.proofs.Growth.{at_kept, class_kept, name_type_kept, adds_then}

abbrev Is : Constant → Constant → Type 0
Is wanted c = c ≡ wanted

pub class_added : (a m b : List Constant) (text : ℕ) (name : List ℕ) → Adds a m 1 (Is (Utf8 name))
    → IsUtf8At m text name → Adds m b 1 (Is (Class text)) → Adds a b 2 (IsClassPart b name)
class_added a m b text name p is q =
    adds_then a m b 1 1 2 (Is (Utf8 name)) (Is (Class text)) (IsClassPart b name) p q (omega arith)
    (λ x e. inl e) (λ x e. inr (text, e, at_kept m b 1 (Is (Class text)) q text (Utf8 name) is))

pub texts_added : (a m b : List Constant) (few : ℕ) (name descriptor : List ℕ) → 2 ≤ few
    → Adds a m 1 (Is (Utf8 name)) → Adds m b 1 (Is (Utf8 descriptor))
    → Adds a b few (IsNameTypePart b name descriptor)
texts_added a m b few name descriptor le p q =
    adds_then a m b 1 1 few (Is (Utf8 name)) (Is (Utf8 descriptor))
    (IsNameTypePart b name descriptor) p q (omega (arith, le)) (λ x e. inl e) (λ x e. inr (inl e))

-- a part stays one while the pool grows
name-type_part : (m b : List Constant) (few : ℕ) (P : Constant → Type 0) → Adds m b few P
    → (name descriptor : List ℕ) (x : Constant) → IsNameTypePart m name descriptor x
    → IsNameTypePart b name descriptor x
name-type_part m b few P a name descriptor x (inl e) = inl e
name-type_part m b few P a name descriptor x (inr (inl e)) = inr (inl e)
name-type_part m b few P a name descriptor x (inr (inr h)) =
    inr (inr (
      h.0,
      h.1,
      h.2,
      at_kept m b few P a h.0 (Utf8 name) h.3,
      at_kept m b few P a h.1 (Utf8 descriptor) h.4,
    ))

class-part : (m b : List Constant) (few : ℕ) (P : Constant → Type 0) → Adds m b few P
    → (name : List ℕ) (x : Constant) → IsClassPart m name x → IsClassPart b name x
class-part m b few P a name x (inl e) = inl e
class-part m b few P a name x (inr h) = inr (h.0, h.1, at_kept m b few P a h.0 (Utf8 name) h.2)

naming-part : (m b : List Constant) (few : ℕ) (P : Constant → Type 0) → Adds m b few P
    → (class name descriptor : List ℕ) (x : Constant) → IsNamingPart m class name descriptor x
    → IsNamingPart b class name descriptor x
naming-part m b few P a class name descriptor x (inl h) = inl (class-part m b few P a class x h)
naming-part m b few P a class name descriptor x (inr h) =
    inr (name-type_part m b few P a name descriptor x h)

pub name_type_added : (a k m b : List Constant) (first second : ℕ) (name descriptor : List ℕ)
    → Adds a k 1 (Is (Utf8 name)) → IsUtf8At k first name → Adds k m 1 (Is (Utf8 descriptor))
    → IsUtf8At m second descriptor
    → Adds m b 1 (Is (NameType first second)) → Adds a b 3 (IsNameTypePart b name descriptor)
name_type_added a k m b first second name descriptor p is-name q is-descriptor r =
    adds_then a m b 2 1 3 (IsNameTypePart m name descriptor) (Is (NameType first second))
    (IsNameTypePart b name descriptor)
    (texts_added a k m 2 name descriptor (omega arith) p q) r (omega arith)
    (λ x h. name-type_part m b 1 (Is (NameType first second)) r name descriptor x h)
    (λ x e. inr (inr (
      first,
      second,
      e,
      at_kept m b 1 (Is (NameType first second)) r first (Utf8 name)
          (at_kept k m 1 (Is (Utf8 descriptor)) q first (Utf8 name) is-name),
      at_kept m b 1 (Is (NameType first second)) r second (Utf8 descriptor) is-descriptor,
    )))

pub naming_added : (a m b : List Constant) (class name descriptor : List ℕ)
    → Adds a m 2 (IsClassPart m class) → Adds m b 3 (IsNameTypePart b name descriptor)
    → Adds a b 5 (IsNamingPart b class name descriptor)
naming_added a m b class name descriptor p q =
    adds_then a m b 2 3 5 (IsClassPart m class) (IsNameTypePart b name descriptor)
    (IsNamingPart b class name descriptor) p q (omega arith)
    (λ x h. inl (class-part m b 3 (IsNameTypePart b name descriptor) q class x h)) (λ x h. inr h)

pub member_added : (form : ℕ → ℕ → Constant) (a m b : List Constant) (owner member : ℕ)
    (class name descriptor : List ℕ) → Adds a m 5 (IsNamingPart m class name descriptor)
    → IsClassAt m owner class → IsNameTypeAt m member name descriptor
    → Adds m b 1 (Is (form owner member)) → Adds a b 6 (IsMemberPart form b class name descriptor)
member_added form a m b owner member class name descriptor p is-class is-member q =
    adds_then a m b 5 1 6 (IsNamingPart m class name descriptor) (Is (form owner member))
    (IsMemberPart form b class name descriptor) p q (omega arith)
    (λ x h. inl (naming-part m b 1 (Is (form owner member)) q class name descriptor x h))
    (λ x e. inr (
      owner,
      member,
      e,
      class_kept m b 1 (Is (form owner member)) q owner class is-class,
      name_type_kept m b 1 (Is (form owner member)) q member name descriptor is-member,
    ))

-- two texts are there
pub texts_refer : (k m : List Constant) (first second : ℕ) (name descriptor : List ℕ)
    → IsUtf8At k first name → Adds k m 1 (Is (Utf8 descriptor)) → IsUtf8At m second descriptor
    → IsTrue (is_text (entry_at m first) && is_text (entry_at m second))
texts_refer k m first second name descriptor is-name q is-descriptor =
    and_from _ _ (ap is_text (at_kept k m 1 (Is (Utf8 descriptor)) q first (Utf8 name) is-name))
    (ap is_text is-descriptor)

-- the entry of a name and a descriptor names them
pub name_type_named : (k m b : List Constant) (index first second : ℕ) (name descriptor : List ℕ)
    → IsUtf8At k first name → Adds k m 1 (Is (Utf8 descriptor)) → IsUtf8At m second descriptor
    → Adds m b 1 (Is (NameType first second)) → IsAt b index (NameType first second)
    → IsNameTypeAt b index name descriptor
name_type_named k m b index first second name descriptor is-name q is-descriptor r is = record {
  first = first;
  second = second;
  entry = is;
  is_name =
      at_kept m b 1 (Is (NameType first second)) r first (Utf8 name)
      (at_kept k m 1 (Is (Utf8 descriptor)) q first (Utf8 name) is-name);
  is_descriptor =
      at_kept m b 1 (Is (NameType first second)) r second (Utf8 descriptor) is-descriptor;
}

-- the entry of a member names it
pub member_named : (form : ℕ → ℕ → Constant) (m b : List Constant) (index owner member : ℕ)
    (class name descriptor : List ℕ) → IsClassAt m owner class
    → IsNameTypeAt m member name descriptor
    → Adds m b 1 (Is (form owner member)) → IsAt b index (form owner member)
    → IsMemberAt form b index class name descriptor
member_named form m b index owner member class name descriptor is-class is-member q is = record {
  owner = owner;
  member = member;
  entry = is;
  is_class = class_kept m b 1 (Is (form owner member)) q owner class is-class;
  is_member = name_type_kept m b 1 (Is (form owner member)) q member name descriptor is-member;
}

-- a member that is there is found again, since what names it is
pub member_again : {E : Type 0} (form : ℕ → ℕ → Constant) (old m b : List Constant)
    (i owner member : ℕ) (class name descriptor : List ℕ) (r : Result ℕ E)
    (h : IsMemberAt form old i class name descriptor)
    → (owner ≡ h.owner) × (member ≡ h.member) × (m ≡ old)
    → (IsAt m i (form owner member) → IfOk r (λ index. (index ≡ i) × (b ≡ m)))
    → IfOk r (λ index. (index ≡ i) × (b ≡ old))
member_again form old m b i owner member class name descriptor r h same found =
    let there : IsAt m i (form owner member) = rw (same.0, same.1, same.2) h.entry in
    IfOk-weaker r (λ index. (index ≡ i) × (b ≡ m)) (λ index. (index ≡ i) × (b ≡ old))
    (λ index p. (p.0, p.1 ∙ same.2)) (found there)

-- what names a member is found again where it is there
pub naming_again : {k m old : List Constant} (owner member i j : ℕ) (class name descriptor : List ℕ)
    → (IsClassAt old i class → (owner ≡ i) × (k ≡ old))
    → (IsNameTypeAt k j name descriptor → (member ≡ j) × (m ≡ k))
    → IsClassAt old i class → IsNameTypeAt old j name descriptor
    → (owner ≡ i) × (member ≡ j) × (m ≡ old)
naming_again {k = k} {m = m} {old = old} owner member i j class name descriptor first second
    is-class is-member =
    let p = first is-class in
    let q =
    second (subst (λ (pool : List Constant). IsNameTypeAt pool j name descriptor)
    (sym p.1) is-member) in
    (p.0, q.0, q.1 ∙ p.1)
