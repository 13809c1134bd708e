-- What a table without policies keeps of its source.
use Rattle.std.proofs.Common.{◌≡◌, ℕ, suc, ◌<◌, Bool, true, false, cond, ◌⊎◌, inl, inr, List, []}
use Rattle.std.proofs.Common.{◌∷◌, ◌++◌, map, take, length, Option, Some, None, slice_get}
use Rattle.std.proofs.Common.{codes, refl, sym, ap, subst, ◌∙◌}
use Rattle.std.proofs.lemmas.Option.{slice_get_within}
use Rattle.std.specs.List.{AllByRecursion, IsDistinct}
use Rattle.std.specs.Str.{bytes_eq}
use Rattle.par_base.specs.Names.{IsName}
use Rattle.par_typed.specs.declared.ty.Ty.{Ty}
use Rattle.par_typed.specs.declared.ty.Ty.TheVariants as ty
use Rattle.par_typed.specs.declared.table.ChannelInfo.{ChannelInfo}
use Rattle.par_typed.specs.declared.table.ClassInfo.{ClassInfo}
use Rattle.par_typed.specs.declared.table.FieldInfo.{FieldInfo}
use Rattle.par_typed.specs.declared.table.MethodInfo.{MethodInfo}
use Rattle.par_typed.specs.declared.table.ParamInfo.{ParamInfo}
use Rattle.par_typed.specs.declared.table.Table.{Table}
use Rattle.par_typed.specs.Members.{methods_in}
use Rattle.par_program_laws.specs.Makes.{IsOrdinary}
use Rattle.par_program_laws.specs.TableNames.{HasOwnNames, AreNamesApart}
use Rattle.par_source_code_laws.specs.par_typed_laws.Beginning.{mains, IsMainOf}
use Rattle.par_source_code_laws.specs.par_typed_laws.Beginning as beginning
use Rattle.par_source_code_laws.specs.par_typed_laws.Signatures.{kind_of, HasBuiltIns, HasNoMembers}
use Rattle.par_source_code_laws.specs.par_typed_laws.Signatures.{IsResultType}
use Rattle.par_source_code_laws.specs.par_typed_laws.Signatures.{FieldHasType, ParamHasType}
use Rattle.par_source_code_laws.specs.par_typed_laws.Signatures.{HasSignature}
use Rattle.par_source_code_laws.specs.par_typed_laws.Signatures.{HasSignatures, AreSigned}
use Rattle.par_source_code_laws.specs.par_typed_laws.Signatures as signed
use Rattle.par_source_code_laws.specs.par_typed_laws.Tables.{IsInRange}
use Rattle.par_erase.specs.Named.{IsNamed, AreNamed}
use Rattle.par_erase.specs.Erased.{erased_table, erased_class, erased_field, erased_method}
use Rattle.par_erase.specs.Erased.{erased_param, erased_channels}
use Rattle.par_compile_laws.specs.Files.{FIRST_DECLARED}
use Rattle.par_source_code_laws.proofs.Members.{method_erased}
use Rattle.par_link.proofs.Passing.{same_text}
use Rattle.par_link_laws.specs.Linkable.{FieldLinks, MethodLinks, ClassLinks, BuiltInsLink}
use Rattle.par_link_laws.specs.Linkable.{HasMain, IsValueType}
use Rattle.par_link_laws.proofs.Zips.{made-again}
use Rattle.par_link_laws.proofs.Bodies.{class-in}
use Rattle.par_link_laws.proofs.Channels.{channels-apart}

-- ---- the first two classes

record Bare (c : ClassInfo) : Type 0 where
  fields : (erased_class c).fields ≡ []
  channels : (erased_class c).channels ≡ []
  methods : (erased_class c).methods ≡ []

bare : (t : Table) (c : ClassInfo) → HasSignatures t c → c.exception ≡ true → Bare c
bare t c h exception =
    let none : HasNoMembers c = h.bare exception in
    record {
      fields = ap (map erased_field) none.fields;
      channels = ap erased_channels none.channels;
      methods = ap (map erased_method) none.methods;
    }

record BuiltIns (cs : List ClassInfo) : Type 0 where
  names : map (λ (c : ClassInfo). c.name) (take FIRST_DECLARED (map erased_class cs))
      ≡ codes "ArithmeticException" ∷ codes "NullPointerException" ∷ []
  fields : AllByRecursion (λ (c : ClassInfo). c.fields ≡ [])
      (take FIRST_DECLARED (map erased_class cs))
  channels : AllByRecursion (λ (c : ClassInfo). c.channels ≡ [])
      (take FIRST_DECLARED (map erased_class cs))
  methods : AllByRecursion (λ (c : ClassInfo). c.methods ≡ [])
      (take FIRST_DECLARED (map erased_class cs))

built : (t : Table) (cs : List ClassInfo) → AllByRecursion (HasSignatures t) cs
    → map kind_of (take FIRST_DECLARED cs)
    ≡ (codes "ArithmeticException", true) ∷ (codes "NullPointerException", true) ∷ []
    → BuiltIns cs
built t [] h e = absurd (cc e)
built t (a ∷ []) h e = absurd (cc e)
built t (a ∷ b ∷ rest) h e =
    let first : kind_of a ≡ (codes "ArithmeticException", true) = cc e in
    let second : kind_of b ≡ (codes "NullPointerException", true) = cc e in
    let one : Bare a = bare t a h.0 (ap (λ p. p.1) first) in
    let other : Bare b = bare t b h.1.0 (ap (λ p. p.1) second) in
    record {
      names = λ i. (first i).0 ∷ (second i).0 ∷ [];
      fields = (one.fields, (other.fields, tt));
      channels = (one.channels, (other.channels, tt));
      methods = (one.methods, (other.methods, tt));
    }

module _ (t : Table) where
  abbrev plain : Table
  plain = erased_table t

  pub built-ins : HasBuiltIns t → AreSigned t → BuiltInsLink plain
  built-ins has signed_so =
      let b : BuiltIns t.classes = built t t.classes signed_so has in
      record {
        names = b.names;
        no_fields = b.fields;
        no_channels = b.channels;
        no_methods = b.methods;
      }

  -- ---- types and names

  module _ (r : IsInRange t) where
    ordinary-in : (n : ℕ) (o : Option ClassInfo) → slice_get t.classes n ≡ o → IsOrdinary o
        → n < length t.classes
    ordinary-in n None at h = absurd h
    ordinary-in n (Some k) at h = slice_get_within t.classes n k at

    value-in : (u : Ty) → signed.IsValueType t u → IsValueType plain u
    value-in ty.Int h = tt
    value-in ty.Boolean h = tt
    value-in (ty.Class n) h =
        class-in t (λ lock. false) r n (ordinary-in n (slice_get t.classes n) refl h)
    value-in ty.Null h = absurd h
    value-in ty.Void h = absurd h

    result-in : (u : Ty) → IsResultType t u → IsValueType plain u ⊎ (u ≡ ty.Void)
    result-in ty.Int h = inl tt
    result-in ty.Boolean h = inl tt
    result-in (ty.Class n) h =
        inl (class-in t (λ lock. false) r n (ordinary-in n (slice_get t.classes n) refl h))
    result-in ty.Null h = absurd h
    result-in ty.Void h = inr refl

    fields-link : (fs : List FieldInfo)
        → AllByRecursion (λ (f : FieldInfo). IsName f.name) (map erased_field fs)
        → AllByRecursion (FieldHasType t) fs
        → AllByRecursion (FieldLinks plain) (map erased_field fs)
    fields-link [] named types = tt
    fields-link (f ∷ fs) named types = (
      record { named = named.0; of_type = value-in f.ty types.0 },
      fields-link fs named.1 types.1,
    )

    params-in : (ps : List ParamInfo) → AllByRecursion (ParamHasType t) ps
        → AllByRecursion (λ (p : ParamInfo). IsValueType plain p.ty) (map erased_param ps)
    params-in [] types = tt
    params-in (p ∷ ps) types = (value-in p.ty types.0, params-in ps types.1)

    methods-link : (ms : List MethodInfo)
        → AllByRecursion (λ (m : MethodInfo). IsName m.name) (map erased_method ms)
        → AllByRecursion (HasSignature t) ms
        → AllByRecursion (MethodLinks plain) (map erased_method ms)
    methods-link [] named types = tt
    methods-link (m ∷ ms) named types = (
      record {
        named = named.0;
        params = params-in m.params types.0.params;
        result = result-in m.result types.0.result;
      },
      methods-link ms named.1 types.1,
    )

    all-link : (cs : List ClassInfo) → AllByRecursion IsNamed (map erased_class cs)
        → AllByRecursion (HasSignatures t) cs
        → AllByRecursion (ClassLinks plain) (map erased_class cs)
    all-link [] named types = tt
    all-link (c ∷ cs) named types = (
      record {
        named = named.0.name;
        fields = fields-link c.fields named.0.fields types.0.fields;
        channels = named.0.channels;
        methods = methods-link c.methods named.0.methods types.0.methods;
      },
      all-link cs named.1 types.1,
    )

    pub classes-link : AreNamed plain → AreSigned t
        → AllByRecursion (ClassLinks plain) plain.classes
    classes-link named types = all-link t.classes named.classes types

  -- ---- names that differ

  own-apart : (c : ClassInfo) → HasOwnNames c → HasOwnNames (erased_class c)
  own-apart c h = record {
    fields =
        subst (IsDistinct bytes_eq)
        (sym (made-again erased_field (λ (f : FieldInfo). f.name) c.fields)) h.fields;
    callees =
        subst (λ ns. IsDistinct bytes_eq
        (map (λ (k : ChannelInfo). k.name) (erased_channels c.channels) ++ ns))
        (sym (made-again erased_method (λ (m : MethodInfo). m.name) c.methods))
        (channels-apart c.channels (map (λ (m : MethodInfo). m.name) c.methods) h.callees);
  }

  all-own : (cs : List ClassInfo) → AllByRecursion HasOwnNames cs
      → AllByRecursion HasOwnNames (map erased_class cs)
  all-own [] h = tt
  all-own (c ∷ cs) h = (own-apart c h.0, all-own cs h.1)

  pub names-apart : AreNamesApart t → AreNamesApart plain
  names-apart h = record {
    classes =
        subst (IsDistinct bytes_eq)
        (sym (made-again erased_class (λ (c : ClassInfo). c.name) t.classes)) h.classes;
    members = all-own t.classes h.members;
  }

  -- ---- `main`

  record IsAmong (ms : List MethodInfo) (m : MethodInfo) : Type 0 where
    place : ℕ
    stands : slice_get ms place ≡ Some m
    named : bytes_eq m.name (codes "main") ≡ true

  among : (ms : List MethodInfo) (m : MethodInfo) → mains ms ≡ m ∷ [] → IsAmong ms m
  among [] m e = absurd (cc e)
  among (x ∷ ms) m e = by (bytes_eq x.name (codes "main")) refl e (among ms m) where
    by : (b : Bool) → bytes_eq x.name (codes "main") ≡ b
        → cond b (x ∷ mains ms) (mains ms) ≡ m ∷ [] → (mains ms ≡ m ∷ [] → IsAmong ms m)
        → IsAmong (x ∷ ms) m
    by true is e later =
        let same : x ≡ m = cc e in
        record {
          place = 0;
          stands = ap Some same;
          named = ap (λ (y : MethodInfo). bytes_eq y.name (codes "main")) (sym same) ∙ is;
        }
    by false is e later =
        let a = later e in
        record { place = suc a.place; stands = a.stands; named = a.named }

  pub has-main : beginning.HasMain t → HasMain plain
  has-main h =
      let m : MethodInfo = h.0 in
      let is : IsMainOf t m = h.1 in
      let a : IsAmong (methods_in (slice_get t.classes t.main)) m =
      among (methods_in (slice_get t.classes t.main)) m is.in_class in
      record {
        number = a.place;
        info = erased_method m;
        there = method_erased t t.main a.place m a.stands;
        named = same_text m.name (codes "main") a.named;
        is_static = is.is_static;
        params = ap (map erased_param) is.params;
        result = is.result;
      }
