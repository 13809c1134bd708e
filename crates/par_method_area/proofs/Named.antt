-- The names of members, where something is handed out.
use Rattle.std.proofs.Common.{◌≡◌, ℕ, Bool, true, false, ◌||◌, if◌then◌else◌, not, List, [], ◌∷◌}
use Rattle.std.proofs.Common.{Option, Some, None, slice_get, refl, sym, subst}
use Rattle.std.proofs.lemmas.Bool.{and_parts, leb-true}
use Rattle.par_base.specs.Names.{IsName, is_name, is_spelled}
use Rattle.par_class.specs.declared.file.ClassFile.{ClassFile}
use Rattle.par_class.specs.declared.file.FieldFile.{FieldFile}
use Rattle.par_class.specs.declared.file.MethodFile.{MethodFile}
use Rattle.par_class.specs.Spelling.{is_native}
use Rattle.par_values.specs.declared.kind.Kind.{Kind}
use Rattle.par_values.specs.declared.link.Target.TheVariants as target
use Rattle.par_values.specs.Areas.{Name}
use Rattle.par_step_laws.specs.par_link.Linked.{AreLinked}
use Rattle.par_single.specs.Members.{own_name, text_at}
use Rattle.par_single.specs.Described.{is_channel_right}
use Rattle.par_single.specs.Links.{locals_of}
use Rattle.par_step_laws.specs.Links.{field_in, field_link, method_in, method_link, channel_of}
use Rattle.par_method_area.specs.declared.known.MemberNames.{MemberNames}
use Rattle.par_method_area.specs.Known.{KnowsNames, AreNames}
use Rattle.par_method_area.specs.Methods.{signature_of}
use Rattle.par_step_laws.proofs.par_link.Faultless.{field-right, method-right, own-name}

pub is-name : (name : Name) → is_name name ≡ true → IsName name
is-name name is =
    let both = and_parts (is_spelled name) _ is in
    record { spelled = both.0; short = leb-true _ 64 both.1 }

module _ (files : List ClassFile) (class place : ℕ) where
  module _ (file : ClassFile) (listed : Some file ≡ slice_get files class) where
    pub field-gone : (names : MemberNames) → None ≡ slice_get file.fields place
        → KnowsNames (field_in files class place (slice_get files class)) names
    field-gone names none =
        subst (λ (o : Option ClassFile). KnowsNames (field_in files class place o) names) listed
        (subst (λ (o : Option FieldFile). KnowsNames (field_link files class file place o) names)
        none tt)

    pub method-gone : (names : MemberNames) → None ≡ slice_get file.methods place
        → KnowsNames (method_in class place (slice_get files class)) names
    method-gone names none =
        subst (λ (o : Option ClassFile). KnowsNames (method_in class place o) names) listed
        (subst (λ (o : Option MethodFile). KnowsNames (method_link class file place o) names) none
        tt)

    module _ (linked : AreLinked files) (names : MemberNames)
        (class_is : names.class.now ≡ own_name file) where
      pub field-named : (f : FieldFile) → Some f ≡ slice_get file.fields place
          → names.name.now ≡ text_at file.pool.entries f.name
          → KnowsNames (field_in files class place (slice_get files class)) names
      field-named f held name_is =
          subst (λ (o : Option ClassFile). KnowsNames (field_in files class place o) names) listed
          (subst (λ (o : Option FieldFile). KnowsNames (field_link files class file place o) names)
          held
          (λ none. record {
            class = class_is;
            name = name_is;
            class_right = own-name files linked class file (sym listed);
            name_right = is-name (text_at file.pool.entries f.name)
                (and_parts (is_name (text_at file.pool.entries f.name)) _
                (field-right files linked class file (sym listed) place f (sym held))).0;
          }))

      module _ (m : MethodFile) (held : Some m ≡ slice_get file.methods place)
          (name_is : names.name.now ≡ text_at file.pool.entries m.name) where
        channel-name : is_native m.access ≡ true → IsName (text_at file.pool.entries m.name)
        channel-name native =
            let right =
            (and_parts _ _ (method-right files linked class file (sym listed) place m
            (sym held))).1 in
            let channel : is_channel_right file.pool.entries m ≡ true =
            either (is_native m.access) (is_channel_right file.pool.entries m) native right in
            is-name (text_at file.pool.entries m.name)
            (and_parts (is_name (text_at file.pool.entries m.name)) _ (and_parts _ _ channel).0).0
          where
            either : (a b : Bool) → a ≡ true → (not a || b) ≡ true → b ≡ true
            either true b a is = is
            either false b a is = absurd (cc a)

        are-names : is_native m.access ≡ true
            → AreNames (own_name file) (text_at file.pool.entries m.name) names
        are-names native =
            record {
              class = class_is;
              name = name_is;
              class_right =
                  own-name files linked class file (sym listed);
              name_right = channel-name native;
            }

        output : (b : Bool) → is_native m.access ≡ b → (kinds : List Kind) (c n : Name)
            → (if b then channel_of (own_name file) (text_at file.pool.entries m.name) kinds
            else target.Code class place (locals_of m.code)) ≡ target.Output c n
            → AreNames c n names
        output false native kinds c n is = absurd (cc is)
        output true native [] c n is = absurd (cc is)
        output true native (kind ∷ kinds) c n is =
            let one : own_name file ≡ c = cc is in
            let two : text_at file.pool.entries m.name ≡ n = cc is in
            subst (λ (x : Name). AreNames x n names) one
            (subst (λ (x : Name). AreNames (own_name file) x names) two (are-names native))

        pub method-named : KnowsNames (method_in class place (slice_get files class)) names
        method-named =
            subst (λ (o : Option ClassFile). KnowsNames (method_in class place o) names) listed
            (subst (λ (o : Option MethodFile). KnowsNames (method_link class file place o) names)
            held
            (λ c n is. output (is_native m.access) refl (signature_of file m).takes c n is))
