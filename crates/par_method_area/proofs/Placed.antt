-- Fields by their rows.
use Rattle.std.proofs.Common.{◌≡◌, ℕ, ◌+◌, ◌<◌, ◌^◌, Bool, true, false, if◌then◌else◌, List, length}
use Rattle.std.proofs.Common.{take, Option, Some, None, slice_get, refl, sym, subst, ◌∙◌, codes}
use Rattle.std.proofs.Common.{arith}
use Rattle.std.proofs.lemmas.Bool.{and_parts}
use Rattle.std.proofs.lemmas.Option.{slice_get_within}
use Rattle.par_class.specs.declared.file.ClassFile.{ClassFile}
use Rattle.par_class.specs.declared.file.FieldFile.{FieldFile}
use Rattle.par_values.specs.declared.value.MVal.{MVal}
use Rattle.par_values.specs.declared.kind.Kind.TheVariants as kind
use Rattle.par_values.specs.declared.link.FieldLink.{FieldLink}
use Rattle.par_step_laws.specs.par_link.Linked.{AreLinked}
use Rattle.par_base.specs.Names.{is_name}
use Rattle.par_single.specs.Descriptors.{field_kind}
use Rattle.par_single.specs.Members.{own_name, text_at}
use Rattle.par_step_laws.specs.Classes.{class_names}
use Rattle.par_step_laws.specs.Fields.{class_statics, is_shared, is_own, many_of, kind_of}
use Rattle.par_step_laws.specs.Fields.{field_place}
use Rattle.par_step_laws.specs.Links.{field_in, field_link, lock_link}
use Rattle.par_actions.specs.declared.fields.Field.{Field}
use Rattle.par_actions.specs.declared.fit.Fit.TheVariants as fit
use Rattle.par_method_area.specs.declared.classes.ClassRow.{ClassRow}
use Rattle.par_method_area.specs.Area.{AreTold}
use Rattle.par_method_area.specs.Classes.{IsClassRow}
use Rattle.par_method_area.specs.Fields.{IsFieldRow, row_behind}
use Rattle.par_method_area.specs.Known.{KnowsField, IsNamedField}
use Rattle.par_method_area.proofs.Beside.{found, missing}
use Rattle.par_method_area.proofs.Taking.{takes, takes-own, takes-none}
use Rattle.par_method_area.proofs.Saying.{kind-named, field-said, told-kind}
use Rattle.par_method_area.proofs.Numbered.{name-at, some-name, not-locks, locks-missed}
use Rattle.par_method_area.proofs.Counts.{many-few}
use Rattle.par_step_laws.proofs.par_link.Faultless.{names-apart, field-right, own-name, small}

module _ (files : List ClassFile) (rows : List ClassRow) (exceptions : List Bool)
    (statics : List MVal)
    (told : AreTold files rows exceptions statics) (class : ℕ) (place : ℕ) where
  -- the class has no row
  pub class-missing : slice_get rows class ≡ None
      → KnowsField (class_names files) (field_in files class place (slice_get files class)) None
  class-missing none =
      subst (λ (o : Option ClassFile).
      KnowsField (class_names files) (field_in files class place o) None)
      (sym (missing (IsClassRow (class_names files) files) files rows class told.rows none)) tt

  -- or the field has none
  pub field-missing : (row : ClassRow) → slice_get rows class ≡ Some row
      → slice_get row.fields place ≡ None
      → KnowsField (class_names files) (field_in files class place (slice_get files class)) None
  field-missing row at none =
      let here = found (IsClassRow (class_names files) files) files rows class row told.rows at in
      let gone =
      missing (IsFieldRow (class_names files) (length (class_statics (take class files))) here.item)
      here.item.fields row.fields place here.is.fields none in
      subst (λ (o : Option ClassFile).
      KnowsField (class_names files) (field_in files class place o) None) (sym here.at)
      (subst (λ (o : Option FieldFile). KnowsField (class_names files)
      (field_link files class here.item place o) None) (sym gone) tt)

  module _ (file : ClassFile) (listed : slice_get files class ≡ Some file) (f : FieldFile)
      (held : slice_get file.fields place ≡ Some f) where
    abbrev link_of_field : FieldLink
    link_of_field = record {
      class = own_name file;
      name = text_at file.pool.entries f.name;
      is_static = is_shared f;
      kind = kind_of file.pool.entries f;
      place = field_place files class file place f;
    }

    abbrev row_of_field : Field
    row_of_field =
        row_behind (class_names files) file.pool.entries f
        (length (class_statics (take class files)) + many_of is_shared file place)
        (many_of is_own file place)

    own-small : (b : Bool) (n : ℕ) → b ≡ false → many_of is_own file place < 2 ^ 16
        → (if b then n else many_of is_own file place) < 2 ^ 16
    own-small true n not few = absurd (cc not)
    own-small false n not few = few

    is-named : IsNamedField (class_names files) link_of_field
        (record { field = row_of_field; owner = fit.OfClass class; is_lock = false })
    is-named =
        let within : place < length file.fields = slice_get_within file.fields place f held in
        let few : length file.fields < 2 ^ 16 =
        (small files told.linked class file listed).fields in
        let before = many-few is_own file place in
        record {
          is = record {
            is_static = refl;
            place = refl;
            takes =
                takes (class_names files) (names-apart files told.linked)
                (kind_of file.pool.entries f) (kind-named (text_at file.pool.entries f.descriptor));
          };
          owner =
              takes-own (class_names files) (names-apart files told.linked) class (own_name file)
              (name-at files class file listed)
              (some-name (own_name file) (own-name files told.linked class file listed));
          small =
              λ own. own-small (is_shared f)
              (length (class_statics (take class files)) + many_of is_shared file place) own
              (omega (arith, within, few, before));
          is_lock = sym (not-locks files told.linked class file listed);
          shared = λ locks. absurd (cc (sym locks ∙ not-locks files told.linked class file listed));
          kind =
              told-kind (field_kind (text_at file.pool.entries f.descriptor))
              (field-said (text_at file.pool.entries f.descriptor))
              (and_parts (is_name (text_at file.pool.entries f.name)) _
              (field-right files told.linked class file listed place f held)).1;
        }

  pub field-found : (row : ClassRow) (field : Field) → slice_get rows class ≡ Some row
      → slice_get row.fields place ≡ Some field
      → KnowsField (class_names files) (field_in files class place (slice_get files class))
      (Some (record { field = field; owner = fit.OfClass class; is_lock = false }))
  field-found row field at is =
      let here = found (IsClassRow (class_names files) files) files rows class row told.rows at in
      let one =
      found (IsFieldRow (class_names files) (length (class_statics (take class files))) here.item)
      here.item.fields row.fields place field here.is.fields is in
      subst (λ (o : Option ClassFile).
      KnowsField (class_names files) (field_in files class place o)
      (Some (record { field = field; owner = fit.OfClass class; is_lock = false }))) (sym here.at)
      (subst (λ (o : Option FieldFile).
      KnowsField (class_names files) (field_link files class here.item place o)
      (Some (record { field = field; owner = fit.OfClass class; is_lock = false }))) (sym one.at)
      (subst (λ (x : Field). IsNamedField (class_names files)
      (link_of_field here.item here.at one.item one.at)
      (record { field = x; owner = fit.OfClass class; is_lock = false })) (sym one.is)
      (is-named here.item here.at one.item one.at)))

-- the field of a lock
pub lock-found : (files : List ClassFile) (linked : AreLinked files) (number place : ℕ)
    → place ≡ length (class_statics files) + number
    → KnowsField (class_names files) (lock_link files number)
    (Some (record {
      field = record { is_static = true; fit = fit.Number; place = place };
      owner = fit.Nothing;
      is_lock = true;
    }))
lock-found files linked number place is =
    record {
      is = record {
        is_static = refl;
        place = sym is;
        takes = takes (class_names files) (names-apart files linked) kind.Number tt;
      };
      owner =
          takes-none (class_names files) (names-apart files linked) (codes "paragon/Locks") refl
          (locks-missed files linked);
      small = λ own. absurd (cc own);
      is_lock = refl;
      shared = λ locks. refl;
      kind = tt;
    }
