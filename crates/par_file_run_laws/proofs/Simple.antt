-- Names of classes and members in a program that links: they are names, so none has a `/`.
use Rattle.std.proofs.Common.{◌≡◌, ℕ, Bool, true, false, ◌||◌, List, [], ◌∷◌, Option, Some, None}
use Rattle.std.proofs.Common.{slice_get, refl, sym, ap, ◌∙◌}
use Rattle.std.specs.Prelude.{◌==◌}
use Rattle.std.specs.List.{AllByRecursion, list_all}
use Rattle.std.proofs.lemmas.Bool.{and_parts, or_from, eqb-true}
use Rattle.par_base.specs.Names.{IsName, goes_on, is_letter, is_digit}
use Rattle.par_typed.specs.declared.table.ClassInfo.{ClassInfo}
use Rattle.par_typed.specs.declared.table.Table.{Table}
use Rattle.par_typed.specs.Plain.{Body}
use Rattle.par_erase.specs.Named.{IsNamed, AreNamed}
use Rattle.par_code_form.specs.Named.{of_class, class_word}
use Rattle.par_link_laws.specs.Linkable.{IsLinkable, ClassLinks, FieldLinks}
use Rattle.par_link_laws.specs.Linkable.{MethodLinks}
use Rattle.par_link_laws.specs.Linkable.{IsClassWord}
use Rattle.par_placed_run_laws.specs.Made.{has_slash}
use Rattle.par_file_run_laws.proofs.Lists.{each-item}

pub each : {X : Type 0} (P Q : X → Type 0) → ((x : X) → P x → Q x) → (xs : List X)
    → AllByRecursion P xs → AllByRecursion Q xs
each P Q weaker [] all = tt
each P Q weaker (x ∷ xs) all = (weaker x all.0, each P Q weaker xs all.1)

-- ---- names

class_named : (table : Table) (c : ClassInfo) → ClassLinks table c → IsNamed c
class_named table c links = record {
  name = links.named;
  fields = each (FieldLinks table) (λ f. IsName f.name) (λ f is. is.named) c.fields links.fields;
  channels = links.channels;
  methods =
      each (MethodLinks table) (λ m. IsName m.name) (λ m is. is.named) c.methods links.methods;
}

pub all_named : (table : Table) (bodies : List Body) → IsLinkable table bodies → AreNamed table
all_named table bodies linkable =
    record {
      classes = each (ClassLinks table) IsNamed (class_named table) table.classes
          linkable.classes;
    }

-- ---- without `/`

no_slash : (byte : ℕ) (b : Bool) → (byte == 47) ≡ b → goes_on byte ≡ true → b ≡ false
no_slash byte false is goes = refl
no_slash byte true is goes =
    let slash : goes_on 47 ≡ false = refl in
    absurd (cc (sym goes ∙ ap goes_on (eqb-true byte 47 is) ∙ slash))

rest_simple : (bytes : List ℕ) → list_all goes_on bytes ≡ true → has_slash bytes ≡ false
rest_simple [] all = refl
rest_simple (byte ∷ bytes) all =
    let both = and_parts (goes_on byte) (list_all goes_on bytes) all in
    or_from (byte == 47) (has_slash bytes) (no_slash byte (byte == 47) refl both.0)
    (rest_simple bytes both.1)

name_simple : (name : List ℕ) → IsName name → has_slash name ≡ false
name_simple [] is = refl
name_simple (byte ∷ bytes) is =
    let both = and_parts (is_letter byte) (list_all goes_on bytes) is.spelled in
    or_from (byte == 47) (has_slash bytes)
    (no_slash byte (byte == 47) refl (ap (λ (b : Bool). b || is_digit byte) both.0))
    (rest_simple bytes both.1)

module _ (table : Table) (bodies : List Body) (linkable : IsLinkable table bodies) where
  word_simple : (c : ℕ) → has_slash (class_word table c) ≡ false
  word_simple c = in_case (slice_get table.classes c) refl where
    in_case : (o : Option ClassInfo) → slice_get table.classes c ≡ o
        → has_slash (of_class o (λ class. class.name)) ≡ false
    in_case None none = refl
    in_case (Some class) there =
        name_simple class.name
        (each-item (ClassLinks table) table.classes linkable.classes c class there).named

  -- so the name of a class that code names has none
  pub said_simple : (name : List ℕ) → IsClassWord table name → has_slash name ≡ false
  said_simple name word = ap has_slash word.is ∙ word_simple word.number
