-- The names of what is told.
use Rattle.std.proofs.Common.{◌≡◌, ℕ, ◌<◌, ℤ, List, length, Option, Some, None, sym, ap, subst, ◌∙◌}
use Rattle.par_base.specs.Names.{IsName}
use Rattle.par_values.specs.declared.link.FieldLink.{FieldLink}
use Rattle.par_values.specs.declared.link.MethodLink.{MethodLink}
use Rattle.par_values.specs.declared.link.Link.{Link}
use Rattle.par_values.specs.declared.link.Link.TheVariants as link
use Rattle.par_values.specs.declared.run.Event.TheVariants.{Out}
use Rattle.par_values.specs.Areas.{Name, class_named}
use Rattle.par_method_area.specs.par_actions.Done.{out_by}
use Rattle.par_method_area.specs.declared.known.MemberNames.{MemberNames}
use Rattle.par_method_area.specs.Known.{AreNames, KnowsNames, KnowsClass}
use Rattle.par_method_area.specs.par_actions.declared.births.Class.{Class}
use Rattle.par_values.specs.declared.link.ClassLink.{ClassLink}
use Rattle.par_method_area.specs.par_step_laws.Classes.{class_names}
use Rattle.par_class.specs.declared.file.ClassFile.{ClassFile}
use Rattle.par_method_area.specs.par_step_laws.Links.{link_at}
use Rattle.par_machine.specs.Instructions.{index_of}
use Rattle.par_machine.specs.Site.{IsTellable, IsOutput, IsMade, named_by}
use Rattle.par_machine.specs.declared.site.Site.{Site}

-- a field that is no lock's has these names
pub record HasField (l : Link) (names : MemberNames) : Type 0 where
  pub class : IsName names.class.now
  pub name : IsName names.name.now
  pub owned : (f : FieldLink) → l ≡ link.Field f → names.class.now ≡ f.class
  pub named : (f : FieldLink) → l ≡ link.Field f → names.name.now ≡ f.name

-- the names of a field are those that are told
pub field_names : (l : Link) (names : MemberNames) → IsTellable l → KnowsNames l names
    → HasField l names
field_names (link.Number v) names is known = absurd is
field_names (link.Method m) names is known = absurd is
field_names (link.Class c) names is known = absurd is
field_names link.Other names is known = absurd is
field_names (link.Field f) names is known =
    let are : AreNames f.class f.name names = known is in
    record {
      class = subst IsName (sym are.class) are.class_right;
      name = subst IsName (sym are.name) are.name_right;
      owned = λ g same.
          let g_is : g ≡ f = cc in
          are.class ∙ sym (ap (λ (q : FieldLink). q.class) g_is);
      named = λ g same.
          let g_is : g ≡ f = cc in
          are.name ∙ sym (ap (λ (q : FieldLink). q.name) g_is);
    }

-- the same, by the index that is looked up
pub field_at : (files : List ClassFile) (s : Site) (index : ℕ) (names : MemberNames)
    → IsTellable (named_by files s) → index ≡ index_of s.instr
    → KnowsNames (link_at files s.point.class index) names → HasField (named_by files s) names
field_at files s index names is same known =
    field_names (named_by files s) names is (subst
    (λ i. KnowsNames (link_at files s.point.class i) names) same known)

-- an output channel has these names
pub record HasOutput (l : Link) (names : MemberNames) : Type 0 where
  pub class : IsName names.class.now
  pub name : IsName names.name.now
  pub out : (m : MethodLink) (n : ℤ) → l ≡ link.Method m
      → out_by m.target n ≡ Out names.class.now names.name.now n

-- the names of a channel are those that are told
pub output_names : (l : Link) (names : MemberNames) → IsOutput l → KnowsNames l names
    → HasOutput l names
output_names (link.Number v) names is known = absurd is
output_names (link.Field f) names is known = absurd is
output_names (link.Class c) names is known = absurd is
output_names link.Other names is known = absurd is
output_names (link.Method m) names is known =
    let are : AreNames is.0 is.1 names = known is.0 is.1 is.2 in
    record {
      class = subst IsName (sym are.class) are.class_right;
      name = subst IsName (sym are.name) are.name_right;
      out = λ k n same.
          let k_is : k ≡ m = cc in
          ap (λ (q : MethodLink). out_by q.target n) k_is ∙ ap (λ t. out_by t n) is.2
          ∙ ap (λ (c : Name). Out c is.1 n) (sym are.class)
          ∙ ap (λ (c : Name). Out names.class.now c n) (sym are.name);
    }

-- the same, by the index that is looked up
pub output_at : (files : List ClassFile) (s : Site) (index : ℕ) (names : MemberNames)
    → IsOutput (named_by files s) → index ≡ index_of s.instr
    → KnowsNames (link_at files s.point.class index) names → HasOutput (named_by files s) names
output_at files s index names is same known =
    output_names (named_by files s) names is (subst
    (λ i. KnowsNames (link_at files s.point.class i) names) same known)

-- a class of which objects are made has a name
pub record HasMade (classes : List Name) (l : Link) (x : Class) : Type 0 where
  pub numbered : x.number < length classes
  pub named : (c : ClassLink) → l ≡ link.Class c → c.name ≡ class_named classes x.number

-- a class of which objects are made is known with its number
pub made_known : (classes : List Name) (l : Link) (x : Class) → IsMade l
    → KnowsClass classes l (Some x) → HasMade classes l x
made_known classes (link.Number v) x is known = absurd is
made_known classes (link.Field f) x is known = absurd is
made_known classes (link.Method m) x is known = absurd is
made_known classes link.Other x is known = absurd is
made_known classes (link.Class c) x is known = record {
  numbered = subst (λ n. n < length classes) known.is.number (known.numbered is);
  named = λ d same.
      let d_is : d ≡ c = cc in
      ap (λ (q : ClassLink). q.name) d_is ∙ known.named is
      ∙ ap (class_named classes) known.is.number;
}

-- and is known
pub made_unknown : (classes : List Name) (l : Link) → IsMade l → KnowsClass classes l None → ⊥
made_unknown classes (link.Number v) is known = is
made_unknown classes (link.Field f) is known = is
made_unknown classes (link.Method m) is known = is
made_unknown classes link.Other is known = is
made_unknown classes (link.Class c) is known = known

-- a class that is looked up is the one that is named
pub class_at : (files : List ClassFile) (s : Site) (index : ℕ) (x : Option Class)
    → index ≡ index_of s.instr
    → KnowsClass (class_names files) (link_at files s.point.class index) x
    → KnowsClass (class_names files) (named_by files s) x
class_at files s index x same known = subst (λ i. KnowsClass (class_names files)
    (link_at files s.point.class i) x) same known
