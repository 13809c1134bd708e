-- What the indices of a constant pool say.
use Rattle.std.proofs.Common.{◌≡◌, ℕ, List, ap, ◌∙◌}
use Rattle.par_pool.specs.declared.constant.Constant.{Constant}
use Rattle.par_pool.specs.Entries.{IsUtf8At, IsClassAt, IsNameTypeAt}
use Rattle.par_compile_laws.specs.par_single.Descriptors.{Text}
use Rattle.par_compile_laws.specs.par_single.Members.{text_of, text_at, class_name_of}
use Rattle.par_compile_laws.specs.par_single.Members.{class_name_at}
use Rattle.par_compile_laws.specs.par_single.Members.{member_of, member_at}

module _ (pool : List Constant) where
  pub text-is : (index : ℕ) (text : Text) → IsUtf8At pool index text → text_at pool index ≡ text
  text-is index text is = ap text_of is

  pub class-is : (index : ℕ) (name : Text) → IsClassAt pool index name
      → class_name_at pool index ≡ name
  class-is index name is =
      ap (class_name_of pool) is.entry ∙ text-is is.text name is.is_name

  pub member-is : (owner member : ℕ) (class name descriptor : Text) → IsClassAt pool owner class
      → IsNameTypeAt pool member name descriptor
      → member_at pool owner member
      ≡ record { class = class; name = name; descriptor = descriptor }
  member-is owner member class name descriptor of is =
      let class_same = class-is owner class of in
      let name_same = text-is is.first name is.is_name in
      let type_same = text-is is.second descriptor is.is_descriptor in
      ap (member_of pool owner) is.entry ∙ (λ i. record {
        class = class_same i;
        name = name_same i;
        descriptor = type_same i;
      })
