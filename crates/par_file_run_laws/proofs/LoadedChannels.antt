-- The channels of loaded classes.
use Rattle.std.proofs.Common.{◌≡◌, ℕ, suc, Bool, true, false, cond, ◌&&◌, List, [], ◌∷◌}
use Rattle.std.proofs.Common.{Option, slice_get, refl, sym, ap, ◌∙◌, codes}
use Rattle.std.specs.Str.{bytes_eq}
use Rattle.std.proofs.lemmas.Bool.{and_right}
use Rattle.par_typed.specs.declared.table.ChannelInfo.{ChannelInfo}
use Rattle.par_typed.specs.declared.table.ClassInfo.{ClassInfo}
use Rattle.par_typed.specs.declared.table.Table.{Table}
use Rattle.par_typed.specs.Plain.{Body}
use Rattle.par_class.specs.declared.file.ClassFile.{ClassFile}
use Rattle.par_values.specs.declared.kind.Kind.{Kind}
use Rattle.par_values.specs.declared.kind.Kind.TheVariants.{Number, Object}
use Rattle.par_values.specs.declared.link.Link.{Link}
use Rattle.par_values.specs.declared.link.Link.TheVariants as link
use Rattle.par_values.specs.declared.link.Target.{Target}
use Rattle.par_values.specs.declared.link.Target.TheVariants as to
use Rattle.par_values.specs.Areas.{Name}
use Rattle.par_single.specs.Descriptors.{kind_at, kinds_in}
use Rattle.par_match_laws.specs.par_link.Named.{method_declared}
use Rattle.par_match_laws.specs.Files.{is_of_exceptions}
use Rattle.par_code_form.specs.Named.{of_class, of_channel, class_word, words_of}
use Rattle.par_match_laws.specs.Naming.{member, method_of_name}
use Rattle.par_compile_laws.specs.Members.{CHANNEL_ACCESS, channel}
use Rattle.par_file_run_laws.specs.Parts.{Known}
use Rattle.par_file_run_laws.proofs.Known.{Stands}
use Rattle.par_file_run_laws.proofs.Callees.{callee, method-linked, takes-any, channel-at}
use Rattle.par_file_run_laws.proofs.Held.{ChannelIn}

abbrev of_channel_type : Bool → Name
of_channel_type is_input = cond is_input (codes "()I") (codes "(I)V")

abbrev native : Name → List Kind → Bool → Bool → Target → Link
native class takes gives initializer target =
    link.Method (record {
      is_static = true;
      is_initializer = initializer;
      receiver = Object class;
      takes = takes;
      gives = gives;
      target = target;
    })

input-computed : (n place : ℕ) (class name : Name)
    → callee n place class name (codes "()I") CHANNEL_ACCESS 0
    ≡ native class [] true (bytes_eq name (codes "<init>") && false) (to.Input class name)
unfolding kind_at kinds_in
input-computed n place class name = refl

output-computed : (n place : ℕ) (class name : Name)
    → callee n place class name (codes "(I)V") CHANNEL_ACCESS 0
    ≡ native class (Number ∷ []) false (bytes_eq name (codes "<init>") && false)
    (to.Output class name)
unfolding kind_at kinds_in
output-computed n place class name = refl

module _ (table : Table) (bodies : List Body) (files : List ClassFile)
    (known : Known table bodies files) (c n : ℕ) (s : Stands table bodies files c n)
    (k : ℕ) (takes : Bool) (is : ChannelIn s.class k takes) where
  pub name-word : (words_of table).channel c k ≡ is.info.name
  name-word =
      ap (λ (o : Option ClassInfo). of_class o (λ class. of_channel (slice_get class.channels k)
      (λ h. h.name))) s.there
      ∙ ap (λ (o : Option ChannelInfo). of_channel o (λ h. h.name)) is.has

  -- any object will do
  pub channel-plain : is_of_exceptions (method_declared files (member (class_word table c)
      ((words_of table).channel c k) (of_channel_type takes))) ≡ false
  channel-plain =
      ap (λ (name : Name). is_of_exceptions (method_declared files (member (class_word table c) name
      (of_channel_type takes)))) name-word
      ∙ ap (λ (b : Bool). is_of_exceptions (method_declared files (member (class_word table c)
      is.info.name (of_channel_type b)))) (sym is.kind)
      ∙ takes-any table bodies files known c n s (suc k) (channel is.info)
      (channel-at table bodies c s.class k is.info is.has)

  channel-linked : method_of_name files (class_word table c) ((words_of table).channel c k)
      (of_channel_type takes)
      ≡ callee n (suc k) (class_word table c) ((words_of table).channel c k) (of_channel_type takes)
      CHANNEL_ACCESS 0
  channel-linked =
      ap (λ (name : Name). method_of_name files (class_word table c) name (of_channel_type takes))
      name-word
      ∙ ap (λ (b : Bool). method_of_name files (class_word table c) is.info.name
      (of_channel_type b)) (sym is.kind)
      ∙ method-linked table bodies files known c n s (suc k) (channel is.info)
      (channel-at table bodies c s.class k is.info is.has)
      ∙ ap (λ (b : Bool). callee n (suc k) (class_word table c) is.info.name (of_channel_type b)
      CHANNEL_ACCESS 0) is.kind
      ∙ ap (λ (name : Name). callee n (suc k) (class_word table c) name (of_channel_type takes)
      CHANNEL_ACCESS 0) (sym name-word)

module _ (table : Table) (bodies : List Body) (files : List ClassFile)
    (known : Known table bodies files) (c n : ℕ) (s : Stands table bodies files c n) (k : ℕ) where
  pub input-linked : ChannelIn s.class k true
      → method_of_name files (class_word table c) ((words_of table).channel c k) (codes "()I")
      ≡ native (class_word table c) [] true false (to.Input (class_word table c)
      ((words_of table).channel c k))
  input-linked is =
      let name = (words_of table).channel c k in
      channel-linked table bodies files known c n s k true is
      ∙ input-computed n (suc k) (class_word table c) name
      ∙ ap (λ (b : Bool). native (class_word table c) [] true b
      (to.Input (class_word table c) name))
      (and_right (bytes_eq name (codes "<init>")) false refl)

  pub output-linked : ChannelIn s.class k false
      → method_of_name files (class_word table c) ((words_of table).channel c k) (codes "(I)V")
      ≡ native (class_word table c) (Number ∷ []) false false (to.Output (class_word table c)
      ((words_of table).channel c k))
  output-linked is =
      let name = (words_of table).channel c k in
      channel-linked table bodies files known c n s k false is
      ∙ output-computed n (suc k) (class_word table c) name
      ∙ ap (λ (b : Bool). native (class_word table c) (Number ∷ []) false b
      (to.Output (class_word table c) name))
      (and_right (bytes_eq name (codes "<init>")) false refl)
