-- The loaded files of a program have no input channel that the program lacks.
use Rattle.std.proofs.Common.{◌≡◌, ℕ, zero, suc, Bool, true, false, cond, ◌&&◌, ◌||◌, List, []}
use Rattle.std.proofs.Common.{◌∷◌, ◌++◌, map, Some, slice_get, refl, sym, ap, subst, ◌∙◌, codes}
use Rattle.std.specs.List.{AllByRecursion, AllZip, filter, flat_map, list_any}
use Rattle.std.specs.Str.{bytes_eq}
use Rattle.std.proofs.lemmas.Bool.{and_parts, and_from, or_left, or_right}
use Rattle.std.proofs.lemmas.List.Folds.{list_any-append}
use Rattle.par_typed.specs.declared.table.ChannelInfo.{ChannelInfo}
use Rattle.par_typed.specs.declared.table.ClassInfo.{ClassInfo}
use Rattle.par_typed.specs.declared.table.MethodInfo.{MethodInfo}
use Rattle.par_typed.specs.declared.table.Table.{Table}
use Rattle.par_typed.specs.Plain.{Body}
use Rattle.par_class.specs.declared.file.ClassFile.{ClassFile}
use Rattle.par_class.specs.declared.file.MethodFile.{MethodFile}
use Rattle.par_class.specs.Spelling.{is_native}
use Rattle.par_pool.specs.declared.constant.Constant.{Constant}
use Rattle.par_secrecy.specs.Subject.{Name, InputChannel}
use Rattle.par_code_laws.specs.par_alike.Subject.{input_of, inputs_in, input_channels}
use Rattle.par_single.specs.Members.{text_at, own_name, is_static}
use Rattle.par_code_laws.specs.par_link.Inputs.{is_input_of, has_input_in, has_input}
use Rattle.par_erase.specs.Shown.{channel_info}
use Rattle.par_erase.specs.Erased.{erased_table, erased_class, erased_channels, inputs_among}
use Rattle.par_erase.specs.Erased.{outputs_among}
use Rattle.par_compile_laws.specs.Files.{IsMethodOf}
use Rattle.par_compile_laws.specs.Members.{Member, member_access, channel}
use Rattle.par_compile_laws.specs.Members.{methods_from, members}
use Rattle.par_file_run_laws.specs.Parts.{IsOf, Known}
use Rattle.par_file_run_laws.proofs.Lists.{mapped-from}
use Rattle.par_file_run_laws.proofs.Texts.{same-text, text-itself, text-said}
use Rattle.par_file_run_laws.proofs.Known.{own-is}
use Rattle.par_file_run_laws.proofs.Simple.{each}

-- ---- lists

record Passing {X : Type 0} (p : X → Bool) (xs : List X) : Type 0 where
  place : ℕ
  item : X
  stands : slice_get xs place ≡ Some item
  passes : p item ≡ true

-- where an item passes, there is one that does
passing : {X : Type 0} (p : X → Bool) (xs : List X) → list_any p xs ≡ true → Passing p xs
passing p [] any = absurd (cc any)
passing p (x ∷ xs) any = in_case (passing p xs) (p x) refl where
  in_case : (list_any p xs ≡ true → Passing p xs) → (b : Bool) → p x ≡ b → Passing p (x ∷ xs)
  in_case rest true is = record { place = 0; item = x; stands = refl; passes = is }
  in_case rest false is =
      let later = rest (ap (λ (b : Bool). b || list_any p xs) (sym is) ∙ any) in
      record {
        place = suc later.place;
        item = later.item;
        stands = later.stands;
        passes = later.passes;
      }

record Paired {A B : Type 0} (P : A → Type 0) (R : A → B → Type 0) (p : B → Bool) : Type 0 where
  one : A
  known : P one
  other : B
  related : R one other
  passes : p other ≡ true

-- and it stands beside one of the other list
paired : {A B : Type 0} (P : A → Type 0) (R : A → B → Type 0) (p : B → Bool) (xs : List A)
    (ys : List B) → AllByRecursion P xs → AllZip R xs ys → list_any p ys ≡ true → Paired P R p
paired P R p [] [] known beside any = absurd (cc any)
paired P R p [] (y ∷ ys) known beside any = absurd beside
paired P R p (x ∷ xs) [] known beside any = absurd beside
paired P R p (x ∷ xs) (y ∷ ys) known beside any =
    in_case (paired P R p xs ys known.1 beside.1) (p y) refl
  where
    in_case : (list_any p ys ≡ true → Paired P R p) → (b : Bool) → p y ≡ b → Paired P R p
    in_case rest true is =
        record { one = x; known = known.0; other = y; related = beside.0; passes = is }
    in_case rest false is = rest (ap (λ (b : Bool). b || list_any p ys) (sym is) ∙ any)

any_in_all : {X Y : Type 0} (p : Y → Bool) (f : X → List Y) (xs : List X) (n : ℕ) (x : X)
    → slice_get xs n ≡ Some x → list_any p (f x) ≡ true → list_any p (flat_map f xs) ≡ true
any_in_all p f [] n x at any = absurd (cc at)
any_in_all p f (y ∷ xs) zero x at any =
    let same : y ≡ x = cc at in
    list_any-append p (f y) (flat_map f xs)
    ∙ or_left (list_any p (f y)) _ (ap (λ z. list_any p (f z)) same ∙ any)
any_in_all p f (y ∷ xs) (suc n) x at any =
    list_any-append p (f y) (flat_map f xs)
    ∙ or_right (list_any p (f y)) _ (any_in_all p f xs n x at any)

-- ---- the inputs of a class

module _ (t : Table) (class : Name) where
  -- the test whether an input channel is this one of the class
  abbrev is_named : Name → InputChannel → Bool
  is_named name k = bytes_eq k.class class && bytes_eq k.name name

  abbrev inputs_of : List ChannelInfo → List ChannelInfo
  inputs_of cs = filter (λ c. c.is_input) cs

  abbrev listed : List ChannelInfo → List InputChannel
  listed cs = map (input_of t class) (inputs_of cs)

  abbrev IsListed : List ChannelInfo → Name → Type 0
  IsListed cs name = list_any (is_named name) (listed cs) ≡ true

  inputs_listed : (cs : List ChannelInfo) → AllByRecursion (IsListed cs) (inputs_among cs)
  inputs_listed [] = tt
  inputs_listed (c ∷ cs) = in_case (inputs_listed cs) c.is_input where
    in_case : AllByRecursion (IsListed cs) (inputs_among cs) → (b : Bool) → AllByRecursion
        (λ name. list_any (is_named name)
        (map (input_of t class) (cond b (c ∷ inputs_of cs) (inputs_of cs))) ≡ true)
        (cond b (c.name ∷ inputs_among cs) (inputs_among cs))
    in_case rest true = (
      or_left (is_named c.name (input_of t class c)) _
          (and_from _ _ (text-itself class) (text-itself c.name)),
      each (IsListed cs)
          (λ name. list_any (is_named name) (input_of t class c ∷ listed cs) ≡ true)
          (λ name is. or_right (is_named name (input_of t class c)) _ is) (inputs_among cs) rest,
    )
    in_case rest false = rest

-- ---- the channels of an erased class

-- an input has a name that passes
abbrev InputPasses : (Name → Type 0) → ChannelInfo → Type 0
InputPasses P c = c.is_input ≡ true → P c.name

outputs_pass : (P : Name → Type 0) (names : List Name)
    → AllByRecursion (InputPasses P) (map (channel_info false) names)
outputs_pass P [] = tt
outputs_pass P (name ∷ names) = (λ is. absurd (cc is), outputs_pass P names)

inputs_pass : (P : Name → Type 0) (names : List Name) (cs : List ChannelInfo)
    → AllByRecursion P names → AllByRecursion (InputPasses P) cs
    → AllByRecursion (InputPasses P) (map (channel_info true) names ++ cs)
inputs_pass P [] cs all rest = rest
inputs_pass P (name ∷ names) cs all rest = (λ is. all.0, inputs_pass P names cs all.1 rest)

-- ---- native methods are channels

abbrev IsOfInput : (Name → Type 0) → Member → Type 0
IsOfInput P m =
    is_native m.access ≡ true → (k : ChannelInfo) × InputPasses P k × (m ≡ channel k)

not_native : (shared : Bool) → is_native (member_access shared) ≡ true → ⊥
not_native true is = absurd (cc is)
not_native false is = absurd (cc is)

module _ (P : Name → Type 0) (table : Table) (bodies : List Body) (c : ℕ) where
  methods_pass : (i : ℕ) (ms : List MethodInfo)
      → AllByRecursion (IsOfInput P) (methods_from table bodies c i ms)
  methods_pass i [] = tt
  methods_pass i (m ∷ ms) =
      (λ is. absurd (not_native m.is_static is), methods_pass (suc i) ms)

  channels_pass : (ks : List ChannelInfo) (ms : List Member)
      → AllByRecursion (InputPasses P) ks → AllByRecursion (IsOfInput P) ms
      → AllByRecursion (IsOfInput P) (map channel ks ++ ms)
  channels_pass [] ms all rest = rest
  channels_pass (k ∷ ks) ms all rest =
      (λ is. (k, all.0, refl), channels_pass ks ms all.1 rest)

  members_pass : (class : ClassInfo) → AllByRecursion (InputPasses P) class.channels
      → AllByRecursion (IsOfInput P) (members table bodies c class)
  members_pass class all = (
    λ is. absurd (not_native false is),
    channels_pass class.channels (methods_from table bodies c 0 class.methods) all
        (methods_pass 0 class.methods),
  )

-- a channel whose descriptor is that of an input is one
gives_int : (b : Bool) → cond b (codes "()I") (codes "(I)V") ≡ codes "()I" → b ≡ true
gives_int true same = refl
gives_int false same = absurd (cc same)

-- ---- in files

module _ (P : Name → Type 0) (entries : List Constant) (name : Name) where
  passes_named : (pair : Paired (IsOfInput P) (IsMethodOf entries) (is_input_of entries name))
      → P name
  passes_named pair =
      let x : MethodFile = pair.other in
      let m : Member = pair.one in
      let both = and_parts _ (bytes_eq (text_at entries x.name) name) pair.passes in
      let says = and_parts (is_native x.access && is_static x.access) _ both.0 in
      let native = (and_parts (is_native x.access) (is_static x.access) says.0).0 in
      let of = pair.known (ap is_native (sym pair.related.access) ∙ native) in
      let k : ChannelInfo = of.0 in
      let of_type : m.descriptor ≡ codes "()I" =
      sym (text-said entries x.descriptor m.descriptor pair.related.descriptor_is)
      ∙ same-text (text_at entries x.descriptor) (codes "()I") says.1 in
      let input : k.is_input ≡ true =
      gives_int k.is_input (ap (λ (y : Member). y.descriptor) (sym of.2) ∙ of_type) in
      let named : k.name ≡ name =
      ap (λ (y : Member). y.name) (sym of.2)
      ∙ sym (text-said entries x.name m.name pair.related.name)
      ∙ same-text (text_at entries x.name) name both.1 in
      subst P named (of.1 input)

module _ (t : Table) (bodies : List Body) (files : List ClassFile)
    (known : Known (erased_table t) bodies files) where
  abbrev IsDeclared : Name → Name → Type 0
  IsDeclared class name = list_any (is_named t class name) (input_channels t) ≡ true

  in_class : (c : ℕ) (class : ClassInfo) → slice_get t.classes c ≡ Some class
      → AllByRecursion (InputPasses (IsDeclared class.name)) (erased_channels class.channels)
  in_class c class there =
      inputs_pass (IsDeclared class.name) (inputs_among class.channels)
      (map (channel_info false) (outputs_among class.channels))
      (each (IsListed t class.name class.channels) (IsDeclared class.name)
      (λ name is. any_in_all (is_named t class.name name) (inputs_in t) t.classes c class there is)
      (inputs_among class.channels) (inputs_listed t class.name class.channels))
      (outputs_pass (IsDeclared class.name) (outputs_among class.channels))

  in_file : (file : ClassFile) (c : ℕ) (of : IsOf (erased_table t) bodies c file) (name : Name)
      → list_any (is_input_of file.pool.entries name) file.methods ≡ true
      → IsDeclared of.class.name name
  in_file file c of name any =
      let table = erased_table t in
      let from = mapped-from erased_class t.classes c of.class of.there in
      let P = IsDeclared from.item.name in
      let channels =
      subst (λ (k : ClassInfo). AllByRecursion (InputPasses P) k.channels) from.gives
      (in_class c from.item from.stands) in
      subst (λ (k : ClassInfo). IsDeclared k.name name) from.gives
      (passes_named P file.pool.entries name
      (paired (IsOfInput P) (IsMethodOf file.pool.entries)
      (is_input_of file.pool.entries name) (members table bodies c of.class) file.methods
      (members_pass P table bodies c of.class channels) of.is.methods any))

  pub inputs_declared : (class name : Name) → has_input files class name ≡ true
      → IsDeclared class name
  inputs_declared class name has =
      let found = passing (has_input_in class name) files has in
      let file : ClassFile = found.item in
      let of = known.each found.place file found.stands in
      let both =
      and_parts (bytes_eq (own_name file) class)
      (list_any (is_input_of file.pool.entries name) file.methods) found.passes in
      let own : of.1.class.name ≡ class =
      sym (own-is (erased_table t) bodies files known of.0 file of.1)
      ∙ same-text (own_name file) class both.0 in
      subst (λ (n : Name). IsDeclared n name) own (in_file file of.0 of.1 name both.1)
