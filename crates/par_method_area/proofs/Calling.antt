-- Methods by their rows.
use Rattle.std.proofs.Common.{◌≡◌, ℕ, zero, suc, ◌==◌, Bool, true, false, not, ◌||◌, if◌then◌else◌}
use Rattle.std.proofs.Common.{List, [], ◌∷◌, length, map, Option, Some, None, is_some, is_none}
use Rattle.std.proofs.Common.{slice_get, refl, sym, ap, subst, ◌∙◌, codes, arith}
use Rattle.std.proofs.lemmas.List.{length-map}
use Rattle.par_class.specs.declared.file.ClassFile.{ClassFile}
use Rattle.par_class.specs.declared.file.CodeAttr.{CodeAttr}
use Rattle.par_class.specs.declared.file.MethodFile.{MethodFile}
use Rattle.par_class.specs.Spelling.{is_native}
use Rattle.par_values.specs.declared.value.MVal.{MVal}
use Rattle.par_values.specs.declared.kind.Kind.{Kind}
use Rattle.par_values.specs.declared.kind.Kind.TheVariants as kind
use Rattle.par_values.specs.Areas.{Name}
use Rattle.par_values.specs.Reasons.{Spot}
use Rattle.par_step_laws.specs.par_link.entry.Declared.{Declared}
use Rattle.par_step_laws.specs.par_link.entry.Named.TheVariants as named
use Rattle.par_single.specs.Members.{own_name, text_at, is_static}
use Rattle.std.proofs.lemmas.Bool.{and_parts, eqb-true}
use Rattle.std.proofs.lemmas.Slice.Eq.{bytes_eq-Decides}
use Rattle.std.specs.Str.{bytes_eq}
use Rattle.par_single.specs.Descriptors.{kind_at, kinds_in}
use Rattle.par_single.specs.Described.{is_channel_right, is_of_channel}
use Rattle.par_single.specs.Links.{kind_or_any, signature_said, locals_of}
use Rattle.par_step_laws.specs.Classes.{class_names}
use Rattle.par_step_laws.specs.par_link.entry.Named.{Named}
use Rattle.par_step_laws.specs.Links.{channel_of, method_in, method_link, initializer_link}
use Rattle.par_step_laws.specs.Links as steps
use Rattle.par_step_laws.specs.Methods.{pool_of, methods_of, method_code, method_descriptor}
use Rattle.par_step_laws.specs.Methods.{descriptor_in, code_in, code_or_none}
use Rattle.par_actions.specs.declared.fit.Fit.{Fit}
use Rattle.par_actions.specs.declared.fit.Fit.TheVariants as fit
use Rattle.par_actions.specs.Leaving.{HasResult}
use Rattle.par_actions.specs.declared.callee.Callee.{Callee}
use Rattle.par_actions.specs.declared.callee.Target.{Target}
use Rattle.par_actions.specs.declared.callee.Target.TheVariants as aim
use Rattle.par_method_area.specs.declared.classes.ClassRow.{ClassRow}
use Rattle.par_method_area.specs.declared.methods.MethodRow.{MethodRow}
use Rattle.par_method_area.specs.Area.{Area, AreTold, area_of}
use Rattle.par_actions.specs.Fits.{Takes}
use Rattle.par_values.specs.declared.link.Target.TheVariants as named_target
use Rattle.par_actions.specs.par_lines.Lines.{Channel}
use Rattle.par_actions.specs.Callee.{IsTarget, AllTake}
use Rattle.par_method_area.specs.Classes.{IsClassRow, lines_in, file_lines, line_rows}
use Rattle.par_method_area.specs.Fits.{fit_of, gives_of}
use Rattle.par_method_area.specs.Methods.{IsMethodRow, line_in, line_row, signature_of}
use Rattle.par_method_area.specs.Signatures.{Told, said_by, signature_in}
use Rattle.par_method_area.specs.Known.{signature_at, KnowsMethod, is_exception_initializer}
use Rattle.par_method_area.specs.Targets.{gives_result, target_of}
use Rattle.par_step_laws.proofs.par_link.Apart.{AreApart}
use Rattle.par_method_area.proofs.Beside.{found, missing}
use Rattle.par_method_area.proofs.Taking.{takes, takes-own, all-take}
use Rattle.par_method_area.proofs.Signing.{said-at}
use Rattle.par_method_area.proofs.Saying.{IsSaid, signature-said}
use Rattle.par_method_area.proofs.Numbered.{name-at, some-name}
use Rattle.par_step_laws.proofs.par_link.Faultless.{names-apart, own-name, method-right}

-- ---- results

-- what a method gives by its descriptor
pub as-said : (classes : List Name) → AreApart classes → (o : Option Kind) → IsSaid o
    → (spot : Spot) → spot.gives_nothing ≡ is_none o → spot.result ≡ kind_or_any o
    → HasResult classes spot (gives_of classes o)
as-said classes apart None said spot nothing result = nothing
as-said classes apart (Some kind.Number) said spot nothing result =
    record { gives = nothing; result = result }
as-said classes apart (Some (kind.Object name)) said spot nothing result =
    record {
      name = name;
      gives = nothing;
      result = result;
      takes = takes classes apart (kind.Object name) said;
    }
as-said classes apart (Some kind.AnyObject) said spot nothing result = absurd said
as-said classes apart (Some kind.Anything) said spot nothing result = absurd said

pub gives-some : (classes : List Name) (o : Option Kind)
    → is_some o ≡ gives_result (gives_of classes o)
gives-some classes None = refl
gives-some classes (Some kind.Number) = refl
gives-some classes (Some (kind.Object name)) = refl
gives-some classes (Some kind.AnyObject) = refl
gives-some classes (Some kind.Anything) = refl

-- ---- lines

-- the line of a method is that of the channel of its name
pub line-at : (files : List ClassFile) (rows : List ClassRow) (channels : List Channel)
    (class place : ℕ) (file : ClassFile) (m : MethodFile) (row : ClassRow) (own : MethodRow)
    → map lines_in rows ≡ line_rows files channels → slice_get files class ≡ Some file
    → slice_get file.methods place ≡ Some m
    → slice_get rows class ≡ Some row → slice_get row.methods place ≡ Some own
    → own.line ≡ line_row channels file m
line-at files rows channels class place file m row own same listed held at is =
    let one : lines_in row ≡ file_lines channels file =
    some-same (mapped lines_in rows class row at)
    (mapped (file_lines channels) files class file listed) (ap (λ xs. slice_get xs class) same) in
    some-same (mapped line_in row.methods place own is)
    (mapped (line_row channels file) file.methods place m held) (ap (λ xs. slice_get xs place) one)
  where
    mapped : {A B : Type 0} (f : A → B) (xs : List A) (n : ℕ) (x : A) → slice_get xs n ≡ Some x
        → slice_get (map f xs) n ≡ Some (f x)
    mapped f [] n x at = absurd (cc at)
    mapped f (y ∷ xs) zero x at = let same : y ≡ x = cc at in ap (λ z. Some (f z)) same
    mapped f (y ∷ xs) (suc n) x at = mapped f xs n x at

    some-same : {A : Type 0} {a b : A} {o p : Option A} → o ≡ Some a → p ≡ Some b → o ≡ p → a ≡ b
    some-same first second same = cc (sym first ∙ same ∙ second)

-- ---- calls

either : (a b : Bool) → a ≡ true → (not a || b) ≡ true → b ≡ true
either true b a is = is
either false b a is = absurd (cc a)

same-locals : (o : Option CodeAttr) → locals_of o ≡ (code_or_none o).max_locals
same-locals None = refl
same-locals (Some code) = refl

module _ (channels : List Channel) (d : Declared) (file : ClassFile) (m : MethodFile)
    (fits : List Fit) (line : Option ℕ) where
  abbrev channel_target : Target
  channel_target = if length fits == 0 then aim.Input line else aim.Output

  channel-aim : (kinds : List Kind) → length fits ≡ length kinds
      → line ≡ line_row channels file m
      → IsTarget channels (channel_of (own_name file) (text_at file.pool.entries m.name) kinds)
      channel_target
  channel-aim [] many here =
      let none : (length fits == 0) ≡ true = grind (arith, many) in
      subst (λ (b : Bool). IsTarget channels
      (channel_of (own_name file) (text_at file.pool.entries m.name) [])
      (if b then aim.Input line else aim.Output)) (sym none) here
  channel-aim (kind ∷ kinds) many here =
      let some : (length fits == 0) ≡ false = grind (arith, many) in
      subst (λ (b : Bool). IsTarget channels
      (channel_of (own_name file) (text_at file.pool.entries m.name) (kind ∷ kinds))
      (if b then aim.Input line else aim.Output)) (sym some) tt

  aims : (kinds : List Kind) → length fits ≡ length kinds
      → line ≡ line_row channels file m
      → IsTarget channels (steps.target_of d.class file d.place m kinds) (target_of d m fits line)
  aims kinds many here = in_case (is_native m.access) where
    in_case : (b : Bool) → IsTarget channels
        (if b then channel_of (own_name file) (text_at file.pool.entries m.name) kinds
        else named_target.Code d.class d.place (locals_of m.code))
        (if b then channel_target else aim.Code d.class d.place (code_or_none m.code).max_locals
        (code_or_none m.code).max_stack)
    in_case true = channel-aim kinds many here
    in_case false = record { class = refl; method = refl; locals = same-locals m.code }

room-at : (files : List ClassFile) (d : Declared) (file : ClassFile) (m : MethodFile)
    (fits : List Fit) (line : Option ℕ)
    → slice_get files d.class ≡ Some file → slice_get file.methods d.place ≡ Some m
    → (class method locals room : ℕ) → target_of d m fits line ≡ aim.Code class method locals room
    → room ≡ (method_code files class method).max_stack
room-at files d file m fits line listed at class method locals room is =
    in_case (is_native m.access) (length fits == 0) is
  where
    there : method_code files d.class d.place ≡ code_or_none m.code
    there =
        ap (λ (o : Option ClassFile). code_in (slice_get (methods_of o) d.place)) listed
        ∙ ap code_in at

    in_case : (b c : Bool)
        → (if b then (if c then aim.Input line else aim.Output)
        else aim.Code d.class d.place (code_or_none m.code).max_locals
        (code_or_none m.code).max_stack)
        ≡ aim.Code class method locals room → room ≡ (method_code files class method).max_stack
    in_case true true is = absurd (cc is)
    in_case true false is = absurd (cc is)
    in_case false c is =
        let one : d.class ≡ class = cc is in
        let two : d.place ≡ method = cc is in
        let own_room : (code_or_none m.code).max_stack ≡ room = cc is in
        sym own_room ∙ ap (λ (code : CodeAttr). code.max_stack) (sym there)
        ∙ ap (λ (n : ℕ). (method_code files n d.place).max_stack) one
        ∙ ap (λ (n : ℕ). (method_code files class n).max_stack) two

gives-at : (files : List ClassFile) (d : Declared) (file : ClassFile) (m : MethodFile)
    (fits : List Fit) (line : Option ℕ)
    → slice_get files d.class ≡ Some file → slice_get file.methods d.place ≡ Some m
    → (class method locals room : ℕ) → target_of d m fits line ≡ aim.Code class method locals room
    → is_some (signature_of file m).gives ≡ is_some (signature_at files class method).gives
gives-at files d file m fits line listed at class method locals room is =
    in_case (is_native m.access) (length fits == 0) is
  where
    there : text_at file.pool.entries m.descriptor ≡ method_descriptor files d.class d.place
    there =
        ap (λ (o : Option MethodFile). descriptor_in file.pool.entries o) (sym at)
        ∙ ap (λ (o : Option ClassFile).
        descriptor_in (pool_of o) (slice_get (methods_of o) d.place))
        (sym listed)

    in_case : (b c : Bool)
        → (if b then (if c then aim.Input line else aim.Output)
        else aim.Code d.class d.place (code_or_none m.code).max_locals
        (code_or_none m.code).max_stack)
        ≡ aim.Code class method locals room
        → is_some (signature_of file m).gives ≡ is_some (signature_at files class method).gives
    in_case true true is = absurd (cc is)
    in_case true false is = absurd (cc is)
    in_case false c is =
        let one : d.class ≡ class = cc is in
        let two : d.place ≡ method = cc is in
        ap (λ (text : List ℕ). is_some (signature_said text).gives) there
        ∙ ap (λ (n : ℕ). is_some (signature_said (method_descriptor files n d.place)).gives) one
        ∙ ap (λ (n : ℕ). is_some (signature_said (method_descriptor files class n)).gives) two

-- an input channel gives a number
channel-gives : (text : List ℕ) → is_of_channel text ≡ true → length (signature_said text).takes ≡ 0
    → is_some (signature_said text).gives ≡ true
unfolding kind_at kinds_in
channel-gives text channel none = in_case (bytes_eq text (codes "()I")) refl channel where
  in_case : (b : Bool) → bytes_eq text (codes "()I") ≡ b
      → (b || bytes_eq text (codes "(I)V")) ≡ true → is_some (signature_said text).gives ≡ true
  in_case true is or =
      let same : text ≡ codes "()I" = (bytes_eq-Decides text (codes "()I")).0 is in
      ap (λ (t : List ℕ). is_some (signature_said t).gives) same
  in_case false is or =
      let same : text ≡ codes "(I)V" = (bytes_eq-Decides text (codes "(I)V")).0 or in
      let one : 1 ≡ 0 = ap (λ (t : List ℕ). length (signature_said t).takes) (sym same) ∙ none in
      absurd (cc one)

input-at : (d : Declared) (m : MethodFile) (fits : List Fit) (line told : Option ℕ)
    → target_of d m fits line ≡ aim.Input told
    → (is_native m.access ≡ true) × (length fits ≡ 0)
input-at d m fits line told is = in_case (is_native m.access) (length fits == 0) refl refl is
  where
    in_case : (b c : Bool) → is_native m.access ≡ b → (length fits == 0) ≡ c
        → (if b then (if c then aim.Input line else aim.Output)
        else aim.Code d.class d.place (code_or_none m.code).max_locals
        (code_or_none m.code).max_stack) ≡ aim.Input told
        → (is_native m.access ≡ true) × (length fits ≡ 0)
    in_case true true native none is = (native, eqb-true (length fits) 0 none)
    in_case true false native some is = absurd (cc is)
    in_case false c native some is = absurd (cc is)

module _ (files : List ClassFile) (rows : List ClassRow) (exceptions : List Bool)
    (statics : List MVal)
    (told : AreTold files rows exceptions statics) (d : Declared) where
  abbrev IsKnown : Option Callee → Option ClassFile → Type 0
  IsKnown x o = KnowsMethod (area_of files rows) (named.Method d) (method_in d.class d.place o) x

  -- each file and each method has a row
  pub row-there : (file : ClassFile) → Some file ≡ slice_get files d.class
      → slice_get rows d.class ≡ None → ⊥
  row-there file listed none =
      let gone = missing (IsClassRow (class_names files) files) files rows d.class told.rows none in
      let never : Some file ≡ None = listed ∙ gone in
      cc never

  class-row : (row : ClassRow) (file : ClassFile) → Some file ≡ slice_get files d.class
      → slice_get rows d.class ≡ Some row
      → IsClassRow (class_names files) files d.class file row
  class-row row file listed at =
      let here = found (IsClassRow (class_names files) files) files rows d.class row told.rows at in
      let same : here.item ≡ file = some-is (sym here.at ∙ sym listed) in
      subst (λ (f : ClassFile). IsClassRow (class_names files) files d.class f row) same here.is
    where
      some-is : {a b : ClassFile} → Some a ≡ Some b → a ≡ b
      some-is same = cc same

  pub own-there : (row : ClassRow) (file : ClassFile) (m : MethodFile)
      → Some file ≡ slice_get files d.class → Some m ≡ slice_get file.methods d.place
      → slice_get rows d.class ≡ Some row → slice_get row.methods d.place ≡ None → ⊥
  own-there row file m listed held at none =
      let gone =
      missing (IsMethodRow row.signatures file) file.methods row.methods d.place
      (class-row row file listed at).methods none in
      let never : Some m ≡ None = held ∙ gone in
      cc never

  pub own-row : (row : ClassRow) (file : ClassFile) (m : MethodFile) (own : MethodRow)
      → Some file ≡ slice_get files d.class → Some m ≡ slice_get file.methods d.place
      → slice_get rows d.class ≡ Some row → slice_get row.methods d.place ≡ Some own
      → IsMethodRow row.signatures file d.place m own
  own-row row file m own listed held at is =
      let one =
      found (IsMethodRow row.signatures file) file.methods row.methods d.place own
      (class-row row file listed at).methods is in
      let same : one.item ≡ m = some-is (sym one.at ∙ sym held) in
      subst (λ (f : MethodFile). IsMethodRow row.signatures file d.place f own) same one.is
    where
      some-is : {a b : MethodFile} → Some a ≡ Some b → a ≡ b
      some-is same = cc same

  -- which tells what its descriptor says
  pub said-of : (row : ClassRow) (file : ClassFile) (m : MethodFile)
      → Some file ≡ slice_get files d.class → slice_get rows d.class ≡ Some row
      → signature_in row.signatures m.descriptor
      ≡ said_by (class_names files) (text_at file.pool.entries m.descriptor)
  said-of row file m listed at =
      said-at (class_names files) file.pool.entries row.signatures m.descriptor
      (class-row row file listed at).signatures

  -- and so it is known
  pub method-found : (row : ClassRow) (file : ClassFile) (m : MethodFile) (own : MethodRow)
      (x : Callee) → Some file ≡ slice_get files d.class → Some m ≡ slice_get file.methods d.place
      → slice_get rows d.class ≡ Some row → slice_get row.methods d.place ≡ Some own
      → x.is_static ≡ is_static m.access → x.is_initializer ≡ own.is_initializer
      → x.receiver ≡ fit.OfClass d.class → x.only_exceptions ≡ false
      → x.takes.now ≡ (signature_in row.signatures m.descriptor).0
      → x.gives ≡ gives_result own.gives → x.target ≡ target_of d m x.takes.now own.line
      → IsKnown (Some x) (slice_get files d.class)
  method-found row file m own x listed held at is static initializer receiver only taken
      gives target =
      let classes = class_names files in
      let apart = names-apart files told.linked in
      let mine = own-row row file m own listed held at is in
      let said = signature-said (text_at file.pool.entries m.descriptor) in
      let signature = signature_of file m in
      let here = said-of row file m listed at in
      let all : map (fit_of classes) signature.takes ≡ x.takes.now =
      sym (taken ∙ ap (λ (t : Told). t.0) here) in
      let many : length x.takes.now ≡ length signature.takes =
      ap length (sym all) ∙ length-map signature.takes (fit_of classes) in
      let own_gives : own.gives ≡ gives_of classes signature.gives =
      mine.gives ∙ ap (λ (t : Told). t.1) here in
      subst (λ (o : Option ClassFile). IsKnown (Some x) o) listed
      (subst (λ (o : Option MethodFile). KnowsMethod (area_of files rows) (named.Method d)
      (method_link d.class file d.place o) (Some x)) held
      (record {
        is = λ channels known. record {
          is_static = sym static;
          is_initializer = sym mine.is_initializer ∙ sym initializer;
          receiver =
              subst (λ (f : Fit). Takes classes (kind.Object (own_name file)) f) (sym receiver)
              (takes-own classes apart d.class (own_name file)
              (name-at files d.class file (sym listed))
              (some-name (own_name file) (own-name files told.linked d.class file (sym listed))));
          takes =
              subst (λ (fits : List Fit). AllTake classes signature.takes fits) all
              (all-take classes apart signature.takes said.takes);
          gives = gives-some classes signature.gives ∙ ap gives_result (sym own_gives) ∙ sym gives;
          target =
              subst (λ (t : Target). IsTarget channels
              (steps.target_of d.class file d.place m signature.takes) t) (sym target)
              (aims channels d file m x.takes.now own.line signature.takes many
              (line-at files rows channels d.class d.place file m row own known (sym listed)
              (sym held) at is));
        };
        only_exceptions = only;
        room =
            λ class method locals room aimed.
            room-at files d file m x.takes.now own.line (sym listed) (sym held) class method
            locals room (sym target ∙ aimed);
        input = λ line aimed.
            let empty = input-at d m x.takes.now own.line line (sym target ∙ aimed) in
            let right =
            and_parts _ _ (method-right files told.linked d.class file (sym listed) d.place m
            (sym held)) in
            let channel =
            either (is_native m.access) (is_channel_right file.pool.entries m) empty.0 right.1 in
            let parts =
            and_parts _ (is_of_channel (text_at file.pool.entries m.descriptor)) channel in
            gives ∙ ap gives_result own_gives ∙ sym (gives-some classes signature.gives)
            ∙ channel-gives (text_at file.pool.entries m.descriptor) parts.1 (sym many ∙ empty.1);
        gives = λ class method locals room aimed.
            gives ∙ ap gives_result own_gives ∙ sym (gives-some classes signature.gives)
            ∙ gives-at files d file m x.takes.now own.line (sym listed) (sym held) class method
            locals room (sym target ∙ aimed);
      }))

pub moved : (d : Declared) {a b : Area} → a ≡ b → (x : Option Callee)
    → KnowsMethod a (named.Method d) (method_in d.class d.place (slice_get a.files d.class)) x
    → KnowsMethod b (named.Method d) (method_in d.class d.place (slice_get b.files d.class)) x
moved d same x known =
    subst (λ (a : Area). KnowsMethod a (named.Method d)
    (method_in d.class d.place (slice_get a.files d.class)) x) same known

-- ---- initializers of classes that every program has

pub initializer-found : (area : Area) (n : Named) (receiver : Kind) (x : Callee)
    → Takes (class_names area.files) receiver x.receiver
    → x.is_static ≡ false → x.is_initializer ≡ true → x.only_exceptions ≡ is_exception_initializer n
    → x.takes.now ≡ [] → x.gives ≡ false → x.target ≡ aim.Nothing
    → KnowsMethod area n (initializer_link receiver) (Some x)
initializer-found area n receiver x takes static initializer only none gives target =
    record {
      is = λ channels known. record {
        is_static = sym static;
        is_initializer = sym initializer;
        receiver = takes;
        takes = subst (λ (fits : List Fit). AllTake (class_names area.files) [] fits) (sym none) tt;
        gives = sym gives;
        target = subst (λ (t : Target). IsTarget channels named_target.Nothing t) (sym target) tt;
      };
      only_exceptions = only;
      room =
          λ class method locals room aimed.
          absurd (nothing class method locals room (sym target ∙ aimed));
      gives =
          λ class method locals room aimed.
          absurd (nothing class method locals room (sym target ∙ aimed));
      input = λ line aimed. absurd (no_line line (sym target ∙ aimed));
    }
  where
    no_line : (line : Option ℕ) → aim.Nothing ≡ aim.Input line → ⊥
    no_line line is = cc is

    nothing : (class method locals room : ℕ) → aim.Nothing ≡ aim.Code class method locals room → ⊥
    nothing class method locals room is = cc is
