-- The code of methods, and names, by the rows of methods.
use Rattle.std.proofs.Common.{◌≡◌, ℕ, zero, suc, ◌≤◌, Bool, true, false, List, [], ◌∷◌, length}
use Rattle.std.proofs.Common.{Option, Some, None, slice_get, slice_index_or, sym, ap, subst, ◌∙◌}
use Rattle.std.proofs.Common.{arith}
use Rattle.std.proofs.lemmas.Bool.{and_parts, leb-true}
use Rattle.std.specs.List.{list_all}
use Rattle.std.specs.Option.{option_and_then}
use Rattle.par_class.specs.declared.file.ClassFile.{ClassFile}
use Rattle.par_class.specs.declared.file.CodeAttr.{CodeAttr}
use Rattle.par_class.specs.declared.file.MethodFile.{MethodFile}
use Rattle.par_values.specs.declared.value.MVal.{MVal}
use Rattle.par_step_laws.specs.par_link.Conditions.{is_short}
use Rattle.par_single.specs.declared.descriptor.Signature.{Signature}
use Rattle.par_single.specs.Members.{text_at}
use Rattle.par_single.specs.Links.{signature_said}
use Rattle.par_single.specs.Walk.{starts_at}
use Rattle.par_step_laws.specs.Classes.{class_names}
use Rattle.par_step_laws.specs.Methods.{methods_of, method_file, method_code, code_in, code_or_none}
use Rattle.par_step_laws.specs.Methods.{pool_of, descriptor_in}
use Rattle.par_actions.specs.declared.departures.Gives.{Gives}
use Rattle.par_method_area.specs.declared.classes.ClassRow.{ClassRow}
use Rattle.par_method_area.specs.declared.known.Code.{Code}
use Rattle.par_method_area.specs.declared.methods.MethodRow.{MethodRow}
use Rattle.par_method_area.specs.Area.{Area, AreTold}
use Rattle.par_method_area.specs.Known.{KnowsCode, code_at, signature_at, GivesAsSaid}
use Rattle.par_method_area.specs.Methods.{signature_of}
use Rattle.par_method_area.specs.Signatures.{Told}
use Rattle.par_method_area.proofs.Calling.{as-said, own-row, said-of}
use Rattle.par_method_area.proofs.Saying.{signature-said}
use Rattle.par_step_laws.proofs.par_link.Faultless.{names-apart, small}

pub all-at : {A : Type 0} (p : A → Bool) (xs : List A) (n : ℕ) (x : A) → list_all p xs ≡ true
    → Some x ≡ slice_get xs n → p x ≡ true
all-at p [] n x all at = absurd (cc at)
all-at p (y ∷ xs) zero x all at =
    let same : x ≡ y = cc at in ap p same ∙ (and_parts (p y) (list_all p xs) all).0
all-at p (y ∷ xs) (suc n) x all at = all-at p xs n x (and_parts (p y) (list_all p xs) all).1 at

abbrev code_of : Option MethodFile → Option CodeAttr
code_of o = option_and_then (λ (m : MethodFile). m.code) o

module _ (files : List ClassFile) (class method : ℕ) where
  module _ (file : ClassFile) (listed : Some file ≡ slice_get files class) where
    pub method-gone : None ≡ slice_get file.methods method
        → KnowsCode files class method (code_at files class method) None
    method-gone none =
        let same : None ≡ method_file files class method =
        none ∙ ap (λ (o : Option ClassFile). slice_get (methods_of o) method) listed in
        subst (λ (o : Option CodeAttr). KnowsCode files class method o None) (ap code_of same) tt

    module _ (m : MethodFile) (held : Some m ≡ slice_get file.methods method) where
      here : Some m ≡ method_file files class method
      here = held ∙ ap (λ (o : Option ClassFile). slice_get (methods_of o) method) listed

      pub own-code : m.code ≡ code_at files class method
      own-code = ap code_of here

      own-said : signature_of file m ≡ signature_at files class method
      own-said =
          ap (λ (text : List ℕ). signature_said text)
          (ap (λ (o : Option ClassFile). descriptor_in (pool_of o) (Some m)) listed
          ∙ ap (λ (o : Option MethodFile). descriptor_in (pool_of (slice_get files class)) o) here)

      pub code-gone : m.code ≡ None → KnowsCode files class method (code_at files class method) None
      code-gone none =
          subst (λ (o : Option CodeAttr). KnowsCode files class method o None)
          (sym none ∙ own-code) tt

      module _ (rows : List ClassRow) (exceptions : List Bool) (statics : List MVal)
          (told : AreTold files rows exceptions statics)
          (row : ClassRow) (own : MethodRow) (at : slice_get rows class ≡ Some row)
          (is : slice_get row.methods method ≡ Some own)
          (code : CodeAttr) (some : m.code ≡ Some code) where
        method_is : code ≡ method_code files class method
        method_is = ap code_or_none (sym some) ∙ ap code_in here

        pub code-found : (x : Code) → x.bytes.now ≡ code.code → x.room ≡ code.max_stack
            → x.locals ≡ code.max_locals → x.gives ≡ own.gives → x.starts.now ≡ own.starts
            → KnowsCode files class method (code_at files class method) (Some x)
        code-found x bytes room locals gives starts =
            let mine =
            own-row files rows exceptions statics told
            (record { class = class; place = method }) row file m own listed held at is in
            let said = signature-said (text_at file.pool.entries m.descriptor) in
            let here_said =
            said-of files rows exceptions statics told
            (record { class = class; place = method }) row file m listed at in
            let short : is_short (Some code) ≡ true = ap is_short (sym some)
            ∙ all-at (λ m. is_short m.code) file.methods method m
            (small files told.linked class file (sym listed)).code held in
            let few : length code.code ≤ 65535 = leb-true (length code.code) 65535 short in
            subst (λ (o : Option CodeAttr). KnowsCode files class method o (Some x))
            (sym some ∙ own-code)
            (record {
              bytes = bytes ∙ ap (λ (k : CodeAttr). k.code) method_is;
              room = room ∙ ap (λ (k : CodeAttr). k.max_stack) method_is;
              locals = locals ∙ ap (λ (k : CodeAttr). k.max_locals) method_is;
              short = let same : length x.bytes.now ≡ length code.code = ap length bytes in
                  omega (arith, few, same);
              gives = subst (λ (s : Signature). GivesAsSaid (class_names files) s x.gives) own-said
                  (subst (λ (g : Gives). GivesAsSaid (class_names files) (signature_of file m) g)
                  (sym (mine.gives ∙ ap (λ (t : Told). t.1) here_said) ∙ sym gives)
                  (λ spot nothing result. as-said (class_names files)
                  (names-apart files told.linked)
                  (signature_of file m).gives said.gives spot nothing result));
              starts = λ at.
                  ap (λ (flags : List Bool). slice_index_or flags at false) starts ∙ mine.starts at
                  ∙ ap (λ (o : Option CodeAttr). starts_at (code_or_none o).code at) some
                  ∙ ap (λ (k : CodeAttr). starts_at k.code at) method_is;
            })

pub moved : (class method : ℕ) {a b : Area} → a ≡ b → (x : Option Code)
    → KnowsCode a.files class method (code_at a.files class method) x
    → KnowsCode b.files class method (code_at b.files class method) x
moved class method same x known =
    subst (λ (a : Area). KnowsCode a.files class method (code_at a.files class method) x) same known
