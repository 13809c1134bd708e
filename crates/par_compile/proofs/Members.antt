-- The methods of a file, one after another.
use Rattle.std.proofs.Common.{◌≡◌, ℕ, ◌+◌, ◌<◌, ◌^◌, List, [], ◌∷◌, ◌++◌, length, map, take, get_or}
use Rattle.std.proofs.Common.{Option, Some, None, inl, inr, refl, sym, ap, subst, ◌∙◌}
use Rattle.std.proofs.Common.{append_assoc, arith}
use Rattle.std.specs.Prelude.{◌⊎◌, Contains, not, is_some, Bool, true, false}
use Rattle.std.specs.List.{AllZip}
use Rattle.std.proofs.lemmas.List.{append-nil}
use Rattle.std.proofs.lemmas.List.Elements.{Contains-append_left, Contains-append_right}
use Rattle.par_pool.specs.declared.constant.Constant.{Constant}
use Rattle.par_pool.specs.declared.constant.Constant.TheVariants.{Utf8}
use Rattle.par_class.specs.declared.file.CodeAttr.{CodeAttr}
use Rattle.par_class.specs.declared.file.MethodFile.{MethodFile}
use Rattle.par_class.specs.Spelling.{is_native}
use Rattle.par_code_form.specs.declared.labelled.Labelled.{Labelled}
use Rattle.par_compile_laws.specs.Members.{Member, member_access}
use Rattle.par_compile_laws.specs.Constants.{IsOfMayCode}
use Rattle.par_compile_laws.specs.Files.{IsCode, IsCodeWith}
use Rattle.par_framing.specs.par_compile_laws.Framed.{TABLE}
use Rattle.par_compile.specs.declared.draft.Draft.{Draft}
use Rattle.par_compile.specs.Growing.{Stays, Grows, IsEither, IsOfMembers}
use Rattle.par_compile.specs.Drafts.{CodeFits, IsShort, IsPut, Puts, PutsMember}
use Rattle.par_compile.proofs.Growing.{extends, stays_later, grows_nothing, grows_then}
use Rattle.par_compile.proofs.Lists.{zip_append, map_more, map_done}

-- the name of the attribute of frames, or what the code of a method names
abbrev pub IsItsCode : Member → List Constant → Constant → Type 0
IsItsCode m pool c = (c ≡ Utf8 TABLE) ⊎ IsOfMayCode pool m.code c

first : (m : Member) → Contains (m ∷ []) m
first m = (0, omega arith, refl)

of-code : (m : Member) (q : List Constant) (c : Constant) → IsItsCode m q c
    → IsOfMembers (m ∷ []) q c
of-code m q c (inl e) = inl e
of-code m q c (inr h) = inr (m, first m, inr (inr h))

of-text : (m : Member) (q : List Constant) (c : Constant) → IsEither m.name m.descriptor q c
    → IsOfMembers (m ∷ []) q c
of-text m q c (inl e) = inr (m, first m, inl e)
of-text m q c (inr e) = inr (m, first m, inr (inl e))

-- code with its frames or without them is code
code-is : (frames : Bool) (pool : List Constant) (code : Option Labelled)
    (attr : Option CodeAttr) → IsCodeWith frames pool code attr → IsCode pool code attr
code-is frames pool None None h = h
code-is frames pool None (Some attr) h = h
code-is frames pool (Some code) None h = h
code-is frames pool (Some code) (Some attr) h = h.placed_

-- a method whose code was placed before
pub puts_member : (frames : Bool) (m : Member) (attr : Option CodeAttr) (start mid end : Draft)
    → mid.methods ≡ start.methods → Grows (IsItsCode m) start.pool mid.pool
    → Stays mid.pool (λ q. IsCodeWith frames q m.code attr)
    → Stays mid.pool (λ q. CodeFits q attr) → IsShort attr → m.access < 2 ^ 16
    → is_native m.access ≡ not (is_some attr)
    → PutsMember m.access m.name m.descriptor attr mid end
    → Puts frames (m ∷ []) start end
puts_member frames m attr start mid end same coded is fits short small native p = record {
  more = p.file ∷ [];
  behind = p.behind ∙ ap (λ (ms : List MethodFile). ms ++ p.file ∷ []) same;
  grows =
      grows_then (IsItsCode m) (IsEither m.name m.descriptor) (IsOfMembers (m ∷ [])) start.pool
      mid.pool end.pool (of-code m) (of-text m) coded p.grows;
  are = λ later e.
      let grown = extends (IsEither m.name m.descriptor) mid.pool end.pool p.grows in
      let coded' : IsCodeWith frames later m.code p.file.code =
      subst (λ (o : Option CodeAttr). IsCodeWith frames later m.code o) (sym p.code_is)
      (stays_later mid.pool end.pool (λ q. IsCodeWith frames q m.code attr) grown is later e) in (
        record {
          is = record {
            access = p.access_is;
            name = p.named later e;
            descriptor_is = p.described later e;
            code = code-is frames later m.code p.file.code coded';
            attributes = p.attributes;
          };
          with_ = coded';
          fits = subst (λ (o : Option CodeAttr). CodeFits later o) (sym p.code_is)
              (stays_later mid.pool end.pool (λ q. CodeFits q attr) grown fits later e);
          short = subst IsShort (sym p.code_is) short;
          small = small;
          native = subst (λ (o : Option CodeAttr). is_native m.access ≡ not (is_some o))
              (sym p.code_is) native;
        },
        tt,
      );
}

pub puts_nothing : (frames : Bool) (a : Draft) → Puts frames [] a a
puts_nothing frames a = record {
  more = [];
  behind = sym (append-nil a.methods);
  grows = grows_nothing (IsOfMembers []) a.pool a.pool refl;
  are = λ later e. tt;
}

of-left : (ms ns : List Member) (q : List Constant) (c : Constant) → IsOfMembers ms q c
    → IsOfMembers (ms ++ ns) q c
of-left ms ns q c (inl e) = inl e
of-left ms ns q c (inr h) = inr (h.0, Contains-append_left ms ns h.0 h.1, h.2)

of-right : (ms ns : List Member) (q : List Constant) (c : Constant) → IsOfMembers ns q c
    → IsOfMembers (ms ++ ns) q c
of-right ms ns q c (inl e) = inl e
of-right ms ns q c (inr h) = inr (h.0, Contains-append_right ms ns h.0 h.1, h.2)

-- methods, and then others
pub puts_then : (frames : Bool) (ms ns : List Member) (a b c : Draft) → Puts frames ms a b
    → Puts frames ns b c → Puts frames (ms ++ ns) a c
puts_then frames ms ns a b c p q = record {
  more = p.more ++ q.more;
  behind =
      q.behind ∙ ap (λ (xs : List MethodFile). xs ++ q.more) p.behind
      ∙ append_assoc a.methods p.more q.more;
  grows =
      grows_then (IsOfMembers ms) (IsOfMembers ns) (IsOfMembers (ms ++ ns)) a.pool b.pool c.pool
      (of-left ms ns) (of-right ms ns) p.grows q.grows;
  are = λ later e.
      zip_append (IsPut frames later) ms ns p.more q.more
      (stays_later b.pool c.pool (λ pool. AllZip (IsPut frames pool) ms p.more)
      (extends (IsOfMembers ns) b.pool c.pool q.grows) p.are later e)
      (q.are later e);
}

-- one more of those that a loop puts
pub puts_more : {A : Type 0} (frames : Bool) (f : A → Member) (xs : List A) (i : ℕ) (x : A)
    (a b c : Draft) → i < length xs → get_or xs i x ≡ x → Puts frames (map f (take i xs)) a b
    → Puts frames (f x ∷ []) b c → Puts frames (map f (take (i + 1) xs)) a c
puts_more frames f xs i x a b c lt is p q =
    subst (λ (ms : List Member). Puts frames ms a c) (sym (map_more f xs i x lt is))
    (puts_then frames (map f (take i xs)) (f x ∷ []) a b c p q)

pub puts_done : {A : Type 0} (frames : Bool) (f : A → Member) (xs : List A) (i : ℕ)
    (a b : Draft) → i ≡ length xs → Puts frames (map f (take i xs)) a b
    → Puts frames (map f xs) a b
puts_done frames f xs i a b e p =
    subst (λ (ms : List Member). Puts frames ms a b) (map_done f xs i e) p

-- the flags of a method with code
pub small_access : (is_static : Bool) → member_access is_static < 2 ^ 16
small_access true = omega arith
small_access false = omega arith

pub access_coded : (is_static : Bool) → is_native (member_access is_static) ≡ false
access_coded true = refl
access_coded false = refl
