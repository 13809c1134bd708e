-- Placed code stays what it is while the pool grows.
use Rattle.std.proofs.Common.{◌≡◌, ℕ, ◌+◌, ◌*◌, ◌<◌, ◌^◌, Bool, true, false, List, [], ◌∷◌}
use Rattle.std.proofs.Common.{◌++◌, length, Option, Some, None, inl, inr, refl, sym, ap, ◌∙◌}
use Rattle.std.proofs.Common.{◌≤◌, subst, length-append, arith}
use Rattle.std.specs.Prelude.{◌||◌, ◌==◌, codes, nat_lt, nat_le, if◌then◌else◌}
use Rattle.std.specs.List.{AllByRecursion, flat_map}
use Rattle.std.proofs.lemmas.Bool.{false≢true, and_parts, leb-true}
use Rattle.std.proofs.lemmas.List.{append-nil}
use Rattle.par_instr.specs.declared.instr.Instr.TheVariants.{AloadShort, Invokespecial, Return}
use Rattle.par_instr.specs.Spelling.{spelling}
use Rattle.par_pool.specs.declared.constant.Constant.{Constant}
use Rattle.par_pool.specs.Entries.{entry_at, IsMethodAt}
use Rattle.par_pool.specs.declared.reader.TheConstants.{LONGEST_CLASS}
use Rattle.par_pool.specs.Spelling.{u2, is_class, is_text}
use Rattle.par_class.specs.declared.file.Attribute.{Attribute}
use Rattle.par_class.specs.declared.file.Catch.{Catch}
use Rattle.par_class.specs.declared.file.CodeAttr.{CodeAttr}
use Rattle.par_class.specs.Spelling.{attribute, catch, code, FitsAttribute, FitsCatch}
use Rattle.par_class.specs.Spelling.{FitsCode}
use Rattle.par_typed.specs.declared.table.ClassInfo.{ClassInfo}
use Rattle.par_code_form.specs.declared.labelled.Labelled.{Labelled}
use Rattle.par_code_form.specs.declared.labelled.Slot.TheVariants as slot
use Rattle.par_code_form.specs.Code.{initializer, initializer_code}
use Rattle.par_code_form.specs.PoolNames.{IsConstantOf}
use Rattle.par_code_form.specs.Placed.{bytes_of, offset_of, IsWritable, IsPlaced}
use Rattle.par_place.proofs.Growth.{named_kept, caught_kept, all_names_kept, all_catches_kept}
use Rattle.par_compile_laws.specs.Members.{above, initializer_of}
use Rattle.par_compile_laws.specs.Constants.{IsOfCode, named}
use Rattle.par_compile_laws.specs.Files.{IsCodeWith}
use Rattle.par_framing.specs.par_kinds.declared.frame.PlacedFrame.{PlacedFrame}
use Rattle.par_framing.specs.par_compile_laws.Framed.{AreAttributes, frames_of}
use Rattle.par_framing.specs.Added.{AreSized}
use Rattle.par_compile.specs.Drafts.{AreShort, CodeFits, IsShort}
use Rattle.par_compile.specs.Growing.{Extends, Stays, Grows, IsOneCode, IsSuperCall}
use Rattle.par_compile.specs.Initializers.{super_attr, super_call}
use Rattle.par_compile.proofs.Growing.{adds, at_stays, grows_as}

-- ---- what code names

pub constant_stays : (a b : List Constant) → Extends a b → (code : Labelled) (c : Constant)
    → IsConstantOf a code c → IsConstantOf b code c
constant_stays a b e code c (inl h) =
    inl (named_kept a b (length e.more) (λ _. Unit {0}) (adds a b e) code.items c h)
constant_stays a b e code c (inr h) =
    inr (caught_kept a b (length e.more) (λ _. Unit {0}) (adds a b e) code.handlers c h)

-- ---- code at offsets

unfoldable pub placed_stays : (a b : List Constant) → Extends a b
    → (code : Labelled) (attr : CodeAttr) → IsPlaced a code attr
    → IsPlaced b code (record attr { attributes = [] })
placed_stays a b e code attr h = record {
  indices = h.indices;
  named =
      all_names_kept a b (length e.more) (λ _. Unit {0}) (adds a b e) code.items h.indices
      h.named;
  writable = h.writable;
  bytes = h.bytes;
  catches =
      all_catches_kept a b (length e.more) (λ _. Unit {0}) (adds a b e)
      (offset_of code.items h.indices) code.handlers attr.catches h.catches;
  max_stack = h.max_stack;
  max_locals = h.max_locals;
  attributes = refl;
}

-- ---- code has a spelling

class-at : (a b : List Constant) → Extends a b → (i : ℕ) (o : Option Constant)
    → entry_at a i ≡ o → is_class o ≡ true → is_class (entry_at b i) ≡ true
class-at a b e i None at h = absurd (false≢true h)
class-at a b e i (Some c) at h = ap is_class (at_stays a i c at b e) ∙ h

text-at : (a b : List Constant) → Extends a b → (i : ℕ) (o : Option Constant)
    → entry_at a i ≡ o → is_text o ≡ true → is_text (entry_at b i) ≡ true
text-at a b e i None at h = absurd (false≢true h)
text-at a b e i (Some c) at h = ap is_text (at_stays a i c at b e) ∙ h

either-stays : (first x y : Bool) → (x ≡ true → y ≡ true) → (first || x) ≡ true
    → (first || y) ≡ true
either-stays true x y w h = refl
either-stays false x y w h = w h

module _ (a b : List Constant) (e : Extends a b) where
  catch-fits : (len : ℕ) (c : Catch) → FitsCatch a len c → FitsCatch b len c
  catch-fits len c h = record {
    start = h.start;
    end = h.end;
    handler = h.handler;
    class = (
      h.class.0,
      either-stays (c.class == 0) (is_class (entry_at a c.class)) (is_class (entry_at b c.class))
          (class-at a b e c.class (entry_at a c.class) refl) h.class.1,
    );
    range = h.range;
  }

  catches-fit : (len : ℕ) (cs : List Catch) → AllByRecursion (FitsCatch a len) cs
      → AllByRecursion (FitsCatch b len) cs
  catches-fit len [] h = h
  catches-fit len (c ∷ cs) h = (catch-fits len c h.0, catches-fit len cs h.1)

  attributes-fit : (xs : List Attribute) → AllByRecursion (FitsAttribute a) xs
      → AllByRecursion (FitsAttribute b) xs
  attributes-fit [] h = h
  attributes-fit (x ∷ xs) h = (
    record {
      name = (h.0.name.0, text-at a b e x.name (entry_at a x.name) refl h.0.name.1);
      size = h.0.size;
    },
    attributes-fit xs h.1,
  )

pub fits_stays : (pool : List Constant) (attr : CodeAttr) → FitsCode pool attr
    → Stays pool (λ q. FitsCode q attr)
fits_stays pool attr h = λ later e. record {
  max_stack = h.max_stack;
  max_locals = h.max_locals;
  length_ = h.length_;
  catches = (h.catches.0, catches-fit pool later e (length attr.code) attr.catches h.catches.1);
  attributes = (h.attributes.0, attributes-fit pool later e attr.attributes h.attributes.1);
}

-- ---- the code of initializers

super-named : (exception : Bool) (q : List Constant) (c : Constant) → IsSuperCall exception q c
    → (name : List ℕ) → IsOfCode q (record {
      items = initializer_code (above exception);
      handlers = [];
      max_stack = 1;
      max_locals = 1;
      start = slot.Class name ∷ [];
      frames = [];
    }) c
super-named exception q c h name =
    named (inl (record {
      item = initializer (above exception);
      stands = (1, omega arith, refl);
      part = h;
    }))

pub super_code_grows : (k : ClassInfo) (a b : List Constant) → Grows (IsSuperCall k.exception) a b
    → Grows (IsOneCode (initializer_of k)) a b
super_code_grows k a b g =
    grows_as (IsSuperCall k.exception) (IsOneCode (initializer_of k)) a b
    (λ q c h. inr (super-named k.exception q c h k.name)) g

whole : (index : ℕ) → (super_attr index).code ≡ flat_map bytes_of (super_call index)
whole index =
    ap (λ (bytes : List ℕ). spelling (AloadShort 0) ++ (spelling (Invokespecial index) ++ bytes))
    (sym (append-nil (spelling Return)))

super-placed : (exception : Bool) (name : List ℕ) (q : List Constant) (index : ℕ)
    → AllByRecursion IsWritable (super_call index)
    → IsMethodAt q index (above exception) (codes "<init>") (codes "()V")
    → IsPlaced q (record {
      items = initializer_code (above exception);
      handlers = [];
      max_stack = 1;
      max_locals = 1;
      start = slot.Class name ∷ [];
      frames = [];
    }) (super_attr index)
super-placed true name q index w h = record {
  indices = 0 ∷ index ∷ 0 ∷ [];
  named = (tt, (h, (tt, tt)));
  writable = w;
  bytes = whole index;
  catches = tt;
  max_stack = refl;
  max_locals = refl;
  attributes = refl;
}
super-placed false name q index w h = record {
  indices = 0 ∷ index ∷ 0 ∷ [];
  named = (tt, (h, (tt, tt)));
  writable = w;
  bytes = whole index;
  catches = tt;
  max_stack = refl;
  max_locals = refl;
  attributes = refl;
}

-- without frames there is no attribute
no-frames : (frames : Bool) (q : List Constant) (code : Labelled) (fs : List PlacedFrame) → fs ≡ []
    → AreAttributes q code (if frames then fs else []) []
no-frames true q code fs e =
    subst (λ (gs : List PlacedFrame). AreAttributes q code gs []) (sym e) refl
no-frames false q code fs e = refl

pub super_code_stays : (frames : Bool) (k : ClassInfo) (pool : List Constant) (index : ℕ)
    → AllByRecursion IsWritable (super_call index)
    → Stays pool (λ q. IsMethodAt q index (above k.exception) (codes "<init>") (codes "()V"))
    → Stays pool (λ q. IsCodeWith frames q (Some (initializer_of k)) (Some (super_attr index)))
super_code_stays frames k pool index w s =
    λ later e. let p = super-placed k.exception k.name later index w (s later e) in record {
      placed_ = p;
      attributes = no-frames frames later (initializer_of k)
          (frames_of (initializer_of k) p.indices) refl;
    }

pub super_fits : (pool : List Constant) (index : ℕ)
    → Stays pool (λ q. CodeFits q (Some (super_attr index)))
super_fits pool index = λ later e short. record {
  max_stack = omega arith;
  max_locals = omega arith;
  length_ = refl;
  catches = (omega arith, tt);
  attributes = (omega arith, tt);
}

-- ---- the length of code

catch-long : (c : Catch) → length (catch c) ≡ 8
unfolding catch
catch-long c = refl

catches-long : (cs : List Catch) → length (flat_map catch cs) ≡ 8 * length cs
catches-long [] = refl
catches-long (c ∷ cs) =
    omega (arith, length-append (catch c) (flat_map catch cs), catch-long c, catches-long cs)

pub attribute_long : (a : Attribute) → length (attribute a) ≡ 6 + length a.bytes
unfolding attribute
attribute_long a = omega arith

pub code_long : (c : CodeAttr) → length (code c)
    ≡ length c.code + 8 * length c.catches + 12 + length (flat_map attribute c.attributes)
unfolding code
code_long c =
    let attributes = u2 (length c.attributes) ++ flat_map attribute c.attributes in
    omega (
      arith,
      length-append c.code (u2 (length c.catches) ++ flat_map catch c.catches ++ attributes),
      length-append (flat_map catch c.catches) attributes,
      catches-long c.catches,
    )

-- one short attribute at most
few-long : (attributes : List Attribute) → length attributes ≤ 1 → AreShort attributes
    → length (flat_map attribute attributes) ≤ LONGEST_CLASS + 6
few-long [] few short = omega arith
few-long (a ∷ []) few short =
    omega (arith, length-append (attribute a) [], attribute_long a, short.0)
few-long (a ∷ b ∷ more) few short = absurd (omega (arith, few))

-- code with one short attribute at most is short enough for an attribute
pub code_short : (pool : List Constant) (attr : CodeAttr) → FitsCode pool attr
    → length attr.attributes ≤ 1 → AreShort attr.attributes → length (code attr) < 2 ^ 32
code_short pool attr fits few short =
    let most = leb-true (length attr.code) 65535
    (and_parts (nat_lt 0 (length attr.code)) (nat_le (length attr.code) 65535) fits.length_).1 in
    omega (
      arith,
      code_long attr,
      fits.catches.0,
      most,
      few-long attr.attributes few short,
    )

pub super_short : (index : ℕ) → IsShort (Some (super_attr index))
super_short index = λ short. omega (arith, code_long (super_attr index))

-- short attributes have few enough bytes to be written
pub short_sized : (attributes : List Attribute) → AreShort attributes → AreSized attributes
short_sized [] h = tt
short_sized (a ∷ more) h = (omega (arith, h.0), short_sized more h.1)
