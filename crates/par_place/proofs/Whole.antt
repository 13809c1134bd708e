-- What is placed has the offsets of its labels, and a spelling.
use Rattle.std.proofs.Common.{◌≡◌, ℕ, zero, suc, ◌+◌, ◌*◌, ◌<◌, ◌≤◌, ◌^◌, List, []}
use Rattle.std.proofs.Common.{◌∷◌, length, refl, sym, ap, subst, ◌∙◌, arith, inl, inr}
use Rattle.std.proofs.Common.{length-append}
use Rattle.std.specs.Prelude.{ℤ, pos, ◌-ℤ◌, nat_lt, nat_le, ◌==◌, ◌&&◌, IsTrue}
use Rattle.std.specs.Prelude.{slice_index, All, sum_by}
use Rattle.std.specs.List.{flat_map, AllZip, AllByRecursion}
use Rattle.std.proofs.lemmas.Bool.{and_from, or_right, lt-ltb, le-leb}
use Rattle.std.proofs.lemmas.Option.{slice_get_within, get_or_from_slice_get}
use Rattle.std.proofs.lemmas.List.Elements.{All-head, All-tail, All-weaker}
use Rattle.std.proofs.lemmas.Slice.Zip.{AllZip-long}
use Rattle.par_pool.specs.declared.constant.Constant.{Constant}
use Rattle.par_pool.specs.Entries.{entry_at, IsAt, IsClassAt}
use Rattle.par_pool.specs.Growth.{Adds}
use Rattle.par_pool.specs.Spelling.{is_class}
use Rattle.par_pool.proofs.Growth.{adds_then}
use Rattle.par_class.specs.declared.file.Catch.{Catch}
use Rattle.par_class.specs.declared.file.CodeAttr.{CodeAttr}
use Rattle.par_class.specs.Spelling.{FitsCatch, FitsCode, FitsAttribute, AllFit}
use Rattle.par_class.specs.Spelling.{catches_class}
use Rattle.par_code_form.specs.declared.item.Item.{Item}
use Rattle.par_code_form.specs.declared.item.Item.TheVariants.{Label, Op, Const}
use Rattle.par_code_form.specs.declared.item.Item.TheVariants.{Jump, Member}
use Rattle.par_code_form.specs.declared.item.Item.TheVariants.{ClassOp, LockOp}
use Rattle.par_code_form.specs.declared.labelled.Handler.{Handler}
use Rattle.par_code_form.specs.declared.labelled.Labelled.{Labelled}
use Rattle.par_code_form.specs.Instructions.{instruction}
use Rattle.par_code_form.specs.PoolNames.{full_name, Names, IsNamedIn, IsCaughtIn}
use Rattle.par_code_form.specs.PoolNames.{IsConstantOf, entry_count, entries}
use Rattle.par_code_form.specs.Placed.{size, offset_of, distance, instructions, IsCatch, bytes_of}
use Rattle.par_code_form.specs.Placed.{offset_at, IsWritable, IsPlaced}
use Rattle.par_code_form.specs.Placeable.{StandsOnce, FitsItem, HasTarget, FitsHandler}
use Rattle.par_code_form.specs.Placeable.{HasInstruction, MOST_BYTES, IsPlaceable}
use Rattle.par_place.specs.Offsets.{HasOffsets, HasOffset, HasLabels, AreSmall}
use Rattle.par_place.specs.Labels.{IsPlacedAt}
use Rattle.par_place.proofs.Sizes.{offset_is, upto_le, upto_less, code_length}
use Rattle.par_place.proofs.Growth.{all_names_kept, named_kept}

module _ (items : List Item) (indices offsets : List ℕ) (have : HasOffsets items indices offsets)
  where
    within : (l : ℕ) → StandsOnce items l → l < length offsets
    within l once = slice_get_within offsets l (offset_of items indices l) (have l once)

    same : (l : ℕ) → StandsOnce items l → slice_index offsets l ≡ offset_of items indices l
    same l once = get_or_from_slice_get offsets l (offset_of items indices l) 0 (have l once)

    target-within : (x : Item) → HasTarget items x → HasOffset offsets x
    target-within (Label l) h = tt
    target-within (Op i) h = tt
    target-within (Const v) h = tt
    target-within (Jump opcode l) h = within l h
    target-within (Member opcode class name kind) h = tt
    target-within (ClassOp opcode class) h = tt
    target-within (LockOp opcode lock) h = tt

    -- each branch goes to a label whose offset is there
    pub targets_within : (xs : List Item) → All (HasTarget items) xs → All (HasOffset offsets) xs
    targets_within xs h = All-weaker (HasTarget items) (HasOffset offsets) target-within xs h

    labels-within : (h : Handler) → FitsHandler items h → HasLabels offsets h
    labels-within h fits = record {
      text = fits.text;
      from = within h.from fits.from_once;
      to = within h.to fits.to_once;
      goes = within h.goes fits.goes_once;
    }

    pub all_labels_within : (hs : List Handler) → All (FitsHandler items) hs
        → All (HasLabels offsets) hs
    all_labels_within hs h = All-weaker (FitsHandler items) (HasLabels offsets) labels-within hs h

    distance-same : (at : ℕ) (x : Item) → HasTarget items x
        → distance (slice_index offsets) at x ≡ distance (offset_of items indices) at x
    distance-same at (Label l) h = refl
    distance-same at (Op i) h = refl
    distance-same at (Const v) h = refl
    distance-same at (Jump opcode l) h = ap (λ (o : ℕ). pos o -ℤ pos at) (same l h)
    distance-same at (Member opcode class name kind) h = refl
    distance-same at (ClassOp opcode class) h = refl
    distance-same at (LockOp opcode lock) h = refl

    -- the list has the offsets that the instructions ask for
    pub instructions_same : (at : ℕ) (xs : List Item) (ns : List ℕ) → All (HasTarget items) xs
        → instructions (slice_index offsets) at xs ns
        ≡ instructions (offset_of items indices) at xs ns
    instructions_same at [] ns h = refl
    instructions_same at (x ∷ xs) [] h = refl
    instructions_same at (x ∷ xs) (n ∷ ns) h =
        ap (λ (z : ℤ). instruction n z x
        ∷ instructions (slice_index offsets) (at + size x n) xs ns)
        (distance-same at x (All-head (HasTarget items) x xs h))
        ∙ ap (λ is. instruction n (distance (offset_of items indices) at x) x ∷ is)
        (instructions_same (at + size x n) xs ns (All-tail (HasTarget items) x xs h))

    catch-same : (pool : List Constant) (h : Handler) (c : Catch) → FitsHandler items h
        → IsCatch pool (slice_index offsets) h c → IsCatch pool (offset_of items indices) h c
    catch-same pool h c fits is = record {
      start = is.start ∙ same h.from fits.from_once;
      end = is.end ∙ same h.to fits.to_once;
      handler = is.handler ∙ same h.goes fits.goes_once;
      class = is.class;
    }

    pub catches_same : (pool : List Constant) (hs : List Handler) (cs : List Catch)
        → All (FitsHandler items) hs → AllZip (IsCatch pool (slice_index offsets)) hs cs
        → AllZip (IsCatch pool (offset_of items indices)) hs cs
    catches_same pool [] [] fits are = are
    catches_same pool [] (c ∷ cs) fits are = are
    catches_same pool (h ∷ hs) [] fits are = are
    catches_same pool (h ∷ hs) (c ∷ cs) fits are = (
      catch-same pool h c (All-head (FitsHandler items) h hs fits) are.0,
      catches_same pool hs cs (All-tail (FitsHandler items) h hs fits) are.1,
    )

-- ---- handlers have a spelling

index-within : (pool : List Constant) (i : ℕ) (c : Constant) → IsAt pool i c → i ≤ length pool
index-within pool zero c h = omega arith
index-within pool (suc i) c h = omega (arith, slice_get_within pool i c h)

catches-it : (pool : List Constant) (i : ℕ) (name : List ℕ) → IsClassAt pool i name
    → IsTrue (catches_class pool i)
catches-it pool i name h = or_right (i == 0) (is_class (entry_at pool i)) (ap is_class h.entry)

module _ (pool : List Constant) (items : List Item) (indices : List ℕ) (len : ℕ)
    (few : length pool < 65535) (whole : len ≡ offset_at (length items) items indices)
    (short : len ≤ MOST_BYTES) (paired : length items ≡ length indices)
    (fit : All FitsItem items) where
  catch-fits : (h : Handler) (c : Catch) → FitsHandler items h
      → IsCatch pool (offset_of items indices) h c → FitsCatch pool len c
  catch-fits h c fits is = record {
    start = omega (arith, starts, covered, ends, whole, short);
    end = omega (arith, stops, ends, whole, short);
    handler = omega (arith, begins, leads, whole, short);
    class = (
      omega (arith, few, index-within pool c.class _ is.class.entry),
      catches-it pool c.class (full_name h.class) is.class,
    );
    range =
        and_from (nat_lt c.start c.end && nat_le c.end len) (nat_lt c.handler len)
        (and_from (nat_lt c.start c.end) (nat_le c.end len)
        (lt-ltb c.start c.end (omega (arith, starts, stops, covered)))
        (le-leb c.end len (omega (arith, stops, ends, whole))))
        (lt-ltb c.handler len (omega (arith, begins, leads, whole)));
  }
    where
      starts : c.start ≡ offset_at fits.covers.start items indices
      starts =
          is.start
          ∙ offset_is h.from fits.covers.start items indices fits.covers.begins paired
          fits.from_once

      stops : c.end ≡ offset_at fits.covers.end items indices
      stops =
          is.end
          ∙ offset_is h.to fits.covers.end items indices fits.covers.ends paired fits.to_once

      begins : c.handler ≡ offset_at fits.leads.at items indices
      begins =
          is.handler
          ∙ offset_is h.goes fits.leads.at items indices fits.leads.begins paired fits.goes_once

      covered : offset_at fits.covers.start items indices < offset_at fits.covers.end items indices
      covered =
          upto_less fits.covers.start fits.covers.inside fits.covers.end fits.covers.covered.item
          items indices (omega (arith, fits.covers.behind)) fits.covers.before
          fits.covers.covered.stands fits.covers.covered.is paired fit

      ends : offset_at fits.covers.end items indices ≤ offset_at (length items) items indices
      ends =
          let inside =
          slice_get_within items fits.covers.end (Label h.to) fits.covers.ends in
          upto_le fits.covers.end (length items) items indices (omega (arith, inside))

      leads : offset_at fits.leads.at items indices < offset_at (length items) items indices
      leads =
          upto_less fits.leads.at fits.leads.behind (length items) fits.leads.leads.item items
          indices (omega (arith, fits.leads.later))
          (slice_get_within items fits.leads.behind fits.leads.leads.item fits.leads.leads.stands)
          fits.leads.leads.stands fits.leads.leads.is paired fit

  pub catches_fit : (hs : List Handler) (cs : List Catch) → All (FitsHandler items) hs
      → AllZip (IsCatch pool (offset_of items indices)) hs cs
      → AllByRecursion (FitsCatch pool len) cs
  catches_fit [] [] fits are = tt
  catches_fit [] (c ∷ cs) fits are = absurd are
  catches_fit (h ∷ hs) [] fits are = absurd are
  catches_fit (h ∷ hs) (c ∷ cs) fits are = (
    catch-fits h c (All-head (FitsHandler items) h hs fits) are.0,
    catches_fit hs cs (All-tail (FitsHandler items) h hs fits) are.1,
  )

  -- some byte is there
  pub code_some : HasInstruction items → 0 < len
  code_some h =
      omega (
        arith,
        whole,
        upto_less 0 h.0 (length items) h.1.item items indices (omega arith)
            (slice_get_within items h.0 h.1.item h.1.stands) h.1.stands h.1.is paired fit,
      )

-- ---- the whole

-- What is known of the parts of placed code.
pub record IsDrafted (code : Labelled) (pool : List Constant) (indices offsets bytes : List ℕ)
    (catches : List Catch) : Type 0 where
  pub named : AllZip (Names pool) code.items indices
  pub labels : HasOffsets code.items indices offsets
  pub spelled :
      bytes ≡ flat_map bytes_of (instructions (slice_index offsets) 0 code.items indices)
  pub writable :
      AllByRecursion IsWritable (instructions (slice_index offsets) 0 code.items indices)
  pub short : length bytes ≤ MOST_BYTES
  pub caught : AllZip (IsCatch pool (slice_index offsets)) code.handlers catches

-- the slices that were handed on have the items of the lists
pub drafted : (code : Labelled) (mid pool : List Constant) (xs : List Item) (hs : List Handler)
    (indices ns ks offsets os ps bytes : List ℕ) (catches : List Catch) → xs ≡ code.items
    → hs ≡ code.handlers → ns ≡ indices → ks ≡ indices → os ≡ offsets → ps ≡ offsets
    → Adds mid pool (2 * length hs) (IsCaughtIn pool hs) → AllZip (Names mid) xs indices
    → HasOffsets xs ns offsets
    → bytes ≡ flat_map bytes_of (instructions (slice_index os) 0 xs ks)
    → AllByRecursion IsWritable (instructions (slice_index os) 0 xs ks)
    → length bytes ≤ MOST_BYTES → AllZip (IsCatch pool (slice_index ps)) hs catches
    → IsDrafted code pool indices offsets bytes catches
drafted code mid pool xs hs indices ns ks offsets os ps bytes catches xs-is hs-is ns-is ks-is os-is
    ps-is added named labels spelled writable short caught = record {
      named =
          all_names_kept mid pool (2 * length hs) (IsCaughtIn pool hs) added code.items indices
          (subst (λ ys. AllZip (Names mid) ys indices) xs-is named);
      labels =
          subst (λ ys. HasOffsets ys indices offsets) xs-is
          (subst (λ ms. HasOffsets xs ms offsets) ns-is labels);
      spelled = spelled ∙ ap (λ is. flat_map bytes_of is) same;
      writable = subst (AllByRecursion IsWritable) same writable;
      short = short;
      caught =
          subst (λ fs. AllZip (IsCatch pool (slice_index offsets)) fs catches) hs-is
          (subst (λ qs. AllZip (IsCatch pool (slice_index qs)) hs catches) ps-is caught);
    }
  where
    same : instructions (slice_index os) 0 xs ks
        ≡ instructions (slice_index offsets) 0 code.items indices
    same =
        ap (λ (qs : List ℕ). instructions (slice_index qs) 0 xs ks) os-is
        ∙ ap (λ (ys : List Item). instructions (slice_index offsets) 0 ys ks) xs-is
        ∙ ap (λ (ms : List ℕ). instructions (slice_index offsets) 0 code.items ms) ks-is

pub placed : (code : Labelled) (pool : List Constant) (indices offsets bytes : List ℕ)
    (catches : List Catch) (attr : CodeAttr) → IsPlaceable code
    → IsDrafted code pool indices offsets bytes catches → attr.code ≡ bytes
    → attr.catches ≡ catches → attr.max_stack ≡ code.max_stack
    → attr.max_locals ≡ code.max_locals → attr.attributes ≡ [] → IsPlaced pool code attr
placed code pool indices offsets bytes catches attr can d code-is catches-is stack locals none =
    let same = instructions_same code.items indices offsets d.labels 0 code.items indices
    can.targets in
    record {
      indices = indices;
      named = d.named;
      writable = subst (AllByRecursion IsWritable) same d.writable;
      bytes = code-is ∙ d.spelled ∙ ap (λ is. flat_map bytes_of is) same;
      catches =
          subst (λ cs. AllZip (IsCatch pool (offset_of code.items indices)) code.handlers cs)
          (sym catches-is)
          (catches_same code.items indices offsets d.labels pool code.handlers catches can.handlers
          d.caught);
      max_stack = stack;
      max_locals = locals;
      attributes = none;
    }

-- the same beside the offsets of the labels
pub placed_at : (code : Labelled) (pool : List Constant) (indices offsets bytes : List ℕ)
    (catches : List Catch) (attr : CodeAttr) → IsPlaceable code
    → IsDrafted code pool indices offsets bytes catches → attr.code ≡ bytes
    → attr.catches ≡ catches → attr.max_stack ≡ code.max_stack
    → attr.max_locals ≡ code.max_locals → attr.attributes ≡ [] → AreSmall offsets
    → IsPlacedAt pool code attr offsets
unfolding placed
placed_at code pool indices offsets bytes catches attr can d code-is catches-is stack locals none
    small = record {
      placed_ =
          placed code pool indices offsets bytes catches attr can d code-is catches-is stack locals
          none;
      labels = d.labels;
      small = small;
    }

-- how many entries there are in the end
pub few_entries : (old new : List Constant) (few : ℕ) (P : Constant → Type 0) → Adds old new few P
    → length old + few < 65535 → length new < 65535
few_entries old new few P a room =
    omega (arith, ap length a.behind ∙ length-append old a.more, a.number, room)

pub spelled_code : (code : Labelled) (pool : List Constant) (indices offsets bytes : List ℕ)
    (catches : List Catch) (attr : CodeAttr) → IsPlaceable code
    → IsDrafted code pool indices offsets bytes catches → attr.code ≡ bytes
    → attr.catches ≡ catches → attr.attributes ≡ [] → attr.max_stack < 2 ^ 16
    → attr.max_locals < 2 ^ 16 → length pool < 65535 → length code.handlers < 2 ^ 16
    → FitsCode pool attr
spelled_code code pool indices offsets bytes catches attr can d code-is catches-is none stack locals
    few handlers = record {
      max_stack = stack;
      max_locals = locals;
      length_ =
          and_from (nat_lt 0 (length attr.code)) (nat_le (length attr.code) 65535)
          (lt-ltb 0 (length attr.code) (omega (arith, some, same)))
          (le-leb (length attr.code) 65535 (omega (arith, same, d.short)));
      catches =
          subst (λ cs. AllFit (FitsCatch pool (length attr.code)) cs) (sym catches-is) (
            omega (
              arith,
              AllZip-long (IsCatch pool (slice_index offsets)) code.handlers catches
                  d.caught,
              handlers,
            ),
            subst (λ len. AllByRecursion (FitsCatch pool len) catches) (sym same)
                (catches_fit pool code.items indices (length bytes) few whole d.short paired
                can.items code.handlers catches can.handlers
                (catches_same code.items indices offsets d.labels pool code.handlers catches
                can.handlers d.caught)),
          );
      attributes = subst (λ as'. AllFit (FitsAttribute pool) as') (sym none) (omega arith, tt);
    }
  where
    same : length attr.code ≡ length bytes
    same = ap length code-is

    paired : length code.items ≡ length indices
    paired = sym (AllZip-long (Names pool) code.items indices d.named)

    whole : length bytes ≡ offset_at (length code.items) code.items indices
    whole =
        ap length d.spelled ∙ code_length (slice_index offsets) 0 code.items indices paired

    some : 0 < length bytes
    some =
        code_some pool code.items indices (length bytes) few whole d.short paired can.items
        can.instruction

-- the growth by what the items name, and then by what the handlers name
pub whole_added : (a b c : List Constant) (code : Labelled) (xs : List Item) (hs : List Handler)
    → xs ≡ code.items → hs ≡ code.handlers
    → Adds a b (sum_by entries xs) (IsNamedIn b xs)
    → Adds b c (2 * length hs) (IsCaughtIn c hs)
    → Adds a c (entry_count code) (IsConstantOf c code)
whole_added a b c code xs hs xs-is hs-is p q =
    let first : Adds a b (sum_by entries code.items) (IsNamedIn b code.items) =
    subst (λ (ys : List Item). Adds a b (sum_by entries ys) (IsNamedIn b ys)) xs-is
    p in
    let second : Adds b c (2 * length code.handlers) (IsCaughtIn c code.handlers) =
    subst (λ (fs : List Handler). Adds b c (2 * length fs) (IsCaughtIn c fs)) hs-is q in
    adds_then a b c (sum_by entries code.items) (2 * length code.handlers)
    (entry_count code) (IsNamedIn b code.items) (IsCaughtIn c code.handlers)
    (IsConstantOf c code) first second (omega arith)
    (λ k h. inl (named_kept b c (2 * length code.handlers) (IsCaughtIn c code.handlers) second
    code.items k h)) (λ k h. inr h)
