-- The frames of placed code stand at instructions, and where they are needed.
use Rattle.std.proofs.Common.{◌≡◌, ℕ, suc, ◌+◌, ◌-◌, ◌≤◌, Bool, true, false, List, []}
use Rattle.std.proofs.Common.{◌∷◌, ◌++◌, length, drop, Option, Some, None, refl, sym, ap, subst}
use Rattle.std.proofs.Common.{◌∙◌, arith, inl, inr}
use Rattle.std.specs.Prelude.{ℤ, pos, ◌+ℤ◌, ◌-ℤ◌, ◌==◌, ◌⊎◌, if◌then◌else◌, IsTrue, is_some, All}
use Rattle.std.specs.Prelude.{Contains, count_by}
use Rattle.std.specs.List.{flat_map, AllZip, AllByRecursion}
use Rattle.std.proofs.Math.IntN.{+ℤ_comm, -ℤ-+ℤ_cancel}
use Rattle.std.proofs.lemmas.Bool.{eq-eqb, eqb-true}
use Rattle.std.proofs.lemmas.List.{length-map}
use Rattle.std.proofs.lemmas.List.Sums.{sum_by-cons}
use Rattle.std.proofs.lemmas.List.Elements.{All-contains, All-from_recursion}
use Rattle.par_policy.proofs.Ordered.{Contains-nil, Contains-cons_cases, Contains-first}
use Rattle.par_policy.proofs.Ordered.{Contains-later}
use Rattle.par_instr.specs.declared.instr.Instr.{Instr}
use Rattle.par_instr.specs.Decoding.{Decoded, decoded_at}
use Rattle.par_instr.proofs.Decodings.{decoded_at-stands}
use Rattle.par_pool.specs.declared.constant.Constant.{Constant}
use Rattle.par_class.specs.declared.file.Catch.{Catch}
use Rattle.par_class.specs.declared.file.CodeAttr.{CodeAttr}
use Rattle.par_single.specs.Walk.{starts_at}
use Rattle.par_code_form.specs.declared.item.Item.{Item}
use Rattle.par_code_form.specs.declared.item.Item.TheVariants.{Label, Op, Const, Jump, Member}
use Rattle.par_code_form.specs.declared.item.Item.TheVariants.{ClassOp, LockOp}
use Rattle.par_code_form.specs.declared.labelled.Handler.{Handler}
use Rattle.par_code_form.specs.declared.labelled.LabelFrame.{LabelFrame}
use Rattle.par_code_form.specs.declared.labelled.Labelled.{Labelled}
use Rattle.par_code_form.specs.Instructions.{instruction, is_instruction}
use Rattle.par_code_form.specs.PoolNames.{Names}
use Rattle.par_code_form.specs.Placed.{is_label, offset_of, offset_at, distance, instructions}
use Rattle.par_code_form.specs.Placed.{bytes_of, IsCatch, IsPlaced}
use Rattle.par_code_form.specs.Placeable.{StandsOnce, FitsItem}
use Rattle.par_code_form.specs.PlaceableFrames.{FitsFrame, AreFramesPlaceable}
use Rattle.par_place.proofs.Sizes.{bit, offset_is, code_length}
use Rattle.par_place.proofs.Standing.{placed_stand}
use Rattle.par_placed_run_laws.proofs.Walk.{starts_there}
use Rattle.par_framing.specs.par_kinds.declared.frame.PlacedFrame.{PlacedFrame}
use Rattle.par_framing.specs.par_kinds.Acts.{Flow, Onward, Jumps, Branches, Nowhere}
use Rattle.par_framing.specs.par_frames.Needed.{flow_at, unless_end, needs, IsNeededBy, IsNeeded}
use Rattle.par_framing.specs.par_frames.Broken.{IsPlacedIn, HasFrame}
use Rattle.par_framing.specs.par_compile_laws.Framed.{kind_of, placed, placed_at, frame_at}
use Rattle.par_framing.specs.par_compile_laws.Framed.{frame_of, before}
use Rattle.par_framing.specs.par_compile_laws.Framed.{last_ones, frames_of}
use Rattle.par_framing.proofs.Written.{frame_once, each_written}
use Rattle.par_framed_file_laws.specs.Met.{has_frame, lands, HasNeededFrames}
use Rattle.par_framed_file_laws.specs.NeededLaws.{PlacedCodeIsFramed}
use Rattle.par_framed_file_laws.proofs.Starts.{stands_back}
use Rattle.par_framed_file_laws.proofs.Places.{next_is, Landing, framed, ended, landing, met_at}
use Rattle.par_framed_file_laws.proofs.Flows.{IsToFrame, Meets, item_meets}

zip_length : {A B : Type 0} (R : A → B → Type 0) (xs : List A) (ys : List B) → AllZip R xs ys
    → length xs ≡ length ys
zip_length R [] [] h = refl
zip_length R [] (y ∷ ys) h = absurd h
zip_length R (x ∷ xs) [] h = absurd h
zip_length R (x ∷ xs) (y ∷ ys) h = ap suc (zip_length R xs ys h.1)

distance_back : (from to : ℕ) → pos from +ℤ (pos to -ℤ pos from) ≡ pos to
distance_back from to =
    +ℤ_comm (pos from) (pos to -ℤ pos from) ∙ -ℤ-+ℤ_cancel (pos to) (pos from)

-- ---- which offsets have frames

-- one of the frames stands at an offset
abbrev IsAmong : List PlacedFrame → ℕ → Type 0
IsAmong [] at = ⊥
IsAmong (f ∷ fs) at = (f.offset ≡ at) ⊎ IsAmong fs at

among_later : (fs gs : List PlacedFrame) (at : ℕ) → IsAmong gs at → IsAmong (fs ++ gs) at
among_later [] gs at h = h
among_later (f ∷ fs) gs at h = inr (among_later fs gs at h)

among_before : (f : PlacedFrame) (fs : List PlacedFrame) (at : ℕ)
    → (f.offset ≡ at) ⊎ IsAmong fs at → IsAmong (before f fs) at
among_before f [] at h = h
among_before f (g ∷ gs) at h = choose (f.offset == g.offset) refl h
  where
    choose : (b : Bool) → (f.offset == g.offset) ≡ b → (f.offset ≡ at) ⊎ IsAmong (g ∷ gs) at
        → IsAmong (if b then g ∷ gs else f ∷ g ∷ gs) at
    choose true same (inl is) = inl (sym (eqb-true f.offset g.offset same) ∙ is)
    choose true same (inr later) = later
    choose false same h = h

-- of frames at one offset the last stays
among_last : (fs : List PlacedFrame) (at : ℕ) → IsAmong fs at → IsAmong (last_ones fs) at
among_last [] at h = h
among_last (f ∷ fs) at (inl is) = among_before f (last_ones fs) at (inl is)
among_last (f ∷ fs) at (inr later) =
    among_before f (last_ones fs) at (inr (among_last fs at later))

has_among : (fs : List PlacedFrame) (at : ℕ) → IsAmong fs at → HasFrame fs (pos at)
has_among [] at h = absurd h
has_among (f ∷ fs) at (inl is) =
    record { frame = f; there = Contains-first f fs; at = ap pos (sym is) }
has_among (f ∷ fs) at (inr later) =
    let h = has_among fs at later in
    record { frame = h.frame; there = Contains-later f fs h.frame h.there; at = h.at }

-- a label that has a frame and stands in items
module _ (offset : ℕ → ℕ) (frames : List LabelFrame) (l : ℕ) (g : LabelFrame)
    (found : frame_at frames l ≡ Some g) where
  at_label : (k : ℕ) → k ≡ l → (more : List PlacedFrame)
      → IsAmong (frame_of offset frames (Label k) ++ more) (offset l)
  at_label k same more =
      subst (λ (n : ℕ). IsAmong (frame_of offset frames (Label n) ++ more) (offset l)) (sym same)
      (subst (λ (o : Option LabelFrame). IsAmong (placed_at (offset l) o ++ more) (offset l))
      (sym found) (inl refl))

  among_items : (xs : List Item) → 1 ≤ count_by (is_label l) xs
      → IsAmong (flat_map (frame_of offset frames) xs) (offset l)
  among_items [] h = absurd (omega (arith, h))
  among_items (x ∷ xs) h = in_case x (is_label l x) refl (among_items xs)
      (omega (arith, h, sum_by-cons (λ y. bit (is_label l y)) x xs))
    where
      behind : (y : Item) → (1 ≤ count_by (is_label l) xs
          → IsAmong (flat_map (frame_of offset frames) xs) (offset l))
          → is_label l y ≡ false → 1 ≤ bit (is_label l y) + count_by (is_label l) xs
          → IsAmong (frame_of offset frames y ++ flat_map (frame_of offset frames) xs) (offset l)
      behind y later none few =
          let none_is : bit (is_label l y) ≡ 0 = ap bit none in
          among_later (frame_of offset frames y) (flat_map (frame_of offset frames) xs) (offset l)
          (later (omega (arith, few, none_is)))

      in_case : (y : Item) (b : Bool) → is_label l y ≡ b
          → (1 ≤ count_by (is_label l) xs
          → IsAmong (flat_map (frame_of offset frames) xs) (offset l))
          → 1 ≤ bit (is_label l y) + count_by (is_label l) xs
          → IsAmong (frame_of offset frames y ++ flat_map (frame_of offset frames) xs) (offset l)
      in_case y false is later few = behind y later is few
      in_case (Label k) true is later few = at_label k (eqb-true k l is) _
      in_case (Op i) true is later few = absurd (cc is)
      in_case (Const v) true is later few = absurd (cc is)
      in_case (Jump o k) true is later few = absurd (cc is)
      in_case (Member o c m d) true is later few = absurd (cc is)
      in_case (ClassOp o c) true is later few = absurd (cc is)
      in_case (LockOp o k) true is later few = absurd (cc is)

module _ (pool : List Constant) (code : Labelled) (attr : CodeAttr)
    (stands : IsPlaced pool code (record attr { attributes = [] })) (fit : All FitsItem code.items)
    (can : AreFramesPlaceable code) (met : HasNeededFrames code) where
  abbrev items : List Item
  items = code.items

  abbrev ns : List ℕ
  ns = stands.indices

  abbrev offset : ℕ → ℕ
  offset = offset_of items ns

  abbrev has : ℕ → Bool
  has = has_frame code.frames

  abbrev fs : List PlacedFrame
  fs = frames_of code ns

  long : length items ≡ length ns
  long = zip_length (Names pool) items ns stands.named

  code_ends : length attr.code ≡ offset_at (length items) items ns
  code_ends =
      ap (λ (bytes : List ℕ). length bytes) stands.bytes
      ∙ code_length offset 0 items ns long

  -- a frame for each label that has one
  has_label : (l : ℕ) → has l ≡ true → HasFrame fs (pos (offset l))
  has_label l is = in_case (frame_at code.frames l) refl is
    where
      in_case : (o : Option LabelFrame) → frame_at code.frames l ≡ o → is_some o ≡ true
          → HasFrame fs (pos (offset l))
      in_case None none h = absurd (cc h)
      in_case (Some g) found h =
          let once = frame_once code can l g found in
          has_among fs (offset l)
          (among_last (flat_map (frame_of offset code.frames) items) (offset l)
          (among_items offset code.frames l g found items (omega (arith, once))))

  label_once : (l : ℕ) → has l ≡ true → StandsOnce items l
  label_once l is = in_case (frame_at code.frames l) refl is
    where
      in_case : (o : Option LabelFrame) → frame_at code.frames l ≡ o → is_some o ≡ true
          → StandsOnce items l
      in_case None none h = absurd (cc h)
      in_case (Some g) found h = frame_once code can l g found

  -- ---- at instructions

  placed_frame : (g : LabelFrame) → Contains code.frames g
      → IsPlacedIn attr (placed (offset g.label) g)
  placed_frame g among =
      let fits = All-contains (FitsFrame code) code.frames g can.fit among in
      let next = next_is fits.leads.at fits.leads.behind fits.leads.leads.item items ns
      (omega (arith, fits.leads.later)) fits.leads.leads.stands fits.leads.leads.is long in
      let same : offset_at next.place items ns ≡ offset g.label =
      next.offset
      ∙ sym (offset_is g.label fits.leads.at items ns fits.leads.begins long fits.once) in
      record {
        starts =
            subst (λ (bytes : List ℕ). starts_at bytes (offset g.label) ≡ true) (sym stands.bytes)
            (subst (λ (o : ℕ). starts_at (flat_map bytes_of (instructions offset 0 items ns)) o
            ≡ true) same
            (starts_there offset 0 next.place items ns next.item next.stands next.is long fit
            stands.writable));
        locals = omega (
          arith,
          length-map g.locals kind_of,
          fits.few_locals,
          stands.max_locals,
        );
        stack = omega (
          arith,
          length-map g.stack kind_of,
          fits.few_operands,
          stands.max_stack,
        );
      }

  all_placed : All (IsPlacedIn attr) fs
  all_placed =
      All-from_recursion (IsPlacedIn attr) fs
      (each_written (IsPlacedIn attr) offset code placed_frame)

  -- ---- where one is needed

  module _ (at size : ℕ) (rest : List Item) where
    abbrev Behind : Type 0
    Behind = lands has rest ≡ true → (at + size ≡ length attr.code) ⊎ HasFrame fs (pos (at + size))

    by_branch : (to goal : ℤ) → IsToFrame has offset at rest to
        → Contains ((pos at +ℤ to) ∷ []) goal → HasFrame fs goal
    by_branch to goal there among =
        first (Contains-cons_cases (pos at +ℤ to) [] goal among)
      where
        first : (goal ≡ pos at +ℤ to) ⊎ Contains [] goal → HasFrame fs goal
        first (inl is) =
            let same : goal ≡ pos (offset there.label) =
            is ∙ ap (λ (z : ℤ). pos at +ℤ z) there.is ∙ distance_back at (offset there.label) in
            subst (HasFrame fs) (sym same) (has_label there.label there.framed)
        first (inr none) = absurd (Contains-nil goal none)

    by_end : (goal : ℤ) → (at + size ≡ length attr.code) ⊎ HasFrame fs (pos (at + size))
        → Contains (unless_end (length attr.code) (at + size)) goal → HasFrame fs goal
    by_end goal (inl ends) among =
        absurd (Contains-nil goal
        (subst (λ (b : Bool). Contains (if b then [] else pos (at + size) ∷ []) goal)
        (eq-eqb (at + size) (length attr.code) ends) among))
    by_end goal (inr there) among = in_case ((at + size) == length attr.code) among
      where
        first : (goal ≡ pos (at + size)) ⊎ Contains [] goal → HasFrame fs goal
        first (inl is) = subst (HasFrame fs) (sym is) there
        first (inr none) = absurd (Contains-nil goal none)

        in_case : (b : Bool) → Contains (if b then [] else pos (at + size) ∷ []) goal
            → HasFrame fs goal
        in_case true h = absurd (Contains-nil goal h)
        in_case false h = first (Contains-cons_cases (pos (at + size)) [] goal h)

    by_flow : (f : Flow) (goal : ℤ) → Meets has offset at rest f → Behind
        → Contains (needs (length attr.code) f at size) goal → HasFrame fs goal
    by_flow Onward goal h behind among = absurd (Contains-nil goal among)
    by_flow (Branches to) goal h behind among = by_branch to goal h among
    by_flow (Jumps to) goal h behind among =
        first (Contains-cons_cases (pos at +ℤ to) (unless_end (length attr.code) (at + size)) goal
        among)
      where
        first : (goal ≡ pos at +ℤ to)
            ⊎ Contains (unless_end (length attr.code) (at + size)) goal → HasFrame fs goal
        first (inl is) =
            by_branch to goal h.0
            (subst (Contains ((pos at +ℤ to) ∷ [])) (sym is) (Contains-first (pos at +ℤ to) []))
        first (inr later) = by_end goal (behind h.1) later
    by_flow Nowhere goal h behind among = by_end goal (behind h) among

  -- behind a place that lands
  lands_there : (p at size : ℕ) → offset_at p items ns ≡ at + size → Landing has items ns p
      → (at + size ≡ length attr.code) ⊎ HasFrame fs (pos (at + size))
  lands_there p at size next (framed l place there is same) =
      let here : offset l ≡ at + size =
      offset_is l place items ns there long (label_once l is) ∙ same ∙ next in
      inr (subst (λ (o : ℕ). HasFrame fs (pos o)) here (has_label l is))
  lands_there p at size next (ended same) = inl (sym next ∙ sym same ∙ sym code_ends)

  needed_by : (at : ℕ) (goal : ℤ) → IsNeededBy attr.code at goal → HasFrame fs goal
  needed_by at goal n =
      let s = stands_back offset items ns 0 at long stands.writable
      (subst (λ (bytes : List ℕ). starts_at bytes at ≡ true) stands.bytes n.starts) in
      let made = instr_of s.item s.index (offset_at s.place items ns) s.is in
      let is = placed_stand pool code (record attr { attributes = [] }) stands s.place made.0
      (record {
        item = s.item;
        index = s.index;
        stands = s.stands;
        named = s.named;
        is = made.1;
      }) in
      let decoded = decoded_at-stands attr.code (offset_at s.place items ns) made.0
      (offset_at (suc s.place) items ns) is in
      let same : n.does ≡ record {
        instr = made.0;
        size = offset_at (suc s.place) items ns - offset_at s.place items ns;
      } =
      some_same (sym n.found ∙ ap (decoded_at attr.code) (sym s.offset) ∙ decoded) in
      let size : ℕ = offset_at (suc s.place) items ns - offset_at s.place items ns in
      let meets = item_meets has offset (offset_at s.place items ns) (drop (suc s.place) items)
      s.item s.index made.0 made.1 (met_at has items s.place s.item met.items s.stands) in
      let next : offset_at (suc s.place) items ns ≡ offset_at s.place items ns + size =
      omega (arith, is.begins) in
      by_flow (offset_at s.place items ns) size (drop (suc s.place) items) (flow_at made.0) goal
      meets
      (λ h. lands_there (suc s.place) (offset_at s.place items ns) size next
      (landing has (suc s.place) items ns long h))
      (subst (λ (o : ℕ). Contains (needs (length attr.code) (flow_at made.0) o size) goal)
      (sym s.offset)
      (subst (λ (d : Decoded). Contains (needs (length attr.code) (flow_at d.instr) at d.size) goal)
      same n.asked))
    where
      some_same : {A : Type 0} {x y : A} → Some x ≡ Some y → x ≡ y
      some_same e = cc e

      instr_of : (x : Item) (index o : ℕ) → IsTrue (is_instruction x)
          → (i : Instr) × (instruction index (distance offset o x) x ≡ Some i)
      instr_of (Label l) index o is = absurd (cc is)
      instr_of (Op i) index o is = (_, refl)
      instr_of (Const v) index o is = (_, refl)
      instr_of (Jump p l) index o is = (_, refl)
      instr_of (Member p c m d) index o is = (_, refl)
      instr_of (ClassOp p c) index o is = (_, refl)
      instr_of (LockOp p l) index o is = (_, refl)

  needed_catch : (hs : List Handler) (cs : List Catch) (c : Catch)
      → AllZip (IsCatch pool offset) hs cs → AllByRecursion (λ h. has h.goes ≡ true) hs
      → Contains cs c → HasFrame fs (pos c.handler)
  needed_catch [] [] c zip have among = absurd (Contains-nil c among)
  needed_catch [] (d ∷ cs) c zip have among = absurd zip
  needed_catch (h ∷ hs) [] c zip have among = absurd zip
  needed_catch (h ∷ hs) (d ∷ cs) c zip have among =
      first (needed_catch hs cs c zip.1 have.1) (Contains-cons_cases d cs c among)
    where
      first : (Contains cs c → HasFrame fs (pos c.handler)) → (c ≡ d) ⊎ Contains cs c
          → HasFrame fs (pos c.handler)
      first later (inl is) =
          subst (λ (o : ℕ). HasFrame fs (pos o))
          (sym (ap (λ (x : Catch). x.handler) is ∙ zip.0.handler)) (has_label h.goes have.0)
      first later (inr more) = later more

  needed : (goal : ℤ) → IsNeeded attr goal → HasFrame fs goal
  needed goal (inl (at, by)) = needed_by at goal by
  needed goal (inr (c, among, is)) =
      subst (HasFrame fs) (sym is)
      (needed_catch code.handlers attr.catches c stands.catches met.handlers among)

pub placed_code_is_framed : PlacedCodeIsFramed
placed_code_is_framed pool code attr stands fit can met = record {
  placed = all_placed pool code attr stands fit can met;
  needed = needed pool code attr stands fit can met;
}
