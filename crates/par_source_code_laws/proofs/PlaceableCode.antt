-- The code of a body that fits can be placed.
use Rattle.std.proofs.Common.{◌≡◌, ℕ, ◌+◌, ◌*◌, ◌<◌, ◌≤◌, Bool, true, false, List, [], ◌∷◌, ◌++◌}
use Rattle.std.proofs.Common.{length, Some, refl, ap, ◌∙◌, arith}
use Rattle.std.specs.Prelude.{slice_get, nat_lt, ◌==◌, count_by, take, replicate}
use Rattle.std.specs.Prelude.{◌-◌}
use Rattle.std.specs.List.{AllByRecursion}
use Rattle.std.proofs.Math.Seq.{get_or-append_seam}
use Rattle.std.proofs.lemmas.Bool.Decides.{nat_tests}
use Rattle.std.proofs.lemmas.List.{length-append, length-take, length-replicate}
use Rattle.std.proofs.lemmas.List.Elements.{All-from_recursion}
use Rattle.std.proofs.lemmas.Option.{slice_get-get_or}
use Rattle.par_typed.specs.declared.table.MethodInfo.{MethodInfo}
use Rattle.par_typed.specs.Plain.{TSta}
use Rattle.par_typed_laws.specs.par_completes.Typed.{completes}
use Rattle.par_code_form.specs.declared.item.Item.{Item}
use Rattle.par_code_form.specs.declared.item.Item.TheVariants.{Label, Op, Const}
use Rattle.par_code_form.specs.declared.item.Item.TheVariants.{Jump, Member}
use Rattle.par_code_form.specs.declared.item.Item.TheVariants.{ClassOp, LockOp}
use Rattle.par_code_form.specs.declared.labelled.Handler.{Handler}
use Rattle.par_code_form.specs.declared.labelled.LabelFrame.{LabelFrame}
use Rattle.par_code_form.specs.Code.{Words, labels, no_loop, ending, body_code}
use Rattle.par_code_form.specs.Code.{body_handlers}
use Rattle.par_code_form.specs.Operands.{top}
use Rattle.par_code_form.specs.Frames.{frames}
use Rattle.par_code_form.specs.Method.{labelled, first_scope, set_by_call}
use Rattle.par_code_form.specs.PoolNames.{entry_count, entries}
use Rattle.par_code_form.specs.Placeable.{most_bytes, FitsItem, StandsOnce, HasTarget}
use Rattle.par_code_form.specs.Placeable.{Covers, Leads, FitsHandler}
use Rattle.par_code_form.specs.Placeable.{HasInstruction, IsPlaceable}
use Rattle.par_code_form.specs.PlaceableFrames.{FitsFrame, AreFramesPlaceable}
use Rattle.par_typed.specs.declared.ty.Ty.TheVariants as ty
use Rattle.std.proofs.lemmas.List.Sums.{sum_by-cons}
use Rattle.par_source_code_laws.specs.Texts.{AreTexts}
use Rattle.par_typed_laws.specs.Sizes.{stmt_size}
use Rattle.par_typed_laws.specs.Blocks.{HasBlocks}
use Rattle.par_source_code_laws.proofs.Fitting.{StaFits}
use Rattle.par_source_code_laws.proofs.Ends.{IsEnd, here, past, chain, IsBefore, HasOp, at_head}
use Rattle.par_source_code_laws.proofs.Ends.{none}
use Rattle.par_source_code_laws.proofs.Spots.{sta_op}
use Rattle.par_source_code_laws.proofs.Counts.{bit, count, count_is, under, body_count}
use Rattle.par_source_code_laws.proofs.Light.{total_is, body_bytes, body_needs}
use Rattle.par_source_code_laws.proofs.PlaceableItems.{Good, sta_good, ending_good}
use Rattle.par_source_code_laws.proofs.Caught.{IsCovered, IsCaught, sta_caught}
use Rattle.par_source_code_laws.proofs.Framed.{IsFramed, sta_framed}
use Rattle.par_source_code_laws.proofs.Apart.{standing, sta_once}

-- ---- places

seam : (front : List Item) (x : Item) (xs : List Item)
    → slice_get (front ++ (x ∷ xs)) (length front) ≡ Some x
seam front x xs =
    slice_get-get_or (front ++ (x ∷ xs)) (length front) x
    (omega (arith, length-append front (x ∷ xs)))
    ∙ ap Some (get_or-append_seam front x xs x)

at_place : {x : Item} {xs ys : List Item} (e : IsEnd (x ∷ xs) ys)
    → slice_get ys (length e.front) ≡ Some x
at_place {x} {xs} e = ap (λ (zs : List Item). slice_get zs (length e.front)) e.is
    ∙ seam e.front x xs

longer : (a b : List Item) (x : Item) → length a < length ((a ++ (x ∷ [])) ++ b)
longer a b x = omega (arith, length-append (a ++ (x ∷ [])) b, length-append a (x ∷ []))

op_at : {xs ys : List Item} (b : IsBefore xs ys) → HasInstruction ys
op_at b = (length b.stands.front, record { item = b.item; stands = at_place b.stands; is = b.is })

leads_at : {l : ℕ} {rest whole : List Item} → IsEnd (Label l ∷ rest) whole → HasOp rest
    → Leads whole l
unfolding past chain
leads_at {l} e op =
    let i = chain op.stands (past e) in
    record {
      at = length e.front;
      behind = length i.front;
      begins = at_place e;
      later = longer e.front op.stands.front (Label l);
      leads = record { item = op.item; stands = at_place i; is = op.is };
    }

covers_at : (w : Words) (whole : List Item) (texts : AreTexts w) (from to : ℕ)
    → IsCovered w whole texts from to → Covers whole from to
unfolding past chain
covers_at w whole texts from to c =
    let i = chain c.covers.stands (past c.begins) in
    let j = chain c.covers.later (past i) in
    record {
      start = length c.begins.front;
      inside = length i.front;
      end = length j.front;
      begins = at_place c.begins;
      ends = at_place j;
      behind = longer c.begins.front c.covers.stands.front (Label from);
      before = longer i.front c.covers.later.front c.covers.item;
      covered = record { item = c.covers.item; stands = at_place i; is = c.covers.is };
    }

-- ---- labels

count_both : (l : ℕ) (xs ys : List Item) → count l (xs ++ ys) ≡ count l xs + count l ys
count_both l [] ys = omega arith
count_both l (x ∷ xs) ys = let a = count_both l xs ys in omega (arith, a)

self : (l : ℕ) → bit (l == l) ≡ 1
self l = grind (arith, nat_tests)

under_one : (l n : ℕ) → under l n ≤ 1
under_one l n = at_most (nat_lt l n)
  where
    at_most : (b : Bool) → bit b ≤ 1
    at_most true = omega arith
    at_most false = omega arith

module _ (w : Words) (s : TSta) where
  once_at : {l : ℕ} {rest : List Item} → IsEnd (Label l ∷ rest) (body_code w s)
      → StandsOnce (body_code w s) l
  once_at {l} {rest} e =
      let a = body_count w s l in
      let b : count l (body_code w s) ≡ count l e.front + (bit (l == l) + count l rest) =
      ap (count l) e.is ∙ count_both l e.front (Label l ∷ rest) in
      let c = self l in
      let d = under_one l (labels s 0) in
      let one : count l (body_code w s) ≡ 1 = omega (arith, a, b, c, d) in
      count_is l (body_code w s) ∙ one

  module _ (texts : AreTexts w) where
    target_of : (x : Item) → Good w (body_code w s) texts x → HasTarget (body_code w s) x
    target_of (Label l) g = tt
    target_of (Op i) g = tt
    target_of (Const v) g = tt
    target_of (Jump o l) g = once_at g.1.at
    target_of (Member o c m d) g = tt
    target_of (ClassOp o c) g = tt
    target_of (LockOp o l) g = tt

    handler_of : (h : Handler) → IsCaught w (body_code w s) texts h
        → FitsHandler (body_code w s) h
    handler_of h c = record {
      text = c.text;
      from_once = once_at c.covered.begins;
      to_once =
          once_at (chain c.covered.covers.later (past (chain c.covered.covers.stands
          (past c.covered.begins))));
      goes_once = once_at c.at;
      covers = covers_at w (body_code w s) texts h.from h.to c.covered;
      leads = leads_at c.at c.leads;
    }

each : {X : Type 0} (P Q : X → Type 0) → ((x : X) → P x → Q x) → (xs : List X)
    → AllByRecursion P xs → AllByRecursion Q xs
each P Q f [] h = tt
each P Q f (x ∷ xs) h = (f x h.0, each P Q f xs h.1)

ending_op : (b : Bool) → b ≡ true → HasOp (ending b)
ending_op true h = at_head _ refl (none _)
ending_op false h = absurd (cc h)

module _ (w : Words) (texts : AreTexts w) (s : TSta) (fits : StaFits false s)
    (blocks : HasBlocks s) where
  good : AllByRecursion (Good w (body_code w s) texts) (body_code w s)
  good =
      sta_good w (body_code w s) texts false s no_loop 0 (ending (completes s)) fits
      (λ h. absurd (cc h)) (here (body_code w s))
      (ending_good w (body_code w s) texts (completes s))

  pub is_placeable : (m : MethodInfo) → stmt_size s ≤ 2000 → IsPlaceable (labelled w m s)
  is_placeable m small =
      let bytes = body_bytes w s blocks in
      let same = total_is most_bytes (body_code w s) in
      record {
        items =
            All-from_recursion FitsItem (body_code w s)
            (each (Good w (body_code w s) texts) FitsItem (λ x g. g.0) (body_code w s) good);
        targets =
            All-from_recursion (HasTarget (body_code w s)) (body_code w s)
            (each (Good w (body_code w s) texts) (HasTarget (body_code w s))
            (target_of w s texts) (body_code w s) good);
        handlers =
            All-from_recursion (FitsHandler (body_code w s)) (body_handlers w s)
            (each (IsCaught w (body_code w s) texts) (FitsHandler (body_code w s))
            (handler_of w s texts) (body_handlers w s)
            (sta_caught w (body_code w s) texts s no_loop 0 (ending (completes s)) []
            (here (body_code w s)) tt));
        instruction =
            op_at (sta_op w s no_loop 0 (ending (completes s)) (none (ending (completes s)))
            (ending_op (completes s)));
        short = omega (arith, bytes, same, small);
      }

  pub few_entries : (m : MethodInfo) → entry_count (labelled w m s) ≤ 8 * stmt_size s
  few_entries m =
      let needs = body_needs w s blocks in
      let same = total_is entries (body_code w s) in
      omega (arith, needs, same)

-- ---- frames

first_length : (m : MethodInfo) → length (first_scope m) ≤ length m.locals
first_length m =
    let n = set_by_call m in
    let gap = length m.locals - n in
    let both = length-append (take n m.locals) (replicate gap ty.Void) in
    let front = length-take n m.locals in
    let rest = length-replicate gap ty.Void in
    omega (arith, both, front, rest)

standing_is : (l : ℕ) (fs : List LabelFrame) → count_by (λ f. f.label == l) fs ≡ standing l fs
standing_is l [] = refl
standing_is l (f ∷ fs) =
    sum_by-cons (λ (g : LabelFrame). bit (g.label == l)) f fs
    ∙ ap (λ n. bit (f.label == l) + n) (standing_is l fs)

module _ (w : Words) (s : TSta) (m : MethodInfo) (fits : StaFits false s) where
  frame_of : (f : LabelFrame) → IsFramed w (body_code w s) (length m.locals) (top s) f
      → FitsFrame (labelled w m s) f
  frame_of f h = record {
    once = once_at w s h.at;
    leads = leads_at h.at h.leads;
    few_locals = h.few_locals;
    few_operands = h.few_operands;
  }

  apart : (l : ℕ) → count_by (λ f. f.label == l) (labelled w m s).frames ≤ 1
  apart l =
      let same = standing_is l (frames w m.locals s 0 (first_scope m) []) in
      let once = sta_once w l m.locals s 0 (first_scope m) [] in
      let one = under_one l (labels s 0) in
      omega (arith, same, once, one)

  pub frames_are_placeable : AreFramesPlaceable (labelled w m s)
  frames_are_placeable = record {
    fit =
        All-from_recursion (FitsFrame (labelled w m s)) (frames w m.locals s 0 (first_scope m) [])
        (each (IsFramed w (body_code w s) (length m.locals) (top s)) (FitsFrame (labelled w m s))
        frame_of (frames w m.locals s 0 (first_scope m) [])
        (sta_framed w (body_code w s) (length m.locals) (top s) m.locals false s no_loop 0
        (ending (completes s)) (first_scope m) [] fits (here (body_code w s))
        (ending_op (completes s)) (first_length m) (omega arith) tt));
    apart = apart;
  }
