-- The frames that an attribute says are read again, up to locals that are not known.
use Rattle.std.proofs.Common.{◌≡◌, ℕ, zero, suc, ◌+◌, ◌-◌, ◌<◌, ◌≤◌, ◌^◌, true, List, [], ◌∷◌}
use Rattle.std.proofs.Common.{◌++◌, length, take, Option, Some, None, refl, sym, ap, subst, ◌∙◌}
use Rattle.std.proofs.Common.{length-append, inl, inr, arith}
use Rattle.std.specs.Prelude.{nat_le, get_or}
use Rattle.std.specs.List.{AllZip, AllByRecursion}
use Rattle.std.specs.Option.{option_map}
use Rattle.std.proofs.lemmas.Bool.{le-leb}
use Rattle.std.proofs.lemmas.List.{append-nil, drop_at}
use Rattle.std.proofs.lemmas.Slice.Zip.{AllZip-long}
use Rattle.byteorder.specs.Numbers.{big_number-reads_back, length-bytes_high_first}
use Rattle.par_pool.specs.declared.constant.Constant.{Constant}
use Rattle.par_pool.specs.Spelling.{u2}
use Rattle.par_frame_forms.specs.declared.form.PlaceType.{PlaceType}
use Rattle.par_frame_forms.specs.declared.form.FrameForm.{FrameForm}
use Rattle.par_frame_forms.specs.declared.form.FrameForm.TheVariants.{Same, OneOperand}
use Rattle.par_frame_forms.specs.declared.form.FrameForm.TheVariants.{OneOperandFar, Cut, More}
use Rattle.par_frame_forms.specs.declared.form.FrameForm.TheVariants.{Full}
use Rattle.par_frame_forms.specs.declared.form.PlaceType.TheVariants.{Top, Int, Null, Class}
use Rattle.par_frame_forms.specs.Spelled.{FormFits, CanFollow, Said, says, Alike, spelled_all}
use Rattle.par_frame_forms.specs.Reading.{and_read, gives, read_u2, read_forms}
use Rattle.par_frame_forms.proofs.Again.{spelled_forms_are_read}
use Rattle.par_kinds.specs.declared.frame.VKind.{VKind}
use Rattle.par_kinds.specs.declared.frame.VKind.TheVariants.{Top as ATop, Int as AnInt}
use Rattle.par_kinds.specs.declared.frame.VKind.TheVariants.{Null as ANull}
use Rattle.par_kinds.specs.declared.frame.VKind.TheVariants.{Object as AnObject}
use Rattle.par_kinds.specs.declared.frame.VKind.TheVariants.{Base as ABase}
use Rattle.par_kinds.specs.declared.frame.PlacedFrame.{PlacedFrame}
use Rattle.par_kinds.specs.Kinds.{kind_at}
use Rattle.par_frames.specs.Names.{StandsFor, kind_of}
use Rattle.par_frames.specs.Attribute.{AreSaid, IsListed, first_locals}
use Rattle.par_frames.specs.Given.{on_some, kinds_of, locals_said, stack_said, frame_said}
use Rattle.par_frames.specs.Given.{frames_said, to_the_end, forms_in, frames_in}
use Rattle.par_frames.specs.Laws.{IsNamed, WrittenKindsAreRead}
use Rattle.par_given_frames.specs.Laws.{AreNamedKinds, IsNamedFrame, AreReadAs}
use Rattle.par_given_frames.specs.Laws.{WrittenFramesAreRead}

-- ---- the forms

u2-again : (n : ℕ) (rest : List ℕ) → n < 2 ^ 16 → read_u2 (u2 n ++ rest) ≡ gives n rest
u2-again n rest lt =
    let long : nat_le 2 (length (u2 n ++ rest)) ≡ true =
    le-leb 2 (length (u2 n ++ rest))
    (omega (arith, length-append (u2 n) rest, length-bytes_high_first 2 n)) in
    rw (
      long,
      big_number-reads_back 2 n rest lt,
      drop_at (u2 n) rest 2 (length-bytes_high_first 2 n),
    ) refl

forms-again : (forms : List FrameForm) → length forms < 2 ^ 16 → AllByRecursion FormFits forms
    → forms_in (u2 (length forms) ++ spelled_all forms) ≡ Some forms
forms-again forms few fit =
    let read : read_forms (length forms) (spelled_all forms) ≡ gives forms [] =
    ap (read_forms (length forms)) (sym (append-nil (spelled_all forms)))
    ∙ spelled_forms_are_read forms [] fit in
    ap (λ o. to_the_end (and_read o read_forms)) (u2-again (length forms) (spelled_all forms) few)
    ∙ ap to_the_end read

module _ (pool : List Constant) where
  said-fit : (from : ℕ) (listed : List PlaceType) (fs : List PlacedFrame) (forms : List FrameForm)
      → AreSaid pool from listed fs forms
      → AllByRecursion FormFits forms × (length forms ≡ length fs)
  said-fit from listed [] forms h =
      subst (λ (gs : List FrameForm). AllByRecursion FormFits gs × (length gs ≡ 0)) (sym h)
      (tt, refl)
  said-fit from listed (f ∷ fs) [] h = absurd h
  said-fit from listed (f ∷ fs) (form ∷ forms) (said, is, written, more) =
      let rest = said-fit (f.offset + 1) (says listed form).locals fs forms more in
      ((written.spells.fits, rest.0), ap suc rest.1)

-- ---- the kinds

module _ (again : WrittenKindsAreRead) (pool : List Constant) where
  one-again : (k : VKind) (t : PlaceType) → IsNamed k → StandsFor pool k t
      → kind_of pool t ≡ Some k
  one-again k t named stands =
      by (kind_of pool t) refl (again pool (k ∷ []) (t ∷ []) (named, tt) (stands, tt))
    where
      by : (o : Option VKind) → kind_of pool t ≡ o
          → on_some o (λ x. option_map (λ xs. x ∷ xs) (Some [])) ≡ Some (k ∷ [])
          → kind_of pool t ≡ Some k
      by None is e = absurd (cc e)
      by (Some l) is e = let same : l ≡ k = cc e in is ∙ ap (λ (x : VKind). Some x) same

  -- a kind that is listed is the one that a local has
  one-alike : (first : List VKind) (x k : VKind) (t : PlaceType) → IsNamed x → IsNamed k
      → StandsFor pool x t → IsListed pool first k t → k ≡ x
  one-alike first x k t named also stands (inl listed) =
      cc (sym (one-again k t also listed) ∙ one-again x t named stands)
  one-alike first x k t named also stands (inr (none, _)) =
      absurd (cc (sym (one-again x t named stands) ∙ ap (kind_of pool) none))

  alike : (first xs ks : List VKind) (ts : List PlaceType) → AreNamedKinds xs → AreNamedKinds ks
      → AllZip (StandsFor pool) xs ts → AllZip (IsListed pool first) ks ts → ks ≡ xs
  alike first [] [] [] named also stand listed = refl
  alike first [] (k ∷ ks) [] named also stand listed = absurd listed
  alike first [] ks (t ∷ ts) named also stand listed = absurd stand
  alike first (x ∷ xs) ks [] named also stand listed = absurd stand
  alike first (x ∷ xs) [] (t ∷ ts) named also stand listed = absurd listed
  alike first (x ∷ xs) (k ∷ ks) (t ∷ ts) named also stand listed =
      let one = one-alike first x k t named.0 also.0 stand.0 listed.0 in
      let rest = alike first xs ks ts named.1 also.1 stand.1 listed.1 in
      ap (λ (y : VKind). y ∷ ks) one ∙ ap (λ (ys : List VKind). x ∷ ys) rest

  none-stand : (xs : List VKind) → AllZip (StandsFor pool) xs [] → xs ≡ []
  none-stand [] h = refl
  none-stand (x ∷ xs) h = absurd h

  many-listed : (first ks : List VKind) (ts : List PlaceType) → AllZip (IsListed pool first) ks ts
      → length ks ≡ length ts
  many-listed first [] [] h = refl
  many-listed first [] (t ∷ ts) h = absurd h
  many-listed first (k ∷ ks) [] h = absurd h
  many-listed first (k ∷ ks) (t ∷ ts) h = ap suc (many-listed first ks ts h.1)

  fewer-listed : (n : ℕ) (first ks : List VKind) (ts : List PlaceType)
      → AllZip (IsListed pool first) ks ts
      → AllZip (IsListed pool first) (take n ks) (take n ts)
  fewer-listed zero first ks ts h = tt
  fewer-listed (suc n) first [] [] h = tt
  fewer-listed (suc n) first [] (t ∷ ts) h = absurd h
  fewer-listed (suc n) first (k ∷ ks) [] h = absurd h
  fewer-listed (suc n) first (k ∷ ks) (t ∷ ts) h = (h.0, fewer-listed n first ks ts h.1)

  fewer-named : (n : ℕ) (ks : List VKind) → AreNamedKinds ks → AreNamedKinds (take n ks)
  fewer-named zero ks h = tt
  fewer-named (suc n) [] h = tt
  fewer-named (suc n) (k ∷ ks) h = (h.0, fewer-named n ks h.1)

  -- kinds of types, some of which stand behind those that are listed
  behind : (first xs ks : List VKind) (ts more : List PlaceType) → AreNamedKinds xs
      → AreNamedKinds ks → AllZip (StandsFor pool) xs (ts ++ more)
      → AllZip (IsListed pool first) ks ts
      → option_map (λ ys. ks ++ ys) (kinds_of pool more) ≡ Some xs
  behind first xs [] [] more named also stand listed =
      ap (option_map (λ ys. [] ++ ys)) (again pool xs more named stand)
  behind first xs [] (t ∷ ts) more named also stand listed = absurd listed
  behind first xs (k ∷ ks) [] more named also stand listed = absurd listed
  behind first [] (k ∷ ks) (t ∷ ts) more named also stand listed = absurd stand
  behind first (x ∷ xs) (k ∷ ks) (t ∷ ts) more named also stand listed =
      let one = one-alike first x k t named.0 also.0 stand.0 listed.0 in
      put (kinds_of pool more) (behind first xs ks ts more named.1 also.1 stand.1 listed.1)
      ∙ ap (λ (y : VKind). Some (y ∷ xs)) one
    where
      put : (o : Option (List VKind)) → option_map (λ ys. ks ++ ys) o ≡ Some xs
          → option_map (λ ys. (k ∷ ks) ++ ys) o ≡ Some (k ∷ xs)
      put None e = absurd (cc e)
      put (Some ys) e =
          let same : ks ++ ys ≡ xs = cc e in ap (λ (zs : List VKind). Some (k ∷ zs)) same

  -- ---- one frame

  module _ (first ks : List VKind) (listed : List PlaceType) (f : PlacedFrame) (said : Said)
      (named : IsNamedFrame f) (also : AreNamedKinds ks)
      (locals : AllZip (StandsFor pool) f.frame.locals said.locals)
      (stack : AllZip (StandsFor pool) f.frame.stack said.stack)
      (begins : AllZip (IsListed pool first) ks listed) where
    as-listed : (ts : List PlaceType) → ts ≡ said.locals → ts ≡ listed
        → Some ks ≡ Some f.frame.locals
    as-listed ts is same =
        ap (λ (xs : List VKind). Some xs)
        (alike first f.frame.locals ks listed named.locals also
        (subst (AllZip (StandsFor pool) f.frame.locals) (sym is ∙ same) locals) begins)

    no-stack : said.stack ≡ [] → Some [] ≡ Some f.frame.stack
    no-stack is =
        ap (λ (xs : List VKind). Some xs)
        (sym (none-stand f.frame.stack
        (subst (AllZip (StandsFor pool) f.frame.stack) is stack)))

    locals-again : (form : FrameForm) → CanFollow listed form → says listed form ≡ said
        → locals_said pool ks form ≡ Some f.frame.locals
    locals-again (Same delta) follows is =
        as-listed listed (ap (λ (s : Said). s.locals) is) refl
    locals-again (OneOperand delta t) follows is =
        as-listed listed (ap (λ (s : Said). s.locals) is) refl
    locals-again (OneOperandFar delta t) follows is =
        as-listed listed (ap (λ (s : Said). s.locals) is) refl
    locals-again (Cut many delta) follows is =
        let size = many-listed first ks listed begins in
        let fits : nat_le many (length ks) ≡ true =
        le-leb many (length ks) (omega (arith, size, follows)) in
        let left : length ks - many ≡ length listed - many = ap (λ (n : ℕ). n - many) size in
        rw fits
        (ap (λ (n : ℕ). Some (take n ks)) left
        ∙ ap (λ (xs : List VKind). Some xs)
        (alike first f.frame.locals (take (length listed - many) ks)
        (take (length listed - many) listed) named.locals
        (fewer-named (length listed - many) ks also)
        (subst (AllZip (StandsFor pool) f.frame.locals)
        (sym (ap (λ (s : Said). s.locals) is)) locals)
        (fewer-listed (length listed - many) first ks listed begins)))
    locals-again (More delta ts) follows is =
        behind first f.frame.locals ks listed ts named.locals also
        (subst (AllZip (StandsFor pool) f.frame.locals)
        (sym (ap (λ (s : Said). s.locals) is)) locals) begins
    locals-again (Full delta ts us) follows is =
        again pool f.frame.locals ts named.locals
        (subst (AllZip (StandsFor pool) f.frame.locals)
        (sym (ap (λ (s : Said). s.locals) is)) locals)

    kinds-again : (ts : List PlaceType) → ts ≡ said.stack
        → kinds_of pool ts ≡ Some f.frame.stack
    kinds-again ts is =
        again pool f.frame.stack ts named.stack
        (subst (AllZip (StandsFor pool) f.frame.stack) (sym is) stack)

    stack-again : (form : FrameForm) → says listed form ≡ said
        → stack_said pool form ≡ Some f.frame.stack
    stack-again (Same delta) is = no-stack (sym (ap (λ (s : Said). s.stack) is))
    stack-again (OneOperand delta t) is = kinds-again (t ∷ []) (ap (λ (s : Said). s.stack) is)
    stack-again (OneOperandFar delta t) is = kinds-again (t ∷ []) (ap (λ (s : Said). s.stack) is)
    stack-again (Cut many delta) is = no-stack (sym (ap (λ (s : Said). s.stack) is))
    stack-again (More delta ts) is = no-stack (sym (ap (λ (s : Said). s.stack) is))
    stack-again (Full delta ts us) is = kinds-again us (ap (λ (s : Said). s.stack) is)

  same-delta : (listed : List PlaceType) (form : FrameForm)
      → (says [] form).delta ≡ (says listed form).delta
  same-delta listed (Same delta) = refl
  same-delta listed (OneOperand delta t) = refl
  same-delta listed (OneOperandFar delta t) = refl
  same-delta listed (Cut many delta) = refl
  same-delta listed (More delta ts) = refl
  same-delta listed (Full delta ts us) = refl

  frame-again : (from : ℕ) (first ks : List VKind) (listed : List PlaceType) (f : PlacedFrame)
      (form : FrameForm) → IsNamedFrame f → AreNamedKinds ks
      → AllZip (IsListed pool first) ks listed → f.offset ≡ from + (says listed form).delta
      → AllZip (StandsFor pool) f.frame.locals (says listed form).locals
      → AllZip (StandsFor pool) f.frame.stack (says listed form).stack → CanFollow listed form
      → frame_said pool from ks form ≡ Some f
  frame-again from first ks listed f form named also begins delta stand stand_stack follows =
      let said = says listed form in
      let locals =
      locals-again first ks listed f said named also stand stand_stack begins form follows refl in
      let stack =
      stack-again first ks listed f said named also stand stand_stack begins form refl in
      let at : from + (says [] form).delta ≡ f.offset =
      ap (λ (n : ℕ). from + n) (same-delta listed form) ∙ sym delta in
      ap (λ o. on_some o (λ ls. option_map
      (λ ss. record {
        offset = from + (says [] form).delta;
        frame = record { locals = ls; stack = ss };
      })
      (stack_said pool form))) locals
      ∙ ap (λ o. option_map
      (λ ss. record {
        offset = from + (says [] form).delta;
        frame = record { locals = f.frame.locals; stack = ss };
      }) o) stack
      ∙ ap (λ (n : ℕ). Some (record { offset = n; frame = f.frame })) at

  stands-listed : (first ks : List VKind) (ts : List PlaceType) → AllZip (StandsFor pool) ks ts
      → AllZip (IsListed pool first) ks ts
  stands-listed first [] [] h = tt
  stands-listed first [] (t ∷ ts) h = absurd h
  stands-listed first (k ∷ ks) [] h = absurd h
  stands-listed first (k ∷ ks) (t ∷ ts) h = (inl h.0, stands-listed first ks ts h.1)

  -- ---- the kinds that are listed

  not-known : (k : VKind) (t : PlaceType) → StandsFor pool k t → t ≡ Top → k ≡ ATop
  not-known ATop t h e = refl
  not-known AnInt t h e = let both : Int ≡ Top = sym h ∙ e in absurd (cc both)
  not-known ANull t h e = let both : Null ≡ Top = sym h ∙ e in absurd (cc both)
  not-known (AnObject name) t h e =
      let both : Class h.index ≡ Top = sym h.is ∙ e in absurd (cc both)
  not-known (ABase b) t h e = let both : Class h.index ≡ Top = sym h.is ∙ e in absurd (cc both)

  none-known : (ks : List VKind) (ts : List PlaceType) → AllZip (StandsFor pool) ks ts
      → ((n : ℕ) → Top ≡ get_or ts n Top) → (n : ℕ) → ATop ≡ kind_at ks n
  none-known [] ts h tops n = refl
  none-known (k ∷ ks) [] h tops n = absurd h
  none-known (k ∷ ks) (t ∷ ts) h tops zero = sym (not-known k t h.0 (sym (tops 0)))
  none-known (k ∷ ks) (t ∷ ts) h tops (suc n) =
      none-known ks ts h.1 (λ m. tops (suc m)) n

  -- kinds that tell the same as others, of types that do
  record Remade (ls : List VKind) (us : List PlaceType) : Type 0 where
    kinds : List VKind
    stand : AllZip (StandsFor pool) kinds us
    named : AreNamedKinds kinds
    same : (n : ℕ) → kind_at kinds n ≡ kind_at ls n

  remade : (ls : List VKind) (ts us : List PlaceType) → AllZip (StandsFor pool) ls ts
      → AreNamedKinds ls → Alike us ts → Remade ls us
  remade ls ts [] stand named alike = record {
    kinds = [];
    stand = tt;
    named = tt;
    same = none-known ls ts stand alike;
  }
  remade [] (t ∷ ts) (u ∷ us) stand named alike = absurd stand
  remade (l ∷ ls) [] (u ∷ us) stand named alike = absurd stand
  remade [] [] (u ∷ us) stand named alike =
      let r = remade [] [] us tt tt (λ n. alike (suc n)) in record {
        kinds = ATop ∷ r.kinds;
        stand = (alike 0, r.stand);
        named = (tt, r.named);
        same = by r.kinds r.same;
      }
    where
      by : (ks : List VKind) → ((n : ℕ) → kind_at ks n ≡ ATop) → (n : ℕ)
          → kind_at (ATop ∷ ks) n ≡ ATop
      by ks h zero = refl
      by ks h (suc n) = h n
  remade (l ∷ ls) (t ∷ ts) (u ∷ us) stand named alike =
      let r = remade ls ts us stand.1 named.1 (λ n. alike (suc n)) in record {
        kinds = l ∷ r.kinds;
        stand = (subst (StandsFor pool l) (sym (alike 0)) stand.0, r.stand);
        named = (named.0, r.named);
        same = by r.kinds r.same;
      }
    where
      by : (ks : List VKind) → ((n : ℕ) → kind_at ks n ≡ kind_at ls n) → (n : ℕ)
          → kind_at (l ∷ ks) n ≡ kind_at (l ∷ ls) n
      by ks h zero = refl
      by ks h (suc n) = h n

  -- ---- all frames

  all-again : (from : ℕ) (ks : List VKind) (listed : List PlaceType) (fs : List PlacedFrame)
      (forms : List FrameForm) → AllByRecursion IsNamedFrame fs → AreNamedKinds ks
      → AllZip (IsListed pool (first_locals fs)) ks listed → AreSaid pool from listed fs forms
      → AreReadAs ks fs (frames_said pool from ks forms)
  all-again from ks listed [] forms named also begins h = record {
    frames = [];
    is = ap (frames_said pool from ks) h;
    same = tt;
    within = λ most few all. tt;
  }
  all-again from ks listed (f ∷ fs) [] named also begins h = absurd h
  all-again from ks listed (f ∷ fs) (form ∷ forms) named also begins (said, is, written, more) =
      let same = written.spells.same in
      let r = remade f.frame.locals said.locals (says listed form).locals is.locals
      named.0.locals same.locals in
      let g : PlacedFrame = record {
        offset = f.offset;
        frame = record { locals = r.kinds; stack = f.frame.stack };
      } in
      let one : frame_said pool from ks form ≡ Some g =
      frame-again from f.frame.locals ks listed g form
      (record { locals = r.named; stack = named.0.stack }) also begins
      (is.delta ∙ ap (λ (n : ℕ). from + n) (sym same.delta)) r.stand
      (subst (AllZip (StandsFor pool) f.frame.stack) (sym same.stack) is.stack)
      written.spells.follows in
      let rest = all-again (f.offset + 1) r.kinds (says listed form).locals fs forms named.1 r.named
      (stands-listed (first_locals fs) r.kinds (says listed form).locals r.stand) more in
      record {
        frames = g ∷ rest.frames;
        is =
            ap (λ o. on_some o (λ p. option_map (λ ps. p ∷ ps)
            (frames_said pool (p.offset + 1) p.frame.locals forms))) one
            ∙ ap (λ o. option_map (λ ps. g ∷ ps) o) rest.is;
        same = (record { offset = refl; locals = r.same; stack = refl }, rest.same);
        within = λ most few all.
            let a = AllZip-long (IsListed pool f.frame.locals) ks listed begins in
            let b = AllZip-long (StandsFor pool) f.frame.locals said.locals is.locals in
            let c = AllZip-long (StandsFor pool) r.kinds (says listed form).locals r.stand in
            let d : length r.kinds ≤ most =
            omega (arith, c, written.few most (omega (arith, a, few)) (omega (arith, b, all.0)))
            in
            (d, rest.within most d all.1);
      }

pub frames-again : WrittenKindsAreRead → WrittenFramesAreRead
frames-again again pool start fs bytes named frames few a =
    let fit = said-fit pool 0 a.listed fs a.forms a.said in
    let all = all-again again pool 0 start a.listed fs a.forms frames named a.begins a.said in
    record {
      frames = all.frames;
      is =
          ap (frames_in pool start) a.spelled
          ∙ ap (λ o. on_some o (frames_said pool 0 start))
          (forms-again a.forms (omega (arith, fit.1, few)) fit.0)
          ∙ all.is;
      same = all.same;
      within = all.within;
    }
