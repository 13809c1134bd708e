-- One step of labelled code: an instruction or a label.
use Rattle.std.proofs.Common.{◌≡◌, ℕ, suc, ◌≤◌, ◌<◌, Bool, true, false, List, [], ◌∷◌, ◌++◌}
use Rattle.std.proofs.Common.{Option, Some, None, length, drop, refl, sym, subst, ◌∙◌}
use Rattle.std.specs.Prelude.{pos, slice_set}
use Rattle.par_values.specs.declared.kind.Kind.{Kind}
use Rattle.par_values.specs.declared.kind.Kind.TheVariants as kind
use Rattle.par_values.specs.Areas.{Name}
use Rattle.par_code_form.specs.declared.item.Item.{Item}
use Rattle.par_code_form.specs.declared.item.Item.TheVariants.{Label, Op, Const, Jump, Member}
use Rattle.par_code_form.specs.declared.item.Item.TheVariants.{ClassOp, LockOp}
use Rattle.par_kinds.specs.declared.frame.VKind.{VKind}
use Rattle.par_kinds.specs.Kinds.{KFrame, Into, Both, Front, Each, FrameInto}
use Rattle.par_kinds.specs.Kinds.{accepts}
use Rattle.par_kinds.specs.Kinds.{kind_at}
use Rattle.par_kinds.specs.Acts.{Act, ActFits, Accepts, AlsoFits, Also, Leaves}
use Rattle.par_kinds.specs.Acts.{Flow}
use Rattle.par_kinds.specs.Acts.{Gives, Loads}
use Rattle.par_kinds.specs.Acts.{Copies, Stores, Onward, Jumps, Branches}
use Rattle.par_kinds.specs.Acts.{Nowhere, Local}
use Rattle.par_kinds.specs.Acts.{InRange}
use Rattle.par_kinds.specs.Acts.{left_by}
use Rattle.par_kinds.specs.Acts as also
use Rattle.par_kinds.proofs.Lists.{both-length}
use Rattle.par_kinds.proofs.Lower.{below-same, below-then, frame-then, act-below}
use Rattle.par_kinds.proofs.Lower.{left-below}
use Rattle.par_placed_fit_laws.specs.Walks.{Plain, Sign, Guard, opened}
use Rattle.par_placed_fit_laws.specs.Walks.{Plays, behind_label, behind_flow, left, goal}
use Rattle.par_placed_fit_laws.specs.par_match_laws.Labelled.{is_there}
use Rattle.par_placed_fit_laws.specs.Walks.{Onto, To, Meets, Branching, Does, Walks}
use Rattle.par_placed_fit_laws.specs.Signs.{framed, frame_if}
use Rattle.par_placed_fit_laws.specs.Tells.{acting, giving}

module _ (exc : List Name) where
  pub frame_same : (k : KFrame) → FrameInto exc k k
  frame_same k =
      record { locals = below-same exc k.locals; stack = below-same exc k.stack }

  -- with other locals
  pub locals_into : (ks ls : List VKind) → Both (Into exc) ks ls
      → FrameInto exc (framed ks []) (framed ls [])
  locals_into ks ls h = record { locals = h; stack = tt }

module _ (exc : List Name) (act : Item → Act) (at : ℕ → Sign) (many room : ℕ) where
  abbrev Walk : List Item → List Guard → Option KFrame → Type 0
  Walk = Walks exc act at many room

  meets_less : (k l : KFrame) (f : Option KFrame) → FrameInto exc k l
      → Meets exc act at many room (Some l) f → Meets exc act at many room (Some k) f
  meets_less k l None h g = tt
  meets_less k l (Some f) h g = frame-then exc k l f h g

  onto_less : (k l : KFrame) (f : Option KFrame) → FrameInto exc k l
      → Onto exc act at many room l f → Onto exc act at many room k f
  onto_less k l None h g = g
  onto_less k l (Some f) h g = frame-then exc k l f h g

  to_less : (k l : KFrame) (goal : Option ℕ) → FrameInto exc k l
      → To exc act at many room l goal → To exc act at many room k goal
  to_less k l None h g = g
  to_less k l (Some n) h g = onto_less k l (at n).frame h g

  branching_less : (f : Flow) (x : Item) (k l : KFrame) → FrameInto exc k l
      → Branching exc act at many room f x l → Branching exc act at many room f x k
  branching_less Onward x k l h g = tt
  branching_less (Jumps to) x k l h g = to_less k l (goal x) h g
  branching_less (Branches to) x k l h g = to_less k l (goal x) h g
  branching_less Nowhere x k l h g = tt

  pub each_less : (ks ls : List VKind) (guards : List Guard) → Both (Into exc) ks ls
      → Each (λ g. Both (Into exc) ls g.locals) guards
      → Each (λ g. Both (Into exc) ks g.locals) guards
  each_less ks ls [] h e = tt
  each_less ks ls (g ∷ guards) h e =
      (below-then exc ks ls g.locals h e.0, each_less ks ls guards h e.1)

  does_less : (x : Item) (guards : List Guard) (k l : KFrame) → FrameInto exc k l
      → Does exc act at many room x guards l → Does exc act at many room x guards k
  does_less x guards k l h d = record {
    locals = both-length (Into exc) k.locals l.locals h.locals ∙ d.locals;
    few =
        subst (λ (n : ℕ). n ≤ room) (sym (both-length (Into exc) k.stack l.stack h.stack)) d.few;
    fits = act-below exc (act x) k l h d.fits;
    goes =
        branching_less (act x).flow x (left (act x) k) (left (act x) l)
        (left-below exc (act x).leaves (length (act x).takes) k l h) d.goes;
    kept = each_less k.locals l.locals guards h.locals d.kept;
  }

  behind_less : (f : Option KFrame) (xs : List Item) (guards : List Guard) (k l : KFrame)
      → (Walk xs guards (Some l) → Walk xs guards (Some k))
      → Walk xs guards (behind_label f (Some l)) → Walk xs guards (behind_label f (Some k))
  behind_less None xs guards k l less w = less w
  behind_less (Some f) xs guards k l less w = w

  flow_less : (f : Flow) (xs : List Item) (guards : List Guard) (k l : KFrame)
      → (Walk xs guards (Some l) → Walk xs guards (Some k))
      → Walk xs guards (behind_flow f l) → Walk xs guards (behind_flow f k)
  flow_less Onward xs guards k l less w = less w
  flow_less (Jumps to) xs guards k l less w = w
  flow_less (Branches to) xs guards k l less w = less w
  flow_less Nowhere xs guards k l less w = w

  -- an instruction, and what lies behind it
  item_less : (x : Item) (xs : List Item) (guards : List Guard) (k l : KFrame)
      → FrameInto exc k l
      → ((k l : KFrame) → FrameInto exc k l → Walk xs guards (Some l) → Walk xs guards (Some k))
      → Does exc act at many room x guards l
      × Walk xs guards (behind_flow (act x).flow (left (act x) l))
      → Does exc act at many room x guards k
      × Walk xs guards (behind_flow (act x).flow (left (act x) k))
  item_less x xs guards k l h less g = (
    does_less x guards k l h g.0,
    flow_less (act x).flow xs guards (left (act x) k) (left (act x) l)
        (less (left (act x) k) (left (act x) l)
        (left-below exc (act x).leaves (length (act x).takes) k l h)) g.1,
  )

  -- ---- what comes may be less

  pub walks_less : (xs : List Item) (guards : List Guard) (k l : KFrame) → FrameInto exc k l
      → Walk xs guards (Some l) → Walk xs guards (Some k)
  unfolding Walks
  walks_less [] guards k l h g = absurd (cc g)
  walks_less (Label n ∷ xs) guards k l h g = (
    meets_less k l (at n).frame h g.0,
    g.1,
    behind_less (at n).frame xs (opened (at n).role guards) k l
        (walks_less xs (opened (at n).role guards) k l h) g.2,
  )
  walks_less (Op i ∷ xs) guards k l h g = item_less (Op i) xs guards k l h (walks_less xs guards) g
  walks_less (Const v ∷ xs) guards k l h g =
      item_less (Const v) xs guards k l h (walks_less xs guards) g
  walks_less (Jump o n ∷ xs) guards k l h g =
      item_less (Jump o n) xs guards k l h (walks_less xs guards) g
  walks_less (Member o c n d ∷ xs) guards k l h g =
      item_less (Member o c n d) xs guards k l h (walks_less xs guards) g
  walks_less (ClassOp o c ∷ xs) guards k l h g =
      item_less (ClassOp o c) xs guards k l h (walks_less xs guards) g
  walks_less (LockOp o n ∷ xs) guards k l h g =
      item_less (LockOp o n) xs guards k l h (walks_less xs guards) g

  pub walks_less_if : (b : Bool) (xs : List Item) (guards : List Guard) (ks ls : List VKind)
      → Both (Into exc) ks ls → Walk xs guards (frame_if b ls) → Walk xs guards (frame_if b ks)
  walks_less_if true xs guards ks ls h g =
      walks_less xs guards (framed ks []) (framed ls []) (locals_into exc ks ls h) g
  walks_less_if false xs guards ks ls h g = g

  -- ---- instructions

  pub step : (x : Item) (xs : List Item) (guards : List Guard) (k : KFrame)
      → is_there (x ∷ xs) ≡ true → Does exc act at many room x guards k
      → Walk xs guards (behind_flow (act x).flow (left (act x) k)) → Walk (x ∷ xs) guards (Some k)
  unfolding Walks
  step (Label n) xs guards k b d w = absurd (cc b)
  step (Op i) xs guards k b d w = (d, w)
  step (Const v) xs guards k b d w = (d, w)
  step (Jump o n) xs guards k b d w = (d, w)
  step (Member o c n d') xs guards k b d w = (d, w)
  step (ClassOp o c) xs guards k b d w = (d, w)
  step (LockOp o n) xs guards k b d w = (d, w)

  -- locals that stay within what the open ranges ask
  pub record Within (locals : List VKind) (guards : List Guard) : Type 0 where
    pub size : length locals ≡ many
    pub kept : Each (λ g. Both (Into exc) locals g.locals) guards

  pub within_less : (ks ls : List VKind) (guards : List Guard) → Both (Into exc) ks ls
      → length ks ≡ many → Within ls guards → Within ks guards
  within_less ks ls guards h size i =
      record { size = size; kept = each_less ks ls guards h i.kept }

  -- an instruction whose act is known
  pub acts : (x : Item) (xs : List Item) (guards : List Guard) (k : KFrame) (a : Act)
      → act x ≡ a → is_there (x ∷ xs) ≡ true → Within k.locals guards → length k.stack ≤ room
      → ActFits exc a k → Branching exc act at many room a.flow x (left a k)
      → Walk xs guards (behind_flow a.flow (left a k)) → Walk (x ∷ xs) guards (Some k)
  acts x xs guards k a is b i few fits goes w =
      step x xs guards k b
      (record {
        locals = i.size;
        few = few;
        fits = subst (λ (z : Act). ActFits exc z k) (sym is) fits;
        goes =
            subst (λ (z : Act). Branching exc act at many room z.flow x (left z k)) (sym is) goes;
        kept = i.kept;
      })
      (subst (λ (z : Act). Walks exc act at many room xs guards (behind_flow z.flow (left z k)))
      (sym is) w)

  module _ (guards : List Guard) (locals : List VKind) (i : Within locals guards) where
    -- takes some operands and leaves others
    pub gives : (x : Item) (xs : List Item) (stack : List VKind) (ks : List Kind)
        (vs : List VKind) → act x ≡ giving ks vs → is_there (x ∷ xs) ≡ true → length stack ≤ room
        → Front Accepts ks stack
        → Walk xs guards (Some (framed locals (vs ++ drop (length ks) stack)))
        → Walk (x ∷ xs) guards (Some (framed locals stack))
    unfolding left_by
    gives x xs stack ks vs is b few front w =
        acts x xs guards (framed locals stack) (giving ks vs) is b i few
        (record { right = refl; takes = front; also = tt }) tt w

    pub loads : (x : Item) (xs : List Item) (stack : List VKind) (l : ℕ) (ask : Kind) (k : VKind)
        → act x ≡ acting [] (Local l ask) (Loads l) Onward → is_there (x ∷ xs) ≡ true
        → length stack ≤ room → kind_at locals l ≡ k → accepts ask k ≡ true
        → Walk xs guards (Some (framed locals (k ∷ stack)))
        → Walk (x ∷ xs) guards (Some (framed locals stack))
    unfolding left_by
    loads x xs stack l ask k is b few same ok w =
        acts x xs guards (framed locals stack) (acting [] (Local l ask) (Loads l) Onward) is b i few
        (record {
          right = refl;
          takes = tt;
          also = subst (λ (z : VKind). accepts ask z ≡ true) (sym same) ok;
        })
        tt
        (subst (λ (z : VKind). Walks exc act at many room xs guards
        (Some (framed locals (z ∷ stack)))) (sym same) w)

    pub copies : (x : Item) (xs : List Item) (v : VKind) (stack : List VKind)
        → act x ≡ acting (kind.Anything ∷ []) also.Nothing Copies Onward
        → is_there (x ∷ xs) ≡ true → suc (length stack) ≤ room
        → Walk xs guards (Some (framed locals (v ∷ v ∷ stack)))
        → Walk (x ∷ xs) guards (Some (framed locals (v ∷ stack)))
    unfolding left_by accepts
    copies x xs v stack is b few w =
        acts x xs guards (framed locals (v ∷ stack))
        (acting (kind.Anything ∷ []) also.Nothing Copies Onward) is b i few
        (record { right = refl; takes = (refl, tt); also = tt }) tt w

    pub stores : (x : Item) (xs : List Item) (v : VKind) (l : ℕ) (ask : Kind)
        → act x ≡ acting (ask ∷ []) (InRange l) (Stores l) Onward → is_there (x ∷ xs) ≡ true
        → 1 ≤ room → accepts ask v ≡ true → l < length locals
        → Walk xs guards (Some (framed (slice_set locals l v) []))
        → Walk (x ∷ xs) guards (Some (framed locals (v ∷ [])))
    unfolding left_by
    stores x xs v l ask is b few ok there w =
        acts x xs guards (framed locals (v ∷ [])) (acting (ask ∷ []) (InRange l) (Stores l) Onward)
        is b i few (record { right = refl; takes = (ok, tt); also = there }) tt w

    -- a branch on some operands
    pub branches : (o l : ℕ) (xs : List Item) (stack : List VKind) (ks : List Kind)
        → act (Jump o l) ≡ acting ks also.Nothing (Gives []) (Branches (pos 0))
        → length stack ≤ room → Front Accepts ks stack
        → Onto exc act at many room (framed locals (drop (length ks) stack)) (at l).frame
        → Walk xs guards (Some (framed locals (drop (length ks) stack)))
        → Walk (Jump o l ∷ xs) guards (Some (framed locals stack))
    unfolding left_by
    branches o l xs stack ks is few front onto w =
        acts (Jump o l) xs guards (framed locals stack)
        (acting ks also.Nothing (Gives []) (Branches (pos 0))) is refl i few
        (record { right = refl; takes = front; also = tt }) onto w

    pub jumps : (o l : ℕ) (xs : List Item) (stack : List VKind)
        → act (Jump o l) ≡ acting [] also.Nothing (Gives []) (Jumps (pos 0))
        → length stack ≤ room → Onto exc act at many room (framed locals stack) (at l).frame
        → Walk xs guards None → Walk (Jump o l ∷ xs) guards (Some (framed locals stack))
    unfolding left_by
    jumps o l xs stack is few onto w =
        acts (Jump o l) xs guards (framed locals stack)
        (acting [] also.Nothing (Gives []) (Jumps (pos 0))) is refl i few
        (record { right = refl; takes = tt; also = tt }) onto w

    -- behind it nothing lies
    pub ends : (x : Item) (xs : List Item) (stack : List VKind) (ks : List Kind) (asks : Also)
        → act x ≡ acting ks asks (Gives []) Nowhere → is_there (x ∷ xs) ≡ true
        → length stack ≤ room → Front Accepts ks stack → AlsoFits exc asks (framed locals stack)
        → Walk xs guards None → Walk (x ∷ xs) guards (Some (framed locals stack))
    unfolding left_by
    ends x xs stack ks asks is b few front more w =
        acts x xs guards (framed locals stack) (acting ks asks (Gives []) Nowhere) is b i few
        (record { right = refl; takes = front; also = more }) tt w

  -- ---- labels

  pub label : (l : ℕ) (xs : List Item) (guards : List Guard) (m : Option KFrame) (s : Sign)
      → at l ≡ s → Meets exc act at many room m s.frame → Plays s.role l xs guards
      → Walk xs (opened s.role guards) (behind_label s.frame m) → Walk (Label l ∷ xs) guards m
  unfolding Walks
  label l xs guards m s is meets plays w =
      subst
      (λ (z : Sign). Meets exc act at many room m z.frame × Plays z.role l xs guards
      × Walks exc act at many room xs (opened z.role guards) (behind_label z.frame m))
      (sym is) (meets, plays, w)

  -- a frame that lies at a label
  pub lies : (l : ℕ) (k : KFrame) → at l ≡ record { frame = Some k; role = Plain }
      → Onto exc act at many room k (at l).frame
  lies l k is =
      subst (λ (z : Sign). Onto exc act at many room k z.frame) (sym is) (frame_same exc k)

  -- the same frame comes
  pub same_label : (l : ℕ) (xs : List Item) (guards : List Guard) (k : KFrame)
      → at l ≡ record { frame = Some k; role = Plain } → Walk xs guards (Some k)
      → Walk (Label l ∷ xs) guards (Some k)
  same_label l xs guards k is w =
      label l xs guards (Some k) (record { frame = Some k; role = Plain }) is (frame_same exc k) tt
      w

  -- only branches come
  pub far_label : (l : ℕ) (xs : List Item) (guards : List Guard) (k : KFrame)
      → at l ≡ record { frame = Some k; role = Plain } → Walk xs guards (Some k)
      → Walk (Label l ∷ xs) guards None
  far_label l xs guards k is w =
      label l xs guards None (record { frame = Some k; role = Plain }) is tt tt w
