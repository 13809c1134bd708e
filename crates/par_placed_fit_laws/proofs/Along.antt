-- What lies at the offsets of placed code.
use Rattle.std.proofs.Common.{◌≡◌, ℕ, zero, suc, ◌+◌, ◌≤◌, ◌<◌, Bool, true, false, List, []}
use Rattle.std.proofs.Common.{◌∷◌, Option, Some, None, length, refl, ap, subst, ◌∙◌, arith}
use Rattle.std.proofs.Common.{◌||◌}
use Rattle.std.specs.Prelude.{◌==◌, if◌then◌else◌, IsTrue}
use Rattle.std.specs.List.{slice_get, AllZip}
use Rattle.std.proofs.lemmas.Bool.Decides.{nat_tests}
use Rattle.std.proofs.lemmas.Bool.{eqb-true}
use Rattle.par_values.specs.Areas.{Name}
use Rattle.par_code_form.specs.declared.item.Item.{Item}
use Rattle.par_code_form.specs.declared.item.Item.TheVariants.{Label, Op, Const, Jump, Member}
use Rattle.par_code_form.specs.declared.item.Item.TheVariants.{ClassOp, LockOp}
use Rattle.par_code_form.specs.Instructions.{is_instruction}
use Rattle.par_code_form.specs.Placed.{size, is_label, offset_of, offset_at}
use Rattle.par_kinds.specs.Kinds.{KFrame, FrameInto}
use Rattle.par_kinds.specs.Acts.{Act}
use Rattle.par_kinds.proofs.Lower.{below-same, frame-then}
use Rattle.par_placed_fit_laws.specs.Walks.{Sign, Role, Plain, Opens, Closes, Catches, Guard}
use Rattle.par_placed_fit_laws.specs.Walks.{behind_label, behind_flow, left}
use Rattle.par_placed_fit_laws.specs.Walks.{opened, Plays, Meets, Does}
use Rattle.par_evaluation_laws.specs.par_match_laws.Labelled.{is_there}
use Rattle.par_placed_fit_laws.specs.Walks.{Walks}
use Rattle.par_placed_fit_laws.specs.Given.{behind_act, given_from}

frame_same : (exc : List Name) (k : KFrame) → FrameInto exc k k
frame_same exc k = record { locals = below-same exc k.locals; stack = below-same exc k.stack }

pub self : (o : ℕ) → (o == o) ≡ true
self o = grind (arith, nat_tests)

-- a label or an instruction
pub split : (P : Item → Type 0) → ((l : ℕ) → P (Label l))
    → ((x : Item) → IsTrue (is_instruction x) → P x) → (x : Item) → P x
split P f g (Label l) = f l
split P f g (Op i) = g (Op i) refl
split P f g (Const v) = g (Const v) refl
split P f g (Jump o l) = g (Jump o l) refl
split P f g (Member o c n d) = g (Member o c n d) refl
split P f g (ClassOp o c) = g (ClassOp o c) refl
split P f g (LockOp o l) = g (LockOp o l) refl

pub offset_step : (x : Item) → IsTrue (is_instruction x) → (xs : List Item) (n : ℕ) (ns : List ℕ)
    (l : ℕ) → offset_of (x ∷ xs) (n ∷ ns) l ≡ size x n + offset_of xs ns l
offset_step (Label k) is xs n ns l = absurd (cc is)
offset_step (Op i) is xs n ns l = refl
offset_step (Const v) is xs n ns l = refl
offset_step (Jump o k) is xs n ns l = refl
offset_step (Member o c m d) is xs n ns l = refl
offset_step (ClassOp o c) is xs n ns l = refl
offset_step (LockOp o k) is xs n ns l = refl

-- whether a label stands in items
abbrev pub has_label : ℕ → List Item → Bool
has_label l [] = false
has_label l (x ∷ xs) = is_label l x || has_label l xs

unlabelled : (l : ℕ) (x : Item) → IsTrue (is_instruction x) → is_label l x ≡ false
unlabelled l (Label k) is = absurd (cc is)
unlabelled l (Op i) is = refl
unlabelled l (Const v) is = refl
unlabelled l (Jump o k) is = refl
unlabelled l (Member o c m d) is = refl
unlabelled l (ClassOp o c) is = refl
unlabelled l (LockOp o k) is = refl

-- the next offset
pub offset_next : (p : ℕ) (xs : List Item) (ns : List ℕ) (x : Item) (n : ℕ)
    → slice_get xs p ≡ Some x → slice_get ns p ≡ Some n
    → offset_at (suc p) xs ns ≡ offset_at p xs ns + size x n
offset_next p [] ns x n e g = absurd (cc e)
offset_next p (y ∷ ys) [] x n e g = absurd (cc g)
offset_next zero (y ∷ ys) (m ∷ ms) x n e g =
    let y-is : y ≡ x = cc e in
    let m-is : m ≡ n = cc g in
    let same : size y m ≡ size x n =
    ap (λ (k : ℕ). size y k) m-is ∙ ap (λ (z : Item). size z n) y-is in
    omega (arith, same)
offset_next (suc p) (y ∷ ys) (m ∷ ms) x n e g = omega (arith, offset_next p ys ms x n e g)

module _ (exc : List Name) (act : Item → Act) (at : ℕ → Sign) (many room : ℕ) where
  abbrev pub Walk : List Item → List Guard → Option KFrame → Type 0
  Walk = Walks exc act at many room

  abbrev pub Given : List Item → List ℕ → ℕ → Option KFrame → ℕ → Option KFrame
  Given = given_from at act

  -- ---- an instruction

  pub given_step : (x : Item) → IsTrue (is_instruction x) → (xs : List Item) (n : ℕ)
      (ns : List ℕ) (from : ℕ) (m : Option KFrame) (o : ℕ)
      → Given (x ∷ xs) (n ∷ ns) from m o
      ≡ (if from == o then m else Given xs ns (from + size x n) (behind_act (act x) m) o)
  given_step (Label l) is xs n ns from m o = absurd (cc is)
  given_step (Op i) is xs n ns from m o = refl
  given_step (Const v) is xs n ns from m o = refl
  given_step (Jump p l) is xs n ns from m o = refl
  given_step (Member p c d e) is xs n ns from m o = refl
  given_step (ClassOp p c) is xs n ns from m o = refl
  given_step (LockOp p l) is xs n ns from m o = refl

  pub walks_does : (x : Item) → IsTrue (is_instruction x) → (xs : List Item)
      (guards : List Guard) (k : KFrame) → Walk (x ∷ xs) guards (Some k)
      → Does exc act at many room x guards k
      × Walk xs guards (behind_flow (act x).flow (left (act x) k))
  unfolding Walks
  walks_does (Label l) is xs guards k w = absurd (cc is)
  walks_does (Op i) is xs guards k w = w
  walks_does (Const v) is xs guards k w = w
  walks_does (Jump p l) is xs guards k w = w
  walks_does (Member p c d e) is xs guards k w = w
  walks_does (ClassOp p c) is xs guards k w = w
  walks_does (LockOp p l) is xs guards k w = w

  pub walks_none : (x : Item) → IsTrue (is_instruction x) → (xs : List Item)
      (guards : List Guard) → Walk (x ∷ xs) guards None → ⊥
  unfolding Walks
  walks_none (Label l) is xs guards w = absurd (cc is)
  walks_none (Op i) is xs guards w = w
  walks_none (Const v) is xs guards w = w
  walks_none (Jump p l) is xs guards w = w
  walks_none (Member p c d e) is xs guards w = w
  walks_none (ClassOp p c) is xs guards w = w
  walks_none (LockOp p l) is xs guards w = w

  pub label_walks : (l : ℕ) (xs : List Item) (guards : List Guard) (m : Option KFrame)
      → Walk (Label l ∷ xs) guards m
      → Meets exc act at many room m (at l).frame × Plays (at l).role l xs guards
      × Walk xs (opened (at l).role guards) (behind_label (at l).frame m)
  unfolding Walks
  label_walks l xs guards m w = w

  pub no_walk : (guards : List Guard) (k : KFrame) → Walk [] guards (Some k) → ⊥
  unfolding Walks
  no_walk guards k w = absurd (cc w)

  module _ (G : ℕ → Option KFrame) where
    -- what lies from an offset on is what is given
    abbrev pub Agrees : List Item → List ℕ → ℕ → Option KFrame → Type 0
    Agrees xs ns from m = (o : ℕ) → from ≤ o → G o ≡ Given xs ns from m o

    other_offset : (a b : ℕ) → a < b → (a == b) ≡ false
    other_offset a b lt = grind (arith, nat_tests)

    pub agrees_next : (x : Item) → IsTrue (is_instruction x) → (xs : List Item) (n : ℕ)
        (ns : List ℕ) (from : ℕ) (m : Option KFrame) → 1 ≤ size x n
        → Agrees (x ∷ xs) (n ∷ ns) from m
        → Agrees xs ns (from + size x n) (behind_act (act x) m)
    agrees_next x is xs n ns from m some agrees o le =
        agrees o (omega (arith, le))
        ∙ given_step x is xs n ns from m o
        ∙ ap (λ (b : Bool). if b then m
        else given_from at act xs ns (from + size x n) (behind_act (act x) m) o)
        (other_offset from o (omega (arith, le, some)))

    pub given_first : (x : Item) → IsTrue (is_instruction x) → (xs : List Item) (n : ℕ)
        (ns : List ℕ) (from : ℕ) (m : Option KFrame) → Agrees (x ∷ xs) (n ∷ ns) from m
        → G from ≡ m
    given_first x is xs n ns from m agrees =
        agrees from (omega arith) ∙ given_step x is xs n ns from m from
        ∙ ap (λ (b : Bool). if b then m
        else given_from at act xs ns (from + size x n) (behind_act (act x) m) from) (self from)

    -- what lies where a frame comes
    pub record Lies (exact : Bool) (k : KFrame) (o : ℕ) : Type 0 where
      pub frame : KFrame
      pub has : G o ≡ Some frame
      pub into_ : FrameInto exc k frame
      pub same : exact ≡ true → frame ≡ k

    not_begun : (l : ℕ) (xs : List Item) → is_there (Label l ∷ xs) ≡ true → ⊥
    not_begun l xs h = absurd (cc h)

    pub arrives : (xs : List Item) (ns : List ℕ) (from : ℕ) (guards : List Guard) (k : KFrame)
        → length xs ≡ length ns → Walk xs guards (Some k) → Agrees xs ns from (Some k)
        → Lies (is_there xs) k from
    arrives [] ns from guards k long w agrees = absurd (no_walk guards k w)
    arrives (x ∷ xs) [] from guards k long w agrees = absurd (omega (arith, long))
    arrives (x ∷ xs) (n ∷ ns) from guards k long w agrees =
        split
        (λ y. Walks exc act at many room (y ∷ xs) guards (Some k)
        → ((o : ℕ) → from ≤ o → G o ≡ given_from at act (y ∷ xs) (n ∷ ns) from (Some k) o)
        → Lies (is_there (y ∷ xs)) k from)
        (λ l v a. let parts = label_walks l xs guards (Some k) v in
        let more : length xs ≡ length ns = omega (arith, long) in
        passed l (at l).frame k parts.0 xs ns from (opened (at l).role guards)
        (λ f u b. arrives xs ns from (opened (at l).role guards) f more u b) parts.2 a)
        (λ y is v a. record {
          frame = k;
          has = given_first y is xs n ns from (Some k) a;
          into_ = frame_same exc k;
          same = λ e. refl;
        })
        x w agrees
      where
        passed : (l : ℕ) (f : Option KFrame) (k : KFrame)
            → Meets exc act at many room (Some k) f → (xs : List Item) (ns : List ℕ) (from : ℕ)
            (guards : List Guard)
            → ((k : KFrame) → Walks exc act at many room xs guards (Some k)
            → ((o : ℕ) → from ≤ o → G o ≡ given_from at act xs ns from (Some k) o)
            → Lies (is_there xs) k from)
            → Walks exc act at many room xs guards (behind_label f (Some k))
            → ((o : ℕ) → from ≤ o
            → G o ≡ given_from at act xs ns from (behind_label f (Some k)) o)
            → Lies (is_there (Label l ∷ xs)) k from
        passed l None k meets xs ns from guards rest u b =
            let r = rest k u b in
            record {
              frame = r.frame;
              has = r.has;
              into_ = r.into_;
              same = λ e. absurd (not_begun l xs e);
            }
        passed l (Some f) k meets xs ns from guards rest u b =
            let r = rest f u b in
            record {
              frame = r.frame;
              has = r.has;
              into_ = frame-then exc k f r.frame meets r.into_;
              same = λ e. absurd (not_begun l xs e);
            }

    -- whether an instruction stands behind a label at once
    abbrev pub catches : Role → Bool
    catches Plain = false
    catches (Opens to locals) = false
    catches Closes = false
    catches Catches = true

    caught_begins : (r : Role) (l : ℕ) (xs : List Item) (guards : List Guard)
        → Plays r l xs guards → catches r ≡ true → is_there xs ≡ true
    caught_begins Plain l xs guards p c = absurd (cc c)
    caught_begins (Opens to locals) l xs guards p c = absurd (cc c)
    caught_begins Closes l xs guards p c = absurd (cc c)
    caught_begins Catches l xs guards p c = p

    moved : (exact : Bool) (k : KFrame) (a b : ℕ) → a ≡ b → Lies exact k a → Lies exact k b
    moved exact k a b same h = subst (λ (o : ℕ). Lies exact k o) same h

    -- what lies at a label to which branches go
    pub at_label : (l : ℕ) (f : KFrame) → (at l).frame ≡ Some f → (xs : List Item)
        (ns : List ℕ) (from : ℕ) (guards : List Guard) (m : Option KFrame)
        → length xs ≡ length ns → AllZip (λ x n. IsTrue (is_instruction x) → 1 ≤ size x n) xs ns
        → Walk xs guards m → Agrees xs ns from m → has_label l xs ≡ true
        → Lies (catches (at l).role) f (from + offset_of xs ns l)
    at_label l f there [] ns from guards m long some w agrees has = absurd (cc has)
    at_label l f there (x ∷ xs) [] from guards m long some w agrees has =
        absurd (omega (arith, long))
    at_label l f there (x ∷ xs) (n ∷ ns) from guards m long some w agrees has =
        split
        (λ y. (IsTrue (is_instruction y) → 1 ≤ size y n)
        → Walks exc act at many room (y ∷ xs) guards m
        → ((o : ℕ) → from ≤ o → G o ≡ given_from at act (y ∷ xs) (n ∷ ns) from m o)
        → has_label l (y ∷ xs) ≡ true
        → Lies (catches (at l).role) f (from + offset_of (y ∷ xs) (n ∷ ns) l))
        (λ j some' v a h. let parts = label_walks j xs guards m v in
        here j (j == l) refl parts a h
        (λ h'. at_label l f there xs ns from (opened (at j).role guards)
        (behind_label (at j).frame m) (omega (arith, long)) some.1 parts.2 a h'))
        (λ y is some' v a h. before y is m (some' is) v a
        (λ u b. at_label l f there xs ns (from + size y n) guards _ (omega (arith, long)) some.1 u b
        (subst (λ (b : Bool). (b || has_label l xs) ≡ true) (unlabelled l y is) h)))
        x some.0 w agrees has
      where
        here : (j : ℕ) (b : Bool) → (j == l) ≡ b
            → Meets exc act at many room m (at j).frame × Plays (at j).role j xs guards
            × Walks exc act at many room xs (opened (at j).role guards)
            (behind_label (at j).frame m)
            → ((o : ℕ) → from ≤ o → G o ≡ given_from at act (Label j ∷ xs) (n ∷ ns) from m o)
            → has_label l (Label j ∷ xs) ≡ true
            → (has_label l xs ≡ true → Lies (catches (at l).role) f (from + offset_of xs ns l))
            → Lies (catches (at l).role) f (from + offset_of (Label j ∷ xs) (n ∷ ns) l)
        here j true is parts a h later =
            let same : j ≡ l = eqb-true j l is in
            let r = arrives xs ns from (opened (at j).role guards) f (omega (arith, long))
            (subst (λ (g : Option KFrame). Walks exc act at many room xs (opened (at j).role guards)
            (behind_label g m)) (ap (λ (z : ℕ). (at z).frame) same ∙ there) parts.2)
            (λ o le. a o le ∙ ap (λ (g : Option KFrame).
            given_from at act xs ns from (behind_label g m) o)
            (ap (λ (z : ℕ). (at z).frame) same ∙ there)) in
            moved (catches (at l).role) f from (from + offset_of (Label j ∷ xs) (n ∷ ns) l)
            (let e : offset_of (Label j ∷ xs) (n ∷ ns) l ≡ 0 =
            ap (λ (b : Bool). if b then 0 else size (Label j) n + offset_of xs ns l) is in
            omega (arith, e))
            (record {
              frame = r.frame;
              has = r.has;
              into_ = r.into_;
              same = λ c. r.same (caught_begins (at j).role j xs guards parts.1
                  (ap (λ (z : ℕ). catches (at z).role) same ∙ c));
            })
        here j false is parts a h later =
            moved (catches (at l).role) f (from + offset_of xs ns l)
            (from + offset_of (Label j ∷ xs) (n ∷ ns) l)
            (let e : offset_of (Label j ∷ xs) (n ∷ ns) l ≡ 0 + offset_of xs ns l =
            ap (λ (b : Bool). if b then 0 else size (Label j) n + offset_of xs ns l) is in
            omega (arith, e))
            (later (subst (λ (b : Bool). (b || has_label l xs) ≡ true) is h))

        before : (y : Item) → IsTrue (is_instruction y) → (m : Option KFrame) → 1 ≤ size y n
            → Walks exc act at many room (y ∷ xs) guards m
            → ((o : ℕ) → from ≤ o → G o ≡ given_from at act (y ∷ xs) (n ∷ ns) from m o)
            → ((u : Walks exc act at many room xs guards (behind_act (act y) m))
            → ((o : ℕ) → from + size y n ≤ o
            → G o ≡ given_from at act xs ns (from + size y n) (behind_act (act y) m) o)
            → Lies (catches (at l).role) f (from + size y n + offset_of xs ns l))
            → Lies (catches (at l).role) f (from + offset_of (y ∷ xs) (n ∷ ns) l)
        before y is None some' v a later = absurd (walks_none y is xs guards v)
        before y is (Some k) some' v a later =
            moved (catches (at l).role) f (from + size y n + offset_of xs ns l)
            (from + offset_of (y ∷ xs) (n ∷ ns) l)
            (let e = offset_step y is xs n ns l in omega (arith, e))
            (later (walks_does y is xs guards k v).1
            (agrees_next y is xs n ns from (Some k) some' a))
